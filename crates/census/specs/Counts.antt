-- What is counted over the lines of a trace: the lines of each kind, those of no known kind, those too long to be read, and whether
-- word 1 of the lines that name an identifier there reads as one. Assumes nothing.
use Rattle.std.specs.Prelude.{ℕ, ◌+◌, Bool, true, false, cond, not, ◌&&◌, List, [], ◌∷◌, ◌++◌, is_some, Some, None, Ok, Err, Option, Result, ◌==◌, count_by}
use Rattle.ids.specs.declared.id.IdFault.{IdFault}
use Rattle.ids.specs.Ids.{Id, ident}
use Rattle.words.specs.declared.kind.LineKind.{LineKind}
use Rattle.words.specs.declared.kind.LineKind.TheVariants.{ToolVersion, MkQuant, MkVar, MkApp, AttachMeaning, AttachVarNames, Eof, MkLambda, MkProof, AttachEnode, EqExpl, NewMatch, InstDiscovered, Instance, EndOfInstance, DecideAndOr, Decide, Assign, Push, Pop, BeginCheck, QueryDone, ResolveProcess, ResolveLit, Conflict}
use Rattle.words.specs.Words.{words_of, first_of, rest_of, too_long}
use Rattle.words.specs.Kinds.{kind_of, number_of}
use Rattle.census.specs.declared.record.IdCause.{IdCause}
use Rattle.census.specs.declared.record.IdCause.TheVariants.{Missing, Fault}
use Rattle.census.specs.declared.record.BadId.{BadId}
use Rattle.census.specs.declared.record.LineClass.{LineClass}
use Rattle.census.specs.declared.record.LineClass.TheVariants.{TooLong, Unknown, Known}

-- how many lines pass a test
abbrev pub how_many : (List ℕ → Bool) → List (List ℕ) → ℕ
how_many p ls = count_by p ls

abbrev pub by_kind : Option LineKind → LineClass
by_kind None = Unknown
by_kind (Some k) = Known k

abbrev pub kind_word : Option (List ℕ) → Option LineKind
kind_word None = None
kind_word (Some w) = kind_of w

-- what a line is taken for: the bound on its bytes comes first
abbrev pub class_of : List ℕ → LineClass
class_of l = cond (too_long l) TooLong (by_kind (kind_word (first_of (words_of l))))

abbrev pub is_too_long : LineClass → Bool
is_too_long TooLong = true
is_too_long Unknown = false
is_too_long (Known k) = false

abbrev pub is_unknown : LineClass → Bool
is_unknown TooLong = false
is_unknown Unknown = true
is_unknown (Known k) = false

abbrev pub is_known : LineKind → LineClass → Bool
is_known k TooLong = false
is_known k Unknown = false
is_known k (Known j) = number_of k == number_of j

-- word 1 of the `[mk-..]` and `[attach-..]` lines is an identifier
abbrev pub names_id : LineKind → Bool
names_id ToolVersion = false
names_id MkQuant = true
names_id MkVar = true
names_id MkApp = true
names_id AttachMeaning = true
names_id AttachVarNames = true
names_id Eof = false
names_id MkLambda = true
names_id MkProof = true
names_id AttachEnode = true
names_id EqExpl = false
names_id NewMatch = false
names_id InstDiscovered = false
names_id Instance = false
names_id EndOfInstance = false
names_id DecideAndOr = false
names_id Decide = false
names_id Assign = false
names_id Push = false
names_id Pop = false
names_id BeginCheck = false
names_id QueryDone = false
names_id ResolveProcess = false
names_id ResolveLit = false
names_id Conflict = false

-- how word 1 reads
abbrev pub cause_of : Result Id IdFault → Option IdCause
cause_of (Ok i) = None
cause_of (Err f) = Some (Fault f)

abbrev pub word_cause : Option (List ℕ) → Option IdCause
word_cause None = Some Missing
word_cause (Some w) = cause_of (ident w)

abbrev pub asks_id : LineClass → Bool
asks_id TooLong = false
asks_id Unknown = false
asks_id (Known k) = names_id k

-- why word 1 of a line that names an identifier there does not read as one
abbrev pub bad_cause : List ℕ → Option IdCause
bad_cause l = cond (asks_id (class_of l)) (word_cause (first_of (rest_of (words_of l)))) None

abbrev pub has_bad_id : List ℕ → Bool
has_bad_id l = is_some (bad_cause l)

abbrev pub has_good_id : List ℕ → Bool
has_good_id l = asks_id (class_of l) && not (has_bad_id l)

-- the bad ones in order, with the numbers of their lines counted from n
abbrev pub noted : ℕ → Option IdCause → List BadId
noted n None = []
noted n (Some c) = record { line = n; cause = c } ∷ []

abbrev pub bad_ids_from : ℕ → List (List ℕ) → List BadId
bad_ids_from n [] = []
bad_ids_from n (l ∷ ls) = noted n (bad_cause l) ++ bad_ids_from (n + 1) ls
