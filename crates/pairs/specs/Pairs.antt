-- The pairs of variable names on a line. `ws` are the words that are left of it, `from` is the number of the first of them, so the
-- line has from + length ws words. What is refused is told in the order of the checks. Assumes nothing.
use Rattle.std.specs.Prelude.{ℕ, ◌+◌, Bool, cond, ◌&&◌, List, [], ◌∷◌, length, Some, None, Ok, Err, Option, Result}
use Rattle.std.specs.Option.{option_zip, ok_or}
use Rattle.std.specs.Str.{bytes_eq}
use Rattle.words.specs.Words.{split_by, rest_of}
use Rattle.pairs.specs.declared.types.Form.{Form}
use Rattle.pairs.specs.declared.types.Form.TheVariants.{OneWord, TwoWords, Apart}
use Rattle.pairs.specs.declared.types.NameForm.{NameForm}
use Rattle.pairs.specs.declared.types.NameForm.TheVariants.{TypeOnly, NameAndType}
use Rattle.pairs.specs.declared.types.Pair.{Pair}
use Rattle.pairs.specs.declared.types.PairFault.{PairFault}
use Rattle.pairs.specs.declared.types.PairFault.TheVariants.{Missing, NoPair, Bracket, TwoForms, TypesThenName, BarMissing}
use Rattle.pairs.specs.declared.types.PairRefusal.{PairRefusal}
use Rattle.pairs.specs.Forms.{words_in, differs}
use Rattle.pairs.specs.Texts.{front_off, end_off, closes, bars_off, semicolon, two_of, parts_said}

-- a fault, told at a word
abbrev pub told : PairFault → ℕ → PairRefusal
told e n = record { fault = e; word = n }

-- ---- the form of the pair that comes next

-- a first word that does not end with `)` is followed by another part, or by a `;` that stands alone
abbrev pub form_behind : List (List ℕ) → Result Form PairFault
form_behind [] = Err Missing
form_behind (v ∷ vs) = Ok (cond (bytes_eq v (59 ∷ [])) Apart TwoWords)

abbrev pub form_ahead : List (List ℕ) → Result Form PairFault
form_ahead [] = Err NoPair
form_ahead (w ∷ ws) = cond (closes w) (Ok OneWord) (form_behind ws)

-- ---- its two parts, brackets included

-- the first two pieces of one word, two words, or the two words around a `;`
abbrev pub parts_ahead : Form → List (List ℕ) → Option (List ℕ × List ℕ)
parts_ahead g [] = None
parts_ahead OneWord (w ∷ ws) = two_of (split_by semicolon w)
parts_ahead TwoWords (w ∷ ws) = two_of (w ∷ ws)
parts_ahead Apart (w ∷ ws) = two_of (w ∷ rest_of ws)

-- the word told where one of them is missing: a pair of one word tells its own, else the number of words on the line is told
abbrev pub missing_at : Form → ℕ → List (List ℕ) → ℕ
missing_at OneWord from ws = from
missing_at TwoWords from ws = from + length ws
missing_at Apart from ws = from + length ws

-- ---- the pair

-- two texts, and the form in which they were written
pub record PairModel : Type 0 where
  pub texts : List ℕ × List ℕ
  pub shape : Form

abbrev pub unbracketed : Form → ℕ → Option (List ℕ × List ℕ) → Result PairModel PairRefusal
unbracketed g from None = Err (told Bracket from)
unbracketed g from (Some p) = Ok (record { texts = p; shape = g })

abbrev pub of_parts : Form → ℕ → List (List ℕ) → Option (List ℕ × List ℕ) → Result PairModel PairRefusal
of_parts g from ws None = Err (told Missing (missing_at g from ws))
of_parts g from ws (Some p) = unbracketed g from (option_zip (front_off 40 p.0) (end_off 41 p.1))

abbrev pub of_form : Option Form → Bool → ℕ → List (List ℕ) → Result Form PairFault → Result PairModel PairRefusal
of_form f equal from ws (Err e) = Err (told e (from + length ws))
of_form f equal from ws (Ok g) = cond (equal && differs f g) (Err (told TwoForms from)) (of_parts g from ws (parts_ahead g ws))

-- the pair that comes next; f is the form of the first pair, where it is known, and with `equal` this one must have it too
abbrev pub read_pair : Option Form → Bool → ℕ → List (List ℕ) → Result PairModel PairRefusal
read_pair f equal from ws = of_form f equal from ws (form_ahead ws)

-- ---- types or names

-- in a list of types no pair has a first part
abbrev pub typed : List ℕ → List ℕ → Result (List ℕ × List ℕ) PairFault
typed [] t = Ok ([], t)
typed (b ∷ bs) t = Err TypesThenName

-- the parts of a pair as they are kept: a type as written, or a name and a type without their bars
abbrev pub sorted : NameForm → List ℕ × List ℕ → Result (List ℕ × List ℕ) PairFault
sorted TypeOnly p = typed p.0 p.1
sorted NameAndType p = ok_or (option_zip (bars_off p.0) (bars_off p.1)) BarMissing

-- ---- what the code answers, its parts as texts

abbrev pub pair_said : Pair → PairModel
pair_said p = record { texts = parts_said p.parts; shape = p.form }

abbrev pub pair_answer : Result Pair PairRefusal → Result PairModel PairRefusal
pair_answer (Ok p) = Ok (pair_said p)
pair_answer (Err e) = Err e

-- how many words a pair that was read took: a fault takes none
abbrev pub taken_by : Result Pair PairRefusal → ℕ
taken_by (Ok p) = words_in p.form
taken_by (Err e) = 0
