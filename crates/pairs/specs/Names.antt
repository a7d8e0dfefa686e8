-- The list of pairs on a line: all of one form, all types or all names and types. Assumes nothing.
use Rattle.std.specs.Prelude.{ℕ, zero, suc, ◌+◌, ◌-◌, true, List, [], ◌∷◌, length, Some, None, Ok, Err, Result}
use Rattle.std.specs.Result.{result_map_both}
use Rattle.pairs.specs.declared.types.Form.{Form}
use Rattle.pairs.specs.declared.types.NameForm.{NameForm}
use Rattle.pairs.specs.declared.types.NameForm.TheVariants.{TypeOnly, NameAndType}
use Rattle.pairs.specs.declared.types.NamesText.{NamesText}
use Rattle.pairs.specs.declared.types.PairRefusal.{PairRefusal}
use Rattle.pairs.specs.Forms.{words_in}
use Rattle.pairs.specs.Pairs.{PairModel, told, read_pair, sorted}

-- the kind of a list, which the first part of its first pair tells
abbrev pub list_kind : List ℕ → NameForm
list_kind [] = TypeOnly
list_kind (b ∷ bs) = NameAndType

-- a pair that was read, its parts sorted: what is wrong with them is told at its first word
abbrev pub sorted_at : NameForm → ℕ → Result PairModel PairRefusal → Result (List ℕ × List ℕ) PairRefusal
sorted_at n from (Err e) = Err e
sorted_at n from (Ok p) = result_map_both (λ t. t) (λ e. told e from) (sorted n p.texts)

-- the pair that comes next in a list of kind n whose first pair has the form f
abbrev pub entry_read : Form → NameForm → ℕ → List (List ℕ) → Result (List ℕ × List ℕ) PairRefusal
entry_read f n from ws = sorted_at n from (read_pair (Some f) true from ws)

-- the first fault counts
abbrev pub onto : Result (List ℕ × List ℕ) PairRefusal → Result (List (List ℕ × List ℕ)) PairRefusal → Result (List (List ℕ × List ℕ)) PairRefusal
onto (Err e) r = Err e
onto (Ok p) (Err e) = Err e
onto (Ok p) (Ok ps) = Ok (p ∷ ps)

-- all pairs, left to right; k words still belong to the pair before
abbrev pub entries_read : Form → NameForm → ℕ → ℕ → List (List ℕ) → Result (List (List ℕ × List ℕ)) PairRefusal
entries_read f n from k [] = Ok []
entries_read f n from zero (w ∷ ws) = onto (entry_read f n from (w ∷ ws)) (entries_read f n (from + 1) (words_in f - 1) ws)
entries_read f n from (suc k) (w ∷ ws) = entries_read f n (from + 1) k ws

-- types, each beside an empty text, or names and their types
pub record NamesModel : Type 0 where
  pub sort : NameForm
  pub entries : List (List ℕ × List ℕ)

abbrev pub listed : Form → NameForm → ℕ → List (List ℕ) → Result NamesModel PairRefusal
listed f n from ws = result_map_both (λ ps. record { sort = n; entries = ps }) (λ e. e) (entries_read f n from 0 ws)

abbrev pub of_first : ℕ → List (List ℕ) → Result PairModel PairRefusal → Result NamesModel PairRefusal
of_first from ws (Err e) = Err e
of_first from ws (Ok p) = listed p.shape (list_kind p.texts.0) from ws

-- the first pair tells the form and the kind by which all pairs, itself among them, are read
abbrev pub names_read : ℕ → List (List ℕ) → Result NamesModel PairRefusal
names_read from ws = of_first from ws (read_pair None true from ws)

-- what the code tells of a list
abbrev pub names_said : NamesModel → NamesText
names_said m = record { form = m.sort; pairs = length m.entries }
