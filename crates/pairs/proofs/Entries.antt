-- The entries of a list, one by one. Assumes nothing.
use Rattle.std.proofs.Common.{◌≡◌, ℕ, zero, suc, ◌+◌, ◌-◌, ◌<◌, true, false, List, [], ◌∷◌, length, drop, is_some, Some, None, Ok, Err, Option, Result, refl, arith, Bor}
use Rattle.std.specs.Option as options
use Rattle.std.specs.Result.{result_map_both}
use Rattle.words.specs.Words.{ahead}
use Rattle.words.proofs.Cut.{words_count}
use Rattle.pairs.specs.declared.types.Form.{Form}
use Rattle.pairs.specs.declared.types.NameForm.{NameForm}
use Rattle.pairs.specs.declared.types.PairRefusal.{PairRefusal}
use Rattle.pairs.specs.Forms.{words_in}
use Rattle.pairs.specs.declared.types.NamesText.{NamesText}
use Rattle.pairs.specs.Names.{NamesModel, entry_read, entries_read, onto, names_said}

abbrev Pairs : Type 0
Pairs = List (List ℕ × List ℕ)

-- ---- what a cursor has left

pub some_ahead : (o l : Option (Bor (List ℕ))) → options.option_map (λ x. x.now) o ≡ options.option_map (λ x. x.now) l → is_some o ≡ true → 0 < length (ahead l)
some_ahead o None e h = grind arith
some_ahead o (Some r) e h = (words_count r.now).0

pub none_ahead : (o l : Option (Bor (List ℕ))) → options.option_map (λ x. x.now) o ≡ options.option_map (λ x. x.now) l → is_some o ≡ false → ahead l ≡ []
none_ahead o None e h = refl
none_ahead o (Some r) e h = grind arith

pub words_some : (f : Form) → 0 < words_in f
words_some f = grind arith

-- ---- one entry more

skipped : (f : Form) (n : NameForm) (from k : ℕ) (ws : List (List ℕ)) → entries_read f n from k ws ≡ entries_read f n (from + k) 0 (drop k ws)
skipped f n from zero ws = grind arith
skipped f n from (suc k) [] = refl
skipped f n from (suc k) (w ∷ ws) = grind (arith, skipped f n (from + 1) k ws)

pub entries_more : (f : Form) (n : NameForm) (from : ℕ) (ws : List (List ℕ)) → 0 < length ws → entries_read f n from 0 ws ≡ onto (entry_read f n from ws) (entries_read f n (from + words_in f) 0 (drop (words_in f) ws))
entries_more f n from [] h = absurd (omega arith)
entries_more f n from (w ∷ ws) h = grind (arith, skipped f n (from + 1) (words_in f - 1) ws)

-- ---- the entries counted

-- k entries, and those of a list
abbrev pub counted : ℕ → Result Pairs PairRefusal → Result ℕ PairRefusal
counted k r = result_map_both (λ ps. k + length ps) (λ e. e) r

pub counted_onto : (k : ℕ) (p : List ℕ × List ℕ) (r : Result Pairs PairRefusal) → counted k (onto (Ok p) r) ≡ counted (k + 1) r
counted_onto k p (Err e) = refl
counted_onto k p (Ok ps) = grind arith

-- ---- the whole list

abbrev names_text : NameForm → ℕ → NamesText
names_text n k = record { form = n; pairs = k }

abbrev names : Result NamesModel PairRefusal → Result NamesText PairRefusal
names r = result_map_both names_said (λ e. e) r

pub names_counted : (n : NameForm) (r : Result Pairs PairRefusal) → result_map_both (names_text n) (λ e. e) (counted 0 r) ≡ names (result_map_both (λ ps. record { sort = n; entries = ps }) (λ e. e) r)
names_counted n (Err e) = refl
names_counted n (Ok ps) = grind arith

-- what a reader of a list goes by
pub ruleset list_steps = (some_ahead, none_ahead, words_some, entries_more, counted_onto, names_counted)
