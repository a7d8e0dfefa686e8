-- What is written as pairs is read back. Assumes nothing.
use Rattle.std.specs.Prelude.{◌≡◌, ℕ, Bool, false, ◌&&◌, List, [], ◌∷◌, ◌++◌, Ok, Option}
use Rattle.std.specs.List.{AllByRecursion}
use Rattle.words.specs.Words.{separates, words_of}
use Rattle.pairs.specs.declared.types.Form.{Form}
use Rattle.pairs.specs.declared.types.Form.TheVariants.{OneWord, TwoWords, Apart}
use Rattle.pairs.specs.declared.types.NameForm.{NameForm}
use Rattle.pairs.specs.declared.types.NameForm.TheVariants.{TypeOnly, NameAndType}
use Rattle.pairs.specs.Forms.{differs}
use Rattle.pairs.specs.Texts.{closes, semicolon}
use Rattle.pairs.specs.Pairs.{read_pair}
use Rattle.pairs.specs.Names.{names_read}

-- two texts written as a pair: `(a;b)`, `(a b)` or `(a ; b)`
abbrev pub pair_text : Form → List ℕ → List ℕ → List ℕ
pair_text OneWord a b = 40 ∷ (a ++ 59 ∷ (b ++ 41 ∷ []))
pair_text TwoWords a b = 40 ∷ (a ++ 32 ∷ (b ++ 41 ∷ []))
pair_text Apart a b = 40 ∷ (a ++ 32 ∷ 59 ∷ 32 ∷ (b ++ 41 ∷ []))

-- no byte of a text passes a test
abbrev pub Lacks : (ℕ → Bool) → List ℕ → Type 0
Lacks p t = AllByRecursion (λ b. p b ≡ false) t

-- in one word neither text has a `;`; in two words and apart the first text does not end with `)`
abbrev pub FitsForm : Form → List ℕ → List ℕ → Type 0
FitsForm OneWord a b = Lacks semicolon a × Lacks semicolon b
FitsForm TwoWords a b = closes a ≡ false
FitsForm Apart a b = closes a ≡ false

-- two texts that can be written as a pair of a form: neither has a byte that separates words
pub record Writable (g : Form) (a b : List ℕ) : Type 0 where
  pub first : Lacks separates a
  pub second : Lacks separates b
  pub fits : FitsForm g a b

-- a pair is read back from its text, whatever words stand behind it: both texts and the form
pub record PairsBack : Type 0 where
  pub pair : (f : Option Form) (equal : Bool) (g : Form) (a b : List ℕ) (from : ℕ) (ws : List (List ℕ)) → (equal && differs f g) ≡ false → Writable g a b → read_pair f equal from (words_of (pair_text g a b) ++ ws) ≡ Ok (record { texts = (a, b); shape = g })

-- ---- whole lists

abbrev pub barred : List ℕ → List ℕ
barred t = 124 ∷ (t ++ 124 ∷ [])

-- the two texts that are written for an entry: a type beside nothing, or name and type between bars
abbrev pub raw_first : NameForm → List ℕ × List ℕ → List ℕ
raw_first TypeOnly p = []
raw_first NameAndType p = barred p.0

abbrev pub raw_second : NameForm → List ℕ × List ℕ → List ℕ
raw_second TypeOnly p = p.1
raw_second NameAndType p = barred p.1

-- in a list of types an entry has no name
abbrev pub Nameless : NameForm → List ℕ × List ℕ → Type 0
Nameless TypeOnly p = p.0 ≡ []
Nameless NameAndType p = Unit {0}

pub record Entry (g : Form) (n : NameForm) (p : List ℕ × List ℕ) : Type 0 where
  pub nameless : Nameless n p
  pub writable : Writable g (raw_first n p) (raw_second n p)

-- the words of a list
abbrev pub list_words : Form → NameForm → List (List ℕ × List ℕ) → List (List ℕ)
list_words g n [] = []
list_words g n (p ∷ ps) = words_of (pair_text g (raw_first n p) (raw_second n p)) ++ list_words g n ps

-- a list of at least one entry, written in one form, is read back: its kind, and every entry in its place
pub record ListsBack : Type 0 where
  pub list : (g : Form) (n : NameForm) (p : List ℕ × List ℕ) (ps : List (List ℕ × List ℕ)) (from : ℕ) → AllByRecursion (Entry g n) (p ∷ ps) → names_read from (list_words g n (p ∷ ps)) ≡ Ok (record { sort = n; entries = p ∷ ps })
