-- Two spans are one text when they are as long and have a separator or the same byte at each place. Assumes nothing.
use Rattle.std.proofs.Common.{◌≡◌, ℕ, false, List, [], ◌∷◌, length, refl, arith}
use Rattle.std.specs.Prelude.{◌==◌, ◌≢◌}
use Rattle.std.specs.List.{zip, list_all}
use Rattle.std.specs.Str.{bytes_eq}
use Rattle.std.proofs.lemmas.Grind.{common_steps}
use Rattle.std.specs.Prelude.{Option, Some, None}
use Rattle.std.specs.Option.{option_map}
use Rattle.std.specs.Borrow.{Bor}
use Rattle.words.specs.Joined.{as_space, spaces, unwords}
use Rattle.words.specs.Words.{ahead}
use Rattle.words.proofs.Bytes.{spaces-words}

pub all_same : (a b : List ℕ) → length a ≡ length b → list_all (λ p. as_space p.0 == as_space p.1) (zip a b) ≡ bytes_eq (spaces a) (spaces b)
all_same [] [] e = refl
all_same [] (y ∷ ys) e = absurd (omega arith)
all_same (x ∷ xs) [] e = absurd (omega arith)
all_same (x ∷ xs) (y ∷ ys) e = grind (arith, common_steps, all_same xs ys (omega arith))

pub other_length : (a b : List ℕ) → (length a ≢ length b) → bytes_eq (spaces a) (spaces b) ≡ false
other_length [] [] e = absurd (e refl)
other_length [] (y ∷ ys) e = refl
other_length (x ∷ xs) [] e = refl
other_length (x ∷ xs) (y ∷ ys) e = grind (arith, common_steps, other_length xs ys (λ p. e (omega arith)))

-- a text that may be missing: then it is the empty one
abbrev pub text_of : Option (List ℕ) → List ℕ
text_of None = []
text_of (Some t) = t

-- what is left of a line, as a text: the words ahead joined
pub text_left : (left : Option (Bor (List ℕ))) → spaces (text_of (option_map (λ x. x.now) left)) ≡ unwords (ahead left)
text_left None = refl
text_left (Some r) = spaces-words r.now
