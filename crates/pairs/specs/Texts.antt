-- Signs at the ends of a text, and the pieces of a word. Assumes nothing.
use Rattle.std.specs.Prelude.{ℕ, Bool, cond, List, [], ◌∷◌, is_some, Some, None, Option, ◌==◌}
use Rattle.std.specs.Borrow.{Bor}
use Rattle.std.specs.Option.{option_map, option_flatten}

-- a text without the sign s at its front: none where it does not begin with it
abbrev pub front_off : ℕ → List ℕ → Option (List ℕ)
front_off s [] = None
front_off s (b ∷ bs) = cond (b == s) (Some bs) None

-- a text without the sign s at its end: none where it does not end with it
abbrev pub end_off : ℕ → List ℕ → Option (List ℕ)
end_off s [] = None
end_off s (b ∷ []) = cond (b == s) (Some []) None
end_off s (b ∷ c ∷ bs) = option_map (λ l. b ∷ l) (end_off s (c ∷ bs))

-- a text ends with `)`
abbrev pub closes : List ℕ → Bool
closes w = is_some (end_off 41 w)

-- a text without a bar at its front and then one at its end: a single bar has no second one
abbrev pub bars_off : List ℕ → Option (List ℕ)
bars_off t = option_flatten (option_map (end_off 124) (front_off 124 t))

abbrev pub semicolon : ℕ → Bool
semicolon b = b == 59

-- the first two of some texts
abbrev pub two_of : List (List ℕ) → Option (List ℕ × List ℕ)
two_of [] = None
two_of (a ∷ []) = None
two_of (a ∷ b ∷ ts) = Some (a, b)

-- two parts of a line, as texts
abbrev pub parts_said : Bor (List ℕ) × Bor (List ℕ) → List ℕ × List ℕ
parts_said p = (p.0.now, p.1.now)
