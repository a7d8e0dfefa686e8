-- Pairs and lists that are written are read back. Assumes nothing.
use Rattle.std.proofs.Common.{◌≡◌, ℕ, ◌+◌, Bool, true, false, ◌&&◌, eqb, List, [], ◌∷◌, ◌++◌, Some, None, Ok, Option, refl, append_assoc, arith}
use Rattle.std.specs.List.{AllByRecursion}
use Rattle.std.specs.Str.{bytes_eq}
use Rattle.std.proofs.ByRecursion.{All-append}
use Rattle.words.specs.Words.{separates, split_by, words_of}
use Rattle.pairs.specs.declared.types.Form.{Form}
use Rattle.pairs.specs.declared.types.Form.TheVariants.{OneWord, TwoWords, Apart}
use Rattle.pairs.specs.declared.types.NameForm.{NameForm}
use Rattle.pairs.specs.declared.types.NameForm.TheVariants.{TypeOnly, NameAndType}
use Rattle.pairs.specs.Forms.{words_in, differs}
use Rattle.pairs.specs.Texts.{end_off, closes, bars_off, semicolon}
use Rattle.pairs.specs.Pairs.{form_ahead, parts_ahead, read_pair, sorted}
use Rattle.pairs.specs.Names.{entry_read, entries_read}
use Rattle.pairs.specs.Law.{pair_text, Lacks, FitsForm, PairsBack, barred, raw_first, raw_second, Nameless, Entry, list_words, ListsBack}
use Rattle.pairs.proofs.Ends.{end_push}
use Rattle.pairs.proofs.Entries.{entries_more}

-- ---- pieces

lacks_both : (p : ℕ → Bool) (x y : List ℕ) → Lacks p x → Lacks p y → Lacks p (x ++ y)
lacks_both p x y h k = All-append (λ b. p b ≡ false) x y h k

split_one : (p : ℕ → Bool) (x : List ℕ) → Lacks p x → split_by p x ≡ x ∷ []
split_one p [] h = refl
split_one p (b ∷ x) h = grind (arith, split_one p x h.1)

split_more : (p : ℕ → Bool) (s : ℕ) (x y : List ℕ) → p s ≡ true → Lacks p x → split_by p (x ++ s ∷ y) ≡ x ∷ split_by p y
split_more p s [] y e h = grind arith
split_more p s (b ∷ x) y e h = grind (arith, split_more p s x y e h.1)

-- ---- the words of a pair

abbrev pair_words : Form → List ℕ → List ℕ → List (List ℕ)
pair_words OneWord a b = pair_text OneWord a b ∷ []
pair_words TwoWords a b = (40 ∷ a) ∷ (b ++ 41 ∷ []) ∷ []
pair_words Apart a b = (40 ∷ a) ∷ (59 ∷ []) ∷ (b ++ 41 ∷ []) ∷ []

closing_lacks : (b : List ℕ) → Lacks separates b → Lacks separates (b ++ 41 ∷ [])
closing_lacks b h = lacks_both separates b (41 ∷ []) h (refl, tt)

words_written : (g : Form) (a b : List ℕ) → Lacks separates a → Lacks separates b → words_of (pair_text g a b) ≡ pair_words g a b
words_written OneWord a b h k = split_one separates (pair_text OneWord a b) (refl, lacks_both separates a (59 ∷ (b ++ 41 ∷ [])) h (refl, closing_lacks b k))
words_written TwoWords a b h k = grind (arith, split_more separates 32 (40 ∷ a) (b ++ 41 ∷ []) refl (refl, h), split_one separates (b ++ 41 ∷ []) (closing_lacks b k))
words_written Apart a b h k = grind (arith, split_more separates 32 (40 ∷ a) (59 ∷ 32 ∷ (b ++ 41 ∷ [])) refl (refl, h), split_more separates 32 (59 ∷ []) (b ++ 41 ∷ []) refl (refl, tt), split_one separates (b ++ 41 ∷ []) (closing_lacks b k))

-- ---- its form

opened_closes : (a : List ℕ) → closes a ≡ false → closes (40 ∷ a) ≡ false
opened_closes [] h = refl
opened_closes (b ∷ a) h = grind arith

no_semicolon : (b : List ℕ) → bytes_eq (b ++ 41 ∷ []) (59 ∷ []) ≡ false
no_semicolon [] = refl
no_semicolon (c ∷ []) = grind arith
no_semicolon (c ∷ d ∷ b) = grind arith

end_closed : (s : ℕ) (b : List ℕ) → eqb s s ≡ true → end_off s (b ++ s ∷ []) ≡ Some b
end_closed s b e = grind (arith, end_push s b s)

one_closes : (a b : List ℕ) → closes (pair_text OneWord a b) ≡ true
one_closes a b = grind (arith, append_assoc, end_closed 41 (40 ∷ (a ++ 59 ∷ b)))

form_written : (g : Form) (a b : List ℕ) (ws : List (List ℕ)) → FitsForm g a b → Ok g ≡ form_ahead (pair_words g a b ++ ws)
form_written OneWord a b ws h = grind (arith, one_closes a b)
form_written TwoWords a b ws h = grind (arith, opened_closes a h, no_semicolon b)
form_written Apart a b ws h = grind (arith, opened_closes a h)

-- ---- its parts

parts_written : (g : Form) (a b : List ℕ) (ws : List (List ℕ)) → FitsForm g a b → Some (40 ∷ a, b ++ 41 ∷ []) ≡ parts_ahead g (pair_words g a b ++ ws)
parts_written OneWord a b ws h = grind (arith, split_more semicolon 59 (40 ∷ a) (b ++ 41 ∷ []) refl (refl, h.0), split_one semicolon (b ++ 41 ∷ []) (lacks_both semicolon b (41 ∷ []) h.1 (refl, tt)))
parts_written TwoWords a b ws h = refl
parts_written Apart a b ws h = refl

words_back : (f : Option Form) (equal : Bool) (g : Form) (a b : List ℕ) (from : ℕ) (ws : List (List ℕ)) → (equal && differs f g) ≡ false → FitsForm g a b → read_pair f equal from (pair_words g a b ++ ws) ≡ Ok (record { texts = (a, b); shape = g })
words_back f equal g a b from ws e h = grind (arith, form_written g a b ws h, parts_written g a b ws h, end_closed 41 b)

pub pairs_back : PairsBack
pairs_back = record { pair = λ f equal g a b from ws e h. grind (arith, words_written g a b h.first h.second, words_back f equal g a b from ws e h.fits) }

-- ---- lists

bars_back : (a : List ℕ) → bars_off (barred a) ≡ Some a
bars_back a = grind (arith, end_closed 124 a)

sorted_back : (n : NameForm) (p : List ℕ × List ℕ) → Nameless n p → sorted n (raw_first n p, raw_second n p) ≡ Ok p
sorted_back TypeOnly p h = grind arith
sorted_back NameAndType p h = grind (arith, bars_back)

entry_back : (g : Form) (n : NameForm) (p : List ℕ × List ℕ) (from : ℕ) (ws : List (List ℕ)) → Entry g n p → entry_read g n from (pair_words g (raw_first n p) (raw_second n p) ++ ws) ≡ Ok p
entry_back g n p from ws h = grind (arith, words_back (Some g) true g (raw_first n p) (raw_second n p) from ws (grind arith) h.writable.fits, sorted_back n p h.nameless)

entries_back : (g : Form) (n : NameForm) (ps : List (List ℕ × List ℕ)) (from : ℕ) → AllByRecursion (Entry g n) ps → entries_read g n from 0 (list_words g n ps) ≡ Ok ps
entries_back g n [] from h = refl
entries_back g n (p ∷ ps) from h =
    let a = raw_first n p in
    let b = raw_second n p in
    let ws = list_words g n ps in
    grind (arith, words_written g a b h.0.writable.first h.0.writable.second, entries_more g n from (pair_words g a b ++ ws) (grind arith), entry_back g n p from ws h.0, entries_back g n ps (from + words_in g) h.1)

pub lists_back : ListsBack
lists_back = record {
  list = λ g n p ps from h. grind (arith, pairs_back.pair None true g (raw_first n p) (raw_second n p) from (list_words g n ps) refl h.0.writable, entries_back g n (p ∷ ps) from h);
}
