use Rattle.std.proofs.Common.{◌≡◌, ℕ, ◌+◌, ◌≤◌, List, [], ◌∷◌, length, Some, sym, refl, ap, ◌∙◌, subst, arith, rules}
use Rattle.words.specs.Words.{ahead}
use Rattle.words.specs.Joined.{unwords}
use Rattle.words.specs.Laid.{laid}
use Rattle.names.specs.AppNames.{NameRead, named, name_read, name_long, scratch_after, or_else, joined_name, barred}
use Rattle.names.specs.Writing.{tail}
use Rattle.words.proofs.Cut.{from_first, none_first}
use Rattle.names.proofs.Layers.{no_name, name_found, name_size, Written, written_more, whole, tail-long}
use Rattle.names.proofs.app.parse_app_name.Goals as goal
use Rattle.names.proofs.app.parse_app_name.Goals.{In_ok-first, In-Some, After-join_rest}

abbrev name_of : List ℕ → List (List ℕ) → NameRead
name_of w l = record { first = w; joined = name_long (joined_name w l) }

abbrev name_length : List ℕ → ℕ → NameRead
name_length w n = record { first = w; joined = Some n }

-- the first word, and those behind it
first_word : (c : In_ok-first) → ahead c.args.words.now.left ≡ c.in_ok-first.first.now ∷ ahead c.next.new.self.left
first_word c = from_first _ _ _ c.in_ok-first.ensures.steps.word c.in_ok-first.ensures.steps.rest

second_word : (c : In-Some) → named (ahead c.next.new.self.left) ≡ c.in-Some.second.now ∷ named (ahead c.next_of_name.new.words.left)
second_word c = from_first _ _ _ c.in-Some.ensures.word c.in-Some.ensures.rest

-- all that is written fits in 64 bits
size : (c : In-Some) → c.args.words.now.number + (length c.in_ok-first.first.now + (1 + (length c.in-Some.second.now + length (tail (named (ahead c.next_of_name.new.words.left)))))) ≤ 9223372036854775808
size c =
    let w = c.in_ok-first.first.now in
    let v = c.in-Some.second.now in
    let ms = named (ahead c.next_of_name.new.words.left) in
    let ws = ahead c.next.new.self.left in
    let long = ap (λ l. length (tail l)) (second_word c) ∙ tail-long v ms in
    let e : ahead c.args.words.now.left ≡ w ∷ ws = from_first _ _ _ c.in_ok-first.ensures.steps.word c.in_ok-first.ensures.steps.rest in
    omega (arith, c.args.words.now.fits, name_size c.args.words.now.left w ws e)

pub put-requires-4 : goal.put-requires-4
put-requires-4 c = omega (arith, size (goal.at.put-requires-4 c).In-Some)

pub join_rest-requires : goal.join_rest-requires
join_rest-requires c = omega (arith, size (goal.at.join_rest-requires c).In-Some)

pub returns-in_default-clause-number : goal.returns-in_default-clause-number
returns-in_default-clause-number c =
    let e = first_word (goal.at.returns-in_default-clause-number c).In_ok-first in
    let told = c.in_default.ensures in
    let ws = ahead c.next.new.self.left in
    omega (arith, told.number, c.in_ok-first.ensures.steps.number, ap length (told.ended ∙ no_name ws (none_first (named ws) told.word)), ap length e)

-- the whole name is written
all : (c : After-join_rest) → Written c.args.scratch.now (barred (unwords (c.in_ok-first.first.now ∷ c.in-Some.second.now ∷ named (ahead c.next_of_name.new.words.left)))) c.join_rest.new.out.end c.join_rest.new.out.scratch.now
all c =
    let w = c.in_ok-first.first.now in
    let v = c.in-Some.second.now in
    let ms = named (ahead c.next_of_name.new.words.left) in
    let start : Written c.args.scratch.now [] 0 c.args.scratch.now = record { end = refl; text = refl } in
    let bar = written_more start (124 ∷ []) _ _ c.put.ensures.end c.put.ensures.written in
    let one = written_more bar w _ _ c.put-2.ensures.end c.put-2.ensures.written in
    let space = written_more one (32 ∷ []) _ _ c.put-3.ensures.end c.put-3.ensures.written in
    let two = written_more space v _ _ c.put-4.ensures.end c.put-4.ensures.written in
    subst (λ xs. Written c.args.scratch.now xs c.join_rest.new.out.end c.join_rest.new.out.scratch.now) (whole w v ms) (written_more two (tail ms) _ _ c.join_rest.ensures.end c.join_rest.ensures.written)

pub returns-clause-value : goal.returns-clause-value
returns-clause-value c =
    let i = goal.at.returns-clause-value c in
    let w = c.in_ok-first.first.now in
    ap (λ n. Some (name_length w n)) (all i.After-join_rest).end ∙ sym (ap name_read (first_word i.In_ok-first) ∙ ap (λ l. Some (name_of w l)) (second_word i.In-Some))

pub returns-clause-written : goal.returns-clause-written
returns-clause-written c =
    let i = goal.at.returns-clause-written c in
    let m = c.args.scratch.now in
    let last : c.join_rest.new.out.scratch.now ≡ scratch_after (ahead c.args.words.now.left) m =
    (all i.After-join_rest).text ∙ sym (ap (λ l. scratch_after l m) (first_word i.In_ok-first) ∙ ap (λ l. laid (or_else [] (joined_name c.in_ok-first.first.now l)) m) (second_word i.In-Some))
    in
    search rules

pub returns-clause-found : goal.returns-clause-found
returns-clause-found c = name_found (ahead c.args.words.now.left) c.args.scratch.now
