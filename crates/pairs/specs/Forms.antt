-- The forms of a pair, and the numbers of the faults. Assumes nothing.
use Rattle.std.specs.Prelude.{ℕ, Bool, false, not, Some, None, Option, ◌==◌}
use Rattle.pairs.specs.declared.types.Form.{Form}
use Rattle.pairs.specs.declared.types.Form.TheVariants.{OneWord, TwoWords, Apart}
use Rattle.pairs.specs.declared.types.PairFault.{PairFault}
use Rattle.pairs.specs.declared.types.PairFault.TheVariants.{Missing, NoPair, Bracket, TwoForms, TypesThenName, BarMissing}

-- how many words a pair takes: `(a;b)`, `(a b)` or `(a ; b)`; no two forms take as many
abbrev pub words_in : Form → ℕ
words_in OneWord = 1
words_in TwoWords = 2
words_in Apart = 3

-- the numbers by which refusals are known
abbrev pub number_of : PairFault → ℕ
number_of Missing = 2
number_of NoPair = 14
number_of Bracket = 15
number_of TwoForms = 16
number_of TypesThenName = 17
number_of BarMissing = 18

-- a pair is written otherwise than the first one, whose form may not be known yet
abbrev pub differs : Option Form → Form → Bool
differs None g = false
differs (Some f) g = not (words_in f == words_in g)
