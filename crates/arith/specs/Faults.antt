-- The refusals of values. Assumes nothing.
use Rattle.std.specs.Prelude.{ℕ}
use Rattle.fraction.specs.declared.FractionFault.{FractionFault}
use Rattle.fraction.specs.declared.FractionFault.TheVariants as f
use Rattle.arith.specs.declared.ValueFault.{ValueFault}
use Rattle.arith.specs.declared.ValueFault.TheVariants.{Unreadable, ZeroDivisor, TooLarge, TooDeep}

-- a refusal of the arithmetic as one of the value
abbrev pub value_fault : FractionFault → ValueFault
value_fault f.ZeroDivisor = ZeroDivisor
value_fault f.TooLarge = TooLarge

-- the number that a refusal goes by
abbrev pub value_fault_number : ValueFault → ℕ
value_fault_number Unreadable = 10
value_fault_number ZeroDivisor = 11
value_fault_number TooLarge = 12
value_fault_number TooDeep = 13
