-- What finding answers. Assumes nothing.
use Rattle.std.specs.Prelude.{Some, None, Ok, Err, Option, Result}
use Rattle.index.specs.declared.either.Either.{Either}
use Rattle.index.specs.declared.either.Either.TheVariants.{Left, Right}

-- what was found, else what it was looked for under
abbrev pub found_or : {T U : Type 0} → Option T → U → Either T U
found_or (Some t) u = Left t
found_or None u = Right u

abbrev pub either_result : {T U : Type 0} → Either T U → Result T U
either_result (Left t) = Ok t
either_result (Right u) = Err u
