-- The value of an expression as the code has it.
use Rattle.iter_check.specs.Value as v
use Rattle.iter_check.specs.declared.value.Value.{Value}
use Rattle.iter_check.specs.declared.value.Value.TheVariants as value

abbrev pub worth : Value → v.Value
worth (value.Number n) = v.Number n
worth (value.Truth b) = v.Truth b
worth value.DivZero = v.DivZero
