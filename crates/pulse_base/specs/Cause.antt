-- The fault that a cause is.
use Rattle.pulse_base.specs.declared.answer.Cause.{Cause}
use Rattle.pulse_base.specs.declared.answer.Cause.TheVariants as c
use Rattle.pulse_base.specs.declared.answer.FaultKind.{FaultKind}
use Rattle.pulse_base.specs.declared.answer.FaultKind.TheVariants as fault

abbrev pub kind_of : Cause → FaultKind
kind_of c.NotWritable = fault.NotWritable
kind_of c.DivZero = fault.DivZero
