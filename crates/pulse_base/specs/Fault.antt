-- The name of a fault's kind in a report.
use Rattle.std.specs.Prelude.{ℕ, List, codes}
use Rattle.pulse_base.specs.declared.answer.FaultKind.{FaultKind}
use Rattle.pulse_base.specs.declared.answer.FaultKind.TheVariants as fault

abbrev pub fault_name : FaultKind → List ℕ
fault_name fault.Unmapped = codes "unmapped"
fault_name fault.NotReadable = codes "not_readable"
fault_name fault.NotWritable = codes "not_writable"
fault_name fault.DivZero = codes "div_zero"
