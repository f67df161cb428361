-- The exit status of the program for each status of a command.
use Rattle.std.specs.Prelude.{ℕ}
use Rattle.pulse_base.specs.declared.status.Status.{Status}
use Rattle.pulse_base.specs.declared.status.Status.TheVariants as s

abbrev pub status_number : Status → ℕ
status_number s.Ok = 0
status_number s.Usage = 2
status_number s.Memory = 3
status_number s.Refused = 4
status_number s.ReadFault = 5
status_number s.WriteFault = 6
status_number s.LinkFault = 7
status_number s.TurnsUsed = 8
status_number s.ChildFault = 9
status_number s.AuditNo = 10
