-- Failures of processes.
use Rattle.std.proofs.Common.{◌≡◌, ◌≢◌, Result, Err, refl}
use Rattle.pulse_process.specs.declared.told.Told.{Told}
use Rattle.pulse_process.specs.declared.fault.ProcessFault.{ProcessFault}
use Rattle.pulse_process.specs.declared.fault.ProcessFault.TheVariants as process
use Rattle.pulse_cli.specs.Steps.{ComesEarly, Serves, failure_of}
use Rattle.pulse_cli.specs.declared.failure.Failure.TheVariants as f

pub serves_fault : (P : Result Told ProcessFault → Type 0) (fault : ProcessFault) → P (Err fault) → Serves P (Err (failure_of fault))
serves_fault P (process.Document fault) h = h
serves_fault P (process.Form limit) h = h
serves_fault P process.Link h = h
serves_fault P process.Child h = h
serves_fault P process.Memory h = tt

pub link_only : (fault : ProcessFault) → failure_of fault ≡ f.Link → fault ≡ process.Link
link_only (process.Document fault) e = absurd (cc)
link_only (process.Form limit) e = absurd (cc)
link_only process.Link e = refl
link_only process.Child e = absurd (cc)
link_only process.Memory e = absurd (cc)

pub child_only : (fault : ProcessFault) → failure_of fault ≡ f.Child → fault ≡ process.Child
child_only (process.Document fault) e = absurd (cc)
child_only (process.Form limit) e = absurd (cc)
child_only process.Link e = absurd (cc)
child_only process.Child e = refl
child_only process.Memory e = absurd (cc)

-- a failure that comes early is of the document
pub record IsOfDocument (fault : ProcessFault) : Type 0 where
  pub link : fault ≢ process.Link
  pub child : fault ≢ process.Child
  pub memory : fault ≢ process.Memory

pub of_document : (fault : ProcessFault) → ComesEarly (failure_of fault) → IsOfDocument fault
of_document (process.Document fault) h = record { link = λ e. cc; child = λ e. cc; memory = λ e. cc }
of_document (process.Form limit) h = record { link = λ e. cc; child = λ e. cc; memory = λ e. cc }
of_document process.Link h = absurd h
of_document process.Child h = absurd h
of_document process.Memory h = absurd h
