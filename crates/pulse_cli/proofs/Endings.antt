-- A failed run ends as the failure is said.
use Rattle.std.proofs.Common.{◌≡◌, ◌≢◌, inl, inr, ℕ, List, Result, Ok, Err, sym, ap, subst, ◌∙◌}
use Rattle.pulse_base.specs.declared.status.Status.{Status}
use Rattle.pulse_base.specs.declared.status.Status.TheVariants as s
use Rattle.pulse_cli.specs.declared.failure.Failure.{Failure}
use Rattle.pulse_cli.specs.declared.failure.Failure.TheVariants as f
use Rattle.pulse_cli.specs.Ending.{End, Comes, Ends, IsEarly}
use Rattle.pulse_cli.specs.Sides.{Sides}
use Rattle.pulse_cli.specs.Steps.{ComesEarly, Fails}

pub ends_as : (words : List (List ℕ)) (input read out written err said : End) (y : Sides) (failure : Failure) (status : Status)
    → Comes words input read out written y (Err failure) → Fails failure err said status → Ends words input read out written err said y status
ends_as words input read out written err said y f.Usage status c h = (Err f.Usage, c, h)
ends_as words input read out written err said y f.Memory status c h = (Err f.Memory, c, h)
ends_as words input read out written err said y f.Read status c h = (Err f.Read, c, h)
ends_as words input read out written err said y f.Write status c h = (Err f.Write, c, h)
ends_as words input read out written err said y f.Link status c h = (Err f.Link, c, h)
ends_as words input read out written err said y f.Turns status c h = (Err f.Turns, c, h)
ends_as words input read out written err said y f.Child status c h = (Err f.Child, c, h)
ends_as words input read out written err said y (f.Refused refusal) status c h =
    elim h [ inl h ↦ (Err (f.Refused refusal), c, h) | inr h ↦ (Err f.Memory, c.3, h) ]

-- a failed write has its own status, and so have used turns
pub not_write : (err said : End) (failure : Failure) (status : Status) → Fails failure err said status → status ≢ s.WriteFault → failure ≢ f.Write
not_write err said f.Usage status h n = λ e. cc
not_write err said f.Memory status h n = λ e. cc
not_write err said f.Read status h n = λ e. cc
not_write err said f.Link status h n = λ e. cc
not_write err said f.Turns status h n = λ e. cc
not_write err said f.Child status h n = λ e. cc
not_write err said (f.Refused refusal) status h n = λ e. cc
not_write err said f.Write status h n = λ e. elim h [ inl h ↦ n h.0 | inr h ↦ n h.0 ]

pub not_turns : (err said : End) (failure : Failure) (status : Status) → Fails failure err said status → status ≢ s.TurnsUsed → status ≢ s.WriteFault → failure ≢ f.Turns
not_turns err said f.Usage status h n m = λ e. cc
not_turns err said f.Memory status h n m = λ e. cc
not_turns err said f.Read status h n m = λ e. cc
not_turns err said f.Link status h n m = λ e. cc
not_turns err said f.Write status h n m = λ e. cc
not_turns err said f.Child status h n m = λ e. cc
not_turns err said (f.Refused refusal) status h n m = λ e. cc
not_turns err said f.Turns status h n m = λ e. elim h [ inl h ↦ n h.0 | inr h ↦ m h.0 ]

-- a failure of the link or of a child, and want of memory, have their own statuses
pub record IsOwn (failure : Failure) : Type 0 where
  pub link : failure ≢ f.Link
  pub child : failure ≢ f.Child
  pub memory : failure ≢ f.Memory

pub of_status : (err said : End) (failure : Failure) (status : Status) → Fails failure err said status
    → status ≢ s.LinkFault → status ≢ s.ChildFault → status ≢ s.Memory → status ≢ s.WriteFault → IsOwn failure
of_status err said f.Usage status h l c m w = record { link = λ e. cc; child = λ e. cc; memory = λ e. cc }
of_status err said f.Read status h l c m w = record { link = λ e. cc; child = λ e. cc; memory = λ e. cc }
of_status err said f.Write status h l c m w = record { link = λ e. cc; child = λ e. cc; memory = λ e. cc }
of_status err said f.Turns status h l c m w = record { link = λ e. cc; child = λ e. cc; memory = λ e. cc }
of_status err said (f.Refused refusal) status h l c m w = record { link = λ e. cc; child = λ e. cc; memory = λ e. cc }
of_status err said f.Link status h l c m w = absurd (elim h [ inl h ↦ l h.0 | inr h ↦ w h.0 ])
of_status err said f.Child status h l c m w = absurd (elim h [ inl h ↦ c h.0 | inr h ↦ w h.0 ])
of_status err said f.Memory status h l c m w = absurd (elim h [ inl h ↦ m h.0 | inr h ↦ w h.0 ])

abbrev err_of : {T : Type 0} → Failure → Result T Failure → Failure
err_of d (Ok x) = d
err_of d (Err e) = e

-- so it is no such failure that ended the run
pub other : {T : Type 0} (r : Result T Failure) (a b : Failure) → r ≡ Err a → a ≢ b → r ≢ Err b
other r a b is n e = n (ap (err_of a) (sym is ∙ e))

-- an early status is of an early failure
pub early_failure : (err said : End) (failure : Failure) (status : Status) → Fails failure err said status → IsEarly status → ComesEarly failure
early_failure err said f.Usage status h e = tt
early_failure err said f.Read status h e = tt
early_failure err said (f.Refused refusal) status h e = tt
early_failure err said f.Memory status h e = elim h [ inl h ↦ absurd (subst IsEarly h.0 e) | inr h ↦ absurd (subst IsEarly h.0 e) ]
early_failure err said f.Write status h e = elim h [ inl h ↦ absurd (subst IsEarly h.0 e) | inr h ↦ absurd (subst IsEarly h.0 e) ]
early_failure err said f.Link status h e = elim h [ inl h ↦ absurd (subst IsEarly h.0 e) | inr h ↦ absurd (subst IsEarly h.0 e) ]
early_failure err said f.Turns status h e = elim h [ inl h ↦ absurd (subst IsEarly h.0 e) | inr h ↦ absurd (subst IsEarly h.0 e) ]
early_failure err said f.Child status h e = elim h [ inl h ↦ absurd (subst IsEarly h.0 e) | inr h ↦ absurd (subst IsEarly h.0 e) ]
