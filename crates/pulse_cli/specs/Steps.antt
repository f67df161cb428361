-- What the steps of a command's run answer, one by one. Only the contracts of these steps use this.
use Rattle.std.specs.Prelude.{◌≡◌, ◌⊎◌, ℕ, Bool, true, List, Result, Ok, Err}
use Rattle.pulse_base.specs.Outside.{Rose}
use Rattle.pulse_base.specs.declared.status.Status.{Status}
use Rattle.pulse_process.specs.declared.told.Told.{Told}
use Rattle.pulse_process.specs.declared.fault.ProcessFault.{ProcessFault}
use Rattle.pulse_process.specs.declared.fault.ProcessFault.TheVariants as process
use Rattle.shape_build.specs.Shape.{InRange}
use Rattle.pulse_words.specs.declared.command.Command.{Command}
use Rattle.pulse_words.specs.declared.command.Command.TheVariants as c
use Rattle.pulse_cli.specs.Answers.{Answers, RefusesProgram, RefusesImage}
use Rattle.pulse_cli.specs.Ending.{End, OfInput, IsLong, Says}
use Rattle.pulse_cli.specs.Sides.{Sides, HasRisen}
use Rattle.pulse_cli.specs.Uses.{uses_net, uses_kids}
use Rattle.pulse_cli.specs.declared.failure.Failure.{Failure}
use Rattle.pulse_cli.specs.declared.failure.Failure.TheVariants as f
use Rattle.pulse_cli.specs.declared.failure.Refusal.{Refusal}
use Rattle.pulse_cli.specs.declared.failure.Refusal.TheVariants as r

-- the whole input, or nothing where a command reads none
abbrev pub ReadsInput : Bool → End → End → Result (List ℕ) Failure → Type 0
ReadsInput reads input read (Ok text) = OfInput reads input.told read.told (λ t. text ≡ t)
ReadsInput reads input read (Err f.Memory) = Unit {0}
ReadsInput reads input read (Err f.Read) = (reads ≡ true) × Rose input.faults read.faults
ReadsInput reads input read (Err (f.Refused refusal)) = (refusal ≡ r.Long) × (reads ≡ true) × IsLong input.told
ReadsInput reads input read (Err _) = ⊥

-- what is said of a failure: where memory runs out for the line of a refusal, that is said
abbrev pub Fails : Failure → End → End → Status → Type 0
Fails (f.Refused refusal) err said status = Says err said (Err (f.Refused refusal)) status ⊎ Says err said (Err f.Memory) status
Fails failure err said status = Says err said (Err failure) status

-- a failure that reading the text of a program has
abbrev pub IsOfProgram : List ℕ → Failure → Type 0
IsOfProgram text f.Memory = Unit {0}
IsOfProgram text (f.Refused refusal) = RefusesProgram text refusal
IsOfProgram text _ = ⊥

-- a failure that reading the bytes of an image has
abbrev pub IsOfImage : List ℕ → Failure → Type 0
IsOfImage bytes f.Memory = Unit {0}
IsOfImage bytes (f.Refused refusal) = RefusesImage bytes refusal
IsOfImage bytes _ = ⊥

-- the text of a command, or its failure
abbrev pub Gives : (Result (List ℕ) Refusal → Type 0) → Result (List ℕ) Failure → Type 0
Gives P (Ok text) = P (Ok text)
Gives P (Err f.Memory) = Unit {0}
Gives P (Err (f.Refused refusal)) = P (Err refusal)
Gives P (Err _) = ⊥

abbrev pub IsWhole : Result (List ℕ) Failure → Result Told Failure → Type 0
IsWhole (Ok text) result = result ≡ Ok (record { text = text; finished = true })
IsWhole (Err failure) result = result ≡ Err failure

abbrev pub Answered : Command → List ℕ → Sides → Result Told Failure → Type 0
Answered command text s (Ok told) = Answers command text s (Ok told)
Answered command text s (Err f.Memory) = Unit {0}
Answered command text s (Err (f.Refused refusal)) = Answers command text s (Err refusal)
Answered command text s (Err f.Link) = (uses_net command ≡ true) × HasRisen s.net_faults
Answered command text s (Err f.Child) = (uses_kids command ≡ true) × HasRisen s.kid_faults
Answered command text s (Err _) = ⊥

-- a failure that comes before the yard, the link or the spawner is called
abbrev pub ComesEarly : Failure → Type 0
ComesEarly f.Usage = Unit {0}
ComesEarly f.Read = Unit {0}
ComesEarly (f.Refused refusal) = Unit {0}
ComesEarly _ = ⊥

-- what asks for a generated document has its numbers in range
abbrev pub IsInRange : Command → Type 0
IsInRange (c.Shape shape) = InRange shape
IsInRange (c.Drill shape) = InRange shape
IsInRange _ = Unit {0}

-- ---- processes

abbrev pub failure_of : ProcessFault → Failure
failure_of (process.Document fault) = f.Refused (r.Document fault)
failure_of (process.Form limit) = f.Refused (r.Form limit)
failure_of process.Link = f.Link
failure_of process.Child = f.Child
failure_of process.Memory = f.Memory

-- what a process tells, or its failure
abbrev pub Serves : (Result Told ProcessFault → Type 0) → Result Told Failure → Type 0
Serves P (Ok told) = P (Ok told)
Serves P (Err (f.Refused (r.Document fault))) = P (Err (process.Document fault))
Serves P (Err (f.Refused (r.Form limit))) = P (Err (process.Form limit))
Serves P (Err f.Link) = P (Err process.Link)
Serves P (Err f.Child) = P (Err process.Child)
Serves P (Err f.Memory) = Unit {0}
Serves P (Err _) = ⊥
