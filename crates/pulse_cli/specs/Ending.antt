-- How a run of a command ends: what it did to its input and its output, what it says on err, and its status.
use Rattle.std.specs.Prelude.{◌≡◌, ◌⊎◌, ℕ, ◌<◌, Bool, true, false, List, [], length, Option, Some, None, Result, Ok, Err}
use Rattle.pulse_base.specs.Outside.{Rose, Appends}
use Rattle.pulse_base.specs.declared.source.Failed.{Failed}
use Rattle.pulse_base.specs.declared.status.Status.{Status}
use Rattle.pulse_base.specs.declared.status.Status.TheVariants as s
use Rattle.pulse_cli.specs.Answers.{Answers}
use Rattle.pulse_cli.specs.Lines.{status_of, line_of}
use Rattle.pulse_cli.specs.Sides.{Sides, AreKept, HasRisen}
use Rattle.pulse_cli.specs.Uses.{Names, reads_input, uses_net, uses_kids}
use Rattle.pulse_process.specs.declared.told.Told.{Told}
use Rattle.pulse_words.specs.declared.command.Command.{Command}
use Rattle.pulse_words.specs.Words.{IsCommand, IsSomeCommand}
use Rattle.pulse_cli.specs.declared.failure.Failure.{Failure}
use Rattle.pulse_cli.specs.declared.failure.Failure.TheVariants as f
use Rattle.pulse_cli.specs.declared.failure.Refusal.{Refusal}
use Rattle.pulse_cli.specs.declared.failure.Refusal.TheVariants as r

-- what an end of the outside tells of itself, and its count of faults
pub record End : Type 0 where
  pub told : Option (List ℕ)
  pub faults : ℕ

abbrev pub seen : Option (List ℕ) → ℕ → End
seen told faults = record { told = told; faults = faults }

-- the bytes were written whole
abbrev pub WritesWhole : End → End → List ℕ → Type 0
WritesWhole old new bytes = Appends {E = Failed} old.told new.told bytes (Ok tt)

-- a write failed after a front of the bytes
abbrev pub FailsToWrite : End → End → List ℕ → Type 0
FailsToWrite old new bytes = Rose old.faults new.faults × ((failed : Failed) × Appends {E = Failed} old.told new.told bytes (Err failed))

-- what holds of the text that a command has as its input: all that was left, which was read to its end; or nothing, where it reads none
abbrev pub OfInput : Bool → (old now : Option (List ℕ)) → (List ℕ → Type 0) → Type 0
OfInput true None now P = Unit {0}
OfInput true (Some left) now P = (now ≡ Some []) × P left
OfInput false old now P = (now ≡ old) × P []

-- the command tells this of its input
abbrev pub Tells : Command → (old now : Option (List ℕ)) → Sides → Told → Type 0
Tells command old now s told = OfInput (reads_input command) old now (λ text. Answers command text s (Ok told))

abbrev pub IsLong : Option (List ℕ) → Type 0
IsLong None = Unit {0}
IsLong (Some left) = 67108864 < length left

-- its input is too long, or is refused
abbrev pub IsRefused : Command → (old now : Option (List ℕ)) → Sides → Refusal → Type 0
IsRefused command old now s refusal =
    ((refusal ≡ r.Long) × (reads_input command ≡ true) × IsLong old × AreKept s) ⊎ OfInput (reads_input command) old now (λ text. Answers command text s (Err refusal))

-- the words are a command that tells this, and the text of it was written as `Writes` says
abbrev pub Outputs : List (List ℕ) → (old now : Option (List ℕ)) → Sides → Bool → (List ℕ → Type 0) → Type 0
Outputs words old now s finished Writes =
    (command : Command) × (told : Told) × IsCommand words command × Tells command old now s told × (told.finished ≡ finished) × Writes told.text

-- what a run came to, by its input, its output and the other ends
abbrev pub Comes : List (List ℕ) → (input read out written : End) → Sides → Result (Unit {0}) Failure → Type 0
Comes words input read out written s (Ok u) = Outputs words input.told read.told s true (WritesWhole out written)
Comes words input read out written s (Err f.Turns) = Outputs words input.told read.told s false (WritesWhole out written)
Comes words input read out written s (Err f.Write) = (finished : Bool) × Outputs words input.told read.told s finished (FailsToWrite out written)
Comes words input read out written s (Err f.Usage) = ¬ IsSomeCommand words × (read ≡ input) × (written ≡ out) × AreKept s
Comes words input read out written s (Err f.Memory) = written ≡ out
Comes words input read out written s (Err f.Read) = Names reads_input words × Rose input.faults read.faults × (written ≡ out) × AreKept s
Comes words input read out written s (Err (f.Refused refusal)) =
    (command : Command) × IsCommand words command × IsRefused command input.told read.told s refusal × (written ≡ out)
Comes words input read out written s (Err f.Link) = Names uses_net words × HasRisen s.net_faults × (written ≡ out)
Comes words input read out written s (Err f.Child) = Names uses_kids words × HasRisen s.kid_faults × (written ≡ out)

-- what a run says of what it came to, and its status: a failure has its one line, and a failed write of the line
-- makes the status that of a failed write
abbrev pub SaysLine : (err said : End) → List ℕ → Status → Status → Type 0
SaysLine err said line wanted status =
    ((status ≡ wanted) × WritesWhole err said line) ⊎ ((status ≡ s.WriteFault) × FailsToWrite err said line)

abbrev pub Says : (err said : End) → Result (Unit {0}) Failure → Status → Type 0
Says err said (Ok u) status = (status ≡ s.Ok) × (said ≡ err)
Says err said (Err failure) status = SaysLine err said (line_of failure) (status_of failure) status

-- a status that comes before the yard, the link or the spawner is called
abbrev pub IsEarly : Status → Type 0
IsEarly s.Usage = Unit {0}
IsEarly s.Refused = Unit {0}
IsEarly s.ReadFault = Unit {0}
IsEarly _ = ⊥

-- how a run ends
abbrev pub Ends : List (List ℕ) → (input read out written err said : End) → Sides → Status → Type 0
Ends words input read out written err said s status =
    (came : Result (Unit {0}) Failure) × Comes words input read out written s came × Says err said came status
