-- From the steps of a command's run to what it came to.
use Rattle.std.proofs.Common.{◌≡◌, ℕ, Bool, true, false, List, Option, Some, None, Result, Ok, Err, inr, refl, sym, subst}
use Rattle.pulse_base.specs.Outside.{Appends, HasCause}
use Rattle.pulse_base.specs.declared.source.Failed.{Failed}
use Rattle.pulse_process.specs.declared.told.Told.{Told}
use Rattle.pulse_process.specs.declared.fault.ProcessFault.{ProcessFault}
use Rattle.pulse_words.specs.declared.command.Command.{Command}
use Rattle.pulse_words.specs.Words.{IsCommand}
use Rattle.pulse_cli.specs.Answers.{Answers, AnswersAs, Whole}
use Rattle.pulse_cli.specs.Ending.{End, OfInput, Outputs, Comes, seen, WritesWhole, FailsToWrite}
use Rattle.pulse_cli.specs.Sides.{Sides, HasRisen}
use Rattle.pulse_cli.specs.Steps.{Answered, Gives, IsWhole, Serves}
use Rattle.pulse_cli.specs.Uses.{Names, reads_input, uses_kids, uses_net}
use Rattle.pulse_cli.specs.declared.failure.Failure.{Failure}
use Rattle.pulse_cli.specs.declared.failure.Failure.TheVariants as f
use Rattle.pulse_cli.specs.declared.failure.Refusal.{Refusal}
use Rattle.pulse_cli.specs.declared.failure.Refusal.TheVariants as r

-- what holds of the text that a command took holds of its input
pub of_input : (reads : Bool) (old now : Option (List ℕ)) (text : List ℕ) (P : List ℕ → Type 0) → OfInput reads old now (λ t. text ≡ t) → P text → OfInput reads old now P
of_input true None now text P is h = tt
of_input true (Some left) now text P is h = (is.0, subst P is.1 h)
of_input false old now text P is h = (is.0, subst P is.1 h)

pub writes : (told now : Option (List ℕ)) (before after : ℕ) (shown output : List ℕ)
    → shown ≡ output → Appends {E = Failed} told now shown (Ok tt) → WritesWhole (seen told before) (seen now after) output
writes told now before after shown output same bytes = subst (λ (b : List ℕ). Appends {E = Failed} told now b (Ok tt)) same bytes

pub fails : (told now : Option (List ℕ)) (before after : ℕ) (shown output : List ℕ) (e : Failed)
    → shown ≡ output → HasCause {T = Unit {0}} before after (Err e) → Appends told now shown (Err e) → FailsToWrite (seen told before) (seen now after) output
fails told now before after shown output e same cause bytes =
    (cause.failed, (e, subst (λ (b : List ℕ). Appends {E = Failed} told now b (Err e)) same bytes))

-- the whole text of a command that is no process answers for it
pub whole_answers : (command : Command) (text : List ℕ) (s : Sides) (P : Result (List ℕ) Refusal → Type 0) (given : Result (List ℕ) Failure) (result : Result Told Failure)
    → ((x : Result Told Refusal) → Whole P x → Answers command text s x) → Gives P given → IsWhole given result → Answered command text s result
whole_answers command text s P (Ok t) result to h is = subst (Answered command text s) (sym is) (to (Ok (record { text = t; finished = true })) (h, refl))
whole_answers command text s P (Err f.Memory) result to h is = subst (Answered command text s) (sym is) tt
whole_answers command text s P (Err (f.Refused refusal)) result to h is = subst (Answered command text s) (sym is) (to (Err refusal) h)
whole_answers command text s P (Err f.Usage) result to h is = absurd h
whole_answers command text s P (Err f.Read) result to h is = absurd h
whole_answers command text s P (Err f.Write) result to h is = absurd h
whole_answers command text s P (Err f.Link) result to h is = absurd h
whole_answers command text s P (Err f.Turns) result to h is = absurd h
whole_answers command text s P (Err f.Child) result to h is = absurd h

-- what a process tells answers for it; its failures of link and children have their causes
pub process_answers : (command : Command) (text : List ℕ) (s : Sides) (P : Result Told ProcessFault → Type 0) (result : Result Told Failure)
    → ((x : Result Told Refusal) → AnswersAs P x → Answers command text s x)
    → (result ≡ Err f.Link → (uses_net command ≡ true) × HasRisen s.net_faults) → (result ≡ Err f.Child → (uses_kids command ≡ true) × HasRisen s.kid_faults)
    → Serves P result → Answered command text s result
process_answers command text s P (Ok told) to link child h = to (Ok told) h
process_answers command text s P (Err f.Memory) to link child h = tt
process_answers command text s P (Err f.Link) to link child h = link refl
process_answers command text s P (Err f.Child) to link child h = child refl
process_answers command text s P (Err (f.Refused (r.Document fault))) to link child h = to (Err (r.Document fault)) h
process_answers command text s P (Err (f.Refused (r.Form limit))) to link child h = to (Err (r.Form limit)) h
process_answers command text s P (Err (f.Refused (r.Walk fault))) to link child h = absurd h
process_answers command text s P (Err (f.Refused r.Long)) to link child h = absurd h
process_answers command text s P (Err (f.Refused r.ProgramLimit)) to link child h = absurd h
process_answers command text s P (Err (f.Refused (r.Lex place))) to link child h = absurd h
process_answers command text s P (Err (f.Refused (r.Deep place))) to link child h = absurd h
process_answers command text s P (Err (f.Refused (r.Syntax place))) to link child h = absurd h
process_answers command text s P (Err (f.Refused (r.Check kind place))) to link child h = absurd h
process_answers command text s P (Err (f.Refused r.Iter)) to link child h = absurd h
process_answers command text s P (Err (f.Refused (r.Image fault))) to link child h = absurd h
process_answers command text s P (Err f.Usage) to link child h = absurd h
process_answers command text s P (Err f.Read) to link child h = absurd h
process_answers command text s P (Err f.Write) to link child h = absurd h
process_answers command text s P (Err f.Turns) to link child h = absurd h

-- ---- the ends of a run

pub outputs : (words : List (List ℕ)) (command : Command) (old now : Option (List ℕ)) (s : Sides) (text shown : List ℕ) (told : Told) (finished : Bool) (Writes : List ℕ → Type 0)
    → IsCommand words command → OfInput (reads_input command) old now (λ t. text ≡ t) → shown ≡ text → Answers command shown s (Ok told)
    → told.finished ≡ finished → Writes told.text → Outputs words old now s finished Writes
outputs words command old now s text shown told finished Writes is input same h f w =
    (command, told, is, of_input (reads_input command) old now text (λ t. Answers command t s (Ok told)) input (subst (λ (t : List ℕ). Answers command t s (Ok told)) same h), f, w)

-- a failure of what a command tells, before anything was written
pub comes_failed : (words : List (List ℕ)) (command : Command) (input read out : End) (s : Sides) (text shown : List ℕ) (failure : Failure)
    → IsCommand words command → OfInput (reads_input command) input.told read.told (λ t. text ≡ t) → shown ≡ text → Answered command shown s (Err failure)
    → Comes words input read out out s (Err failure)
comes_failed words command input read out s text shown f.Memory is took same h = refl
comes_failed words command input read out s text shown (f.Refused refusal) is took same h =
    (command, is, inr (of_input (reads_input command) input.told read.told text (λ t. Answers command t s (Err refusal)) took (subst (λ (t : List ℕ). Answers command t s (Err refusal)) same h)), refl)
comes_failed words command input read out s text shown f.Link is took same h = (record { command = command; named = is; is = h.0 }, h.1, refl)
comes_failed words command input read out s text shown f.Child is took same h = (record { command = command; named = is; is = h.0 }, h.1, refl)
comes_failed words command input read out s text shown f.Usage is took same h = absurd h
comes_failed words command input read out s text shown f.Read is took same h = absurd h
comes_failed words command input read out s text shown f.Write is took same h = absurd h
comes_failed words command input read out s text shown f.Turns is took same h = absurd h

-- what is so of a command that does not use an end is so where the words name none that does
pub unused : (of : Command → Bool) (words : List (List ℕ)) (command : Command) (P : Type 0) → IsCommand words command → (of command ≡ false → P) → ¬ Names of words → P
unused of words command P is h none = by_bool (of command) (λ t. absurd (none (record { command = command; named = is; is = t }))) h
  where
    by_bool : (b : Bool) → (b ≡ true → P) → (b ≡ false → P) → P
    by_bool true a b = a refl
    by_bool false a b = b refl
