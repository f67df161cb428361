-- The status of each failure, and the line that is said of it.
use Rattle.std.specs.Prelude.{ℕ, List, [], ◌∷◌, ◌++◌, codes, decimal}
use Rattle.code_image.specs.Lines.{fault_text}
use Rattle.flat_walk.specs.Lines.{words_of}
use Rattle.iter_check.specs.Words.{kind_word}
use Rattle.scenario_text.specs.Lines as document
use Rattle.pulse_process.specs.Lines.{limit_word}
use Rattle.pulse_base.specs.declared.status.Status.{Status}
use Rattle.pulse_base.specs.declared.status.Status.TheVariants as s
use Rattle.pulse_cli.specs.declared.failure.Failure.{Failure}
use Rattle.pulse_cli.specs.declared.failure.Failure.TheVariants as f
use Rattle.pulse_cli.specs.declared.failure.Refusal.{Refusal}
use Rattle.pulse_cli.specs.declared.failure.Refusal.TheVariants as r

abbrev pub status_of : Failure → Status
status_of f.Usage = s.Usage
status_of f.Memory = s.Memory
status_of f.Read = s.ReadFault
status_of (f.Refused refusal) = s.Refused
status_of f.Write = s.WriteFault
status_of f.Link = s.LinkFault
status_of f.Turns = s.TurnsUsed
status_of f.Child = s.ChildFault

abbrev pub refusal_text : Refusal → List ℕ
refusal_text (r.Walk fault) = words_of fault
refusal_text (r.Document fault) = document.words_of fault
refusal_text (r.Form limit) = codes "document limit " ++ limit_word limit
refusal_text r.Long = codes "document long"
refusal_text r.ProgramLimit = codes "document limit program"
refusal_text (r.Lex place) = codes "program lex " ++ decimal place
refusal_text (r.Deep place) = codes "program deep " ++ decimal place
refusal_text (r.Syntax place) = codes "program syntax " ++ decimal place
refusal_text (r.Check kind place) = codes "program " ++ kind_word kind ++ codes " " ++ decimal place
refusal_text r.Iter = codes "program iter"
refusal_text (r.Image fault) = fault_text fault

abbrev pub failure_text : Failure → List ℕ
failure_text f.Usage = codes "usage"
failure_text f.Memory = codes "memory"
failure_text f.Read = codes "read"
failure_text (f.Refused refusal) = refusal_text refusal
failure_text f.Write = codes "write"
failure_text f.Link = codes "link"
failure_text f.Turns = codes "turns"
failure_text f.Child = codes "child"

-- the line of a failure, with its end
abbrev pub line_of : Failure → List ℕ
line_of failure = codes "pulse: " ++ failure_text failure ++ 10 ∷ []
