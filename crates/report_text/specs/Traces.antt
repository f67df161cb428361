-- The text of what an event did.
use Rattle.std.specs.Prelude.{ℕ, List, [], ◌++◌, codes, decimal, Option, Some, None}
use Rattle.pulse_base.specs.declared.event.Trace.{Trace}
use Rattle.pulse_base.specs.declared.event.Trace.TheVariants.{Sent, Answered, Again, Silent, Nothing, Missed, Started, Running, Full, Foreign, Stale, Idle, Iterated, Part, Waits}

-- an iteration that ended its leg sent a letter
abbrev pub sent_text : Option ℕ → List ℕ
sent_text None = []
sent_text (Some letter) = codes " sent " ++ decimal letter

abbrev pub trace_text : Trace → List ℕ
trace_text (Sent letter) = codes "sent " ++ decimal letter
trace_text Answered = codes "answered"
trace_text Again = codes "again"
trace_text Silent = codes "silent"
trace_text Nothing = codes "nothing"
trace_text Missed = codes "missed"
trace_text Started = codes "started"
trace_text Running = codes "running"
trace_text Full = codes "full"
trace_text Foreign = codes "foreign"
trace_text Stale = codes "stale"
trace_text Idle = codes "idle"
trace_text (Iterated request letter) = codes "iterated " ++ decimal request ++ sent_text letter
trace_text (Part request) = codes "part " ++ decimal request
trace_text (Waits request) = codes "waits " ++ decimal request
