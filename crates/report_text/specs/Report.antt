-- The report of a run, line by line. Each line ends with LF; numbers are decimal, bytes are lower-case hexadecimal.
use Rattle.std.specs.Prelude.{ℕ, suc, List, [], ◌∷◌, ◌++◌, codes, decimal, if◌then◌else◌}
use Rattle.hex.specs.Hex.{encode_lower}
use Rattle.sha2.specs.Sha256.{sha256}
use Rattle.pulse_base.specs.declared.answer.Answer.{Answer}
use Rattle.pulse_base.specs.declared.event.Trace.{Trace}
use Rattle.report_text.specs.declared.outcome.OutRegion.{OutRegion}
use Rattle.report_text.specs.declared.outcome.Outcome.{Outcome}
use Rattle.report_text.specs.Answers.{answer_text}
use Rattle.report_text.specs.Traces.{trace_text}

-- a line of a word, a number and a text
abbrev pub numbered : List ℕ → ℕ → List ℕ → List ℕ
numbered word n text = word ++ codes " " ++ decimal n ++ codes " " ++ text ++ codes "\n"

-- a line for each item, the items numbered from `n` on
abbrev pub each_line : {A : Type 0} → (ℕ → A → List ℕ) → ℕ → List A → List ℕ
each_line line n [] = []
each_line line n (x ∷ xs) = line n x ++ each_line line (suc n) xs

abbrev pub event_line : ℕ → Trace → List ℕ
event_line k trace = numbered (codes "event") k (trace_text trace)

-- the request numbers, each behind a space
abbrev pub order_text : List ℕ → List ℕ
order_text [] = []
order_text (r ∷ order) = codes " " ++ decimal r ++ order_text order

abbrev pub answer_line : ℕ → Answer → List ℕ
answer_line r answer = numbered (codes "request") r (answer_text answer)

-- the bytes of a region that is shown, else their SHA-256
abbrev pub region_text : OutRegion → List ℕ
region_text region = if region.shown then codes "hex " ++ encode_lower region.bytes else codes "sha256 " ++ encode_lower (sha256 region.bytes)

abbrev pub region_line : ℕ → OutRegion → List ℕ
region_line i region = numbered (codes "region") i (region_text region)

abbrev pub report : Outcome → List ℕ
report o =
    codes "pulse report 1\n" ++ each_line event_line 0 o.trace
    ++ codes "order" ++ order_text o.order ++ codes "\n"
    ++ each_line answer_line 0 o.answers ++ each_line region_line 0 o.regions ++ codes "end\n"
