-- The summary of a drill: five lines, each ended by LF. Numbers are decimal.
use Rattle.std.specs.Prelude.{ℕ, Bool, true, false, List, ◌++◌, length, filter, codes, decimal}
use Rattle.hex.specs.Hex.{encode_lower}
use Rattle.sha2.specs.Sha256.{sha256}
use Rattle.pulse_base.specs.declared.answer.Answer.{Answer}
use Rattle.pulse_base.specs.declared.answer.Answer.TheVariants.{Done, Fault, Spent, Silent}
use Rattle.report_text.specs.declared.outcome.Outcome.{Outcome}
use Rattle.report_text.specs.Report.{report}
use Rattle.shape_build.specs.declared.shape.Shape.{Shape}
use Rattle.shape_build.specs.Shape.{kind_word}
use Rattle.replay.specs.declared.scenario.Replayed.{Replayed}

-- ---- how many requests were answered in which way

abbrev pub is_done : Answer → Bool
is_done (Done pad count) = true
is_done _ = false

abbrev pub is_fault : Answer → Bool
is_fault (Fault kind cur count) = true
is_fault _ = false

abbrev pub is_spent : Answer → Bool
is_spent (Spent count) = true
is_spent _ = false

abbrev pub is_silent : Answer → Bool
is_silent Silent = true
is_silent _ = false

abbrev pub how_many : (Answer → Bool) → List Answer → ℕ
how_many is answers = length (filter is answers)

-- ---- the lines

-- a line of a word and what is said under it
abbrev pub line : List ℕ → List ℕ → List ℕ
line word text = word ++ codes " " ++ text ++ codes "\n"

-- which document it was: its kind, the number of its records and its seed
abbrev pub shape_line : Shape → List ℕ
shape_line shape = line (codes "drill") (kind_word shape.kind ++ codes " " ++ decimal shape.count ++ codes " " ++ decimal shape.seed)

-- how many requests walked to an end, faulted, used up their rounds and were given up
abbrev pub answers_line : List Answer → List ℕ
answers_line answers =
    line (codes "answers")
    (decimal (how_many is_done answers) ++ codes " " ++ decimal (how_many is_fault answers) ++ codes " " ++ decimal (how_many is_spent answers) ++ codes " " ++ decimal (how_many is_silent answers))

-- the SHA-256 of the report's bytes, in lower-case hexadecimal digits
abbrev pub digest_line : Outcome → List ℕ
digest_line outcome = line (codes "sha256") (encode_lower (sha256 (report outcome)))

-- the iterations are the turns of the order; the letters are all that were sent, those of the drain included
abbrev pub summary : Shape → Replayed → List ℕ
summary shape left =
    shape_line shape
    ++ line (codes "iterations") (decimal (length left.outcome.order))
    ++ line (codes "letters") (decimal left.letters)
    ++ answers_line left.outcome.answers
    ++ digest_line left.outcome
