-- The text of an answer.
use Rattle.std.specs.Prelude.{ℕ, List, ◌++◌, codes, decimal}
use Rattle.hex.specs.Hex.{encode_lower}
use Rattle.pulse_base.specs.declared.answer.Answer.{Answer}
use Rattle.pulse_base.specs.declared.answer.Answer.TheVariants.{Unasked, Waiting, Done, Fault, Spent, Silent}
use Rattle.pulse_base.specs.Fault.{fault_name}

-- numbers in decimal, the pad in hexadecimal digits
abbrev pub answer_text : Answer → List ℕ
answer_text Unasked = codes "unasked"
answer_text Waiting = codes "open"
answer_text (Done pad count) = codes "done " ++ decimal count ++ codes " " ++ encode_lower pad
answer_text (Fault kind cur count) = codes "fault " ++ fault_name kind ++ codes " " ++ decimal cur ++ codes " " ++ decimal count
answer_text (Spent count) = codes "spent " ++ decimal count
answer_text Silent = codes "silent"
