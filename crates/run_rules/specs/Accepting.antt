-- A node accepts a leg: seven rules, of which the first that applies decides.
use Rattle.std.specs.Prelude.{ℕ, Bool, true, not, [], ◌∷◌, ◌++◌, length, Option, Some, None, is_some, nat_eq, nat_le, slice_get, if◌then◌else◌}
use Rattle.std.specs.FinMap as m
use Rattle.pulse_base.specs.declared.answer.FaultKind.TheVariants as fault
use Rattle.range_table.specs.Memory.{may_read}
use Rattle.frame_codec.specs.declared.frame.Leg.{Leg}
use Rattle.frame_codec.specs.declared.frame.Ending.TheVariants as ending
use Rattle.leg_ledger.specs.declared.leg.Reply.{Reply}
use Rattle.run_rules.specs.declared.node.ProgramSizes.{ProgramSizes}
use Rattle.run_rules.specs.declared.node.Accepted.{Accepted}
use Rattle.run_rules.specs.declared.node.Accepted.TheVariants.{Foreign, Answer, Running, Elsewhere, Full, Started, Memory}
use Rattle.run_rules.specs.Node.{NodeState, key_of, back_of, find_live, spans_of, place_of, region_at}

abbrev pub foreign_by : Leg → Option ProgramSizes → Bool
foreign_by l None = true
foreign_by l (Some s) = not (nat_eq (length l.pad) s.pad_size)

-- rule 1: the program is not known here, or the pad is not of its size
abbrev pub is_foreign : NodeState → Leg → Bool
is_foreign n l = foreign_by l (slice_get n.sizes l.program)

-- rules 4 to 7, by the place of the region here that holds the record
abbrev pub answer_at : NodeState → Leg → Option ℕ → Accepted
answer_at n l None = Elsewhere
answer_at n l (Some i) =
    if may_read (spans_of n.regions) i then (if nat_le n.slots (length n.live) then Full else Started) else Answer (back_of l (ending.Fault fault.NotReadable))

-- rules 2 and 3, by the reply that is kept of the leg, and then the others
abbrev pub answer_by : NodeState → Leg → Option Reply → Accepted
answer_by n l (Some reply) = Answer reply.back
answer_by n l None = if is_some (find_live n.live (key_of l)) then Running else answer_at n l (place_of n l)

-- the answer
abbrev pub answer_to : NodeState → Leg → Accepted
answer_to n l = if is_foreign n l then Foreign else answer_by n l (m.get n.kept (key_of l))

-- the number of the region at a place; no leg is started where there is none
abbrev pub number_at : NodeState → Option ℕ → ℕ
number_at n None = 0
number_at n (Some i) = (region_at n i).number

-- the leg runs, last in turn order
abbrev pub started : NodeState → Leg → NodeState
started n l = record n { live = n.live ++ record { leg = l; region = number_at n (place_of n l) } ∷ [] }

abbrev pub after_answer : Accepted → NodeState → Leg → NodeState
after_answer Started n l = started n l
after_answer Foreign n l = n
after_answer (Answer back) n l = n
after_answer Running n l = n
after_answer Elsewhere n l = n
after_answer Full n l = n
after_answer Memory n l = n

-- the node after it, and the answer: only a leg that is started changes the node
abbrev pub accept : NodeState → Leg → NodeState × Accepted
accept n l = (after_answer (answer_to n l) n l, answer_to n l)
