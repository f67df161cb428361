-- One iteration at a record, and the init of a walk.
use Rattle.std.specs.Prelude.{ℕ, Bool, true, List, [], ◌∷◌, replicate}
use Rattle.pulse_base.specs.declared.answer.Cause.{Cause}
use Rattle.iter_syntax.specs.declared.tree.FieldDecl.{FieldDecl}
use Rattle.iter_syntax.specs.declared.tree.Arg.{Arg}
use Rattle.iter_syntax.specs.declared.tree.Iter.{Iter}
use Rattle.iter_syntax.specs.Tree.{block}
use Rattle.iter_check.specs.Layout.{text, size_of}
use Rattle.iter_check.specs.State.{Names, Setting, State}
use Rattle.iter_check.specs.Meaning.{Outcome, then_do, meaning}
use Rattle.iter_check.specs.Meaning as m

-- the walk is done or goes to a pointer, with the bytes of the record and of the pad then; a fault leaves neither
pub data Iterated : Type 0 where
  Done : (record_bytes pad : List ℕ) → Iterated
  Goes : (to : ℕ) (record_bytes pad : List ℕ) → Iterated
  Fault : Cause → Iterated

-- an iteration that falls through its last statement is done
abbrev pub iterated : Outcome → Iterated
iterated (m.Falls s) = Done s.record_bytes s.pad
iterated (m.Done s) = Done s.record_bytes s.pad
iterated (m.Goes p s) = Goes p s.record_bytes s.pad
iterated (m.Fault k) = Fault k

-- end, and then next with no names where end falls through
abbrev pub end_then_next : Setting → Iter → State → Outcome
end_then_next g it s = then_do (meaning g (block it.end_part) s) (λ after. meaning g (block it.next_part) (record after { names = [] }))

-- one iteration at a record with these fields, which lies at `cur`
abbrev pub iteration : List FieldDecl → Iter → List ℕ → ℕ → List ℕ → Bool → Iterated
iteration fields it record_bytes cur pad writable =
    iterated
    (end_then_next
    (record { record_fields = fields; pad_fields = it.pad; cur = cur; writable = writable })
    it
    (record { record_bytes = record_bytes; pad = pad; names = [] }))

-- the first pointer and pad of a walk, the pad of one that is done at once, or a division by zero: init stores to no record
pub data Begun : Type 0 where
  Ready : (cur : ℕ) (pad : List ℕ) → Begun
  Ended : (pad : List ℕ) → Begun
  DivZero : Begun

-- init that falls through its last statement is done
abbrev pub begun : Outcome → Begun
begun (m.Falls s) = Ended s.pad
begun (m.Done s) = Ended s.pad
begun (m.Goes p s) = Ready p s.pad
begun (m.Fault k) = DivZero

-- the arguments as names before others, the last argument the newest; one without a value is not there
abbrev pub with_arguments : List Arg → List ℕ → Names → Names
with_arguments [] values names = names
with_arguments (a ∷ args) [] names = names
with_arguments (a ∷ args) (v ∷ values) names = with_arguments args values ((text a.name, v) ∷ names)

-- init on a zero pad, with the arguments as names and no record
abbrev pub begin : Iter → List ℕ → Begun
begin it values =
    begun
    (meaning
    (record { record_fields = []; pad_fields = it.pad; cur = 0; writable = true })
    (block it.init_part)
    (record { record_bytes = []; pad = replicate (size_of it.pad) 0; names = with_arguments it.args values [] }))
