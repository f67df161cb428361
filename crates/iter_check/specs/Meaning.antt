-- What a list of statements means: where it leads, and the record's bytes, the pad and the names that it leaves.
use Rattle.std.specs.Prelude.{ℕ, zero, suc, ◌+◌, ◌-◌, Bool, true, false, ◌∷◌, length, drop, Option, Some, None}
use Rattle.pulse_base.specs.declared.answer.Cause.{Cause}
use Rattle.pulse_base.specs.declared.answer.Cause.TheVariants as cause
use Rattle.iter_syntax.specs.declared.tree.Word.{Word}
use Rattle.iter_syntax.specs.Tree.{Ex, Sts}
use Rattle.iter_syntax.specs.Tree as t
use Rattle.iter_check.specs.Layout.{text, find_field}
use Rattle.iter_check.specs.FieldValue.{write_item}
use Rattle.iter_check.specs.State.{Setting, State, change}
use Rattle.iter_check.specs.Value.{word, value_of}

-- the statements fall through, are done, or go to a pointer; a fault leaves nothing
pub data Outcome : Type 0 where
  Falls : State → Outcome
  Done : State → Outcome
  Goes : ℕ → State → Outcome
  Fault : Cause → Outcome

-- a let or a loop variable comes in scope
abbrev pub declare : Word → ℕ → State → State
declare w v s = record s { names = (text w, v) ∷ s.names }

-- an assignment to a let
abbrev pub assign : Word → ℕ → State → State
assign w v s = record s { names = change (text w) v s.names }

-- a store to an element of a field of the pad
abbrev pub store_pad : Setting → Word → ℕ → ℕ → State → State
store_pad g w i v s = record s { pad = write_item (find_field g.pad_fields (text w)) i v s.pad }

-- a store to an element of a field of the record
abbrev pub store_record : Setting → Word → ℕ → ℕ → State → State
store_record g w i v s = record s { record_bytes = write_item (find_field g.record_fields (text w)) i v s.record_bytes }

-- what a value is used for
abbrev pub given : Option ℕ → (ℕ → Outcome) → Outcome
given None f = Fault cause.DivZero
given (Some v) f = f v

-- goes on where the record may be written
abbrev pub if_writable : Bool → Outcome → Outcome
if_writable true o = o
if_writable false o = Fault cause.NotWritable

abbrev pub then_do : Outcome → (State → Outcome) → Outcome
then_do (Falls s) f = f s
then_do (Done s) f = Done s
then_do (Goes p s) f = Goes p s
then_do (Fault k) f = Fault k

-- the names that a block brought in scope end with it: there were `n` before it
abbrev pub within : ℕ → Outcome → Outcome
within n (Falls s) = Falls (record s { names = drop (length s.names - n) s.names })
within n (Done s) = Done s
within n (Goes p s) = Goes p s
within n (Fault k) = Fault k

-- a block, by what its statements mean
abbrev pub inside : (State → Outcome) → State → Outcome
inside f s = within (length s.names) (f s)

-- the first where a condition holds, else the other
abbrev pub pick : ℕ → Outcome → Outcome → Outcome
pick zero first other = other
pick (suc v) first other = first

-- a block once for each number of a loop variable, from `i` on in so many turns
abbrev pub turns : Word → ℕ → ℕ → (State → Outcome) → State → Outcome
turns w i zero f s = Falls s
turns w i (suc n) f s = then_do (within (length s.names) (f (declare w i s))) (turns w (i + 1) n f)

-- what the statements mean; an index is computed before the value that is stored there, and the value before the
-- permission is asked
abbrev pub meaning : Setting → Sts → State → Outcome
meaning g t.end s = Falls s
meaning g (t.bind p w e rest) s = given (word (value_of g s e)) (λ v. meaning g rest (declare w v s))
meaning g (t.set p w e rest) s = given (word (value_of g s e)) (λ v. meaning g rest (assign w v s))
meaning g (t.set_pad p w e rest) s = given (word (value_of g s e)) (λ v. meaning g rest (store_pad g w 0 v s))
meaning g (t.set_pad_item p w i e rest) s =
    given (word (value_of g s i)) (λ k. given (word (value_of g s e)) (λ v. meaning g rest (store_pad g w k v s)))
meaning g (t.set_cur p w e rest) s =
    given (word (value_of g s e)) (λ v. if_writable g.writable (meaning g rest (store_record g w 0 v s)))
meaning g (t.set_cur_item p w i e rest) s =
    given (word (value_of g s i)) (λ k. given (word (value_of g s e)) (λ v. if_writable g.writable (meaning g rest (store_record g w k v s))))
meaning g (t.when p c first rest) s =
    given (word (value_of g s c)) (λ v. then_do (pick v (inside (meaning g first) s) (Falls s)) (meaning g rest))
meaning g (t.choose p c first other rest) s =
    given (word (value_of g s c)) (λ v. then_do (pick v (inside (meaning g first) s) (inside (meaning g other) s)) (meaning g rest))
meaning g (t.loop p w first past body rest) s = then_do (turns w first (past - first) (meaning g body) s) (meaning g rest)
meaning g (t.done p rest) s = Done s
meaning g (t.go p e rest) s = given (word (value_of g s e)) (λ v. Goes v s)
