-- Straight code: lets are slots, arguments are numbers, fields are offsets and widths, and there are no loops, names
-- or scopes. What it means, and what an iteration and the start of a walk are by it.
use Rattle.std.specs.Prelude.{ℕ, zero, suc, ◌-◌, ◌^◌, Bool, true, false, nat_eq, List, [], get_or, set, replicate, Option, Some, None}
use Rattle.pulse_base.specs.declared.answer.Cause.TheVariants as cause
use Rattle.iter_syntax.specs.declared.tree.Width.{Width}
use Rattle.iter_syntax.specs.declared.tree.BinaryOp.{BinaryOp}
use Rattle.iter_syntax.specs.declared.tree.BinaryOp.TheVariants as op
use Rattle.iter_check.specs.FieldValue.{read_at, write_at}
use Rattle.iter_check.specs.Value.{Value, Number, Truth, word, one, both, apply, binary}
use Rattle.iter_check.specs.Iteration.{Iterated, Begun}
use Rattle.iter_check.specs.Iteration as i

-- an expression; a field of the record or of the pad is its offset and its width
pub data Fx : Type 0 where
  num : ℕ → Fx
  null : Fx
  arg : ℕ → Fx
  slot : ℕ → Fx
  cur : Fx
  cur_field : ℕ → Width → Fx
  pad_field : ℕ → Width → Fx
  not : Fx → Fx
  flip : Fx → Fx
  bin : BinaryOp → Fx → Fx → Fx
  at : Fx → Fx → Fx

-- a list of statements: each but `end` is followed by the rest
pub data Fs : Type 0 where
  end : Fs
  put_slot : ℕ → Fx → Fs → Fs
  put_pad : ℕ → Width → Fx → Fs → Fs
  put_cur : ℕ → Width → Fx → Fs → Fs
  choose : Fx → Fs → Fs → Fs → Fs
  done : Fs → Fs
  go : Fx → Fs → Fs

-- what stays: the arguments, the pointer to the record, and whether the record may be written
pub record Fixed : Type 0 where
  pub args : List ℕ
  pub cur : ℕ
  pub writable : Bool

-- what statements change: the bytes of the record and of the pad, and the values of the slots
pub record Slots : Type 0 where
  pub record_bytes : List ℕ
  pub pad : List ℕ
  pub slots : List ℕ

-- the value of an expression; a slot or an argument that is not there is 0
abbrev pub flat_value : Fixed → Slots → Fx → Value
flat_value g s (num n) = Number n
flat_value g s null = Number 0
flat_value g s (arg k) = Number (get_or g.args k 0)
flat_value g s (slot k) = Number (get_or s.slots k 0)
flat_value g s cur = Number g.cur
flat_value g s (cur_field o w) = Number (read_at s.record_bytes o w)
flat_value g s (pad_field o w) = Number (read_at s.pad o w)
flat_value g s (not e) = one (λ x. Truth (nat_eq x 0)) (word (flat_value g s e))
flat_value g s (flip e) = one (λ x. Number (2 ^ 64 - 1 - x)) (word (flat_value g s e))
flat_value g s (bin o a b) = binary o (flat_value g s a) (flat_value g s b)
flat_value g s (at a b) = both (apply op.Add) (word (flat_value g s a)) (word (flat_value g s b))

-- the statements fall through, or end the iteration
pub data Leaving : Type 0 where
  Falls : Slots → Leaving
  Ends : Iterated → Leaving

-- what a value is used for
abbrev pub flat_given : Option ℕ → (ℕ → Leaving) → Leaving
flat_given None f = Ends (i.Fault cause.DivZero)
flat_given (Some v) f = f v

-- goes on where the record may be written
abbrev pub flat_writable : Bool → Leaving → Leaving
flat_writable true o = o
flat_writable false o = Ends (i.Fault cause.NotWritable)

abbrev pub flat_then : Leaving → (Slots → Leaving) → Leaving
flat_then (Falls s) f = f s
flat_then (Ends r) f = Ends r

-- the first where a condition holds, else the other
abbrev pub flat_pick : ℕ → Leaving → Leaving → Leaving
flat_pick zero first other = other
flat_pick (suc v) first other = first

abbrev pub to_slot : ℕ → ℕ → Slots → Slots
to_slot k v s = record s { slots = set s.slots k v }

abbrev pub to_pad : ℕ → Width → ℕ → Slots → Slots
to_pad o w v s = record s { pad = write_at s.pad o w v }

abbrev pub to_cur : ℕ → Width → ℕ → Slots → Slots
to_cur o w v s = record s { record_bytes = write_at s.record_bytes o w v }

-- what the statements mean; a store's value is computed before the permission is asked
abbrev pub flat_meaning : Fixed → Fs → Slots → Leaving
flat_meaning g end s = Falls s
flat_meaning g (put_slot k e rest) s = flat_given (word (flat_value g s e)) (λ v. flat_meaning g rest (to_slot k v s))
flat_meaning g (put_pad o w e rest) s = flat_given (word (flat_value g s e)) (λ v. flat_meaning g rest (to_pad o w v s))
flat_meaning g (put_cur o w e rest) s =
    flat_given (word (flat_value g s e)) (λ v. flat_writable g.writable (flat_meaning g rest (to_cur o w v s)))
flat_meaning g (choose e first other rest) s =
    flat_given (word (flat_value g s e)) (λ v. flat_then (flat_pick v (flat_meaning g first s) (flat_meaning g other s)) (flat_meaning g rest))
flat_meaning g (done rest) s = Ends (i.Done s.record_bytes s.pad)
flat_meaning g (go e rest) s = flat_given (word (flat_value g s e)) (λ v. Ends (i.Goes v s.record_bytes s.pad))

-- code that falls through its last statement is done
abbrev pub flat_iterated : Leaving → Iterated
flat_iterated (Falls s) = i.Done s.record_bytes s.pad
flat_iterated (Ends r) = r

-- eight slots of 0
abbrev pub start : List ℕ → List ℕ → Slots
start record_bytes pad = record { record_bytes = record_bytes; pad = pad; slots = replicate 8 0 }

-- one iteration: end, and then next with the slots that end leaves
abbrev pub flat_iteration : Fixed → Fs → Fs → List ℕ → List ℕ → Iterated
flat_iteration g end_part next_part record_bytes pad =
    flat_iterated (flat_then (flat_meaning g end_part (start record_bytes pad)) (flat_meaning g next_part))

abbrev pub flat_begun : Iterated → Begun
flat_begun (i.Done record_bytes pad) = i.Ended pad
flat_begun (i.Goes to record_bytes pad) = i.Ready to pad
flat_begun (i.Fault k) = i.DivZero

-- the start of a walk: init on a zero pad, with no record
abbrev pub flat_begin : Fs → List ℕ → ℕ → Begun
flat_begin init_part args pad_size =
    flat_begun
    (flat_iterated
    (flat_meaning (record { args = args; cur = 0; writable = true }) init_part (start [] (replicate pad_size 0))))
