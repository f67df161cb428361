-- What an expression is worth: a number below 2 ^ 64, a truth value, or a division by zero.
-- Where a number is asked, a truth value is 1 or 0; where a truth value is asked, each number but 0 is true.
use Rattle.std.specs.Prelude.{ℕ, zero, suc, ◌+◌, ◌-◌, ◌*◌, ◌/◌, ◌%◌, ◌^◌, Bool, true, false, not, nat_eq, nat_lt, nat_le, bit_and, bit_or, bit_xor, Option, Some, None}
use Rattle.iter_syntax.specs.declared.tree.BinaryOp.{BinaryOp}
use Rattle.iter_syntax.specs.declared.tree.BinaryOp.TheVariants as op
use Rattle.iter_syntax.specs.Tree.{Ex}
use Rattle.iter_syntax.specs.Tree as t
use Rattle.iter_check.specs.Layout.{text, find_field}
use Rattle.iter_check.specs.FieldValue.{read_item}
use Rattle.iter_check.specs.State.{Setting, State, look}

pub data Value : Type 0 where
  Number : ℕ → Value
  Truth : Bool → Value
  DivZero : Value

abbrev pub bit : Bool → ℕ
bit true = 1
bit false = 0

-- the number that stands for a value; a division by zero has none
abbrev pub word : Value → Option ℕ
word (Number n) = Some n
word (Truth b) = Some (bit b)
word DivZero = None

-- what becomes of one number, and of two of which the left comes first
abbrev pub one : (ℕ → Value) → Option ℕ → Value
one f None = DivZero
one f (Some x) = f x

abbrev pub both : (ℕ → ℕ → Value) → Option ℕ → Option ℕ → Value
both f None w = DivZero
both f (Some x) None = DivZero
both f (Some x) (Some y) = f x y

abbrev pub divided : (ℕ → ℕ → ℕ) → ℕ → ℕ → Value
divided f x zero = DivZero
divided f x (suc y) = Number (f x (suc y))

-- a binary operator on two numbers below 2 ^ 64; `||` and `&&` never come here, since `binary` decides them
abbrev pub apply : BinaryOp → ℕ → ℕ → Value
apply op.Or x y = Number y
apply op.And x y = Number y
apply op.Eq x y = Truth (nat_eq x y)
apply op.Ne x y = Truth (not (nat_eq x y))
apply op.Lt x y = Truth (nat_lt x y)
apply op.Le x y = Truth (nat_le x y)
apply op.Gt x y = Truth (nat_lt y x)
apply op.Ge x y = Truth (nat_le y x)
apply op.BitAnd x y = Number (bit_and x y)
apply op.BitOr x y = Number (bit_or x y)
apply op.BitXor x y = Number (bit_xor x y)
apply op.Shl x y = Number (x * 2 ^ (y % 64) % 2 ^ 64)
apply op.Shr x y = Number (x / 2 ^ (y % 64))
apply op.Add x y = Number ((x + y) % 2 ^ 64)
apply op.Sub x y = Number ((x + (2 ^ 64 - y)) % 2 ^ 64)
apply op.Mul x y = Number (x * y % 2 ^ 64)
apply op.Div x y = divided (λ a b. a / b) x y
apply op.Mod x y = divided (λ a b. a % b) x y

-- `a || b` is `a` where that is true, else `b`
abbrev pub or_value : Option ℕ → Value → Value → Value
or_value None v w = DivZero
or_value (Some zero) v w = w
or_value (Some (suc n)) v w = v

-- `a && b` is `b` where `a` is true, else `a`
abbrev pub and_value : Option ℕ → Value → Value → Value
and_value None v w = DivZero
and_value (Some zero) v w = v
and_value (Some (suc n)) v w = w

-- a binary operator on the values of its sides; the right side of `||` and `&&` counts only where it decides
abbrev pub binary : BinaryOp → Value → Value → Value
binary op.Or v w = or_value (word v) v w
binary op.And v w = and_value (word v) v w
binary o v w = both (apply o) (word v) (word w)

-- the value of an expression; a field that is no array is its only element, and a field with no index is its first
abbrev pub value_of : Setting → State → Ex → Value
value_of g s (t.num p n) = Number n
value_of g s (t.null p) = Number 0
value_of g s (t.name w) = Number (look (text w) s.names)
value_of g s (t.cur p) = Number g.cur
value_of g s (t.cur_field p w) = Number (read_item (find_field g.record_fields (text w)) 0 s.record_bytes)
value_of g s (t.cur_item p w i) = one (λ k. Number (read_item (find_field g.record_fields (text w)) k s.record_bytes)) (word (value_of g s i))
value_of g s (t.pad_field p w) = Number (read_item (find_field g.pad_fields (text w)) 0 s.pad)
value_of g s (t.pad_item p w i) = one (λ k. Number (read_item (find_field g.pad_fields (text w)) k s.pad)) (word (value_of g s i))
value_of g s (t.not p e) = one (λ x. Truth (nat_eq x 0)) (word (value_of g s e))
value_of g s (t.flip p e) = one (λ x. Number (2 ^ 64 - 1 - x)) (word (value_of g s e))
value_of g s (t.bin p o a b) = binary o (value_of g s a) (value_of g s b)
value_of g s (t.at p a b) = both (apply op.Add) (word (value_of g s a)) (word (value_of g s b))
