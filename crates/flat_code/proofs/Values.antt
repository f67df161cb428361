-- The code of a flat expression is right.
use Rattle.std.proofs.Common.{◌≡◌, ℕ, zero, suc, ◌+◌, ◌-◌, ◌*◌, ◌/◌, ◌%◌, ◌^◌, ◌<◌, ◌≤◌, Bool, true, false, not, nat_eq, nat_lt, nat_le, List, [], ◌∷◌, length, take, drop, get_or, Option, Some, None, refl, ap, ◌∙◌, subst, inl, inr, if◌then◌else◌, arith}
use Rattle.std.specs.Prelude.{max}
use Rattle.std.proofs.lemmas.Bool.{and_from}
use Rattle.iter_syntax.specs.declared.tree.BinaryOp.{BinaryOp}
use Rattle.iter_syntax.specs.declared.tree.BinaryOp.TheVariants as op
use Rattle.pulse_isa.specs.declared.instr.Instr.{Instr}
use Rattle.pulse_isa.specs.declared.instr.Instr.TheVariants.{GetW, GetP, GetC, SetL, SetH, Add, Sub, Mul, Div, Mod, And, Or, Xor, Shl, Shr, Jlt, Jle}
use Rattle.pulse_isa.specs.Bytes.{is_width, number, number_at}
use Rattle.pulse_isa.proofs.ByteLaws.{number_at-there}
use Rattle.pulse_isa.specs.Step.{State, given, reading, put, is_inside, step}
use Rattle.code_verify.specs.Fits.{HasBytes, HasSeen}
use Rattle.iter_syntax.specs.declared.tree.Width.{Width}
use Rattle.iter_check.specs.Layout.{width_bytes}
use Rattle.iter_check.specs.FieldValue.{number_of, read_at}
use Rattle.iter_check.specs.Value.{Value, Number, Truth, DivZero, word, one, both, apply, or_value, and_value, binary}
use Rattle.iter_unroll.specs.Flat.{Fx, Fixed, Slots, flat_value}
use Rattle.iter_unroll.specs.Flat as x
use Rattle.flat_code.specs.Operator.{jumps}
use Rattle.flat_code.specs.Code.{Code, at_home, number_code, num_code, one_code, code_of, binary_code, height}
use Rattle.flat_code.specs.Frame.{Frame, FxFits, Agrees}
use Rattle.flat_code.proofs.Base.{kept_same, at, word_from, puts, puts_again}
use Rattle.flat_code.proofs.Right.{Right, by_value_right, at_home_right, both_word}
use Rattle.flat_code.proofs.Operators.{compute_right, flip_right, compare_right, not_right, joined_right, joined_word, one_word}
use Rattle.flat_code.proofs.Instructions.{is_add, is_sub, is_mul, is_div, is_mod, is_and, is_or, is_xor, is_shl, is_shr, jeq_is, jne_is, jlt_is, jle_is, swapped, not_not, le_is, lt_is}

-- ---- leaves

one_right : (i : ℕ → Instr) (v : ℕ) (slots : List ℕ) (s : State) → ((d h : ℕ) (regs : List ℕ) → step (i d) (at s h regs) ≡ put d v (at s h regs)) → Right 0 slots s (one_code i) (Some v)
one_right i v slots s is =
    by_value_right 0 slots s _ 1 (Some v) (λ d t here post regs tied low room le. puts (i d) _ here d t v post s regs regs (omega arith) tied.long (kept_same t t regs) refl (is d here regs)) (λ d t here. refl)

halves : (n h : ℕ) → n / 2 ^ 32 ≡ h → n % 2 ^ 32 % 2 ^ 32 + h * 2 ^ 32 ≡ n
halves n h e = omega (arith, e)

number_right : (n h : ℕ) (slots : List ℕ) (s : State) → n / 2 ^ 32 ≡ h → Right 0 slots s (number_code n h) (Some n)
number_right n zero slots s e = one_right (λ d. SetL d n) n slots s (λ d h regs. refl)
number_right n (suc h) slots s e =
    by_value_right 0 slots s _ 2 (Some n)
    (λ d t here post regs tied low room le.
    let lt : d < 15 = omega arith in
    let g = puts (SetL d (n % 2 ^ 32)) _ here d t (n % 2 ^ 32) (SetH d (suc h) ∷ post) s regs regs lt tied.long (kept_same t t regs) refl refl in
    let hx = g.value in
    let q : step (SetH d (suc h)) (at s (here + 1) g.after) ≡ put d (n % 2 ^ 32 % 2 ^ 32 + suc h * 2 ^ 32) (at s (here + 1) g.after) = rw hx in
    let z : here + 1 + 1 ≡ here + 2 = omega arith in
    word_from _ _ _ _ d d t post s regs (Some n) refl z
    (puts_again (SetH d (suc h)) _ (here + 1) d t n post s regs g.after lt (g.kept.long ∙ tied.long) g.kept g.comes (q ∙ ap (λ v. put d v (at s (here + 1) g.after)) (halves n (suc h) e))))
    (λ d t here. refl)

num_right : (n : ℕ) (slots : List ℕ) (s : State) → Right 0 slots s (num_code n) (Some n)
num_right zero slots s = at_home_right 15 0 slots s (record { v = 0; is = refl; low = inr refl; reads = λ regs tied. tied.zeros })
num_right (suc n) slots s = number_right (suc n) (suc n / 2 ^ 32) slots s refl

slot_right : (k : ℕ) (slots : List ℕ) (s : State) → k < 8 → Right 0 slots s (at_home k) (Some (get_or slots k 0))
slot_right k slots s lt = at_home_right k (get_or slots k 0) slots s (record { v = get_or slots k 0; is = refl; low = inl lt; reads = λ regs tied. tied.slot k lt })

number_is : (l : List ℕ) → number l ≡ number_of l
number_is [] = refl
number_is (b ∷ bs) = ap (λ n. b + 256 * n) (number_is bs)

read_is : (bytes : List ℕ) (o : ℕ) (w : Width) → o + width_bytes w ≤ length bytes → number_at bytes o (width_bytes w) ≡ Some (read_at bytes o w)
read_is bytes o w h = number_at-there bytes o (width_bytes w) h ∙ ap Some (number_is (take (width_bytes w) (drop o bytes)))

seen_right : (o w v : ℕ) (slots : List ℕ) (s : State) (f : Frame) → s.window ≡ f.window → HasSeen f.size f.window o w → number_at s.bytes o w ≡ Some v → Right 0 slots s (one_code (λ d. GetW d w o)) (Some v)
seen_right o w v slots s f hw h e =
    one_right (λ d. GetW d w o) v slots s
    (λ d p regs.
    let inside : is_inside s.window o w ≡ true = ap (λ x. is_inside x o w) hw ∙ h.inside in
    ap (λ b. given b (reading (number_at s.bytes o w) (λ v. put d v (at s p regs)))) (and_from (is_width w) (is_inside s.window o w) h.bytes.width inside)
    ∙ ap (λ n. reading n (λ v. put d v (at s p regs))) e)

pad_right : (o w v n : ℕ) (slots : List ℕ) (s : State) → HasBytes n o w → number_at s.pad o w ≡ Some v → Right 0 slots s (one_code (λ d. GetP d w o)) (Some v)
pad_right o w v n slots s h e =
    one_right (λ d. GetP d w o) v slots s
    (λ d p regs.
    ap (λ b. given b (reading (number_at s.pad o w) (λ v. put d v (at s p regs)))) h.width
    ∙ ap (λ n. reading n (λ v. put d v (at s p regs))) e)

-- ---- words

both_is : (f : ℕ → ℕ → Value) (v w : Option ℕ) → both_word (λ x y. word (f x y)) v w ≡ word (both f v w)
both_is f None w = refl
both_is f (Some x) None = refl
both_is f (Some x) (Some y) = refl

one_is : (f : ℕ → Value) (v : Option ℕ) → one_word (λ x. word (f x)) v ≡ word (one f v)
one_is f None = refl
one_is f (Some x) = refl

or_is : (v w : Value) → joined_word true (word v) (word w) ≡ word (or_value (word v) v w)
or_is DivZero w = refl
or_is (Number zero) w = refl
or_is (Number (suc n)) w = refl
or_is (Truth true) w = refl
or_is (Truth false) w = refl

and_is : (v w : Value) → joined_word false (word v) (word w) ≡ word (and_value (word v) v w)
and_is DivZero w = refl
and_is (Number zero) w = refl
and_is (Number (suc n)) w = refl
and_is (Truth true) w = refl
and_is (Truth false) w = refl

-- ---- expressions

binary_right : (o : BinaryOp) (ha hb : ℕ) (slots : List ℕ) (s : State) (a b : Code) (v w : Value) → Right ha slots s a (word v) → Right hb slots s b (word w) → Right (max ha (hb + 1)) slots s (binary_code o a b) (word (binary o v w))
binary_right op.Or ha hb slots s a b v w ra rb = subst (Right (max ha (hb + 1)) slots s (binary_code op.Or a b)) (or_is v w) (joined_right true ha hb slots s a b (word v) (word w) ra rb)
binary_right op.And ha hb slots s a b v w ra rb = subst (Right (max ha (hb + 1)) slots s (binary_code op.And a b)) (and_is v w) (joined_right false ha hb slots s a b (word v) (word w) ra rb)
binary_right op.Eq ha hb slots s a b v w ra rb = subst (Right (max ha (hb + 1)) slots s (binary_code op.Eq a b)) (both_is (apply op.Eq) (word v) (word w)) (compare_right (jumps op.Eq) nat_eq (jeq_is nat_eq (λ x y. refl)) (jne_is (λ x y. not (nat_eq x y)) (λ x y. refl)) ha hb slots s a b (word v) (word w) ra rb)
binary_right op.Ne ha hb slots s a b v w ra rb = subst (Right (max ha (hb + 1)) slots s (binary_code op.Ne a b)) (both_is (apply op.Ne) (word v) (word w)) (compare_right (jumps op.Ne) (λ x y. not (nat_eq x y)) (jne_is (λ x y. not (nat_eq x y)) (λ x y. refl)) (jeq_is (λ x y. not (not (nat_eq x y))) (λ x y. not_not (nat_eq x y))) ha hb slots s a b (word v) (word w) ra rb)
binary_right op.Lt ha hb slots s a b v w ra rb = subst (Right (max ha (hb + 1)) slots s (binary_code op.Lt a b)) (both_is (apply op.Lt) (word v) (word w)) (compare_right (jumps op.Lt) nat_lt (jlt_is nat_lt (λ x y. refl)) (swapped Jle (λ y x. not (nat_lt x y)) (jle_is (λ y x. not (nat_lt x y)) le_is)) ha hb slots s a b (word v) (word w) ra rb)
binary_right op.Le ha hb slots s a b v w ra rb = subst (Right (max ha (hb + 1)) slots s (binary_code op.Le a b)) (both_is (apply op.Le) (word v) (word w)) (compare_right (jumps op.Le) nat_le (jle_is nat_le (λ x y. refl)) (swapped Jlt (λ y x. not (nat_le x y)) (jlt_is (λ y x. not (nat_le x y)) lt_is)) ha hb slots s a b (word v) (word w) ra rb)
binary_right op.Gt ha hb slots s a b v w ra rb = subst (Right (max ha (hb + 1)) slots s (binary_code op.Gt a b)) (both_is (apply op.Gt) (word v) (word w)) (compare_right (jumps op.Gt) (λ x y. nat_lt y x) (swapped Jlt nat_lt (jlt_is nat_lt (λ x y. refl))) (jle_is (λ x y. not (nat_lt y x)) le_is) ha hb slots s a b (word v) (word w) ra rb)
binary_right op.Ge ha hb slots s a b v w ra rb = subst (Right (max ha (hb + 1)) slots s (binary_code op.Ge a b)) (both_is (apply op.Ge) (word v) (word w)) (compare_right (jumps op.Ge) (λ x y. nat_le y x) (swapped Jle nat_le (jle_is nat_le (λ x y. refl))) (jlt_is (λ x y. not (nat_le y x)) lt_is) ha hb slots s a b (word v) (word w) ra rb)
binary_right op.BitAnd ha hb slots s a b v w ra rb = subst (Right (max ha (hb + 1)) slots s (binary_code op.BitAnd a b)) (both_is (apply op.BitAnd) (word v) (word w)) (compute_right And _ is_and ha hb slots s a b (word v) (word w) ra rb)
binary_right op.BitOr ha hb slots s a b v w ra rb = subst (Right (max ha (hb + 1)) slots s (binary_code op.BitOr a b)) (both_is (apply op.BitOr) (word v) (word w)) (compute_right Or _ is_or ha hb slots s a b (word v) (word w) ra rb)
binary_right op.BitXor ha hb slots s a b v w ra rb = subst (Right (max ha (hb + 1)) slots s (binary_code op.BitXor a b)) (both_is (apply op.BitXor) (word v) (word w)) (compute_right Xor _ is_xor ha hb slots s a b (word v) (word w) ra rb)
binary_right op.Shl ha hb slots s a b v w ra rb = subst (Right (max ha (hb + 1)) slots s (binary_code op.Shl a b)) (both_is (apply op.Shl) (word v) (word w)) (compute_right Shl _ is_shl ha hb slots s a b (word v) (word w) ra rb)
binary_right op.Shr ha hb slots s a b v w ra rb = subst (Right (max ha (hb + 1)) slots s (binary_code op.Shr a b)) (both_is (apply op.Shr) (word v) (word w)) (compute_right Shr _ is_shr ha hb slots s a b (word v) (word w) ra rb)
binary_right op.Add ha hb slots s a b v w ra rb = subst (Right (max ha (hb + 1)) slots s (binary_code op.Add a b)) (both_is (apply op.Add) (word v) (word w)) (compute_right Add _ is_add ha hb slots s a b (word v) (word w) ra rb)
binary_right op.Sub ha hb slots s a b v w ra rb = subst (Right (max ha (hb + 1)) slots s (binary_code op.Sub a b)) (both_is (apply op.Sub) (word v) (word w)) (compute_right Sub _ is_sub ha hb slots s a b (word v) (word w) ra rb)
binary_right op.Mul ha hb slots s a b v w ra rb = subst (Right (max ha (hb + 1)) slots s (binary_code op.Mul a b)) (both_is (apply op.Mul) (word v) (word w)) (compute_right Mul _ is_mul ha hb slots s a b (word v) (word w) ra rb)
binary_right op.Div ha hb slots s a b v w ra rb = subst (Right (max ha (hb + 1)) slots s (binary_code op.Div a b)) (both_is (apply op.Div) (word v) (word w)) (compute_right Div _ is_div ha hb slots s a b (word v) (word w) ra rb)
binary_right op.Mod ha hb slots s a b v w ra rb = subst (Right (max ha (hb + 1)) slots s (binary_code op.Mod a b)) (both_is (apply op.Mod) (word v) (word w)) (compute_right Mod _ is_mod ha hb slots s a b (word v) (word w) ra rb)

pub code_right : (f : Frame) (g : Fixed) (a : Slots) (s : State) → Agrees f g a s → (e : Fx) → FxFits f e → Right (height e) a.slots s (code_of e) (word (flat_value g a e))
code_right f g a s h (x.num n) fit = num_right n a.slots s
code_right f g a s h x.null fit = num_right 0 a.slots s
code_right f g a s h (x.arg k) fit = seen_right (8 * k) 8 (get_or g.args k 0) a.slots s f h.window fit.2 (ap (λ l. number_at l (8 * k) 8) (h.bytes ∙ ap (λ (b : Bool). if b then f.given else a.record_bytes) fit.0) ∙ h.args fit.0 k fit.1)
code_right f g a s h (x.slot k) fit = slot_right k a.slots s fit
code_right f g a s h x.cur fit = one_right GetC g.cur a.slots s (λ d p regs. ap (λ v. put d v (at s p regs)) (h.cur fit))
code_right f g a s h (x.cur_field o w) fit =
    seen_right o (width_bytes w) (read_at a.record_bytes o w) a.slots s f h.window fit.1 (read_is s.bytes o w (omega (arith, fit.1.bytes.within, h.size)) ∙ ap (λ l. Some (read_at l o w)) (h.bytes ∙ ap (λ (b : Bool). if b then f.given else a.record_bytes) fit.0))
code_right f g a s h (x.pad_field o w) fit =
    pad_right o (width_bytes w) (read_at a.pad o w) f.pad a.slots s fit (read_is s.pad o w (omega (arith, fit.within, h.pad_size)) ∙ ap (λ l. Some (read_at l o w)) h.pad)
code_right f g a s h (x.not e) fit =
    subst (Right (height e) a.slots s (code_of (x.not e))) (one_is (λ x. Truth (nat_eq x 0)) (word (flat_value g a e))) (not_right (height e) a.slots s (code_of e) (word (flat_value g a e)) (code_right f g a s h e fit))
code_right f g a s h (x.flip e) fit =
    subst (Right (height e) a.slots s (code_of (x.flip e))) (one_is (λ x. Number (2 ^ 64 - 1 - x)) (word (flat_value g a e))) (flip_right (height e) a.slots s (code_of e) (word (flat_value g a e)) (code_right f g a s h e fit))
code_right f g a s h (x.bin o b c) fit =
    binary_right o (height b) (height c) a.slots s (code_of b) (code_of c) (flat_value g a b) (flat_value g a c) (code_right f g a s h b fit.0) (code_right f g a s h c fit.1)
code_right f g a s h (x.at b c) fit =
    binary_right op.Add (height b) (height c) a.slots s (code_of b) (code_of c) (flat_value g a b) (flat_value g a c) (code_right f g a s h b fit.0) (code_right f g a s h c fit.1)
