-- Every instruction of an expression's code keeps the verifier's rules at its place.
use Rattle.std.proofs.Common.{◌≡◌, ℕ, zero, suc, ◌+◌, ◌*◌, ◌/◌, ◌%◌, ◌^◌, ◌<◌, ◌≤◌, Bool, true, false, not, nat_eq, if◌then◌else◌, List, [], ◌∷◌, ◌++◌, length, Option, Some, None, refl, ap, subst, arith, length-append}
use Rattle.std.specs.Prelude.{max}
use Rattle.iter_syntax.specs.declared.tree.BinaryOp.{BinaryOp}
use Rattle.iter_syntax.specs.declared.tree.BinaryOp.TheVariants as op
use Rattle.pulse_isa.specs.declared.instr.Instr.{Instr}
use Rattle.pulse_isa.specs.declared.instr.Instr.TheVariants.{GetW, GetP, GetC, SetL, Mov, Not, Jmp}
use Rattle.code_verify.specs.Rules.{is_load, kind_fits}
use Rattle.code_verify.specs.Fits.{Fits}
use Rattle.iter_check.specs.Layout.{width_bytes}
use Rattle.iter_unroll.specs.Flat.{Fx}
use Rattle.iter_unroll.specs.Flat as x
use Rattle.flat_code.specs.declared.operator.Way.{Way}
use Rattle.flat_code.specs.declared.operator.Way.TheVariants as w
use Rattle.flat_code.specs.Operator.{way_of, computes, jumps}
use Rattle.flat_code.specs.Code.{Code, test, at_home, by_value, by_branch, operand, unless_home, len_unless_home, operand_code, operand_len, two_code, compute, flip_code, compare, not_code, move, joined_target, joined, by_way, number_code, num_code, one_code, code_of, height}
use Rattle.flat_code.specs.Frame.{Frame, FxFits}
use Rattle.flat_code.proofs.Long.{Long, operand_long, two_long, two_length, flip_length, code_long}
use Rattle.flat_code.proofs.Operators.{target_above}

-- one instruction that is no LOAD, at place p of code with `len` places
pub record OneFits (f : Frame) (len p : ℕ) (i : Instr) : Type 0 where
  pub fits : Fits f.size f.pad f.window len p i
  pub kind : kind_fits f.init i ≡ true
  pub plain : is_load i ≡ false

-- all of them, from place p on
abbrev pub FitAll : Frame → ℕ → ℕ → List Instr → Type 0
FitAll f len p [] = Unit {0}
FitAll f len p (i ∷ is) = OneFits f len p i × FitAll f len (p + 1) is

pub fit_append : (f : Frame) (len p : ℕ) (a b : List Instr) → FitAll f len p a → FitAll f len (p + length a) b → FitAll f len p (a ++ b)
fit_append f len p [] b h k = let z : p + 0 ≡ p = omega arith in subst (λ q. FitAll f len q b) z k
fit_append f len p (i ∷ a) b h k =
    let z : p + length (i ∷ a) ≡ p + 1 + length a = omega arith in
    (h.0, fit_append f len (p + 1) a b h.1 (subst (λ q. FitAll f len q b) z k))

pub record Sound (h : ℕ) (f : Frame) (len : ℕ) (c : Code) : Type 0 where
  pub value : (d t here : ℕ) → 8 ≤ t → t + h < 15 → d ≤ t → here + length (c.value d t here) < len → FitAll f len here (c.value d t here)
  pub branch : (sense : Bool) (to t here : ℕ) → 8 ≤ t → t + h < 15 → here + c.branch_len ≤ to → to < len → FitAll f len here (c.branch sense to t here)
  pub home : (t : ℕ) → t < 16 → operand c.home t < 16

-- ---- the three ways

pub test_fits : (f : Frame) (len p : ℕ) (sense : Bool) (k to : ℕ) → k < 16 → p < to → to < len → OneFits f len p (test sense k to)
test_fits f len p true k to lt up low = record { fits = (record { a_in = lt; b_in = omega arith; next = omega arith }, record { above = up; below = low }); kind = refl; plain = refl }
test_fits f len p false k to lt up low = record { fits = (record { a_in = lt; b_in = omega arith; next = omega arith }, record { above = up; below = low }); kind = refl; plain = refl }

jmp_fits : (f : Frame) (len p to : ℕ) → p < to → to < len → OneFits f len p (Jmp to)
jmp_fits f len p to up low = record { fits = record { above = up; below = low }; kind = refl; plain = refl }

set_fits : (f : Frame) (len p d n : ℕ) → d < 16 → p + 1 < len → OneFits f len p (SetL d n)
set_fits f len p d n hd q = record { fits = (hd, q); kind = refl; plain = refl }

mov_fits : (f : Frame) (len p d b : ℕ) → d < 16 → b < 16 → p + 1 < len → OneFits f len p (Mov d b)
mov_fits f len p d b hd hb q = record { fits = record { a_in = hd; b_in = hb; next = q }; kind = refl; plain = refl }

by_value_sound : (h : ℕ) (f : Frame) (len : ℕ) (v : ℕ → ℕ → ℕ → List Instr) (n : ℕ) → ((d t here : ℕ) → length (v d t here) ≡ n) → ((d t here : ℕ) → 8 ≤ t → t + h < 15 → d ≤ t → here + length (v d t here) < len → FitAll f len here (v d t here)) → Sound h f len (by_value v n)
by_value_sound h f len v n long g = record {
  value = g;
  branch = λ sense to t here low room past lt.
      fit_append f len here (v t t here) (test sense t to ∷ []) (g t t here low room (omega arith) (omega (arith, long t t here)))
      (test_fits f len (here + length (v t t here)) sense t to (omega arith) (omega (arith, long t t here)) lt, tt);
  home = λ t lt. lt;
}

at_home_sound : (f : Frame) (len k : ℕ) → k < 16 → Sound 0 f len (at_home k)
at_home_sound f len k lt = record {
  value = λ d t here low room le q. (mov_fits f len here d k (omega arith) lt q, tt);
  branch = λ sense to t here low room past q. (test_fits f len here sense k to lt (omega arith) q, tt);
  home = λ t h. lt;
}

by_branch_sound : (h : ℕ) (f : Frame) (len : ℕ) (c : Bool → ℕ → ℕ → ℕ → List Instr) (n : ℕ) → ((sense : Bool) (to t here : ℕ) → length (c sense to t here) ≡ n) → ((sense : Bool) (to t here : ℕ) → 8 ≤ t → t + h < 15 → here + n ≤ to → to < len → FitAll f len here (c sense to t here)) → Sound h f len (by_branch c n)
by_branch_sound h f len c n long g = record {
  value = λ d t here low room le q.
      let code = c false (here + n + 2) t here in
      let tail = SetL d 1 ∷ Jmp (here + n + 3) ∷ SetL d 0 ∷ [] in
      let la = length-append code tail in
      let lc = long false (here + n + 2) t here in
      fit_append f len here code tail (g false (here + n + 2) t here low room (omega arith) (omega (arith, la, lc, q)))
      (set_fits f len _ d 1 (omega arith) (omega (arith, la, lc, q)), (jmp_fits f len _ _ (omega (arith, la, lc, q)) (omega (arith, la, lc, q)), (set_fits f len _ d 0 (omega arith) (omega (arith, la, lc, q)), tt)));
  branch = g;
  home = λ t lt. lt;
}

-- ---- operands

pub operand_sound : (h : ℕ) (f : Frame) (len : ℕ) (c : Code) → Long c → Sound h f len c → (t here : ℕ) → 8 ≤ t → t + h < 15 → here + operand_len c < len → FitAll f len here (operand_code c t here)
operand_sound h f len c l g t here low room lt = by_case c.home lt
  where
    by_case : (home : Option ℕ) → here + len_unless_home home c.value_len < len → FitAll f len here (unless_home home (c.value t t here))
    by_case None lt = g.value t t here low room (omega arith) (omega (arith, l.value t here))
    by_case (Some k) lt = tt

two_sound : (ha hb : ℕ) (f : Frame) (len : ℕ) (a b : Code) → Long a → Long b → Sound ha f len a → Sound hb f len b → (t here : ℕ) → 8 ≤ t → t + ha < 15 → t + 1 + hb < 15 → here + operand_len a + operand_len b < len → FitAll f len here (two_code a b t here)
two_sound ha hb f len a b la lb ga gb t here low rooma roomb lt =
    let l = operand_long a la t here in
    let z : here + operand_len a ≡ here + length (operand_code a t here) = omega arith in
    fit_append f len here (operand_code a t here) (operand_code b (t + 1) (here + operand_len a))
    (operand_sound ha f len a la ga t here low rooma (omega arith))
    (subst (λ p. FitAll f len p (operand_code b (t + 1) (here + operand_len a))) z (operand_sound hb f len b lb gb (t + 1) (here + operand_len a) (omega arith) roomb lt))

-- ---- operators

flip_sound : (h : ℕ) (f : Frame) (len : ℕ) (a : Code) → Long a → Sound h f len a → Sound h f len (flip_code a)
flip_sound h f len a l g =
    by_value_sound h f len _ (operand_len a + 1) (flip_length a l)
    (λ d t here low room le q.
    let c = operand_code a t here in
    let k = flip_length a l d t here in
    let m = operand_long a l t here in
    fit_append f len here c (Not d (operand a.home t) ∷ []) (operand_sound h f len a l g t here low room (omega (arith, k, q)))
    (record { fits = record { a_in = omega arith; b_in = g.home t (omega arith); next = omega (arith, k, m, q) }; kind = refl; plain = refl }, tt))

not_sound : (h : ℕ) (f : Frame) (len : ℕ) (a : Code) → Long a → Sound h f len a → Sound h f len (not_code a)
not_sound h f len a l g =
    by_branch_sound h f len _ a.branch_len (λ sense to t here. l.branch (not sense) to t here) (λ sense to t here low room past lt. g.branch (not sense) to t here low room past lt)

computes_fits : (o : BinaryOp) (f : Frame) (len p d b c : ℕ) → d < 16 → b < 16 → c < 16 → p + 1 < len → OneFits f len p (computes o d b c)
computes_fits op.Add f len p d b c hd hb hc q = record { fits = record { a_in = hd; b_in = hb; c_in = hc; next = q }; kind = refl; plain = refl }
computes_fits _ f len p d b c hd hb hc q = record { fits = record { a_in = hd; b_in = hb; c_in = hc; next = q }; kind = refl; plain = refl }

compute_sound : (o : BinaryOp) (ha hb : ℕ) (f : Frame) (len : ℕ) (a b : Code) → Long a → Long b → Sound ha f len a → Sound hb f len b → Sound (max ha (hb + 1)) f len (compute (computes o) a b)
compute_sound o ha hb f len a b la lb ga gb =
    by_value_sound (max ha (hb + 1)) f len _ (operand_len a + operand_len b + 1)
    (λ d t here. two_length a b la lb t here (computes o d (operand a.home t) (operand b.home (t + 1))))
    (λ d t here low room le q.
    let two = two_code a b t here in
    let i = computes o d (operand a.home t) (operand b.home (t + 1)) in
    let l = two_length a b la lb t here i in
    let m = two_long a b la lb t here in
    fit_append f len here two (i ∷ []) (two_sound ha hb f len a b la lb ga gb t here low (omega arith) (omega arith) (omega (arith, l, q)))
    (computes_fits o f len _ d _ _ (omega arith) (ga.home t (omega arith)) (gb.home (t + 1) (omega arith)) (omega (arith, l, m, q)), tt))

jumps_fits : (o : BinaryOp) (sense : Bool) (f : Frame) (len p b c to : ℕ) → b < 16 → c < 16 → p < to → to < len → OneFits f len p (jumps o sense b c to)
jumps_fits op.Eq true f len p b c to hb hc up low = record { fits = (record { a_in = hb; b_in = hc; next = omega arith }, record { above = up; below = low }); kind = refl; plain = refl }
jumps_fits op.Eq false f len p b c to hb hc up low = record { fits = (record { a_in = hb; b_in = hc; next = omega arith }, record { above = up; below = low }); kind = refl; plain = refl }
jumps_fits op.Ne true f len p b c to hb hc up low = record { fits = (record { a_in = hb; b_in = hc; next = omega arith }, record { above = up; below = low }); kind = refl; plain = refl }
jumps_fits op.Ne false f len p b c to hb hc up low = record { fits = (record { a_in = hb; b_in = hc; next = omega arith }, record { above = up; below = low }); kind = refl; plain = refl }
jumps_fits op.Lt true f len p b c to hb hc up low = record { fits = (record { a_in = hb; b_in = hc; next = omega arith }, record { above = up; below = low }); kind = refl; plain = refl }
jumps_fits op.Lt false f len p b c to hb hc up low = record { fits = (record { a_in = hc; b_in = hb; next = omega arith }, record { above = up; below = low }); kind = refl; plain = refl }
jumps_fits op.Le true f len p b c to hb hc up low = record { fits = (record { a_in = hb; b_in = hc; next = omega arith }, record { above = up; below = low }); kind = refl; plain = refl }
jumps_fits op.Le false f len p b c to hb hc up low = record { fits = (record { a_in = hc; b_in = hb; next = omega arith }, record { above = up; below = low }); kind = refl; plain = refl }
jumps_fits op.Gt true f len p b c to hb hc up low = record { fits = (record { a_in = hc; b_in = hb; next = omega arith }, record { above = up; below = low }); kind = refl; plain = refl }
jumps_fits op.Gt false f len p b c to hb hc up low = record { fits = (record { a_in = hb; b_in = hc; next = omega arith }, record { above = up; below = low }); kind = refl; plain = refl }
jumps_fits op.Ge true f len p b c to hb hc up low = record { fits = (record { a_in = hc; b_in = hb; next = omega arith }, record { above = up; below = low }); kind = refl; plain = refl }
jumps_fits op.Ge false f len p b c to hb hc up low = record { fits = (record { a_in = hb; b_in = hc; next = omega arith }, record { above = up; below = low }); kind = refl; plain = refl }
jumps_fits _ sense f len p b c to hb hc up low = jmp_fits f len p to up low

compare_sound : (o : BinaryOp) (ha hb : ℕ) (f : Frame) (len : ℕ) (a b : Code) → Long a → Long b → Sound ha f len a → Sound hb f len b → Sound (max ha (hb + 1)) f len (compare (jumps o) a b)
compare_sound o ha hb f len a b la lb ga gb =
    by_branch_sound (max ha (hb + 1)) f len _ (operand_len a + operand_len b + 1)
    (λ sense to t here. two_length a b la lb t here (jumps o sense (operand a.home t) (operand b.home (t + 1)) to))
    (λ sense to t here low room past lt.
    let two = two_code a b t here in
    let m = two_long a b la lb t here in
    fit_append f len here two (jumps o sense (operand a.home t) (operand b.home (t + 1)) to ∷ []) (two_sound ha hb f len a b la lb ga gb t here low (omega arith) (omega arith) (omega arith))
    (jumps_fits o sense f len (here + length two) _ _ to (ga.home t (omega arith)) (gb.home (t + 1) (omega arith)) (omega (arith, m, past)) lt, tt))

move_fits : (f : Frame) (len p d t : ℕ) (b : Bool) → d < 16 → t < 16 → p + length (if b then [] else Mov d t ∷ []) < len → FitAll f len p (if b then [] else Mov d t ∷ [])
move_fits f len p d t true hd ht lt = tt
move_fits f len p d t false hd ht lt = (mov_fits f len p d t hd ht lt, tt)

target_below : (short sense : Bool) (n to past : ℕ) → to < n → past < n → joined_target short sense to past < n
target_below true true n to past h k = h
target_below true false n to past h k = k
target_below false true n to past h k = k
target_below false false n to past h k = h

joined_sound : (short : Bool) (ha hb : ℕ) (f : Frame) (len : ℕ) (a b : Code) → Long a → Long b → Sound ha f len a → Sound hb f len b → Sound (max ha (hb + 1)) f len (joined short a b)
joined_sound short ha hb f len a b long_a long_b ga gb = record {
  value = λ d t here low room le q.
      let h1 = here + a.value_len in
      let past = h1 + 1 + b.value_len in
      let ca = a.value t t here in
      let cb = b.value t t (h1 + 1) in
      let mv = move d t in
      let la = long_a.value t here in
      let lb = long_b.value t (h1 + 1) in
      let l1 = length-append ca (test short t past ∷ (cb ++ mv)) in
      let l2 = length-append cb mv in
      let z : h1 + 1 ≡ here + length ca + 1 = omega arith in
      fit_append f len here ca (test short t past ∷ (cb ++ mv)) (ga.value t t here low (omega arith) (omega arith) (omega (arith, l1, q))) (
        test_fits f len (here + length ca) short t past (omega arith) (omega (arith, la)) (omega (arith, l1, l2, la, lb, q)),
        subst (λ p. FitAll f len p (cb ++ mv)) z
            (fit_append f len (h1 + 1) cb mv (gb.value t t (h1 + 1) low (omega arith) (omega arith) (omega (arith, l1, l2, la, q)))
            (move_fits f len (h1 + 1 + length cb) d t (nat_eq d t) (omega arith) (omega arith) (omega (arith, l1, l2, la, q)))),
      );
  branch = λ sense to t here low room past lt.
      let h1 = here + a.branch_len in
      let out = h1 + b.branch_len in
      let target = joined_target short sense to out in
      let la = long_a.branch short target t here in
      let z : h1 ≡ here + length (a.branch short target t here) = omega arith in
      fit_append f len here (a.branch short target t here) (b.branch sense to t h1)
      (ga.branch short target t here low (omega arith) (target_above short sense h1 to out (omega arith) (omega arith)) (target_below short sense len to out lt (omega arith)))
      (subst (λ p. FitAll f len p (b.branch sense to t h1)) z (gb.branch sense to t h1 low (omega arith) (omega arith) lt));
  home = λ t lt. lt;
}

way_sound : (way : Way) (o : BinaryOp) (ha hb : ℕ) (f : Frame) (len : ℕ) (a b : Code) → Long a → Long b → Sound ha f len a → Sound hb f len b → Sound (max ha (hb + 1)) f len (by_way way o a b)
way_sound (w.Joined short) o = joined_sound short
way_sound w.Compared o = compare_sound o
way_sound w.Computed o = compute_sound o

-- ---- expressions

one_sound : (f : Frame) (len : ℕ) (i : ℕ → Instr) → ((d p : ℕ) → d < 16 → p + 1 < len → OneFits f len p (i d)) → Sound 0 f len (one_code i)
one_sound f len i fits = by_value_sound 0 f len _ 1 (λ d t here. refl) (λ d t here low room le q. (fits d here (omega arith) q, tt))

num_sound : (f : Frame) (len n : ℕ) → Sound 0 f len (num_code n)
num_sound f len zero = at_home_sound f len 15 (omega arith)
num_sound f len (suc n) = by_half (suc n / 2 ^ 32)
  where
    by_half : (h : ℕ) → Sound 0 f len (number_code (suc n) h)
    by_half zero = one_sound f len (λ d. SetL d (suc n)) (λ d p hd q. set_fits f len p d (suc n) hd q)
    by_half (suc h) =
        by_value_sound 0 f len _ 2 (λ d t here. refl)
        (λ d t here low room le q. (set_fits f len here d (suc n % 2 ^ 32) (omega arith) (omega arith), (record { fits = (omega arith, omega arith); kind = refl; plain = refl }, tt)))

pub code_sound : (f : Frame) (len : ℕ) (e : Fx) → FxFits f e → Sound (height e) f len (code_of e)
code_sound f len (x.num n) fit = num_sound f len n
code_sound f len x.null fit = at_home_sound f len 15 (omega arith)
code_sound f len (x.arg k) fit = one_sound f len (λ d. GetW d 8 (8 * k)) (λ d p hd q. record { fits = (hd, fit.2, q); kind = refl; plain = refl })
code_sound f len (x.slot k) fit = at_home_sound f len k (omega (arith, fit))
code_sound f len x.cur fit = one_sound f len GetC (λ d p hd q. record { fits = (hd, q); kind = ap not fit; plain = refl })
code_sound f len (x.cur_field o w) fit = one_sound f len (λ d. GetW d (width_bytes w) o) (λ d p hd q. record { fits = (hd, fit.1, q); kind = refl; plain = refl })
code_sound f len (x.pad_field o w) fit = one_sound f len (λ d. GetP d (width_bytes w) o) (λ d p hd q. record { fits = (hd, fit, q); kind = refl; plain = refl })
code_sound f len (x.not e) fit = not_sound (height e) f len (code_of e) (code_long e) (code_sound f len e fit)
code_sound f len (x.flip e) fit = flip_sound (height e) f len (code_of e) (code_long e) (code_sound f len e fit)
code_sound f len (x.bin o b c) fit = way_sound (way_of o) o (height b) (height c) f len (code_of b) (code_of c) (code_long b) (code_long c) (code_sound f len b fit.0) (code_sound f len c fit.1)
code_sound f len (x.at b c) fit = compute_sound op.Add (height b) (height c) f len (code_of b) (code_of c) (code_long b) (code_long c) (code_sound f len b fit.0) (code_sound f len c fit.1)
