-- Instructions that are put one after another are the code of the whole.
use Rattle.std.proofs.Common.{◌≡◌, ℕ, ◌+◌, ◌*◌, ◌≤◌, Bool, false, List, [], ◌∷◌, ◌++◌, length, refl, ap, ◌∙◌, arith, append_assoc, length-append}
use Rattle.iter_unroll.specs.Flat.{Fx}
use Rattle.iter_unroll.specs.Limits.{fx_nodes}
use Rattle.pulse_isa.specs.declared.instr.Instr.{Instr}
use Rattle.pulse_isa.specs.declared.instr.Instr.TheVariants as i
use Rattle.flat_code.specs.Code.{Code, test, by_branch, operand, operand_code, operand_len, two_code, flip_code, compare, move, joined_value, joined_target, joined, code_of}
use Rattle.flat_code.proofs.Long.{Long, operand_long, two_length, code_long}
use Rattle.flat_code.proofs.Sizes.{code_short, used_short}

-- ---- how far the code grows

pub grown : (c c1 is : List Instr) (n : ℕ) → c1 ≡ c ++ is → length is ≡ n → length c1 ≡ length c + n
grown c c1 is n e long = ap length e ∙ length-append c is ∙ ap (λ k. length c + k) long

pub operand_grows : (e : Fx) (t h : ℕ) (c c1 : List Instr) → c1 ≡ c ++ operand_code (code_of e) t h → length c1 ≤ length c + 4 * fx_nodes e
operand_grows e t h c c1 is = omega (arith, grown c c1 (operand_code (code_of e) t h) _ is (operand_long (code_of e) (code_long e) t h), used_short e)

pub value_grows : (e : Fx) (t h : ℕ) (c c1 : List Instr) → c1 ≡ c ++ (code_of e).value t t h → length c1 ≤ length c + 4 * fx_nodes e
value_grows e t h c c1 is = let s = code_short e in omega (arith, grown c c1 ((code_of e).value t t h) _ is ((code_long e).value t h), s.value)

pub branch_grows : (e : Fx) (sense : Bool) (to t h : ℕ) (c c1 : List Instr) → c1 ≡ c ++ (code_of e).branch sense to t h → length c1 + 1 ≤ length c + 4 * fx_nodes e
branch_grows e sense to t h c c1 is = let s = code_short e in omega (arith, grown c c1 ((code_of e).branch sense to t h) _ is ((code_long e).branch sense to t h), s.branch)

pub compared_grows : (j : Bool → ℕ → ℕ → ℕ → Instr) (a b : Fx) (sense : Bool) (to t h : ℕ) (c c1 : List Instr) → c1 ≡ c ++ (compare j (code_of a) (code_of b)).branch sense to t h → length c1 ≤ length c + 4 * (fx_nodes a + fx_nodes b) + 1
compared_grows j a b sense to t h c c1 is =
    let x = code_of a in
    let y = code_of b in
    omega (arith, grown c c1 ((compare j x y).branch sense to t h) _ is (two_length x y (code_long a) (code_long b) t h (j sense (operand x.home t) (operand y.home (t + 1)) to)), used_short a, used_short b)

-- ---- one after another

pub then_put : (c c1 c2 x y : List Instr) → c1 ≡ c ++ x → c2 ≡ c1 ++ y → c2 ≡ c ++ (x ++ y)
then_put c c1 c2 x y p q = q ∙ ap (λ l. l ++ y) p ∙ append_assoc c x y

pub two_put : (a b : Code) (t : ℕ) (c c1 c2 : List Instr) → Long a → c1 ≡ c ++ operand_code a t (length c) → c2 ≡ c1 ++ operand_code b (t + 1) (length c1) → c2 ≡ c ++ two_code a b t (length c)
two_put a b t c c1 c2 la p q =
    let long = grown c c1 (operand_code a t (length c)) (operand_len a) p (operand_long a la t (length c)) in
    then_put c c1 c2 (operand_code a t (length c)) (operand_code b (t + 1) (length c + operand_len a)) p (q ∙ ap (λ n. c1 ++ operand_code b (t + 1) n) long)

pub joined_put : (short : Bool) (a b : Code) (d t past : ℕ) (c c1 c2 c3 c4 : List Instr) → Long a
    → past ≡ length c + a.value_len + 1 + b.value_len
    → c1 ≡ c ++ a.value t t (length c) → c2 ≡ c1 ++ test short t past ∷ [] → c3 ≡ c2 ++ b.value t t (length c2) → c4 ≡ c3 ++ move d t
    → c4 ≡ c ++ joined_value short a b d t (length c)
joined_put short a b d t past c c1 c2 c3 c4 la at_past p q r s =
    let here = length c in
    let h1 = here + a.value_len in
    let ca = a.value t t here in
    let k = test short t (h1 + 1 + b.value_len) in
    let l1 = grown c c1 ca a.value_len p (la.value t here) in
    let l2 = grown c1 c2 (test short t past ∷ []) 1 q refl in
    let l3 : length c2 ≡ h1 + 1 = omega (arith, l1, l2) in
    let q2 : c2 ≡ c1 ++ k ∷ [] = q ∙ ap (λ n. c1 ++ test short t n ∷ []) at_past in
    let cb = b.value t t (h1 + 1) in
    then_put c c1 c4 ca (k ∷ (cb ++ move d t)) p
    (then_put c1 c2 c4 (k ∷ []) (cb ++ move d t) q2 (then_put c2 c3 c4 cb (move d t) (r ∙ ap (λ n. c2 ++ b.value t t n) l3) s))

pub branches_put : (short sense : Bool) (a b : Code) (to past t : ℕ) (c c1 c2 : List Instr) → Long a
    → past ≡ length c + a.branch_len + b.branch_len
    → c1 ≡ c ++ a.branch short (joined_target short sense to past) t (length c) → c2 ≡ c1 ++ b.branch sense to t (length c1)
    → c2 ≡ c ++ (joined short a b).branch sense to t (length c)
branches_put short sense a b to past t c c1 c2 la at_past p q =
    let here = length c in
    let target = joined_target short sense to (here + a.branch_len + b.branch_len) in
    let p2 : c1 ≡ c ++ a.branch short target t here = p ∙ ap (λ n. c ++ a.branch short (joined_target short sense to n) t here) at_past in
    let l = grown c c1 (a.branch short target t here) a.branch_len p2 (la.branch short target t here) in
    then_put c c1 c2 (a.branch short target t here) (b.branch sense to t (here + a.branch_len)) p2 (q ∙ ap (λ n. c1 ++ b.branch sense to t n) l)

-- a jump, and 1 or 0 behind it
pub bit_put : (f : Bool → ℕ → ℕ → ℕ → List Instr) (n d t last : ℕ) (c c1 c2 : List Instr) → ((sense : Bool) (to t here : ℕ) → length (f sense to t here) ≡ n)
    → last ≡ length c + n + 2
    → c1 ≡ c ++ f false last t (length c) → c2 ≡ c1 ++ (i.SetL d 1 ∷ i.Jmp (length c1 + 3) ∷ i.SetL d 0 ∷ [])
    → c2 ≡ c ++ (by_branch f n).value d t (length c)
bit_put f n d t last c c1 c2 long at_last p q =
    let here = length c in
    let p2 : c1 ≡ c ++ f false (here + n + 2) t here = p ∙ ap (λ k. c ++ f false k t here) at_last in
    let l = grown c c1 (f false (here + n + 2) t here) n p2 (long false (here + n + 2) t here) in
    then_put c c1 c2 (f false (here + n + 2) t here) (i.SetL d 1 ∷ i.Jmp (here + n + 3) ∷ i.SetL d 0 ∷ []) p2 (q ∙ ap (λ k. c1 ++ (i.SetL d 1 ∷ i.Jmp (k + 3) ∷ i.SetL d 0 ∷ [])) l)

pub flip_put : (a : Code) (d t r : ℕ) (c c1 c2 : List Instr) → r ≡ operand a.home t → c1 ≡ c ++ operand_code a t (length c) → c2 ≡ c1 ++ i.Not d r ∷ [] → c2 ≡ c ++ (flip_code a).value d t (length c)
flip_put a d t r c c1 c2 at_home p q =
    then_put c c1 c2 (operand_code a t (length c)) (i.Not d (operand a.home t) ∷ []) p (q ∙ ap (λ k. c1 ++ i.Not d k ∷ []) at_home)
