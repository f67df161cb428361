-- Statements one after another: what the first adds, and what is left.
use Rattle.std.proofs.Common.{◌≡◌, ℕ, zero, suc, ◌+◌, ◌*◌, ◌<◌, ◌≤◌, Bool, true, false, ◌||◌, List, [], ◌∷◌, ◌++◌, length, get_or, drop, refl, sym, ap, ◌∙◌, subst, arith, add-one, drop-cons, append_assoc, length-append}
use Rattle.std.proofs.lemmas.List.{drop_all}
use Rattle.pulse_isa.specs.declared.instr.Instr.{Instr}
use Rattle.iter_unroll.specs.declared.tree.FlatStmt.{FlatStmt}
use Rattle.iter_unroll.specs.declared.tree.FlatStmt.TheOpen as S
use Rattle.iter_unroll.specs.declared.tree.FlatStmt.TheFolds.{fold_out-FlatStmt}
use Rattle.iter_unroll.specs.Flat.{Fx, Fs}
use Rattle.iter_unroll.specs.Flat as x
use Rattle.iter_unroll.specs.Limits.{fs_nodes}
use Rattle.iter_unroll.specs.Tree.{fst, fst_step, fsts}
use Rattle.flat_code.specs.Code.{code_of, operand, operand_code, operand_len}
use Rattle.flat_code.specs.Statements.{leaves, over, over_len, sts_len, sts_code, taken}
use Rattle.flat_code.proofs.Long.{code_long, operand_long}
use Rattle.pulse_codegen.proofs.Emits.{grown, then_put}
use Rattle.flat_code.proofs.Statements.{SlotsLow, sts_long, over_long}
use Rattle.flat_code.proofs.Sizes.{sts_short}
use Rattle.pulse_codegen.specs.declared.extent.Extent.{Extent}
use Rattle.pulse_codegen.specs.Extends.{Extends, Puts}
use Rattle.pulse_codegen.specs.Shallow.{IsShallow}

-- ---- a statement by its layer

with_layer : (s : FlatStmt) (P : (Fs → Fs) → Type 0) → ((l : S.FlatStmt-F (Fs → Fs)) → P (fst_step l)) → P (fst s)
with_layer s P h = subst P (sym (fold_out-FlatStmt (Fs → Fs) fst_step s)) (h _)

nodes_step : (l : S.FlatStmt-F (Fs → Fs)) (rest : Fs) → fs_nodes (fst_step l rest) ≡ fs_nodes (fst_step l x.end) + fs_nodes rest
nodes_step (S.Local k e) rest = omega arith
nodes_step (S.Pad u e) rest = omega arith
nodes_step (S.Cur u e) rest = omega arith
nodes_step (S.If e first other) rest = omega arith
nodes_step S.Done rest = omega arith
nodes_step (S.Go e) rest = omega arith

pub nodes_fst : (s : FlatStmt) (rest : Fs) → fs_nodes (fst s rest) ≡ fs_nodes (fst s x.end) + fs_nodes rest
nodes_fst s rest = with_layer s (λ f. fs_nodes (f rest) ≡ fs_nodes (f x.end) + fs_nodes rest) (λ l. nodes_step l rest)

shallow_step : (l : S.FlatStmt-F (Fs → Fs)) (rest : Fs) → IsShallow (fst_step l rest) → IsShallow (fst_step l x.end) × IsShallow rest
shallow_step (S.Local k e) rest h = ((h.0, h.1, tt), h.2)
shallow_step (S.Pad u e) rest h = ((h.0, tt), h.1)
shallow_step (S.Cur u e) rest h = ((h.0, tt), h.1)
shallow_step (S.If e first other) rest h = ((h.0, h.1, h.2, tt), h.3)
shallow_step S.Done rest h = (tt, h)
shallow_step (S.Go e) rest h = ((h.0, tt), h.1)

pub shallow_fst : (s : FlatStmt) (rest : Fs) → IsShallow (fst s rest) → IsShallow (fst s x.end) × IsShallow rest
shallow_fst s rest = with_layer s (λ f. IsShallow (f rest) → IsShallow (f x.end) × IsShallow rest) (λ l. shallow_step l rest)

-- ---- a row from a place on

pub row_drop : (ss : List FlatStmt) (i : ℕ) (s : FlatStmt) → i < length ss → s ≡ get_or ss i s → fsts (drop i ss) ≡ fst s (fsts (drop (i + 1) ss))
row_drop ss i s h e =
    ap fsts (drop-cons ss i s h) ∙ ap (λ u. fst u (fsts (drop (suc i) ss))) (sym e) ∙ ap (λ k. fst s (fsts (drop k ss))) (sym (add-one i))

pub nodes_drop : (ss : List FlatStmt) (i : ℕ) (s : FlatStmt) → i < length ss → s ≡ get_or ss i s → fs_nodes (fsts (drop i ss)) ≡ fs_nodes (fst s x.end) + fs_nodes (fsts (drop (i + 1) ss))
nodes_drop ss i s h e = ap fs_nodes (row_drop ss i s h e) ∙ nodes_fst s (fsts (drop (i + 1) ss))

pub shallow_drop : (ss : List FlatStmt) (i : ℕ) (s : FlatStmt) → i < length ss → s ≡ get_or ss i s → IsShallow (fsts (drop i ss)) → IsShallow (fst s x.end) × IsShallow (fsts (drop (i + 1) ss))
shallow_drop ss i s h e k = shallow_fst s (fsts (drop (i + 1) ss)) (subst IsShallow (row_drop ss i s h e) k)

pub row_over : (ss : List FlatStmt) (i : ℕ) → length ss ≤ i → fsts (drop i ss) ≡ x.end
row_over ss i h = ap fsts (drop_all i ss h)

-- ---- extents

-- so far, of all of them
pub record Counted (ss : List FlatStmt) (i len : ℕ) (left : Bool) : Type 0 where
  pub all : sts_len (fsts ss) ≡ len + sts_len (fsts (drop i ss))
  pub ways : leaves (fsts ss) ≡ (left || leaves (fsts (drop i ss)))
  pub few : len + 4 * fs_nodes (fsts (drop i ss)) ≤ 4 * fs_nodes (fsts ss)
  pub rest : fs_nodes (fsts (drop i ss)) ≤ fs_nodes (fsts ss)

pub counted_none : (ss : List FlatStmt) → Counted ss 0 0 false
counted_none ss = record { all = omega arith; ways = refl; few = omega arith; rest = omega arith }

or_or : (a b c : Bool) → (a || (b || c)) ≡ ((a || b) || c)
or_or true b c = refl
or_or false b c = refl

pub counted_more : (ss : List FlatStmt) (i len : ℕ) (left : Bool) (s : FlatStmt) (one : Extent) → i < length ss → s ≡ get_or ss i s → Counted ss i len left → Extends one (fst s) → one.len ≤ 4 * fs_nodes (fst s x.end) → Counted ss (i + 1) (len + one.len) (left || one.leaves)
counted_more ss i len left s one h e c k few =
    let rest = fsts (drop (i + 1) ss) in
    let is = row_drop ss i s h e in
    let l : sts_len (fsts (drop i ss)) ≡ one.len + sts_len rest = ap sts_len is ∙ k.len rest in
    let w : leaves (fsts (drop i ss)) ≡ (one.leaves || leaves rest) = ap leaves is ∙ k.leaves rest in
    let n = nodes_drop ss i s h e in
    record {
      all = omega (arith, c.all, l);
      ways = c.ways ∙ ap (λ b. left || b) w ∙ or_or left one.leaves (leaves rest);
      few = omega (arith, c.few, n, few);
      rest = omega (arith, c.rest, n);
    }

or_false : (b : Bool) → (b || false) ≡ b
or_false true = refl
or_false false = refl

pub counted_all : (ss : List FlatStmt) (i len : ℕ) (left : Bool) → length ss ≤ i → Counted ss i len left → (len ≡ sts_len (fsts ss)) × (left ≡ leaves (fsts ss)) × (len ≤ 4 * fs_nodes (fsts ss))
counted_all ss i len left h c =
    let e = row_over ss i h in
    let z = ap sts_len e in
    (omega (arith, c.all, z), sym (or_false left) ∙ ap (λ b. left || b) (sym (ap leaves e)) ∙ sym c.ways, omega (arith, c.few))

-- ---- code

-- put so far, of all of them
pub record Put (before now : List Instr) (ss : List FlatStmt) (i : ℕ) : Type 0 where
  pub all : before ++ sts_code (fsts ss) (length before) ≡ now ++ sts_code (fsts (drop i ss)) (length now)
  pub room : length now + 4 * fs_nodes (fsts (drop i ss)) ≤ length before + 4 * fs_nodes (fsts ss)
  pub rest : fs_nodes (fsts (drop i ss)) ≤ fs_nodes (fsts ss)
  pub shallow : IsShallow (fsts (drop i ss))

pub put_none : (before : List Instr) (ss : List FlatStmt) → IsShallow (fsts ss) → Put before before ss 0
put_none before ss h = record { all = refl; room = omega arith; rest = omega arith; shallow = h }

pub low_of : (ss : Fs) → IsShallow ss → SlotsLow ss
low_of x.end h = tt
low_of (x.put_slot k e rest) h = (h.0, low_of rest h.2)
low_of (x.put_pad o w e rest) h = low_of rest h.1
low_of (x.put_cur o w e rest) h = low_of rest h.1
low_of (x.choose e first other rest) h = (low_of first h.1, low_of other h.2, low_of rest h.3)
low_of (x.done rest) h = low_of rest h
low_of (x.go e rest) h = low_of rest h.1

append_none : (l : List Instr) → l ++ [] ≡ l
append_none [] = refl
append_none (y ∷ l) = ap (λ k. y ∷ k) (append_none l)

-- how far code grows by statements
pub grows : (before now : List Instr) (ss : Fs) → IsShallow ss → now ≡ before ++ sts_code ss (length before) → length now ≤ length before + 4 * fs_nodes ss
grows before now ss h e =
    let l = ap length e ∙ length-append before (sts_code ss (length before)) in
    omega (arith, l, sts_long ss (low_of ss h) (length before), sts_short ss)

pub put_more : (before was now : List Instr) (ss : List FlatStmt) (i : ℕ) (s : FlatStmt) → i < length ss → s ≡ get_or ss i s → Put before was ss i → Puts was (fst s) now → Put before now ss (i + 1)
put_more before was now ss i s h e c p =
    let rest = fsts (drop (i + 1) ss) in
    let is = row_drop ss i s h e in
    let n = nodes_drop ss i s h e in
    let k = shallow_drop ss i s h e c.shallow in
    let g = grows was now (fst s x.end) k.0 (sym (append_none now) ∙ sym (p x.end)) in
    record {
      all = c.all ∙ ap (λ l. was ++ sts_code l (length was)) is ∙ p rest;
      room = omega (arith, c.room, n, g);
      rest = omega (arith, c.rest, n);
      shallow = k.1;
    }

pub put_all : (before now : List Instr) (ss : List FlatStmt) (i : ℕ) → length ss ≤ i → Put before now ss i → now ≡ before ++ sts_code (fsts ss) (length before)
put_all before now ss i h c = sym (c.all ∙ ap (λ l. now ++ sts_code l (length now)) (row_over ss i h) ∙ append_none now)

-- ---- one statement

pub puts_as : (before now : List Instr) (s : FlatStmt) (h : Fs → Fs) → ((rest : Fs) → fst s rest ≡ h rest) → Puts before h now → Puts before (fst s) now
puts_as before now s h is p = λ rest. ap (λ l. before ++ sts_code l (length before)) (is rest) ∙ p rest

pub slot_puts : (k : ℕ) (e : Fx) (c c1 : List Instr) → k < 8 → c1 ≡ c ++ (code_of e).value k 8 (length c) → Puts c (x.put_slot k e) c1
slot_puts k e c c1 lt is rest =
    let v = (code_of e).value k 8 (length c) in
    let l = grown c c1 v (code_of e).slot_len is ((code_long e).slot k 8 (length c) (λ q. omega (arith, q, lt))) in
    sym (append_assoc c v (sts_code rest (length c + (code_of e).slot_len))) ∙ ap (λ a. a ++ sts_code rest (length c + (code_of e).slot_len)) (sym is) ∙ ap (λ n. c1 ++ sts_code rest n) (sym l)

-- an operand, and an instruction that takes it
pub taken_puts : (e : Fx) (i : ℕ → Instr) (r : ℕ) (c c1 c2 : List Instr) (rest : Fs) → r ≡ operand (code_of e).home 8 → c1 ≡ c ++ operand_code (code_of e) 8 (length c) → c2 ≡ c1 ++ i r ∷ []
    → c ++ taken (code_of e) i (length c) (sts_code rest (length c + operand_len (code_of e) + 1)) ≡ c2 ++ sts_code rest (length c2)
taken_puts e i r c c1 c2 rest at_home p q =
    let v = operand_code (code_of e) 8 (length c) in
    let k = i (operand (code_of e).home 8) in
    let after = sts_code rest (length c + operand_len (code_of e) + 1) in
    let q2 : c2 ≡ c1 ++ k ∷ [] = q ∙ ap (λ n. c1 ++ i n ∷ []) at_home in
    let all = then_put c c1 c2 v (k ∷ []) p q2 in
    let l1 = grown c c1 v (operand_len (code_of e)) p (operand_long (code_of e) (code_long e) 8 (length c)) in
    let l2 = grown c1 c2 (k ∷ []) 1 q2 refl in
    let l : length c + operand_len (code_of e) + 1 ≡ length c2 = omega (arith, l1, l2) in
    let flat : c ++ (v ++ (k ∷ after)) ≡ (c ++ (v ++ (k ∷ []))) ++ after = simp append_assoc in
    flat ∙ ap (λ a. a ++ after) (sym all) ∙ ap (λ n. c2 ++ sts_code rest n) l

pub done_puts : (i : Instr) (c c1 : List Instr) (rest : Fs) → c1 ≡ c ++ i ∷ [] → c ++ (i ∷ sts_code rest (length c + 1)) ≡ c1 ++ sts_code rest (length c1)
done_puts i c c1 rest is =
    let l = grown c c1 (i ∷ []) 1 is refl in
    sym (append_assoc c (i ∷ []) (sts_code rest (length c + 1))) ∙ ap (λ a. a ++ sts_code rest (length c + 1)) (sym is) ∙ ap (λ n. c1 ++ sts_code rest n) (sym l)

pub if_puts : (e : Fx) (first other : Fs) (else_at : ℕ) (c c1 c2 c3 c4 : List Instr) → IsShallow first → IsShallow other
    → else_at ≡ length c + (code_of e).branch_len + sts_len first + over_len (leaves first) (sts_len other)
    → c1 ≡ c ++ (code_of e).branch false else_at 8 (length c) → c2 ≡ c1 ++ sts_code first (length c1)
    → c3 ≡ c2 ++ over (leaves first) (sts_len other) (else_at + sts_len other) → c4 ≡ c3 ++ sts_code other (length c3)
    → Puts c (x.choose e first other) c4
if_puts e first other else_at c c1 c2 c3 c4 hf ho at_else p q r s rest =
    let here = length c in
    let n = sts_len other in
    let b = leaves first in
    let h1 = here + (code_of e).branch_len in
    let h3 = h1 + sts_len first + over_len b n in
    let out = h3 + n in
    let cc = (code_of e).branch false h3 8 here in
    let cf = sts_code first h1 in
    let ov = over b n out in
    let co = sts_code other h3 in
    let cr = sts_code rest out in
    let p2 : c1 ≡ c ++ cc = p ∙ ap (λ k. c ++ (code_of e).branch false k 8 here) at_else in
    let l1 = grown c c1 cc (code_of e).branch_len p2 ((code_long e).branch false h3 8 here) in
    let q2 : c2 ≡ c1 ++ cf = q ∙ ap (λ k. c1 ++ sts_code first k) l1 in
    let l2 = grown c1 c2 cf (sts_len first) q2 (sts_long first (low_of first hf) h1) in
    let r2 : c3 ≡ c2 ++ ov = r ∙ ap (λ k. c2 ++ over b n (k + n)) at_else in
    let l3 = grown c2 c3 ov (over_len b n) r2 (over_long b n out) in
    let z3 : length c3 ≡ h3 = omega (arith, l1, l2, l3) in
    let s2 : c4 ≡ c3 ++ co = s ∙ ap (λ k. c3 ++ sts_code other k) z3 in
    let l4 = grown c3 c4 co n s2 (sts_long other (low_of other ho) h3) in
    let z4 : out ≡ length c4 = omega (arith, z3, l4) in
    let all : c4 ≡ c ++ (cc ++ (cf ++ (ov ++ co))) = then_put c c1 c4 cc (cf ++ (ov ++ co)) p2 (then_put c1 c2 c4 cf (ov ++ co) q2 (then_put c2 c3 c4 ov co r2 s2)) in
    let flat : c ++ (cc ++ (cf ++ (ov ++ (co ++ cr)))) ≡ (c ++ (cc ++ (cf ++ (ov ++ co)))) ++ cr = simp append_assoc in
    flat ∙ ap (λ a. a ++ cr) (sym all) ∙ ap (λ k. c4 ++ sts_code rest k) z4

pub over_short : (b : Bool) (n out : ℕ) (c c1 : List Instr) → c1 ≡ c ++ over b n out → length c1 ≤ length c + 1
over_short b n out c c1 is = omega (arith, grown c c1 (over b n out) (over_len b n) is (over_long b n out), most b n)
  where
    most : (b : Bool) (n : ℕ) → over_len b n ≤ 1
    most true n = omega arith
    most false zero = omega arith
    most false (suc n) = omega arith
