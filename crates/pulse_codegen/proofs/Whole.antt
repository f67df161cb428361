-- Both segments, instruction by instruction.
use Rattle.std.proofs.Common.{◌≡◌, ℕ, ◌+◌, ◌*◌, true, not, List, [], ◌∷◌, ◌++◌, length, refl, ap, ◌∙◌, arith}
use Rattle.std.proofs.lemmas.Bool.{and_from, eq-eqb}
use Rattle.pulse_isa.specs.declared.instr.Instr.{Instr}
use Rattle.pulse_isa.specs.declared.instr.Instr.TheVariants.{Load, Return}
use Rattle.code_verify.specs.Rules.{is_load}
use Rattle.iter_unroll.specs.Flat.{Fs}
use Rattle.iter_unroll.specs.Flat as x
use Rattle.iter_unroll.specs.Limits.{Reach, Keeps}
use Rattle.flat_code.specs.Frame.{Frame}
use Rattle.flat_code.specs.Statements.{sts_len, sts_code}
use Rattle.flat_code.specs.Segments.{body_code, init_code}
use Rattle.flat_code.proofs.Reached.{low_enough}
use Rattle.flat_code.proofs.Sound.{FitAll}
use Rattle.flat_code.proofs.Statements.{sts_long}
use Rattle.pulse_codegen.specs.OneLoad.{has_no_load, LoadsOnce}
use Rattle.pulse_codegen.specs.Shallow.{IsShallow}
use Rattle.pulse_codegen.proofs.Emits.{grown, then_put}
use Rattle.pulse_codegen.proofs.Rows.{low_of}

pub keeps_shallow : (r : Reach) (ss : Fs) → Keeps r ss → IsShallow ss
keeps_shallow r x.end k = tt
keeps_shallow r (x.put_slot n e rest) k = (k.0, low_enough e k.1.1, keeps_shallow r rest k.2)
keeps_shallow r (x.put_pad o w e rest) k = (low_enough e k.1.1, keeps_shallow r rest k.2)
keeps_shallow r (x.put_cur o w e rest) k = (low_enough e k.1.1, keeps_shallow r rest k.2)
keeps_shallow r (x.choose e first other rest) k = (low_enough e k.0.1, keeps_shallow r first k.1, keeps_shallow r other k.2, keeps_shallow r rest k.3)
keeps_shallow r (x.done rest) k = keeps_shallow r rest k
keeps_shallow r (x.go e rest) k = (low_enough e k.0.1, keeps_shallow r rest k.1)

pub init_put : (n : ℕ) (b : Fs) (c0 c1 c2 c3 : List Instr) → c0 ≡ [] → c1 ≡ c0 ++ Load 0 (8 * n) ∷ [] → c2 ≡ c1 ++ sts_code b (length c1) → c3 ≡ c2 ++ Return ∷ [] → c3 ≡ init_code n b
init_put n b c0 c1 c2 c3 none p q r =
    let p2 : c1 ≡ Load 0 (8 * n) ∷ [] = p ∙ ap (λ l. l ++ Load 0 (8 * n) ∷ []) none in
    let q2 : c2 ≡ c1 ++ sts_code b 1 = q ∙ ap (λ l. c1 ++ sts_code b (length l)) p2 in
    then_put c1 c2 c3 (sts_code b 1) (Return ∷ []) q2 r ∙ ap (λ l. l ++ (sts_code b 1 ++ Return ∷ [])) p2

pub body_put : (off len : ℕ) (e n : Fs) (c0 c1 c2 c3 c4 : List Instr) → IsShallow e → c0 ≡ [] → c1 ≡ c0 ++ Load off len ∷ [] → c2 ≡ c1 ++ sts_code e (length c1) → c3 ≡ c2 ++ sts_code n (length c2) → c4 ≡ c3 ++ Return ∷ [] → c4 ≡ body_code off len e n
body_put off len e n c0 c1 c2 c3 c4 he none p q r s =
    let ce = sts_code e 1 in
    let cn = sts_code n (1 + sts_len e) in
    let p2 : c1 ≡ Load off len ∷ [] = p ∙ ap (λ l. l ++ Load off len ∷ []) none in
    let q2 : c2 ≡ c1 ++ ce = q ∙ ap (λ l. c1 ++ sts_code e (length l)) p2 in
    let l1 : length c1 ≡ 1 = ap length p2 in
    let l2 = grown c1 c2 ce (sts_len e) q2 (sts_long e (low_of e he) 1) in
    let z : length c2 ≡ 1 + sts_len e = omega (arith, l1, l2) in
    let r2 : c3 ≡ c2 ++ cn = r ∙ ap (λ k. c2 ++ sts_code n k) z in
    then_put c1 c2 c4 ce (cn ++ Return ∷ []) q2 (then_put c2 c3 c4 cn (Return ∷ []) r2 s) ∙ ap (λ l. l ++ (ce ++ (cn ++ Return ∷ []))) p2

-- ---- one LOAD

no_load : (f : Frame) (len p : ℕ) (is : List Instr) → FitAll f len p is → has_no_load is ≡ true
no_load f len p [] h = refl
no_load f len p (i ∷ is) h = and_from (not (is_load i)) (has_no_load is) (ap not h.0.plain) (no_load f len (p + 1) is h.1)

pub loads : (f : Frame) (len p : ℕ) (interval : ℕ × ℕ) (is : List Instr) → FitAll f len p is → LoadsOnce interval (Load interval.0 interval.1 ∷ is)
loads f len p interval is h = and_from _ (has_no_load is) (and_from _ _ (eq-eqb interval.0 interval.0 refl) (eq-eqb interval.1 interval.1 refl)) (no_load f len p is h)
