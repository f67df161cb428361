-- Every instruction of statements keeps the verifier's rules at its place.
use Rattle.std.proofs.Common.{◌≡◌, ℕ, zero, suc, ◌+◌, ◌<◌, Bool, true, false, not, List, ◌∷◌, ◌++◌, length, refl, ap, subst, arith}
use Rattle.pulse_isa.specs.declared.instr.Instr.{Instr}
use Rattle.pulse_isa.specs.declared.instr.Instr.TheVariants.{PutW, PutP, NextIter}
use Rattle.iter_check.specs.Layout.{width_bytes}
use Rattle.iter_unroll.specs.Flat.{Fx, Fs}
use Rattle.iter_unroll.specs.Flat as x
use Rattle.flat_code.specs.Code.{code_of, operand, operand_code, operand_len, height}
use Rattle.flat_code.specs.Frame.{Frame, UseFits, FsFits}
use Rattle.flat_code.specs.Statements.{leaves, over_len, over, sts_len, taken, sts_code}
use Rattle.flat_code.proofs.Long.{operand_long, code_long}
use Rattle.flat_code.proofs.Statements.{fits_low, sts_long, over_long}
use Rattle.flat_code.proofs.Sound.{OneFits, FitAll, fit_append, operand_sound, code_sound}

taken_sound : (f : Frame) (len : ℕ) (e : Fx) → UseFits f e → (i : ℕ → Instr) (here : ℕ) (rest : List Instr)
    → ((r p : ℕ) → r < 16 → p + 1 < len → OneFits f len p (i r))
    → here + operand_len (code_of e) + 1 < len → FitAll f len (here + operand_len (code_of e) + 1) rest → FitAll f len here (taken (code_of e) i here rest)
taken_sound f len e fit i here rest fits lt tail =
    let c = code_of e in
    let g = code_sound f len e fit.0 in
    let l = operand_long c (code_long e) 8 here in
    let z : here + operand_len c + 1 ≡ here + length (operand_code c 8 here) + 1 = omega arith in
    fit_append f len here (operand_code c 8 here) (i (operand c.home 8) ∷ rest)
    (operand_sound (height e) f len c (code_long e) g 8 here (omega arith) (omega (arith, fit.1)) (omega arith))
    (fits (operand c.home 8) (here + length (operand_code c 8 here)) (g.home 8 (omega arith)) (omega (arith, l)), subst (λ p. FitAll f len p rest) z tail)

over_sound : (f : Frame) (len p : ℕ) (b : Bool) (n out : ℕ) → out ≡ p + over_len b n + n → out < len → FitAll f len p (over b n out)
over_sound f len p true n out e lt = tt
over_sound f len p false zero out e lt = tt
over_sound f len p false (suc n) out e lt = (record { fits = record { above = omega arith; below = lt }; kind = refl; plain = refl }, tt)

pub sts_sound : (f : Frame) (len : ℕ) (ss : Fs) → FsFits f ss → (here : ℕ) → here + sts_len ss < len → FitAll f len here (sts_code ss here)
sts_sound f len x.end fit here lt = tt
sts_sound f len (x.put_slot k e rest) fit here lt =
    let c = code_of e in
    let l = (code_long e).slot k 8 here (λ q. omega (arith, q, fit.0)) in
    let z : here + c.slot_len ≡ here + length (c.value k 8 here) = omega arith in
    fit_append f len here (c.value k 8 here) (sts_code rest (here + c.slot_len))
    ((code_sound f len e fit.1.0).value k 8 here (omega arith) (omega (arith, fit.1.1)) (omega (arith, fit.0)) (omega (arith, l)))
    (subst (λ p. FitAll f len p (sts_code rest (here + c.slot_len))) z (sts_sound f len rest fit.2 (here + c.slot_len) (omega arith)))
sts_sound f len (x.put_pad o w e rest) fit here lt =
    let n = here + operand_len (code_of e) + 1 in
    taken_sound f len e fit.1 (λ r. PutP r (width_bytes w) o) here (sts_code rest n) (λ r p hr q. record { fits = (hr, fit.0, q); kind = refl; plain = refl }) (omega arith) (sts_sound f len rest fit.2 n (omega arith))
sts_sound f len (x.put_cur o w e rest) fit here lt =
    let n = here + operand_len (code_of e) + 1 in
    taken_sound f len e fit.2 (λ r. PutW r (width_bytes w) o) here (sts_code rest n) (λ r p hr q. record { fits = (hr, fit.1, q); kind = ap not fit.0; plain = refl }) (omega arith) (sts_sound f len rest fit.3 n (omega arith))
sts_sound f len (x.choose e first other rest) fit here lt =
    let c = code_of e in
    let n = sts_len other in
    let b = leaves first in
    let h1 = here + c.branch_len in
    let h2 = h1 + sts_len first in
    let h3 = h2 + over_len b n in
    let out = h3 + n in
    let cc = c.branch false h3 8 here in
    let cf = sts_code first h1 in
    let ov = over b n out in
    let co = sts_code other h3 in
    let cr = sts_code rest out in
    let lc = (code_long e).branch false h3 8 here in
    let lf = sts_long first (fits_low f first fit.1) h1 in
    let lv = over_long b n out in
    let lo = sts_long other (fits_low f other fit.2) h3 in
    let z1 : h1 ≡ here + length cc = omega arith in
    let z2 : h2 ≡ h1 + length cf = omega arith in
    let z3 : h3 ≡ h2 + length ov = omega arith in
    let z4 : out ≡ h3 + length co = omega arith in
    fit_append f len here cc (cf ++ (ov ++ (co ++ cr)))
    ((code_sound f len e fit.0.0).branch false h3 8 here (omega arith) (omega (arith, fit.0.1)) (omega arith) (omega arith))
    (subst (λ p. FitAll f len p (cf ++ (ov ++ (co ++ cr)))) z1
    (fit_append f len h1 cf (ov ++ (co ++ cr)) (sts_sound f len first fit.1 h1 (omega arith))
    (subst (λ p. FitAll f len p (ov ++ (co ++ cr))) z2
    (fit_append f len h2 ov (co ++ cr) (over_sound f len h2 b n out refl (omega arith))
    (subst (λ p. FitAll f len p (co ++ cr)) z3
    (fit_append f len h3 co cr (sts_sound f len other fit.2 h3 (omega arith))
    (subst (λ p. FitAll f len p cr) z4 (sts_sound f len rest fit.3 out (omega arith)))))))))
sts_sound f len (x.done rest) fit here lt = (record { fits = tt; kind = refl; plain = refl }, sts_sound f len rest fit (here + 1) (omega arith))
sts_sound f len (x.go e rest) fit here lt =
    let n = here + operand_len (code_of e) + 1 in
    taken_sound f len e fit.0 NextIter here (sts_code rest n) (λ r p hr q. record { fits = hr; kind = refl; plain = refl }) (omega arith) (sts_sound f len rest fit.1 n (omega arith))
