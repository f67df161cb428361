-- The code of an init begins a walk.
use Rattle.std.proofs.Common.{◌≡◌, ℕ, zero, suc, ◌+◌, ◌*◌, ◌^◌, ◌<◌, true, false, List, [], ◌∷◌, ◌++◌, length, take, drop, replicate, get_or, Some, All, refl, ap, ◌∙◌, arith, length-append}
use Rattle.std.proofs.lemmas.Bool.{le-leb}
use Rattle.std.proofs.lemmas.List.{take_at, length-replicate}
use Rattle.std.proofs.Math.Seq.{drop-append-add}
use Rattle.pulse_isa.specs.declared.instr.Instr.TheVariants.{Load, Return}
use Rattle.pulse_isa.specs.Bytes.{number, low_bytes}
use Rattle.pulse_isa.proofs.ByteLaws.{number_at-there, length-low_bytes}
use Rattle.pulse_isa.specs.Step.{State, On, given}
use Rattle.code_verify.specs.Run.{follow, run, run_init, argument_bytes}
use Rattle.code_verify.specs.Run as r
use Rattle.iter_unroll.specs.Flat.{Fixed, flat_meaning, start}
use Rattle.flat_code.specs.Frame.{Agrees}
use Rattle.flat_code.specs.Statements.{sts_len, sts_code}
use Rattle.flat_code.specs.Segments.{init_code, init_frame, InitLaw}
use Rattle.flat_code.proofs.Base.{at, here_is}
use Rattle.flat_code.proofs.Statements.{carries_from, sts_right}
use Rattle.flat_code.proofs.Whole.{tied_zeros, ended}

length_args : (vs : List ℕ) → length (argument_bytes vs) ≡ 8 * length vs
length_args [] = refl
length_args (v ∷ vs) = omega (arith, length-append (low_bytes 8 v) (argument_bytes vs), length-low_bytes 8 v, length_args vs)

eight_bytes : (v : ℕ) → v < 2 ^ 64 → number (low_bytes 8 v) ≡ v
eight_bytes v lt = omega arith

argument_at : (vs : List ℕ) (k : ℕ) → All (λ v. v < 2 ^ 64) vs → k < length vs → number (take 8 (drop (8 * k) (argument_bytes vs))) ≡ get_or vs k 0
argument_at [] k h lt = absurd (omega arith)
argument_at (v ∷ vs) zero h lt = ap number (take_at (low_bytes 8 v) (argument_bytes vs) 8 (length-low_bytes 8 v)) ∙ eight_bytes v (h 0 0 (omega arith))
argument_at (v ∷ vs) (suc k) h lt =
    let z : 8 * suc k ≡ length (low_bytes 8 v) + 8 * k = omega (arith, length-low_bytes 8 v) in
    ap (λ n. number (take 8 (drop n (low_bytes 8 v ++ argument_bytes vs)))) z ∙ ap (λ l. number (take 8 l)) (drop-append-add (low_bytes 8 v) (argument_bytes vs) (8 * k)) ∙ argument_at vs k (λ j d q. h (suc j) d (omega arith)) (omega arith)

pub init_right : InitLaw
init_right b args pad all fit =
    let f = init_frame args pad in
    let g : Fixed = record { args = args; cur = 0; writable = true } in
    let a = start [] (replicate pad 0) in
    let s0 = r.start (argument_bytes args) (replicate pad 0) 0 false in
    let s1 : State = record s0 { window = record { off = 0; len = 8 * length args } } in
    let regs : List ℕ = replicate 16 0 in
    let cb = sts_code b 1 in
    let there = 1 + sts_len b in
    let long = length_args args in
    let began : run_init (init_code (length args) b) args pad ≡ run 1 (cb ++ Return ∷ []) (at s1 1 regs) =
    here_is 0 (Load 0 (8 * length args)) (cb ++ Return ∷ []) s0 regs
    ∙ ap (λ c. follow (given c (On (at s1 1 regs))) (run 1 (cb ++ Return ∷ []))) (le-leb (0 + 8 * length args) (length (argument_bytes args)) (omega (arith, long))) in
    let zeros : length (replicate pad 0) ≡ pad = length-replicate pad 0 in
    let agrees : Agrees f g a s1 = record {
      window = refl;
      size = long;
      pad_size = zeros;
      pad = refl;
      cur = λ q. absurd cc;
      bytes = refl;
      args = λ q k lt. number_at-there (argument_bytes args) (8 * k) 8 (omega (arith, long, lt)) ∙ ap Some (argument_at args k all lt);
      writable = λ q. absurd cc;
    } in
    ended f g _ there (flat_meaning g b a) (carries_from f g _ _ there there (Return ∷ []) (flat_meaning g b a) began refl (sts_right f g b 1 (Return ∷ []) a s1 regs fit agrees tied_zeros))
