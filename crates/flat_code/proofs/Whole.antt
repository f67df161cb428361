-- The code of a body does an iteration.
use Rattle.std.proofs.Common.{◌≡◌, ℕ, zero, suc, ◌+◌, ◌<◌, List, [], ◌∷◌, ◌++◌, length, replicate, get_or, Some, refl, ap, ◌∙◌, arith}
use Rattle.std.specs.Prelude.{slice_get}
use Rattle.std.proofs.lemmas.Bool.{le-leb}
use Rattle.pulse_isa.specs.declared.instr.Instr.TheVariants.{Load, Return}
use Rattle.pulse_isa.specs.Step.{State, End, After, On, given, step}
use Rattle.pulse_isa.specs.Step as m
use Rattle.code_verify.specs.Run.{follow, run, run_body}
use Rattle.code_verify.specs.Run as r
use Rattle.iter_unroll.specs.Flat.{Fixed, Leaving, Falls, Ends, flat_then, flat_meaning, flat_iterated, start}
use Rattle.flat_code.specs.Frame.{Frame, left_bytes, Agrees, end_of}
use Rattle.flat_code.specs.Statements.{sts_len, sts_code}
use Rattle.flat_code.specs.Segments.{body_code, body_frame, BodyLaw}
use Rattle.flat_code.proofs.Base.{Tied, at, here_is}
use Rattle.flat_code.proofs.Statements.{Carries, carries_from, then_on, sts_right}

abbrev pub eight : List ℕ
eight = replicate 8 0

abbrev pub sixteen : List ℕ
sixteen = replicate 16 0

pub tied_zeros : Tied eight sixteen
tied_zeros = record { count = refl; long = refl; slot = by_slot; zeros = refl }
  where
    by_slot : (i : ℕ) → i < 8 → slice_get sixteen i ≡ Some (get_or eight i 0)
    by_slot zero lt = refl
    by_slot (suc zero) lt = refl
    by_slot (suc (suc zero)) lt = refl
    by_slot (suc (suc (suc zero))) lt = refl
    by_slot (suc (suc (suc (suc zero)))) lt = refl
    by_slot (suc (suc (suc (suc (suc zero))))) lt = refl
    by_slot (suc (suc (suc (suc (suc (suc zero)))))) lt = refl
    by_slot (suc (suc (suc (suc (suc (suc (suc zero))))))) lt = refl
    by_slot (suc (suc (suc (suc (suc (suc (suc (suc i)))))))) lt = absurd (omega arith)

pub ended : (f : Frame) (g : Fixed) (e : End) (h : ℕ) (o : Leaving) → Carries f g e h (Return ∷ []) o → e ≡ end_of f (flat_iterated o)
ended f g e h (Falls a) c =
    c.comes ∙ here_is h Return [] c.state c.after ∙ ap (λ b. m.Done b c.state.pad) c.agrees.bytes ∙ ap (λ p. m.Done (left_bytes f a.record_bytes) p) c.agrees.pad
ended f g e h (Ends x) c = c

pub body_right : BodyLaw
body_right off len cur writable e n bytes pad room fe fn =
    let f = body_frame off len (length bytes) (length pad) in
    let g : Fixed = record { args = []; cur = cur; writable = writable } in
    let a = start bytes pad in
    let s0 = r.start bytes pad cur writable in
    let s1 : State = record s0 { window = record { off = off; len = len } } in
    let regs : List ℕ = replicate 16 0 in
    let cn = sts_code n (1 + sts_len e) in
    let ce = sts_code e 1 in
    let h2 = 1 + sts_len e in
    let there = h2 + sts_len n in
    let code = body_code off len e n in
    let began : run_body code bytes pad cur writable ≡ run 1 (ce ++ (cn ++ Return ∷ [])) (at s1 1 regs) =
    here_is 0 (Load off len) (ce ++ (cn ++ Return ∷ [])) s0 regs
    ∙ ap (λ b. follow (given b (On (at s1 1 regs))) (run 1 (ce ++ (cn ++ Return ∷ [])))) (le-leb (off + len) (length bytes) room) in
    let agrees : Agrees f g a s1 = record { window = refl; size = refl; pad_size = refl; pad = refl; cur = λ q. refl; bytes = refl; args = λ q k lt. absurd (omega arith); writable = λ q. refl } in
    ended f g _ there (flat_then (flat_meaning g e a) (flat_meaning g n))
    (then_on f g (flat_meaning g e a) (flat_meaning g n) _ h2 there (cn ++ Return ∷ []) (Return ∷ [])
    (carries_from f g _ _ h2 h2 (cn ++ Return ∷ []) (flat_meaning g e a) began refl (sts_right f g e 1 (cn ++ Return ∷ []) a s1 regs fe agrees tied_zeros))
    (λ a2 s2 regs2 h t. sts_right f g n h2 (Return ∷ []) a2 s2 regs2 fn h t))
