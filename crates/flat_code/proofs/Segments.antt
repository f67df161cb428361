-- Both segments of a flat program that keeps to what is there: they are verified, and do what it means.
use Rattle.std.proofs.Common.{◌≡◌, ℕ, ◌+◌, ◌*◌, ◌^◌, ◌<◌, ◌≤◌, Bool, true, false, List, [], ◌∷◌, ◌++◌, length, replicate, All, refl, sym, ap, ◌∙◌, subst, arith, length-append}
use Rattle.pulse_isa.specs.declared.instr.Instr.{Instr}
use Rattle.pulse_isa.specs.declared.instr.Instr.TheVariants.{Return}
use Rattle.code_verify.specs.Rules.{Verified}
use Rattle.code_verify.specs.Run.{run_body, run_init}
use Rattle.iter_unroll.specs.Flat.{Fx, Fs, flat_meaning, flat_iterated, start, flat_iteration}
use Rattle.iter_unroll.specs.Flat as x
use Rattle.iter_unroll.specs.Limits.{Reach, InReach, Keeps, fs_nodes}
use Rattle.iter_unroll.specs.Uses.{Use, fx_uses, fs_uses}
use Rattle.iter_unroll.specs.Span.{HoldsAll, IsSpan}
use Rattle.flat_code.specs.Frame.{Frame, FsFits, end_of}
use Rattle.flat_code.specs.Statements.{sts_len, sts_code}
use Rattle.flat_code.specs.Segments.{body_code, body_frame, init_code, init_frame}
use Rattle.flat_code.proofs.Statements.{fits_low, sts_long}
use Rattle.flat_code.proofs.Whole.{body_right}
use Rattle.flat_code.proofs.Init.{init_right}
use Rattle.flat_code.proofs.Sizes.{sts_short}
use Rattle.flat_code.proofs.Sound.{FitAll, fit_append}
use Rattle.flat_code.proofs.Placed.{sts_sound}
use Rattle.flat_code.proofs.Verified.{verified}
use Rattle.flat_code.proofs.Reached.{front, back, both, body_fits, init_fits}

-- ---- the window

held_fx : (r : Reach) (e : Fx) → InReach r e → HoldsAll (0, r.record_size) (fx_uses e)
held_fx r (x.num n) k = tt
held_fx r x.null k = tt
held_fx r (x.arg n) k = tt
held_fx r (x.slot n) k = tt
held_fx r x.cur k = tt
held_fx r (x.cur_field o w) k = ((omega arith, omega (arith, k)), tt)
held_fx r (x.pad_field o w) k = tt
held_fx r (x.not e) k = held_fx r e k
held_fx r (x.flip e) k = held_fx r e k
held_fx r (x.bin o a b) k = both (0, r.record_size) (fx_uses a) (fx_uses b) (held_fx r a k.0) (held_fx r b k.1)
held_fx r (x.at a b) k = both (0, r.record_size) (fx_uses a) (fx_uses b) (held_fx r a k.0) (held_fx r b k.1)

held : (r : Reach) (ss : Fs) → Keeps r ss → HoldsAll (0, r.record_size) (fs_uses ss)
held r x.end k = tt
held r (x.put_slot n e rest) k = both (0, r.record_size) (fx_uses e) (fs_uses rest) (held_fx r e k.1.0) (held r rest k.2)
held r (x.put_pad o w e rest) k = both (0, r.record_size) (fx_uses e) (fs_uses rest) (held_fx r e k.1.0) (held r rest k.2)
held r (x.put_cur o w e rest) k =
    ((omega arith, omega (arith, k.0)), both (0, r.record_size) (fx_uses e) (fs_uses rest) (held_fx r e k.1.0) (held r rest k.2))
held r (x.choose e first other rest) k =
    both (0, r.record_size) (fx_uses e) (fs_uses first ++ (fs_uses other ++ fs_uses rest)) (held_fx r e k.0.0)
    (both (0, r.record_size) (fs_uses first) (fs_uses other ++ fs_uses rest) (held r first k.1) (both (0, r.record_size) (fs_uses other) (fs_uses rest) (held r other k.2) (held r rest k.3)))
held r (x.done rest) k = held r rest k
held r (x.go e rest) k = both (0, r.record_size) (fx_uses e) (fs_uses rest) (held_fx r e k.0.0) (held r rest k.1)

-- the span lies in what holds all the fields, and holds them
span_within : (uses : List Use) (off len size : ℕ) → IsSpan uses (off, len) → HoldsAll (0, size) uses → off + len ≤ size
span_within [] off len size s h = let e : off + len ≡ 0 = ap (λ (p : ℕ × ℕ). p.0 + p.1) s in omega (arith, e)
span_within (u ∷ uses) off len size s h = let l = s.1 (0, size) h in omega (arith, l.1)

span_holds : (uses : List Use) (i : ℕ × ℕ) → IsSpan uses i → HoldsAll i uses
span_holds [] i s = tt
span_holds (u ∷ uses) i s = s.0

-- ---- the body

pub record BodyIs (size pad off len : ℕ) (end_part next_part : Fs) : Type 0 where
  pub ends : Keeps (record { args = 0; record_size = size; pad_size = pad }) end_part
  pub next : Keeps (record { args = 0; record_size = size; pad_size = pad }) next_part
  pub span : IsSpan (fs_uses end_part ++ fs_uses next_part) (off, len)
  pub few : fs_nodes end_part + fs_nodes next_part ≤ 2000

abbrev reach : ℕ → ℕ → Reach
reach size pad = record { args = 0; record_size = size; pad_size = pad }

pub body_within : (size pad off len : ℕ) (e n : Fs) → BodyIs size pad off len e n → off + len ≤ size
body_within size pad off len e n b =
    span_within (fs_uses e ++ fs_uses n) off len size b.span (both (0, size) (fs_uses e) (fs_uses n) (held (reach size pad) e b.ends) (held (reach size pad) n b.next))

end_fits : (size pad off len : ℕ) (e n : Fs) → BodyIs size pad off len e n → FsFits (body_frame off len size pad) e
end_fits size pad off len e n b =
    body_fits (reach size pad) off len size pad (refl, refl, refl) e b.ends (front (off, len) (fs_uses e) (fs_uses n) (span_holds _ (off, len) b.span))

next_fits : (size pad off len : ℕ) (e n : Fs) → BodyIs size pad off len e n → FsFits (body_frame off len size pad) n
next_fits size pad off len e n b =
    body_fits (reach size pad) off len size pad (refl, refl, refl) n b.next (back (off, len) (fs_uses e) (fs_uses n) (span_holds _ (off, len) b.span))

last : (f : Frame) (len p : ℕ) → FitAll f len p (Return ∷ [])
last f len p = (record { fits = tt; kind = refl; plain = refl }, tt)

-- the instructions behind the LOAD
abbrev pub body_rest : Fs → Fs → List Instr
body_rest e n = sts_code e 1 ++ (sts_code n (1 + sts_len e) ++ Return ∷ [])

body_length : (size pad off len : ℕ) (e n : Fs) → BodyIs size pad off len e n → length (body_code off len e n) ≡ 1 + sts_len e + sts_len n + 1
body_length size pad off len e n b =
    let f = body_frame off len size pad in
    let h2 = 1 + sts_len e in
    let ce = sts_code e 1 in
    let cn = sts_code n h2 in
    let le = sts_long e (fits_low f e (end_fits size pad off len e n b)) 1 in
    let ln = sts_long n (fits_low f n (next_fits size pad off len e n b)) h2 in
    omega (arith, le, ln, length-append ce (cn ++ Return ∷ []), length-append cn (Return ∷ []))

pub body_fit : (size pad off len : ℕ) (e n : Fs) → BodyIs size pad off len e n → FitAll (body_frame off len size pad) (length (body_code off len e n)) 1 (body_rest e n)
body_fit size pad off len e n b =
    let f = body_frame off len size pad in
    let fe = end_fits size pad off len e n b in
    let fn = next_fits size pad off len e n b in
    let h2 = 1 + sts_len e in
    let ce = sts_code e 1 in
    let cn = sts_code n h2 in
    let le = sts_long e (fits_low f e fe) 1 in
    let total = length (body_code off len e n) in
    let is = body_length size pad off len e n b in
    let z1 : h2 ≡ 1 + length ce = omega (arith, le) in
    fit_append f total 1 ce (cn ++ Return ∷ []) (sts_sound f total e fe 1 (omega (arith, is)))
    (subst (λ p. FitAll f total p (cn ++ Return ∷ [])) z1
    (fit_append f total h2 cn (Return ∷ []) (sts_sound f total n fn h2 (omega (arith, is))) (last f total (h2 + length cn))))

pub body_verified : (size pad off len : ℕ) (e n : Fs) → BodyIs size pad off len e n → Verified (record { init = false; window = size; pad = pad }) (body_code off len e n)
body_verified size pad off len e n b =
    let is = body_length size pad off len e n b in
    verified (body_frame off len size pad) (body_rest e n) (body_within size pad off len e n b) (omega (arith, is)) (omega (arith, is, sts_short e, sts_short n, b.few)) (body_fit size pad off len e n b)

pub body_means : (size pad_size off len : ℕ) (e n : Fs) → BodyIs size pad_size off len e n
    → (bytes pad : List ℕ) (cur : ℕ) (writable : Bool) → length bytes ≡ size → length pad ≡ pad_size
    → run_body (body_code off len e n) bytes pad cur writable
    ≡ end_of (body_frame off len (length bytes) (length pad)) (flat_iteration (record { args = []; cur = cur; writable = writable }) e n bytes pad)
body_means size pad_size off len e n b bytes pad cur writable hs hp =
    let within : off + len ≤ length bytes = omega (arith, hs, body_within size pad_size off len e n b) in
    body_right off len cur writable e n bytes pad within
    (moved e (end_fits size pad_size off len e n b))
    (moved n (next_fits size pad_size off len e n b))
  where
    moved : (ss : Fs) → FsFits (body_frame off len size pad_size) ss → FsFits (body_frame off len (length bytes) (length pad)) ss
    moved ss h = subst (λ k. FsFits (body_frame off len (length bytes) k) ss) (sym hp) (subst (λ k. FsFits (body_frame off len k pad_size) ss) (sym hs) h)

-- ---- init

pub record InitIs (args pad : ℕ) (init_part : Fs) : Type 0 where
  pub keeps : Keeps (record { args = args; record_size = 0; pad_size = pad }) init_part
  pub few : fs_nodes init_part ≤ 2000

abbrev pub argument_frame : ℕ → ℕ → Frame
argument_frame args pad = record { init = true; window = record { off = 0; len = 8 * args }; size = 8 * args; pad = pad; args = args; given = [] }

abbrev pub init_rest : Fs → List Instr
init_rest b = sts_code b 1 ++ Return ∷ []

argument_fits : (args pad : ℕ) (b : Fs) → InitIs args pad b → FsFits (argument_frame args pad) b
argument_fits args pad b h = init_fits (record { args = args; record_size = 0; pad_size = pad }) (argument_frame args pad) (refl, refl, refl, refl, refl, refl) b h.keeps

init_length : (args pad : ℕ) (b : Fs) → InitIs args pad b → length (init_code args b) ≡ 1 + sts_len b + 1
init_length args pad b h =
    let cb = sts_code b 1 in
    let lb = sts_long b (fits_low (argument_frame args pad) b (argument_fits args pad b h)) 1 in
    omega (arith, lb, length-append cb (Return ∷ []))

pub init_fit : (args pad : ℕ) (b : Fs) → InitIs args pad b → FitAll (argument_frame args pad) (length (init_code args b)) 1 (init_rest b)
init_fit args pad b h =
    let f = argument_frame args pad in
    let cb = sts_code b 1 in
    let total = length (init_code args b) in
    let is = init_length args pad b h in
    fit_append f total 1 cb (Return ∷ []) (sts_sound f total b (argument_fits args pad b h) 1 (omega (arith, is))) (last f total (1 + length cb))

pub init_verified : (args pad : ℕ) (b : Fs) → InitIs args pad b → Verified (record { init = true; window = 8 * args; pad = pad }) (init_code args b)
init_verified args pad b h =
    let is = init_length args pad b h in
    verified (argument_frame args pad) (init_rest b) (omega arith) (omega (arith, is)) (omega (arith, is, sts_short b, h.few)) (init_fit args pad b h)

pub init_means : (n pad : ℕ) (b : Fs) → InitIs n pad b → (args : List ℕ) → length args ≡ n → All (λ v. v < 2 ^ 64) args
    → run_init (init_code n b) args pad
    ≡ end_of (init_frame args pad) (flat_iterated (flat_meaning (record { args = args; cur = 0; writable = true }) b (start [] (replicate pad 0))))
init_means n pad b h args long all =
    ap (λ k. run_init (init_code k b) args pad) (sym long)
    ∙ init_right b args pad all
    (init_fits (record { args = n; record_size = 0; pad_size = pad }) (init_frame args pad) (sym long, refl, refl, refl, refl, refl) b h.keeps)
