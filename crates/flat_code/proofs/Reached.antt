-- Flat programs that keep to what is there have code that stands, in a window that holds the fields they use.
use Rattle.std.proofs.Common.{◌≡◌, ℕ, ◌+◌, ◌*◌, ◌<◌, ◌≤◌, true, nat_le, List, [], ◌∷◌, ◌++◌, refl, ap, ◌∙◌, arith}
use Rattle.std.proofs.lemmas.Bool.{le-leb, and_from}
use Rattle.iter_syntax.specs.declared.tree.Width.{Width}
use Rattle.iter_syntax.specs.declared.tree.Width.TheVariants as width
use Rattle.pulse_isa.specs.Bytes.{is_width}
use Rattle.pulse_isa.specs.Step.{Window, is_inside}
use Rattle.code_verify.specs.Fits.{HasBytes, HasSeen}
use Rattle.iter_check.specs.Layout.{width_bytes}
use Rattle.iter_unroll.specs.Flat.{Fx, Fs}
use Rattle.iter_unroll.specs.Flat as x
use Rattle.iter_unroll.specs.Limits.{Reach, InReach, depth, Whole, Keeps}
use Rattle.iter_unroll.specs.Uses.{Use, fx_uses, fs_uses}
use Rattle.iter_unroll.specs.Span.{Holds, HoldsAll}
use Rattle.flat_code.specs.Code.{height}
use Rattle.flat_code.specs.Frame.{Frame, FxFits, UseFits, FsFits}
use Rattle.flat_code.specs.Segments.{body_frame}

-- ---- parts of lists

pub front : (i : ℕ × ℕ) (us vs : List Use) → HoldsAll i (us ++ vs) → HoldsAll i us
front i [] vs h = tt
front i (u ∷ us) vs h = (h.0, front i us vs h.1)

pub back : (i : ℕ × ℕ) (us vs : List Use) → HoldsAll i (us ++ vs) → HoldsAll i vs
back i [] vs h = h
back i (u ∷ us) vs h = back i us vs h.1

pub both : (i : ℕ × ℕ) (us vs : List Use) → HoldsAll i us → HoldsAll i vs → HoldsAll i (us ++ vs)
both i [] vs h k = k
both i (u ∷ us) vs h k = (h.0, both i us vs h.1 k)

-- ---- fields

wide : (w : Width) → is_width (width_bytes w) ≡ true
wide width.U8 = refl
wide width.U16 = refl
wide width.U32 = refl
wide width.U64 = refl
wide width.Ptr = refl

pub some_bytes : (w : Width) → 1 ≤ width_bytes w
some_bytes width.U8 = omega arith
some_bytes width.U16 = omega arith
some_bytes width.U32 = omega arith
some_bytes width.U64 = omega arith
some_bytes width.Ptr = omega arith

has_bytes : (n o : ℕ) (w : Width) → o + width_bytes w ≤ n → HasBytes n o (width_bytes w)
has_bytes n o w h = record { width = wide w; within = h }

inside : (off len o n : ℕ) → off ≤ o → o + n ≤ off + len → is_inside (record { off = off; len = len }) o n ≡ true
inside off len o n low high = and_from (nat_le off o) (nat_le (o + n) (off + len)) (le-leb off o low) (le-leb (o + n) (off + len) high)

has_seen : (size off len o : ℕ) (w : Width) → Holds (off, len) (o, w) → o + width_bytes w ≤ size → HasSeen size (record { off = off; len = len }) o (width_bytes w)
has_seen size off len o w h within = record { inside = inside off len o (width_bytes w) h.0 h.1; bytes = has_bytes size o w within }

-- ---- how deep

pub height_depth : (e : Fx) → height e + 1 ≤ depth e
height_depth (x.num n) = omega arith
height_depth x.null = omega arith
height_depth (x.arg k) = omega arith
height_depth (x.slot k) = omega arith
height_depth x.cur = omega arith
height_depth (x.cur_field o w) = omega arith
height_depth (x.pad_field o w) = omega arith
height_depth (x.not e) = omega (arith, height_depth e)
height_depth (x.flip e) = omega (arith, height_depth e)
height_depth (x.bin o a b) = omega (arith, height_depth a, height_depth b)
height_depth (x.at a b) = omega (arith, height_depth a, height_depth b)

pub low_enough : (e : Fx) → depth e ≤ 7 → height e ≤ 6
low_enough e h = omega (arith, height_depth e, h)

-- ---- the body

abbrev IsBody : Reach → ℕ → ℕ → ℕ → ℕ → Type 0
IsBody r off len size pad = (r.args ≡ 0) × (r.record_size ≡ size) × (r.pad_size ≡ pad)

body_fx : (r : Reach) (off len size pad : ℕ) → IsBody r off len size pad → (e : Fx) → InReach r e → HoldsAll (off, len) (fx_uses e) → FxFits (body_frame off len size pad) e
body_fx r off len size pad b (x.num n) k h = tt
body_fx r off len size pad b x.null k h = tt
body_fx r off len size pad b (x.arg n) k h = absurd (omega (arith, k, b.0))
body_fx r off len size pad b (x.slot n) k h = k
body_fx r off len size pad b x.cur k h = refl
body_fx r off len size pad b (x.cur_field o w) k h = (refl, has_seen size off len o w (h.0) (omega (arith, k, b.1)))
body_fx r off len size pad b (x.pad_field o w) k h = has_bytes pad o w (omega (arith, k, b.2))
body_fx r off len size pad b (x.not e) k h = body_fx r off len size pad b e k h
body_fx r off len size pad b (x.flip e) k h = body_fx r off len size pad b e k h
body_fx r off len size pad b (x.bin o a c) k h =
    (body_fx r off len size pad b a k.0 (front (off, len) (fx_uses a) (fx_uses c) h), body_fx r off len size pad b c k.1 (back (off, len) (fx_uses a) (fx_uses c) h))
body_fx r off len size pad b (x.at a c) k h =
    (body_fx r off len size pad b a k.0 (front (off, len) (fx_uses a) (fx_uses c) h), body_fx r off len size pad b c k.1 (back (off, len) (fx_uses a) (fx_uses c) h))

body_use : (r : Reach) (off len size pad : ℕ) → IsBody r off len size pad → (e : Fx) → Whole r e → HoldsAll (off, len) (fx_uses e) → UseFits (body_frame off len size pad) e
body_use r off len size pad b e k h = (body_fx r off len size pad b e k.0 h, low_enough e k.1)

pub body_fits : (r : Reach) (off len size pad : ℕ) → IsBody r off len size pad → (ss : Fs) → Keeps r ss → HoldsAll (off, len) (fs_uses ss) → FsFits (body_frame off len size pad) ss
body_fits r off len size pad b x.end k h = tt
body_fits r off len size pad b (x.put_slot n e rest) k h =
    let i : ℕ × ℕ = (off, len) in
    (k.0, body_use r off len size pad b e k.1 (front i (fx_uses e) (fs_uses rest) h), body_fits r off len size pad b rest k.2 (back i (fx_uses e) (fs_uses rest) h))
body_fits r off len size pad b (x.put_pad o w e rest) k h =
    let i : ℕ × ℕ = (off, len) in
    (has_bytes pad o w (omega (arith, k.0, b.2)), body_use r off len size pad b e k.1 (front i (fx_uses e) (fs_uses rest) h), body_fits r off len size pad b rest k.2 (back i (fx_uses e) (fs_uses rest) h))
body_fits r off len size pad b (x.put_cur o w e rest) k h =
    let i : ℕ × ℕ = (off, len) in
    let more = h.1 in
    (refl, has_seen size off len o w (h.0) (omega (arith, k.0, b.1)), body_use r off len size pad b e k.1 (front i (fx_uses e) (fs_uses rest) more), body_fits r off len size pad b rest k.2 (back i (fx_uses e) (fs_uses rest) more))
body_fits r off len size pad b (x.choose e first other rest) k h =
    let i : ℕ × ℕ = (off, len) in
    let h1 = back i (fx_uses e) (fs_uses first ++ (fs_uses other ++ fs_uses rest)) h in
    let h2 = back i (fs_uses first) (fs_uses other ++ fs_uses rest) h1 in (
      body_use r off len size pad b e k.0 (front i (fx_uses e) (fs_uses first ++ (fs_uses other ++ fs_uses rest)) h),
      body_fits r off len size pad b first k.1 (front i (fs_uses first) (fs_uses other ++ fs_uses rest) h1),
      body_fits r off len size pad b other k.2 (front i (fs_uses other) (fs_uses rest) h2),
      body_fits r off len size pad b rest k.3 (back i (fs_uses other) (fs_uses rest) h2),
    )
body_fits r off len size pad b (x.done rest) k h = body_fits r off len size pad b rest k h
body_fits r off len size pad b (x.go e rest) k h =
    let i : ℕ × ℕ = (off, len) in
    (body_use r off len size pad b e k.0 (front i (fx_uses e) (fs_uses rest) h), body_fits r off len size pad b rest k.1 (back i (fx_uses e) (fs_uses rest) h))

-- ---- init

abbrev IsInit : Reach → Frame → Type 0
IsInit r f = (r.args ≡ f.args) × (r.record_size ≡ 0) × (r.pad_size ≡ f.pad) × (f.init ≡ true) × (f.size ≡ 8 * f.args) × (f.window ≡ record { off = 0; len = 8 * f.args })

init_fx : (r : Reach) (f : Frame) → IsInit r f → (e : Fx) → InReach r e → FxFits f e
init_fx r f i (x.num n) k = tt
init_fx r f i x.null k = tt
init_fx r f i (x.arg n) k =
    let lt : n < f.args = omega (arith, k, i.0) in
    (i.3, lt, argument_seen n f.args f.size f.window lt i.4 i.5)
  where
    argument_seen : (n args size : ℕ) (window : Window) → n < args → size ≡ 8 * args → window ≡ record { off = 0; len = 8 * args } → HasSeen size window (8 * n) 8
    argument_seen n args size window lt es ew = record {
      inside = ap (λ v. is_inside v (8 * n) 8) ew ∙ inside 0 (8 * args) (8 * n) 8 (omega arith) (omega arith);
      bytes = record { width = refl; within = omega arith };
    }
init_fx r f i (x.slot n) k = k
init_fx r f i x.cur k = absurd (omega (arith, k, i.1))
init_fx r f i (x.cur_field o w) k = absurd (omega (arith, k, i.1, some_bytes w))
init_fx r f i (x.pad_field o w) k = has_bytes f.pad o w (omega (arith, k, i.2))
init_fx r f i (x.not e) k = init_fx r f i e k
init_fx r f i (x.flip e) k = init_fx r f i e k
init_fx r f i (x.bin o a c) k = (init_fx r f i a k.0, init_fx r f i c k.1)
init_fx r f i (x.at a c) k = (init_fx r f i a k.0, init_fx r f i c k.1)

init_use : (r : Reach) (f : Frame) → IsInit r f → (e : Fx) → Whole r e → UseFits f e
init_use r f i e k = (init_fx r f i e k.0, low_enough e k.1)

pub init_fits : (r : Reach) (f : Frame) → IsInit r f → (ss : Fs) → Keeps r ss → FsFits f ss
init_fits r f i x.end k = tt
init_fits r f i (x.put_slot n e rest) k = (k.0, init_use r f i e k.1, init_fits r f i rest k.2)
init_fits r f i (x.put_pad o w e rest) k = (has_bytes f.pad o w (omega (arith, k.0, i.2)), init_use r f i e k.1, init_fits r f i rest k.2)
init_fits r f i (x.put_cur o w e rest) k = absurd (omega (arith, k.0, i.1, some_bytes w))
init_fits r f i (x.choose e first other rest) k = (init_use r f i e k.0, init_fits r f i first k.1, init_fits r f i other k.2, init_fits r f i rest k.3)
init_fits r f i (x.done rest) k = init_fits r f i rest k
init_fits r f i (x.go e rest) k = (init_use r f i e k.0, init_fits r f i rest k.1)
