-- The image of straight code that means an iterator means the iterator.
use Rattle.std.proofs.Common.{◌≡◌, ◌≤◌, ℕ, zero, suc, ◌*◌, true, List, [], ◌∷◌, ◌++◌, length, Option, Some, None, replicate, refl, sym, ap, ap₂, ◌∙◌, subst, arith}
use Rattle.std.specs.Prelude.{slice_get}
use Rattle.pulse_base.specs.declared.answer.Cause.TheVariants.{NotWritable, DivZero}
use Rattle.iter_syntax.specs.declared.tree.Iter.{Iter}
use Rattle.iter_syntax.specs.declared.tree.Program.{Program}
use Rattle.iter_check.specs.FaultList.{record_fields}
use Rattle.iter_check.specs.Iteration.{Iterated}
use Rattle.iter_check.specs.Iteration as i
use Rattle.iter_check.specs.Value.{word}
use Rattle.code_verify.specs.Run.{run_body, run_init}
use Rattle.code_image.specs.declared.image.Image.{Image}
use Rattle.iter_unroll.specs.declared.tree.Flat.{Flat}
use Rattle.iter_unroll.specs.Tree.{fsts}
use Rattle.iter_unroll.specs.Flat.{Fs, Fixed, Slots, Leaving, Falls, Ends, flat_value, flat_given, flat_then, flat_pick, flat_meaning, flat_iterated, flat_begun, flat_begin, start, to_slot, to_pad}
use Rattle.iter_unroll.specs.Flat as x
use Rattle.iter_unroll.specs.Limits.{Reach, Keeps}
use Rattle.iter_unroll.specs.Uses.{Use, flat_uses, iter_uses}
use Rattle.iter_unroll.specs.Span.{HoldsAll, IsSpan}
use Rattle.iter_unroll.specs.Unrolled.{HasSizes, Iterates, Begins}
use Rattle.flat_hoist.specs.Hoisted.{StandsFor}
use Rattle.flat_code.specs.Frame as f
use Rattle.flat_code.specs.Segments.{body_frame, init_frame, body_code, init_code}
use Rattle.flat_code.proofs.Reached.{some_bytes}
use Rattle.flat_code.proofs.Segments.{BodyIs, InitIs, body_fit, body_means, init_fit, init_means, body_rest, init_rest, argument_frame}
use Rattle.pulse_codegen.specs.Means.{end_of, start_of}
use Rattle.pulse_codegen.specs.OneLoad.{LoadsOnce}
use Rattle.pulse_codegen.specs.Compiled.{IsImageOf, Compiles, CompilesFirst}
use Rattle.pulse_codegen.specs.Flat.{Fits, IsImageOfFlat}
use Rattle.pulse_codegen.proofs.Whole.{loads}

-- ---- init stores to no record, so it is never barred

abbrev NotBarred : Leaving → Type 0
NotBarred (Falls a) = Unit {0}
NotBarred (Ends (i.Done bytes pad)) = Unit {0}
NotBarred (Ends (i.Goes to bytes pad)) = Unit {0}
NotBarred (Ends (i.Fault DivZero)) = Unit {0}
NotBarred (Ends (i.Fault NotWritable)) = ⊥

free_given : (o : Option ℕ) (F : ℕ → Leaving) → ((v : ℕ) → NotBarred (F v)) → NotBarred (flat_given o F)
free_given None F h = tt
free_given (Some v) F h = h v

free_then : (o : Leaving) (F : Slots → Leaving) → NotBarred o → ((a : Slots) → NotBarred (F a)) → NotBarred (flat_then o F)
free_then (Falls a) F h k = k a
free_then (Ends r) F h k = h

free_pick : (v : ℕ) (p q : Leaving) → NotBarred p → NotBarred q → NotBarred (flat_pick v p q)
free_pick zero p q hp hq = hq
free_pick (suc v) p q hp hq = hp

free : (g : Fixed) (r : Reach) (ss : Fs) (a : Slots) → r.record_size ≡ 0 → Keeps r ss → NotBarred (flat_meaning g ss a)
free g r x.end a none k = tt
free g r (x.put_slot n e rest) a none k = free_given (word (flat_value g a e)) _ (λ v. free g r rest (to_slot n v a) none k.2)
free g r (x.put_pad o w e rest) a none k = free_given (word (flat_value g a e)) _ (λ v. free g r rest (to_pad o w v a) none k.2)
free g r (x.put_cur o w e rest) a none k = absurd (omega (arith, k.0, none, some_bytes w))
free g r (x.choose e first other rest) a none k =
    free_given (word (flat_value g a e)) _
    (λ v. free_then (flat_pick v (flat_meaning g first a) (flat_meaning g other a)) _ (free_pick v _ _ (free g r first a none k.1) (free g r other a none k.2)) (λ b. free g r rest b none k.3))
free g r (x.done rest) a none k = tt
free g r (x.go e rest) a none k = free_given (word (flat_value g a e)) _ (λ v. tt)

-- ---- ends

end_same : (off len size pad : ℕ) (r : Iterated) → f.end_of (body_frame off len size pad) r ≡ end_of r
end_same off len size pad (i.Done bytes after) = refl
end_same off len size pad (i.Goes to bytes after) = refl
end_same off len size pad (i.Fault cause) = refl

start_same : (args : List ℕ) (pad : ℕ) (l : Leaving) → NotBarred l → f.end_of (init_frame args pad) (flat_iterated l) ≡ start_of args (flat_begun (flat_iterated l))
start_same args pad (Falls a) h = refl
start_same args pad (Ends (i.Done bytes after)) h = refl
start_same args pad (Ends (i.Goes to bytes after)) h = refl
start_same args pad (Ends (i.Fault DivZero)) h = refl
start_same args pad (Ends (i.Fault NotWritable)) h = absurd h

-- ---- there is one span

span_one : (uses : List Use) (one other : ℕ × ℕ) → IsSpan uses one → IsSpan uses other → one ≡ other
span_one [] one other h k = h ∙ sym k
span_one (u ∷ uses) one other h k =
    let inner = h.1 other k.0 in
    let outer = k.1 one h.0 in
    let off : one.0 ≡ other.0 = omega (arith, inner.0, outer.0) in
    let len : one.1 ≡ other.1 = omega (arith, inner.0, inner.1, outer.0, outer.1) in
    ap₂ (λ a b. (a, b)) off len

-- ---- what is known of the parts

pub body_is : (flat : Flat) (span : ℕ × ℕ) → Fits flat → IsSpan (flat_uses flat) span → BodyIs flat.record_size flat.pad_size span.0 span.1 (fsts flat.end_part) (fsts flat.next_part)
body_is flat span h least = record { ends = h.keeps.1; next = h.keeps.2; span = least; few = h.few.1 }

pub init_is : (flat : Flat) → Fits flat → InitIs flat.args flat.pad_size (fsts flat.init_part)
init_is flat h = record { keeps = h.keeps.0; few = h.few.0 }

-- ---- images

image_means : (p : Program) (it : Iter) (flat : Flat) (image : Image) → Fits flat → IsImageOfFlat flat image
    → HasSizes (record_fields p.records it) it flat → Iterates (record_fields p.records it) it flat → Begins (record_fields p.records it) it flat
    → ((span : ℕ × ℕ) → IsSpan (iter_uses (record_fields p.records it) it) span → IsSpan (flat_uses flat) span) → IsImageOf p it image
image_means p it flat image h m sizes iterates begins spans =
    let e = fsts flat.end_part in
    let n = fsts flat.next_part in
    let b = fsts flat.init_part in
    let body = body_is flat m.span h m.least in
    let init = init_is flat h in
    record {
      means = record {
        record_size = m.record_size ∙ sizes.0;
        pad_size = m.pad_size ∙ sizes.1;
        args = m.args ∙ sizes.2;
        body = λ bytes pad cur writable hs hp.
            ap (λ c. run_body c bytes pad cur writable) m.body
            ∙ body_means flat.record_size flat.pad_size m.span.0 m.span.1 e n body bytes pad cur writable (hs ∙ m.record_size) (hp ∙ m.pad_size)
            ∙ end_same m.span.0 m.span.1 (length bytes) (length pad) _
            ∙ ap end_of (iterates bytes cur pad writable);
        init = λ args long all.
            ap (λ c. run_init c args image.pad_size) m.init
            ∙ ap (λ k. run_init (init_code flat.args b) args k) m.pad_size
            ∙ init_means flat.args flat.pad_size b init args (long ∙ m.args) all
            ∙ start_same args flat.pad_size (flat_meaning (record { args = args; cur = 0; writable = true }) b (start [] (replicate flat.pad_size 0)))
            (free (record { args = args; cur = 0; writable = true }) (record { args = flat.args; record_size = 0; pad_size = flat.pad_size }) b (start [] (replicate flat.pad_size 0)) refl init.keeps)
            ∙ ap (start_of args) (begins args (long ∙ m.args));
      };
      loads = record {
        body = λ span least.
            subst (λ at. LoadsOnce at image.body_code) (span_one (flat_uses flat) m.span span m.least (spans span least))
            (subst (LoadsOnce m.span) (sym m.body) (loads (body_frame m.span.0 m.span.1 flat.record_size flat.pad_size) (length (body_code m.span.0 m.span.1 e n)) 1 m.span (body_rest e n) (body_fit flat.record_size flat.pad_size m.span.0 m.span.1 e n body)));
        init = subst (LoadsOnce (0, 8 * image.args)) (sym m.init)
            (subst (λ k. LoadsOnce (0, 8 * k) (init_code flat.args b)) (sym m.args)
            (loads (argument_frame flat.args flat.pad_size) (length (init_code flat.args b)) 1 (0, 8 * flat.args) (init_rest b) (init_fit flat.args flat.pad_size b init)));
      };
    }

-- ---- straight code that stands for other code

pub fits_too : (old new : Flat) → StandsFor old new → Fits old → Fits new
fits_too old new s h = record {
  small = subst (λ n. (1 ≤ n) × (n ≤ 256) × (1 ≤ new.pad_size) × (new.pad_size ≤ 256) × (new.args ≤ 8)) (sym s.record_size)
      (subst (λ n. (1 ≤ old.record_size) × (old.record_size ≤ 256) × (1 ≤ n) × (n ≤ 256) × (new.args ≤ 8)) (sym s.pad_size)
      (subst (λ n. (1 ≤ old.record_size) × (old.record_size ≤ 256) × (1 ≤ old.pad_size) × (old.pad_size ≤ 256) × (n ≤ 8)) (sym s.args) h.small));
  keeps = s.keeps h.keeps;
  few = s.few h.few;
  inside = subst (λ n. HoldsAll (0, n) (flat_uses new)) (sym s.record_size) (s.holds (0, old.record_size) h.inside);
}

pub hoisted_means : (p : Program) (it : Iter) (old new : Flat) (image : Image) → StandsFor old new → Fits old → IsImageOfFlat new image
    → HasSizes (record_fields p.records it) it old → Iterates (record_fields p.records it) it old → Begins (record_fields p.records it) it old
    → flat_uses old ≡ iter_uses (record_fields p.records it) it → IsImageOf p it image
hoisted_means p it old new image s h m sizes iterates begins uses =
    image_means p it new image (fits_too old new s h) m
    (s.record_size ∙ sizes.0, s.pad_size ∙ sizes.1, s.args ∙ sizes.2)
    (λ record_bytes cur pad writable. s.iterates (record { args = []; cur = cur; writable = writable }) record_bytes pad ∙ iterates record_bytes cur pad writable)
    (λ values long. ap₂ (λ b n. flat_begin (fsts b) values n) s.init s.pad_size ∙ begins values (long ∙ s.args))
    (λ span least. s.span span (subst (λ l. IsSpan l span) (sym uses) least))

-- ---- all of them

none_compiled : (p : Program) → CompilesFirst p []
none_compiled p number image e = absurd cc

last_or : (images : List Image) (image got : Image) (number : ℕ) → slice_get (images ++ image ∷ []) number ≡ Some got → (P : ℕ → Image → Type 0) → ((k : ℕ) (g : Image) → slice_get images k ≡ Some g → P k g) → P (length images) image → P number got
last_or [] image got zero e P h last = let same : image ≡ got = cc in subst (P 0) same last
last_or [] image got (suc k) e P h last = absurd cc
last_or (y ∷ images) image got zero e P h last = h 0 got e
last_or (y ∷ images) image got (suc k) e P h last =
    last_or images image got k e (λ j g. P (suc j) g) (λ j g q. h (suc j) g q) (let z : length (y ∷ images) ≡ suc (length images) = omega arith in subst (λ j. P j image) z last)

pub one_more : (p : Program) (images : List Image) (image : Image) (number : ℕ) → CompilesFirst p images → length images ≡ number → Compiles p number image → CompilesFirst p (images ++ image ∷ [])
one_more p images image number h long c k got e =
    last_or images image got k e (Compiles p) h (subst (λ j. Compiles p j image) (sym long) c)
