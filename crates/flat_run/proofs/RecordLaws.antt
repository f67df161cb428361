-- A step changes only the bytes of its record.
use Rattle.std.proofs.Common.{◌≡◌, ℕ, zero, suc, ◌+◌, ◌-◌, min, List, [], ◌∷◌, ◌++◌, length, take, drop, set, Option, Some, refl, sym, ap, subst, ◌∙◌, arith, length-append, length-take, length-drop}
use Rattle.std.specs.Prelude.{slice_get}
use Rattle.std.proofs.lemmas.Grind.{common_steps}
use Rattle.iter_check.specs.Iteration.{Iterated, Done, Goes, Fault}
use Rattle.iter_check.specs.Laws.{Leaves}
use Rattle.iter_check.proofs.LengthLaws.{iteration_leaves}
use Rattle.range_table.specs.Memory.{may_write}
use Rattle.flat_run.specs.declared.state.FlatRegion.{FlatRegion}
use Rattle.flat_run.specs.declared.state.FlatState.{FlatState}
use Rattle.flat_run.specs.Walk.{record_size}
use Rattle.flat_run.specs.Region.{spans, bytes_at, spliced, with_bytes, record_at}
use Rattle.flat_run.specs.Step.{Next, iterates, settled, settled_next}
use Rattle.flat_run.specs.Laws.{RecordLaw, ChangesWithin}

splice_front : (b new : List ℕ) (off size : ℕ) → length new ≡ min size (length b - off) → take off (spliced b off new) ≡ take off b
splice_front b new off size h = grind (arith, common_steps)

splice_back : (b new : List ℕ) (off size : ℕ) → length new ≡ min size (length b - off) → drop (off + size) (spliced b off new) ≡ drop (off + size) b
splice_back b new off size h = grind (arith, common_steps)

pub splice_len : (b new : List ℕ) (off size : ℕ) → length new ≡ min size (length b - off) → length (spliced b off new) ≡ length b
splice_len b new off size h =
    omega (arith, h, length-append (take off b ++ new) (drop (off + length new) b), length-append (take off b) new, length-take off b, length-drop (off + length new) b)

pub bytes_len : (o : FlatRegion) (p size : ℕ) → length (bytes_at (Some o) p size) ≡ min size (length o.bytes - (p - o.span.base))
bytes_len o p size = omega (arith, length-take size (drop (p - o.span.base) o.bytes), length-drop (p - o.span.base) o.bytes)

pub get_same : {A : Type 0} (xs : List A) (i : ℕ) (x y : A) → slice_get xs i ≡ Some y → slice_get (set xs i x) i ≡ Some x
get_same [] i x y h = absurd (cc)
get_same (z ∷ xs) zero x y h = refl
get_same (z ∷ xs) (suc i) x y h = get_same xs i x y h

put_within : (rs : List FlatRegion) (i p size : ℕ) (bytes : List ℕ) (old new : FlatRegion) → slice_get rs i ≡ Some old → length bytes ≡ length (bytes_at (slice_get rs i) p size) → slice_get (with_bytes rs i p bytes (slice_get rs i)) i ≡ Some new → ChangesWithin old new (p - old.span.base) size
put_within rs i p size bytes old new e len h =
    let n : length bytes ≡ min size (length old.bytes - (p - old.span.base)) = len ∙ ap (λ o. length (bytes_at o p size)) e ∙ bytes_len old p size in
    let changed : FlatRegion = record old { bytes = spliced old.bytes (p - old.span.base) bytes } in
    let at : slice_get (with_bytes rs i p bytes (slice_get rs i)) i ≡ Some changed = ap (λ o. slice_get (with_bytes rs i p bytes o) i) e ∙ get_same rs i changed old e in
    let q : changed ≡ new = cc in
    subst (λ x. ChangesWithin old x (p - old.span.base) size) q (record {
      span = refl;
      length = splice_len old.bytes bytes (p - old.span.base) size n;
      front = splice_front old.bytes bytes (p - old.span.base) size n;
      back = splice_back old.bytes bytes (p - old.span.base) size n;
    })

same_within : (old new : FlatRegion) (offset size : ℕ) (o : Option FlatRegion) → o ≡ Some old → o ≡ Some new → ChangesWithin old new offset size
same_within old new offset size o e h =
    let q : old ≡ new = cc in
    subst (λ x. ChangesWithin old x offset size) q (record { span = refl; length = refl; front = refl; back = refl })

settled_within : (s : FlatState) (r : ℕ) (t : Next) (x : Iterated) (old new : FlatRegion) → Leaves (length (record_at s.regions t.region t.cur (record_size t.walk))) (length t.pad) x → slice_get s.regions t.region ≡ Some old → slice_get (settled s r t x).regions t.region ≡ Some new → ChangesWithin old new (t.cur - old.span.base) (record_size t.walk)
settled_within s r t (Done bytes pad) old new l e h = put_within s.regions t.region t.cur (record_size t.walk) bytes old new e l.0 h
settled_within s r t (Goes to bytes pad) old new l e h = put_within s.regions t.region t.cur (record_size t.walk) bytes old new e l.0 h
settled_within s r t (Fault k) old new l e h = same_within old new _ _ _ e h

pub record_alone : RecordLaw
record_alone walks limit s r t old new e o h =
    settled_within s r t (iterates s t) old new
    (iteration_leaves t.walk.fields t.walk.iter (record_at s.regions t.region t.cur (record_size t.walk)) t.cur t.pad (may_write (spans s.regions) t.region))
    o (sym (ap (λ x. slice_get (settled_next s r x).regions t.region) e) ∙ h)
