-- No step changes a span or a length of a region.
use Rattle.std.proofs.Common.{◌≡◌, ℕ, zero, suc, ◌-◌, ◌<◌, min, List, [], ◌∷◌, length, get_or, map, set, All, Option, Some, None, refl, sym, ap, subst, ◌∙◌, arith}
use Rattle.std.proofs.lemmas.List.{length-map}
use Rattle.std.proofs.Math.ListN.{get_or-map}
use Rattle.std.specs.Prelude.{slice_get}
use Rattle.iter_check.specs.Iteration.{Iterated, Done, Goes, Fault}
use Rattle.iter_check.specs.Laws.{Leaves}
use Rattle.iter_check.proofs.LengthLaws.{iteration_leaves}
use Rattle.range_table.specs.declared.region.RegionSpan.{RegionSpan}
use Rattle.range_table.specs.Memory.{may_write}
use Rattle.range_table.specs.Table.{IsTable}
use Rattle.flat_run.specs.declared.state.FlatRegion.{FlatRegion}
use Rattle.flat_run.specs.declared.state.FlatState.{FlatState}
use Rattle.flat_run.specs.Walk.{record_size}
use Rattle.flat_run.specs.Region.{spans, shape, bytes_at, spliced, with_bytes, record_at}
use Rattle.flat_run.specs.Step.{Next, next_of, iterates, settled, settled_next, flat_step}
use Rattle.flat_run.specs.Run.{flat_run}
use Rattle.flat_run.specs.Laws.{ShapeLaw, MemoryLaw}
use Rattle.flat_run.proofs.RecordLaws.{splice_len, bytes_len}

map_set : {A B : Type 0} (f : A → B) (xs : List A) (i : ℕ) (x y : A) → slice_get xs i ≡ Some y → f x ≡ f y → map f (set xs i x) ≡ map f xs
map_set f [] i x y h e = refl
map_set f (z ∷ xs) zero x y h e = let same : z ≡ y = cc in ap (λ b. b ∷ map f xs) (e ∙ ap f (sym same))
map_set f (z ∷ xs) (suc i) x y h e = ap (λ l. f z ∷ l) (map_set f xs i x y h e)

put_shape : (rs : List FlatRegion) (i p size : ℕ) (bytes : List ℕ) (o : Option FlatRegion) → slice_get rs i ≡ o → length bytes ≡ length (bytes_at o p size) → map shape (with_bytes rs i p bytes o) ≡ map shape rs
put_shape rs i p size bytes None e len = refl
put_shape rs i p size bytes (Some r) e len =
    let n : length bytes ≡ min size (length r.bytes - (p - r.span.base)) = len ∙ bytes_len r p size in
    map_set shape rs i (record r { bytes = spliced r.bytes (p - r.span.base) bytes }) r e (ap (λ k. (r.span, k)) (splice_len r.bytes bytes (p - r.span.base) size n))

settled_shape : (s : FlatState) (r : ℕ) (t : Next) (x : Iterated) → Leaves (length (record_at s.regions t.region t.cur (record_size t.walk))) (length t.pad) x → map shape (settled s r t x).regions ≡ map shape s.regions
settled_shape s r t (Done bytes pad) l = put_shape s.regions t.region t.cur (record_size t.walk) bytes (slice_get s.regions t.region) refl l.0
settled_shape s r t (Goes to bytes pad) l = put_shape s.regions t.region t.cur (record_size t.walk) bytes (slice_get s.regions t.region) refl l.0
settled_shape s r t (Fault k) l = refl

next_shape : (s : FlatState) (r : ℕ) (o : Option Next) → map shape (settled_next s r o).regions ≡ map shape s.regions
next_shape s r None = refl
next_shape s r (Some t) =
    settled_shape s r t (iterates s t)
    (iteration_leaves t.walk.fields t.walk.iter (record_at s.regions t.region t.cur (record_size t.walk)) t.cur t.pad (may_write (spans s.regions) t.region))

pub shapes_stay : ShapeLaw
shapes_stay walks limit s [] = refl
shapes_stay walks limit s (r ∷ order) = shapes_stay walks limit (flat_step walks limit s r) order ∙ next_shape s r (next_of walks limit s r)

spans_of : (rs : List FlatRegion) → map (λ (p : RegionSpan × ℕ). p.0) (map shape rs) ≡ spans rs
spans_of [] = refl
spans_of (r ∷ rs) = ap (λ l. r.span ∷ l) (spans_of rs)

all_filled : (xs ys : List FlatRegion) → map shape xs ≡ map shape ys → All (λ (r : FlatRegion). length r.bytes ≡ r.span.len) ys → All (λ (r : FlatRegion). length r.bytes ≡ r.span.len) xs
all_filled xs ys e h k d lt =
    let same : shape (get_or xs k d) ≡ shape (get_or ys k d) = sym (get_or-map shape xs k d) ∙ ap (λ l. get_or l k (shape d)) e ∙ get_or-map shape ys k d in
    let many : length xs ≡ length ys = sym (length-map xs shape) ∙ ap length e ∙ length-map ys shape in
    let there : k < length ys = omega (arith, many, lt) in
    ap (λ (p : RegionSpan × ℕ). p.1) same ∙ h k d there ∙ sym (ap (λ (p : RegionSpan × ℕ). p.0.len) same)

pub memory_stays : MemoryLaw
memory_stays walks limit s order m =
    let after = (flat_run walks limit s order).regions in
    let e = shapes_stay walks limit s order in
    let same : spans after ≡ spans s.regions = sym (spans_of after) ∙ ap (map (λ (p : RegionSpan × ℕ). p.0)) e ∙ spans_of s.regions in
    record { filled = all_filled after s.regions e m.filled; table = subst IsTable (sym same) m.table }
