-- The first region that holds a span, by a scan.
use Rattle.std.proofs.Common.{◌≡◌, ℕ, suc, ◌+◌, ◌-◌, ◌<◌, ◌≤◌, Bool, true, false, not, List, [], ◌∷◌, zero, length, get_or, drop, set, sym, ap, subst, ◌∙◌, arith, length-take, length-drop, Some, None, nat_lt, cond}
use Rattle.std.proofs.lemmas.List.{length-map}
use Rattle.std.proofs.Math.ListN.{get_or-map}
use Rattle.std.proofs.lemmas.List.Sums.{prefix_len-drop_no, prefix_len-drop_yes}
use Rattle.std.specs.List.{prefix_len}
use Rattle.iter_syntax.specs.declared.tree.FieldDecl.{FieldDecl}
use Rattle.iter_syntax.specs.declared.tree.Iter.{Iter}
use Rattle.iter_check.specs.Iteration.{iteration}
use Rattle.iter_check.specs.Laws.{Leaves}
use Rattle.iter_check.proofs.LengthLaws.{iteration_leaves}
use Rattle.flat_run.specs.declared.iteration.Iterated as c
use Rattle.flat_run.specs.declared.iteration.Iterated.TheVariants as x
use Rattle.flat_run.specs.Views.Interpreter.{iterated_of, Fits, HasRoom, HasPadLeft}
use Rattle.range_table.specs.declared.region.RegionSpan.{RegionSpan}
use Rattle.std.specs.Prelude.{slice_get}
use Rattle.range_table.specs.Memory.{holds, region_of}
use Rattle.flat_run.specs.declared.state.FlatRegion.{FlatRegion}
use Rattle.flat_run.specs.Region.{spans, bytes_at, spliced, with_bytes, put_record}

-- the region does not hold the span
abbrev pub misses : ℕ → ℕ → RegionSpan → Bool
misses p size r = not (holds r p size)

-- how many regions in a row miss it, where the first `i` do
abbrev pub Missed : List FlatRegion → ℕ → ℕ → ℕ → Type 0
Missed rs p size i = prefix_len (misses p size) (spans rs) ≡ i + prefix_len (misses p size) (drop i (spans rs))

span_at : (rs : List FlatRegion) (i : ℕ) (r : FlatRegion) → r ≡ get_or rs i r → get_or (spans rs) i r.span ≡ r.span
span_at rs i r e = get_or-map (λ (x : FlatRegion). x.span) rs i r ∙ ap (λ (x : FlatRegion). x.span) (sym e)

pub missed_one : (rs : List FlatRegion) (p size i : ℕ) (r : FlatRegion) → i < length rs → r ≡ get_or rs i r → holds r.span p size ≡ false → Missed rs p size i → Missed rs p size (i + 1)
missed_one rs p size i r h e n m =
    let len : i < length (spans rs) = omega (arith, length-map rs (λ (x : FlatRegion). x.span)) in
    let y : misses p size (get_or (spans rs) i r.span) ≡ true = ap (misses p size) (span_at rs i r e) ∙ ap not n in
    omega (arith, m, prefix_len-drop_yes (misses p size) (spans rs) i r.span len y)

position_is : (n k : ℕ) → n ≡ k → (m : ℕ) → k < m → cond (nat_lt n m) (Some n) None ≡ Some k
position_is n k e m h = grind arith

pub held_here : (rs : List FlatRegion) (p size i : ℕ) (r : FlatRegion) → i < length rs → r ≡ get_or rs i r → holds r.span p size ≡ true → Missed rs p size i → Some i ≡ region_of (spans rs) p size
held_here rs p size i r h e y m =
    let len : i < length (spans rs) = omega (arith, length-map rs (λ (x : FlatRegion). x.span)) in
    let n : misses p size (get_or (spans rs) i r.span) ≡ false = ap (misses p size) (span_at rs i r e) ∙ ap not y in
    let k : prefix_len (misses p size) (spans rs) ≡ i = omega (arith, m, prefix_len-drop_no (misses p size) (spans rs) i r.span len n) in
    sym (position_is (prefix_len (misses p size) (spans rs)) i k (length (spans rs)) len)

got : (rs : List FlatRegion) (i : ℕ) (r : FlatRegion) → i < length rs → r ≡ get_or rs i r → slice_get rs i ≡ Some r
got [] i r h e = absurd (omega arith)
got (x ∷ rs) zero r h e = ap (λ y. Some y) (sym e)
got (x ∷ rs) (suc i) r h e = got rs i r (omega arith) e

-- other bytes in the region that stands at a place
pub put_by : (rs : List FlatRegion) (i p : ℕ) (new : List ℕ) (r : FlatRegion) → i < length rs → r ≡ get_or rs i r → put_record rs i p new ≡ set rs i (record r { bytes = spliced r.bytes (p - r.span.base) new })
put_by rs i p new r h e = ap (with_bytes rs i p new) (got rs i r h e)

-- what fits at a place fits in the region there
pub fits_at : (rs : List FlatRegion) (i p size : ℕ) (r : FlatRegion) → i < length rs → r ≡ get_or rs i r → Fits rs i p size → size ≤ length r.bytes - (p - r.span.base)
fits_at rs i p size r h e f = f r (got rs i r h e)

room_len : (r : FlatRegion) (p size : ℕ) → length (bytes_at (Some r) p size) ≤ length r.bytes - (p - r.span.base)
room_len r p size = omega (arith, length-take size (drop (p - r.span.base) r.bytes), length-drop (p - r.span.base) r.bytes)

fits_by : (rs : List FlatRegion) (i p size n : ℕ) (r : FlatRegion) → slice_get rs i ≡ Some r → n ≡ length (bytes_at (Some r) p size) → Fits rs i p n
fits_by rs i p size n r g e s h =
    let q : r ≡ s = cc in
    let P : FlatRegion → Type 0 = λ x. n ≤ length x.bytes - (p - x.span.base) in
    subst P q (omega (arith, e, room_len r p size))

-- the record that an iteration leaves is as long as the one that it was given
pub room_by : (x : c.Iterated) (rs : List FlatRegion) (i p size : ℕ) (r : FlatRegion) (fields : List FieldDecl) (it : Iter) (cur : ℕ) (pad : List ℕ) (w : Bool) → slice_get rs i ≡ Some r → iterated_of x ≡ iteration fields it (bytes_at (Some r) p size) cur pad w → HasRoom rs i p x
room_by (x.Done bytes pad') rs i p size r fields it cur pad w g e =
    let l = subst (Leaves (length (bytes_at (Some r) p size)) (length pad)) (sym e) (iteration_leaves fields it (bytes_at (Some r) p size) cur pad w) in
    fits_by rs i p size (length bytes) r g l.0
room_by (x.Goes to bytes pad') rs i p size r fields it cur pad w g e =
    let l = subst (Leaves (length (bytes_at (Some r) p size)) (length pad)) (sym e) (iteration_leaves fields it (bytes_at (Some r) p size) cur pad w) in
    fits_by rs i p size (length bytes) r g l.0
room_by (x.Fault k) rs i p size r fields it cur pad w g e = tt

-- the pad that an iteration leaves is as long as the one that it was given
pub pad_by : (x : c.Iterated) (fields : List FieldDecl) (it : Iter) (bytes : List ℕ) (cur : ℕ) (pad : List ℕ) (w : Bool) → 1 ≤ length pad → length pad ≤ 256 → iterated_of x ≡ iteration fields it bytes cur pad w → HasPadLeft x
pad_by (x.Done after pad') fields it bytes cur pad w some fit e =
    let l = subst (Leaves (length bytes) (length pad)) (sym e) (iteration_leaves fields it bytes cur pad w) in
    record { some = omega (arith, l.1, some); fit = omega (arith, l.1, fit) }
pad_by (x.Goes to after pad') fields it bytes cur pad w some fit e =
    let l = subst (Leaves (length bytes) (length pad)) (sym e) (iteration_leaves fields it bytes cur pad w) in
    record { some = omega (arith, l.1, some); fit = omega (arith, l.1, fit) }
pad_by (x.Fault k) fields it bytes cur pad w some fit e = tt
