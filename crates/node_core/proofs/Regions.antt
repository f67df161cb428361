-- The regions of a node, by their places, and with other bytes in one of them.
use Rattle.std.proofs.Common.{◌≡◌, ℕ, ◌+◌, ◌<◌, Bool, cond, not, nat_lt, List, [], ◌∷◌, length, map, set, get_or, Option, Some, None, option_map, refl, sym, ap, ◌∙◌, subst, arith, IfSome}
use Rattle.std.specs.Prelude.{slice_get, slice_set, position, AllPairs, sum, ◌≢◌, ◌≤◌, ◌^◌}
use Rattle.std.specs.List.{position_or_len}
use Rattle.std.proofs.lemmas.Option.{slice_get-get_or, slice_get_within, get_or_from_slice_get, slice_get-map}
use Rattle.std.proofs.lemmas.List.{map-set, set-get_or, get_or-map, length-map}
use Rattle.range_table.specs.declared.region.RegionSpan.{RegionSpan}
use Rattle.range_table.specs.Table.{IsTable}
use Rattle.range_table.specs.Memory.{may_read, may_write}
use Rattle.run_rules.specs.declared.node.NodeRegion.{NodeRegion}
use Rattle.run_rules.specs.Node.{NodeState, spans_of, region_at}
use Rattle.node_core.specs.declared.held.Held.{Held}
use Rattle.node_core.specs.declared.node.Node.TheInside.{Inside}
use Rattle.node_core.specs.Part.{PartState, IsRegions}
use Rattle.node_core.specs.inner.View.{held_view, part_view}

-- the region at a place of the vector
pub held_at : (hs : List Held) (i : ℕ) (h : Held) → i < length hs → h ≡ get_or hs i h → slice_get (map held_view hs) i ≡ Some (held_view h)
held_at hs i h lt e = slice_get-map held_view hs i ∙ ap (option_map held_view) (slice_get-get_or hs i h lt) ∙ ap (λ x. Some (held_view x)) (sym e)

-- the region at a place of a node's vector, as contracts see it
pub held_seen : (n : Inside) (p : PartState) (o : Option ℕ) (i : ℕ) (h : Held) → part_view n ≡ p → IfSome o (λ k. k < length p.node.regions) → o ≡ Some i → h ≡ get_or n.regions.items i h → slice_get p.node.regions i ≡ Some (held_view h)
held_seen n p o i h v inside e is =
    let lt : i < length p.node.regions = subst (λ z. IfSome z (λ k. k < length p.node.regions)) e inside in
    let less : i < length (map held_view n.regions.items) = subst (λ (q : PartState). i < length q.node.regions) (sym v) lt in
    subst (λ (q : PartState). slice_get q.node.regions i ≡ Some (held_view h)) v (held_at n.regions.items i h (omega (arith, less, length-map n.regions.items held_view)) is)

pub region_is : (n : NodeState) (i : ℕ) (r : NodeRegion) → slice_get n.regions i ≡ Some r → region_at n i ≡ r
region_is n i r e = get_or_from_slice_get n.regions i r _ e

pub span_is : (rs : List NodeRegion) (i : ℕ) (r : NodeRegion) → slice_get rs i ≡ Some r → slice_get (spans_of rs) i ≡ Some r.span
span_is rs i r e = slice_get-map (λ (x : NodeRegion). x.span) rs i ∙ ap (option_map (λ (x : NodeRegion). x.span)) e

pub reads_is : (rs : List NodeRegion) (i : ℕ) (r : NodeRegion) → slice_get rs i ≡ Some r → may_read (spans_of rs) i ≡ r.span.read
reads_is rs i r e = ap (λ (s : RegionSpan). s.read) (get_or_from_slice_get (spans_of rs) i r.span _ (span_is rs i r e))

pub writes_is : (rs : List NodeRegion) (i : ℕ) (r : NodeRegion) → slice_get rs i ≡ Some r → may_write (spans_of rs) i ≡ r.span.write
writes_is rs i r e = ap (λ (s : RegionSpan). s.write) (get_or_from_slice_get (spans_of rs) i r.span _ (span_is rs i r e))

-- a region has as many bytes as its length
pub bytes_fit : (rs : List NodeRegion) (i : ℕ) (r : NodeRegion) → IsRegions rs → slice_get rs i ≡ Some r → length r.bytes ≡ r.span.len
bytes_fit rs i r h e =
    let lengths : slice_get (map (λ (x : NodeRegion). length x.bytes) rs) i ≡ Some (length r.bytes) = slice_get-map (λ (x : NodeRegion). length x.bytes) rs i ∙ ap (option_map (λ (x : NodeRegion). length x.bytes)) e in
    let lens : slice_get (map (λ (s : RegionSpan). s.len) (spans_of rs)) i ≡ Some r.span.len = slice_get-map (λ (s : RegionSpan). s.len) (spans_of rs) i ∙ ap (option_map (λ (s : RegionSpan). s.len)) (span_is rs i r e) in
    let c : Some (length r.bytes) ≡ Some r.span.len = sym lengths ∙ ap (λ z. slice_get z i) h.bytes ∙ lens in cc

-- a list keeps what an item that is put has as the old one had
pub map_kept : {A B : Type 0} (f : A → B) (xs : List A) (i : ℕ) (d y : A) → i < length xs → f y ≡ f (get_or xs i d) → map f (set xs i y) ≡ map f xs
map_kept f xs i d y lt e = map-set f xs i y ∙ ap (set (map f xs) i) (e ∙ sym (get_or-map f xs i d (f d) lt)) ∙ set-get_or (map f xs) i (f d)

-- other bytes in a region leave all spans and numbers
pub spans_kept : (rs : List NodeRegion) (i : ℕ) (r y : NodeRegion) → slice_get rs i ≡ Some r → y.span ≡ r.span → spans_of (slice_set rs i y) ≡ spans_of rs
spans_kept rs i r y e s = map_kept (λ (x : NodeRegion). x.span) rs i r y (slice_get_within rs i r e) (s ∙ ap (λ (x : NodeRegion). x.span) (sym (get_or_from_slice_get rs i r r e)))

pub regions_kept : (rs : List NodeRegion) (i : ℕ) (r y : NodeRegion) → IsRegions rs → slice_get rs i ≡ Some r → y.span ≡ r.span → y.number ≡ r.number → length y.bytes ≡ length r.bytes → IsRegions (slice_set rs i y)
regions_kept rs i r y h e s number long =
    let lt = slice_get_within rs i r e in
    let same = sym (get_or_from_slice_get rs i r r e) in
    let spans = spans_kept rs i r y e s in
    record {
      table = subst IsTable (sym spans) h.table;
      numbers = subst (AllPairs ◌≢◌) (sym (map_kept (λ (x : NodeRegion). x.number) rs i r y lt (number ∙ ap (λ (x : NodeRegion). x.number) same))) h.numbers;
      bytes = map_kept (λ (x : NodeRegion). length x.bytes) rs i r y lt (long ∙ ap (λ (x : NodeRegion). length x.bytes) same) ∙ h.bytes ∙ ap (map (λ (z : RegionSpan). z.len)) (sym spans);
      total = subst (λ z. sum (map (λ (s : RegionSpan). s.len) z) ≤ 2 ^ 24) (sym spans) h.total;
    }

first_place : {A B : Type 0} (p : B → Bool) (f : A → B) (xs : List A) → position_or_len p (map f xs) ≡ position_or_len (λ x. p (f x)) xs
first_place p f [] = refl
first_place p f (x ∷ xs) = ap (λ k. cond (not (p (f x))) (1 + k) 0) (first_place p f xs)

-- the first place of a list that is seen through a function
pub position-map : {A B : Type 0} (p : B → Bool) (f : A → B) (xs : List A) → position p (map f xs) ≡ position (λ x. p (f x)) xs
position-map p f xs = λ i. cond (nat_lt (first_place p f xs i) (length-map xs f i)) (Some (first_place p f xs i)) None
