-- Where a leg's record lies: its image, its region and its bytes, before and after an iteration.
use Rattle.std.proofs.Common.{◌≡◌, ℕ, ◌+◌, ◌-◌, ◌<◌, ◌≤◌, Bool, true, false, not, List, length, get_or, take, drop, set, map, Option, Some, None, option_map, refl, sym, ap, ◌∙◌, subst, arith, nat_eq, nat_le, eqb-true}
use Rattle.std.specs.Prelude.{slice_get, slice_set}
use Rattle.std.specs.Vec.{with_items}
use Rattle.std.proofs.lemmas.Bool.{and_parts}
use Rattle.std.proofs.lemmas.Option.{slice_get_within, get_or_from_slice_get, slice_get-map}
use Rattle.std.proofs.lemmas.List.{map-set, get_or-set_same, with_items_is, length-map}
use Rattle.std.proofs.lemmas.List.Quantifiers.{position-Some}
use Rattle.range_table.specs.declared.region.RegionSpan.{RegionSpan}
use Rattle.range_table.specs.Memory.{holds, end_of, region_at, may_write}
use Rattle.code_image.specs.declared.image.Image.{Image}
use Rattle.code_verify.specs.Run.{run_body}
use Rattle.leg_machine.specs.declared.context.Context.{Context}
use Rattle.leg_machine.specs.declared.context.Ended.{Ended}
use Rattle.leg_machine.specs.Iterations.{IsIteration}
use Rattle.frame_codec.specs.declared.frame.Leg.{Leg}
use Rattle.run_rules.specs.declared.node.NodeRegion.{NodeRegion}
use Rattle.run_rules.specs.declared.node.ProgramSizes.{ProgramSizes}
use Rattle.run_rules.specs.Node as n
use Rattle.run_rules.specs.Node.{spans_of, size_in, size_of, place_of, offset_of, record_in, spliced, with_record}
use Rattle.run_rules.specs.Accepting.{foreign_by, is_foreign}
use Rattle.node_core.specs.declared.held.Held.{Held}
use Rattle.node_core.specs.declared.node.Node.TheInside.{Inside}
use Rattle.node_core.specs.Code.{body_in, body_of}
use Rattle.node_core.specs.Part.{PartState, IsPart, sizes_of}
use Rattle.node_core.specs.inner.View.{held_view, part_view, IsNode}
use Rattle.node_core.proofs.Regions.{held_at, region_is, span_is, writes_is, bytes_fit}

pub record Site (p : PartState) (l : Leg) (place : ℕ) (span : RegionSpan) (im : Image) (r : NodeRegion) : Type 0 where
  pub base : span.base ≤ l.cur
  pub size : size_of p.node l ≡ im.record_size
  pub code : body_of p.images l ≡ im.body_code
  pub pad : length l.pad ≡ im.pad_size
  pub at : slice_get p.node.regions place ≡ Some r
  pub span_is : r.span ≡ span
  pub inside : l.cur - span.base + im.record_size ≤ length r.bytes

le_of : (a b : ℕ) → nat_le a b ≡ true → a ≤ b
le_of a b e = grind (arith, e)

not_not : (b : Bool) → not b ≡ false → b ≡ true
not_not true e = refl
not_not false e = absurd (cc)

sized : (p : PartState) (l : Leg) (im : Image) → IsPart p → slice_get p.images l.program ≡ Some im → slice_get p.node.sizes l.program ≡ Some (sizes_of im)
sized p l im h e = ap (λ z. slice_get z l.program) h.sizes ∙ slice_get-map sizes_of p.images l.program ∙ ap (option_map sizes_of) e

-- the span at a place where a leg's record lies
holds_at : (p : PartState) (l : Leg) (place : ℕ) (span : RegionSpan) → place_of p.node l ≡ Some place → slice_get (spans_of p.node.regions) place ≡ Some span → holds span l.cur (size_of p.node l) ≡ true
holds_at p l place span s e =
    let none : RegionSpan = record { base = 0; len = 0; read = false; write = false } in
    let is : region_at (spans_of p.node.regions) place ≡ span = get_or_from_slice_get (spans_of p.node.regions) place span none e in
    let found = position-Some (λ (x : RegionSpan). holds x l.cur (size_of p.node l)) (spans_of p.node.regions) place none s in
    (λ j. holds (sym is j) l.cur (size_of p.node l)) ∙ found.1

pub base_in : (p : PartState) (l : Leg) (place : ℕ) (span : RegionSpan) → place_of p.node l ≡ Some place → slice_get (spans_of p.node.regions) place ≡ Some span → span.base ≤ l.cur
base_in p l place span s e = le_of span.base l.cur (and_parts (nat_le span.base l.cur) (nat_le (l.cur + size_of p.node l) (end_of span)) (holds_at p l place span s e)).0

-- the place is one of the node's regions
pub place_in : (k : Inside) (l : Leg) (place : ℕ) → place_of (part_view k).node l ≡ Some place → place < length k.regions.items
place_in k l place s =
    let found = position-Some (λ (x : RegionSpan). holds x l.cur (size_of (part_view k).node l)) (spans_of (map held_view k.regions.items)) place (record { base = 0; len = 0; read = false; write = false }) s in
    omega (arith, found.0, length-map (map held_view k.regions.items) (λ (r : NodeRegion). r.span), length-map k.regions.items held_view)

known_case : (l : Leg) (o : Option ProgramSizes) → foreign_by l o ≡ false → (s : ProgramSizes) × (o ≡ Some s)
known_case l None e = absurd (cc)
known_case l (Some s) e = (s, refl)

pub program_in : (p : PartState) (l : Leg) → IsPart p → is_foreign p.node l ≡ false → l.program < length p.images
program_in p l h f =
    let k = known_case l (slice_get p.node.sizes l.program) f in
    let lt = slice_get_within p.node.sizes l.program k.0 k.1 in
    let e : length p.node.sizes ≡ length p.images = ap (λ (z : List ProgramSizes). length z) h.sizes ∙ length-map p.images sizes_of in
    omega (arith, lt, e)

pub site : (p : PartState) (l : Leg) (place : ℕ) (span : RegionSpan) (im : Image) (r : NodeRegion)
    → IsPart p → is_foreign p.node l ≡ false → place_of p.node l ≡ Some place → slice_get (spans_of p.node.regions) place ≡ Some span → slice_get p.images l.program ≡ Some im → slice_get p.node.regions place ≡ Some r
    → Site p l place span im r
site p l place span im r h f s sp i g =
    let sizes = sized p l im h i in
    let size : size_of p.node l ≡ im.record_size = ap size_in sizes in
    let known : not (nat_eq (length l.pad) im.pad_size) ≡ false = ap (foreign_by l) (sym sizes) ∙ f in
    let same : r.span ≡ span = (let c : Some r.span ≡ Some span = sym (span_is p.node.regions place r g) ∙ sp in cc) in
    let held : holds span l.cur im.record_size ≡ true = ap (holds span l.cur) (sym size) ∙ holds_at p l place span s sp in
    let parts = and_parts (nat_le span.base l.cur) (nat_le (l.cur + im.record_size) (end_of span)) held in
    let low = le_of span.base l.cur parts.0 in
    let high : l.cur + im.record_size ≤ span.base + span.len = le_of (l.cur + im.record_size) (end_of span) parts.1 in
    let long : length r.bytes ≡ span.len = bytes_fit p.node.regions place r h.regions g ∙ ap (λ (x : RegionSpan). x.len) same in
    record { base = low; size = size; code = ap body_in i; pad = eqb-true (length l.pad) im.pad_size (not_not (nat_eq (length l.pad) im.pad_size) known); at = g; span_is = same; inside = omega (arith, low, high, long) }

-- the same, from the node's fields
pub site_seen : (k : Inside) (p : PartState) (l : Leg) (place : ℕ) (span : RegionSpan) (im : Image) (h : Held)
    → IsNode k → part_view k ≡ p → is_foreign p.node l ≡ false → place_of p.node l ≡ Some place → slice_get k.table place ≡ Some span → slice_get k.images l.program ≡ Some im → h ≡ get_or k.regions.items place h
    → Site (part_view k) l place span im (held_view h)
site_seen k p l place span im h inv v f s sp i e =
    let at : place_of (part_view k).node l ≡ Some place = subst (λ (q : PartState). place_of q.node l ≡ Some place) (sym v) s in
    site (part_view k) l place span im (held_view h) inv.part (subst (λ (q : PartState). is_foreign q.node l ≡ false) (sym v) f) at
    (ap (λ z. slice_get z place) (sym inv.table) ∙ sp) i (held_at k.regions.items place h (place_in k l place at) e)

offset : (p : PartState) (l : Leg) (place : ℕ) (span : RegionSpan) (im : Image) (r : NodeRegion) → Site p l place span im r → offset_of p.node l place ≡ l.cur - span.base
offset p l place span im r s = ap (λ (x : NodeRegion). l.cur - x.span.base) (region_is p.node place r s.at) ∙ ap (λ (x : RegionSpan). l.cur - x.base) s.span_is

-- the record of a site
pub record_is : (p : PartState) (l : Leg) (place : ℕ) (span : RegionSpan) (im : Image) (r : NodeRegion) → Site p l place span im r → record_in p.node l place ≡ take im.record_size (drop (l.cur - span.base) r.bytes)
record_is p l place span im r s = λ i. take (s.size i) (drop (offset p l place span im r s i) ((region_is p.node place r s.at) i).bytes)

-- a part whose region at the place has other bytes
abbrev pub put_bytes : PartState → ℕ → NodeRegion → List ℕ → PartState
put_bytes p place r b = record p { node = record p.node { regions = slice_set p.node.regions place (record r { bytes = b }) } }

put_at : (p : PartState) (place : ℕ) (r : NodeRegion) (b : List ℕ) → slice_get p.node.regions place ≡ Some r → n.region_at (put_bytes p place r b).node place ≡ record r { bytes = b }
put_at p place r b g = get_or-set_same p.node.regions place (record r { bytes = b }) _ (slice_get_within p.node.regions place r g)

pub record_put : (p : PartState) (l : Leg) (place : ℕ) (span : RegionSpan) (im : Image) (r : NodeRegion) (b : List ℕ) → Site p l place span im r → record_in (put_bytes p place r b).node l place ≡ take im.record_size (drop (l.cur - span.base) b)
record_put p l place span im r b s =
    let o : offset_of (put_bytes p place r b).node l place ≡ l.cur - span.base = ap (λ (x : NodeRegion). l.cur - x.span.base) (put_at p place r b s.at) ∙ ap (λ (x : RegionSpan). l.cur - x.base) s.span_is in
    λ i. take (s.size i) (drop (o i) (put_at p place r b s.at i).bytes)

pub ran_seen : (p q t : PartState) (l : Leg) (place : ℕ) (span : RegionSpan) (im : Image) (r : NodeRegion) (a b : List ℕ) (ended : Ended) (was now : Context) → p ≡ q → Site p l place span im r → a ≡ r.bytes
    → IsIteration ended (run_body im.body_code (take im.record_size (drop (l.cur - span.base) a)) was.pad was.cur span.write) was now (take im.record_size (drop (l.cur - span.base) a)) (take im.record_size (drop (l.cur - span.base) b))
    → t ≡ put_bytes p place r b
    → IsIteration ended (run_body (body_of q.images l) (record_in q.node l place) was.pad was.cur (may_write (spans_of q.node.regions) place)) was now (record_in q.node l place) (record_in t.node l place)
ran_seen p q t l place span im r a b ended was now v s is ran e =
    let size = im.record_size in
    let off = l.cur - span.base in
    let writes : may_write (spans_of p.node.regions) place ≡ span.write = writes_is p.node.regions place r s.at ∙ ap (λ (x : RegionSpan). x.write) s.span_is in
    let old = record_is p l place span im r s in
    let new : record_in t.node l place ≡ take im.record_size (drop (l.cur - span.base) b) = ap (λ (z : PartState). record_in z.node l place) e ∙ record_put p l place span im r b s in
    subst (λ (z : PartState). IsIteration ended (run_body (body_of z.images l) (record_in z.node l place) was.pad was.cur (may_write (spans_of z.node.regions) place)) was now (record_in z.node l place) (record_in t.node l place)) v
    (subst (λ z. IsIteration ended (run_body (body_of p.images l) (record_in p.node l place) was.pad was.cur (may_write (spans_of p.node.regions) place)) was now (record_in p.node l place) z) (sym new)
    (subst (λ z. IsIteration ended (run_body (body_of p.images l) z was.pad was.cur (may_write (spans_of p.node.regions) place)) was now z (take size (drop off b))) (sym old)
    (subst (λ z. IsIteration ended (run_body z (take size (drop off r.bytes)) was.pad was.cur (may_write (spans_of p.node.regions) place)) was now (take size (drop off r.bytes)) (take size (drop off b))) (sym s.code)
    (subst (λ z. IsIteration ended (run_body im.body_code (take size (drop off r.bytes)) was.pad was.cur z) was now (take size (drop off r.bytes)) (take size (drop off b))) (sym writes)
    (subst (λ z. IsIteration ended (run_body im.body_code (take size (drop off z)) was.pad was.cur span.write) was now (take size (drop off z)) (take size (drop off b))) is ran)))))

pub others_seen : (p q t : PartState) (l : Leg) (place : ℕ) (span : RegionSpan) (im : Image) (r : NodeRegion) (a b : List ℕ) → p ≡ q → Site p l place span im r → a ≡ r.bytes
    → b ≡ spliced a (l.cur - span.base) (take im.record_size (drop (l.cur - span.base) b)) → t ≡ put_bytes p place r b
    → t ≡ record q { node = with_record q.node l place (record_in t.node l place) }
others_seen p q t l place span im r a b v s is f e =
    let new : take im.record_size (drop (l.cur - span.base) b) ≡ record_in t.node l place = sym (ap (λ (z : PartState). record_in z.node l place) e ∙ record_put p l place span im r b s) in
    let bytes : b ≡ spliced (n.region_at p.node place).bytes (offset_of p.node l place) (record_in t.node l place) =
    f ∙ ap (λ z. spliced z (l.cur - span.base) (take im.record_size (drop (l.cur - span.base) b))) is ∙ (λ i. spliced ((sym (region_is p.node place r s.at)) i).bytes (sym (offset p l place span im r s) i) (new i)) in
    e ∙ (λ i. record p { node = record p.node { regions = slice_set p.node.regions place (record (sym (region_is p.node place r s.at) i) { bytes = bytes i }) } })
    ∙ ap (λ (z : PartState). record z { node = with_record z.node l place (record_in t.node l place) }) v

-- the fields after the bytes of a region were put, as contracts see them
pub put_seen : (hs : List Held) (place : ℕ) (h : Held) (b : List ℕ) → length b ≡ h.bytes.len
    → map held_view (set hs place (record h { bytes = with_items h.bytes b })) ≡ slice_set (map held_view hs) place (record (held_view h) { bytes = b })
put_seen hs place h b e = map-set held_view hs place (record h { bytes = with_items h.bytes b }) ∙ ap (λ z. slice_set (map held_view hs) place (record { number = h.number; span = h.span; bytes = z })) (with_items_is h.bytes b e)
