-- A served run keeps the regions of a node, whatever their bytes are then.
use Rattle.std.proofs.Common.{◌≡◌, ℕ, zero, suc, Bool, List, [], ◌∷◌, map, Option, Some, None, refl, sym, ap, subst, ◌∙◌, inl, inr}
use Rattle.std.specs.Prelude.{◌⊎◌, slice_index_or, slice_set}
use Rattle.pulse_base.specs.Link.{Receipt, Sent}
use Rattle.frame_codec.specs.declared.frame.Leg.{Leg}
use Rattle.frame_codec.specs.declared.frame.Frame.TheVariants as frames
use Rattle.run_rules.specs.declared.node.NodeRegion.{NodeRegion}
use Rattle.run_rules.specs.declared.node.LiveLeg.{LiveLeg}
use Rattle.run_rules.specs.declared.node.Accepted.{Accepted}
use Rattle.run_rules.specs.declared.node.Accepted.TheVariants as accepted
use Rattle.run_rules.specs.Outcome.{Outcome, record_after}
use Rattle.run_rules.specs.Node.{NodeState, find_live, spans_of, place_of, region_at, record_in, offset_of, spliced}
use Rattle.run_rules.specs.Accepting.{after_answer, answer_to, accept}
use Rattle.run_rules.specs.Turning.{turn_of, stored, fate_of}
use Rattle.run_views.proofs.Shares.{no_region}
use Rattle.run_views.proofs.Turned.{settled_regions}
use Rattle.node_core.specs.declared.part.Turned.{Turned}
use Rattle.node_core.specs.declared.part.Turned.TheVariants as turned
use Rattle.node_core.specs.Part.{PartState, HasTurned, numbers_of, ran}
use Rattle.pulse_serve.specs.declared.frames.Came.{Came}
use Rattle.pulse_serve.specs.declared.frames.Came.TheVariants as came
use Rattle.pulse_serve.specs.declared.served.Served.{Served}
use Rattle.pulse_serve.specs.declared.served.Served.TheVariants as served
use Rattle.pulse_serve.specs.Runs.{Runs, Serves, CutAt}
use Rattle.pulse_serve.specs.NodeRun.{NodeTurn, NodeHears, node_loop, after_item}
use Rattle.pulse_process.specs.inner.Held.{SameRegions}

same_by : (p q : PartState) → q.node.regions ≡ p.node.regions → SameRegions p q
same_by p q e = record { numbers = ap numbers_of e; spans = ap spans_of e }

pub same_is : (p q : PartState) → q ≡ p → SameRegions p q
same_is p q e = same_by p q (ap (λ (x : PartState). x.node.regions) e)

same_both : (p q r : PartState) → SameRegions p q → SameRegions q r → SameRegions p r
same_both p q r a b = record { numbers = b.numbers ∙ a.numbers; spans = b.spans ∙ a.spans }

-- ---- an item

accepts_same : (n : NodeState) (l : Leg) (a : Accepted) → (after_answer a n l).regions ≡ n.regions
accepts_same n l accepted.Started = refl
accepts_same n l accepted.Foreign = refl
accepts_same n l (accepted.Answer back) = refl
accepts_same n l accepted.Running = refl
accepts_same n l accepted.Elsewhere = refl
accepts_same n l accepted.Full = refl
accepts_same n l accepted.Memory = refl

item_same : (p : PartState) (item : Came) → SameRegions p (after_item p item)
item_same p (came.Frame (frames.Leg l)) = same_by p (record p { node = (accept p.node l).0 }) (accepts_same p.node l (answer_to p.node l))
item_same p (came.Frame (frames.Back b)) = same_is p p refl
item_same p (came.Frame frames.Stop) = same_is p p refl
item_same p came.Gap = same_is p p refl
item_same p came.Noise = same_is p p refl

hears_same : (port : ℕ) (p : PartState) (r : Receipt) (now : PartState) (ss : List Sent) → NodeHears port p r now ss → SameRegions p now
hears_same port p r now ss h = subst (SameRegions p) (sym h.after) (item_same p h.item)

-- ---- a turn

-- a list keeps what an item that is put has as the old one had
put_same : {B : Type 0} (f : NodeRegion → B) (regions : List NodeRegion) (i : ℕ) (y : NodeRegion) → f y ≡ f (slice_index_or regions i no_region) → map f (slice_set regions i y) ≡ map f regions
put_same f [] i y e = refl
put_same f (x ∷ regions) zero y e = ap (λ z. z ∷ map f regions) e
put_same f (x ∷ regions) (suc i) y e = ap (λ z. f x ∷ z) (put_same f regions i y e)

stores_same : {B : Type 0} (f : NodeRegion → B) (n : NodeState) (l : Leg) (outcome : Outcome) (o : Option ℕ) → ((r : NodeRegion) (bytes : List ℕ) → f (record r { bytes = bytes }) ≡ f r) → map f (stored n l outcome o).regions ≡ map f n.regions
stores_same f n l outcome None same = refl
stores_same f n l outcome (Some i) same =
    let bytes = spliced (region_at n i).bytes (offset_of n l i) (record_after outcome (record_in n l i)) in
    put_same f n.regions i (record (region_at n i) { bytes = bytes }) (same (region_at n i) bytes)

turns_same : {B : Type 0} (f : NodeRegion → B) (n : NodeState) (o : Option LiveLeg) (outcome : Outcome) → ((r : NodeRegion) (bytes : List ℕ) → f (record r { bytes = bytes }) ≡ f r) → map f (turn_of n o outcome).0.regions ≡ map f n.regions
turns_same f n None outcome same = refl
turns_same f n (Some e) outcome same =
    ap (map f) (settled_regions (stored n e.leg outcome (place_of n e.leg)) e (fate_of n e.leg outcome)) ∙ stores_same f n e.leg outcome (place_of n e.leg) same

turned_same : (t : Turned) (old new : PartState) → HasTurned t old new → SameRegions old new
turned_same (turned.Iterated q back) old new h =
    let o = find_live old.node.live q in
    let outcome = ran old q in
    subst (SameRegions old) (sym h.1) (record {
      numbers = turns_same (λ (r : NodeRegion). r.number) old.node o outcome (λ r bytes. refl);
      spans = turns_same (λ (r : NodeRegion). r.span) old.node o outcome (λ r bytes. refl);
    })
turned_same (turned.Part q) old new h = same_by old new (ap (λ (x : PartState). x.node.regions) h.1)
turned_same (turned.Waits q) old new h = same_by old new (ap (λ (x : PartState). x.node.regions) h.1)
turned_same turned.Idle old new h = same_is old new h.1

turn_same : (plain : Bool) (port : ℕ) (p : PartState) (r : Receipt) (now : PartState) (ss : List Sent) → NodeTurn plain port p r now ss → SameRegions p now
turn_same plain port p r now ss t =
    same_both p t.mid now (hears_same port p r t.mid t.early t.hears) (turned_same t.steps.turned t.mid now t.steps.turns)

-- ---- a run

runs_same : (plain : Bool) (port : ℕ) (p now : PartState) (rs : List Receipt) (ss : List Sent) → Runs (NodeTurn plain port) p rs now ss → SameRegions p now
runs_same plain port p now [] ss r = same_is p now r.0
runs_same plain port p now (i ∷ is) ss r = same_both p r.0 now (turn_same plain port p i r.0 r.1 r.3) (runs_same plain port r.0 now is r.2 r.4)

up_to_same : (plain : Bool) (port : ℕ) (p : PartState) (r : Receipt) (now : PartState) (ss : List Sent) → (NodeHears port p r now ss ⊎ NodeTurn plain port p r now ss) → SameRegions p now
up_to_same plain port p r now ss (inl h) = hears_same port p r now ss h
up_to_same plain port p r now ss (inr t) = turn_same plain port p r now ss t

cut_same : (plain : Bool) (port : ℕ) (p now : PartState) (rs : List Receipt) (ss : List Sent) → CutAt (node_loop plain port).Turn (node_loop plain port).UpTo p rs now ss → SameRegions p now
cut_same plain port p now rs ss c = same_both p c.mid now (runs_same plain port p c.mid c.before c.early c.run) (up_to_same plain port c.mid c.last now _ c.cut)

pub serves_same : (plain : Bool) (port turns : ℕ) (result : Served) (p now : PartState) (rs : List Receipt) (ss : List Sent) → Serves (node_loop plain port) turns result p rs now ss → SameRegions p now
serves_same plain port turns served.Stopped p now rs ss h = runs_same plain port p now h.1.before ss h.1.run
serves_same plain port turns served.TurnsUsed p now rs ss h = runs_same plain port p now rs ss h.1.0
serves_same plain port turns served.LinkFault p now rs ss h =
    elim h.1 [ inl r ↦ runs_same plain port p now rs ss r.0 | inr c ↦ cut_same plain port p now rs ss c ]
serves_same plain port turns served.Memory p now rs ss h = runs_same plain port p now h.1.before ss h.1.run
