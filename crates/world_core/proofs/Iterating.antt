-- A turn of a node, as the turn of a run whose programs are the images' code.
use Rattle.std.proofs.Common.{◌≡◌, ℕ, ◌<◌, List, [], ◌∷◌, ◌++◌, length, Option, Some, None, IsSome, IsTrue, refl, sym, ap, ◌∙◌, subst, arith, take, drop, if◌then◌else◌}
use Rattle.std.specs.Prelude.{slice_get, slice_set, option_map}
use Rattle.std.proofs.lemmas.List.{map-set, append-nil}
use Rattle.std.proofs.lemmas.Option.{slice_get-map}
use Rattle.std.specs.List.Sorted.{IsPermutation}
use Rattle.pulse_base.specs.declared.event.Event.TheVariants.{Turn}
use Rattle.pulse_base.specs.declared.event.Trace.{Trace}
use Rattle.pulse_base.specs.declared.event.Trace.TheVariants as trace
use Rattle.code_verify.specs.Run.{run_body}
use Rattle.code_image.specs.declared.image.Image.{Image}
use Rattle.frame_codec.specs.declared.frame.Back.{Back}
use Rattle.leg_ledger.specs.declared.leg.LegKey.{LegKey}
use Rattle.run_rules.specs.declared.node.LiveLeg.{LiveLeg}
use Rattle.run_rules.specs.Node.{NodeState, key_of, same_key, find_live, size_in, region_at, offset_of}
use Rattle.run_rules.specs.Waiting.{Apart}
use Rattle.run_rules.specs.Turning.{turn, record_of, record_by, is_writable}
use Rattle.run_rules.proofs.Finds.{by_bool, is_key, find_first}
use Rattle.node_core.specs.declared.part.Turned.{Turned}
use Rattle.node_core.specs.declared.part.Turned.TheVariants as turned
use Rattle.node_core.specs.Part.{PartState, HasTurned, IsFirstOf, ran, ran_by}
use Rattle.node_core.specs.Code.{body_in, code_run}
use Rattle.node_core.specs.Code as code
use Rattle.run_views.specs.Setting.{Setting, IsSetting, pad_in, record_size}
use Rattle.run_views.specs.Nodes.{IsNodeOf, outcome_of}
use Rattle.run_views.proofs.Keeps.{inside, record_length}
use Rattle.run_views.proofs.Turned.{site}
use Rattle.event_run.specs.Letters.{sent_back}
use Rattle.event_run.specs.World.{WorldState, turns, turns_first, turns_at, event, told_turn}
use Rattle.event_run.proofs.Lists.{get_low}
use Rattle.scenario_run.specs.Code.{IsCodeOf}
use Rattle.world_core.specs.Scene.{Member, Scene, node_of, nodes_of, world_of}
use Rattle.world_core.specs.Turns.{PassesOver, TurnsSo}
use Rattle.world_core.specs.inner.Events.{Turns}
use Rattle.world_core.specs.inner.Fits.{IsScene}
use Rattle.world_core.specs.inner.Nodes.{Makes}
use Rattle.world_core.specs.inner.Sends.{ended_by, told_turned, ordered_by}
use Rattle.world_core.proofs.Scenes.{each_at}
use Rattle.world_core.proofs.Asking.{set_same}

-- a live leg that is found has the name
pub found_name : (es : List LiveLeg) (q : LegKey) (e : LiveLeg) → find_live es q ≡ Some e → q ≡ key_of e.leg
found_name [] q e h = absurd (cc)
found_name (x ∷ es) q e h = by_bool (same_key q (key_of x.leg))
    (λ t. let c : Some x ≡ Some e = sym (ap (λ b. if b then Some x else find_live es q) t) ∙ h in let d : x ≡ e = cc in is_key q (key_of x.leg) t ∙ ap (λ (z : LiveLeg). key_of z.leg) d)
    (λ f. found_name es q e (sym (ap (λ b. if b then Some x else find_live es q) f) ∙ h))

-- what an iteration leaves: of which leg, and which node and back
pub record Iterated (old new : PartState) (q : LegKey) (b : Option Back) : Type 0 where
  pub leg : LiveLeg
  pub live : find_live old.node.live (key_of leg.leg) ≡ Some leg
  pub name : q ≡ key_of leg.leg
  pub node : new.node ≡ (turn old.node (key_of leg.leg) (code_run old.images leg.leg (record_of old.node leg.leg) (is_writable old.node leg.leg))).0
  pub gives : b ≡ (turn old.node (key_of leg.leg) (code_run old.images leg.leg (record_of old.node leg.leg) (is_writable old.node leg.leg))).1

iterated_by : (old new : PartState) (q : LegKey) (back : Option Back) (o : Option LiveLeg) → find_live old.node.live q ≡ o → IsSome o
    → new ≡ record old { node = (turn old.node q (ran old q)).0 } → back ≡ (turn old.node q (ran old q)).1 → Iterated old new q back
iterated_by old new q back None e h n b = absurd (cc)
iterated_by old new q back (Some x) e h n b =
    let name = found_name old.node.live q x e in
    let runs : ran old q ≡ code_run old.images x.leg (record_of old.node x.leg) (is_writable old.node x.leg) = ap (ran_by old) e in
    record {
      leg = x;
      live = ap (find_live old.node.live) (sym name) ∙ e;
      name = name;
      node = ap (λ (p : PartState). p.node) n ∙ (λ i. (turn old.node (name i) (runs i)).0);
      gives = b ∙ (λ i. (turn old.node (name i) (runs i)).1);
    }

pub iterated : (old new : PartState) (q : LegKey) (back : Option Back) → HasTurned (turned.Iterated q back) old new → Iterated old new q back
iterated old new q back h = iterated_by old new q back (find_live old.node.live q) refl h.0 h.1 h.2

-- ---- the outcome of a live leg's iteration is the run of its program's code

record_here : (u : Setting) (n : ℕ) (s : NodeState) (e : LiveLeg) → IsNodeOf u n s → find_live s.live (key_of e.leg) ≡ Some e → length (record_of s e.leg) ≡ record_size u e.leg.request
record_here u n s e h found =
    let x = site u n s (key_of e.leg) e h found in
    let place = x.live.place in
    let bytes = (region_at s place).bytes in
    let at = offset_of s e.leg place in
    ap (λ (z : List ℕ). length z) (ap (record_by s e.leg) x.live.at) ∙ ap (λ z. length (take z (drop at bytes))) x.size ∙ record_length bytes at (record_size u e.leg.request) (inside u n s (key_of e.leg) e x h.share)

pub ran_so : (u : Setting) (n : ℕ) (s : NodeState) (e : LiveLeg) (images : List Image) → IsSetting u → IsCodeOf u images → IsNodeOf u n s → find_live s.live (key_of e.leg) ≡ Some e
    → outcome_of u s e.leg ≡ code_run images e.leg (record_of s e.leg) (is_writable s e.leg)
ran_so u n s e images set c h found =
    let l = e.leg in
    let leg = (site u n s (key_of l) e h found).live.leg in
    let low : l.program < length images = omega (arith, set.programs l.request, leg.program, c.all) in
    let image = get_low images l.program low in
    let bytes : length (record_of s l) ≡ (image.0).record_size = record_here u n s e h found ∙ ap (λ p. size_in (slice_get u.sizes p)) (sym leg.program) ∙ sym (c.records l.program image.0 image.1) in
    let pad : length l.pad ≡ (image.0).pad_size = leg.pad ∙ ap (λ p. pad_in (slice_get u.sizes p)) (sym leg.program) ∙ sym (c.pads l.program image.0 image.1) in
    sym (c.runs l.program image.0 (record_of s l) l.cur l.pad (is_writable s l) image.1 bytes pad)
    ∙ ap (λ o. code.outcome_of (run_body (body_in o) (record_of s l) l.pad l.cur (is_writable s l))) (sym image.1)

-- ---- turns

-- the node that turned, and the world after it
stood : (s : Scene) (n : ℕ) (m : Member) → slice_get s.nodes n ≡ Some m → slice_get (world_of s).nodes n ≡ Some m.part.node
stood s n m e = slice_get-map node_of s.nodes n ∙ ap (option_map node_of) e

left_nodes : (old new : List Member) (n : ℕ) (m : Member) → new ≡ slice_set old n m → nodes_of new ≡ slice_set (nodes_of old) n m.part.node
left_nodes old new n m e = ap nodes_of e ∙ map-set node_of old n m

-- an iteration
iterates_so : (u : Setting) (old new : Scene) (n : ℕ) (t : Trace) (q : LegKey) (back : Option Back) (m : Makes (turned.Iterated q back) old.nodes new.nodes n)
    → IsSetting u → IsCodeOf u old.images → IsNodeOf u n m.before.part.node → IsScene old → t ≡ told_turn (world_of old) q.request back
    → world_of new ≡ record (world_of old) { nodes = (world_of new).nodes; letters = (world_of old).letters ++ sent_back back; order = old.order ++ q.request ∷ [] }
    → ◌≡◌ {A = WorldState × Trace} (world_of new, t) (turns u (world_of old) n m.before.part.node (iterated m.before.part m.after.part q back m.rule).leg)
iterates_so u old new n t q back m set c h fits told left =
    let p = m.before.part in
    let i = iterated p m.after.part q back m.rule in
    let images : p.images ≡ old.images = each_at _ old.nodes n m.before fits.nodes m.stands in
    let runs : outcome_of u p.node i.leg.leg ≡ code_run p.images i.leg.leg (record_of p.node i.leg.leg) (is_writable p.node i.leg.leg) =
    ran_so u n p.node i.leg old.images set c h i.live ∙ ap (λ z. code_run z i.leg.leg (record_of p.node i.leg.leg) (is_writable p.node i.leg.leg)) (sym images) in
    let node : m.after.part.node ≡ (turn p.node (key_of i.leg.leg) (outcome_of u p.node i.leg.leg)).0 = i.node ∙ sym (λ j. (turn p.node (key_of i.leg.leg) (runs j)).0) in
    let gives : back ≡ (turn p.node (key_of i.leg.leg) (outcome_of u p.node i.leg.leg)).1 = i.gives ∙ sym (λ j. (turn p.node (key_of i.leg.leg) (runs j)).1) in
    let nodes : nodes_of new.nodes ≡ slice_set (nodes_of old.nodes) n (turn p.node (key_of i.leg.leg) (outcome_of u p.node i.leg.leg)).0 = left_nodes old.nodes new.nodes n m.after m.left ∙ ap (slice_set (nodes_of old.nodes) n) node in
    let named : q.request ≡ i.leg.leg.request = ap (λ (k : LegKey). k.request) i.name in
    (λ j. (left j, told j))
    ∙ (λ j. (record (world_of old) { nodes = nodes j; letters = (world_of old).letters ++ sent_back (gives j); order = old.order ++ named j ∷ [] }, told_turn (world_of old) (named j) (gives j)))

-- a turn that passes over a leg
passes_so : (old new : Scene) (n : ℕ) (q : LegKey) (before after : Member) → slice_get old.nodes n ≡ Some before → new.nodes ≡ slice_set old.nodes n after → Apart after.part.node.live
    → (IsSome (find_live before.part.node.live q) × (after.part ≡ record before.part { node = record before.part.node { live = after.part.node.live } }) × IsPermutation before.part.node.live after.part.node.live)
    → world_of new ≡ record (world_of old) { nodes = (world_of new).nodes; letters = (world_of old).letters ++ []; order = old.order ++ [] } → PassesOver (world_of old) (world_of new) n q
passes_so old new n q before after stands set apart h left = record {
  node = before.part.node;
  stands = stood old n before stands;
  live = h.0;
  order = after.part.node.live;
  same = h.2;
  apart = apart;
  left = left ∙ (λ i. record (world_of old) {
    nodes = (left_nodes old.nodes new.nodes n after set ∙ ap (λ (p : PartState). slice_set (nodes_of old.nodes) n p.node) h.1) i;
    letters = append-nil (world_of old).letters i;
    order = append-nil old.order i;
  });
}

turns_by : (u : Setting) (old new : Scene) (n : ℕ) (x : Turned) (m : Makes x old.nodes new.nodes n) → IsSetting u → IsCodeOf u old.images → IsNodeOf u n m.before.part.node → IsScene old
    → world_of new ≡ record (world_of old) { nodes = (world_of new).nodes; letters = (world_of old).letters ++ sent_back (ended_by x); order = old.order ++ ordered_by x } → TurnsSo u (world_of old) (world_of new) n (told_turned x (world_of old))
turns_by u old new n (turned.Iterated q None) m set c h fits left = record {
  node = m.before.part.node;
  stands = stood old n m.before m.stands;
  leg = (iterated m.before.part m.after.part q None m.rule).leg;
  live = (iterated m.before.part m.after.part q None m.rule).live;
  step = iterates_so u old new n (trace.Iterated q.request None) q None m set c h fits refl left;
}
turns_by u old new n (turned.Iterated q (Some b)) m set c h fits left = record {
  node = m.before.part.node;
  stands = stood old n m.before m.stands;
  leg = (iterated m.before.part m.after.part q (Some b) m.rule).leg;
  live = (iterated m.before.part m.after.part q (Some b) m.rule).live;
  step = iterates_so u old new n (told_turn (world_of old) q.request (Some b)) q (Some b) m set c h fits refl left;
}
turns_by u old new n (turned.Part q) m set c h fits left = (q, refl, passes_so old new n q m.before m.after m.stands m.left m.apart m.rule left)
turns_by u old new n (turned.Waits q) m set c h fits left = (q, refl, passes_so old new n q m.before m.after m.stands m.left m.apart m.rule left)
turns_by u old new n turned.Idle m set c h fits left = record {
  node = m.before.part.node;
  stands = stood old n m.before m.stands;
  none = m.rule.0;
  same = left ∙ (λ i. record (world_of old) {
    nodes = (left_nodes old.nodes new.nodes n m.after m.left ∙ ap (λ (p : PartState). slice_set (nodes_of old.nodes) n p.node) m.rule.1 ∙ set_same (nodes_of old.nodes) n m.before.part.node (stood old n m.before m.stands)) i;
    letters = append-nil (world_of old).letters i;
    order = append-nil old.order i;
  });
}

pub turns_so : (u : Setting) (old new : Scene) (n : ℕ) (t : Trace) (x : Turns old new n t) → IsSetting u → IsCodeOf u old.images → IsNodeOf u n x.makes.before.part.node → IsScene old → TurnsSo u (world_of old) (world_of new) n t
turns_so u old new n t x set c h fits = subst (TurnsSo u (world_of old) (world_of new) n) (sym x.told) (turns_by u old new n x.turned x.makes set c h fits x.left)

-- ---- a plain node turns its first live leg

first_by : (u : Setting) (old new : Scene) (n : ℕ) (x : Turned) (m : Makes x old.nodes new.nodes n) (live : List LiveLeg) → live ≡ m.before.part.node.live → IsSetting u → IsCodeOf u old.images → IsNodeOf u n m.before.part.node → IsScene old
    → IsFirstOf x live → world_of new ≡ record (world_of old) { nodes = (world_of new).nodes; letters = (world_of old).letters ++ sent_back (ended_by x); order = old.order ++ ordered_by x }
    → ◌≡◌ {A = WorldState × Trace} (world_of new, told_turned x (world_of old)) (turns_first u (world_of old) n m.before.part.node live)
first_by u old new n (turned.Iterated q back) m [] e set c h fits first left = absurd (let k = subst (λ z. IsSome (find_live z q)) (sym e) m.rule.0 in cc)
first_by u old new n (turned.Iterated q back) m (x ∷ xs) e set c h fits first left =
    let i = iterated m.before.part m.after.part q back m.rule in
    let one : Some i.leg ≡ Some x = sym i.live ∙ (λ j. find_live (sym e j) ((sym i.name ∙ first) j)) ∙ find_first x xs in
    let is : i.leg ≡ x = cc in
    iterates_so u old new n (told_turn (world_of old) q.request back) q back m set c h fits refl left ∙ ap (turns u (world_of old) n m.before.part.node) is
first_by u old new n (turned.Part q) m [] e set c h fits first left = absurd (let k = subst (λ z. IsSome (find_live z q)) (sym e) m.rule.0 in cc)
first_by u old new n (turned.Part q) m (x ∷ xs) e set c h fits first left = absurd first
first_by u old new n (turned.Waits q) m [] e set c h fits first left = absurd (let k = subst (λ z. IsSome (find_live z q)) (sym e) m.rule.0 in cc)
first_by u old new n (turned.Waits q) m (x ∷ xs) e set c h fits first left = absurd first
first_by u old new n turned.Idle m [] e set c h fits first left =
    let i = turns_by u old new n turned.Idle m set c h fits left in λ j. (i.same j, trace.Idle)
first_by u old new n turned.Idle m (x ∷ xs) e set c h fits first left = absurd first

pub first_so : (u : Setting) (old new : Scene) (n : ℕ) (t : Trace) (x : Turns old new n t) → IsSetting u → IsCodeOf u old.images → IsNodeOf u n x.makes.before.part.node → IsScene old → IsTrue x.makes.before.plain
    → ◌≡◌ {A = WorldState × Trace} (world_of new, t) (event u (world_of old) (Turn n))
first_so u old new n t x set c h fits plain =
    let s = x.makes.before.part.node in
    (λ j. (world_of new, x.told j)) ∙ first_by u old new n x.turned x.makes s.live refl set c h fits (x.makes.first plain) x.left
    ∙ sym (ap (turns_at u (world_of old) n) (stood old n x.makes.before x.makes.stands))
