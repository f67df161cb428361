-- The world before the first event is a run, and so is the world after any events.
use Rattle.std.proofs.Common.{◌≡◌, ℕ, zero, suc, ◌<◌, ◌≤◌, inl, inr, List, [], ◌∷◌, length, map, Option, Some, None, refl, sym, ap, ◌∙◌, arith, if◌then◌else◌}
use Rattle.std.proofs.lemmas.Bool.{cases_lt}
use Rattle.std.specs.Prelude.{slice_get, slice_index_or}
use Rattle.pulse_base.specs.declared.event.Event.{Event}
use Rattle.range_table.specs.declared.region.RegionSpan.{RegionSpan}
use Rattle.range_table.specs.Memory as table
use Rattle.run_rules.specs.declared.node.NodeRegion.{NodeRegion}
use Rattle.run_rules.specs.declared.client.Asking.{Asking}
use Rattle.run_rules.specs.Node.{NodeState, find_live, region_at}
use Rattle.run_laws.specs.Node as n
use Rattle.run_laws.specs.Client as c
use Rattle.run_laws.specs.Laws.{IsFirst}
use Rattle.run_laws.proofs.First.{begins_sound}
use Rattle.run_laws.proofs.KeptSent.{first_carries}
use Rattle.run_views.specs.Setting.{Setting, plan_of, owner_of, IsSetting}
use Rattle.run_views.specs.Nodes.{slot_by, key_for, bytes_numbered, IsNodeOf}
use Rattle.run_views.specs.Keeps.{shape_of}
use Rattle.run_views.proofs.Shares.{nowhere, number_at, bytes_at, other_number}
use Rattle.event_run.specs.World.{WorldState, event, event_run}
use Rattle.event_run.specs.Always.{letter_view, node_at, asking_at, world_view, HasNumbers, IsRun, IsWorldOf}
use Rattle.event_run.specs.Laws.{flat_start, IsStart, AreEventsOf, StartIsRun, EventRunExplained}
use Rattle.event_run.proofs.Lists.{get_low}
use Rattle.event_run.proofs.Runs.{run_is_explained, event_keeps_run}

-- a number that no region has
absent : (regions : List NodeRegion) (i : ℕ) → ((k : ℕ) → k < length regions → number_at regions k ≡ i → ⊥) → bytes_numbered regions i ≡ []
absent [] i h = refl
absent (g ∷ regions) i h =
    ap (λ z. if z then g.bytes else bytes_numbered regions i) (other_number g.number i (h zero (omega arith)))
    ∙ absent regions i (λ k low e. h (suc k) (omega (arith, low)) e)

past_end : (spans : List RegionSpan) (i : ℕ) → length spans ≤ i → slice_index_or spans i nowhere ≡ nowhere
past_end [] i h = refl
past_end (x ∷ spans) zero h = absurd (omega (arith, h))
past_end (x ∷ spans) (suc i) h = past_end spans i (omega (arith, h))

-- each region has its length on its owner
region_length : (u : Setting) (s : NodeState) (i : ℕ) → IsNodeOf u (owner_of u i) s → length (bytes_numbered s.regions i) ≡ (table.region_at u.table i).len
region_length u s i h = elim (cases_lt i (length u.table)) [
  | inl low ↦
      let k = h.share.whole i low refl in
      let here : bytes_numbered s.regions i ≡ (region_at s k.0).bytes = ap (bytes_numbered s.regions) (sym k.2)
      ∙ bytes_at s.regions k.0 k.1 (λ j less same. (let d : j ≡ k.0 = h.share.once j k.0 (let q = k.1 in omega (arith, less, q)) k.1 same in omega (arith, d, less))) in
      ap length here ∙ h.share.filled k.0 k.1 ∙ ap (λ (z : RegionSpan). z.len) (h.share.spans k.0 k.1) ∙ ap (λ z. (table.region_at u.table z).len) k.2
  | inr past ↦
      let none : bytes_numbered s.regions i ≡ [] = absent s.regions i (λ k low e. let d = h.share.inside k low in omega (arith, d, e, past)) in
      ap length none ∙ sym (ap (λ (z : RegionSpan). z.len) (past_end u.table i (omega (arith, past))))
]

start_slot : (u : Setting) (v : WorldState) (i r k : ℕ) (o : Option NodeState) → IsStart u v → slice_get v.nodes i ≡ o → (node_at u o).slot r k ≡ n.Fresh
start_slot u v i r k None h e = refl
start_slot u v i r k (Some s) h e = let x = h.idle i s e in λ j. slot_by (x.1 (key_for u r k) j) (find_live (x.0 j) (key_for u r k))

start_asking : (v : WorldState) (u : Setting) (r : ℕ) (o : Option Asking) → IsStart u v → slice_get v.asking r ≡ o → asking_at o ≡ c.NotAsked
start_asking v u r None h e = refl
start_asking v u r (Some a) h e = ap (λ z. asking_at (Some z)) (h.asking r a e)

start_length : (u : Setting) (v : WorldState) (i : ℕ) → IsWorldOf u v → length (((world_view u v).nodes (owner_of u i)).bytes i) ≡ (table.region_at u.table i).len
start_length u v i of =
    let x = get_low v.nodes (owner_of u i) (of.owners i) in
    ap (λ o. length ((node_at u o).bytes i)) x.1 ∙ region_length u x.0 i (of.nodes (owner_of u i) x.0 x.1)

first : (u : Setting) (v : WorldState) → IsStart u v → IsFirst (plan_of u) (flat_start u v) (world_view u v)
first u v h = record {
  requests = λ r. refl;
  slots = λ i r k. start_slot u v i r k (slice_get v.nodes i) h refl;
  asking = λ r. start_asking v u r (slice_get v.asking r) h refl;
  letters = ap (map letter_view) h.letters;
  order = h.order;
  memory = λ i. refl;
}

pub start_is_run : StartIsRun
start_is_run u v set h =
    let x = first_carries (plan_of u) (shape_of u) (flat_start u v) (world_view u v) (first u v h) (λ i. start_length u v i h.of) in
    record { of = h.of; sound = begins_sound (plan_of u) (flat_start u v) (world_view u v) (first u v h); shaped = x.0; sent = x.1 }

run_by : (u : Setting) (v x : WorldState) (es : List Event) → IsSetting u → HasNumbers u → AreEventsOf u x es → IsRun u (flat_start u v) x → IsRun u (flat_start u v) (event_run u x es)
run_by u v x [] set few h run = run
run_by u v x (e ∷ es) set few h run = run_by u v (event u x e).0 es set few h.1 (event_keeps_run u (flat_start u v) x e set few h.0 run)

pub event_run_explained : EventRunExplained
event_run_explained u v es set few start h = run_is_explained u (flat_start u v) (event_run u v es) (run_by u v v es set few h (start_is_run u v set start))
