-- The first world of a scenario is the world before a run.
use Rattle.std.proofs.Common.{◌≡◌, ℕ, zero, suc, ◌+◌, ◌<◌, length, Some, None, refl, sym, ap, ◌∙◌, subst, arith}
use Rattle.std.specs.Prelude.{slice_get}
use Rattle.std.specs.FinMap as m
use Rattle.std.specs.FinMap.{get-empty}
use Rattle.leg_ledger.specs.declared.leg.Reply.{Reply}
use Rattle.leg_ledger.specs.Legs.{key_cmp}
use Rattle.run_rules.specs.declared.client.Asking.TheVariants.{NotAsked}
use Rattle.run_rules.specs.Node.{NodeState}
use Rattle.run_views.specs.Setting.{owner_of}
use Rattle.run_views.specs.Nodes.{IsNodeOf}
use Rattle.run_views.specs.Clients.{IsAskingOf}
use Rattle.scenario_text.specs.declared.plan.PlanRegion.{PlanRegion}
use Rattle.scenario_text.specs.declared.scenario.Scenario.{Scenario}
use Rattle.scenario_text.specs.Accepted.{IsRunnable}
use Rattle.scenario_run.specs.Setting.{setting_of}
use Rattle.scenario_run.specs.Start.{first_node, first_nodes}
use Rattle.scenario_run.specs.Laws.{StartIs}
use Rattle.scenario_run.proofs.Lists.{all_at, index_has, same_all}
use Rattle.scenario_run.proofs.Shares.{share}

node_is : (s : Scenario) (n count i : ℕ) (x : NodeState) → slice_get (first_nodes s n count) i ≡ Some x → x ≡ first_node s (n + i)
node_is s n zero i x e = absurd (cc)
node_is s n (suc count) zero x e = let same : first_node s n ≡ x = cc in sym same ∙ ap (first_node s) (omega arith)
node_is s n (suc count) (suc i) x e = node_is s (suc n) count i x e ∙ ap (first_node s) (omega arith)

numbered : (s : Scenario) (i : ℕ) (x : NodeState) → slice_get (first_nodes s 0 (s.plan).nodes) i ≡ Some x → x ≡ first_node s i
numbered s i x e = node_is s 0 (s.plan).nodes i x e ∙ ap (first_node s) (omega arith)

many : (s : Scenario) (n count : ℕ) → length (first_nodes s n count) ≡ count
many s n zero = refl
many s n (suc count) = ap suc (many s (suc n) count)

nothing : (reply : Reply) → None ≡ Some reply → ⊥
nothing reply e = cc

pub first_of : (s : Scenario) (h : IsRunnable s) (n : ℕ) → IsNodeOf (setting_of s h) n (first_node s n)
first_of s h n = record {
  orderly = record { few = omega arith; apart = tt; live = tt };
  some = h.slots.0;
  sizes = refl;
  share = share s h n;
  live = tt;
  kept = λ q reply e. absurd (nothing reply (sym (get-empty key_cmp q) ∙ e));
}

owner_low : (s : Scenario) (h : IsRunnable s) (i : ℕ) → owner_of (setting_of s h) i < length (first_nodes s 0 (s.plan).nodes)
owner_low s h i = subst (λ z. owner_of (setting_of s h) i < z) (sym (many s 0 (s.plan).nodes))
    (index_has (λ z. z < (s.plan).nodes) (λ (r : PlanRegion). r.node) (s.plan).regions i 0 (let some = h.nodes.0 in omega (arith, some)) (λ k r e. all_at (λ (r : PlanRegion). r.node < (s.plan).nodes) (s.plan).regions k r h.regions.placed e))

pub start_is : StartIs
start_is s h = record {
  of = record {
    owners = owner_low s h;
    nodes = λ i x e. subst (IsNodeOf (setting_of s h) i) (sym (numbered s i x e)) (first_of s h i);
    asking = λ r a e. subst (IsAskingOf (setting_of s h) r) (sym (same_all (length (s.plan).requests) NotAsked r a e)) tt;
    letters = tt;
  };
  idle = λ i x e. (let is = numbered s i x e in
      (ap (λ (n : NodeState). n.live) is, λ q. ap (λ (n : NodeState). m.get n.kept q) is ∙ get-empty key_cmp q));
  asking = λ r a e. same_all (length (s.plan).requests) NotAsked r a e;
  letters = refl;
  order = refl;
}
