-- What is true of a part at every moment stays true in each of a node's steps.
use Rattle.std.proofs.Common.{◌≡◌, ◌≢◌, ℕ, ◌≤◌, List, [], ◌∷◌, ◌++◌, length, Option, Some, None, refl, sym, ap, ◌∙◌, subst, arith, length-append}
use Rattle.std.specs.Prelude.{slice_get, slice_set}
use Rattle.std.specs.FinMap as m
use Rattle.range_table.specs.Memory.{region_of, may_read}
use Rattle.frame_codec.specs.declared.frame.Leg.{Leg}
use Rattle.frame_codec.specs.declared.frame.Back.{Back}
use Rattle.frame_codec.specs.declared.frame.Frame.TheVariants as frame
use Rattle.frame_codec.specs.Spelling.{MeetsRules}
use Rattle.leg_ledger.specs.declared.leg.LegKey.{LegKey}
use Rattle.leg_ledger.specs.declared.leg.Reply.{Reply}
use Rattle.leg_ledger.proofs.Keys.{get_same, get_other}
use Rattle.run_rules.specs.declared.node.NodeRegion.{NodeRegion}
use Rattle.run_rules.specs.declared.node.LiveLeg.{LiveLeg}
use Rattle.run_rules.specs.Node.{NodeState, key_of, same_key, spans_of, size_of, place_of}
use Rattle.run_rules.specs.Accepting.{number_at, started}
use Rattle.run_rules.specs.Waiting.{Each, Apart, IsOpen, IsOrderly}
use Rattle.node_core.specs.inner.Starts.{MayStart}
use Rattle.run_rules.proofs.Finds.{by_bool, is_key, not_key, none_has, each_to, each_both, each_append}
use Rattle.run_rules.proofs.Starting.{apart_end}
use Rattle.node_core.specs.Part.{PartState, CanRun, KeptFits, IsPart}
use Rattle.node_core.proofs.Regions.{spans_kept, regions_kept}

-- a part's node is orderly
pub orderly : (p : PartState) → IsPart p → IsOrderly p.node
orderly p h = record { few = h.few; apart = h.apart; live = each_to (CanRun p.node) (IsOpen p.node) p.node.live (λ e r. (r.rules, r.unkept)) h.live }

-- another live list does not matter
can_still : (n : NodeState) (es : List LiveLeg) (e : LiveLeg) → CanRun n e → CanRun (record n { live = es }) e
can_still n es e r = record { rules = r.rules; known = r.known; unkept = r.unkept; place = r.place; at = r.at; reads = r.reads }

pub part_started : (p : PartState) (l : Leg) → IsPart p → 1 ≤ l.left → MayStart p.node l → IsPart (record p { node = started p.node l })
part_started p l h left s =
    let x : LiveLeg = record { leg = l; region = number_at p.node (place_of p.node l) } in
    record {
      regions = h.regions;
      sizes = h.sizes;
      some = h.some;
      slots = h.slots;
      kept = h.kept;
      few = omega (arith, length-append p.node.live (x ∷ []), s.room);
      apart = apart_end p.node.live (record { leg = l; region = number_at p.node (place_of p.node l) }) h.apart (none_has p.node.live (key_of l) s.idle);
      live = each_append _ p.node.live (record { leg = l; region = number_at p.node (place_of p.node l) } ∷ [])
          (each_to (CanRun p.node) _ p.node.live (λ e r. can_still p.node _ e r) h.live)
          (record { rules = left; known = s.known; unkept = s.unkept; place = s.place; at = s.at; reads = s.reads }, tt);
    }

apart_from : (e : LiveLeg) (es : List LiveLeg) (q : LegKey) → q ≡ key_of e.leg → Each (λ f. key_of e.leg ≢ key_of f.leg) es → Each (λ f. key_of f.leg ≢ q) es
apart_from e es q k = each_to _ _ es (λ f ne s. ne (sym (s ∙ k)))

pub part_stays : (p : PartState) (e : LiveLeg) (es : List LiveLeg) (l : Leg) → IsPart p → p.node.live ≡ e ∷ es → key_of l ≡ key_of e.leg → CanRun p.node (record { leg = l; region = e.region })
    → IsPart (record p { node = record p.node { live = es ++ record { leg = l; region = e.region } ∷ [] } })
part_stays p e es l h s k r =
    let apart : Apart (e ∷ es) = subst Apart s h.apart in
    let live : Each (CanRun p.node) (e ∷ es) = subst (Each (CanRun p.node)) s h.live in
    record {
      regions = h.regions;
      sizes = h.sizes;
      some = h.some;
      slots = h.slots;
      kept = h.kept;
      few = omega (arith, h.few, ap (λ (z : List LiveLeg). length z) s, length-append es (record { leg = l; region = e.region } ∷ []));
      apart = apart_end es (record { leg = l; region = e.region }) apart.1 (apart_from e es (key_of l) k apart.0);
      live = each_append _ es (record { leg = l; region = e.region } ∷ []) (each_to (CanRun p.node) _ es (λ f c. can_still p.node _ f c) live.1) (can_still p.node _ (record { leg = l; region = e.region }) r, tt);
    }

kept_put : (p : PartState) (k : LegKey) (b : Back) (g : ℕ) → KeptFits p.node.kept → MeetsRules (frame.Back b) → KeptFits (m.insert p.node.kept k (record { back = b; region = g }))
kept_put p k b g h r q reply e = by_bool (same_key q k)
    (λ t. let c : Some (record { back = b; region = g }) ≡ Some reply = sym (get_same p.node.kept k (record { back = b; region = g })) ∙ ap (m.get (m.insert p.node.kept k (record { back = b; region = g }))) (sym (is_key q k t)) ∙ e in
    let d : b ≡ reply.back = ap (λ (o : Option Reply). back_or o) c in subst (λ z. MeetsRules (frame.Back z)) d r)
    (λ f. h q reply (sym (get_other p.node.kept k q (record { back = b; region = g }) (not_key q k f)) ∙ e))
  where
    back_or : Option Reply → Back
    back_or None = b
    back_or (Some x) = x.back

pub part_ends : (p : PartState) (e : LiveLeg) (es : List LiveLeg) (b : Back) → IsPart p → p.node.live ≡ e ∷ es → MeetsRules (frame.Back b)
    → IsPart (record p { node = record p.node { live = es; kept = m.insert p.node.kept (key_of e.leg) (record { back = b; region = e.region }) } })
part_ends p e es b h s r =
    let apart : Apart (e ∷ es) = subst Apart s h.apart in
    let live : Each (CanRun p.node) (e ∷ es) = subst (Each (CanRun p.node)) s h.live in
    record {
      regions = h.regions;
      sizes = h.sizes;
      some = h.some;
      slots = h.slots;
      kept = kept_put p (key_of e.leg) b e.region h.kept r;
      few = omega (arith, h.few, ap (λ (z : List LiveLeg). length z) s);
      apart = apart.1;
      live = each_both (CanRun p.node) _ _ es (λ f c ne. record { rules = c.rules; known = c.known; unkept = get_other p.node.kept (key_of e.leg) (key_of f.leg) _ ne ∙ c.unkept; place = c.place; at = c.at; reads = c.reads })
          live.1 (apart_from e es (key_of e.leg) refl apart.0);
    }

-- other bytes in a region
can_put : (n : NodeState) (rs : List NodeRegion) (e : LiveLeg) → spans_of rs ≡ spans_of n.regions → CanRun n e → CanRun (record n { regions = rs }) e
can_put n rs e s r = record {
  rules = r.rules;
  known = r.known;
  unkept = r.unkept;
  place = r.place;
  at = ap (λ z. region_of z e.leg.cur (size_of n e.leg)) s ∙ r.at;
  reads = ap (λ z. may_read z r.place) s ∙ r.reads;
}

pub part_put : (p : PartState) (i : ℕ) (r y : NodeRegion) → IsPart p → slice_get p.node.regions i ≡ Some r → y.span ≡ r.span → y.number ≡ r.number → length y.bytes ≡ length r.bytes
    → IsPart (record p { node = record p.node { regions = slice_set p.node.regions i y } })
part_put p i r y h e s number long = record {
  regions = regions_kept p.node.regions i r y h.regions e s number long;
  sizes = h.sizes;
  some = h.some;
  slots = h.slots;
  few = h.few;
  apart = h.apart;
  kept = h.kept;
  live = each_to (CanRun p.node) _ p.node.live (λ x c. can_put p.node (slice_set p.node.regions i y) x (spans_kept p.node.regions i r y e s) c) h.live;
}
