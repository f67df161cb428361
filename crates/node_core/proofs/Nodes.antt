-- A node's fields after each of its steps, and that they hold together.
use Rattle.std.proofs.Common.{◌≡◌, ℕ, ◌<◌, List, [], ◌∷◌, ◌++◌, length, drop, get_or, Some, None, option_map, unwrap_or, sym, ap, ◌∙◌, arith, if◌then◌else◌}
use Rattle.std.specs.FinMap as m
use Rattle.frame_codec.specs.declared.frame.Leg.{Leg}
use Rattle.frame_codec.specs.declared.frame.Back.{Back}
use Rattle.leg_ledger.specs.declared.leg.LegKey.{LegKey}
use Rattle.leg_ledger.specs.declared.leg.LegState.TheVariants.{Started, Ended}
use Rattle.leg_ledger.specs.Legs.{Legs, region_in, running_region, ended}
use Rattle.leg_ledger.proofs.Keys.{get_same, get_other}
use Rattle.run_rules.specs.declared.node.LiveLeg.{LiveLeg}
use Rattle.run_rules.specs.declared.node.Fate.{Fate}
use Rattle.run_rules.specs.declared.node.Fate.TheVariants as fate
use Rattle.run_rules.specs.Node.{key_of, same_key, find_live, place_of}
use Rattle.run_rules.specs.Accepting.{number_at, started}
use Rattle.run_rules.specs.Turning.{settled, without}
use Rattle.run_rules.specs.Waiting.{Apart}
use Rattle.run_rules.proofs.Finds.{by_bool, is_key, key_self, not_key, find_first, find_end, find_front, find_none, each_to}
use Rattle.node_core.specs.declared.node.Node.TheInside.{Inside}
use Rattle.node_core.specs.Part.{PartState}
use Rattle.node_core.specs.inner.View.{part_view, kept_of, live_region}
use Rattle.node_core.specs.inner.Steps.{Settles}
use Rattle.node_core.proofs.Ledgers.{kept_started}

-- ---- a start

-- a node after a start, as contracts see it
pub started_view : (n : Inside) (l : Leg) (region : ℕ) (legs : Legs) (live : List LiveLeg) → number_at (part_view n).node (place_of (part_view n).node l) ≡ region → m.get n.ledger (key_of l) ≡ None
    → legs ≡ m.insert n.ledger (key_of l) (Started region) → live ≡ n.live.items ++ record { leg = l; region = region } ∷ []
    → record (part_view n) { node = record (part_view n).node { kept = kept_of legs; live = live } } ≡ record (part_view n) { node = started (part_view n).node l }
started_view n l region legs live number new ledger items = λ i. record (part_view n) {
  node = record (part_view n).node {
    kept = (ap kept_of ledger ∙ kept_started n.ledger (key_of l) region new) i;
    live = (items ∙ ap (λ g. n.live.items ++ record { leg = l; region = g } ∷ []) (sym number)) i;
  };
}

-- the running legs after a start
pub started_running : (legs legs2 : Legs) (live live2 : List LiveLeg) (l : Leg) (region : ℕ) → ((q : LegKey) → running_region legs q ≡ live_region live q) → find_live live (key_of l) ≡ None
    → legs2 ≡ m.insert legs (key_of l) (Started region) → live2 ≡ live ++ record { leg = l; region = region } ∷ [] → (q : LegKey) → running_region legs2 q ≡ live_region live2 q
started_running legs legs2 live live2 l region h idle e f q =
    ap (λ z. running_region z q) e ∙ by_bool (same_key q (key_of l))
    (λ t. ap (running_region (m.insert legs (key_of l) (Started region))) (is_key q (key_of l) t) ∙ ap region_in (get_same legs (key_of l) (Started region))
    ∙ sym (ap (option_map (λ (e : LiveLeg). e.region)) (find_end live (record { leg = l; region = region }) q (ap (find_live live) (is_key q (key_of l) t) ∙ idle) t)))
    (λ d. ap region_in (get_other legs (key_of l) q (Started region) (not_key q (key_of l) d)) ∙ h q
    ∙ sym (ap (option_map (λ (e : LiveLeg). e.region)) (find_front live (record { leg = l; region = region }) q d)))
    ∙ sym (ap (λ z. live_region z q) f)

-- ---- what becomes of the first live leg

without_first : (e : LiveLeg) (es : List LiveLeg) → without (e ∷ es) (key_of e.leg) ≡ es
without_first e es = ap (λ b. if b then es else e ∷ without es (key_of e.leg)) (key_self (key_of e.leg))

-- the first of a list that is not empty
pub first_of : (xs : List LiveLeg) (x : LiveLeg) → 0 < length xs → x ≡ get_or xs 0 x → xs ≡ x ∷ drop 1 xs
first_of [] x h e = absurd (omega (arith, h))
first_of (y ∷ xs) x h e = ap (λ z. z ∷ xs) (sym e)

pub stays_view : (p : PartState) (e : LiveLeg) (es : List LiveLeg) (l : Leg) → p.node.live ≡ e ∷ es
    → record p { node = record p.node { live = es ++ record { leg = l; region = e.region } ∷ [] } } ≡ record p { node = settled p.node e (fate.Stays l) }
stays_view p e es l s = λ i. record p { node = record p.node { live = (sym (ap (λ z. without z (key_of e.leg)) s ∙ without_first e es)) i ++ record { leg = l; region = e.region } ∷ [] } }

pub ends_view : (p : PartState) (e : LiveLeg) (es : List LiveLeg) (b : Back) → p.node.live ≡ e ∷ es
    → record p { node = record p.node { live = es; kept = m.insert p.node.kept (key_of e.leg) (record { back = b; region = e.region }) } } ≡ record p { node = settled p.node e (fate.Ends b) }
ends_view p e es b s = λ i. record p { node = record p.node { live = (sym (ap (λ z. without z (key_of e.leg)) s ∙ without_first e es)) i; kept = m.insert p.node.kept (key_of e.leg) (record { back = b; region = e.region }) } }

-- the running legs where the first goes to the end
pub stays_running : (legs : Legs) (e : LiveLeg) (es : List LiveLeg) (l : Leg) → ((q : LegKey) → running_region legs q ≡ live_region (e ∷ es) q) → Apart (e ∷ es) → key_of l ≡ key_of e.leg
    → (q : LegKey) → running_region legs q ≡ live_region (es ++ record { leg = l; region = e.region } ∷ []) q
stays_running legs e es l h apart k q = h q ∙ by_bool (same_key q (key_of e.leg))
    (λ t. let none : find_live es q ≡ None = find_none es q (each_to _ _ es (λ f ne g. ne (sym (g ∙ is_key q (key_of e.leg) t))) apart.0) in
    ap (λ b. option_map (λ (x : LiveLeg). x.region) (if b then Some e else find_live es q)) t
    ∙ sym (ap (option_map (λ (x : LiveLeg). x.region)) (find_end es (record { leg = l; region = e.region }) q none (ap (same_key q) k ∙ t))))
    (λ d. ap (λ b. option_map (λ (x : LiveLeg). x.region) (if b then Some e else find_live es q)) d
    ∙ sym (ap (option_map (λ (x : LiveLeg). x.region)) (find_front es (record { leg = l; region = e.region }) q (ap (same_key q) k ∙ d))))

-- the region of the first
pub first_runs : (legs : Legs) (e : LiveLeg) (es : List LiveLeg) → ((q : LegKey) → running_region legs q ≡ live_region (e ∷ es) q) → running_region legs (key_of e.leg) ≡ Some e.region
first_runs legs e es h = h (key_of e.leg) ∙ ap (option_map (λ (x : LiveLeg). x.region)) (find_first e es)

-- the running legs where the first ended
pub ends_running : (legs : Legs) (e : LiveLeg) (es : List LiveLeg) (b : Back) → ((q : LegKey) → running_region legs q ≡ live_region (e ∷ es) q) → Apart (e ∷ es)
    → (q : LegKey) → running_region (ended legs (key_of e.leg) b) q ≡ live_region es q
ends_running legs e es b h apart q = by_bool (same_key q (key_of e.leg))
    (λ t. let none : find_live es q ≡ None = find_none es q (each_to _ _ es (λ f ne g. ne (sym (g ∙ is_key q (key_of e.leg) t))) apart.0) in
    ap (running_region (ended legs (key_of e.leg) b)) (is_key q (key_of e.leg) t) ∙ ap region_in (get_same legs (key_of e.leg) (Ended (record { back = b; region = unwrap_or (running_region legs (key_of e.leg)) 0 })))
    ∙ sym (ap (option_map (λ (x : LiveLeg). x.region)) none))
    (λ d. ap region_in (get_other legs (key_of e.leg) q (Ended (record { back = b; region = unwrap_or (running_region legs (key_of e.leg)) 0 })) (not_key q (key_of e.leg) d)) ∙ h q
    ∙ ap (λ b. option_map (λ (x : LiveLeg). x.region) (if b then Some e else find_live es q)) d)

pub settles : (v p new : PartState) (e : LiveLeg) (es : List LiveLeg) (f g : Fate) → v ≡ p → v.node.live ≡ e ∷ es → f ≡ g → new ≡ record v { node = settled v.node e g } → Settles p new f
settles v p new e es f g is s k l = record {
  first = e;
  others = es;
  stands = ap (λ (z : PartState). z.node.live) (sym is) ∙ s;
  left = l ∙ (λ i. record (is i) { node = settled (is i).node e (sym k i) });
}
