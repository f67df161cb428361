-- The rules of node, switch and client are those of the laws of runs.
use Rattle.std.specs.Prelude.{◌≡◌, ℕ, suc, ◌^◌, ◌<◌, ◌≤◌, Some}
use Rattle.frame_codec.specs.declared.frame.Leg.{Leg}
use Rattle.frame_codec.specs.declared.frame.Back.{Back}
use Rattle.frame_codec.specs.declared.frame.Frame.TheVariants as frame
use Rattle.leg_ledger.specs.declared.leg.LegKey.{LegKey}
use Rattle.run_rules.specs.declared.node.LiveLeg.{LiveLeg}
use Rattle.run_rules.specs.declared.client.Asking.{Asking}
use Rattle.run_rules.specs.Node.{NodeState, find_live}
use Rattle.run_rules.specs.Accepting.{accept}
use Rattle.run_rules.specs.Turning.{fate_of, turn}
use Rattle.run_rules.specs.Client.{ask, tick, resend, hear}
use Rattle.run_rules.specs.Switch.{on}
use Rattle.run_laws.specs.Plan as p
use Rattle.run_laws.specs.Node as n
use Rattle.run_laws.specs.Client as c
use Rattle.run_laws.specs.World as w
use Rattle.run_views.specs.Frames.{leg_view, back_view}
use Rattle.run_views.specs.Setting.{Setting, plan_of, IsSetting, IsLegOf, IsBackOf}
use Rattle.run_views.specs.Nodes.{node_view, accepted_view, fate_view, sent_back, outcome_of, IsNodeOf}
use Rattle.run_views.specs.Clients.{terms_of, asking_view, sent_leg, asked_leg, ticked_leg, heard_leg, IsAskingOf}
use Rattle.run_views.specs.Switches.{switch_of, sent_out}

-- a node that accepts a leg of its request
abbrev pub AcceptSeen : Type 0
AcceptSeen =
    (u : Setting) (i : ℕ) (s : NodeState) (l : Leg) → IsSetting u → IsNodeOf u i s → IsLegOf u l
    → n.Accepts (plan_of u) i (node_view u s) (node_view u (accept s l).0) (leg_view l) (accepted_view (accept s l).1)

-- a turn of any live leg
abbrev pub TurnSeen : Type 0
TurnSeen =
    (u : Setting) (i : ℕ) (s : NodeState) (q : LegKey) (e : LiveLeg) → IsSetting u → IsNodeOf u i s → find_live s.live q ≡ Some e
    → n.Iterates (plan_of u) i (node_view u s) (node_view u (turn s q (outcome_of u s e.leg)).0) e.leg.request e.leg.leg (fate_view (fate_of s e.leg (outcome_of u s e.leg)))
    × (w.turned_sends e.leg.request e.leg.leg (fate_view (fate_of s e.leg (outcome_of u s e.leg))) ≡ sent_back (turn s q (outcome_of u s e.leg)).1)

-- the switch, for legs and backs of its requests but a Reroute of the last leg number
abbrev pub SwitchSeen : Type 0
SwitchSeen =
    (u : Setting) → IsSetting u
    → ((l : Leg) → IsLegOf u l → sent_out (on (switch_of u) (frame.Leg l)) ≡ w.switched (plan_of u) (p.AsLeg (leg_view l)))
    × ((b : Back) → IsBackOf u b → suc b.leg < 2 ^ 32 → sent_out (on (switch_of u) (frame.Back b)) ≡ w.switched (plan_of u) (p.AsBack (back_view b)))

-- an ask, a tick, the drain's resend, and a back of the request that is below the last leg number and within the budget
abbrev pub AskSeen : Type 0
AskSeen =
    (u : Setting) (r program : ℕ) (a : Asking) → program ≡ u.program r → IsAskingOf u r a
    → (asking_view (ask (terms_of u r) r program (u.begin r) a).0 ≡ c.asks_asking (plan_of u) r (asking_view a))
    × (sent_leg (asked_leg (ask (terms_of u r) r program (u.begin r) a).1) ≡ w.asks_sends (plan_of u) r (asking_view a))

abbrev pub TickSeen : Type 0
TickSeen =
    (u : Setting) (r : ℕ) (a : Asking) → IsAskingOf u r a
    → (asking_view (tick (terms_of u r) a).0 ≡ c.ticks_asking u.tries (asking_view a))
    × (sent_leg (ticked_leg (tick (terms_of u r) a).1) ≡ w.ticks_sends u.tries (asking_view a))
    × (sent_leg (resend a) ≡ w.resends (asking_view a))

abbrev pub HearSeen : Type 0
HearSeen =
    (u : Setting) (b : Back) (a : Asking) → IsBackOf u b → IsAskingOf u b.request a → suc b.leg < 2 ^ 32 → b.left ≤ u.budget
    → (asking_view (hear (terms_of u b.request) b a).0 ≡ c.heard_asking (asking_view a) (c.hears (plan_of u) (back_view b) (asking_view a)))
    × (sent_leg (heard_leg (hear (terms_of u b.request) b a).1) ≡ w.heard_sends (c.hears (plan_of u) (back_view b) (asking_view a)))
