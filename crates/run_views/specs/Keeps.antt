-- Node, switch and client keep what is always true of them, and what they send is of its request.
use Rattle.std.specs.Prelude.{◌≡◌, ℕ, ◌≤◌, Option, Some, None}
use Rattle.range_table.specs.Memory as table
use Rattle.frame_codec.specs.declared.frame.Leg.{Leg}
use Rattle.frame_codec.specs.declared.frame.Back.{Back}
use Rattle.frame_codec.specs.declared.frame.Frame.TheVariants as frame
use Rattle.leg_ledger.specs.declared.leg.LegKey.{LegKey}
use Rattle.run_rules.specs.declared.node.LiveLeg.{LiveLeg}
use Rattle.run_rules.specs.declared.node.Accepted.{Accepted}
use Rattle.run_rules.specs.declared.node.Accepted.TheVariants as accepted
use Rattle.run_rules.specs.declared.client.Asking.{Asking}
use Rattle.run_rules.specs.declared.switch.Out.{Out}
use Rattle.run_rules.specs.declared.switch.Out.TheVariants.{ToNode, ToClient, Nothing}
use Rattle.run_rules.specs.Node.{NodeState, find_live}
use Rattle.run_rules.specs.Accepting.{accept}
use Rattle.run_rules.specs.Turning.{turn}
use Rattle.run_rules.specs.Client.{ask, tick, resend, hear}
use Rattle.run_rules.specs.Switch.{on}
use Rattle.run_laws.specs.Spines.Carries.{Shape, KeepsShape}
use Rattle.run_views.specs.Setting.{Setting, plan_of, pad_size, IsSetting, IsLegOf, IsBackOf}
use Rattle.run_views.specs.Nodes.{outcome_of, IsNodeOf}
use Rattle.run_views.specs.Clients.{terms_of, asked_leg, ticked_leg, heard_leg, IsAskingOf}
use Rattle.run_views.specs.Switches.{switch_of}

abbrev pub SentLegOf : Setting → Option Leg → Type 0
SentLegOf u None = Unit {0}
SentLegOf u (Some l) = IsLegOf u l

abbrev pub SentBackOf : Setting → Option Back → Type 0
SentBackOf u None = Unit {0}
SentBackOf u (Some b) = IsBackOf u b

abbrev pub AnswerOf : Setting → Accepted → Type 0
AnswerOf u (accepted.Answer b) = IsBackOf u b
AnswerOf u accepted.Foreign = Unit {0}
AnswerOf u accepted.Running = Unit {0}
AnswerOf u accepted.Elsewhere = Unit {0}
AnswerOf u accepted.Full = Unit {0}
AnswerOf u accepted.Started = Unit {0}
AnswerOf u accepted.Memory = Unit {0}

-- a back goes to the client of its request
abbrev pub OutOf : Setting → Out → Type 0
OutOf u (ToNode i l) = IsLegOf u l
OutOf u (ToClient c b) = (c ≡ u.client b.request) × IsBackOf u b
OutOf u Nothing = Unit {0}

abbrev pub AcceptKeeps : Type 0
AcceptKeeps =
    (u : Setting) (i : ℕ) (s : NodeState) (l : Leg) → IsSetting u → IsNodeOf u i s → IsLegOf u l → 1 ≤ l.left
    → IsNodeOf u i (accept s l).0 × AnswerOf u (accept s l).1

abbrev pub TurnKeeps : Type 0
TurnKeeps =
    (u : Setting) (i : ℕ) (s : NodeState) (q : LegKey) (e : LiveLeg) → IsSetting u → IsNodeOf u i s → find_live s.live q ≡ Some e
    → IsNodeOf u i (turn s q (outcome_of u s e.leg)).0 × SentBackOf u (turn s q (outcome_of u s e.leg)).1

abbrev pub SwitchKeeps : Type 0
SwitchKeeps =
    (u : Setting)
    → ((l : Leg) → IsLegOf u l → OutOf u (on (switch_of u) (frame.Leg l)))
    × ((b : Back) → IsBackOf u b → OutOf u (on (switch_of u) (frame.Back b)))

abbrev pub ClientKeeps : Type 0
ClientKeeps =
    (u : Setting) (r : ℕ) (a : Asking) → IsSetting u → IsAskingOf u r a
    → (IsAskingOf u r (ask (terms_of u r) r (u.program r) (u.begin r) a).0 × SentLegOf u (asked_leg (ask (terms_of u r) r (u.program r) (u.begin r) a).1))
    × (IsAskingOf u r (tick (terms_of u r) a).0 × SentLegOf u (ticked_leg (tick (terms_of u r) a).1) × SentLegOf u (resend a))
    × ((b : Back) → IsBackOf u b → b.request ≡ r → IsAskingOf u r (hear (terms_of u r) b a).0 × SentLegOf u (heard_leg (hear (terms_of u r) b a).1))

-- the plan's walks keep the shape that the laws of runs speak of
abbrev pub shape_of : Setting → Shape
shape_of u = record { pad = λ r. pad_size u r; region = λ i. (table.region_at u.table i).len }

abbrev pub PlanKeepsShape : Type 0
PlanKeepsShape = (u : Setting) → IsSetting u → KeepsShape (plan_of u) (shape_of u)
