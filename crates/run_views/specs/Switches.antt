-- The switch, as the laws of runs see it.
use Rattle.std.specs.Prelude.{List, [], ◌∷◌, map}
use Rattle.run_rules.specs.declared.switch.Out.{Out}
use Rattle.run_rules.specs.declared.switch.Out.TheVariants.{ToNode, ToClient, Nothing}
use Rattle.run_rules.specs.Switch.{SwitchState}
use Rattle.run_laws.specs.Plan as p
use Rattle.run_laws.specs.World as w
use Rattle.run_views.specs.Frames.{leg_view, back_view}
use Rattle.run_views.specs.Setting.{Setting}

abbrev pub switch_of : Setting → SwitchState
switch_of u = record { table = u.table; owners = u.owners; sizes = map (λ s. s.record_size) u.sizes; clients = u.clients }

abbrev pub sent_out : Out → List w.Letter
sent_out (ToNode n l) = record { to = w.ToNode n; frame = p.AsLeg (leg_view l) } ∷ []
sent_out (ToClient c b) = record { to = w.ToClient; frame = p.AsBack (back_view b) } ∷ []
sent_out Nothing = []
