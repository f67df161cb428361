-- A switch sends legs to nodes of its list of owners alone.
use Rattle.std.proofs.Common.{◌≡◌, ℕ, ◌<◌, ◌≤◌, Bool, true, false, List, length, slice_index_or, Option, Some, None, All, refl, sym, subst, ◌∙◌, arith}
use Rattle.std.specs.Prelude.{nat_lt, nat_eq, ◌^◌, ◌-◌, if◌then◌else◌}
use Rattle.std.proofs.lemmas.Bool.Decides.{nat_tests}
use Rattle.std.proofs.lemmas.List.{get_or_past}
use Rattle.std.proofs.lemmas.List.Elements.{All-get_or}
use Rattle.range_table.specs.Memory.{region_of}
use Rattle.frame_codec.specs.declared.frame.Leg.{Leg}
use Rattle.frame_codec.specs.declared.frame.Back.{Back}
use Rattle.frame_codec.specs.declared.frame.Ending.{Ending}
use Rattle.frame_codec.specs.declared.frame.Ending.TheVariants as ending
use Rattle.frame_codec.specs.declared.frame.Frame.{Frame}
use Rattle.frame_codec.specs.declared.frame.Frame.TheVariants as frames
use Rattle.run_rules.specs.declared.switch.Out.{Out}
use Rattle.run_rules.specs.declared.switch.Out.TheVariants.{ToNode, ToClient, Nothing}
use Rattle.run_rules.specs.Switch.{SwitchState, sent_to, route, next_leg, pass_back, is_known, on}
use Rattle.switch_core.specs.Owners.{IsNode}

owner_below : (owners : List ℕ) (i : ℕ) → All IsNode owners → slice_index_or owners i 0 < 64
owner_below owners i all = by (nat_lt i (length owners)) refl
  where
    by : (b : Bool) → nat_lt i (length owners) ≡ b → slice_index_or owners i 0 < 64
    by true e = let inside : i < length owners = grind (arith, nat_tests) in All-get_or IsNode owners i 0 inside all
    by false e = let past : length owners ≤ i = grind (arith, nat_tests) in omega (arith, get_or_past owners i 0 past)

abbrev Below : Out → Type 0
Below (ToNode n l) = n < 64
Below (ToClient c b) = Unit {0}
Below Nothing = Unit {0}

sent_below : (s : SwitchState) (l : Leg) (o : Option ℕ) → All IsNode s.owners → Below (sent_to s l o)
sent_below s l None all = tt
sent_below s l (Some i) all = owner_below s.owners i all

route_below : (s : SwitchState) (l : Leg) → All IsNode s.owners → Below (route s l)
route_below s l all = sent_below s l (region_of s.table l.cur (slice_index_or s.sizes l.program 0)) all

either_below : (t : Bool) (a b : Out) → Below a → Below b → Below (if t then a else b)
either_below true a b x y = x
either_below false a b x y = y

back_below : (s : SwitchState) (b : Back) (e : Ending) → All IsNode s.owners → Below (pass_back s b e)
back_below s b ending.Reroute all = either_below (nat_eq b.leg (2 ^ 32 - 1)) Nothing (route s (next_leg b)) tt (route_below s (next_leg b) all)
back_below s b ending.Done all = tt
back_below s b ending.Resume all = tt
back_below s b (ending.Fault kind) all = tt

on_below : (s : SwitchState) (f : Frame) → All IsNode s.owners → Below (on s f)
on_below s (frames.Leg l) all = either_below (is_known s l.client l.program) (route s l) Nothing (route_below s l all) tt
on_below s (frames.Back b) all = either_below (is_known s b.client b.program) (pass_back s b b.ending) Nothing (back_below s b b.ending all) tt
on_below s frames.Stop all = tt

pub node_below : (s : SwitchState) (f : Frame) (o : Out) (n : ℕ) (l : Leg) → All IsNode s.owners → o ≡ on s f → o ≡ ToNode n l → n < 64
node_below s f o n l all e is = subst Below (sym e ∙ is) (on_below s f all)
