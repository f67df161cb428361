use Rattle.std.proofs.Common.{◌≡◌, ◌≤◌, ◌-◌, ◌++◌, drop, length}
use Rattle.toml.specs.View.{items_view}
use Rattle.scenario_text.specs.Numbers.{argument_of}
use Rattle.scenario_text.specs.Plan.{plan_args}
use Rattle.scenario_text.specs.Regions.{gather}
use Rattle.scenario_text.proofs.request.args_of.Given as goal

abbrev pub invariant-values : goal.invariant-values
invariant-values l = record {
  args : plan_args (items_view l.values) ≡ l.args.items ++ gather (λ i d. argument_of d) l.at (items_view (drop l.at l.values));
  len : length l.args.items ≤ l.at;
}

abbrev pub decreases-values : goal.decreases-values
decreases-values l = length l.values - l.at
