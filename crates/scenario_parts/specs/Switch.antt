-- The switch of a scenario.
use Rattle.std.specs.Prelude.{map}
use Rattle.iter_check.specs.Layout.{size_of}
use Rattle.iter_check.specs.FaultList.{record_fields}
use Rattle.run_rules.specs.Switch.{SwitchState}
use Rattle.scenario_text.specs.declared.scenario.Scenario.{Scenario}

abbrev pub first_switch : Scenario → SwitchState
first_switch s = record {
  table = map (λ r. r.span) (s.plan).regions;
  owners = map (λ r. r.node) (s.plan).regions;
  sizes = map (λ it. size_of (record_fields (s.checked).records it)) (s.checked).iters;
  clients = (s.plan).clients;
}
