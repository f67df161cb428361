-- What a process that is the switch leaves. It tells nothing.
use Rattle.std.specs.Prelude.{◌≡◌, ℕ, [], Option}
use Rattle.pulse_base.specs.Link.{Traffic}
use Rattle.scenario_text.specs.declared.scenario.Scenario.{Scenario}
use Rattle.scenario_parts.specs.Switch.{first_switch}
use Rattle.pulse_serve.specs.Runs.{Serves}
use Rattle.pulse_serve.specs.SwitchRun.{switch_loop}
use Rattle.pulse_process.specs.declared.told.Told.{Told}
use Rattle.pulse_process.specs.Bound.{BoundTo, end_of}

pub record IsSwitch (s : Scenario) (turns : ℕ) (net now : Option Traffic) (told : Told) : Type 0 where
  pub serves : BoundTo (s.plan).port net now (λ rs ss. Serves (switch_loop (s.plan).port) turns (end_of told.finished) (first_switch s) rs (first_switch s) ss)
  pub text : told.text ≡ []
