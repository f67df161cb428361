-- What holds of the reports of every scenario.
use Rattle.std.specs.Prelude.{◌≡◌, ℕ, List}
use Rattle.scenario_text.specs.declared.scenario.Scenario.{Scenario}
use Rattle.flat_walk.specs.Report.{IsWalkReport}

-- a scenario has at most one report of its walk
abbrev pub OneReportLaw : Type 0
OneReportLaw = (s : Scenario) (a b : List ℕ) → IsWalkReport s a → IsWalkReport s b → a ≡ b
