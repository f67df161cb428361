-- What is answered of a text: the report of its replay and the nodes that are given back, or why it is refused.
use Rattle.std.specs.Prelude.{ℕ, List, Option, Result, Ok, Err}
use Rattle.node_core.specs.Part.{PartState}
use Rattle.scenario_text.specs.declared.fault.DocFault.{DocFault}
use Rattle.scenario_text.specs.declared.fault.DocFault.TheVariants as doc
use Rattle.scenario_text.specs.declared.scenario.Scenario.{Scenario}
use Rattle.scenario_text.specs.Scenario.{ReadAnswer}
use Rattle.scenario_parts.specs.Yards.{GivesBack}
use Rattle.replay.specs.Report.{IsReplay}

-- want of memory may be answered at any time
abbrev pub ReplayAnswer : List ℕ → (old new : Option (List PartState)) → Result (List ℕ) DocFault → Type 0
ReplayAnswer text old new (Ok report) = (s : Scenario) × (parts : List PartState) × ReadAnswer text (Ok s) × IsReplay s report parts × GivesBack old new parts
ReplayAnswer text old new (Err doc.Memory) = Unit {0}
ReplayAnswer text old new (Err f) = ReadAnswer text (Err f)
