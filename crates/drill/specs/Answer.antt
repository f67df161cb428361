-- What is answered of a shape: the summary of the replay of its document and the nodes that are given back, or why the document
-- is refused.
use Rattle.std.specs.Prelude.{◌≡◌, ℕ, List, Option, Result, Ok, Err}
use Rattle.node_core.specs.Part.{PartState}
use Rattle.scenario_text.specs.declared.fault.DocFault.{DocFault}
use Rattle.scenario_text.specs.declared.fault.DocFault.TheVariants as doc
use Rattle.scenario_text.specs.declared.scenario.Scenario.{Scenario}
use Rattle.scenario_text.specs.Scenario.{ReadAnswer}
use Rattle.shape_build.specs.declared.shape.Shape.{Shape}
use Rattle.shape_build.specs.Shape.{shape_text}
use Rattle.replay.specs.declared.scenario.Replayed.{Replayed}
use Rattle.replay.specs.Report.{IsReplayed}
use Rattle.scenario_parts.specs.Yards.{GivesBack}
use Rattle.drill.specs.Summary.{summary}

-- want of memory may be answered at any time
abbrev pub DrillAnswer : Shape → (old new : Option (List PartState)) → Result (List ℕ) DocFault → Type 0
DrillAnswer shape old new (Ok output) =
    (s : Scenario) × (left : Replayed) × (parts : List PartState) × ReadAnswer (shape_text shape) (Ok s) × IsReplayed s left parts × (output ≡ summary shape left) × GivesBack old new parts
DrillAnswer shape old new (Err doc.Memory) = Unit {0}
DrillAnswer shape old new (Err f) = ReadAnswer (shape_text shape) (Err f)

-- the document is refused by one of its checks
abbrev pub IsRefused : Result (List ℕ) DocFault → Type 0
IsRefused (Ok output) = ⊥
IsRefused (Err doc.Memory) = ⊥
IsRefused (Err f) = Unit {0}
