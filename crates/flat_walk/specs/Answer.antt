-- What is answered of a text: the report of its walk and the nodes that are given back, or why it is refused.
use Rattle.std.specs.Prelude.{◌≡◌, ◌≢◌, ℕ, true, false, List, Option, Result, Ok, Err}
use Rattle.node_core.specs.Part.{PartState}
use Rattle.scenario_text.specs.declared.fault.DocFault.TheVariants as doc
use Rattle.scenario_text.specs.declared.scenario.Scenario.{Scenario}
use Rattle.scenario_text.specs.Scenario.{ReadAnswer}
use Rattle.scenario_parts.specs.Yards.{GivesBack}
use Rattle.replay.specs.Report.{IsReplay}
use Rattle.flat_walk.specs.declared.fault.WalkFault.{WalkFault}
use Rattle.flat_walk.specs.declared.fault.WalkFault.TheVariants as fault
use Rattle.flat_walk.specs.Form.{asked, asks_for_one_walk}
use Rattle.flat_walk.specs.Report.{IsWalkReport}

-- the bytes are the report of the walk, and the replay of its ask; want of memory may be answered at any time
abbrev pub WalkAnswer : List ℕ → (old new : Option (List PartState)) → Result (List ℕ) WalkFault → Type 0
WalkAnswer text old new (Ok report) = (s : Scenario) × (parts : List PartState) × ReadAnswer text (Ok s) × (asks_for_one_walk s.plan ≡ true)
    × IsWalkReport s report × IsReplay (asked s) report parts × GivesBack old new parts
WalkAnswer text old new (Err fault.Memory) = Unit {0}
WalkAnswer text old new (Err (fault.Document f)) = ReadAnswer text (Err f) × (f ≢ doc.Memory)
WalkAnswer text old new (Err fault.Form) = (s : Scenario) × ReadAnswer text (Ok s) × (asks_for_one_walk s.plan ≡ false)

-- neither a report nor want of memory
abbrev pub IsRefusal : Result (List ℕ) WalkFault → Type 0
IsRefusal (Ok report) = ⊥
IsRefusal (Err fault.Memory) = ⊥
IsRefusal (Err (fault.Document f)) = Unit {0}
IsRefusal (Err fault.Form) = Unit {0}
