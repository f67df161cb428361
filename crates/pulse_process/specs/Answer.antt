-- What is answered of a text by a process of its scenario, which starts no children. Want of memory may be answered at any time; a fault of the link has its
-- cause beside this.
use Rattle.std.specs.Prelude.{◌≢◌, ℕ, ◌≤◌, List, [], ◌∷◌, Option, Result, Ok, Err}
use Rattle.pulse_base.specs.Link.{Traffic}
use Rattle.node_core.specs.Part.{PartState}
use Rattle.scenario_text.specs.declared.fault.DocFault.TheVariants as doc
use Rattle.scenario_text.specs.declared.scenario.Scenario.{Scenario}
use Rattle.scenario_text.specs.Scenario.{ReadAnswer}
use Rattle.scenario_parts.specs.Yards.{GivesBack}
use Rattle.pulse_process.specs.declared.told.Told.{Told}
use Rattle.pulse_process.specs.declared.fault.ProcessFault.{ProcessFault}
use Rattle.pulse_process.specs.declared.fault.ProcessFault.TheVariants as fault
use Rattle.pulse_process.specs.declared.fault.FormLimit.{FormLimit}
use Rattle.pulse_process.specs.declared.fault.FormLimit.TheVariants as limit
use Rattle.pulse_process.specs.Node.{IsNode}
use Rattle.pulse_process.specs.Switch.{IsSwitch}
use Rattle.pulse_process.specs.Ask.{IsAsk}

-- an accepted document of which this holds
abbrev pub OfScenario : List ℕ → (Scenario → Type 0) → Type 0
OfScenario text P = (s : Scenario) × ReadAnswer text (Ok s) × P s

abbrev pub Faults : List ℕ → (FormLimit → Type 0) → ProcessFault → Type 0
Faults text lacks (fault.Document f) = (f ≢ doc.Memory) × ReadAnswer text (Err f)
Faults text lacks (fault.Form l) = lacks l
Faults text lacks fault.Link = Unit {0}
Faults text lacks fault.Child = ⊥
Faults text lacks fault.Memory = Unit {0}

-- the document has no node n, or no client c
abbrev pub LacksNode : List ℕ → ℕ → FormLimit → Type 0
LacksNode text n limit.Node = OfScenario text (λ s. (s.plan).nodes ≤ n)
LacksNode text n _ = ⊥

abbrev pub LacksClient : List ℕ → ℕ → FormLimit → Type 0
LacksClient text c limit.Client = OfScenario text (λ s. (s.plan).clients ≤ c)
LacksClient text c _ = ⊥

abbrev pub NodeAnswer : List ℕ → (n turns : ℕ) → (net now : Option Traffic) → (old new : Option (List PartState)) → Result Told ProcessFault → Type 0
NodeAnswer text n turns net now old new (Ok told) = OfScenario text (λ s. (part : PartState) × IsNode s n turns net now told part × GivesBack old new (part ∷ []))
NodeAnswer text n turns net now old new (Err f) = Faults text (LacksNode text n) f

abbrev pub SwitchAnswer : List ℕ → (turns : ℕ) → (net now : Option Traffic) → Result Told ProcessFault → Type 0
SwitchAnswer text turns net now (Ok told) = OfScenario text (λ s. IsSwitch s turns net now told)
SwitchAnswer text turns net now (Err f) = Faults text (λ l. ⊥) f

abbrev pub AskAnswer : List ℕ → (c turns : ℕ) → (net now : Option Traffic) → Result Told ProcessFault → Type 0
AskAnswer text c turns net now (Ok told) = OfScenario text (λ s. IsAsk s c turns net now told)
AskAnswer text c turns net now (Err f) = Faults text (LacksClient text c) f
