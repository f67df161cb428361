-- What the contracts of private functions say beside the definitions: no reader of `read`'s contract needs it.
use Rattle.std.specs.Prelude.{◌≡◌, ◌≢◌, ◌<◌, ◌^◌, ℕ, List, [], map, Option, Some, None, Result, Ok, Err}
use Rattle.toml.specs.Data.{Items, no_items, item, Members, as_table}
use Rattle.iter_syntax.specs.declared.tree.Program.{Program}
use Rattle.iter_syntax.specs.declared.fault.SyntaxFault.TheVariants as syntax
use Rattle.iter_syntax.specs.Parsed.{IsProgramOf, ParseAnswer}
use Rattle.iter_check.specs.FaultList.{fault_list}
use Rattle.scenario_text.specs.declared.key.KeyRule.{KeyRule}
use Rattle.scenario_text.specs.declared.fault.DocFault.{DocFault}
use Rattle.scenario_text.specs.declared.fault.DocFault.TheVariants as fault
use Rattle.scenario_text.specs.declared.scenario.Scenario.{Scenario}
use Rattle.scenario_text.specs.Keys.{Key}
use Rattle.scenario_text.specs.OfProgram.{program_fault}
use Rattle.scenario_text.specs.Scenario.{IsScenarioOf, IsFaultOf}
use Rattle.scenario_text.specs.Values.{client_of}

-- the answer of a check: want of memory, the fault that there is, or what an input without fault gives
abbrev pub Gives : {A : Type 0} → Option DocFault → A → Result A DocFault → Type 0
Gives found value (Err fault.Memory) = Unit {0}
Gives found value (Err f) = found ≡ Some f
Gives found value (Ok given) = (found ≡ None) × (given ≡ value)

-- the keys that the code's rows name
abbrev pub key_of : KeyRule → Key
key_of rule = record { name = rule.name.now; kind = rule.kind; needed = rule.needed }

abbrev pub keys_of : List KeyRule → List Key
keys_of rules = map key_of rules

-- the answer of a text that is to be a program
abbrev pub ProgramAnswer : List ℕ → Result Program DocFault → Type 0
ProgramAnswer text (Ok p) = IsProgramOf text p × (fault_list p ≡ [])
ProgramAnswer text (Err fault.Memory) = Unit {0}
ProgramAnswer text (Err (fault.Program f)) = ParseAnswer text (Err f) × (f ≢ syntax.Memory)
ProgramAnswer text (Err f) = (p : Program) × IsProgramOf text p × (program_fault p ≡ Some f)

-- the answer of a table
abbrev pub TableAnswer : Members → Result Scenario DocFault → Type 0
TableAnswer ms (Ok s) = IsScenarioOf ms s
TableAnswer ms (Err fault.Memory) = Unit {0}
TableAnswer ms (Err f) = IsFaultOf ms f

-- the client of each request is a number of 16 bits
abbrev pub IsSmallClient : Option Members → Type 0
IsSmallClient None = Unit {0}
IsSmallClient (Some ms) = client_of ms < 2 ^ 16

abbrev pub AreSmallClients : Items → Type 0
AreSmallClients no_items = Unit {0}
AreSmallClients (item d ds) = IsSmallClient (as_table d) × AreSmallClients ds
