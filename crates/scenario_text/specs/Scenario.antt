-- The scenario of a document, or its first failing check.
use Rattle.std.specs.Prelude.{◌≡◌, ◌≢◌, ◌⊎◌, ℕ, List, Some, None, Result, Ok, Err, IsUtf8}
use Rattle.toml.specs.Data.{Members}
use Rattle.toml.specs.Parse.{parse_document}
use Rattle.iter_syntax.specs.declared.tree.Program.{Program}
use Rattle.iter_syntax.specs.declared.fault.SyntaxFault.{SyntaxFault}
use Rattle.iter_syntax.specs.declared.fault.SyntaxFault.TheVariants as syntax
use Rattle.iter_syntax.specs.Parsed.{IsProgramOf, ParseAnswer}
use Rattle.range_table.specs.declared.fault.TableFault.TheVariants as table
use Rattle.scenario_text.specs.declared.fault.DocFault.{DocFault}
use Rattle.scenario_text.specs.declared.fault.DocFault.TheVariants as fault
use Rattle.scenario_text.specs.declared.scenario.Scenario.{Scenario}
use Rattle.scenario_text.specs.Form.{form_fault}
use Rattle.scenario_text.specs.OfProgram.{rest_fault}
use Rattle.scenario_text.specs.Plan.{plan_of}
use Rattle.scenario_text.specs.Values.{program_of}

-- the text is a TOML document with this table
abbrev pub IsTableOf : List ℕ → Members → Type 0
IsTableOf text ms = IsUtf8 text × (parse_document text ≡ Some ms)

-- no check of the table fails, its program's text is this program, and the plan is the one that both give
pub record IsScenarioOf (ms : Members) (s : Scenario) : Type 0 where
  pub form : form_fault ms ≡ None
  pub program : IsProgramOf (program_of ms) s.checked
  pub rest : rest_fault s.checked ms ≡ None
  pub plan : s.plan ≡ plan_of s.checked ms

-- the first failing check of the table: one that needs no program, or that its program's text is no program, or one of its
-- program
pub data IsFaultOf (ms : Members) : DocFault → Type 0 where
  of_form : (f : DocFault) → form_fault ms ≡ Some f → IsFaultOf ms f
  of_text : (f : SyntaxFault) → form_fault ms ≡ None → ParseAnswer (program_of ms) (Err f) → f ≢ syntax.Memory → IsFaultOf ms (fault.Program f)
  of_program : (p : Program) (f : DocFault) → form_fault ms ≡ None → IsProgramOf (program_of ms) p → rest_fault p ms ≡ Some f → IsFaultOf ms f

-- what is answered of a text: its scenario, or its first failing check; want of memory may be answered at any time
abbrev pub ReadAnswer : List ℕ → Result Scenario DocFault → Type 0
ReadAnswer text (Ok s) = (ms : Members) × IsTableOf text ms × IsScenarioOf ms s
ReadAnswer text (Err fault.Memory) = Unit {0}
ReadAnswer text (Err fault.Toml) = (ms : Members) → IsTableOf text ms → ⊥
ReadAnswer text (Err f) = (ms : Members) × IsTableOf text ms × IsFaultOf ms f

-- a fault of the program's text is never want of memory, which is said by itself, and one of the regions never that there are
-- too many, which is a limit
abbrev pub HasCause : DocFault → Type 0
HasCause (fault.Program syntax.Memory) = ⊥
HasCause (fault.Region i table.TooMany) = ⊥
HasCause f = Unit {0}

-- want of memory aside, a text has one answer
abbrev pub HasOneAnswer : List ℕ → Type 0
HasOneAnswer text =
    (a b : Result Scenario DocFault) → ReadAnswer text a → ReadAnswer text b → (a ≡ Err fault.Memory) ⊎ (b ≡ Err fault.Memory) ⊎ (a ≡ b)
