-- The answer of a whole document from those of its parts.
use Rattle.std.proofs.Common.{◌≡◌, ℕ, List, [], ◌∷◌, Option, Some, None, refl}
use Rattle.std.specs.Prelude.{Result, Ok, Err, IfErr}
use Rattle.toml.specs.Data.{Members}
use Rattle.iter_syntax.specs.declared.tree.Program.{Program}
use Rattle.iter_syntax.specs.Parsed.{IsProgramOf}
use Rattle.scenario_text.specs.declared.fault.DocFault.{DocFault}
use Rattle.scenario_text.specs.declared.fault.DocFault.TheVariants as fault
use Rattle.scenario_text.specs.declared.scenario.Scenario.{Scenario}
use Rattle.scenario_text.specs.Events.{events_fault}
use Rattle.scenario_text.specs.Form.{count, each, first_there, form_fault}
use Rattle.scenario_text.specs.OfProgram.{iter_fault, program_fault, rest_fault, spans_fault}
use Rattle.scenario_text.specs.Regions.{spans}
use Rattle.scenario_text.specs.Scenario.{HasCause, of_form, of_text, of_program, IsTableOf, ReadAnswer}
use Rattle.scenario_text.specs.Steps.{Gives, ProgramAnswer, TableAnswer}
use Rattle.scenario_text.specs.Values.{events_of, nodes_of, program_of, regions_of, requests_of}
use Rattle.scenario_text.proofs.Told.{caused}

pub form_answer : {A : Type 0} (ms : Members) (x : A) (f : DocFault) → Gives (form_fault ms) x (Err f) → TableAnswer ms (Err f)
form_answer ms x fault.Memory h = tt
form_answer ms x f h = of_form f h

first_some : (o : Option DocFault) (more : List (Option DocFault)) (f : DocFault) → o ≡ Some f → first_there (o ∷ more) ≡ Some f
first_some None more f h = cc
first_some (Some g) more f h = h

program_first : (p : Program) (ms : Members) (f : DocFault) → program_fault p ≡ Some f → rest_fault p ms ≡ Some f
program_first p ms f h =
    first_some (program_fault p) (spans_fault (spans (regions_of ms)) ∷ each (iter_fault p) 0 (requests_of ms) ∷ events_fault (count (requests_of ms)) (nodes_of ms) 0 (events_of ms) ∷ []) f h

pub program_answer : (ms : Members) (f : DocFault) → form_fault ms ≡ None → ProgramAnswer (program_of ms) (Err f) → TableAnswer ms (Err f)
program_answer ms fault.Memory form h = tt
program_answer ms (fault.Program f) form h = of_text f form h.0 h.1
program_answer ms f form h = of_program h.0 f form h.1 (program_first h.0 ms f h.2)

pub rest_answer : {A : Type 0} (ms : Members) (p : Program) (x : A) (f : DocFault) → form_fault ms ≡ None → IsProgramOf (program_of ms) p → Gives (rest_fault p ms) x (Err f) → TableAnswer ms (Err f)
rest_answer ms p x fault.Memory form is_program h = tt
rest_answer ms p x f form is_program h = of_program p f form is_program h

pub read_answer : (text : List ℕ) (ms : Members) (r : Result Scenario DocFault) → IsTableOf text ms → TableAnswer ms r → ReadAnswer text r
read_answer text ms (Ok s) is_table h = (ms, is_table, h)
read_answer text ms (Err fault.Memory) is_table h = tt
read_answer text ms (Err fault.Toml) is_table h = absurd ((caused ms fault.Toml h).table refl)
read_answer text ms (Err f) is_table h = (ms, is_table, h)

pub read_cause : (ms : Members) (r : Result Scenario DocFault) → TableAnswer ms r → IfErr r HasCause
read_cause ms (Ok s) h = tt
read_cause ms (Err fault.Memory) h = tt
read_cause ms (Err f) h = (caused ms f h).cause
