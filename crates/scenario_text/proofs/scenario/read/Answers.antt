use Rattle.toml.specs.View.{table_view}
use Rattle.std.proofs.Common.{ℕ, List}
use Rattle.iter_syntax.specs.Parsed.{HasOneProgram}
use Rattle.iter_syntax.proofs.Grammar.OneProgram.{one_program}
use Rattle.iter_syntax.proofs.Lexing.OneReading.{one_reading}
use Rattle.scenario_text.proofs.OneAnswer.{one_answer}
use Rattle.scenario_text.proofs.Composed.{read_answer, read_cause}
use Rattle.scenario_text.proofs.scenario.read.Goals as goal

pub returns-in-Ok-clause-answer : goal.returns-in-Ok-clause-answer
returns-in-Ok-clause-answer c =
    read_answer c.args.text.now (table_view c.in-Ok.table) c.read_table.result c.in-Ok.ensures.ok c.read_table.ensures.answer

pub returns-in-Ok-clause-cause : goal.returns-in-Ok-clause-cause
returns-in-Ok-clause-cause c = read_cause (table_view c.in-Ok.table) c.read_table.result c.read_table.ensures.answer

any_program : (text : List ℕ) → HasOneProgram text
any_program text = one_program text (one_reading text)

pub returns-in-Ok-clause-one_answer : goal.returns-in-Ok-clause-one_answer
returns-in-Ok-clause-one_answer c = one_answer c.args.text.now any_program

pub returns-after-is_memory-clause-one_answer : goal.returns-after-is_memory-clause-one_answer
returns-after-is_memory-clause-one_answer c = one_answer c.args.text.now any_program
