use Rattle.std.proofs.Common.{length, subst}
use Rattle.iter_syntax.specs.Steps.Reads.{TokensParsed}
use Rattle.iter_syntax.proofs.Grammar.OneProgram.{one_program, text_parsed}
use Rattle.iter_syntax.proofs.parser.parse.Goals as goal

pub returns-in-Ok-clause-answer : goal.returns-in-Ok-clause-answer
returns-in-Ok-clause-answer c =
    text_parsed c.args.text.now c.in-Ok.found c.parse_tokens.result c.in-Ok.ensures.answer
    (subst (λ ts. TokensParsed (length c.args.text.now) ts c.parse_tokens.result) c.as_slice.ensures c.parse_tokens.ensures)

pub returns-in-Ok-clause-one_program : goal.returns-in-Ok-clause-one_program
returns-in-Ok-clause-one_program c = one_program c.args.text.now c.tokens.ensures.one_reading

pub returns-in-Err-clause-one_program : goal.returns-in-Err-clause-one_program
returns-in-Err-clause-one_program c = one_program c.args.text.now c.tokens.ensures.one_reading
