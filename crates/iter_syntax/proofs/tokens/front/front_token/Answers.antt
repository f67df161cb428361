use Rattle.iter_syntax.proofs.Lexing.Reading.{number_inside, symbol_inside}
use Rattle.iter_syntax.proofs.tokens.front.front_token.Goals as goal

pub returns-then-is_ascii_digit-clause-inside : goal.returns-then-is_ascii_digit-clause-inside
returns-then-is_ascii_digit-clause-inside c = rw c.front_number.ensures (number_inside c.args.text.now)

pub returns-else-is_ascii_digit-clause-inside : goal.returns-else-is_ascii_digit-clause-inside
returns-else-is_ascii_digit-clause-inside c = rw c.front_symbol.ensures (symbol_inside c.args.text.now c.requires)
