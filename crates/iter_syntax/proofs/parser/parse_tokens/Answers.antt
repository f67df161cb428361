use Rattle.std.proofs.Common.{arith}
use Rattle.iter_syntax.proofs.Grammar.Whole.{stop_is, more_is, program_is}
use Rattle.iter_syntax.proofs.parser.parse_tokens.Goals as goal

pub returns-in-Err-At : goal.returns-in-Err-At
returns-in-Err-At c =
    let h = rw c.in-Err-At.field-0-is at c.in-Err-At.ensures in
    (c.in-Err-At.at, stop_is c.args.tokens.now c.in-Err-At.at h.0 h.1, c.offset.ensures)

pub returns-then-at-tokens : goal.returns-then-at-tokens
returns-then-at-tokens c =
    (c.in-Ok.at, more_is c.args.tokens.now c.in-Ok.at c.in-Ok.program (omega arith) c.in-Ok.ensures.2, c.offset-then-at-tokens.ensures)

pub returns-else-at-tokens : goal.returns-else-at-tokens
returns-else-at-tokens c = (program_is c.args.tokens.now c.in-Ok.at c.in-Ok.program (omega arith) c.in-Ok.ensures.2).0
