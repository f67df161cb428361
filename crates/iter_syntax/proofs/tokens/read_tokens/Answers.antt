use Rattle.std.proofs.Common.{refl}
use Rattle.iter_syntax.proofs.Lexing.Steps.{read_none, read_step, read_stuck}
use Rattle.iter_syntax.proofs.tokens.read_tokens.Goals as goal

pub loop-at-init : goal.loop-at-init
loop-at-init c = rw (c.new-found.ensures, c.gap_len-at.ensures.len) (read_none c.args.text.now)

pub loop-at-preserved : goal.loop-at-preserved
loop-at-preserved c = rw c.in-Ok.ensures.ok (read_step c.args.text.now c.loop-at.found c.loop-at.at c.gap_len-at-in-loop-at.result _ c.in-Some.front c.front_token.result c.loop-at.invariant c.loop-at-test.true c.front_token.ensures.front c.in-Some.is refl refl c.gap_len-at-in-loop-at.ensures.len)

pub returns-in-None : goal.returns-in-None
returns-in-None c = read_stuck c.args.text.now c.loop-at.found c.loop-at.at c.front_token.result c.loop-at.invariant c.loop-at-test.true c.front_token.ensures.front c.in-None.is
