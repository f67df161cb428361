use Rattle.iter_syntax.proofs.Lexing.OneReading.{one_reading}
use Rattle.iter_syntax.proofs.tokens.tokens.Goals as goal

pub returns-in-Err-clause-one_reading : goal.returns-in-Err-clause-one_reading
returns-in-Err-clause-one_reading c = one_reading c.args.text.now

pub returns-in-None-clause-one_reading : goal.returns-in-None-clause-one_reading
returns-in-None-clause-one_reading c = one_reading c.args.text.now

pub returns-in-Some-clause-one_reading : goal.returns-in-Some-clause-one_reading
returns-in-Some-clause-one_reading c = one_reading c.args.text.now
