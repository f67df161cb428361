use Rattle.std.proofs.Common.{arith}
use Rattle.frame_codec.proofs.header.Header.write.Goals as goal

pub returns-clause-fits : goal.returns-clause-fits
returns-clause-fits c = record {
  magic = omega arith;
  version = omega arith;
  kind = omega arith;
  client = omega arith;
  request = omega arith;
  leg = omega arith;
  program = omega arith;
  left = omega arith;
  ending = omega arith;
  fault = omega arith;
  cur = omega arith;
  pad_len = omega arith;
}
