use Rattle.std.proofs.Common.{length}
use Rattle.iter_check.proofs.fields.+number.Given as goal

abbrev pub decreases-number : goal.decreases-number
decreases-number l = length l.bytes.now
