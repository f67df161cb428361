use Rattle.code_image.proofs.Only.{only}
use Rattle.code_image.proofs.First.{first}
use Rattle.code_image.proofs.decoding.decode.Goals as goal

pub returns-clause-only : goal.returns-clause-only
returns-clause-only c = only c.args.bytes.now c.read.result c.read.ensures.image c.read.ensures.refused

pub returns-clause-first : goal.returns-clause-first
returns-clause-first c = first c.args.bytes.now c.read.result c.read.ensures.image c.read.ensures.refused
