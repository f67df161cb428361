use Rattle.std.proofs.Common.{sym, ◌∙◌}
use Rattle.code_image.proofs.ImageLaws.{spelled_if}
use Rattle.code_image.proofs.decoding.read.Goals as goal

pub returns-in-None-clause-image : goal.returns-in-None-clause-image
returns-in-None-clause-image c =
    spelled_if c.args.bytes.now c.read.result.0 c.read.result.1.now c.image_of.result c.read.ensures (sym c.header_fault.ensures ∙ c.in-None.is) c.image_of.ensures.image
