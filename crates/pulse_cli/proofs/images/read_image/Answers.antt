use Rattle.pulse_cli.proofs.ImageRefusals.{of_image}
use Rattle.pulse_cli.proofs.images.read_image.Goals as goal

pub returns-in-Err-clause-refused : goal.returns-in-Err-clause-refused
returns-in-Err-clause-refused c = of_image c.args.bytes.now c.in-Err.fault c.refused.result (c.refused.ensures.memory, c.refused.ensures.refused, c.in-Err.ensures.refused)
