-- The image of that number means its iterator.
use Rattle.pulse_codegen.proofs.built.Built.image.Goals as goal

pub returns-clause-means : goal.returns-clause-means
returns-clause-means c = c.args.self.now.compiled.each c.args.iter c.get.result.now c.get.ensures
