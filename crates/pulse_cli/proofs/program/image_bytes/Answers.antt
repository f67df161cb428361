use Rattle.pulse_cli.proofs.Iterators.{spells_iter}
use Rattle.pulse_cli.proofs.program.image_bytes.Goals as goal

pub returns : goal.returns
returns c =
    spells_iter c.in_ok-built.built.checked c.args.checked c.args.number c.image.result.now c.encode.result c.in_ok-built.ensures c.requires.there c.image.ensures.means c.encode.ensures.spells
