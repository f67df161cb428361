use Rattle.std.proofs.Common.{◌∙◌, ap, List, ℕ, ◌++◌}
use Rattle.frame_codec.proofs.Frames.{spells_by}
use Rattle.frame_codec.proofs.encoding.encode.Goals as goal

pub returns : goal.returns
returns c = spells_by c.put.new.out.items c.args.frame.now c.header_of.result c.pad_of.result.now c.write.ensures.fits c.header_of.ensures c.pad_of.ensures.bytes c.pad_of.ensures.fits c.requires
    (c.put.ensures ∙ ap (λ (front : List ℕ). front ++ c.pad_of.result.now) c.write.ensures.bytes)
