use Rattle.std.proofs.Common.{◌≡◌, take}
use Rattle.pulse_codegen.proofs.built.Built.copy_images.Given as goal

abbrev pub invariant-copies : goal.invariant-copies
invariant-copies l = l.copies ≡ take l.image-index l.fn.self.images
