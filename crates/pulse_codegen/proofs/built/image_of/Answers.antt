-- Both segments keep the verifier's rules.
use Rattle.std.proofs.Common.{◌*◌, true, false, sym, subst}
use Rattle.code_verify.specs.Rules.{Verified}
use Rattle.iter_unroll.specs.Tree.{fsts}
use Rattle.flat_code.proofs.Segments.{init_verified, body_verified}
use Rattle.pulse_codegen.proofs.Compiles.{init_is, body_is}
use Rattle.pulse_codegen.proofs.built.image_of.Goals as goal

pub new-requires-clause-init_verified : goal.new-requires-clause-init_verified
new-requires-clause-init_verified c =
    let f = c.args.flat.now in
    subst (Verified (record { init = true; window = 8 * f.args; pad = f.pad_size })) (sym c.in_ok-init_code.ensures) (init_verified f.args f.pad_size (fsts f.init_part) (init_is f c.requires.fits))

pub new-requires-clause-body_verified : goal.new-requires-clause-body_verified
new-requires-clause-body_verified c =
    let f = c.args.flat.now in
    subst (Verified (record { init = false; window = f.record_size; pad = f.pad_size })) (sym c.in_ok-body_code.ensures)
    (body_verified f.record_size f.pad_size c.args.off c.args.len (fsts f.end_part) (fsts f.next_part) (body_is f (c.args.off, c.args.len) c.requires.fits c.requires.least))
