-- One more image is that of the next iterator.
use Rattle.std.proofs.Common.{◌+◌, [], ◌∷◌, length, sym, ap, ◌∙◌, subst, length-append}
use Rattle.pulse_codegen.specs.Compiled.{CompilesFirst}
use Rattle.pulse_codegen.proofs.Compiles.{one_more}
use Rattle.pulse_codegen.proofs.built.build.Goals as goal

pub iters-preserved : goal.iters-preserved
iters-preserved c =
    let p = c.args.checked in
    let image = c.in_ok-compile.field-0 in
    let so_far = c.iters.invariant in
    let put = c.in_ok-push.ensures.ok in
    let each = one_more p c.iters.images image c.iters.iter so_far.0 so_far.1 c.in_ok-compile.ensures in
    (subst (CompilesFirst p) (sym put) each, ap length put ∙ length-append c.iters.images (image ∷ []) ∙ ap (λ n. n + 1) so_far.1)
