-- The image of straight code that stands for code that means the iterator means it, too.
use Rattle.std.proofs.Common.{◌≡◌, subst}
use Rattle.std.specs.Prelude.{IfOk}
use Rattle.std.proofs.lemmas.Result.{IfOk-weaker}
use Rattle.iter_check.specs.FaultList.{record_fields}
use Rattle.iter_unroll.specs.Unrolled.{HasSizes, Iterates, Begins}
use Rattle.iter_unroll.specs.Uses.{flat_uses, iter_uses}
use Rattle.pulse_codegen.specs.Compiled.{Compiles}
use Rattle.pulse_codegen.specs.Flat.{Fits, IsImageOfFlat}
use Rattle.pulse_codegen.proofs.Compiles.{fits_too, hoisted_means}
use Rattle.pulse_codegen.proofs.built.compile.Goals as goal

pub span-off-requires : goal.span-off-requires
span-off-requires c =
    let straight = c.in_ok-straight.straight in
    let fits : Fits straight = record { small = c.in_ok-straight.ensures.small; keeps = c.in_ok-straight.ensures.keeps; few = c.in_ok-straight.ensures.nodes; inside = c.in_ok-straight.ensures.inside } in
    record { inside = (fits_too straight c.in_ok-flat.flat c.in_ok-flat.ensures fits).inside }

pub image_of-requires-clause-fits : goal.image_of-requires-clause-fits
image_of-requires-clause-fits c =
    let straight = c.in_ok-straight.straight in
    let fits : Fits straight = record { small = c.in_ok-straight.ensures.small; keeps = c.in_ok-straight.ensures.keeps; few = c.in_ok-straight.ensures.nodes; inside = c.in_ok-straight.ensures.inside } in
    fits_too straight c.in_ok-flat.flat c.in_ok-flat.ensures fits

pub returns : goal.returns
returns c =
    let p = c.args.checked.now in
    let straight = c.in_ok-straight.straight in
    let flat = c.in_ok-flat.flat in
    let fits : Fits straight = record { small = c.in_ok-straight.ensures.small; keeps = c.in_ok-straight.ensures.keeps; few = c.in_ok-straight.ensures.nodes; inside = c.in_ok-straight.ensures.inside } in
    IfOk-weaker c.image_of.result (IsImageOfFlat flat) (Compiles p c.args.iter)
    (λ image m it e.
    let fields = record_fields p.records it in
    hoisted_means p it straight flat image c.in_ok-flat.ensures fits m
    (subst (λ r. IfOk r (HasSizes fields it)) c.in_ok-straight.was (c.unroll.ensures.sizes it e))
    (subst (λ r. IfOk r (Iterates fields it)) c.in_ok-straight.was (c.unroll.ensures.iterations it e))
    (subst (λ r. IfOk r (Begins fields it)) c.in_ok-straight.was (c.unroll.ensures.starts it e))
    (subst (λ r. IfOk r (λ f. flat_uses f ≡ iter_uses fields it)) c.in_ok-straight.was (c.unroll.ensures.uses it e)))
    c.image_of.ensures
