-- The place that the loop passes breaks no rule.
use Rattle.std.proofs.lemmas.Option.{get_or_from_slice_get}
use Rattle.code_verify.proofs.Unbroken.{broken_at-same, unbroken_more}
use Rattle.code_verify.proofs.verifier.verify.Goals as goal

pub places-preserved : goal.places-preserved
places-preserved c =
    let code = c.args.code.now in
    let n = c.places.place in
    unbroken_more c.args.sizes code n
    (λ i stands. broken_at-same c.args.sizes code n i _ _ _ _ c.loaded_window-window.ensures (get_or_from_slice_get code n i _ stands) c.broken.ensures c.in_default.is)
    c.places.invariant
