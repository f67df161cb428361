use Rattle.std.proofs.Common.{refl}
use Rattle.shape_build.proofs.Below.{begins, goes_on_by_two}
use Rattle.shape_build.proofs.buckets_document.put_heads.Goals as goal

pub heads-init : goal.heads-init
heads-init c = begins _ _

pub heads-preserved : goal.heads-preserved
heads-preserved c = goes_on_by_two _ _ _ _ _ _ _ _ c.heads.invariant c.in_ok-put_before.ensures c.in_ok-put_record.ensures refl
