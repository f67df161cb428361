use Rattle.std.proofs.Common.{refl, arith}
use Rattle.shape_build.specs.Tree.{group_rows}
use Rattle.shape_build.proofs.Below.{begins, goes_on_by_two, ends}
use Rattle.shape_build.proofs.tree.put_groups.Goals as goal

pub groups-init : goal.groups-init
groups-init c = begins _ _

pub groups-preserved : goal.groups-preserved
groups-preserved c = goes_on_by_two _ _ _ _ _ _ _ _ c.groups.invariant c.in_ok-put_before.ensures c.in_ok-put_group.ensures refl

pub returns : goal.returns
unfolding group_rows
returns c = ends _ _ _ _ _ c.groups.invariant (omega arith)
