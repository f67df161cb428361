use Rattle.iter_check.specs.Layout.{size_of}
use Rattle.flat_run.proofs.RegionLaws.{Missed}
use Rattle.flat_run.proofs.next.region_of.Given as goal

abbrev pub invariant-loop-i : goal.invariant-loop-i
invariant-loop-i l = Missed l.regions l.p (size_of l.fields) l.i
