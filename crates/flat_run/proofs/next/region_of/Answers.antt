use Rattle.std.proofs.Common.{sym, ◌∙◌}
use Rattle.iter_check.specs.Layout.{size_of}
use Rattle.flat_run.proofs.RegionLaws.{missed_one, held_here}
use Rattle.flat_run.proofs.next.region_of.Goals as goal

pub returns-then-holds-clause-at : goal.returns-then-holds-clause-at
returns-then-holds-clause-at c =
    held_here c.args.regions.now c.args.p (size_of c.args.fields.now) c.loop-i.i c.index-regions-i.result c.loop-i-test.true c.index-regions-i.is (sym c.holds.ensures ∙ c.if-holds.true) c.loop-i.invariant

pub loop-i-preserved : goal.loop-i-preserved
loop-i-preserved c =
    missed_one c.args.regions.now c.args.p (size_of c.args.fields.now) c.loop-i.i c.index-regions-i.result c.loop-i-test.true c.index-regions-i.is (sym c.holds.ensures ∙ c.if-holds.false) c.loop-i.invariant
