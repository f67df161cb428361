use Rattle.std.proofs.Common.{◌≡◌, ◌-◌, length, drop}
use Rattle.iter_check.specs.Layout.{text}
use Rattle.iter_check.specs.Indices.{number_in}
use Rattle.iter_check.proofs.loops.number_in.Given as goal

abbrev pub invariant-around : goal.invariant-around
invariant-around l = number_in (text l.name) l.loops l.turn ≡ number_in (text l.name) (drop l.i l.loops) (drop l.i l.turn)

abbrev pub decreases-around : goal.decreases-around
decreases-around l = length l.loops - l.i
