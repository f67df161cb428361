use Rattle.std.proofs.Common.{◌≡◌, ◌+◌, drop}
use Rattle.iter_check.specs.Layout.{text}
use Rattle.iter_check.specs.Views.NamesView.{place_in}
use Rattle.iter_check.proofs.names.place.Given as goal

abbrev pub invariant-loop-i : goal.invariant-loop-i
invariant-loop-i l = place_in (text l.word) l.names ≡ l.i + place_in (text l.word) (drop l.i l.names)
