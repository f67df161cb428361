use Rattle.std.proofs.Common.{◌≡◌, ◌-◌, length, drop}
use Rattle.iter_check.specs.Views.NamesView.{names_view}
use Rattle.iter_check.proofs.names.Names.keep_oldest.Given as goal

abbrev pub invariant-shed : goal.invariant-shed
invariant-shed l = drop (length l.self-inside.names.items - l.len) (names_view l.self-inside) ≡ drop (length l.fn.self - l.len) l.fn.self

abbrev pub decreases-shed : goal.decreases-shed
decreases-shed l = length l.self-inside.names.items
