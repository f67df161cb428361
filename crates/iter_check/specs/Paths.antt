-- Which blocks end, and the faults of paths.
use Rattle.std.specs.Prelude.{Bool, true, false, not, ◌&&◌, ◌||◌, List, [], ◌++◌}
use Rattle.iter_syntax.specs.declared.tree.Place.{Place}
use Rattle.iter_syntax.specs.Tree.{Sts}
use Rattle.iter_syntax.specs.Tree as t
use Rattle.iter_check.specs.declared.kind.CheckKind.TheVariants as k
use Rattle.iter_check.specs.declared.kind.Fault.{Fault}
use Rattle.iter_check.specs.declared.sort.Part.{Part}
use Rattle.iter_check.specs.declared.sort.Part.TheVariants as part
use Rattle.iter_check.specs.Faults.{fault}

-- the last of some statements ends, where `last` says whether the statement before them does; `done` and `go` end,
-- and an `if` with an `else` both of whose blocks end
abbrev pub ends_after : Bool → Sts → Bool
ends_after last t.end = last
ends_after last (t.bind p w e rest) = ends_after false rest
ends_after last (t.set p w e rest) = ends_after false rest
ends_after last (t.set_pad p w e rest) = ends_after false rest
ends_after last (t.set_pad_item p w i e rest) = ends_after false rest
ends_after last (t.set_cur p w e rest) = ends_after false rest
ends_after last (t.set_cur_item p w i e rest) = ends_after false rest
ends_after last (t.when p c first rest) = ends_after false rest
ends_after last (t.choose p c first other rest) = ends_after (ends_after false first && ends_after false other) rest
ends_after last (t.loop p w first past body rest) = ends_after false rest
ends_after last (t.done p rest) = ends_after true rest
ends_after last (t.go p e rest) = ends_after true rest

-- a block ends where its last statement ends
abbrev pub ends : Sts → Bool
ends ss = ends_after false ss

abbrev pub is_next : Part → Bool
is_next part.Next = true
is_next part.Init = false
is_next part.End = false

abbrev pub is_end : Part → Bool
is_end part.End = true
is_end part.Init = false
is_end part.Next = false

-- nothing stands after a statement that ends (`late` says that one of those before does), no block of a `for` ends,
-- `done` does not stand in next, and `go` does not stand in end
abbrev pub paths : Part → Bool → Sts → List Fault
paths b late t.end = []
paths b late (t.bind p w e rest) = fault k.Path p late ++ paths b late rest
paths b late (t.set p w e rest) = fault k.Path p late ++ paths b late rest
paths b late (t.set_pad p w e rest) = fault k.Path p late ++ paths b late rest
paths b late (t.set_pad_item p w i e rest) = fault k.Path p late ++ paths b late rest
paths b late (t.set_cur p w e rest) = fault k.Path p late ++ paths b late rest
paths b late (t.set_cur_item p w i e rest) = fault k.Path p late ++ paths b late rest
paths b late (t.when p c first rest) = fault k.Path p late ++ paths b false first ++ paths b late rest
paths b late (t.choose p c first other rest) =
    fault k.Path p late ++ paths b false first ++ paths b false other ++ paths b (ends first && ends other || late) rest
paths b late (t.loop p w first past body rest) =
    fault k.Path p late ++ paths b false body ++ fault k.Path p (ends body) ++ paths b late rest
paths b late (t.done p rest) = fault k.Path p late ++ fault k.Path p (is_next b) ++ paths b true rest
paths b late (t.go p e rest) = fault k.Path p late ++ fault k.Path p (is_end b) ++ paths b true rest

-- a block that must end does
abbrev pub open_end : Sts → Place → List Fault
open_end ss close = fault k.Path close (not (ends ss))
