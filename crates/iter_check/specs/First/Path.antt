-- The first fault of paths.
use Rattle.std.specs.Prelude.{◌≡◌, Bool, true, false, ◌&&◌, ◌||◌, Option}
use Rattle.iter_syntax.specs.Tree.{Sts}
use Rattle.iter_syntax.specs.Tree as t
use Rattle.iter_check.specs.declared.kind.CheckKind.TheVariants as k
use Rattle.iter_check.specs.declared.kind.Fault.{Fault}
use Rattle.iter_check.specs.declared.sort.Part.{Part}
use Rattle.iter_check.specs.Paths.{ends_after, ends, is_next, is_end}
use Rattle.iter_check.specs.First.Least.{note}

abbrev pub first_paths : Part → Bool → Sts → Option Fault → Option Fault
first_paths b late t.end best = best
first_paths b late (t.bind p w e rest) best = first_paths b late rest (note k.Path p late best)
first_paths b late (t.set p w e rest) best = first_paths b late rest (note k.Path p late best)
first_paths b late (t.set_pad p w e rest) best = first_paths b late rest (note k.Path p late best)
first_paths b late (t.set_pad_item p w i e rest) best = first_paths b late rest (note k.Path p late best)
first_paths b late (t.set_cur p w e rest) best = first_paths b late rest (note k.Path p late best)
first_paths b late (t.set_cur_item p w i e rest) best = first_paths b late rest (note k.Path p late best)
first_paths b late (t.when p c first rest) best = first_paths b late rest (first_paths b false first (note k.Path p late best))
first_paths b late (t.choose p c first other rest) best =
    first_paths b (ends first && ends other || late) rest (first_paths b false other (first_paths b false first (note k.Path p late best)))
first_paths b late (t.loop p w first past body rest) best =
    first_paths b late rest (note k.Path p (ends body) (first_paths b false body (note k.Path p late best)))
first_paths b late (t.done p rest) best = first_paths b true rest (note k.Path p (is_next b) (note k.Path p late best))
first_paths b late (t.go p e rest) best = first_paths b true rest (note k.Path p (is_end b) (note k.Path p late best))

-- what is left of a block after some statements, of which the last one ends or does not
pub record Passed (b : Part) (late last : Bool) (some : Sts → Sts) (before after : Option Fault) : Type 0 where
  pub ends : (old : Bool) (rest : Sts) → ends_after old (some rest) ≡ ends_after last rest
  pub faults : (rest : Sts) → first_paths b late (some rest) before ≡ first_paths b (last || late) rest after
