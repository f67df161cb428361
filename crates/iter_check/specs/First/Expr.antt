-- The first fault of an expression.
use Rattle.std.specs.Prelude.{ℕ, zero, suc, Bool, true, false, ◌||◌, is_none, List, Option, Some, None}
use Rattle.iter_syntax.specs.declared.tree.Word.{Word}
use Rattle.iter_syntax.specs.declared.tree.FieldDecl.{FieldDecl}
use Rattle.iter_syntax.specs.Tree.{Ex}
use Rattle.iter_syntax.specs.Tree as t
use Rattle.iter_check.specs.declared.kind.CheckKind.TheVariants as k
use Rattle.iter_check.specs.declared.kind.Fault.{Fault}
use Rattle.iter_check.specs.declared.sort.Sort.{Sort}
use Rattle.iter_check.specs.declared.sort.Sort.TheVariants as s
use Rattle.iter_check.specs.declared.expr.Site.{Site}
use Rattle.iter_check.specs.Scope.{Scope, Ground, bound, declared_field}
use Rattle.iter_check.specs.Typing.{is_not, clash, no_address, in_init, plain_sort, item_sort, sort_of}
use Rattle.iter_check.specs.Expressions.{place_of, plain_faults, item_faults}
use Rattle.iter_check.specs.First.Least.{least, note}

-- where the checker is
abbrev pub ground_of : Site → Ground
ground_of g = record { part = g.part; record_fields = g.record_fields.now; pad_fields = g.pad_fields.now }

-- deeper than so many
abbrev pub deeper : ℕ → Ex → Bool
deeper zero e = true
deeper (suc n) (t.not p e) = deeper n e
deeper (suc n) (t.flip p e) = deeper n e
deeper (suc n) (t.bin p o a b) = deeper n a || deeper n b
deeper (suc n) (t.at p a b) = deeper n a || deeper n b
deeper (suc n) e = false

abbrev pub note_deep : Ex → Option Fault → Option Fault
note_deep e best = note k.Depth (place_of e) (deeper 7 e) best

abbrev pub first_expr : Ground → Scope → Ex → Option Fault → Option Fault
first_expr g scope (t.num p n) best = best
first_expr g scope (t.null p) best = best
first_expr g scope (t.name w) best = note k.Name w.place (is_none (bound scope w)) best
first_expr g scope (t.cur p) best = note k.Name p (in_init g.part) best
first_expr g scope (t.cur_field p w) best = least (note k.Name p (in_init g.part) best) (plain_faults (declared_field g.record_fields w) w)
first_expr g scope (t.cur_item p w i) best =
    note k.Typing (place_of i) (is_not s.Int (sort_of g scope i))
    (first_expr g scope i (note_deep i (least (note k.Name p (in_init g.part) best) (item_faults (declared_field g.record_fields w) w))))
first_expr g scope (t.pad_field p w) best = least best (plain_faults (declared_field g.pad_fields w) w)
first_expr g scope (t.pad_item p w i) best =
    note k.Typing (place_of i) (is_not s.Int (sort_of g scope i))
    (first_expr g scope i (note_deep i (least best (item_faults (declared_field g.pad_fields w) w))))
first_expr g scope (t.not p e) best = note k.Typing p (is_not s.Bool (sort_of g scope e)) (first_expr g scope e best)
first_expr g scope (t.flip p e) best = note k.Typing p (is_not s.Int (sort_of g scope e)) (first_expr g scope e best)
first_expr g scope (t.bin p o a b) best =
    note k.Typing p (clash o (sort_of g scope a) (sort_of g scope b)) (first_expr g scope b (first_expr g scope a best))
first_expr g scope (t.at p a b) best =
    note k.Typing p (no_address (sort_of g scope a) (sort_of g scope b)) (first_expr g scope b (first_expr g scope a best))

-- the type of a field's use, and its first fault
abbrev pub use_sort : Ground → Scope → List FieldDecl → Word → Option Ex → Option Sort
use_sort g scope fields w None = plain_sort (declared_field fields w)
use_sort g scope fields w (Some i) = item_sort (declared_field fields w) (sort_of g scope i)

abbrev pub first_use : Ground → Scope → List FieldDecl → Word → Option Ex → Option Fault → Option Fault
first_use g scope fields w None best = least best (plain_faults (declared_field fields w) w)
first_use g scope fields w (Some i) best =
    note k.Typing (place_of i) (is_not s.Int (sort_of g scope i))
    (first_expr g scope i (note_deep i (least best (item_faults (declared_field fields w) w))))
