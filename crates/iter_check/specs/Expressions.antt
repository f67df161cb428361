-- The faults of an expression: its names, its types, and the depth of its indices.
use Rattle.std.specs.Prelude.{ℕ, ◌+◌, max, nat_lt, List, [], ◌++◌, Option, Some, None, is_some, is_none, true}
use Rattle.iter_syntax.specs.declared.tree.Place.{Place}
use Rattle.iter_syntax.specs.declared.tree.Word.{Word}
use Rattle.iter_syntax.specs.declared.tree.FieldDecl.{FieldDecl}
use Rattle.iter_syntax.specs.Tree.{Ex}
use Rattle.iter_syntax.specs.Tree as t
use Rattle.iter_check.specs.declared.kind.CheckKind.TheVariants as k
use Rattle.iter_check.specs.declared.kind.Fault.{Fault}
use Rattle.iter_check.specs.declared.sort.Sort.TheVariants as s
use Rattle.iter_check.specs.Faults.{fault}
use Rattle.iter_check.specs.Scope.{Scope, Ground, bound, declared_field}
use Rattle.iter_check.specs.Typing.{is_not, clash, no_address, in_init, sort_of}

-- the place of an expression is its first token that is not `(`
abbrev pub place_of : Ex → Place
place_of (t.num p n) = p
place_of (t.null p) = p
place_of (t.name w) = w.place
place_of (t.cur p) = p
place_of (t.cur_field p w) = p
place_of (t.cur_item p w i) = p
place_of (t.pad_field p w) = p
place_of (t.pad_item p w i) = p
place_of (t.not p e) = p
place_of (t.flip p e) = p
place_of (t.bin p o a b) = place_of a
place_of (t.at p a b) = p

-- how deep an expression is; an index has a depth of its own
abbrev pub depth : Ex → ℕ
depth (t.not p e) = 1 + depth e
depth (t.flip p e) = 1 + depth e
depth (t.bin p o a b) = 1 + max (depth a) (depth b)
depth (t.at p a b) = 1 + max (depth a) (depth b)
depth e = 1

-- a whole expression of a statement, or an index, is at most 7 deep
abbrev pub too_deep : Ex → List Fault
too_deep e = fault k.Depth (place_of e) (nat_lt 7 (depth e))

-- a field is known, and has an index where it is an array and none where it is not
abbrev pub plain_faults : Option FieldDecl → Word → List Fault
plain_faults None w = fault k.Name w.place true
plain_faults (Some f) w = fault k.Typing w.place (is_some f.len)

abbrev pub item_faults : Option FieldDecl → Word → List Fault
item_faults None w = fault k.Name w.place true
item_faults (Some f) w = fault k.Typing w.place (is_none f.len)

-- names are in scope, fields are known, `cur` does not stand in init, operators and indices have their types
abbrev pub expr_faults : Ground → Scope → Ex → List Fault
expr_faults g scope (t.num p n) = []
expr_faults g scope (t.null p) = []
expr_faults g scope (t.name w) = fault k.Name w.place (is_none (bound scope w))
expr_faults g scope (t.cur p) = fault k.Name p (in_init g.part)
expr_faults g scope (t.cur_field p w) = fault k.Name p (in_init g.part) ++ plain_faults (declared_field g.record_fields w) w
expr_faults g scope (t.cur_item p w i) =
    fault k.Name p (in_init g.part) ++ item_faults (declared_field g.record_fields w) w
    ++ too_deep i ++ expr_faults g scope i ++ fault k.Typing (place_of i) (is_not s.Int (sort_of g scope i))
expr_faults g scope (t.pad_field p w) = plain_faults (declared_field g.pad_fields w) w
expr_faults g scope (t.pad_item p w i) =
    item_faults (declared_field g.pad_fields w) w
    ++ too_deep i ++ expr_faults g scope i ++ fault k.Typing (place_of i) (is_not s.Int (sort_of g scope i))
expr_faults g scope (t.not p e) = expr_faults g scope e ++ fault k.Typing p (is_not s.Bool (sort_of g scope e))
expr_faults g scope (t.flip p e) = expr_faults g scope e ++ fault k.Typing p (is_not s.Int (sort_of g scope e))
expr_faults g scope (t.bin p o a b) =
    expr_faults g scope a ++ expr_faults g scope b ++ fault k.Typing p (clash o (sort_of g scope a) (sort_of g scope b))
expr_faults g scope (t.at p a b) =
    expr_faults g scope a ++ expr_faults g scope b ++ fault k.Typing p (no_address (sort_of g scope a) (sort_of g scope b))
