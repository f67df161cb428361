-- The faults of statements, paths aside: names that are declared again or are no let, types, depths, locals and loop bounds.
use Rattle.std.specs.Prelude.{ℕ, ◌-◌, nat_lt, nat_le, Bool, true, false, not, ◌||◌, List, [], ◌++◌, Option, Some, None, is_some, count_by}
use Rattle.iter_syntax.specs.declared.tree.Word.{Word}
use Rattle.iter_syntax.specs.Tree.{Ex, Sts}
use Rattle.iter_syntax.specs.Tree as t
use Rattle.iter_check.specs.declared.kind.CheckKind.TheVariants as k
use Rattle.iter_check.specs.declared.kind.Fault.{Fault}
use Rattle.iter_check.specs.declared.sort.Sort.{Sort}
use Rattle.iter_check.specs.declared.sort.Sort.TheVariants as s
use Rattle.iter_check.specs.declared.scope.Binding.{Binding}
use Rattle.iter_check.specs.Faults.{fault}
use Rattle.iter_check.specs.Scope.{Scope, Ground, bound, bind}
use Rattle.iter_check.specs.Typing.{differ, is_bool, sort_of}
use Rattle.iter_check.specs.Expressions.{place_of, too_deep, expr_faults}

-- a name that is in scope is not declared again
abbrev pub again : Scope → Word → List Fault
again scope w = fault k.Name w.place (is_some (bound scope w))

-- how many lets are in scope
abbrev pub lets : Scope → ℕ
lets scope = count_by (λ b. b.is_let) scope

-- a let is of int or of ptr; a bool is a fault, and leaves the let with no type
abbrev pub let_sort : Option Sort → Option Sort
let_sort None = None
let_sort (Some s.Int) = Some s.Int
let_sort (Some s.Ptr) = Some s.Ptr
let_sort (Some s.Bool) = None

abbrev pub is_let : Option Binding → Bool
is_let None = false
is_let (Some b) = b.is_let

abbrev pub sort_of_let : Bool → Option Sort → Option Sort
sort_of_let true sort = sort
sort_of_let false sort = None

-- the type of the let that a name is bound to
abbrev pub target_sort : Option Binding → Option Sort
target_sort None = None
target_sort (Some b) = sort_of_let b.is_let b.sort

-- the faults of a whole expression of a statement
abbrev pub whole : Ground → Scope → Ex → List Fault
whole g scope e = too_deep e ++ expr_faults g scope e

-- the same where a type is wanted
abbrev pub wanted : Ground → Scope → Option Sort → Ex → List Fault
wanted g scope sort e = whole g scope e ++ fault k.Typing (place_of e) (differ sort (sort_of g scope e))

-- a store to a field, which is used as in an expression
abbrev pub store : Ground → Scope → Ex → Ex → List Fault
store g scope target e = expr_faults g scope target ++ wanted g scope (sort_of g scope target) e

-- a loop has 1 to 64 turns
abbrev pub turns_faults : Word → ℕ → ℕ → List Fault
turns_faults w first past = fault k.LoopTurns w.place (nat_le past first || nat_lt 64 (past - first))

-- a let is in scope from the next statement to the end of its block, a loop variable in its block
abbrev pub scoping : Ground → Scope → Sts → List Fault
scoping g scope t.end = []
scoping g scope (t.bind p w e rest) =
    again scope w ++ fault k.LocalCount w.place (nat_le 8 (lets scope))
    ++ whole g scope e ++ fault k.Typing (place_of e) (is_bool (sort_of g scope e))
    ++ scoping g (bind w (let_sort (sort_of g scope e)) true scope) rest
scoping g scope (t.set p w e rest) =
    fault k.Name w.place (not (is_let (bound scope w))) ++ wanted g scope (target_sort (bound scope w)) e ++ scoping g scope rest
scoping g scope (t.set_pad p w e rest) = store g scope (t.pad_field p w) e ++ scoping g scope rest
scoping g scope (t.set_pad_item p w i e rest) = store g scope (t.pad_item p w i) e ++ scoping g scope rest
scoping g scope (t.set_cur p w e rest) = store g scope (t.cur_field p w) e ++ scoping g scope rest
scoping g scope (t.set_cur_item p w i e rest) = store g scope (t.cur_item p w i) e ++ scoping g scope rest
scoping g scope (t.when p c first rest) = wanted g scope (Some s.Bool) c ++ scoping g scope first ++ scoping g scope rest
scoping g scope (t.choose p c first other rest) =
    wanted g scope (Some s.Bool) c ++ scoping g scope first ++ scoping g scope other ++ scoping g scope rest
scoping g scope (t.loop p w first past body rest) =
    again scope w ++ turns_faults w first past ++ scoping g (bind w (Some s.Int) false scope) body ++ scoping g scope rest
scoping g scope (t.done p rest) = scoping g scope rest
scoping g scope (t.go p e rest) = wanted g scope (Some s.Ptr) e ++ scoping g scope rest
