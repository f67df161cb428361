-- What the checker keeps of statements, paths aside, is the first of their faults.
use Rattle.std.proofs.Common.{true, false, not, Option, Some}
use Rattle.std.specs.Prelude.{nat_le}
use Rattle.iter_syntax.specs.Tree.{Ex, Sts}
use Rattle.iter_syntax.specs.Tree as t
use Rattle.iter_check.specs.declared.sort.Sort.{Sort}
use Rattle.iter_check.specs.declared.sort.Sort.TheVariants as s
use Rattle.iter_check.specs.declared.kind.CheckKind.TheVariants as k
use Rattle.iter_check.specs.Faults.{fault}
use Rattle.iter_check.specs.Scope.{Scope, Ground, bound, bind}
use Rattle.iter_check.specs.Typing.{differ, is_bool, sort_of}
use Rattle.iter_check.specs.Expressions.{place_of}
use Rattle.iter_check.specs.Scoping.{let_sort, target_sort, is_let, lets, again, whole, wanted, store, turns_faults, scoping}
use Rattle.iter_check.specs.First.Stmt.{first_whole, first_wanted, first_store, first_scoping}
use Rattle.iter_check.proofs.First.Keeps.{Firsts, nothing, listed, next}
use Rattle.iter_check.proofs.First.Expr.{deep, first_expr_is}

whole_is : (g : Ground) (scope : Scope) (e : Ex) → Firsts (first_whole g scope e) (whole g scope e)
whole_is g scope e = next (deep e) (first_expr_is g scope e)

wanted_is : (g : Ground) (scope : Scope) (sort : Option Sort) (e : Ex) → Firsts (first_wanted g scope sort e) (wanted g scope sort e)
wanted_is g scope sort e = next (whole_is g scope e) (listed (fault k.Typing (place_of e) (differ sort (sort_of g scope e))))

store_is : (g : Ground) (scope : Scope) (target e : Ex) → Firsts (first_store g scope target e) (store g scope target e)
store_is g scope target e = next (first_expr_is g scope target) (wanted_is g scope (sort_of g scope target) e)

pub first_scoping_is : (g : Ground) (scope : Scope) (ss : Sts) → Firsts (first_scoping g scope ss) (scoping g scope ss)
first_scoping_is g scope t.end = nothing
first_scoping_is g scope (t.bind p w e rest) =
    next
    (next (next (next (listed (again scope w)) (listed (fault k.LocalCount w.place (nat_le 8 (lets scope))))) (whole_is g scope e))
    (listed (fault k.Typing (place_of e) (is_bool (sort_of g scope e)))))
    (first_scoping_is g (bind w (let_sort (sort_of g scope e)) true scope) rest)
first_scoping_is g scope (t.set p w e rest) =
    next (next (listed (fault k.Name w.place (not (is_let (bound scope w))))) (wanted_is g scope (target_sort (bound scope w)) e)) (first_scoping_is g scope rest)
first_scoping_is g scope (t.set_pad p w e rest) = next (store_is g scope (t.pad_field p w) e) (first_scoping_is g scope rest)
first_scoping_is g scope (t.set_pad_item p w i e rest) = next (store_is g scope (t.pad_item p w i) e) (first_scoping_is g scope rest)
first_scoping_is g scope (t.set_cur p w e rest) = next (store_is g scope (t.cur_field p w) e) (first_scoping_is g scope rest)
first_scoping_is g scope (t.set_cur_item p w i e rest) = next (store_is g scope (t.cur_item p w i) e) (first_scoping_is g scope rest)
first_scoping_is g scope (t.when p c first rest) =
    next (next (wanted_is g scope (Some s.Bool) c) (first_scoping_is g scope first)) (first_scoping_is g scope rest)
first_scoping_is g scope (t.choose p c first other rest) =
    next (next (next (wanted_is g scope (Some s.Bool) c) (first_scoping_is g scope first)) (first_scoping_is g scope other)) (first_scoping_is g scope rest)
first_scoping_is g scope (t.loop p w first past body rest) =
    next
    (next (next (listed (again scope w)) (listed (turns_faults w first past)))
    (first_scoping_is g (bind w (Some s.Int) false scope) body))
    (first_scoping_is g scope rest)
first_scoping_is g scope (t.done p rest) = first_scoping_is g scope rest
first_scoping_is g scope (t.go p e rest) = next (wanted_is g scope (Some s.Ptr) e) (first_scoping_is g scope rest)
