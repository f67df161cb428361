-- The first fault of statements, paths aside.
use Rattle.std.specs.Prelude.{◌≡◌, ℕ, ◌-◌, nat_lt, nat_le, not, ◌||◌, is_some, true, false, List, ◌++◌, Option, Some}
use Rattle.iter_syntax.specs.declared.tree.Word.{Word}
use Rattle.iter_syntax.specs.Tree.{Ex, Sts}
use Rattle.iter_syntax.specs.Tree as t
use Rattle.iter_check.specs.declared.kind.CheckKind.TheVariants as k
use Rattle.iter_check.specs.declared.kind.Fault.{Fault}
use Rattle.iter_check.specs.declared.sort.Sort.{Sort}
use Rattle.iter_check.specs.declared.sort.Sort.TheVariants as s
use Rattle.iter_check.specs.declared.scope.Binding.{Binding}
use Rattle.iter_check.specs.Scope.{Scope, Ground, bound, bind}
use Rattle.iter_check.specs.Typing.{differ, is_bool, sort_of}
use Rattle.iter_check.specs.Expressions.{place_of}
use Rattle.iter_check.specs.Scoping.{let_sort, target_sort, is_let, lets}
use Rattle.iter_check.specs.First.Least.{note}
use Rattle.iter_check.specs.First.Expr.{note_deep, first_expr}

abbrev pub first_whole : Ground → Scope → Ex → Option Fault → Option Fault
first_whole g scope e best = first_expr g scope e (note_deep e best)

abbrev pub first_wanted : Ground → Scope → Option Sort → Ex → Option Fault → Option Fault
first_wanted g scope sort e best = note k.Typing (place_of e) (differ sort (sort_of g scope e)) (first_whole g scope e best)

abbrev pub first_let : Ground → Scope → Word → Ex → Option Fault → Option Fault
first_let g scope w e best =
    note k.Typing (place_of e) (is_bool (sort_of g scope e))
    (first_whole g scope e (note k.LocalCount w.place (nat_le 8 (lets scope)) (note k.Name w.place (is_some (bound scope w)) best)))

abbrev pub first_set : Ground → Scope → Word → Ex → Option Fault → Option Fault
first_set g scope w e best = first_wanted g scope (target_sort (bound scope w)) e (note k.Name w.place (not (is_let (bound scope w))) best)

abbrev pub first_store : Ground → Scope → Ex → Ex → Option Fault → Option Fault
first_store g scope target e best = first_wanted g scope (sort_of g scope target) e (first_expr g scope target best)

abbrev pub first_loop : Scope → Word → ℕ → ℕ → Option Fault → Option Fault
first_loop scope w first past best =
    note k.LoopTurns w.place (nat_le past first || nat_lt 64 (past - first)) (note k.Name w.place (is_some (bound scope w)) best)

abbrev pub first_scoping : Ground → Scope → Sts → Option Fault → Option Fault
first_scoping g scope t.end best = best
first_scoping g scope (t.bind p w e rest) best =
    first_scoping g (bind w (let_sort (sort_of g scope e)) true scope) rest (first_let g scope w e best)
first_scoping g scope (t.set p w e rest) best = first_scoping g scope rest (first_set g scope w e best)
first_scoping g scope (t.set_pad p w e rest) best = first_scoping g scope rest (first_store g scope (t.pad_field p w) e best)
first_scoping g scope (t.set_pad_item p w i e rest) best = first_scoping g scope rest (first_store g scope (t.pad_item p w i) e best)
first_scoping g scope (t.set_cur p w e rest) best = first_scoping g scope rest (first_store g scope (t.cur_field p w) e best)
first_scoping g scope (t.set_cur_item p w i e rest) best = first_scoping g scope rest (first_store g scope (t.cur_item p w i) e best)
first_scoping g scope (t.when p c first rest) best =
    first_scoping g scope rest (first_scoping g scope first (first_wanted g scope (Some s.Bool) c best))
first_scoping g scope (t.choose p c first other rest) best =
    first_scoping g scope rest (first_scoping g scope other (first_scoping g scope first (first_wanted g scope (Some s.Bool) c best)))
first_scoping g scope (t.loop p w first past body rest) best =
    first_scoping g scope rest (first_scoping g (bind w (Some s.Int) false scope) body (first_loop scope w first past best))
first_scoping g scope (t.done p rest) best = first_scoping g scope rest best
first_scoping g scope (t.go p e rest) best = first_scoping g scope rest (first_wanted g scope (Some s.Ptr) e best)

-- a scope that has grown by newer names
abbrev pub Grows : Scope → Scope → Type 0
Grows old now = (newer : List Binding) × (now ≡ old ++ newer)

-- what is left to check after some statements gives what these and it give before them
abbrev pub Passes : Ground → Scope → Scope → (Sts → Sts) → Option Fault → Option Fault → Type 0
Passes g old now some best after = (rest : Sts) → first_scoping g old (some rest) best ≡ first_scoping g now rest after
