-- The first entry of the fault list, by its three groups; the list is empty exactly where there is none.
use Rattle.std.proofs.Common.{◌≡◌, ℕ, Bool, true, false, ◌||◌, List, [], ◌∷◌, ◌++◌, Option, Some, None, refl, sym, ap, ◌∙◌, arith, if◌then◌else◌}
use Rattle.std.specs.Prelude.{nat_lt, slice_get}
use Rattle.iter_syntax.specs.declared.tree.Iter.{Iter}
use Rattle.iter_syntax.specs.declared.tree.Program.{Program}
use Rattle.iter_check.specs.declared.kind.Fault.{Fault}
use Rattle.iter_check.specs.declared.kind.CheckKind.TheVariants as k
use Rattle.iter_check.specs.Faults.{fault, in_order}
use Rattle.iter_check.specs.FaultList.{init_nodes, body_nodes, code_faults, first_group, index_faults, or_later, fault_list}
use Rattle.iter_check.specs.First.Least.{each}
use Rattle.iter_check.specs.First.Count.{up_to}
use Rattle.iter_check.specs.First.Decl.{first_iter_indices, too_many_nodes, first_code, or_first, first_fault}
use Rattle.iter_check.proofs.Order.{first_is_least}
use Rattle.iter_check.proofs.First.Keeps.{each_is}
use Rattle.iter_check.proofs.First.Decl.{group_is, iter_indices_is}

first_or : (xs ys : List Fault) → slice_get (or_later xs ys) 0 ≡ or_first (slice_get xs 0) (slice_get ys 0)
first_or [] ys = refl
first_or (x ∷ xs) ys = refl

capped : (n : ℕ) → nat_lt 2000 (up_to n) ≡ nat_lt 2000 n
capped n = grind arith

nodes_are : (it : Iter) → too_many_nodes it ≡ (nat_lt 2000 (init_nodes it) || nat_lt 2000 (body_nodes it))
nodes_are it =
    ap (λ x. x || nat_lt 2000 (up_to (body_nodes it))) (capped (init_nodes it))
    ∙ ap (λ x. nat_lt 2000 (init_nodes it) || x) (capped (body_nodes it))

one_code : (b c : Bool) (it : Iter) (others : List Fault) (later : Option Fault) → b ≡ c → later ≡ slice_get others 0
    → (if b then Some (record { kind = k.Code; place = ((it.name).place).0 }) else later) ≡ slice_get (fault k.Code (it.name).place c ++ others) 0
one_code true true it others later h e = refl
one_code false false it others later h e = e
one_code true false it others later h e = absurd (cc h)
one_code false true it others later h e = absurd (cc h)

code_is : (iters : List Iter) → first_code iters ≡ slice_get (code_faults iters) 0
code_is [] = refl
code_is (it ∷ iters) =
    one_code (too_many_nodes it) (nat_lt 2000 (init_nodes it) || nat_lt 2000 (body_nodes it)) it (code_faults iters) (first_code iters) (nodes_are it) (code_is iters)

pub first_of_all : (p : Program) → first_fault p.records p.iters ≡ slice_get (fault_list p) 0
first_of_all p =
    let group = (group_is p.records p.iters).keeps None ∙ sym (first_is_least (first_group p.records p.iters)) in
    let index = (each_is (iter_indices_is p.records) p.iters).keeps None ∙ sym (first_is_least (index_faults p.records p.iters)) in
    ap (λ x. or_first x (or_first (first_code p.iters) (each (first_iter_indices p.records) p.iters None))) group
    ∙ ap (λ x. or_first (slice_get (in_order (first_group p.records p.iters)) 0) (or_first x (each (first_iter_indices p.records) p.iters None))) (code_is p.iters)
    ∙ ap (λ x. or_first (slice_get (in_order (first_group p.records p.iters)) 0) (or_first (slice_get (code_faults p.iters) 0) x)) index
    ∙ ap (λ x. or_first (slice_get (in_order (first_group p.records p.iters)) 0) x) (sym (first_or (code_faults p.iters) (in_order (index_faults p.records p.iters))))
    ∙ sym (first_or (in_order (first_group p.records p.iters)) (or_later (code_faults p.iters) (in_order (index_faults p.records p.iters))))

none_is_empty : (fs : List Fault) → slice_get fs 0 ≡ None → fs ≡ []
none_is_empty [] h = refl
none_is_empty (f ∷ fs) h = absurd (cc h)

-- a program in which no fault is found is accepted
pub none_is_accepted : (p : Program) → first_fault p.records p.iters ≡ None → fault_list p ≡ []
none_is_accepted p h = none_is_empty (fault_list p) (sym (first_of_all p) ∙ h)
