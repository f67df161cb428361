-- One more step along a list.
use Rattle.std.proofs.Common.{◌≡◌, ℕ, suc, ◌+◌, ◌<◌, Bool, true, false, List, ◌∷◌, length, drop, get_or, Option, Some, sym, ap, ◌∙◌, arith, drop-cons, if◌then◌else◌}
use Rattle.iter_syntax.specs.declared.tree.Arg.{Arg}
use Rattle.iter_syntax.specs.declared.tree.Iter.{Iter}
use Rattle.iter_check.specs.declared.kind.Fault.{Fault}
use Rattle.iter_check.specs.declared.kind.CheckKind.TheVariants as k
use Rattle.iter_check.specs.Scope.{Scope, bind}
use Rattle.iter_check.specs.FaultList.{arg_sort, with_args}
use Rattle.iter_check.specs.First.Least.{each}
use Rattle.iter_check.specs.First.Decl.{too_many_nodes, first_code}

-- what is left from a place on is the item there and what is left behind it
pub here : {A : Type 0} (xs : List A) (i : ℕ) (x : A) → i < length xs → x ≡ get_or xs i x → drop i xs ≡ x ∷ drop (i + 1) xs
here xs i x h e =
    let z : suc i ≡ i + 1 = omega arith in
    drop-cons xs i x h ∙ ap (λ y. y ∷ drop (suc i) xs) (sym e) ∙ ap (λ n. x ∷ drop n xs) z

pub each_step : {A : Type 0} (f : A → Option Fault → Option Fault) (xs : List A) (i : ℕ) (x : A) (best : Option Fault) → i < length xs → x ≡ get_or xs i x
    → each f (drop i xs) best ≡ each f (drop (i + 1) xs) (f x best)
each_step f xs i x best h e = ap (λ l. each f l best) (here xs i x h e)

pub args_step : (args : List Arg) (i : ℕ) (a : Arg) (scope : Scope) → i < length args → a ≡ get_or args i a
    → with_args (drop i args) scope ≡ with_args (drop (i + 1) args) (bind a.name (Some (arg_sort a)) false scope)
args_step args i a scope h e = ap (λ l. with_args l scope) (here args i a h e)

choice : {A : Type 0} (b c : Bool) (x y : A) → b ≡ c → (if b then x else y) ≡ (if c then x else y)
choice b c x y h = ap (λ d. if d then x else y) h

abbrev fault_of : Iter → Option Fault
fault_of it = Some (record { kind = k.Code; place = ((it.name).place).0 })

pub code_step : (iters : List Iter) (i : ℕ) (it : Iter) → i < length iters → it ≡ get_or iters i it → too_many_nodes it ≡ false
    → first_code (drop i iters) ≡ first_code (drop (i + 1) iters)
code_step iters i it h e q = ap first_code (here iters i it h e) ∙ choice (too_many_nodes it) false (fault_of it) (first_code (drop (i + 1) iters)) q

pub code_found : (iters : List Iter) (i : ℕ) (it : Iter) → i < length iters → it ≡ get_or iters i it → too_many_nodes it ≡ true
    → first_code (drop i iters) ≡ fault_of it
code_found iters i it h e q = ap first_code (here iters i it h e) ∙ choice (too_many_nodes it) true (fault_of it) (first_code (drop (i + 1) iters)) q
