-- Names that stand again, one after the other.
use Rattle.std.proofs.Common.{◌≡◌, ℕ, zero, suc, ◌+◌, ◌<◌, List, [], ◌∷◌, ◌++◌, length, take, drop, get_or, Option, sym, ap, ◌∙◌, arith, drop-cons}
use Rattle.iter_syntax.specs.declared.tree.Word.{Word}
use Rattle.iter_check.specs.declared.kind.Fault.{Fault}
use Rattle.iter_check.specs.declared.kind.CheckKind.TheVariants as k
use Rattle.iter_check.specs.FaultList.{names_one, twice}
use Rattle.iter_check.specs.Faults.{fault}
use Rattle.iter_check.specs.First.Least.{note}
use Rattle.iter_check.specs.First.Decl.{first_twice}
use Rattle.iter_check.proofs.First.Keeps.{Firsts, nothing, listed, next}

pub first_twice_is : {A : Type 0} (name : A → Word) (earlier xs : List A) → Firsts (first_twice name earlier xs) (twice name earlier xs)
first_twice_is name earlier [] = nothing
first_twice_is name earlier (x ∷ xs) = next (listed (fault k.Name (name x).place (names_one name earlier (name x)))) (first_twice_is name (earlier ++ x ∷ []) xs)

take_more : {A : Type 0} (xs : List A) (i : ℕ) (x : A) → i < length xs → x ≡ get_or xs i x → take i xs ++ x ∷ [] ≡ take (i + 1) xs
take_more [] i x h e = absurd (omega arith)
take_more (y ∷ xs) zero x h e = ap (λ z. z ∷ []) e
take_more (y ∷ xs) (suc i) x h e =
    let z : suc (i + 1) ≡ suc i + 1 = omega arith in
    ap (λ l. y ∷ l) (take_more xs i x (omega arith) e) ∙ ap (λ n. take n (y ∷ xs)) z

pub twice_step : {A : Type 0} (name : A → Word) (xs : List A) (i : ℕ) (x : A) (best : Option Fault) → i < length xs → x ≡ get_or xs i x
    → first_twice name (take i xs) (drop i xs) best ≡ first_twice name (take (i + 1) xs) (drop (i + 1) xs) (note k.Name (name x).place (names_one name (take i xs) (name x)) best)
twice_step name xs i x best h e =
    let z : suc i ≡ i + 1 = omega arith in
    ap (λ l. first_twice name (take i xs) l best) (drop-cons xs i x h)
    ∙ ap (λ y. first_twice name (take i xs) (y ∷ drop (suc i) xs) best) (sym e)
    ∙ ap (λ l. first_twice name l (drop (suc i) xs) (note k.Name (name x).place (names_one name (take i xs) (name x)) best)) (take_more xs i x h e)
    ∙ ap (λ n. first_twice name (take (i + 1) xs) (drop n xs) (note k.Name (name x).place (names_one name (take i xs) (name x)) best)) z
