-- Numbers of loop variables, and turns one after the other.
use Rattle.std.proofs.Common.{◌≡◌, ℕ, suc, ◌+◌, ◌-◌, ◌<◌, ◌≤◌, Bool, true, false, ◌||◌, List, [], ◌∷◌, ◌++◌, length, take, drop, get_or, Option, Some, None, refl, sym, ap, ◌∙◌, arith, length-append, if◌then◌else◌}
use Rattle.std.specs.Prelude.{bytes_eq}
use Rattle.std.proofs.Common.{drop-cons}
use Rattle.std.proofs.lemmas.List.{drop_all}
use Rattle.iter_syntax.specs.declared.tree.Place.{Place}
use Rattle.iter_syntax.specs.declared.tree.Word.{Word}
use Rattle.iter_syntax.specs.Tree.{Ex, Sts, to_pad, to_cur}
use Rattle.iter_check.specs.declared.kind.Fault.{Fault}
use Rattle.iter_check.specs.Scope.{Ground}
use Rattle.iter_check.specs.First.Index.{first_expr_index, first_use_index, first_indices}
use Rattle.iter_check.specs.declared.loops.Loop.{Loop}
use Rattle.iter_check.specs.Indices.{number_in, for_some, in_some_turn}

skip : {A : Type 0} (b : Bool) (x y : A) → b ≡ false → (if b then x else y) ≡ y
skip true x y h = cc
skip false x y h = refl

pub number_step : (name : List ℕ) (loops : List Loop) (turn : List ℕ) (i : ℕ) (l : Loop) → i < length loops → i < length turn → l ≡ get_or loops i l → bytes_eq l.text name ≡ false → number_in name (drop i loops) (drop i turn) ≡ number_in name (drop (i + 1) loops) (drop (i + 1) turn)
number_step name loops turn i l h k e q =
    let z : suc i ≡ i + 1 = omega arith in
    ap (λ ls. number_in name ls (drop i turn)) (drop-cons loops i l h)
    ∙ ap (λ ns. number_in name (get_or loops i l ∷ drop (suc i) loops) ns) (drop-cons turn i 0 k)
    ∙ ap (λ x. number_in name (x ∷ drop (suc i) loops) (get_or turn i 0 ∷ drop (suc i) turn)) (sym e)
    ∙ skip (bytes_eq l.text name) (Some (get_or turn i 0)) (number_in name (drop (suc i) loops) (drop (suc i) turn)) q
    ∙ ap (λ n. number_in name (drop n loops) (drop n turn)) z

none : (name : List ℕ) (loops : List Loop) → number_in name loops [] ≡ None
none name [] = refl
none name (l ∷ loops) = refl

pub number_done : (name : List ℕ) (loops : List Loop) (turn : List ℕ) (i : ℕ) → length turn ≤ i → number_in name (drop i loops) (drop i turn) ≡ None
number_done name loops turn i h = ap (λ ns. number_in name (drop i loops) ns) (drop_all i turn h) ∙ none name (drop i loops)

pub for_step : (holds : ℕ → Bool) (i past : ℕ) → i < past → holds i ≡ false → for_some i (past - i) holds ≡ for_some (i + 1) (past - (i + 1)) holds
for_step holds i past h q =
    let e : past - i ≡ suc (past - (i + 1)) = omega arith in
    let z : suc i ≡ i + 1 = omega arith in
    ap (λ n. for_some i n holds) e ∙ ap (λ b. b || for_some (suc i) (past - (i + 1)) holds) q ∙ ap (λ n. for_some n (past - (i + 1)) holds) z

pub turn_is : (loops : List Loop) (old now pushed : List ℕ) (i : ℕ) (holds : List ℕ → Bool) → now ≡ old → pushed ≡ now ++ i ∷ [] → in_some_turn (drop (length pushed) loops) pushed holds ≡ in_some_turn (drop (length old + 1) loops) (old ++ i ∷ []) holds
turn_is loops old now pushed i holds h q =
    ap (λ p. in_some_turn (drop (length p) loops) p holds) (q ∙ ap (λ l. l ++ i ∷ []) h)
    ∙ ap (λ n. in_some_turn (drop n loops) (old ++ i ∷ []) holds) (length-append old (i ∷ []))

pub back : {A : Type 0} (old now : List A) (i : A) → now ≡ old ++ i ∷ [] → take (length old) now ≡ old
back {A} old now i h = ap (λ l. take (length old) l) h ∙ front old
  where
    front : (xs : List A) → take (length xs) (xs ++ i ∷ []) ≡ xs
    front [] = refl
    front (x ∷ xs) = ap (λ l. x ∷ l) (front xs)

pub pad_index_is : (g : Ground) (loops : List Loop) (p : Place) (w : Word) (o : Option Ex) (e : Ex) (rest : Sts) (best : Option Fault) → first_indices g loops (to_pad p w o e rest) best ≡ first_indices g loops rest (first_expr_index g loops e (first_use_index g g.pad_fields loops w o best))
pad_index_is g loops p w None e rest best = refl
pad_index_is g loops p w (Some i) e rest best = refl

pub cur_index_is : (g : Ground) (loops : List Loop) (p : Place) (w : Word) (o : Option Ex) (e : Ex) (rest : Sts) (best : Option Fault) → first_indices g loops (to_cur p w o e rest) best ≡ first_indices g loops rest (first_expr_index g loops e (first_use_index g g.record_fields loops w o best))
cur_index_is g loops p w None e rest best = refl
cur_index_is g loops p w (Some i) e rest best = refl
