-- Names that come in scope and leave it.
use Rattle.std.proofs.Common.{◌≡◌, ℕ, zero, suc, ◌+◌, ◌<◌, List, [], ◌∷◌, ◌++◌, length, take, drop, get_or, refl, sym, ap, ◌∙◌, arith, append_assoc}
use Rattle.iter_syntax.specs.declared.tree.Place.{Place}
use Rattle.iter_syntax.specs.declared.tree.Word.{Word}
use Rattle.iter_syntax.specs.declared.tree.Stmt.{Stmt}
use Rattle.iter_syntax.specs.Tree.{Ex, Sts, to_pad, to_cur, st, sts}
use Rattle.std.specs.Prelude.{Option, Some, None}
use Rattle.iter_check.specs.declared.kind.Fault.{Fault}
use Rattle.iter_check.specs.declared.kind.CheckKind.TheVariants as k
use Rattle.iter_check.specs.Scope.{Scope, Ground}
use Rattle.iter_check.specs.Typing.{of_cur, in_init}
use Rattle.iter_check.specs.First.Least.{note}
use Rattle.iter_check.specs.First.Expr.{use_sort, first_use}
use Rattle.iter_check.specs.First.Stmt.{first_scoping, first_wanted, Grows}

pub take_front : {A : Type 0} (old back : List A) → take (length old) (old ++ back) ≡ old
take_front [] back = refl
take_front (x ∷ old) back = ap (λ l. x ∷ l) (take_front old back)

-- the names of a block leave with it
pub leave : (old now : Scope) → Grows old now → take (length old) now ≡ old
leave old now h = ap (λ l. take (length old) l) h.1 ∙ take_front old h.0

pub store_pad_is : (g : Ground) (scope : Scope) (p : Place) (w : Word) (o : Option Ex) (e : Ex) (rest : Sts) (best : Option Fault) → first_scoping g scope (to_pad p w o e rest) best ≡ first_scoping g scope rest (first_wanted g scope (use_sort g scope g.pad_fields w o) e (first_use g scope g.pad_fields w o best))
store_pad_is g scope p w None e rest best = refl
store_pad_is g scope p w (Some i) e rest best = refl

pub store_cur_is : (g : Ground) (scope : Scope) (p : Place) (w : Word) (o : Option Ex) (e : Ex) (rest : Sts) (best : Option Fault) → first_scoping g scope (to_cur p w o e rest) best ≡ first_scoping g scope rest (first_wanted g scope (of_cur g.part (use_sort g scope g.record_fields w o)) e (first_use g scope g.record_fields w o (note k.Name p (in_init g.part) best)))
store_cur_is g scope p w None e rest best = refl
store_cur_is g scope p w (Some i) e rest best = refl

-- a scope that grows twice has grown
pub grows_more : (old mid now : Scope) → Grows old mid → Grows mid now → Grows old now
grows_more old mid now a b = (a.0 ++ b.0, b.1 ∙ ap (λ l. l ++ b.0) a.1 ∙ append_assoc old a.0 b.0)

-- the statements from one on are that one and those after it
pub sts_drop : (ss : List Stmt) (i : ℕ) (s : Stmt) → i < length ss → s ≡ get_or ss i s → sts (drop i ss) ≡ st s (sts (drop (i + 1) ss))
sts_drop [] i s h e = absurd (omega arith)
sts_drop (x ∷ ss) zero s h e = ap (λ y. st y (sts ss)) (sym e)
sts_drop (x ∷ ss) (suc i) s h e =
    let z : suc (i + 1) ≡ suc i + 1 = omega arith in
    sts_drop ss i s (omega arith) e ∙ ap (λ k. st s (sts (drop k (x ∷ ss)))) z
