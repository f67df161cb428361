-- What statements mean, one after another.
use Rattle.std.proofs.Common.{◌≡◌, ℕ, ◌-◌, Bool, true, false, Option, Some, None, refl, sym, subst, ◌∙◌}
use Rattle.iter_syntax.specs.declared.tree.Place.{Place}
use Rattle.iter_syntax.specs.declared.tree.Word.{Word}
use Rattle.iter_syntax.specs.declared.tree.Stmt.{Stmt}
use Rattle.iter_syntax.specs.declared.tree.Stmt.TheOpen as P
use Rattle.iter_syntax.specs.declared.tree.Stmt.TheFolds.{fold_out-Stmt}
use Rattle.iter_syntax.specs.Tree.{Ex, Sts, ex, used, st, st_step, block_step, to_pad, to_cur, branch, end}
use Rattle.iter_check.specs.State.{Setting, State}
use Rattle.iter_check.specs.Value.{word, value_of}
use Rattle.iter_check.specs.Meaning.{Outcome, Falls, Done, Goes, Fault, given, if_writable, then_do, inside, pick, turns, meaning}

pub then_then : (o : Outcome) (f g : State → Outcome) → then_do (then_do o f) g ≡ then_do o (λ s. then_do (f s) g)
then_then (Falls s) f g = refl
then_then (Done s) f g = refl
then_then (Goes p s) f g = refl
then_then (Fault k) f g = refl

pub given_then : (o : Option ℕ) (f : ℕ → Outcome) (g : State → Outcome) → then_do (given o f) g ≡ given o (λ v. then_do (f v) g)
given_then None f g = refl
given_then (Some v) f g = refl

pub given_same : (o : Option ℕ) (f g : ℕ → Outcome) → ((v : ℕ) → f v ≡ g v) → given o f ≡ given o g
given_same None f g h = refl
given_same (Some v) f g h = h v

pub writable_then : (b : Bool) (o : Outcome) (g : State → Outcome) → then_do (if_writable b o) g ≡ if_writable b (then_do o g)
writable_then true o g = refl
writable_then false o g = refl

pad_then : (g : Setting) (p : Place) (w : Word) (i : Option Ex) (e : Ex) (rest : Sts) (s : State) → meaning g (to_pad p w i e rest) s ≡ then_do (meaning g (to_pad p w i e end) s) (meaning g rest)
pad_then g p w None e rest s = sym (given_then (word (value_of g s e)) _ _)
pad_then g p w (Some i) e rest s =
    given_same (word (value_of g s i)) _ _ (λ k. sym (given_then (word (value_of g s e)) _ _)) ∙ sym (given_then (word (value_of g s i)) _ _)

cur_then : (g : Setting) (p : Place) (w : Word) (i : Option Ex) (e : Ex) (rest : Sts) (s : State) → meaning g (to_cur p w i e rest) s ≡ then_do (meaning g (to_cur p w i e end) s) (meaning g rest)
cur_then g p w None e rest s =
    given_same (word (value_of g s e)) _ _ (λ v. sym (writable_then g.writable _ _)) ∙ sym (given_then (word (value_of g s e)) _ _)
cur_then g p w (Some i) e rest s =
    given_same (word (value_of g s i)) _ _ (λ k. given_same (word (value_of g s e)) _ _ (λ v. sym (writable_then g.writable _ _)) ∙ sym (given_then (word (value_of g s e)) _ _))
    ∙ sym (given_then (word (value_of g s i)) _ _)

branch_then : (g : Setting) (p : Place) (c : Ex) (first : Sts) (other : Option Sts) (rest : Sts) (s : State) → meaning g (branch p c first other rest) s ≡ then_do (meaning g (branch p c first other end) s) (meaning g rest)
branch_then g p c first None rest s =
    given_same (word (value_of g s c)) _ _ (λ v. sym (then_then (pick v (inside (meaning g first) s) (Falls s)) _ _)) ∙ sym (given_then (word (value_of g s c)) _ _)
branch_then g p c first (Some other) rest s =
    given_same (word (value_of g s c)) _ _ (λ v. sym (then_then (pick v (inside (meaning g first) s) (inside (meaning g other) s)) _ _)) ∙ sym (given_then (word (value_of g s c)) _ _)

step_then : (g : Setting) (l : P.Stmt-F (Sts → Sts) Sts) (rest : Sts) (s : State) → meaning g (st_step l rest) s ≡ then_do (meaning g (st_step l end) s) (meaning g rest)
step_then g (P.Let p w e) rest s = sym (given_then (word (value_of g s (ex e))) _ _)
step_then g (P.Set p w e) rest s = sym (given_then (word (value_of g s (ex e))) _ _)
step_then g (P.SetPad p u e) rest s = pad_then g p (used u).0 (used u).1 (ex e) rest s
step_then g (P.SetCur p u e) rest s = cur_then g p (used u).0 (used u).1 (ex e) rest s
step_then g (P.If p c first other) rest s = branch_then g p (ex c) first other rest s
step_then g (P.For p w first past body) rest s = sym (then_then (turns w first (past - first) (meaning g body) s) _ _)
step_then g (P.Done p) rest s = refl
step_then g (P.Go p e) rest s = sym (given_then (word (value_of g s (ex e))) _ _)

-- what holds of each layer holds of each statement
pub with_layer : (t : Stmt) (Q : (Sts → Sts) → Type 0) → ((l : P.Stmt-F (Sts → Sts) Sts) → Q (st_step l)) → Q (st t)
with_layer t Q h = subst Q (sym (fold_out-Stmt (Sts → Sts) Sts st_step block_step t)) (h _)

-- a statement before a rest: first the statement, and where it falls through the rest
pub st_then : (g : Setting) (t : Stmt) (rest : Sts) (s : State) → meaning g (st t rest) s ≡ then_do (meaning g (st t end) s) (meaning g rest)
st_then g t rest s =
    with_layer t (λ f. meaning g (f rest) s ≡ then_do (meaning g (f end) s) (meaning g rest)) (λ l. step_then g l rest s)
