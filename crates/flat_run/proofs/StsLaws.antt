-- How many statements are left, and the rows and loops that run them.
use Rattle.std.proofs.Common.{arith, ◌≡◌, ℕ, true, false, suc, ◌+◌, ◌-◌, ◌≤◌, ◌<◌, List, [], ◌∷◌, Option, Some, None, length, get_or, drop, replicate, refl, ap, ◌∙◌, sym, add-one, drop-cons}
use Rattle.iter_syntax.specs.declared.tree.Place.{Place}
use Rattle.iter_syntax.specs.declared.tree.Word.{Word}
use Rattle.iter_syntax.specs.declared.tree.Block.{Block}
use Rattle.iter_syntax.specs.declared.tree.Stmt.{Stmt}
use Rattle.iter_syntax.specs.declared.tree.Stmt.TheOpen as P
use Rattle.iter_syntax.specs.Tree as t
use Rattle.iter_syntax.specs.Tree.{Ex, Sts, ex, used, st, sts, block, row, st_step, to_pad, to_cur, branch, end}
use Rattle.iter_syntax.specs.declared.tree.FieldDecl.{FieldDecl}
use Rattle.iter_syntax.specs.declared.tree.Arg.{Arg}
use Rattle.iter_syntax.specs.declared.tree.Iter.{Iter}
use Rattle.iter_check.specs.Layout.{size_of}
use Rattle.iter_check.specs.State.{Names, Setting, State}
use Rattle.iter_check.specs.Iteration.{begun, begin, with_arguments}
use Rattle.std.proofs.lemmas.List.{drop_all}
use Rattle.iter_check.specs.Meaning.{Outcome, Falls, then_do, meaning, turns, declare, within}
use Rattle.iter_check.proofs.MeaningLaws.{with_layer, st_then}
use Rattle.iter_syntax.proofs.FoldLaws.{block_is}
use Rattle.flat_run.specs.declared.value.State as r
use Rattle.flat_run.specs.declared.statements.Ending.{Ending}
use Rattle.flat_run.specs.declared.statements.Ending.TheVariants as ending
use Rattle.flat_run.specs.Views.Interpreter.{state_of, outcome_of, is_falls}

-- how many statements there are
abbrev pub weight : Sts → ℕ
weight t.end = 0
weight (t.bind p w e rest) = suc (weight rest)
weight (t.set p w e rest) = suc (weight rest)
weight (t.set_pad p w e rest) = suc (weight rest)
weight (t.set_pad_item p w i e rest) = suc (weight rest)
weight (t.set_cur p w e rest) = suc (weight rest)
weight (t.set_cur_item p w i e rest) = suc (weight rest)
weight (t.when p c first rest) = suc (weight first + weight rest)
weight (t.choose p c first other rest) = suc (weight first + weight other + weight rest)
weight (t.loop p w first past body rest) = suc (weight body + weight rest)
weight (t.done p rest) = suc (weight rest)
weight (t.go p e rest) = suc (weight rest)

weight_pad : (p : Place) (w : Word) (i : Option Ex) (e : Ex) (rest : Sts) → weight (to_pad p w i e rest) ≡ weight (to_pad p w i e end) + weight rest
weight_pad p w None e rest = omega arith
weight_pad p w (Some i) e rest = omega arith

weight_cur : (p : Place) (w : Word) (i : Option Ex) (e : Ex) (rest : Sts) → weight (to_cur p w i e rest) ≡ weight (to_cur p w i e end) + weight rest
weight_cur p w None e rest = omega arith
weight_cur p w (Some i) e rest = omega arith

weight_branch : (p : Place) (c : Ex) (first : Sts) (other : Option Sts) (rest : Sts) → weight (branch p c first other rest) ≡ weight (branch p c first other end) + weight rest
weight_branch p c first None rest = omega arith
weight_branch p c first (Some other) rest = omega arith

weight_step : (l : P.Stmt-F (Sts → Sts) Sts) (rest : Sts) → weight (st_step l rest) ≡ weight (st_step l end) + weight rest
weight_step (P.Let p w e) rest = omega arith
weight_step (P.Set p w e) rest = omega arith
weight_step (P.SetPad p u e) rest = weight_pad p (used u).0 (used u).1 (ex e) rest
weight_step (P.SetCur p u e) rest = weight_cur p (used u).0 (used u).1 (ex e) rest
weight_step (P.If p c first other) rest = weight_branch p (ex c) first other rest
weight_step (P.For p w first past body) rest = omega arith
weight_step (P.Done p) rest = omega arith
weight_step (P.Go p e) rest = omega arith

-- a statement before a rest
pub weight_st : (s : Stmt) (rest : Sts) → weight (st s rest) ≡ weight (st s end) + weight rest
weight_st s rest = with_layer s (λ f. weight (f rest) ≡ weight (f end) + weight rest) (λ l. weight_step l rest)

-- the statements from a place on: the one there, and the rest
pub sts_drop : (ss : List Stmt) (i : ℕ) (s : Stmt) → i < length ss → s ≡ get_or ss i s → sts (drop i ss) ≡ st s (sts (drop (i + 1) ss))
sts_drop ss i s h e =
    ap sts (drop-cons ss i s h) ∙ ap (λ u. st u (sts (drop (suc i) ss))) (sym e) ∙ ap (λ k. st s (sts (drop k ss))) (sym (add-one i))

row_on : (g : Setting) (ss : List Stmt) (i : ℕ) (s : Stmt) (now : State) (o : Outcome) → i < length ss → s ≡ get_or ss i s → o ≡ meaning g (st s end) now → meaning g (sts (drop i ss)) now ≡ then_do o (meaning g (sts (drop (i + 1) ss)))
row_on g ss i s now o h e q =
    ap (λ u. meaning g u now) (sts_drop ss i s h e) ∙ st_then g s (sts (drop (i + 1) ss)) now ∙ ap (λ p. then_do p (meaning g (sts (drop (i + 1) ss)))) (sym q)

pub stops : (e : Ending) (s : r.State) (f : State → Outcome) → is_falls e ≡ false → then_do (outcome_of e s) f ≡ outcome_of e s
stops ending.Falls s f h = cc
stops ending.Done s f h = refl
stops (ending.Goes p) s f h = refl
stops (ending.Fault k) s f h = refl

pub goes_on : (e : Ending) (s : r.State) (f : State → Outcome) → is_falls e ≡ true → then_do (outcome_of e s) f ≡ f (state_of s)
goes_on ending.Falls s f h = refl
goes_on ending.Done s f h = cc
goes_on (ending.Goes p) s f h = cc
goes_on (ending.Fault k) s f h = cc

pub row_stops : (g : Setting) (ss : List Stmt) (i : ℕ) (s : Stmt) (before now : State) (after : r.State) (e : Ending) → i < length ss → s ≡ get_or ss i s → meaning g (sts ss) before ≡ meaning g (sts (drop i ss)) now → outcome_of e after ≡ meaning g (st s end) now → is_falls e ≡ false → outcome_of e after ≡ meaning g (sts ss) before
row_stops g ss i s before now after e h is same q n = sym (same ∙ row_on g ss i s now (outcome_of e after) h is q ∙ stops e after _ n)

pub row_goes_on : (g : Setting) (ss : List Stmt) (i : ℕ) (s : Stmt) (before now : State) (after : r.State) (e : Ending) → i < length ss → s ≡ get_or ss i s → meaning g (sts ss) before ≡ meaning g (sts (drop i ss)) now → outcome_of e after ≡ meaning g (st s end) now → is_falls e ≡ true → meaning g (sts ss) before ≡ meaning g (sts (drop (i + 1) ss)) (state_of after)
row_goes_on g ss i s before now after e h is same q y = same ∙ row_on g ss i s now (outcome_of e after) h is q ∙ goes_on e after _ y

pub weight_drop : (ss : List Stmt) (i : ℕ) (s : Stmt) → i < length ss → s ≡ get_or ss i s → weight (sts (drop i ss)) ≡ weight (st s end) + weight (sts (drop (i + 1) ss))
weight_drop ss i s h e = ap weight (sts_drop ss i s h e) ∙ weight_st s (sts (drop (i + 1) ss))

-- one turn of a loop, and the others
pub turns_on : (w : Word) (i past : ℕ) (f : State → Outcome) (s : State) → i < past → turns w i (past - i) f s ≡ then_do (within (length s.names) (f (declare w i s))) (turns w (i + 1) (past - (i + 1)) f)
turns_on w i past f s h =
    let e : past - i ≡ suc (past - (i + 1)) = omega arith in
    ap (λ n. turns w i n f s) e

pub turns_over : (w : Word) (i past : ℕ) (f : State → Outcome) (s : State) → past ≤ i → turns w i (past - i) f s ≡ Falls s
turns_over w i past f s h =
    let e : past - i ≡ 0 = omega arith in
    ap (λ n. turns w i n f s) e

pub turn_stops : (w : Word) (first i past : ℕ) (f : State → Outcome) (before now : State) (after : r.State) (e : Ending) → i < past → turns w first (past - first) f before ≡ turns w i (past - i) f now → outcome_of e after ≡ within (length now.names) (f (declare w i now)) → is_falls e ≡ false → outcome_of e after ≡ turns w first (past - first) f before
turn_stops w first i past f before now after e h same q n =
    sym (same ∙ turns_on w i past f now h ∙ ap (λ o. then_do o (turns w (i + 1) (past - (i + 1)) f)) (sym q) ∙ stops e after _ n)

pub turn_goes_on : (w : Word) (first i past : ℕ) (f : State → Outcome) (before now : State) (after : r.State) (e : Ending) → i < past → turns w first (past - first) f before ≡ turns w i (past - i) f now → outcome_of e after ≡ within (length now.names) (f (declare w i now)) → is_falls e ≡ true → turns w first (past - first) f before ≡ turns w (i + 1) (past - (i + 1)) f (state_of after)
turn_goes_on w first i past f before now after e h same q y =
    same ∙ turns_on w i past f now h ∙ ap (λ o. then_do o (turns w (i + 1) (past - (i + 1)) f)) (sym q) ∙ goes_on e after _ y

-- a row in place of its block, and an iteration that ends in its first block, or in its second
pub ended : (g : Setting) (first : Block) (before : State) (after : r.State) (e : Ending) (k : State → Outcome) → outcome_of e after ≡ meaning g (sts first.stmts) before → is_falls e ≡ false → outcome_of e after ≡ then_do (meaning g (block first) before) k
ended g first before after e k q n =
    sym (ap (λ ss. then_do (meaning g ss before) k) (block_is first) ∙ ap (λ o. then_do o k) (sym q) ∙ stops e after k n)

pub went_on : (g : Setting) (first : Block) (before : State) (after : r.State) (e : Ending) (k : State → Outcome) → outcome_of e after ≡ meaning g (sts first.stmts) before → is_falls e ≡ true → then_do (meaning g (block first) before) k ≡ k (state_of after)
went_on g first before after e k q y =
    ap (λ ss. then_do (meaning g ss before) k) (block_is first) ∙ ap (λ o. then_do o k) (sym q) ∙ goes_on e after k y

no_values : (args : List Arg) (names : Names) → with_arguments args [] names ≡ names
no_values [] names = refl
no_values (a ∷ args) names = refl

-- where one of the lists is at its end, there are no arguments left
pub args_over : (args : List Arg) (values : List ℕ) (i : ℕ) (names : Names) → length args ≤ i → with_arguments (drop i args) (drop i values) names ≡ names
args_over args values i names h = ap (λ l. with_arguments l (drop i values) names) (drop_all i args h)

pub values_over : (args : List Arg) (values : List ℕ) (i : ℕ) (names : Names) → length values ≤ i → with_arguments (drop i args) (drop i values) names ≡ names
values_over args values i names h = ap (λ l. with_arguments (drop i args) l names) (drop_all i values h) ∙ no_values (drop i args) names

pub begun_by : (it : Iter) (values : List ℕ) (fields : List FieldDecl) (ss : List Stmt) (bytes pad : List ℕ) (names : Names) (o : Outcome) → o ≡ meaning (record { record_fields = []; pad_fields = fields; cur = 0; writable = true }) (sts ss) (record { record_bytes = bytes; pad = pad; names = names }) → fields ≡ it.pad → ss ≡ it.init_part.stmts → bytes ≡ [] → pad ≡ replicate (size_of it.pad) 0 → names ≡ with_arguments it.args values [] → begun o ≡ begin it values
begun_by it values fields ss bytes pad names o q f b r p n =
    let g = λ (fs : List FieldDecl). let x : Setting = record { record_fields = []; pad_fields = fs; cur = 0; writable = true } in x in
    let s = λ (bs ps : List ℕ) (ns : Names). let x : State = record { record_bytes = bs; pad = ps; names = ns } in x in
    ap begun
    (q ∙ ap (λ fs. meaning (g fs) (sts ss) (s bytes pad names)) f
    ∙ ap (λ l. meaning (g it.pad) (sts l) (s bytes pad names)) b
    ∙ ap (λ l. meaning (g it.pad) l (s bytes pad names)) (sym (block_is it.init_part))
    ∙ ap (λ bs. meaning (g it.pad) (block it.init_part) (s bs pad names)) r
    ∙ ap (λ ps. meaning (g it.pad) (block it.init_part) (s [] ps names)) p
    ∙ ap (λ ns. meaning (g it.pad) (block it.init_part) (s [] (replicate (size_of it.pad) 0) ns)) n)
