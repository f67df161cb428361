-- What an expression and a statement are as plain trees, by their forms.
use Rattle.std.proofs.Common.{rules, ◌≡◌, ℕ, List, [], ◌∷◌, map, refl, sym, ap, ◌∙◌}
use Rattle.iter_syntax.specs.declared.tree.BinaryOp.{BinaryOp}
use Rattle.iter_unroll.specs.declared.tree.FlatExpr.{FlatExpr}
use Rattle.iter_unroll.specs.declared.tree.FlatExpr.TheVariants as V
use Rattle.iter_unroll.specs.declared.tree.FlatExpr.TheOpen as O
use Rattle.iter_unroll.specs.declared.tree.FlatExpr.TheFolds.{fold-roll-FlatExpr}
use Rattle.iter_unroll.specs.declared.tree.FlatUse.{FlatUse}
use Rattle.iter_unroll.specs.declared.tree.FlatStmt.{FlatStmt, the_lemmas}
use Rattle.iter_unroll.specs.declared.tree.FlatStmt.TheVariants as T
use Rattle.iter_unroll.specs.Flat.{Fx, Fs}
use Rattle.iter_unroll.specs.Flat as x
use Rattle.iter_unroll.specs.Tree.{fx, fx_step, row, fst, fsts}

-- each takes the parts as they were looked at, too
pub fx_not : (e of got : FlatExpr) → e ≡ V.Not of → got ≡ of → fx e ≡ x.not (fx got)
fx_not e of got is at = ap fx (is ∙ sym (V.rolls-Not of)) ∙ fold-roll-FlatExpr Fx fx_step (O.Not of) ∙ ap (λ k. x.not (fx k)) (sym at)

pub fx_flip : (e of got : FlatExpr) → e ≡ V.Flip of → got ≡ of → fx e ≡ x.flip (fx got)
fx_flip e of got is at = ap fx (is ∙ sym (V.rolls-Flip of)) ∙ fold-roll-FlatExpr Fx fx_step (O.Flip of) ∙ ap (λ k. x.flip (fx k)) (sym at)

pub fx_binary : (o : BinaryOp) (e a b got got2 : FlatExpr) → e ≡ V.Binary o a b → got ≡ a → got2 ≡ b → fx e ≡ x.bin o (fx got) (fx got2)
fx_binary o e a b got got2 is at at2 =
    ap fx (is ∙ sym (V.rolls-Binary o a b)) ∙ fold-roll-FlatExpr Fx fx_step (O.Binary o a b) ∙ ap (λ k. x.bin o (fx k) (fx b)) (sym at) ∙ ap (λ k. x.bin o (fx got) (fx k)) (sym at2)

pub fx_at : (e a b got got2 : FlatExpr) → e ≡ V.At a b → got ≡ a → got2 ≡ b → fx e ≡ x.at (fx got) (fx got2)
fx_at e a b got got2 is at at2 =
    ap fx (is ∙ sym (V.rolls-At a b)) ∙ fold-roll-FlatExpr Fx fx_step (O.At a b) ∙ ap (λ k. x.at (fx k) (fx b)) (sym at) ∙ ap (λ k. x.at (fx got) (fx k)) (sym at2)

fst_by : (s t : FlatStmt) (h : Fs → Fs) → s ≡ t → ((rest : Fs) → fst t rest ≡ h rest) → (rest : Fs) → fst s rest ≡ h rest
fst_by s t h is at rest = ap (λ u. fst u rest) is ∙ at rest

pub fst_local : (s : FlatStmt) (k : ℕ) (e : FlatExpr) → s ≡ T.Local k e → (rest : Fs) → fst s rest ≡ x.put_slot k (fx e) rest
fst_local s k e is = fst_by s (T.Local k e) (x.put_slot k (fx e)) is (λ rest. search (rules, the_lemmas))

pub fst_pad : (s : FlatStmt) (u : FlatUse) (e : FlatExpr) → s ≡ T.Pad u e → (rest : Fs) → fst s rest ≡ x.put_pad u.off u.width (fx e) rest
fst_pad s u e is = fst_by s (T.Pad u e) (x.put_pad u.off u.width (fx e)) is (λ rest. search (rules, the_lemmas))

pub fst_cur : (s : FlatStmt) (u : FlatUse) (e : FlatExpr) → s ≡ T.Cur u e → (rest : Fs) → fst s rest ≡ x.put_cur u.off u.width (fx e) rest
fst_cur s u e is = fst_by s (T.Cur u e) (x.put_cur u.off u.width (fx e)) is (λ rest. search (rules, the_lemmas))

pub fst_done : (s : FlatStmt) → s ≡ T.Done → (rest : Fs) → fst s rest ≡ x.done rest
fst_done s is = fst_by s T.Done x.done is (λ rest. search (rules, the_lemmas))

pub fst_go : (s : FlatStmt) (e : FlatExpr) → s ≡ T.Go e → (rest : Fs) → fst s rest ≡ x.go (fx e) rest
fst_go s e is = fst_by s (T.Go e) (x.go (fx e)) is (λ rest. search (rules, the_lemmas))

map_row : (ss : List FlatStmt) → row (map fst ss) x.end ≡ fsts ss
map_row [] = refl
map_row (s ∷ ss) = ap (fst s) (map_row ss)

if_rows : (e : FlatExpr) (first other : List FlatStmt) (rest : Fs) → fst (T.If e first other) rest ≡ x.choose (fx e) (row (map fst first) x.end) (row (map fst other) x.end) rest
if_rows e first other rest = search (rules, the_lemmas)

pub fst_if : (s : FlatStmt) (e : FlatExpr) (first other got got2 : List FlatStmt) → s ≡ T.If e first other → got ≡ first → got2 ≡ other → (rest : Fs) → fst s rest ≡ x.choose (fx e) (fsts got) (fsts got2) rest
fst_if s e first other got got2 is at at2 rest =
    ap (λ u. fst u rest) is ∙ if_rows e first other rest ∙ ap (λ l. x.choose (fx e) l (row (map fst other) x.end) rest) (map_row first) ∙ ap (λ l. x.choose (fx e) (fsts first) l rest) (map_row other)
    ∙ ap (λ l. x.choose (fx e) (fsts l) (fsts other) rest) (sym at) ∙ ap (λ l. x.choose (fx e) (fsts got) (fsts l) rest) (sym at2)
