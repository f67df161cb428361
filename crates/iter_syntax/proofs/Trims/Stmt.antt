-- The printed tokens of what tokens are a whole statement or block of are these tokens without some parentheses.
use Rattle.std.proofs.Common.{◌≡◌, ℕ, zero, suc, List, [], ◌∷◌, ◌++◌, Option, Some, None, option_map, flat_map, append_assoc, append-nil, refl, sym, ap, ◌∙◌, subst}
use Rattle.iter_syntax.specs.declared.token.TokenKind.TheVariants as K
use Rattle.iter_syntax.specs.Names.{Keyword, Place, Word, Expr, Block, Stmt}
use Rattle.iter_syntax.specs.declared.token.Keyword.TheVariants as W
use Rattle.iter_syntax.specs.declared.token.Symbol.TheVariants as S
use Rattle.iter_syntax.specs.declared.tree.Stmt.TheOpen as O
use Rattle.iter_syntax.specs.declared.tree.Stmt.TheFolds.{fold_out-Stmt}
use Rattle.iter_syntax.specs.Tree.{Ex, Sts, end, to_pad, to_cur, branch, ex, used, st, sts, block, st_step, block_step}
use Rattle.iter_syntax.specs.Form.{Form, both}
use Rattle.iter_syntax.specs.Productions as P
use Rattle.iter_syntax.specs.Printed.{Kinds, key, sym as kind, word, gets, item, braces, expr_kinds, stmt_kinds, block_kinds}
use Rattle.iter_syntax.specs.Steps.Printing.{or_none, use_kinds, given}
use Rattle.iter_syntax.proofs.Trims.Scan.{closed_brace}
use Rattle.iter_syntax.proofs.FoldLaws.{st_let, st_set, st_set_pad, st_set_cur, st_if, st_for, st_done, st_go, block_is}
use Rattle.iter_syntax.proofs.Trims.Pieces.{AllPrint, prints_pair, prints_value, prints_either, prints_optional, prints_many, prints_keyword, prints_symbol, prints_word, prints_number, before_last, prints_enclosed}
use Rattle.iter_syntax.proofs.Trims.Expr.{prints_use, expr_prints}

-- ---- a statement before a rest

put : (ks rest : Kinds) → ks ++ rest ≡ (ks ++ []) ++ rest
put ks rest = ap (λ l. l ++ rest) (sym (append-nil ks))

pad_before : (p : Place) (w : Word) (i : Option Ex) (e : Ex) (rest : Sts) → stmt_kinds (to_pad p w i e rest) ≡ stmt_kinds (to_pad p w i e end) ++ stmt_kinds rest
pad_before p w None e rest = put (gets (key W.Pad ∷ kind S.Dot ∷ word w ∷ []) e) (stmt_kinds rest)
pad_before p w (Some i) e rest = put (gets (key W.Pad ∷ kind S.Dot ∷ item w i) e) (stmt_kinds rest)

cur_before : (p : Place) (w : Word) (i : Option Ex) (e : Ex) (rest : Sts) → stmt_kinds (to_cur p w i e rest) ≡ stmt_kinds (to_cur p w i e end) ++ stmt_kinds rest
cur_before p w None e rest = put (gets (key W.Cur ∷ kind S.Dot ∷ word w ∷ []) e) (stmt_kinds rest)
cur_before p w (Some i) e rest = put (gets (key W.Cur ∷ kind S.Dot ∷ item w i) e) (stmt_kinds rest)

branch_before : (p : Place) (t : Ex) (first : Sts) (other : Option Sts) (rest : Sts) → stmt_kinds (branch p t first other rest) ≡ stmt_kinds (branch p t first other end) ++ stmt_kinds rest
branch_before p t first None rest = put (key W.If ∷ expr_kinds t ++ braces (stmt_kinds first)) (stmt_kinds rest)
branch_before p t first (Some other) rest = put (key W.If ∷ expr_kinds t ++ braces (stmt_kinds first) ++ key W.Else ∷ braces (stmt_kinds other)) (stmt_kinds rest)

step_before : (l : O.Stmt-F (Sts → Sts) Sts) (rest : Sts) → stmt_kinds (st_step l rest) ≡ stmt_kinds (st_step l end) ++ stmt_kinds rest
step_before (O.Let p w e) rest = put (gets (key W.Let ∷ word w ∷ []) (ex e)) (stmt_kinds rest)
step_before (O.Set p w e) rest = put (gets (word w ∷ []) (ex e)) (stmt_kinds rest)
step_before (O.SetPad p u e) rest = pad_before p (used u).0 (used u).1 (ex e) rest
step_before (O.SetCur p u e) rest = cur_before p (used u).0 (used u).1 (ex e) rest
step_before (O.If p t first other) rest = branch_before p (ex t) first other rest
step_before (O.For p w first past body) rest =
    put (key W.For ∷ word w ∷ key W.In ∷ K.Number first ∷ kind S.Range ∷ K.Number past ∷ braces (stmt_kinds body)) (stmt_kinds rest)
step_before (O.Done p) rest = refl
step_before (O.Go p e) rest = put (key W.Go ∷ expr_kinds (ex e) ++ kind S.Semicolon ∷ []) (stmt_kinds rest)

-- the tokens of one statement
abbrev pub alone_kinds : Stmt → Kinds
alone_kinds s = stmt_kinds (st s end)

pub st_before : (s : Stmt) (rest : Sts) → stmt_kinds (st s rest) ≡ alone_kinds s ++ stmt_kinds rest
st_before s rest =
    subst (λ f. stmt_kinds (f rest) ≡ stmt_kinds (f end) ++ stmt_kinds rest) (sym (fold_out-Stmt (Sts → Sts) Sts st_step block_step s)) (step_before _ rest)

sts_kinds : (ss : List Stmt) → stmt_kinds (sts ss) ≡ flat_map alone_kinds ss
sts_kinds [] = refl
sts_kinds (s ∷ ss) = st_before s (sts ss) ∙ ap (λ l. alone_kinds s ++ l) (sts_kinds ss)

-- ---- each statement

abbrev ExprPrints : Form Expr → Type 0
ExprPrints e = AllPrint e.grammar (λ x. expr_kinds (ex x))

abbrev BlockPrints : Form Block → Type 0
BlockPrints b = AllPrint b.grammar block_kinds

gets_is : (target : Kinds) (e : Ex) → gets target e ++ [] ≡ target ++ given e
gets_is target e = append-nil (gets target e) ∙ append_assoc target (kind S.Assign ∷ expr_kinds e) (kind S.Semicolon ∷ [])

prints_given : (e : Form Expr) → ExprPrints e → AllPrint (both (P.symbol S.Assign) (both e (P.symbol S.Semicolon))).grammar (λ x. given (ex x.1.0))
prints_given e h = prints_pair _ _ _ _ (prints_symbol S.Assign (λ n. refl)) (prints_pair _ _ _ _ h (prints_symbol S.Semicolon (λ n. refl)))

prints_let : (e : Form Expr) → ExprPrints e → AllPrint (P.let_over e).grammar alone_kinds
prints_let e h =
    prints_value P.to_let _ _ _ (λ x. ap stmt_kinds (st_let x.0 x.1.0 x.1.1.1.0 end) ∙ gets_is (key W.Let ∷ word x.1.0 ∷ []) (ex x.1.1.1.0))
    (prints_pair _ _ _ _ (prints_keyword W.Let) (prints_pair _ _ _ _ prints_word (prints_given e h)))

prints_set : (e : Form Expr) → ExprPrints e → AllPrint (P.set_over e).grammar alone_kinds
prints_set e h =
    prints_value P.to_set _ _ _ (λ x. ap stmt_kinds (st_set x.0.place x.0 x.1.1.0 end) ∙ gets_is (word x.0 ∷ []) (ex x.1.1.0))
    (prints_pair _ _ _ _ prints_word (prints_given e h))

prints_target : (k : Keyword) (e : Form Expr) → ExprPrints e → AllPrint (P.target_over k e).grammar (λ x. key k ∷ kind S.Dot ∷ (use_kinds (used x.1) ++ given (ex x.2)))
prints_target k e h =
    prints_value P.to_target _ _ _ (λ x. refl)
    (prints_pair _ _ _ _ (prints_keyword k) (prints_pair _ _ _ _ (prints_symbol S.Dot (λ n. refl)) (prints_pair _ _ (λ u. use_kinds (used u)) _ (prints_use e h) (prints_given e h))))

pub pad_kinds : (p : Place) (w : Word) (i : Option Ex) (e : Ex) → stmt_kinds (to_pad p w i e end) ≡ key W.Pad ∷ kind S.Dot ∷ (use_kinds (w, i) ++ given e)
pad_kinds p w None e = gets_is (key W.Pad ∷ kind S.Dot ∷ word w ∷ []) e
pad_kinds p w (Some i) e = gets_is (key W.Pad ∷ kind S.Dot ∷ item w i) e

pub cur_kinds : (p : Place) (w : Word) (i : Option Ex) (e : Ex) → stmt_kinds (to_cur p w i e end) ≡ key W.Cur ∷ kind S.Dot ∷ (use_kinds (w, i) ++ given e)
cur_kinds p w None e = gets_is (key W.Cur ∷ kind S.Dot ∷ word w ∷ []) e
cur_kinds p w (Some i) e = gets_is (key W.Cur ∷ kind S.Dot ∷ item w i) e

prints_set_pad : (e : Form Expr) → ExprPrints e → AllPrint (P.set_pad_over e).grammar alone_kinds
prints_set_pad e h =
    prints_value P.to_set_pad _ _ _ (λ x. ap stmt_kinds (st_set_pad x.0 x.1 x.2 end) ∙ pad_kinds x.0 (used x.1).0 (used x.1).1 (ex x.2))
    (prints_target W.Pad e h)

prints_set_cur : (e : Form Expr) → ExprPrints e → AllPrint (P.set_cur_over e).grammar alone_kinds
prints_set_cur e h =
    prints_value P.to_set_cur _ _ _ (λ x. ap stmt_kinds (st_set_cur x.0 x.1 x.2 end) ∙ cur_kinds x.0 (used x.1).0 (used x.1).1 (ex x.2))
    (prints_target W.Cur e h)

-- what stands behind `else`
abbrev pub else_kinds : Block → Kinds
else_kinds b = key W.Else ∷ block_kinds b

pub if_kinds : (p : Place) (t : Ex) (first : Sts) (other : Option Block) →
    stmt_kinds (branch p t first (option_map block other) end) ≡ key W.If ∷ (expr_kinds t ++ (braces (stmt_kinds first) ++ or_none else_kinds other))
if_kinds p t first None = append_assoc (key W.If ∷ expr_kinds t) (braces (stmt_kinds first)) []
if_kinds p t first (Some other) = append-nil _ ∙ append_assoc (key W.If ∷ expr_kinds t) (braces (stmt_kinds first)) (else_kinds other)

prints_else : (b : Form Block) → BlockPrints b → AllPrint (P.else_over b).grammar (or_none else_kinds)
prints_else b g = prints_optional _ _ (prints_value P.second _ _ else_kinds (λ x. refl) (prints_pair _ _ _ _ (prints_keyword W.Else) g))

prints_if : (e : Form Expr) (b : Form Block) → ExprPrints e → BlockPrints b → AllPrint (P.if_over e b).grammar alone_kinds
prints_if e b h g =
    prints_value P.to_if _ _ _ (λ x. ap stmt_kinds (st_if x.0 x.1.0 x.1.1.0 x.1.1.1 end) ∙ if_kinds x.0 (ex x.1.0) (block x.1.1.0) x.1.1.1)
    (prints_pair _ _ _ _ (prints_keyword W.If) (prints_pair _ _ _ _ h (prints_pair _ _ _ _ g (prints_else b g))))

prints_for : (b : Form Block) → BlockPrints b → AllPrint (P.for_over b).grammar alone_kinds
prints_for b g =
    prints_value P.to_for _ _ _ (λ x. ap stmt_kinds (st_for x.0 x.1.0 x.1.1.1.0.1 x.1.1.1.1.1.0.1 x.1.1.1.1.1.1 end) ∙ append-nil _)
    (prints_pair _ _ _ _ (prints_keyword W.For) (prints_pair _ _ _ _ prints_word (prints_pair _ _ _ _ (prints_keyword W.In)
    (prints_pair _ _ _ _ prints_number (prints_pair _ _ _ _ (prints_symbol S.Range (λ n. refl)) (prints_pair _ _ _ _ prints_number g))))))

prints_done : AllPrint P.done_stmt.grammar alone_kinds
prints_done =
    prints_value P.to_done _ _ _ (λ x. ap stmt_kinds (st_done x.0 end)) (prints_pair _ _ _ _ (prints_keyword W.Done) (prints_symbol S.Semicolon (λ n. refl)))

prints_go : (e : Form Expr) → ExprPrints e → AllPrint (P.go_over e).grammar alone_kinds
prints_go e h =
    prints_value P.to_go _ _ _ (λ x. ap stmt_kinds (st_go x.0 x.1.0 end) ∙ append-nil _)
    (prints_pair _ _ _ _ (prints_keyword W.Go) (prints_pair _ _ _ _ h (prints_symbol S.Semicolon (λ n. refl))))

-- ---- all of them, and blocks

stmt_prints : (e : Form Expr) (b : Form Block) → ExprPrints e → BlockPrints b → AllPrint (P.stmt_over e b).grammar alone_kinds
stmt_prints e b h g =
    prints_either _ _ _ (prints_let e h)
    (prints_either _ _ _ (prints_set e h)
    (prints_either _ _ _ (prints_set_pad e h)
    (prints_either _ _ _ (prints_set_cur e h)
    (prints_either _ _ _ (prints_if e b h g)
    (prints_either _ _ _ (prints_for b g)
    (prints_either _ _ _ prints_done
    (prints_go e h)))))))

-- a block's statements in braces
block_same : (x : Place × (List Stmt × Place)) → block_kinds (P.to_block x) ≡ braces (flat_map alone_kinds x.1.0)
block_same x = ap (λ s. braces (stmt_kinds s)) (block_is (P.to_block x)) ∙ ap braces (sts_kinds x.1.0)

block_over_prints : (e : Form Expr) (b : Form Block) → ExprPrints e → BlockPrints b → BlockPrints (P.block_over e b)
block_over_prints e b h g =
    prints_value P.to_block _ _ _ block_same
    (prints_enclosed S.OpenBrace S.CloseBrace _ _ closed_brace (before_last _ _ _ (prints_many _ _ (stmt_prints e b h g))))

pub block_prints : (d : ℕ) → AllPrint (P.block d).grammar block_kinds
block_prints zero = record { all = λ ts x w. absurd w }
block_prints (suc d) = block_over_prints (P.expr d) (P.block d) (expr_prints d) (block_prints d)
