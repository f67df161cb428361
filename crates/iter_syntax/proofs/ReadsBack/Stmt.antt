-- The printed tokens of statements in a row are these again, places aside, where those of their expressions and blocks are.
use Rattle.std.proofs.Common.{◌≡◌, ℕ, List, [], ◌∷◌, ◌++◌, Option, Some, None, option_map, refl, ap, sym, ◌∙◌, append_assoc, append-nil}
use Rattle.iter_syntax.specs.Names.{Place, Word, Block, Stmt, Expr, Keyword}
use Rattle.iter_syntax.specs.declared.token.Keyword.TheVariants as W
use Rattle.iter_syntax.specs.declared.token.Symbol.TheVariants as S
use Rattle.iter_syntax.specs.Tree.{Ex, ex, used, Sts, end, bind, set, when, choose, loop, done, go, to_pad, to_cur, branch, st, sts, block}
use Rattle.iter_syntax.specs.Grammar.{pair, many}
use Rattle.iter_syntax.specs.Form.{Form}
use Rattle.iter_syntax.specs.Productions as P
use Rattle.iter_syntax.specs.Printed.{Kinds, key, sym as kind, expr_kinds, gets, braces, stmt_kinds}
use Rattle.iter_syntax.specs.Bare.{nowhere, bare_word, bare_expr, bare_stmts}
use Rattle.iter_syntax.proofs.FoldLaws.{st_let, st_set, st_set_pad, st_set_cur, st_if, st_for, st_done, st_go, block_is}
use Rattle.iter_syntax.proofs.ReadsBack.Forms.{Back, pair_back, value_back, either_left, either_right, none_back, some_back, nil_back, cons_back, symbol_back, keyword_back, word_back, number_back, same_kinds}
use Rattle.iter_syntax.proofs.ReadsBack.Use.{IsExpr, ExprAt, IsUse, use_kinds, UseAt}

-- ---- statements and blocks, places aside

bare_pad : (p : Place) (w : Word) (o : Option Ex) (e : Ex) (rest : Sts) → bare_stmts (to_pad p w o e rest) ≡ to_pad nowhere (bare_word w) (option_map bare_expr o) (bare_expr e) (bare_stmts rest)
bare_pad p w None e rest = refl
bare_pad p w (Some i) e rest = refl

bare_cur : (p : Place) (w : Word) (o : Option Ex) (e : Ex) (rest : Sts) → bare_stmts (to_cur p w o e rest) ≡ to_cur nowhere (bare_word w) (option_map bare_expr o) (bare_expr e) (bare_stmts rest)
bare_cur p w None e rest = refl
bare_cur p w (Some i) e rest = refl

bare_branch : (p : Place) (t : Ex) (first : Sts) (o : Option Sts) (rest : Sts) → bare_stmts (branch p t first o rest) ≡ branch nowhere (bare_expr t) (bare_stmts first) (option_map bare_stmts o) (bare_stmts rest)
bare_branch p t first None rest = refl
bare_branch p t first (Some other) rest = refl

-- put before others that are `rest`, the statement makes `ss` of them
abbrev Makes : Sts → Sts → Stmt → Type 0
Makes ss rest y = (others : Sts) → bare_stmts others ≡ bare_stmts rest → bare_stmts (st y others) ≡ bare_stmts ss

abbrev IsStmts : Sts → List Stmt → Type 0
IsStmts ss ys = bare_stmts (sts ys) ≡ bare_stmts ss

abbrev pub IsBlock : Sts → Block → Type 0
IsBlock ss b = bare_stmts (block b) ≡ bare_stmts ss

abbrev IsElse : Option Sts → Option Block → Type 0
IsElse o y = option_map bare_stmts (option_map block y) ≡ option_map bare_stmts o

-- ---- the kinds behind a target, and behind the first block of an `if`

abbrev given : Ex → Kinds
given e = kind S.Assign ∷ (expr_kinds e ++ kind S.Semicolon ∷ [])

gets_splits : (target : Kinds) (e : Ex) → target ++ given e ≡ gets target e
gets_splits target e = sym (append_assoc target (kind S.Assign ∷ expr_kinds e) (kind S.Semicolon ∷ []))

abbrev else_kinds : Option Sts → Kinds
else_kinds None = []
else_kinds (Some other) = key W.Else ∷ braces (stmt_kinds other)

-- ---- each statement before others

module _ (f : Form Expr) (b : Form Block) where
  abbrev pub StmtsAt : Sts → Type 0
  StmtsAt ss = Back (many (P.stmt_over f b).grammar) (stmt_kinds ss) (IsStmts ss)

  abbrev pub BlockAt : Sts → Type 0
  BlockAt ss = Back b.grammar (braces (stmt_kinds ss)) (IsBlock ss)

  -- tokens of these kinds before those of the rest are all the statements
  abbrev RowAt : Kinds → Sts → Sts → Type 0
  RowAt ks ss rest = Back (many (P.stmt_over f b).grammar) (ks ++ stmt_kinds rest) (IsStmts ss)

  row_at : {ks : Kinds} (ss rest : Sts) → Back (P.stmt_over f b).grammar ks (Makes ss rest) → StmtsAt rest → RowAt ks ss rest
  row_at ss rest h g = cons_back (λ x xs q r. q (sts xs) r) h g

  abbrev GivenAt : Ex → Type 0
  GivenAt e = Back (pair (P.symbol S.Assign).grammar (pair f.grammar (P.symbol S.Semicolon).grammar)) (given e) (λ x. Unit {0} × (IsExpr e x.1.0 × Unit {0}))

  given_at : (e : Ex) → ExprAt f e → GivenAt e
  given_at e h = pair_back (symbol_back S.Assign) (pair_back h (symbol_back S.Semicolon))

  pub end_row : StmtsAt end
  end_row = nil_back refl

  pub bind_row : (p : Place) (w : Word) (e : Ex) (rest : Sts) → ExprAt f e → StmtsAt rest → StmtsAt (bind p w e rest)
  bind_row p w e rest h r =
      row_at (bind p w e rest) rest (either_left
      (value_back P.to_let (λ x q others s. cc (st_let x.0 x.1.0 x.1.1.1.0 others))
      (pair_back (keyword_back W.Let) (pair_back (word_back w) (given_at e h))))) r

  pub set_row : (p : Place) (w : Word) (e : Ex) (rest : Sts) → ExprAt f e → StmtsAt rest → StmtsAt (set p w e rest)
  set_row p w e rest h r =
      row_at (set p w e rest) rest (either_right (either_left
      (value_back P.to_set (λ x q others s. cc (st_set x.0.place x.0 x.1.1.0 others))
      (pair_back (word_back w) (given_at e h))))) r

  abbrev target_kinds : Keyword → Word → Option Ex → Ex → Kinds
  target_kinds k w o e = gets (key k ∷ kind S.Dot ∷ use_kinds w o) e

  abbrev TargetAt : Keyword → Word → Option Ex → Ex → Type 0
  TargetAt k w o e = Back (P.target_over k f).grammar (target_kinds k w o e) (λ x. IsUse w o x.1 × IsExpr e x.2)

  target_at : (k : Keyword) (w : Word) (o : Option Ex) (e : Ex) → UseAt f w o → ExprAt f e → TargetAt k w o e
  target_at k w o e h g =
      same_kinds (ap (λ l. key k ∷ kind S.Dot ∷ l) (gets_splits (use_kinds w o) e))
      (value_back P.to_target (λ x q. (q.1.1.0, q.1.1.1.1.0)) (pair_back (keyword_back k) (pair_back (symbol_back S.Dot) (pair_back h (given_at e g)))))

  pub pad_row : (p : Place) (w : Word) (o : Option Ex) (e : Ex) (rest : Sts) → UseAt f w o → ExprAt f e → StmtsAt rest → RowAt (target_kinds W.Pad w o e) (to_pad p w o e rest) rest
  pad_row p w o e rest h g r =
      row_at (to_pad p w o e rest) rest (either_right (either_right (either_left
      (value_back P.to_set_pad (λ x q others s. cc (st_set_pad x.0 x.1 x.2 others, bare_pad x.0 (used x.1).0 (used x.1).1 (ex x.2) others, bare_pad p w o e rest))
      (target_at W.Pad w o e h g))))) r

  pub cur_row : (p : Place) (w : Word) (o : Option Ex) (e : Ex) (rest : Sts) → UseAt f w o → ExprAt f e → StmtsAt rest → RowAt (target_kinds W.Cur w o e) (to_cur p w o e rest) rest
  cur_row p w o e rest h g r =
      row_at (to_cur p w o e rest) rest (either_right (either_right (either_right (either_left
      (value_back P.to_set_cur (λ x q others s. cc (st_set_cur x.0 x.1 x.2 others, bare_cur x.0 (used x.1).0 (used x.1).1 (ex x.2) others, bare_cur p w o e rest))
      (target_at W.Cur w o e h g)))))) r

  if_row : (p : Place) (t : Ex) (first : Sts) (o : Option Sts) (rest : Sts) (ks : Kinds) → key W.If ∷ (expr_kinds t ++ (braces (stmt_kinds first) ++ else_kinds o)) ≡ ks
      → ExprAt f t → BlockAt first → Back (P.else_over b).grammar (else_kinds o) (IsElse o) → StmtsAt rest → RowAt ks (branch p t first o rest) rest
  if_row p t first o rest ks e h g k r =
      row_at (branch p t first o rest) rest (either_right (either_right (either_right (either_right (either_left
      (value_back P.to_if (λ x q others s. cc (st_if x.0 x.1.0 x.1.1.0 x.1.1.1 others, bare_branch x.0 (ex x.1.0) (block x.1.1.0) (option_map block x.1.1.1) others, bare_branch p t first o rest))
      (same_kinds e (pair_back (keyword_back W.If) (pair_back h (pair_back g k)))))))))) r

  pub when_row : (p : Place) (t : Ex) (first rest : Sts) → ExprAt f t → BlockAt first → StmtsAt rest → StmtsAt (when p t first rest)
  when_row p t first rest h g r =
      if_row p t first None rest _ (ap (λ l. key W.If ∷ (expr_kinds t ++ l)) (append-nil (braces (stmt_kinds first)))) h g (none_back _ (IsElse None) refl) r

  pub choose_row : (p : Place) (t : Ex) (first other rest : Sts) → ExprAt f t → BlockAt first → BlockAt other → StmtsAt rest → StmtsAt (choose p t first other rest)
  choose_row p t first other rest h g k r =
      if_row p t first (Some other) rest _ (ap (λ l. key W.If ∷ l) (sym (append_assoc (expr_kinds t) (braces (stmt_kinds first)) (else_kinds (Some other))))) h g
      (some_back (IsElse (Some other)) (λ x q. ap Some q) (value_back {R = IsBlock other} P.second (λ x q. q.1) (pair_back (keyword_back W.Else) k))) r

  pub loop_row : (p : Place) (w : Word) (m n : ℕ) (body rest : Sts) → BlockAt body → StmtsAt rest → StmtsAt (loop p w m n body rest)
  loop_row p w m n body rest h r =
      row_at (loop p w m n body rest) rest (either_right (either_right (either_right (either_right (either_right (either_left
      (value_back P.to_for (λ x q others s. cc (st_for x.0 x.1.0 x.1.1.1.0.1 x.1.1.1.1.1.0.1 x.1.1.1.1.1.1 others))
      (pair_back (keyword_back W.For) (pair_back (word_back w) (pair_back (keyword_back W.In) (pair_back (number_back m) (pair_back (symbol_back S.Range) (pair_back (number_back n) h))))))))))))) r

  pub done_row : (p : Place) (rest : Sts) → StmtsAt rest → StmtsAt (done p rest)
  done_row p rest r =
      row_at (done p rest) rest (either_right (either_right (either_right (either_right (either_right (either_right (either_left
      (value_back P.to_done (λ x q others s. cc (st_done x.0 others))
      (pair_back (keyword_back W.Done) (symbol_back S.Semicolon)))))))))) r

  pub go_row : (p : Place) (e : Ex) (rest : Sts) → ExprAt f e → StmtsAt rest → StmtsAt (go p e rest)
  go_row p e rest h r =
      row_at (go p e rest) rest (either_right (either_right (either_right (either_right (either_right (either_right (either_right
      (value_back P.to_go (λ x q others s. cc (st_go x.0 x.1.0 others))
      (pair_back (keyword_back W.Go) (pair_back h (symbol_back S.Semicolon))))))))))) r

  -- braces around them
  pub block_of : (ss : Sts) → StmtsAt ss → Back (P.block_over f b).grammar (braces (stmt_kinds ss)) (IsBlock ss)
  block_of ss h =
      value_back P.to_block (λ x q. ap bare_stmts (block_is (P.to_block x)) ∙ q.1.0)
      (pair_back (symbol_back S.OpenBrace) (pair_back h (symbol_back S.CloseBrace)))
