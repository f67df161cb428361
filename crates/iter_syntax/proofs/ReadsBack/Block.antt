-- The printed tokens of statements and blocks are these again, places aside, at each depth from some on.
use Rattle.std.proofs.Common.{ℕ, Some, None}
use Rattle.iter_syntax.specs.Tree.{Sts, end, bind, set, set_pad, set_pad_item, set_cur, set_cur_item, when, choose, loop, done, go}
use Rattle.iter_syntax.specs.Productions as P
use Rattle.iter_syntax.proofs.ReadsBack.Forms.{Deep, deep_map, deep_both, deep_two, deep_next}
use Rattle.iter_syntax.proofs.ReadsBack.Use.{use_plain, use_item}
use Rattle.iter_syntax.proofs.ReadsBack.Expr.{expr_back}
use Rattle.iter_syntax.proofs.ReadsBack.Stmt as St

abbrev StmtsAt : Sts → ℕ → Type 0
StmtsAt ss d = St.StmtsAt (P.expr d) (P.block d) ss

abbrev BlockAt : Sts → ℕ → Type 0
BlockAt ss d = St.BlockAt (P.expr d) (P.block d) ss

-- a block stands one deeper than its statements
block_at : (ss : Sts) → Deep (StmtsAt ss) → Deep (BlockAt ss)
block_at ss h = deep_next (λ d. St.block_of (P.expr d) (P.block d) ss) h

stmts_at : (ss : Sts) → Deep (StmtsAt ss)
stmts_at end = (0, λ d le. St.end_row (P.expr d) (P.block d))
stmts_at (bind p w e rest) = deep_both (λ d. St.bind_row (P.expr d) (P.block d) p w e rest) (expr_back e) (stmts_at rest)
stmts_at (set p w e rest) = deep_both (λ d. St.set_row (P.expr d) (P.block d) p w e rest) (expr_back e) (stmts_at rest)
stmts_at (set_pad p w e rest) = deep_both (λ d. St.pad_row (P.expr d) (P.block d) p w None e rest (use_plain (P.expr d) w)) (expr_back e) (stmts_at rest)
stmts_at (set_pad_item p w i e rest) = deep_both (λ d x. St.pad_row (P.expr d) (P.block d) p w (Some i) e rest (use_item (P.expr d) w i x.0) x.1) (deep_two (expr_back i) (expr_back e)) (stmts_at rest)
stmts_at (set_cur p w e rest) = deep_both (λ d. St.cur_row (P.expr d) (P.block d) p w None e rest (use_plain (P.expr d) w)) (expr_back e) (stmts_at rest)
stmts_at (set_cur_item p w i e rest) = deep_both (λ d x. St.cur_row (P.expr d) (P.block d) p w (Some i) e rest (use_item (P.expr d) w i x.0) x.1) (deep_two (expr_back i) (expr_back e)) (stmts_at rest)
stmts_at (when p t first rest) = deep_both (λ d x. St.when_row (P.expr d) (P.block d) p t first rest x.0 x.1) (deep_two (expr_back t) (block_at first (stmts_at first))) (stmts_at rest)
stmts_at (choose p t first other rest) =
    deep_both (λ d x. St.choose_row (P.expr d) (P.block d) p t first other rest x.0 x.1.0 x.1.1)
    (deep_two (expr_back t) (deep_two (block_at first (stmts_at first)) (block_at other (stmts_at other)))) (stmts_at rest)
stmts_at (loop p w m n body rest) = deep_both (λ d. St.loop_row (P.expr d) (P.block d) p w m n body rest) (block_at body (stmts_at body)) (stmts_at rest)
stmts_at (done p rest) = deep_map (λ d. St.done_row (P.expr d) (P.block d) p rest) (stmts_at rest)
stmts_at (go p e rest) = deep_both (λ d. St.go_row (P.expr d) (P.block d) p e rest) (expr_back e) (stmts_at rest)

pub block_back : (ss : Sts) → Deep (BlockAt ss)
block_back ss = block_at ss (stmts_at ss)
