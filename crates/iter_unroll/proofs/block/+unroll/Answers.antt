use Rattle.std.proofs.Common.{◌∙◌, refl, ap, arith, Ok}
use Rattle.iter_syntax.specs.Tree as s
use Rattle.iter_syntax.specs.Tree.{ex, st, sts, block, used, to_pad, to_cur, branch}
use Rattle.iter_unroll.specs.unrolling.Steps.{option_block}
use Rattle.iter_unroll.specs.declared.tree.FlatStmt.TheVariants as T
use Rattle.iter_syntax.proofs.FoldLaws.{block_is, st_let, st_set, st_set_pad, st_set_cur, st_if, st_for, st_done, st_go}
use Rattle.iter_unroll.specs.unrolling.Views.{env_of, shape_of}
use Rattle.iter_unroll.proofs.unrolling.Rows.{steps_same, added, keeps_one, done_one, if_none, if_some, block_ok, block_err, flattens_err, turn_ok, row_over, loop_on, loop_err}
use Rattle.iter_unroll.proofs.unrolling.Sheds.{shed_turn}
use Rattle.iter_unroll.proofs.unrolling.Weights.{weight}
use Rattle.iter_unroll.proofs.block.+unroll.Goals as goal

pub flat_if-returns-in-None-clause-one : goal.flat_if-returns-in-None-clause-one
flat_if-returns-in-None-clause-one k c = λ p.
    if_none (shape_of c.args.shape.now) c.args.scope.now c.unroll_block.new.scope (env_of c.deref.result.now) p _ _ _ c.args.no.now _ _ (ap env_of c.deref.ensures.value) c.in-None.is c.new.ensures c.in_ok-test.ensures c.in_ok-yes.ensures.block c.in_ok-yes.ensures.same

pub flat_if-returns-in_ok-no-in-Some-clause-one : goal.flat_if-returns-in_ok-no-in-Some-clause-one
flat_if-returns-in_ok-no-in-Some-clause-one k c = λ p.
    if_some (shape_of c.args.shape.now) c.args.scope.now c.unroll_block.new.scope c.unroll_block-in-Some.new.scope (env_of c.deref.result.now) p _ _ _ c.args.no.now c.in-Some.other _ _ (ap env_of c.deref.ensures.value) c.in-Some.is c.in_ok-test.ensures c.in_ok-yes.ensures.block c.in_ok-yes.ensures.same c.in_ok-no-in-Some.ensures.block c.in_ok-no-in-Some.ensures.same

pub unroll_block-unroll_row-requires : goal.unroll_block-unroll_row-requires
unroll_block-unroll_row-requires k c =
    let z = ap weight (block_is c.args.body.now) in
    let y = ap (λ l. weight (sts l)) c.as_slice.ensures in
    (omega (arith, z, y), c.requires.shape)

pub unroll_block-returns-in-Ok-clause-block : goal.unroll_block-returns-in-Ok-clause-block
unroll_block-returns-in-Ok-clause-block k c =
    block_ok (shape_of c.args.shape.now) c.args.scope.now c.args.body.now c.as_slice.result.now c.new-out.result c.unroll_row.new.out c.new-out.ensures c.as_slice.ensures c.in-Ok.ensures.row

pub unroll_block-returns-in-Err-clause-block : goal.unroll_block-returns-in-Err-clause-block
unroll_block-returns-in-Err-clause-block k c =
    flattens_err (Unit {0}) _ c.new-out.result c.unroll_row.new.out c.in-Err.e
    (block_err (Unit {0}) (shape_of c.args.shape.now) c.args.scope.now.lets c.args.scope.now.lets _ _ c.args.body.now c.as_slice.result.now c.new-out.result c.unroll_row.new.out c.in-Err.e refl refl c.as_slice.ensures c.in-Err.ensures.row)

pub unroll_loop-returns-in-Err-clause-steps : goal.unroll_loop-returns-in-Err-clause-steps
unroll_loop-returns-in-Err-clause-steps k c = λ p.
    loop_err (Unit {0}) (Unit {0}) (shape_of c.args.shape.now) c.args.scope.now c.turns.scope c.unroll_turn.new.scope p c.args.name.now (block c.args.body.now) c.args.out.now c.turns.out c.unroll_turn.new.out c.args.first c.turns.i c.args.past c.in-Err.e c.turns-test.true c.turns.invariant c.in-Err.ensures.row

pub unroll_loop-turns-preserved : goal.unroll_loop-turns-preserved
unroll_loop-turns-preserved k c =
    loop_on (shape_of c.args.shape.now) c.args.scope.now c.turns.scope c.unroll_turn.new.scope c.args.name.now (block c.args.body.now) c.args.out.now c.turns.out c.unroll_turn.new.out c.args.first c.turns.i c.args.past c.turns-test.true c.turns.invariant c.in-Ok.ensures.row c.in-Ok.ensures.same

pub unroll_row-returns-clause-row : goal.unroll_row-returns-clause-row
unroll_row-returns-clause-row k c =
    c.row.invariant.same ∙ row_over (shape_of c.args.shape.now) c.row.scope c.args.stmts.now c.row.s-index c.row.out (omega arith)

pub unroll_stmt-returns-in-Let-clause-steps : goal.unroll_stmt-returns-in-Let-clause-steps
unroll_stmt-returns-in-Let-clause-steps k c =
    let sh = shape_of c.args.shape.now in
    let a = c.args.scope.now in
    let h : s.Sts → s.Sts = λ rest. s.bind c.in-Let.place c.in-Let.name (ex c.in-Let.value) rest in
    added sh h (st c.args.s.now) a c.flat_let.new.scope c.args.out.now c.add.new.out c.flat_let.result c.add.result (λ rest. ap (λ x. st x rest) c.in-Let.is ∙ st_let c.in-Let.place c.in-Let.name c.in-Let.value rest) (c.flat_let.ensures.one c.in-Let.place) c.add.ensures

pub unroll_stmt-returns-in-Set-clause-steps : goal.unroll_stmt-returns-in-Set-clause-steps
unroll_stmt-returns-in-Set-clause-steps k c =
    let sh = shape_of c.args.shape.now in
    let a = c.args.scope.now in
    let h : s.Sts → s.Sts = λ rest. s.set c.in-Set.place c.in-Set.name (ex c.in-Set.value) rest in
    added sh h (st c.args.s.now) a a c.args.out.now c.add-in-Set.new.out c.flat_set.result c.add-in-Set.result (λ rest. ap (λ x. st x rest) c.in-Set.is ∙ st_set c.in-Set.place c.in-Set.name c.in-Set.value rest) (keeps_one sh h a (env_of c.deref.result.now) c.flat_set.result (ap env_of c.deref.ensures.value) (c.flat_set.ensures c.in-Set.place)) c.add-in-Set.ensures

pub unroll_stmt-returns-in-SetPad-clause-steps : goal.unroll_stmt-returns-in-SetPad-clause-steps
unroll_stmt-returns-in-SetPad-clause-steps k c =
    let sh = shape_of c.args.shape.now in
    let a = c.args.scope.now in
    let h : s.Sts → s.Sts = λ rest. to_pad c.in-SetPad.place (used c.in-SetPad.target).0 (used c.in-SetPad.target).1 (ex c.in-SetPad.value) rest in
    added sh h (st c.args.s.now) a a c.args.out.now c.add-in-SetPad.new.out c.flat_pad.result c.add-in-SetPad.result (λ rest. ap (λ x. st x rest) c.in-SetPad.is ∙ st_set_pad c.in-SetPad.place c.in-SetPad.target c.in-SetPad.value rest) (keeps_one sh h a (env_of c.deref-in-SetPad.result.now) c.flat_pad.result (ap env_of c.deref-in-SetPad.ensures.value) (c.flat_pad.ensures c.in-SetPad.place)) c.add-in-SetPad.ensures

pub unroll_stmt-returns-in-SetCur-clause-steps : goal.unroll_stmt-returns-in-SetCur-clause-steps
unroll_stmt-returns-in-SetCur-clause-steps k c =
    let sh = shape_of c.args.shape.now in
    let a = c.args.scope.now in
    let h : s.Sts → s.Sts = λ rest. to_cur c.in-SetCur.place (used c.in-SetCur.target).0 (used c.in-SetCur.target).1 (ex c.in-SetCur.value) rest in
    added sh h (st c.args.s.now) a a c.args.out.now c.add-in-SetCur.new.out c.flat_cur.result c.add-in-SetCur.result (λ rest. ap (λ x. st x rest) c.in-SetCur.is ∙ st_set_cur c.in-SetCur.place c.in-SetCur.target c.in-SetCur.value rest) (keeps_one sh h a (env_of c.deref-in-SetCur.result.now) c.flat_cur.result (ap env_of c.deref-in-SetCur.ensures.value) (c.flat_cur.ensures c.in-SetCur.place)) c.add-in-SetCur.ensures

pub unroll_stmt-returns-in-If-clause-steps : goal.unroll_stmt-returns-in-If-clause-steps
unroll_stmt-returns-in-If-clause-steps k c =
    let sh = shape_of c.args.shape.now in
    let a = c.args.scope.now in
    let h : s.Sts → s.Sts = λ rest. branch c.in-If.place (ex c.in-If.test) (block c.in-If.yes) (option_block c.in-If.no) rest in
    added sh h (st c.args.s.now) a c.flat_if.new.scope c.args.out.now c.add-in-If.new.out c.flat_if.result c.add-in-If.result (λ rest. ap (λ x. st x rest) c.in-If.is ∙ st_if c.in-If.place c.in-If.test c.in-If.yes c.in-If.no rest) (c.flat_if.ensures.one c.in-If.place) c.add-in-If.ensures

pub unroll_stmt-returns-in-For-clause-steps : goal.unroll_stmt-returns-in-For-clause-steps
unroll_stmt-returns-in-For-clause-steps k c =
    steps_same (shape_of c.args.shape.now) (λ rest. s.loop c.in-For.place c.in-For.name c.in-For.first c.in-For.past (block c.in-For.body) rest) (st c.args.s.now) c.args.scope.now c.unroll_loop.new.scope c.args.out.now c.unroll_loop.new.out c.unroll_loop.result
    (λ rest. ap (λ x. st x rest) c.in-For.is ∙ st_for c.in-For.place c.in-For.name c.in-For.first c.in-For.past c.in-For.body rest)
    (c.unroll_loop.ensures.steps c.in-For.place)

pub unroll_stmt-returns-in-Done-clause-steps : goal.unroll_stmt-returns-in-Done-clause-steps
unroll_stmt-returns-in-Done-clause-steps k c =
    let sh = shape_of c.args.shape.now in
    let a = c.args.scope.now in
    let h : s.Sts → s.Sts = λ rest. s.done c.in-Done.place rest in
    added sh h (st c.args.s.now) a a c.args.out.now c.add-in-Done.new.out (Ok T.Done) c.add-in-Done.result (λ rest. ap (λ x. st x rest) c.in-Done.is ∙ st_done c.in-Done.place rest) (done_one sh a c.in-Done.place) c.add-in-Done.ensures

pub unroll_stmt-returns-in-Go-clause-steps : goal.unroll_stmt-returns-in-Go-clause-steps
unroll_stmt-returns-in-Go-clause-steps k c =
    let sh = shape_of c.args.shape.now in
    let a = c.args.scope.now in
    let h : s.Sts → s.Sts = λ rest. s.go c.in-Go.place (ex c.in-Go.to) rest in
    added sh h (st c.args.s.now) a a c.args.out.now c.add-in-Go.new.out c.flat_go.result c.add-in-Go.result (λ rest. ap (λ x. st x rest) c.in-Go.is ∙ st_go c.in-Go.place c.in-Go.to rest) (keeps_one sh h a (env_of c.deref-in-Go.result.now) c.flat_go.result (ap env_of c.deref-in-Go.ensures.value) (c.flat_go.ensures c.in-Go.place)) c.add-in-Go.ensures

pub unroll_turn-unroll_row-requires : goal.unroll_turn-unroll_row-requires
unroll_turn-unroll_row-requires k c =
    let z = ap weight (block_is c.args.body.now) in
    let y = ap (λ l. weight (sts l)) c.as_slice.ensures in
    (omega (arith, z, y), c.requires.shape)

pub unroll_turn-returns-in-Ok-unroll_row-clause-row : goal.unroll_turn-returns-in-Ok-unroll_row-clause-row
unroll_turn-returns-in-Ok-unroll_row-clause-row k c =
    turn_ok (shape_of c.args.shape.now) c.declare.new.self.lets c.args.scope.now.lets (env_of c.declare.new.self.entries.items) _ c.args.body.now c.as_slice.result.now c.args.out.now c.unroll_row.new.out c.in-Ok.ensures.lets c.in-Ok.ensures.ok c.as_slice.ensures c.in-Ok-unroll_row.ensures.row

pub unroll_turn-returns-in-Ok-unroll_row-clause-same : goal.unroll_turn-returns-in-Ok-unroll_row-clause-same
unroll_turn-returns-in-Ok-unroll_row-clause-same k c = (
  c.leave.ensures.lets,
  c.leave.ensures.env ∙ shed_turn c.unroll_row.new.scope.entries.items c.declare.new.self.entries.items c.args.scope.now.entries.items _ c.len-len.result c.len-len.ensures c.in-Ok.ensures.ok c.in-Ok-unroll_row.ensures.grows.0 c.in-Ok-unroll_row.ensures.grows.1,
)

pub unroll_turn-returns-in-Err-unroll_row-clause-row : goal.unroll_turn-returns-in-Err-unroll_row-clause-row
unroll_turn-returns-in-Err-unroll_row-clause-row k c =
    block_err (Unit {0}) (shape_of c.args.shape.now) c.declare.new.self.lets c.args.scope.now.lets (env_of c.declare.new.self.entries.items) _ c.args.body.now c.as_slice.result.now c.args.out.now c.unroll_row.new.out c.in-Err-unroll_row.e c.in-Ok.ensures.lets c.in-Ok.ensures.ok c.as_slice.ensures c.in-Err-unroll_row.ensures.row
