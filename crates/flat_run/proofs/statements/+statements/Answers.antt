use Rattle.std.proofs.Common.{◌≡◌, false, true, length, ap, sym, ◌∙◌, arith}
use Rattle.iter_syntax.specs.Tree.{block, sts}
use Rattle.iter_check.specs.State.{Names, State}
use Rattle.iter_check.specs.Meaning.{meaning, within}
use Rattle.iter_syntax.proofs.FoldLaws.{block_is}
use Rattle.flat_run.specs.Views.Interpreter.{setting_of, state_of, outcome_of, is_falls}
use Rattle.flat_run.proofs.StsLaws.{weight, weight_drop, row_stops, row_goes_on, turn_stops, turn_goes_on}
use Rattle.flat_run.proofs.statements.+statements.Goals as goal

pub run_block-run_row-requires : goal.run_block-run_row-requires
run_block-run_row-requires t c =
    let z = ap weight (block_is c.args.body.now) in
    let y = ap (λ l. weight (sts l)) c.as_slice.ensures in
    (omega (arith, z, y), tt)

pub run_turn-run_row-requires : goal.run_turn-run_row-requires
run_turn-run_row-requires t c =
    let z = ap weight (block_is c.args.body.now) in
    let y = ap (λ l. weight (sts l)) c.as_slice.ensures in
    (omega (arith, z, y), tt)

pub run_block-returns : goal.run_block-returns
run_block-returns t c =
    let g = setting_of c.args.setting.now in
    let s = state_of c.args.state.now in
    c.leave.ensures
    ∙ ap (λ n. within n (outcome_of c.in_ok-ending.ending c.run_row.new.state)) c.len-len.ensures
    ∙ ap (within (length c.args.state.now.names)) (c.in_ok-ending.ensures ∙ ap (λ l. meaning g (sts l) s) c.as_slice.ensures ∙ ap (λ ss. meaning g ss s) (sym (block_is c.args.body.now)))

pub run_turn-returns : goal.run_turn-returns
run_turn-returns t c =
    let g = setting_of c.args.setting.now in
    let at = λ (names : Names). let s : State = record { record_bytes = c.args.state.now.record.items; pad = c.args.state.now.pad.items; names = names } in s in
    c.leave.ensures
    ∙ ap (λ n. within n (outcome_of c.in_ok-ending.ending c.run_row.new.state)) c.len-len.ensures
    ∙ ap (within (length c.args.state.now.names))
    (c.in_ok-ending.ensures ∙ ap (λ l. meaning g (sts l) (at c.declare.new.self)) c.as_slice.ensures ∙ ap (λ ss. meaning g ss (at c.declare.new.self)) (sym (block_is c.args.body.now)) ∙ ap (λ names. meaning g (block c.args.body.now) (at names)) c.in_ok-declare.ensures.ok)

pub run_loop-returns-then-not-falls : goal.run_loop-returns-then-not-falls
run_loop-returns-then-not-falls t c =
    let f = meaning (setting_of c.args.setting.now) (block c.args.body.now) in
    let n : is_falls c.in_ok-ending.ending ≡ false = first_of (cc, grind arith) in
    turn_stops c.args.name.now c.args.first c.turns.i c.args.past f (state_of c.args.state.now) (state_of c.turns.state) c.run_turn.new.state c.in_ok-ending.ending c.turns-test.true c.turns.invariant c.in_ok-ending.ensures n

pub run_loop-turns-preserved : goal.run_loop-turns-preserved
run_loop-turns-preserved t c =
    let f = meaning (setting_of c.args.setting.now) (block c.args.body.now) in
    let y : is_falls c.in_ok-ending.ending ≡ true = first_of (cc, grind arith) in
    turn_goes_on c.args.name.now c.args.first c.turns.i c.args.past f (state_of c.args.state.now) (state_of c.turns.state) c.run_turn.new.state c.in_ok-ending.ending c.turns-test.true c.turns.invariant c.in_ok-ending.ensures y

pub run_row-returns-then-not-falls : goal.run_row-returns-then-not-falls
run_row-returns-then-not-falls t c =
    let n : is_falls c.in_ok-ending.ending ≡ false = first_of (cc, grind arith) in
    row_stops (setting_of c.args.setting.now) c.args.stmts.now c.row.s-index c.s-item.result (state_of c.args.state.now) (state_of c.row.state) c.run_stmt.new.state c.in_ok-ending.ending c.row-test.true c.s-item.is c.row.invariant.same c.in_ok-ending.ensures n

pub run_row-row-preserved : goal.run_row-row-preserved
run_row-row-preserved t c =
    let y : is_falls c.in_ok-ending.ending ≡ true = first_of (cc, grind arith) in
    record {
      same = row_goes_on (setting_of c.args.setting.now) c.args.stmts.now c.row.s-index c.s-item.result (state_of c.args.state.now) (state_of c.row.state) c.run_stmt.new.state c.in_ok-ending.ending c.row-test.true c.s-item.is c.row.invariant.same c.in_ok-ending.ensures y;
      left = omega (arith, weight_drop c.args.stmts.now c.row.s-index c.s-item.result c.row-test.true c.s-item.is, c.row.invariant.left);
    }
