use Rattle.std.proofs.Common.{◌≡◌, false, true, ap, sym, ◌∙◌, arith}
use Rattle.std.specs.Prelude.{[]}
use Rattle.iter_syntax.specs.Tree.{block, sts}
use Rattle.iter_check.specs.State.{Names, State}
use Rattle.iter_check.specs.Meaning.{meaning}
use Rattle.iter_check.specs.Iteration.{iterated}
use Rattle.iter_syntax.proofs.FoldLaws.{block_is}
use Rattle.flat_run.specs.Views.Interpreter.{setting_of, state_of, is_falls}
use Rattle.flat_run.proofs.StsLaws.{ended, went_on}
use Rattle.flat_run.proofs.iteration.end_then_next.Goals as goal

pub returns-then-not-falls : goal.returns-then-not-falls
returns-then-not-falls c =
    let g = setting_of c.args.setting.now in
    let s = state_of c.args.state in
    let n : is_falls c.in_ok-ending.ending ≡ false = first_of (cc, grind arith) in
    c.after_iteration.ensures
    ∙ ap iterated (ended g c.args.it.now.end_part s c.run_row.new.state c.in_ok-ending.ending (λ (after : State). meaning g (block c.args.it.now.next_part) (record after { names = [] })) (c.in_ok-ending.ensures ∙ ap (λ l. meaning g (sts l) s) c.as_slice.ensures) n)

pub returns : goal.returns
returns c =
    let g = setting_of c.args.setting.now in
    let s = state_of c.args.state in
    let next = c.args.it.now.next_part in
    let at = λ (names : Names). let x : State = record { record_bytes = c.run_row.new.state.record.items; pad = c.run_row.new.state.pad.items; names = names } in x in
    let y : is_falls c.in_ok-ending.ending ≡ true = first_of (cc, grind arith) in
    c.after_iteration-2.ensures
    ∙ ap iterated
    (c.in_ok-ending-2.ensures ∙ ap (λ l. meaning g (sts l) (at c.new.result)) c.as_slice-2.ensures ∙ ap (λ ss. meaning g ss (at c.new.result)) (sym (block_is next)) ∙ ap (λ names. meaning g (block next) (at names)) c.new.ensures
    ∙ sym (went_on g c.args.it.now.end_part s c.run_row.new.state c.in_ok-ending.ending (λ (after : State). meaning g (block next) (record after { names = [] })) (c.in_ok-ending.ensures ∙ ap (λ l. meaning g (sts l) s) c.as_slice.ensures) y))
