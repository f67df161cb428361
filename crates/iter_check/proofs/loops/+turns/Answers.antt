use Rattle.std.proofs.Common.{sym, ap, ◌∙◌, ◌++◌, [], ◌∷◌, take, arith}
use Rattle.iter_syntax.specs.Tree.{ex}
use Rattle.iter_check.specs.Indices as ix
use Rattle.iter_check.proofs.IndexLaws.{for_step, turn_is, back}
use Rattle.iter_check.proofs.loops.+turns.Goals as goal

pub in_turns-turns-preserved : goal.in_turns-turns-preserved
in_turns-turns-preserved t c =
    let old = c.args.turn.now.items in
    let holds = ix.out_of c.args.loops.now (ex c.args.index.now) c.args.len in
    record {
      some = c.turns.invariant.some ∙ for_step _ c.turns.i c.args.past (omega arith)
          (sym (turn_is c.args.loops.now old c.turns.turn.items c.push_number.new.turn.items c.turns.i holds c.turns.invariant.same c.in_ok-push_number.ensures)
          ∙ sym c.in_ok-found.ensures.some ∙ c.if-found.false);
      same = c.truncate.ensures.items ∙ ap (λ l. take c.depth_of-at.result l) c.in_ok-found.ensures.same ∙ ap (λ n. take n c.push_number.new.turn.items) c.depth_of-at.ensures
          ∙ back old c.push_number.new.turn.items c.turns.i (c.in_ok-push_number.ensures ∙ ap (λ l. l ++ c.turns.i ∷ []) c.turns.invariant.same);
    }
