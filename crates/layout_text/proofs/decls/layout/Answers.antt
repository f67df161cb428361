use Rattle.std.proofs.Common.{◌++◌, ◌∙◌, List, refl, sym, ap, slice_get, drop, arith}
use Rattle.iter_syntax.specs.Steps.Printing.{iter_next}
use Rattle.iter_syntax.specs.declared.tree.Iter.{Iter}
use Rattle.iter_syntax.specs.declared.tree.Program.{Program}
use Rattle.layout_text.specs.Decls.{iter_text}
use Rattle.layout_text.proofs.DeclsLaws.{at_start, small_at_start, after_iter, within, from_on}
use Rattle.layout_text.proofs.decls.layout.Goals as goal

pub decls-init : goal.decls-init
decls-init c =
    let checked = c.args.checked.now in
    let records = c.as_slice-records.result.now in
    record {
      text = at_start checked c.program.result.now records c.new-text.result c.program.ensures.same c.as_slice-records.ensures c.new-text.ensures;
      within = omega arith;
      small = small_at_start checked c.program.result.now records c.program.ensures.same c.as_slice-records.ensures c.program.ensures.accepted;
    }

pub decls-preserved-then-iter_comes : goal.decls-preserved-then-iter_comes
decls-preserved-then-iter_comes c =
    let checked = c.args.checked.now in
    let found = slice_get checked.iters c.decls.at in
    let iters = c.as_slice.ensures ∙ ap (λ (p : Program). p.iters) c.program-in-decls.ensures.same in
    let next =
    ap (λ (is : List Iter). iter_next c.decls.records.now (drop c.decls.at is)) (sym iters)
    ∙ ap (iter_next c.decls.records.now) (sym (from_on c.decls.at c.as_slice.result.now))
    ∙ sym c.iter_comes.ensures
    ∙ c.if-iter_comes.true in
    record {
      text = after_iter checked c.decls.records.now c.decls.at c.decls.text c.put_iter.new.text found refl c.decls.invariant.text next c.in_ok-put_iter.ensures;
      within = within (λ it. c.decls.text ++ iter_text it) checked.iters c.decls.at c.put_iter.new.text found refl c.in_ok-put_iter.ensures;
      small = c.decls.invariant.small;
    }
