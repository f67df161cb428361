use Rattle.std.proofs.Common.{append_assoc, ap}
use Rattle.drill.proofs.summary.answers_line.Goals as goal

pub returns : goal.returns
returns c =
    let e = c.of-done.ensures in
    simp append_assoc (rw (← ap (λ t. t.done) e, ← ap (λ t. t.faults) e, ← ap (λ t. t.spent) e, ← ap (λ t. t.silent) e) c.format.ensures.ok)
