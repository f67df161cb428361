-- A walk's pad has 1 to 256 bytes, and so has that of its request.
use Rattle.std.proofs.Common.{◌≡◌, ℕ, List, length, sym, ap, subst, ◌∙◌, arith}
use Rattle.iter_syntax.specs.declared.tree.Iter.{Iter}
use Rattle.iter_check.specs.Layout.{size_of}
use Rattle.iter_check.specs.Iteration.{begin}
use Rattle.iter_check.specs.Laws.{LeavesPad}
use Rattle.iter_check.proofs.LengthLaws.{begin_leaves}
use Rattle.flat_run.specs.declared.iteration.Begun.{Begun}
use Rattle.flat_run.specs.declared.iteration.Begun.TheVariants as b
use Rattle.flat_run.specs.Views.Interpreter.{begun_of}
use Rattle.flat_run.proofs.order.asked.Goals as goal

leaves : (x y : Begun) (it : Iter) (values : List ℕ) → begun_of x ≡ begin it values → x ≡ y → LeavesPad (size_of it.pad) (begun_of y)
leaves x y it values e same = subst (LeavesPad (size_of it.pad)) (sym e ∙ ap begun_of same) (begin_leaves it values)

pub of-requires-clause-some : goal.of-requires-clause-some
of-requires-clause-some c =
    let w = c.args.walk.now in
    let long : length c.in-Ready.pad ≡ size_of w.iter.now.pad = leaves c.in_ok-cur.field-0 (b.Ready c.in-Ready.cur c.in-Ready.pad) w.iter.now w.args.now c.in_ok-cur.ensures c.in-Ready.is in
    omega (arith, ap length c.as_slice.ensures, long, w.some)

pub of-requires-clause-fit : goal.of-requires-clause-fit
of-requires-clause-fit c =
    let w = c.args.walk.now in
    let long : length c.in-Ready.pad ≡ size_of w.iter.now.pad = leaves c.in_ok-cur.field-0 (b.Ready c.in-Ready.cur c.in-Ready.pad) w.iter.now w.args.now c.in_ok-cur.ensures c.in-Ready.is in
    omega (arith, ap length c.as_slice.ensures, long, w.fit)

pub of-requires-in-Ended-clause-some : goal.of-requires-in-Ended-clause-some
of-requires-in-Ended-clause-some c =
    let w = c.args.walk.now in
    let long : length c.in-Ended.pad ≡ size_of w.iter.now.pad = leaves c.in_ok-cur.field-0 (b.Ended c.in-Ended.pad) w.iter.now w.args.now c.in_ok-cur.ensures c.in-Ended.is in
    omega (arith, ap length c.as_slice-in-Ended.ensures, long, w.some)

pub of-requires-in-Ended-clause-fit : goal.of-requires-in-Ended-clause-fit
of-requires-in-Ended-clause-fit c =
    let w = c.args.walk.now in
    let long : length c.in-Ended.pad ≡ size_of w.iter.now.pad = leaves c.in_ok-cur.field-0 (b.Ended c.in-Ended.pad) w.iter.now w.args.now c.in_ok-cur.ensures c.in-Ended.is in
    omega (arith, ap length c.as_slice-in-Ended.ensures, long, w.fit)
