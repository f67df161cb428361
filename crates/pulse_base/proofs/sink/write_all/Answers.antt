use Rattle.std.proofs.Common.{◌≡◌, ◌-◌, length, take, drop, ap, arith, length-drop}
use Rattle.std.proofs.lemmas.Grind.{common_steps}
use Rattle.pulse_base.proofs.WritingLemmas.{wrote_more}
use Rattle.pulse_base.proofs.sink.write_all.Goals as goal

pub pieces-preserved : goal.pieces-preserved
pieces-preserved g c =
    let piece : take (length c.args.bytes.now - c.pieces.at) (drop c.pieces.at c.args.bytes.now) ≡ drop c.pieces.at c.args.bytes.now = grind (arith, common_steps) in
    record {
      inside = omega (arith, c.in_ok-at.ensures.bound, length-drop c.pieces.at c.args.bytes.now, ap length piece);
      wrote = wrote_more _ _ _ c.args.bytes.now _ c.pieces.at c.in_ok-at.field-0 piece c.pieces.invariant.wrote c.in_ok-at.ensures.bytes;
      kept = omega (arith, c.in_ok-at.ensures.cause.kept);
    }
