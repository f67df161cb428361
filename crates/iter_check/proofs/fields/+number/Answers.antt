use Rattle.std.proofs.Common.{arith, get_or, length-drop}
use Rattle.iter_check.proofs.SlotLaws.{low_fits}
use Rattle.iter_check.proofs.fields.+number.Goals as goal

pub overflow_mul-result : goal.overflow_mul-result
overflow_mul-result t c =
    omega (arith, low_fits 0 c.number.result _ (omega arith) c.number.ensures.bound (omega (arith, length-drop 1 c.args.bytes.now)))

pub overflow_add-result : goal.overflow_add-result
overflow_add-result t c =
    omega (arith, low_fits (get_or c.args.bytes.now 0 0) c.number.result _ (omega (arith, c.type_inv.bytes 0)) c.number.ensures.bound (omega (arith, length-drop 1 c.args.bytes.now)))
