use Rattle.std.proofs.Common.{◌<◌, length, arith}
use Rattle.iter_check.proofs.SlotLaws.{fill_one}
use Rattle.iter_check.proofs.fields.fill.Goals as goal

pub bytes-preserved : goal.bytes-preserved
bytes-preserved c =
    let h : c.bytes.byte-index < length c.bytes.bytes = omega arith in
    fill_one c.bytes.bytes c.bytes.byte-index c.bytes.left c.args.value h c.bytes.invariant
