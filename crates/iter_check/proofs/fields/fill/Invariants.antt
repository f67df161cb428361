use Rattle.std.proofs.Common.{◌≡◌, ◌-◌, ◌++◌, length, take}
use Rattle.iter_check.specs.FieldValue.{bytes_of}
use Rattle.iter_check.proofs.fields.fill.Given as goal

abbrev pub invariant-bytes : goal.invariant-bytes
invariant-bytes l = take l.byte-index l.bytes ++ bytes_of (length l.bytes - l.byte-index) l.left ≡ bytes_of (length l.bytes) l.fn.value
