use Rattle.std.proofs.Common.{◌≡◌, ◌+◌, drop}
use Rattle.iter_check.specs.Layout.{size_of}
use Rattle.iter_check.proofs.fields.size_of.Given as goal

abbrev pub invariant-fields : goal.invariant-fields
invariant-fields l = l.size + size_of (drop l.field-index l.fields) ≡ size_of l.fields
