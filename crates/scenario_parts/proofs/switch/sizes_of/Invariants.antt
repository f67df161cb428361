use Rattle.std.proofs.Common.{◌≡◌, map, take, All}
use Rattle.iter_check.specs.Layout.{size_of}
use Rattle.iter_check.specs.FaultList.{record_fields}
use Rattle.switch_core.specs.Owners.{IsRecordSize}
use Rattle.scenario_parts.proofs.switch.sizes_of.Given as goal

abbrev pub invariant-sizes : goal.invariant-sizes
invariant-sizes l = record {
  sizes : l.sizes ≡ map (λ it. size_of (record_fields l.checked.records it)) (take l.iter l.checked.iters);
  bounds : All IsRecordSize l.sizes;
}
