use Rattle.std.proofs.Common.{◌≤◌, ℕ, ◌<◌, length, refl, arith}
use Rattle.range_table.specs.Table.{IsClear}
use Rattle.range_table.proofs.Faults.{table_from_clear, clear_from_table, no_table_fault, table_fault-first}
use Rattle.range_table.proofs.table.Table.new.Goals as goal

few : (c : goal.In-Ok) → length c.args.list ≤ 64
few c = omega arith

clear : (c : goal.In-Ok) (k : ℕ) → k < length c.args.list → IsClear c.args.list k
clear c = rw c.as_slice.ensures at c.in-Ok.ensures.clear

pub invariant_of-result : goal.invariant_of-result
invariant_of-result c = record {
  table = table_from_clear c.args.list (few c) (clear c);
  order = rw c.as_slice.ensures at c.in-Ok.ensures.ordered;
}

pub returns-in-Ok-clause-made : goal.returns-in-Ok-clause-made
returns-in-Ok-clause-made c = (no_table_fault c.args.list (few c) (clear c), refl)

pub returns-in-Ok-clause-tables : goal.returns-in-Ok-clause-tables
returns-in-Ok-clause-tables c = (λ _. table_from_clear c.args.list (few c) (clear c), λ _. refl)

pub returns-in-Err-clause-tables : goal.returns-in-Err-clause-tables
returns-in-Err-clause-tables c = (
  λ e. absurd (cc),
  λ h.
      let none = no_table_fault c.args.list h.few (clear_from_table c.args.list h) in
      let some = table_fault-first c.args.list c.in-Err.fault h.few (rw c.as_slice.ensures at c.in-Err.ensures.fault) in
      absurd (cc),
)
