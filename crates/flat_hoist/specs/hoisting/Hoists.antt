-- When a field may be read once, into a slot.
use Rattle.std.specs.Prelude.{◌≡◌, ℕ, ◌+◌, ◌<◌, ◌≤◌, true}
use Rattle.iter_unroll.specs.declared.tree.Flat.{Flat}
use Rattle.iter_unroll.specs.Limits.{fs_nodes}
use Rattle.iter_unroll.specs.Tree.{fsts}
use Rattle.flat_hoist.specs.declared.field.Field.{Field}
use Rattle.flat_hoist.specs.hoisting.Clear.{clear}
use Rattle.flat_hoist.specs.hoisting.Reads.{all_reads}

-- end or next reads it, neither stores over it or names the slot, and there is room for one more statement
pub record CanHoist (flat : Flat) (h : Field) (k : ℕ) : Type 0 where
  pub slot : k < 8
  pub ends : clear h k (fsts flat.end_part) ≡ true
  pub next : clear h k (fsts flat.next_part) ≡ true
  pub read : 0 < all_reads h (fsts flat.end_part) + all_reads h (fsts flat.next_part)
  pub room : fs_nodes (fsts flat.end_part) + fs_nodes (fsts flat.next_part) + 2 ≤ 2000
