-- When straight code stands for other straight code.
use Rattle.std.specs.Prelude.{◌≡◌, ℕ, List}
use Rattle.iter_unroll.specs.declared.tree.Flat.{Flat}
use Rattle.iter_unroll.specs.Flat.{Fixed, flat_iteration}
use Rattle.iter_unroll.specs.Tree.{fsts}
use Rattle.iter_unroll.specs.Uses.{flat_uses}
use Rattle.iter_unroll.specs.Span.{HoldsAll, IsSpan}
use Rattle.iter_unroll.specs.Unrolled.{KeepsAll, FewNodes}

-- `new` begins walks as `old` does, an iteration by it is one by `old`, it is held to the same limits, and it uses no byte
-- of the record outside the bounds of those that `old` uses, and has the same bounds
pub record StandsFor (old new : Flat) : Type 0 where
  pub record_size : new.record_size ≡ old.record_size
  pub pad_size : new.pad_size ≡ old.pad_size
  pub args : new.args ≡ old.args
  pub init : new.init_part ≡ old.init_part
  pub iterates : (g : Fixed) (record_bytes pad : List ℕ)
      → flat_iteration g (fsts new.end_part) (fsts new.next_part) record_bytes pad
      ≡ flat_iteration g (fsts old.end_part) (fsts old.next_part) record_bytes pad
  pub keeps : KeepsAll old → KeepsAll new
  pub few : FewNodes old → FewNodes new
  pub holds : (i : ℕ × ℕ) → HoldsAll i (flat_uses old) → HoldsAll i (flat_uses new)
  pub span : (i : ℕ × ℕ) → IsSpan (flat_uses old) i → IsSpan (flat_uses new) i
