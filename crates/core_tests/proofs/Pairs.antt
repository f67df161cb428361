-- Two regions that lie apart are what a node may hold: the tests' node has two.
use Rattle.std.proofs.Common.{◌≡◌, ◌≢◌, zero, suc, ◌+◌, ◌^◌, ◌≤◌, [], ◌∷◌, length, inl, arith}
use Rattle.std.specs.Prelude.{All, AllPairs}
use Rattle.range_table.specs.declared.region.RegionSpan.{RegionSpan}
use Rattle.range_table.specs.Memory.{end_of}
use Rattle.range_table.specs.Table.{AreApart}
use Rattle.run_rules.specs.declared.node.NodeRegion.{NodeRegion}
use Rattle.node_core.specs.Part.{IsRegions}

all_two : {A : Type 0} (P : A → Type 0) (a b : A) → P a → P b → All P (a ∷ b ∷ [])
all_two P a b p q zero d lt = p
all_two P a b p q (suc zero) d lt = q
all_two P a b p q (suc (suc k)) d lt = absurd (omega (arith, lt))

pairs_two : {A : Type 0} (R : A → A → Type 0) (a b : A) → R a b → AllPairs R (a ∷ b ∷ [])
pairs_two R a b r i zero d less lt = absurd (omega (arith, less))
pairs_two R a b r zero (suc zero) d less lt = r
pairs_two R a b r (suc i) (suc zero) d less lt = absurd (omega (arith, less))
pairs_two R a b r i (suc (suc j)) d less lt = absurd (omega (arith, lt))

pub two_fit : (a b : NodeRegion) → 1 ≤ a.span.len → a.span.base + a.span.len ≤ b.span.base → 1 ≤ b.span.len → b.span.base + b.span.len ≤ 2 ^ 48 → a.span.len + b.span.len ≤ 2 ^ 24
    → a.number ≢ b.number → length a.bytes ≡ a.span.len → length b.bytes ≡ b.span.len → IsRegions (a ∷ b ∷ [])
two_fit a b filled order some end total numbers first second = record {
  table = record {
    few = omega arith;
    filled = all_two (λ (r : RegionSpan). 1 ≤ r.len) a.span b.span filled some;
    low = all_two (λ (r : RegionSpan). end_of r ≤ 2 ^ 48) a.span b.span (omega (arith, order, end)) end;
    apart = pairs_two AreApart a.span b.span (inl order);
  };
  numbers = pairs_two ◌≢◌ a.number b.number numbers;
  bytes = λ i. first i ∷ second i ∷ [];
  total = omega (arith, total);
}
