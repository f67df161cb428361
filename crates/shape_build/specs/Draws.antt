-- The generator of numbers below 2^32. Its state is at first the seed.
use Rattle.std.specs.Prelude.{ℕ, suc, zero, ◌+◌, ◌*◌, ◌/◌, ◌%◌, ◌^◌}

abbrev pub next_state : ℕ → ℕ
next_state x = (x * 6364136223846793005 + 1442695040888963407) % 2 ^ 64

unfoldable pub state_after : (draws seed : ℕ) → ℕ
state_after zero seed = seed
state_after (suc k) seed = next_state (state_after k seed)

-- the draws from a seed, counted from 0
unfoldable pub draw : (seed k : ℕ) → ℕ
draw seed k = next_state (state_after k seed) / 2 ^ 32

-- a seed, and how many draws were made from it
pub record Drawn : Type 0 where
  pub seed : ℕ
  pub count : ℕ
