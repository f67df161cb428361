-- What a spawner in memory holds, and what a call does to its counts.
use Rattle.std.specs.Prelude.{◌≡◌, ◌<◌, ℕ, List, [], map, Result, Ok, Err}
use Rattle.pulse_base.specs.InMemory.{next}
use Rattle.pulse_base.specs.Spawner.{Family}
use Rattle.pulse_base.specs.Spawner as spawner
use Rattle.pulse_net.specs.declared.start.Start.{Start}

-- the children started and waited for, the statuses that its waits give in order, the numbers of the calls that fail,
-- calls made, calls that failed
pub record SpawnerState : Type 0 where
  pub family : Family
  pub statuses : List ℕ
  pub fails : List ℕ
  pub calls : ℕ
  pub faults : ℕ

abbrev pub IsStatus : ℕ → Type 0
IsStatus n = n < 256

abbrev pub start_of : Start → spawner.Start
start_of s = record { words = s.words; input = s.input; kid = s.kid }

abbrev pub family_of : List Start → List ℕ → Family
family_of started waited = record { started = map start_of started; waited = waited }

abbrev pub new_spawner : List ℕ → List ℕ → SpawnerState
new_spawner statuses fails = record { family = record { started = []; waited = [] }; statuses = statuses; fails = fails; calls = 0; faults = 0 }

-- each call is counted, and one that fails is counted as a fault too
abbrev pub Counted : {T E : Type 0} → SpawnerState → SpawnerState → Result T E → Type 0
Counted old now (Ok x) = now ≡ record old { family = now.family; calls = next old.calls }
Counted old now (Err e) = now ≡ record old { calls = next old.calls; faults = next old.faults }
