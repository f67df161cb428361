-- What the steps of the drain do.
use Rattle.std.specs.Prelude.{◌≡◌, ◌≢◌, ℕ, suc, ◌+◌, ◌-◌, ◌*◌, true, Option, Some, None, slice_get, if◌then◌else◌}
use Rattle.pulse_base.specs.declared.event.Trace.{Trace}
use Rattle.pulse_base.specs.declared.event.Trace.TheVariants.{Started}
use Rattle.run_laws.specs.Flat.{Flat}
use Rattle.run_laws.specs.Spines.Sound.{number_in}
use Rattle.run_views.specs.Setting.{Setting}
use Rattle.client_core.specs.Requests.{ClientState}
use Rattle.event_run.specs.Letters.{Letter}
use Rattle.event_run.specs.World.{WorldState}
use Rattle.event_run.specs.Always.{content_view}
use Rattle.drain_run.specs.Drain.{after_turns, last_letter, resends, Rounds, waits}
use Rattle.drain_run.specs.Draining.{AllIdle, IsDraining, rank_of}
use Rattle.world_core.specs.declared.letter.To.{To}
use Rattle.world_core.specs.declared.letter.To.TheVariants.{Node}
use Rattle.world_core.specs.Scene.{Scene, world_of}

-- request r's current leg is sent again, and nothing else changes
pub record Resends (old new : Scene) (r : ℕ) : Type 0 where
  pub world : (u : Setting) → world_of new ≡ resends u (world_of old) r
  pub others : new ≡ record old { letters = new.letters }

-- a delivery started a leg on the node that the letter goes to, or started none there
abbrev pub StartedOn : Trace → To → Option ℕ → Type 0
StartedOn told to (Some n) = (told ≡ Started) × (to ≡ Node n)
StartedOn told to None = (n : ℕ) → told ≡ Started → to ≢ Node n

-- some turns of node n
abbrev pub Turns : ℕ → Setting → Flat → WorldState → WorldState → Type 0
Turns n u start w v = (k : ℕ) × (v ≡ after_turns u n k w)

-- request r's leg was sent again, and some rounds were made; while it waits it is draining
pub record InRounds (r : ℕ) (u : Setting) (start : Flat) (w v : WorldState) : Type 0 where
  pub count : ℕ
  pub rounds : Rounds u r count (resends u w r) v
  pub idle : AllIdle v
  pub draining : waits v r ≡ true → IsDraining u start v r

-- ---- the number that rounds lower

-- the iterations that a client's request may make in all
abbrev pub limit_of : Option ClientState → ℕ
limit_of None = 0
limit_of (Some k) = k.terms.rounds * k.terms.budget

abbrev pub client_at : Scene → Option ℕ → Option ClientState
client_at s None = None
client_at s (Some home) = slice_get s.clients home

-- four times the legs that may still come, and how far a letter is
abbrev pub far : ℕ → Option Letter → ℕ
far limit None = 0
far limit (Some m) = 4 * (limit + 1 - number_in (content_view m.content)) + rank_of m.to m.content

abbrev pub to_come : Scene → ℕ → ℕ
to_come s r = if waits (world_of s) r then suc (far (limit_of (client_at s (slice_get s.homes r))) (last_letter (world_of s))) else 0
