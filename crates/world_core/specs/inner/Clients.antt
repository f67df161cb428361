-- One client of many asks, ticks or hears.
use Rattle.std.specs.Prelude.{◌≡◌, ℕ, List, Some, slice_get, slice_set}
use Rattle.frame_codec.specs.declared.frame.Back.{Back}
use Rattle.run_rules.specs.declared.client.Asking.{Asking}
use Rattle.run_rules.specs.declared.client.Heard.{Heard}
use Rattle.client_core.specs.declared.request.Request.{Request}
use Rattle.client_core.specs.Requests.{ClientState, Has, find}
use Rattle.client_core.specs.Calls.{Does, Hears}

-- the client of a number has a request of a number
abbrev pub HasAt : List ClientState → (c r : ℕ) → Type 0
HasAt clients c r = (k : ClientState) × (slice_get clients c ≡ Some k) × Has k r

pub record DoesAt {A : Type 0} (old new : List ClientState) (c r : ℕ) (rule : ClientState → Request → Asking × A) (answer : A) : Type 0 where
  pub before : ClientState
  pub after : ClientState
  pub stands : slice_get old c ≡ Some before
  pub does : Does before after r (rule before) answer
  pub left : new ≡ slice_set old c after

pub record HearsAt (old new : List ClientState) (c : ℕ) (b : Back) (answer : Heard) : Type 0 where
  pub before : ClientState
  pub after : ClientState
  pub stands : slice_get old c ≡ Some before
  pub hears : Hears before after b answer (find before.requests b.request)
  pub left : new ≡ slice_set old c after
