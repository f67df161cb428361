-- A process binds its port, and then serves.
use Rattle.std.specs.Prelude.{ℕ, List, Bool, true, false, Option, Ok}
use Rattle.pulse_base.specs.declared.source.Failed.{Failed}
use Rattle.pulse_base.specs.Link.{Traffic, Receipt, Sent, Binds}
use Rattle.pulse_serve.specs.declared.served.Served.{Served}
use Rattle.pulse_serve.specs.declared.served.Served.TheVariants as served
use Rattle.pulse_serve.specs.Frames.{Over}

-- the port was bound, and then these items taken and these frames sent, of which this holds
abbrev pub BoundTo : ℕ → (old now : Option Traffic) → (List Receipt → List Sent → Type 0) → Type 0
BoundTo port old now P = (mid : Option Traffic) × Binds {E = Failed} old mid port (Ok tt) × Over mid now P

-- how the loop of a process that tells something ended: it finished, or used all its turns
abbrev pub end_of : Bool → Served
end_of true = served.Stopped
end_of false = served.TurnsUsed
