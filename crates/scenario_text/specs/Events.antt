-- The events of a schedule, as texts.
use Rattle.std.specs.Prelude.{ℕ, ◌+◌, ◌^◌, ◌&&◌, List, [], ◌∷◌, length, Option, Some, None, option_map, option_and_then, nat_eq, nat_lt, codes, if◌then◌else◌}
use Rattle.std.specs.Option.{option_or}
use Rattle.toml.specs.Data.{Items, no_items, item, as_str}
use Rattle.pulse_base.specs.declared.event.Event.{Event}
use Rattle.pulse_base.specs.declared.event.Event.TheVariants.{Ask, Tick, Deliver, Turn}
use Rattle.scenario_text.specs.declared.fault.DocFault.{DocFault}
use Rattle.scenario_text.specs.declared.fault.DocFault.TheVariants as fault
use Rattle.scenario_text.specs.Numbers.{after, below, number_from}

-- `0`, or decimal digits that do not begin with 0, below 2^32
abbrev pub number_word : List ℕ → Option ℕ
number_word [] = None
number_word (c ∷ cs) = if nat_eq c 48 && nat_lt 0 (length cs) then None else number_from 10 (2 ^ 32) 0 (c ∷ cs)

-- the number after a word and its space
abbrev pub number_after : List ℕ → List ℕ → Option ℕ
number_after word s = option_and_then number_word (after word s)

-- the event of a text, where there are so many requests and nodes
abbrev pub event_of : ℕ → ℕ → List ℕ → Option Event
event_of requests nodes s =
    option_or (option_map Ask (option_and_then (below requests) (number_after (codes "ask ") s)))
    (option_or (option_map Tick (option_and_then (below requests) (number_after (codes "tick ") s)))
    (option_or (option_map Deliver (number_after (codes "deliver ") s))
    (option_map Turn (option_and_then (below nodes) (number_after (codes "turn ") s)))))

abbrev pub no_event : ℕ → Option Event → Option DocFault
no_event i (Some e) = None
no_event i None = Some (fault.Event i)

-- the first text that is no event, from an index on
abbrev pub events_fault : ℕ → ℕ → ℕ → Items → Option DocFault
events_fault requests nodes i no_items = None
events_fault requests nodes i (item d ds) =
    option_or (no_event i (option_and_then (event_of requests nodes) (as_str d))) (events_fault requests nodes (i + 1) ds)
