-- Which accepted documents ask for one walk, and what is run for it.
use Rattle.std.specs.Prelude.{[], ◌∷◌, Bool, not, ◌&&◌, nat_eq, length}
use Rattle.pulse_base.specs.declared.event.Event.TheVariants.{Ask}
use Rattle.scenario_text.specs.declared.plan.Plan.{Plan}
use Rattle.scenario_text.specs.declared.scenario.Scenario.{Scenario}

-- one region, one request, and no key `events`
abbrev pub asks_for_one_walk : Plan → Bool
asks_for_one_walk plan = nat_eq (length plan.regions) 1 && nat_eq (length plan.requests) 1 && not plan.listed

-- the scenario with a schedule of one event: its request is asked
abbrev pub asked : Scenario → Scenario
asked s = record s { plan = record s.plan { events = Ask 0 ∷ [] } }
