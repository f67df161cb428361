use Rattle.std.proofs.Common.{◌≡◌, ◌<◌, ◌-◌, drop, length}
use Rattle.scenario_text.specs.Numbers.{number_from}
use Rattle.scenario_text.proofs.number.number_of.Given as goal

abbrev pub invariant-digits : goal.invariant-digits
invariant-digits l = (number_from l.base l.limit 0 l.text ≡ number_from l.base l.limit l.n (drop l.at l.text)) × (l.n < l.limit)

abbrev pub decreases-digits : goal.decreases-digits
decreases-digits l = length l.text - l.at
