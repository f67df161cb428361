use Rattle.std.proofs.Common.{◌≡◌, ◌-◌, drop, length}
use Rattle.toml.specs.View.{items_view}
use Rattle.scenario_text.specs.Form.{each, request_fault}
use Rattle.scenario_text.proofs.request.check_requests.Given as goal

abbrev pub invariant-requests : goal.invariant-requests
invariant-requests l = each (request_fault l.clients) 0 (items_view l.values) ≡ each (request_fault l.clients) l.at (items_view (drop l.at l.values))

abbrev pub decreases-requests : goal.decreases-requests
decreases-requests l = length l.values - l.at
