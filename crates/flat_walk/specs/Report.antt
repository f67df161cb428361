-- The report of the one walk that a document asks for.
use Rattle.std.specs.Prelude.{◌≡◌, ℕ, List, [], ◌∷◌, map, replicate, Some, if◌then◌else◌}
use Rattle.pulse_base.specs.declared.answer.Answer.{Answer}
use Rattle.pulse_base.specs.declared.event.Trace.{Trace}
use Rattle.pulse_base.specs.declared.event.Trace.TheVariants as trace
use Rattle.iter_check.specs.Iteration.{Begun, Ready, Ended, DivZero, begin}
use Rattle.scenario_text.specs.declared.plan.PlanRegion.{PlanRegion}
use Rattle.scenario_text.specs.declared.scenario.Scenario.{Scenario}
use Rattle.flat_run.specs.declared.state.FlatRegion.{FlatRegion}
use Rattle.flat_run.specs.Run.{Legal}
use Rattle.flat_run.specs.Due.{due}
use Rattle.report_text.specs.declared.outcome.OutRegion.{OutRegion}
use Rattle.report_text.specs.declared.outcome.Outcome.{Outcome}
use Rattle.report_text.specs.Report as text
use Rattle.scenario_flat.specs.Runs.{walks_of, limit_of, first_of, after}

-- what the ask of a request does: it sends the first letter, or the request has its answer since init ends or faults
abbrev pub trace_of : Begun → Trace
trace_of (Ready cur pad) = trace.Sent 0
trace_of (Ended pad) = trace.Answered
trace_of DivZero = trace.Answered

-- the one event is the ask; it is told where the document says so
abbrev pub traces : Scenario → List Trace
traces s = if s.plan.trace then map (λ w. trace_of (begin w.iter w.args)) (walks_of s) else []

-- the regions after the run, each shown as the document says
abbrev pub out_regions : List PlanRegion → List FlatRegion → List OutRegion
out_regions (p ∷ ps) (r ∷ rs) = record { shown = p.shown; bytes = r.bytes } ∷ out_regions ps rs
out_regions _ _ = []

-- what so many iterations of request 0 leave, where this is its answer
abbrev pub outcome : Scenario → ℕ → Answer → Outcome
outcome s turns answer = record {
  trace = traces s;
  order = replicate turns 0;
  answers = answer ∷ [];
  regions = out_regions s.plan.regions (after s (replicate turns 0)).regions;
}

-- request 0 makes one iteration after the other, each of which it can make, until its answer is due, and the bytes are
-- the report of that
pub record IsWalkReport (s : Scenario) (bytes : List ℕ) : Type 0 where
  pub turns : ℕ
  pub answer : Answer
  pub legal : Legal (walks_of s) (limit_of s.plan) (first_of s) (replicate turns 0)
  pub due : due (walks_of s) (limit_of s.plan) (after s (replicate turns 0)) 0 ≡ Some answer
  pub report : bytes ≡ text.report (outcome s turns answer)
