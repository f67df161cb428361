-- What stays the same in a run of a scenario: its regions and their owners, its requests, and what the source's iterators mean.
use Rattle.std.specs.Prelude.{ℕ, Bool, List, map, Option, Some, None, slice_get}
use Rattle.std.specs.Option.{option_or}
use Rattle.pulse_base.specs.declared.answer.Cause.TheVariants as cause
use Rattle.pulse_base.specs.declared.plan.RequestPlan.{RequestPlan}
use Rattle.iter_syntax.specs.declared.tree.Iter.{Iter}
use Rattle.iter_syntax.specs.declared.tree.Program.{Program}
use Rattle.iter_check.specs.Layout.{size_of}
use Rattle.iter_check.specs.FaultList.{record_fields}
use Rattle.iter_check.specs.Iteration.{Iterated, iteration, Begun, begin}
use Rattle.iter_check.specs.Iteration as i
use Rattle.run_rules.specs.declared.node.ProgramSizes.{ProgramSizes}
use Rattle.run_rules.specs.Outcome.{Outcome, Begin}
use Rattle.run_rules.specs.Outcome as o
use Rattle.run_views.specs.Setting.{Setting}
use Rattle.scenario_text.specs.declared.scenario.Scenario.{Scenario}
use Rattle.scenario_text.specs.Accepted.{IsRunnable}

-- ---- the source's iterators, as the rules of a run have them

abbrev pub outcome_of : Iterated → Outcome
outcome_of (i.Done bytes pad) = o.Done bytes pad
outcome_of (i.Goes to bytes pad) = o.Goes to bytes pad
outcome_of (i.Fault c) = o.Faults c

abbrev pub begun_of : Begun → Begin
begun_of (i.Ready cur pad) = o.Ready cur pad
begun_of (i.Ended pad) = o.Ended pad
begun_of i.DivZero = o.DivZero

-- one iteration of an iterator of the program, where it is there
abbrev pub iterate_by : Program → Option Iter → (bytes : List ℕ) (cur : ℕ) (pad : List ℕ) (writable : Bool) → Outcome
iterate_by p None bytes cur pad writable = o.Faults cause.DivZero
iterate_by p (Some it) bytes cur pad writable = outcome_of (iteration (record_fields p.records it) it bytes cur pad writable)

abbrev pub begin_by : Option Iter → (args : List ℕ) → Begin
begin_by None args = o.DivZero
begin_by (Some it) args = begun_of (begin it args)

-- the bytes of a record of the iterator, and of its pad
abbrev pub sizes_of : Program → Iter → ProgramSizes
sizes_of p it = record { record_size = size_of (record_fields p.records it); pad_size = size_of it.pad }

-- ---- requests by number; past the last stands the first, so that each number has one

abbrev pub request_of : List RequestPlan → ℕ → Option RequestPlan
request_of requests r = option_or (slice_get requests r) (slice_get requests 0)

abbrev pub client_in : Option RequestPlan → ℕ
client_in None = 0
client_in (Some q) = q.client

abbrev pub iter_in : Option RequestPlan → ℕ
iter_in None = 0
iter_in (Some q) = q.iter

abbrev pub begin_in : Program → Option RequestPlan → Begin
begin_in p None = o.DivZero
begin_in p (Some q) = begin_by (slice_get p.iters q.iter) q.args.items

-- ---- the whole

abbrev pub setting_of : (s : Scenario) → IsRunnable s → Setting
setting_of s h = record {
  table = map (λ r. r.span) (s.plan).regions;
  owners = map (λ r. r.node) (s.plan).regions;
  sizes = map (sizes_of s.checked) (s.checked).iters;
  clients = (s.plan).clients;
  client = λ r. client_in (request_of (s.plan).requests r);
  program = λ r. iter_in (request_of (s.plan).requests r);
  begin = λ r. begin_in s.checked (request_of (s.plan).requests r);
  iterate = λ program bytes cur pad writable. iterate_by s.checked (slice_get (s.checked).iters program) bytes cur pad writable;
  budget = (s.plan).budget;
  rounds = (s.plan).rounds;
  tries = (s.plan).tries;
  some_budget = h.budget;
  some_rounds = h.rounds.0;
}
