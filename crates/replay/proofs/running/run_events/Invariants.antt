use Rattle.std.proofs.Common.{◌+◌, ◌≤◌, length, take}
use Rattle.replay.specs.inner.Runs.{Lasts, RunsEvents}
use Rattle.replay.proofs.running.run_events.Given as goal

abbrev pub invariant-events : goal.invariant-events
invariant-events g l = record {
  runs : RunsEvents l.fn.world l.world (take l.event-index l.events) l.told l.traces;
  lasts : Lasts l.fn.world l.world;
  few : length l.world.letters ≤ length l.fn.world.letters + l.event-index;
}
