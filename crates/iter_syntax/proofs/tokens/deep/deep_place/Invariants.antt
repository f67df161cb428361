use Rattle.std.proofs.Common.{◌≡◌, ◌≤◌, drop}
use Rattle.iter_syntax.specs.Deep.{deep_from}
use Rattle.iter_syntax.proofs.tokens.deep.deep_place.Given as goal

abbrev pub invariant-loop-token : goal.invariant-loop-token
invariant-loop-token l = record {
  depth_bound : l.depth ≤ 32;
  stretch_bound : l.stretch ≤ 256;
  same : deep_from 0 0 l.tokens ≡ deep_from l.depth l.stretch (drop l.token-index l.tokens);
}
