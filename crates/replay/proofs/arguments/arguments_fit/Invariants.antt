use Rattle.std.proofs.Common.{◌<◌, ◌^◌, take}
use Rattle.std.specs.Prelude.{All}
use Rattle.replay.proofs.arguments.arguments_fit.Given as goal

abbrev pub invariant-requests : goal.invariant-requests
invariant-requests l = All (λ q. All (λ v. v < 2 ^ 64) q.args.items) (take l.request-index l.requests)
