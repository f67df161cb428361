use Rattle.std.proofs.Common.{◌≡◌, ◌++◌, drop}
use Rattle.pulse_process.specs.Ask.{request_lines}
use Rattle.pulse_process.proofs.ask.client_text.Given as goal

abbrev pub invariant-requests : goal.invariant-requests
invariant-requests l = l.text ++ request_lines (drop l.k l.client.requests) ≡ request_lines l.client.requests
