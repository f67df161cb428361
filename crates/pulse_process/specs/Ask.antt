-- What a process that is a client leaves, and what it tells.
use Rattle.std.specs.Prelude.{◌≡◌, ℕ, ◌+◌, ◌<◌, List, [], ◌∷◌, ◌++◌, codes, Option}
use Rattle.pulse_base.specs.Link.{Traffic}
use Rattle.code_image.specs.declared.image.Image.{Image}
use Rattle.run_rules.specs.Client.{answer_of}
use Rattle.client_core.specs.declared.request.Request.{Request}
use Rattle.client_core.specs.Requests.{ClientState}
use Rattle.pulse_codegen.specs.Compiled.{CompilesAll}
use Rattle.report_text.specs.Report.{answer_line}
use Rattle.scenario_text.specs.declared.scenario.Scenario.{Scenario}
use Rattle.scenario_parts.specs.Clients.{first_client}
use Rattle.pulse_serve.specs.ClientRun.{ServesClient}
use Rattle.pulse_process.specs.declared.told.Told.{Told}
use Rattle.pulse_process.specs.Bound.{BoundTo, end_of}

-- the line of each request, in order; one that waits is open
abbrev pub request_lines : List Request → List ℕ
request_lines [] = []
request_lines (q ∷ requests) = answer_line q.plan.number (answer_of q.asking) ++ request_lines requests

abbrev pub client_text : ClientState → List ℕ
client_text c = request_lines c.requests ++ codes "end\n"

-- client c of the scenario asked all its requests over the link, in so many turns at most, and is this client now
pub record IsAsk (s : Scenario) (c turns : ℕ) (net now : Option Traffic) (told : Told) : Type 0 where
  pub there : c < (s.plan).clients
  pub images : List Image
  pub compiled : CompilesAll s.checked images
  pub client : ClientState
  pub serves : BoundTo ((s.plan).port + 65 + c) net now (λ rs ss. ServesClient (s.plan).port turns (end_of told.finished) (first_client s.plan images c) rs client ss)
  pub text : told.text ≡ client_text client
