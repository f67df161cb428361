-- What a cluster leaves: the children that were started and waited for, what was sent, and the answers of its one client.
use Rattle.std.specs.Prelude.{◌≡◌, ℕ, zero, suc, ◌+◌, List, [], ◌∷◌, ◌++◌, length, codes, decimal, Option, Some, None}
use Rattle.pulse_base.specs.Link.{Traffic, Sent}
use Rattle.pulse_base.specs.Spawner.{Family, Start}
use Rattle.code_image.specs.declared.image.Image.{Image}
use Rattle.frame_codec.specs.declared.frame.Frame.TheVariants as frames
use Rattle.client_core.specs.Requests.{ClientState}
use Rattle.pulse_codegen.specs.Compiled.{CompilesAll}
use Rattle.scenario_text.specs.declared.scenario.Scenario.{Scenario}
use Rattle.scenario_parts.specs.Clients.{first_client}
use Rattle.pulse_serve.specs.Frames.{letter}
use Rattle.pulse_serve.specs.ClientRun.{ServesClient}
use Rattle.pulse_process.specs.declared.told.Told.{Told}
use Rattle.pulse_process.specs.Bound.{BoundTo, end_of}
use Rattle.pulse_process.specs.Ask.{client_text}

-- ---- the children

-- the words of a child that is node n, and of one that is the switch
abbrev pub node_words : (n turns : ℕ) → List (List ℕ)
node_words n turns = codes "node" ∷ decimal n ∷ decimal turns ∷ []

abbrev pub switch_words : (turns : ℕ) → List (List ℕ)
switch_words turns = codes "switch" ∷ decimal turns ∷ []

-- a count of nodes from node n on, and then the switch
abbrev pub child_words : (turns n count : ℕ) → List (List (List ℕ))
child_words turns n zero = switch_words turns ∷ []
child_words turns n (suc count) = node_words n turns ∷ child_words turns (suc n) count

-- the children of these words, each with the same input, and the numbers that they were given
abbrev pub starts : List ℕ → List (List (List ℕ)) → List ℕ → List Start
starts input (w ∷ words) (k ∷ kids) = record { words = w; input = input; kid = k } ∷ starts input words kids
starts input _ _ = []

-- the family has these children more, and waited for these
abbrev pub FamilyGrew : (old now : Option Family) → List Start → (waited : List ℕ) → Type 0
FamilyGrew None now started waited = now ≡ None
FamilyGrew (Some f) now started waited = now ≡ Some (record { started = f.started ++ started; waited = f.waited ++ waited })

-- ---- what ends them

abbrev pub three_stops : (port : ℕ) → List Sent
three_stops port = letter port frames.Stop ∷ letter port frames.Stop ∷ letter port frames.Stop ∷ []

-- three Stops to each of a count of nodes, from node n on
abbrev pub node_stops : (port n count : ℕ) → List Sent
node_stops port n zero = []
node_stops port n (suc count) = three_stops (port + 1 + n) ++ node_stops port (suc n) count

-- and then three to the switch
abbrev pub stops : (port nodes : ℕ) → List Sent
stops port nodes = node_stops port 0 nodes ++ three_stops port

-- ---- the whole

-- All nodes and then the switch were started, each with the document as its input; client 0 asked all requests in so many turns at
-- most; all were stopped; and all were waited for in the order of their starts.
pub record IsCluster (s : Scenario) (input : List ℕ) (turns : ℕ) (net now : Option Traffic) (old new : Option Family) (told : Told) : Type 0 where
  pub one : (s.plan).clients ≡ 1
  pub images : List Image
  pub compiled : CompilesAll s.checked images
  pub client : ClientState
  pub kids : List ℕ
  pub all : length kids ≡ (s.plan).nodes + 1
  pub family : FamilyGrew old new (starts input (child_words turns 0 (s.plan).nodes) kids) kids
  pub serves : BoundTo ((s.plan).port + 65) net now (λ rs ss. (asked : List Sent) × ServesClient (s.plan).port turns (end_of told.finished) (first_client s.plan images 0) rs client asked × (ss ≡ asked ++ stops (s.plan).port (s.plan).nodes))
  pub text : told.text ≡ client_text client
