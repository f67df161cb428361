-- The world that is made of a scenario's parts.
use Rattle.std.proofs.Common.{◌≡◌, ℕ, Bool, List, [], ◌∷◌, map, refl, ◌∙◌}
use Rattle.std.specs.Prelude.{All, IsTrue}
use Rattle.std.proofs.lemmas.List.{length-map}
use Rattle.code_image.specs.declared.image.Image.{Image}
use Rattle.run_rules.specs.Switch.{SwitchState}
use Rattle.run_rules.specs.Waiting.{Each}
use Rattle.node_core.specs.Part.{PartState}
use Rattle.client_core.specs.Requests.{ClientState}
use Rattle.pulse_codegen.specs.Compiled.{CompilesAll}
use Rattle.scenario_text.specs.declared.scenario.Scenario.{Scenario}
use Rattle.world_core.specs.Scene.{Member, Scene}
use Rattle.scenario_parts.specs.Clients.{first_clients}
use Rattle.scenario_parts.specs.Parts.{first_parts}
use Rattle.scenario_parts.specs.Switch.{first_switch}
use Rattle.replay.specs.inner.First.{first_scene}
use Rattle.replay.specs.inner.Made.{IsMade}
use Rattle.scenario_parts.proofs.Lists.{all_head, all_tail}
use Rattle.replay.proofs.Scenes.{world_is, parts_same, members_count}
use Rattle.replay.proofs.Belonging.{ArgumentsFit, belongs}

pub same_scene : (s : Scenario) (images : List Image) (nodes : List Member) (switch : SwitchState) (copied : List Image) (homes : List ℕ) (clients : List ClientState)
    → switch ≡ first_switch s → copied ≡ images → homes ≡ map (λ q. q.client) (s.plan).requests → clients ≡ first_clients s.plan images 0 (s.plan).clients
    → ◌≡◌ {A = Scene} (record { switch = switch; images = copied; homes = homes; nodes = nodes; clients = clients; letters = []; order = [] }) (first_scene s images nodes)
same_scene s images nodes switch copied homes clients a b c d = λ i. record { switch = a i; images = b i; homes = c i; nodes = nodes; clients = d i; letters = []; order = [] }

all_plain : {A : Type 0} (state : A → PartState) (rest : A → ℕ) (plain : A → Bool) (nodes : List A) → All (λ n. IsTrue (plain n)) nodes
    → Each (λ (m : Member). IsTrue m.plain) (map (λ n. record { part = state n; rest = rest n; plain = plain n }) nodes)
all_plain state rest plain [] h = tt
all_plain state rest plain (n ∷ nodes) h = (all_head (λ n. IsTrue (plain n)) n nodes h, all_plain state rest plain nodes (all_tail (λ n. IsTrue (plain n)) n nodes h))

pub made_is : {A : Type 0} (state : A → PartState) (rest : A → ℕ) (plain : A → Bool) (s : Scenario) (images : List Image) (nodes : List A)
    → CompilesAll s.checked images → ArgumentsFit (s.plan).requests → map state nodes ≡ first_parts s images 0 (s.plan).nodes → All (λ n. IsTrue (plain n)) nodes
    → IsMade s images (first_scene s images (map (λ n. record { part = state n; rest = rest n; plain = plain n }) nodes))
made_is state rest plain s images nodes compiled fit first all =
    let members : List Member = map (λ n. record { part = state n; rest = rest n; plain = plain n }) nodes in
    let same = parts_same state rest plain nodes ∙ first in
    record {
      start = world_is s images members same;
      belongs = λ h. belongs s h images members compiled fit;
      plain = all_plain state rest plain nodes all;
      switch = refl;
      copied = refl;
      nodes = members_count s images members same;
      homes = length-map (s.plan).requests (λ q. q.client);
      letters = refl;
    }
