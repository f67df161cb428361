-- A cluster from what its steps did.
use Rattle.std.proofs.Common.{◌≡◌, ℕ, ◌+◌, List, [], ◌++◌, length, Option, refl, subst, add-zero}
use Rattle.pulse_base.specs.Link.{Receipt, Sent, Traffic}
use Rattle.pulse_base.specs.Spawner.{Family}
use Rattle.code_image.specs.declared.image.Image.{Image}
use Rattle.client_core.specs.Requests.{ClientState}
use Rattle.pulse_codegen.specs.Compiled.{CompilesAll}
use Rattle.scenario_text.specs.declared.scenario.Scenario.{Scenario}
use Rattle.scenario_parts.specs.Clients.{first_client}
use Rattle.pulse_serve.specs.Frames.{Grew}
use Rattle.pulse_serve.specs.ClientRun.{ServesClient}
use Rattle.pulse_serve.proofs.Traffics.{append_nil}
use Rattle.pulse_serve.proofs.Traffics as traffic
use Rattle.pulse_process.specs.declared.told.Told.{Told}
use Rattle.pulse_process.specs.Bound.{BoundTo, end_of}
use Rattle.pulse_process.specs.Ask.{client_text}
use Rattle.pulse_cluster.specs.Cluster.{FamilyGrew, IsCluster, starts, child_words, stops}
use Rattle.pulse_cluster.proofs.Families.{grew_more}

-- what a process sends after it has served
sent_after : (port : ℕ) (a b c : Option Traffic) (P : List Receipt → List Sent → Type 0) (more : List Sent) → BoundTo port a b P → Grew b c [] more
    → BoundTo port a c (λ rs ss. (asked : List Sent) × P rs asked × (ss ≡ asked ++ more))
sent_after port a b c P more h g = (
  h.0,
  h.1,
  (
    h.2.0,
    h.2.1 ++ more,
    subst (λ l. Grew h.0 c l (h.2.1 ++ more)) (append_nil h.2.0) (traffic.grew_more h.0 b c h.2.0 [] h.2.1 more h.2.2 g),
    (h.2.1, h.2.3, refl),
  ),
)

-- all were started and then waited for
started_and_waited : (a b c : Option Family) (text : List ℕ) (words : List (List (List ℕ))) (kids : List ℕ) → FamilyGrew a b (starts text words kids) [] → FamilyGrew b c [] kids
    → FamilyGrew a c (starts text words kids) kids
started_and_waited a b c text words kids g h =
    subst (λ l. FamilyGrew a c l kids) (append_nil (starts text words kids)) (grew_more a b c (starts text words kids) [] [] kids g h)

pub clustered : (s : Scenario) (text : List ℕ) (turns : ℕ) (net mid now : Option Traffic) (old grown new : Option Family) (told : Told) (images : List Image) (first client : ClientState) (kids : List ℕ)
    → (s.plan).clients ≡ 1 → CompilesAll s.checked images → first ≡ first_client s.plan images 0
    → BoundTo ((s.plan).port + 65 + 0) net mid (λ rs ss. ServesClient (s.plan).port turns (end_of told.finished) first rs client ss)
    → Grew mid now [] (stops (s.plan).port (s.plan).nodes)
    → length kids ≡ (s.plan).nodes + 1 → FamilyGrew old grown (starts text (child_words turns 0 (s.plan).nodes) kids) [] → FamilyGrew grown new [] kids
    → told.text ≡ client_text client → IsCluster s text turns net now old new told
clustered s text turns net mid now old grown new told images first client kids one compiled begins serves sent all started waited says = record {
  one = one;
  images = images;
  compiled = compiled;
  client = client;
  kids = kids;
  all = all;
  family = started_and_waited old grown new text (child_words turns 0 (s.plan).nodes) kids started waited;
  serves =
      subst (λ f. BoundTo ((s.plan).port + 65) net now (λ rs ss. (asked : List Sent) × ServesClient (s.plan).port turns (end_of told.finished) f rs client asked × (ss ≡ asked ++ stops (s.plan).port (s.plan).nodes))) begins
      (subst (λ p. BoundTo p net now (λ rs ss. (asked : List Sent) × ServesClient (s.plan).port turns (end_of told.finished) first rs client asked × (ss ≡ asked ++ stops (s.plan).port (s.plan).nodes))) (add-zero ((s.plan).port + 65))
      (sent_after ((s.plan).port + 65 + 0) net mid now (λ rs ss. ServesClient (s.plan).port turns (end_of told.finished) first rs client ss) (stops (s.plan).port (s.plan).nodes) serves sent));
  text = says;
}
