-- What is answered of a text by a cluster of its scenario. Want of memory may be answered at any time; faults of the link and of
-- children have their causes beside this.
use Rattle.std.specs.Prelude.{◌≢◌, ℕ, List, Option, Result, Ok, Err}
use Rattle.pulse_base.specs.Link.{Traffic}
use Rattle.pulse_base.specs.Spawner.{Family}
use Rattle.pulse_process.specs.declared.told.Told.{Told}
use Rattle.pulse_process.specs.declared.fault.ProcessFault.{ProcessFault}
use Rattle.pulse_process.specs.declared.fault.ProcessFault.TheVariants as fault
use Rattle.pulse_process.specs.declared.fault.FormLimit.{FormLimit}
use Rattle.pulse_process.specs.declared.fault.FormLimit.TheVariants as limit
use Rattle.pulse_process.specs.Answer.{OfScenario, Faults}
use Rattle.pulse_cluster.specs.Cluster.{IsCluster}

-- the document has several clients
abbrev pub HasClients : List ℕ → FormLimit → Type 0
HasClients text limit.Clients = OfScenario text (λ s. (s.plan).clients ≢ 1)
HasClients text _ = ⊥

abbrev pub ClusterAnswer : List ℕ → (turns : ℕ) → (net now : Option Traffic) → (old new : Option Family) → Result Told ProcessFault → Type 0
ClusterAnswer text turns net now old new (Ok told) = OfScenario text (λ s. IsCluster s text turns net now old new told)
ClusterAnswer text turns net now old new (Err fault.Child) = Unit {0}
ClusterAnswer text turns net now old new (Err f) = Faults text (HasClients text) f
