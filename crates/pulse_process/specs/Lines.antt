-- What a user reads of a process that failed.
use Rattle.std.specs.Prelude.{ℕ, List, codes}
use Rattle.pulse_process.specs.declared.fault.FormLimit.{FormLimit}
use Rattle.pulse_process.specs.declared.fault.FormLimit.TheVariants as limit

abbrev pub limit_word : FormLimit → List ℕ
limit_word limit.Node = codes "node"
limit_word limit.Client = codes "client"
limit_word limit.Clients = codes "clients"
