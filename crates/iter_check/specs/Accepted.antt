-- What the checker answers, and what is known of the iterators of an accepted program.
use Rattle.std.specs.Prelude.{◌≡◌, ◌≤◌, ℕ, false, true, List, [], length, slice_get, Some}
use Rattle.iter_syntax.specs.declared.tree.Block.{Block}
use Rattle.iter_syntax.specs.declared.tree.Iter.{Iter}
use Rattle.iter_syntax.specs.declared.tree.Program.{Program}
use Rattle.iter_syntax.specs.Tree.{block}
use Rattle.iter_check.specs.Layout.{size_of}
use Rattle.iter_check.specs.declared.kind.Fault.{Fault}
use Rattle.iter_check.specs.declared.kind.CheckError.{CheckError}
use Rattle.iter_check.specs.declared.kind.CheckError.TheVariants as error
use Rattle.iter_check.specs.declared.sort.Part.TheVariants as part
use Rattle.iter_check.specs.Scope.{Scope, Ground}
use Rattle.iter_check.specs.Scoping.{scoping}
use Rattle.iter_check.specs.Paths.{ends, paths}
use Rattle.iter_check.specs.Indices.{indices}
use Rattle.iter_check.specs.FaultList.{twice, record_fields, with_args, ground, init_nodes, body_nodes, fault_list}

-- an answer tells the first fault of a list, or that memory is wanting
abbrev pub IsFirst : List Fault → CheckError → Type 0
IsFirst fs (error.Fault kind place) = slice_get fs 0 ≡ Some (record { kind = kind; place = place })
IsFirst fs error.Memory = Unit {0}

-- a number of bytes of a record or a pad: 1 to 256
abbrev pub IsSize : ℕ → Type 0
IsSize n = (1 ≤ n) × (n ≤ 256)

-- a block that has no fault
pub record AcceptedBlock (g : Ground) (scope : Scope) (b : Block) : Type 0 where
  pub scoping : scoping g scope (block b) ≡ []
  pub paths : paths g.part false (block b) ≡ []
  pub indices : indices g [] (block b) ≡ []

-- an iterator that has no fault
pub record AcceptedIter (p : Program) (it : Iter) : Type 0 where
  pub record_size : IsSize (size_of (record_fields p.records it))
  pub pad_size : IsSize (size_of it.pad)
  pub args : length it.args ≤ 8
  pub args_differ : twice (λ a. a.name) [] it.args ≡ []
  pub init_nodes : init_nodes it ≤ 2000
  pub body_nodes : body_nodes it ≤ 2000
  pub init_part : AcceptedBlock (ground p.records it part.Init) (with_args it.args []) it.init_part
  pub init_ends : ends (block it.init_part) ≡ true
  pub end_part : AcceptedBlock (ground p.records it part.End) [] it.end_part
  pub next_part : AcceptedBlock (ground p.records it part.Next) [] it.next_part
  pub next_ends : ends (block it.next_part) ≡ true

-- each iterator of an accepted program is accepted
abbrev pub AcceptedLaw : Type 0
AcceptedLaw = (p : Program) (i : ℕ) (it : Iter) → fault_list p ≡ [] → slice_get p.iters i ≡ Some it → AcceptedIter p it
