use Rattle.std.proofs.Common.{◌≡◌, ℕ, Bool, ◌&&◌, List, take, drop}
use Rattle.flat_run.specs.declared.state.FlatState.{FlatState}
use Rattle.flat_run.specs.Walk.{Walk, walks_of}
use Rattle.flat_run.specs.Run.{flat_run, is_legal}
use Rattle.flat_run.proofs.order.run.Given as goal

-- the state stands after the steps that were taken; the steps that are left do to it what all of them do to the first one
pub record Stepped (walks : List Walk) (limit : ℕ) (before now : FlatState) (order : List ℕ) (at : ℕ) (legal : Bool) : Type 0 where
  pub reached : now ≡ flat_run walks limit before (take at order)
  pub same : flat_run walks limit before order ≡ flat_run walks limit now (drop at order)
  pub legality : is_legal walks limit before order ≡ (legal && is_legal walks limit now (drop at order))

abbrev pub invariant-order : goal.invariant-order
invariant-order l = Stepped (walks_of l.walks) l.limit l.fn.state l.state l.order l.r-index l.legal
