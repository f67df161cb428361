-- A flat run: steps in the order of a list of request numbers.
use Rattle.std.specs.Prelude.{◌≡◌, ℕ, ◌<◌, Bool, true, ◌&&◌, List, [], ◌∷◌, length, take, get_or, IsTrue}
use Rattle.flat_run.specs.declared.state.FlatState.{FlatState}
use Rattle.flat_run.specs.Walk.{Walk}
use Rattle.flat_run.specs.Step.{can_step, flat_step}

abbrev pub flat_run : List Walk → ℕ → FlatState → List ℕ → FlatState
flat_run walks limit s [] = s
flat_run walks limit s (r ∷ order) = flat_run walks limit (flat_step walks limit s r) order

-- each request that the order names can step when its turn comes
abbrev pub is_legal : List Walk → ℕ → FlatState → List ℕ → Bool
is_legal walks limit s [] = true
is_legal walks limit s (r ∷ order) = can_step walks limit s r && is_legal walks limit (flat_step walks limit s r) order

abbrev pub Legal : List Walk → ℕ → FlatState → List ℕ → Type 0
Legal walks limit s order = IsTrue (is_legal walks limit s order)

-- the state stands after some of the order's steps, from its front on, and before one that the next request could take
pub record AfterSome (walks : List Walk) (limit : ℕ) (before now : FlatState) (order : List ℕ) : Type 0 where
  pub steps : ℕ
  pub some : steps < length order
  pub same : now ≡ flat_run walks limit before (take steps order)
  pub able : can_step walks limit now (get_or order steps 0) ≡ true
