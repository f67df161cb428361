-- A change of one request: its next spine, of which each frame that was possible before is possible still.
use Rattle.std.proofs.Common.{◌≡◌, ℕ, Some}
use Rattle.run_laws.specs.Plan.{Leg, Back, Plan}
use Rattle.run_laws.specs.Node.{Kept}
use Rattle.run_laws.specs.Spines.Spine.{Spine, sent_leg, became}
use Rattle.run_laws.specs.Spines.Fits.{RequestView, Fits}

-- legs that were sent stay sent, and backs that are kept stay kept
pub record Grows (P : Plan) (r : ℕ) (s t : Spine) : Type 0 where
  pub legs : (k : ℕ) (l : Leg) → sent_leg P r s.past s.stand k ≡ Some l → sent_leg P r t.past t.stand k ≡ Some l
  pub backs : (k : ℕ) (b : Back) → became r s.past s.stand k ≡ Kept b → became r t.past t.stand k ≡ Kept b

-- a spine that explains the request after the change, and goes on from the one before
pub record Follows (P : Plan) (r : ℕ) (s : Spine) (v : RequestView) : Type 0 where
  pub spine : Spine
  pub fits : Fits P r v spine
  pub grows : Grows P r s spine
