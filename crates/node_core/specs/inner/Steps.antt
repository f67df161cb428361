-- The steps of a node's calls.
use Rattle.std.specs.Prelude.{◌≡◌, ◌≢◌, ℕ, List, [], ◌∷◌, Some}
use Rattle.frame_codec.specs.declared.frame.Leg.{Leg}
use Rattle.frame_codec.specs.declared.frame.Frame.TheVariants as frame
use Rattle.frame_codec.specs.Spelling.{MeetsRules}
use Rattle.run_rules.specs.declared.node.LiveLeg.{LiveLeg}
use Rattle.run_rules.specs.declared.node.Accepted.TheVariants as accepted
use Rattle.run_rules.specs.declared.node.Fate.{Fate}
use Rattle.run_rules.specs.declared.node.Fate.TheVariants as fate
use Rattle.run_rules.specs.Node.{NodeState, key_of, place_of}
use Rattle.run_rules.specs.Accepting.{answer_to, number_at, after_answer}
use Rattle.run_rules.specs.Turning.{fate_of, stored, settled}
use Rattle.node_core.specs.inner.Starts.{MayStart}
use Rattle.node_core.specs.declared.node.accepting.Ruling.{Ruling}
use Rattle.node_core.specs.declared.node.accepting.Ruling.TheVariants as ruling
use Rattle.node_core.specs.Part.{PartState, CanRun, ran_by}

-- what the rules say of a leg
abbrev pub Rules : Ruling → NodeState → Leg → Type 0
Rules (ruling.Answers a) n l = (answer_to n l ≡ a) × (after_answer a n l ≡ n) × (a ≢ accepted.Memory)
Rules (ruling.Starts region) n l = (answer_to n l ≡ accepted.Started) × (number_at n (place_of n l) ≡ region) × MayStart n l

-- the iteration of the first live leg
pub record Iterates (old new : PartState) (f : Fate) : Type 0 where
  pub first : LiveLeg
  pub others : List LiveLeg
  pub stands : old.node.live ≡ first ∷ others
  pub place : ℕ
  pub at : place_of old.node first.leg ≡ Some place
  pub fate : f ≡ fate_of old.node first.leg (ran_by old (Some first))
  pub left : new ≡ record old { node = stored old.node first.leg (ran_by old (Some first)) (Some place) }

-- what becomes of the first live leg is possible
abbrev pub FitsAt : NodeState → List LiveLeg → Fate → Type 0
FitsAt n [] f = ⊥
FitsAt n (e ∷ es) (fate.Stays l) = (key_of l ≡ key_of e.leg) × CanRun n (record { leg = l; region = e.region })
FitsAt n (e ∷ es) (fate.Ends b) = MeetsRules (frame.Back b)

abbrev pub FateFits : PartState → Fate → Type 0
FateFits p f = FitsAt p.node p.node.live f

-- what became of the first live leg
pub record Settles (old new : PartState) (f : Fate) : Type 0 where
  pub first : LiveLeg
  pub others : List LiveLeg
  pub stands : old.node.live ≡ first ∷ others
  pub left : new ≡ record old { node = settled old.node first f }
