-- A turn of the first live leg lowers the sum of the waits.
use Rattle.std.proofs.Common.{◌≡◌, ◌≢◌, ◌<◌, List, [], ◌∷◌, length, get_or, Option, Some, None, IsSome, refl, ap, ◌∙◌, arith}
use Rattle.frame_codec.specs.declared.frame.Back.{Back}
use Rattle.leg_ledger.specs.declared.leg.LegKey.{LegKey}
use Rattle.run_rules.specs.declared.node.LiveLeg.{LiveLeg}
use Rattle.run_rules.specs.Node.{key_of, find_live}
use Rattle.run_rules.specs.Turning.{turn}
use Rattle.run_rules.specs.Waiting.{rest}
use Rattle.run_rules.proofs.Waits.{turn_wait}
use Rattle.node_core.specs.declared.part.Turned.{Turned}
use Rattle.node_core.specs.declared.part.Turned.TheVariants as turned
use Rattle.node_core.specs.Part.{PartState, IsPart, ran, HasTurned, IsFirstOf, IsFirst}
use Rattle.node_core.proofs.Parts.{orderly}

no_live : {A : Type 0} (live : List LiveLeg) (q : LegKey) → live ≡ [] → IsSome (find_live live q) → A
no_live live q e h = absurd (let c : find_live live q ≡ None = ap (λ z. find_live z q) e in none (find_live live q) c h)
  where
    none : (o : Option LiveLeg) → o ≡ None → IsSome o → ⊥
    none None e h = cc
    none (Some x) e h = cc

-- the leg of the turn is the first
pub first_named : (xs : List LiveLeg) (x : LiveLeg) (back : Option Back) → 0 < length xs → x ≡ get_or xs 0 x → IsFirstOf (turned.Iterated (key_of x.leg) back) xs
first_named [] x back l e = tt
first_named (y ∷ xs) x back l e = ap (λ (z : LiveLeg). key_of z.leg) e

falls_by : (t : Turned) (old new : PartState) (live : List LiveLeg) → old.node.live ≡ live → IsPart old → HasTurned t old new → IsFirstOf t live → t ≢ turned.Idle → rest new.node < rest old.node
falls_by (turned.Iterated q back) old new [] s h u f n = no_live old.node.live q s u.0
falls_by (turned.Iterated q back) old new (e ∷ es) s h u f n =
    let less = (turn_wait old.node e es (ran old q) (orderly old h) s).1 in
    let is : rest new.node ≡ rest (turn old.node (key_of e.leg) (ran old q)).0 = ap (λ (z : PartState). rest z.node) u.1 ∙ ap (λ k. rest (turn old.node k (ran old q)).0) f in
    omega (arith, less, is)
falls_by (turned.Part q) old new [] s h u f n = no_live old.node.live q s u.0
falls_by (turned.Part q) old new (e ∷ es) s h u f n = absurd f
falls_by (turned.Waits q) old new [] s h u f n = no_live old.node.live q s u.0
falls_by (turned.Waits q) old new (e ∷ es) s h u f n = absurd f
falls_by turned.Idle old new live s h u f n = absurd (n refl)

pub rest_falls : (t : Turned) (old new : PartState) → IsPart old → HasTurned t old new → IsFirst t old → t ≢ turned.Idle → rest new.node < rest old.node
rest_falls t old new h u f n = falls_by t old new old.node.live refl h u f n
