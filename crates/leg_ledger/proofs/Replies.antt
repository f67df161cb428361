-- What is noted of a key without a reply leaves all kept replies.
use Rattle.std.proofs.Common.{◌≡◌, Option, Some, None, IsSome, refl, sym, ap, ◌∙◌, subst, inl, inr}
use Rattle.std.specs.FinMap as map
use Rattle.std.specs.Ordering.{eq_by_cmp}
use Rattle.std.proofs.lemmas.Bool.{cases_Bool, cond-false}
use Rattle.leg_ledger.specs.declared.leg.LegKey.{LegKey}
use Rattle.leg_ledger.specs.declared.leg.LegState.{LegState}
use Rattle.leg_ledger.specs.declared.leg.LegState.TheVariants.{Started, Ended}
use Rattle.leg_ledger.specs.Legs.{Legs, key_cmp, kept_reply, reply_in, region_in, KeepsReplies}
use Rattle.leg_ledger.proofs.Keys.{key_total, key_tied}

pub keeps-insert : (legs : Legs) (key : LegKey) (state : LegState) → kept_reply legs key ≡ None → KeepsReplies legs (map.insert legs key state)
keeps-insert legs key state none q reply kept =
    elim (cases_Bool (eq_by_cmp key_cmp q key)) [
      | inl same ↦
          let gone : kept_reply legs q ≡ None = subst (λ (k : LegKey). kept_reply legs k ≡ None) (sym (key_tied q key same)) none in
          absurd (cc)
      | inr other ↦ ap reply_in (map.get-insert key_total legs key state q ∙ cond-false (eq_by_cmp key_cmp q key) _ _ other) ∙ kept
    ]

-- a key that runs has no reply
pub running_has_no_reply : (state : Option LegState) → IsSome (region_in state) → reply_in state ≡ None
running_has_no_reply None some = refl
running_has_no_reply (Some (Started region)) some = refl
running_has_no_reply (Some (Ended reply)) some = absurd (cc)
