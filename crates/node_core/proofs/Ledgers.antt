-- The kept replies of a ledger.
use Rattle.std.proofs.Common.{◌≡◌, ℕ, Bool, true, false, cond, List, [], ◌∷◌, Option, Some, None, IsSome, refl, sym, ap, ◌∙◌, unwrap_or}
use Rattle.std.specs.FinMap as m
use Rattle.std.specs.Ordering.{eq_by_cmp}
use Rattle.frame_codec.specs.declared.frame.Back.{Back}
use Rattle.leg_ledger.specs.declared.leg.LegKey.{LegKey}
use Rattle.leg_ledger.specs.declared.leg.LegState.{LegState}
use Rattle.leg_ledger.specs.declared.leg.LegState.TheVariants.{Started, Ended}
use Rattle.leg_ledger.specs.declared.leg.Reply.{Reply}
use Rattle.leg_ledger.specs.Legs.{Legs, key_cmp, reply_in, kept_reply, running_region, ended}
use Rattle.leg_ledger.proofs.Keys.{key_total, key_same, get_same, get_other}
use Rattle.run_rules.specs.Node.{Kept, same_key}
use Rattle.run_rules.proofs.Finds.{by_bool, is_key, not_key}
use Rattle.node_core.specs.inner.View.{put_state, kept_in, kept_of}

put_gets : (kept : Kept) (k : LegKey) (s : LegState) (q : LegKey) → m.get (put_state kept k s) q ≡ cond (eq_by_cmp key_cmp q k) (reply_in (Some s)) (m.get kept q)
put_gets kept k (Ended r) q = m.get-insert key_total kept k r q
put_gets kept k (Started g) q = m.get-remove key_total kept k q

in_gets : (es : List (LegKey × LegState)) (q : LegKey) → m.get (kept_in es) q ≡ reply_in (m.find key_cmp q es)
in_gets [] q = m.get-empty key_cmp q
in_gets (e ∷ es) q = put_gets (kept_in es) e.0 e.1 q ∙ ap (cond (eq_by_cmp key_cmp q e.0) (reply_in (Some e.1))) (in_gets es q) ∙ push (eq_by_cmp key_cmp q e.0)
  where
    push : (b : Bool) → cond b (reply_in (Some e.1)) (reply_in (m.find key_cmp q es)) ≡ reply_in (cond b (Some e.1) (m.find key_cmp q es))
    push true = refl
    push false = refl

-- what is kept of a name
pub kept_gets : (legs : Legs) (q : LegKey) → m.get (kept_of legs) q ≡ kept_reply legs q
kept_gets legs q = in_gets (m.entries legs) q ∙ ap reply_in (sym (m.get-entries legs q))

pub kept_none : (legs : Legs) (q : LegKey) → m.get (kept_of legs) q ≡ None → IsSome (kept_reply legs q) → ⊥
kept_none legs q none some = is_none (kept_reply legs q) (sym (kept_gets legs q) ∙ none) some
  where
    is_none : (o : Option Reply) → o ≡ None → IsSome o → ⊥
    is_none None e h = cc
    is_none (Some r) e h = cc

-- a leg that is started leaves what is kept
pub kept_started : (legs : Legs) (k : LegKey) (g : ℕ) → m.get legs k ≡ None → kept_of (m.insert legs k (Started g)) ≡ kept_of legs
kept_started legs k g new = m.same_map key_total key_same _ _ (λ q. kept_gets (m.insert legs k (Started g)) q ∙ by_bool (same_key q k)
    (λ t. ap (λ z. reply_in (m.get (m.insert legs k (Started g)) z)) (is_key q k t) ∙ ap reply_in (get_same legs k (Started g)) ∙ sym (kept_gets legs q ∙ ap (kept_reply legs) (is_key q k t) ∙ ap reply_in new))
    (λ f. ap reply_in (get_other legs k q (Started g) (not_key q k f)) ∙ sym (kept_gets legs q)))

-- a leg that ended is kept
pub kept_ended : (legs : Legs) (k : LegKey) (b : Back) (g : ℕ) → running_region legs k ≡ Some g → kept_of (ended legs k b) ≡ m.insert (kept_of legs) k (record { back = b; region = g })
kept_ended legs k b g runs =
    let r : Reply = record { back = b; region = g } in
    let is : ended legs k b ≡ m.insert legs k (Ended (record { back = b; region = g })) = ap (λ o. m.insert legs k (Ended (record { back = b; region = unwrap_or o 0 }))) runs in
    ap kept_of is ∙ m.same_map key_total key_same _ _ (λ q. kept_gets (m.insert legs k (Ended (record { back = b; region = g }))) q ∙ by_bool (same_key q k)
    (λ t. ap (λ z. reply_in (m.get (m.insert legs k (Ended (record { back = b; region = g }))) z)) (is_key q k t) ∙ ap reply_in (get_same legs k (Ended (record { back = b; region = g })))
    ∙ sym (ap (m.get (m.insert (kept_of legs) k (record { back = b; region = g }))) (is_key q k t) ∙ get_same (kept_of legs) k (record { back = b; region = g })))
    (λ f. ap reply_in (get_other legs k q (Ended (record { back = b; region = g })) (not_key q k f)) ∙ sym (kept_gets legs q) ∙ sym (get_other (kept_of legs) k q (record { back = b; region = g }) (not_key q k f))))
