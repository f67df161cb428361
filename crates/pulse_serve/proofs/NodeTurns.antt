-- A turn of a node's loop, from its calls.
use Rattle.std.proofs.Common.{◌≡◌, ◌≢◌, ◌↔◌, ℕ, Bool, IsTrue, [], ◌∷◌, ◌++◌, Option, Some, None, Ok, Err, refl, sym, ap, subst, ◌∙◌, inr}
use Rattle.pulse_base.specs.Link.{Receipt, Traffic}
use Rattle.pulse_base.specs.declared.source.Failed.{Failed}
use Rattle.frame_codec.specs.declared.frame.Back.{Back}
use Rattle.frame_codec.specs.declared.frame.Frame.TheVariants as frames
use Rattle.frame_codec.specs.Spelling.{MeetsRules}
use Rattle.leg_ledger.specs.declared.leg.LegKey.{LegKey}
use Rattle.leg_ledger.proofs.Keys.{get_same}
use Rattle.run_rules.specs.declared.node.Fate.{Fate}
use Rattle.run_rules.specs.declared.node.Fate.TheVariants.{Stays, Ends}
use Rattle.run_rules.specs.declared.node.LiveLeg.{LiveLeg}
use Rattle.run_rules.specs.Outcome.{Outcome}
use Rattle.run_rules.specs.Node.{NodeState, key_of, find_live, place_of}
use Rattle.run_rules.specs.Turning.{turn_of, settled, stored, fate_of, back_in}
use Rattle.node_core.specs.declared.part.Turned.TheVariants as turned
use Rattle.node_core.specs.Part.{PartState, IsPart, KeptFits, HasTurned, IsFirst, ran}
use Rattle.pulse_serve.specs.declared.frames.Came.{Came}
use Rattle.pulse_serve.specs.declared.frames.Came.TheVariants as came
use Rattle.pulse_serve.specs.declared.served.Served.TheVariants as served
use Rattle.pulse_serve.specs.Frames.{Says, Grew, Over, Received}
use Rattle.pulse_serve.specs.NodeRun.{NodeHears, node_loop, after_item, answered, turn_sent}
use Rattle.pulse_serve.specs.inner.Steps.{Goes, Stepped}
use Rattle.pulse_serve.proofs.Traffics.{grew_more, append_nil}

-- ---- the back of a turn was kept, so it meets its rules

settled_fits : (n : NodeState) (e : LiveLeg) (f : Fate) (b : Back) → back_in f ≡ Some b → KeptFits (settled n e f).kept → MeetsRules (frames.Back b)
settled_fits n e (Stays l) b is k = absurd (cc)
settled_fits n e (Ends x) b is k =
    let same : x ≡ b = cc in
    subst (λ y. MeetsRules (frames.Back y)) same (k (key_of e.leg) (record { back = x; region = e.region }) (get_same n.kept (key_of e.leg) (record { back = x; region = e.region })))

turned_fits : (n : NodeState) (o : Option LiveLeg) (outcome : Outcome) (b : Back) → (turn_of n o outcome).1 ≡ Some b → KeptFits (turn_of n o outcome).0.kept → MeetsRules (frames.Back b)
turned_fits n None outcome b is k = absurd (cc)
turned_fits n (Some e) outcome b is k = settled_fits (stored n e.leg outcome (place_of n e.leg)) e (fate_of n e.leg outcome) b is k

pub back_fits : (old new : PartState) (q : LegKey) (o : Option Back) (b : Back) → HasTurned (turned.Iterated q o) old new → o ≡ Some b → IsPart new → MeetsRules (frames.Back b)
back_fits old new q o b h is p =
    turned_fits old.node (find_live old.node.live q) (ran old q) b (sym h.2 ∙ is) (subst (λ (x : PartState). KeptFits x.node.kept) h.1 p.kept)

-- ---- a turn of the loop

heard : (port : ℕ) (p : PartState) (r : Receipt) (mid : PartState) (item : Came) (wait : Bool) → r.wait ≡ wait → Says r.item item → (IsTrue wait ↔ (p.node.live ≡ [])) → item ≢ came.Frame frames.Stop
    → mid ≡ after_item p item → NodeHears port p r mid (answered port p item)
heard port p r mid item wait w says idle not after =
    record { waits = subst (λ x. IsTrue x ↔ (p.node.live ≡ [])) (sym w) idle; item = item; says = says; goes_on = not; after = after; sent = refl }

pub went : (a b c d : Option Traffic) (plain was : Bool) (port : ℕ) (p mid now : PartState) (wait : Bool) (item : Came) → Received {E = Failed} a b wait (Ok item) → (IsTrue wait ↔ (p.node.live ≡ []))
    → item ≢ came.Frame frames.Stop → mid ≡ after_item p item → Grew b c [] (answered port p item) → was ≡ plain → Stepped {E = Failed} was port mid now c d (Ok tt)
    → Over a d (Goes (node_loop plain port) None p now)
went a b c d plain was port p mid now wait item r idle not after g same s =
    let early = answered port p item in let late = turn_sent port s.0 in (
      r.0 ∷ [],
      early ++ late,
      grew_more a b d (r.0 ∷ []) [] [] (early ++ late) r.3 (grew_more b c d [] [] early late g s.3),
      (
        r.0,
        refl,
        record {
          mid = mid;
          early = early;
          hears = heard port p r.0 mid item wait r.1 r.2 idle not after;
          late = late;
          steps = record { turned = s.0; turns = s.1; first = subst (λ x. IsTrue x → IsFirst s.0 mid) same s.2; sent = refl };
          sent = refl;
        },
      ),
    )

pub lost : (a b c d : Option Traffic) (plain was : Bool) (port : ℕ) (p mid now : PartState) (wait : Bool) (item : Came) (e : Failed) → Received {E = Failed} a b wait (Ok item) → (IsTrue wait ↔ (p.node.live ≡ []))
    → item ≢ came.Frame frames.Stop → mid ≡ after_item p item → Grew b c [] (answered port p item) → was ≡ plain → Stepped {E = Failed} was port mid now c d (Err e)
    → Over a d (Goes (node_loop plain port) (Some served.LinkFault) p now)
lost a b c d plain was port p mid now wait item e r idle not after g same s =
    let early = answered port p item in let late = turn_sent port s.0 in
    let sent = subst (λ l. Grew b d [] l) (append_nil early) (grew_more b c d [] [] early [] g s.3.2) in (
      r.0 ∷ [],
      early,
      grew_more a b d (r.0 ∷ []) [] [] early r.3 sent,
      inr (
        r.0,
        s.3.0,
        refl,
        inr (record {
          mid = mid;
          early = early;
          hears = heard port p r.0 mid item wait r.1 r.2 idle not after;
          late = late;
          steps = record { turned = s.0; turns = s.1; first = subst (λ x. IsTrue x → IsFirst s.0 mid) same s.2; sent = refl };
          sent = ap (λ l. early ++ l) (sym s.3.1);
        }),
      ),
    )
