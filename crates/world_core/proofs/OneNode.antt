-- One node of many changes, and each back that it answers meets the rules of its fields.
use Rattle.std.proofs.Common.{◌≡◌, ◌≢◌, IsTrue, ℕ, ◌<◌, ◌≤◌, Bool, true, false, nat_le, List, length, get_or, Option, Some, None, is_some, refl, sym, ap, ◌∙◌, map, subst, arith, if◌then◌else◌}
use Rattle.std.specs.Prelude.{slice_get, slice_set, option_map}
use Rattle.std.specs.FinMap as m
use Rattle.std.proofs.lemmas.List.{map-set, length-map}
use Rattle.std.proofs.lemmas.Option.{slice_get-map, slice_get-get_or}
use Rattle.range_table.specs.Memory.{may_read}
use Rattle.pulse_base.specs.declared.answer.FaultKind.TheVariants as fault
use Rattle.frame_codec.specs.declared.frame.Leg.{Leg}
use Rattle.frame_codec.specs.declared.frame.Ending.TheVariants as ending
use Rattle.leg_ledger.specs.declared.leg.Reply.{Reply}
use Rattle.leg_ledger.proofs.Keys.{get_same}
use Rattle.run_rules.specs.declared.node.LiveLeg.{LiveLeg}
use Rattle.run_rules.specs.declared.node.Fate.{Fate}
use Rattle.run_rules.specs.declared.node.Fate.TheVariants as fate
use Rattle.run_rules.specs.declared.node.Accepted.{Accepted}
use Rattle.run_rules.specs.declared.node.Accepted.TheVariants as accepted
use Rattle.run_rules.specs.Waiting.{Apart}
use Rattle.run_rules.specs.Outcome.{Outcome}
use Rattle.run_rules.specs.Node.{NodeState, key_of, back_of, find_live, spans_of, place_of}
use Rattle.run_rules.specs.Accepting.{is_foreign, answer_at, answer_by, answer_to}
use Rattle.run_rules.specs.Turning.{turn_of, stored, fate_of, settled, back_in}
use Rattle.node_core.specs.declared.part.Turned.{Turned}
use Rattle.node_core.specs.declared.part.Turned.TheVariants as turned
use Rattle.node_core.specs.Part.{PartState, IsPart, KeptFits, HasAccepted, HasTurned, IsFirst, IsRange, ran}
use Rattle.world_core.specs.Scene.{Member, ReadsAt}
use Rattle.world_core.specs.inner.Nodes.{Takes, Makes, AnswerFits, BackFits, TurnFits}

-- ---- one of many

stands_at : {N : Type 0} (member : N → Member) (nodes : List N) (n : ℕ) (x : N) → n < length nodes → x ≡ get_or nodes n x → slice_get (map member nodes) n ≡ Some (member x)
stands_at member nodes n x h e = slice_get-map member nodes n ∙ ap (option_map member) (slice_get-get_or nodes n x h) ∙ ap (λ z. Some (member z)) (sym e)

here : {N : Type 0} (member : N → Member) (nodes : List N) (old : List Member) (n : ℕ) → n < length old → map member nodes ≡ old → n < length nodes
here member nodes old n h o = omega (arith, h, ap (λ (w : List Member). length w) o, length-map nodes member)

pub takes_at : {N : Type 0} (member : N → Member) (nodes : List N) (old : List Member) (n : ℕ) (x y : N) (l : Leg) (a : Accepted)
    → n < length old → x ≡ get_or nodes n x → HasAccepted a (member x).part (member y).part l → (member y).plain ≡ (member x).plain
    → map member nodes ≡ old → Takes a old (map member (slice_set nodes n y)) n l
takes_at member nodes old n x y l a h e rule plain o = subst (λ (w : List Member). Takes a w (map member (slice_set nodes n y)) n l) o (record {
  before = member x;
  after = member y;
  stands = stands_at member nodes n x (here member nodes old n h o) e;
  rule = rule;
  plain = plain;
  left = map-set member nodes n y;
})

pub makes_at : {N : Type 0} (member : N → Member) (nodes : List N) (old : List Member) (n : ℕ) (x y : N) (t : Turned)
    → n < length old → x ≡ get_or nodes n x → HasTurned t (member x).part (member y).part → (member y).plain ≡ (member x).plain
    → (IsTrue (member x).plain → IsFirst t (member x).part) → Apart (member y).part.node.live → (t ≢ turned.Idle → (member y).rest < (member x).rest)
    → map member nodes ≡ old → Makes t old (map member (slice_set nodes n y)) n
makes_at member nodes old n x y t h e rule plain first apart rest o = subst (λ (w : List Member). Makes t w (map member (slice_set nodes n y)) n) o (record {
  before = member x;
  after = member y;
  stands = stands_at member nodes n x (here member nodes old n h o) e;
  rule = rule;
  plain = plain;
  first = first;
  apart = apart;
  rest = rest;
  left = map-set member nodes n y;
})

pub member_at : {N : Type 0} (member : N → Member) (nodes : List N) (old : List Member) (n : ℕ) (x : N) → n < length old → x ≡ get_or nodes n x → map member nodes ≡ old → slice_get old n ≡ Some (member x)
member_at member nodes old n x h e o = subst (λ (w : List Member). slice_get w n ≡ Some (member x)) o (stands_at member nodes n x (here member nodes old n h o) e)

pub reads_at : {N : Type 0} (member : N → Member) (nodes : List N) (old : List Member) (n : ℕ) (x : N) (region at : ℕ) (bytes : List ℕ)
    → n < length old → x ≡ get_or nodes n x → map member nodes ≡ old → IsRange (member x).part region at bytes → ReadsAt old n region at bytes
reads_at member nodes old n x region at bytes h e o r m is =
    let c : Some (member x) ≡ Some m = sym (member_at member nodes old n x h e o) ∙ is in let d : member x ≡ m = cc in subst (λ (z : Member). IsRange z.part region at bytes) d r

-- ---- a back that is answered to a leg: the one that is kept, or that the record may not be read

at_fits : (n : NodeState) (l : Leg) → 1 ≤ l.left → (o : Option ℕ) → AnswerFits (answer_at n l o)
at_fits n l h None = tt
at_fits n l h (Some i) = by (may_read (spans_of n.regions) i)
  where
    room : (b : Bool) → AnswerFits (if b then accepted.Full else accepted.Started)
    room true = tt
    room false = tt

    by : (b : Bool) → AnswerFits (if b then (if nat_le n.slots (length n.live) then accepted.Full else accepted.Started) else accepted.Answer (back_of l (ending.Fault fault.NotReadable)))
    by true = room (nat_le n.slots (length n.live))
    by false = h

by_fits : (n : NodeState) (l : Leg) → 1 ≤ l.left → KeptFits n.kept → (o : Option Reply) → m.get n.kept (key_of l) ≡ o → AnswerFits (answer_by n l o)
by_fits n l h k None e = by (is_some (find_live n.live (key_of l)))
  where
    by : (b : Bool) → AnswerFits (if b then accepted.Running else answer_at n l (place_of n l))
    by true = tt
    by false = at_fits n l h (place_of n l)
by_fits n l h k (Some reply) e = k (key_of l) reply e

answer_fits : (n : NodeState) (l : Leg) → 1 ≤ l.left → KeptFits n.kept → AnswerFits (answer_to n l)
answer_fits n l h k = by (is_foreign n l)
  where
    by : (b : Bool) → AnswerFits (if b then accepted.Foreign else answer_by n l (m.get n.kept (key_of l)))
    by true = tt
    by false = by_fits n l h k (m.get n.kept (key_of l)) refl

pub accepted_fits : (a : Accepted) (old new : PartState) (l : Leg) → 1 ≤ l.left → IsPart old → HasAccepted a old new l → AnswerFits a
accepted_fits (accepted.Answer b) old new l h p r = subst AnswerFits r.0 (answer_fits old.node l h p.kept)
accepted_fits accepted.Foreign old new l h p r = tt
accepted_fits accepted.Running old new l h p r = tt
accepted_fits accepted.Elsewhere old new l h p r = tt
accepted_fits accepted.Full old new l h p r = tt
accepted_fits accepted.Started old new l h p r = tt
accepted_fits accepted.Memory old new l h p r = tt

-- ---- the back of a leg that ended is kept after the turn

fate_fits : (n : NodeState) (e : LiveLeg) (f : Fate) → KeptFits (settled n e f).kept → BackFits (back_in f)
fate_fits n e (fate.Stays l) k = tt
fate_fits n e (fate.Ends b) k = k (key_of e.leg) (record { back = b; region = e.region }) (get_same n.kept (key_of e.leg) (record { back = b; region = e.region }))

of_fits : (n : NodeState) (o : Option LiveLeg) (outcome : Outcome) → KeptFits (turn_of n o outcome).0.kept → BackFits (turn_of n o outcome).1
of_fits n None outcome k = tt
of_fits n (Some e) outcome k = fate_fits (stored n e.leg outcome (place_of n e.leg)) e (fate_of n e.leg outcome) k

pub turned_fits : (t : Turned) (old new : PartState) → IsPart new → HasTurned t old new → TurnFits t
turned_fits (turned.Iterated q back) old new p u =
    subst BackFits (sym u.2) (of_fits old.node (find_live old.node.live q) (ran old q) (subst (λ (z : PartState). KeptFits z.node.kept) u.1 p.kept))
turned_fits (turned.Part q) old new p u = tt
turned_fits (turned.Waits q) old new p u = tt
turned_fits turned.Idle old new p u = tt
