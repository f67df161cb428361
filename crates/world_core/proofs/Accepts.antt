-- A node that has a leg, as the event of a run.
use Rattle.std.proofs.Common.{Result, Ok, Err, IfOk, OnErr, ◌≡◌, ◌≢◌, ℕ, ◌≤◌, List, ◌++◌, length, Some, refl, sym, ap, ◌∙◌, map, subst, arith}
use Rattle.std.specs.Prelude.{slice_get, slice_set, option_map}
use Rattle.std.proofs.lemmas.List.{map-set, append-nil}
use Rattle.std.proofs.lemmas.Option.{slice_get-map}
use Rattle.frame_codec.specs.declared.frame.Leg.{Leg}
use Rattle.pulse_base.specs.declared.event.Trace.{Trace}
use Rattle.pulse_base.specs.declared.listed.Memory.{Memory}
use Rattle.run_rules.specs.declared.node.Accepted.{Accepted}
use Rattle.run_rules.specs.declared.node.Accepted.TheVariants as accepted
use Rattle.run_rules.specs.Accepting.{accept}
use Rattle.run_rules.specs.Waiting.{Each}
use Rattle.node_core.specs.Part.{PartState, HasAccepted}
use Rattle.event_run.specs.World.{WorldState, sent_accepted, told_accepted, to_node}
use Rattle.world_core.specs.declared.letter.Letter.{Letter}
use Rattle.world_core.specs.Scene.{Member, Scene, Stays, IsAsBefore, node_of, nodes_of, world_of}
use Rattle.world_core.specs.inner.Fits.{IsScene, LetterFits}
use Rattle.world_core.specs.inner.Nodes.{Takes}
use Rattle.world_core.specs.inner.Sends.{own, IsTold}
use Rattle.world_core.proofs.Scenes.{each_at, map_set_same, letters_so, next_in, with_letters, with_node_set}

-- the answer and the node are the rule's
record ByRule (a : Accepted) (old new : PartState) (l : Leg) : Type 0 where
  answer : (accept old.node l).1 ≡ a
  node : new ≡ record old { node = (accept old.node l).0 }

by_rule : (a : Accepted) (old new : PartState) (l : Leg) → a ≢ accepted.Memory → HasAccepted a old new l → ByRule a old new l
by_rule (accepted.Answer b) old new l n h = record { answer = h.0; node = h.1 }
by_rule accepted.Foreign old new l n h = record { answer = h.0; node = h.1 }
by_rule accepted.Running old new l n h = record { answer = h.0; node = h.1 }
by_rule accepted.Elsewhere old new l n h = record { answer = h.0; node = h.1 }
by_rule accepted.Full old new l n h = record { answer = h.0; node = h.1 }
by_rule accepted.Started old new l n h = record { answer = h.0; node = h.1 }
by_rule accepted.Memory old new l n h = absurd (n refl)

-- the event of a node that has a leg
accepts_so : (w : WorldState) (old new : List Member) (n : ℕ) (l : Leg) (a : Accepted) → nodes_of old ≡ w.nodes → (t : Takes a old new n l) → a ≢ accepted.Memory
    → to_node w n l (slice_get w.nodes n) ≡ (record w { nodes = nodes_of new; letters = w.letters ++ sent_accepted l a }, told_accepted w a)
accepts_so w old new n l a o t ne =
    let r = by_rule a t.before.part t.after.part l ne t.rule in
    let stands : slice_get w.nodes n ≡ Some t.before.part.node = ap (λ z. slice_get z n) (sym o) ∙ slice_get-map node_of old n ∙ ap (option_map node_of) t.stands in
    let left : slice_set w.nodes n (accept t.before.part.node l).0 ≡ nodes_of new =
    ap (λ z. slice_set z n (accept t.before.part.node l).0) (sym o) ∙ ap (λ (p : PartState). slice_set (nodes_of old) n p.node) (sym r.node) ∙ sym (map-set node_of old n t.after) ∙ ap nodes_of (sym t.left) in
    ap (to_node w n l) stands
    ∙ (λ i. (record w { nodes = left i; letters = w.letters ++ sent_accepted l (r.answer i) }, told_accepted w (r.answer i)))

-- its images stay
keeps_images : (a : Accepted) (old new : PartState) (l : Leg) → HasAccepted a old new l → new.images ≡ old.images
keeps_images (accepted.Answer b) old new l h = ap (λ (p : PartState). p.images) h.1
keeps_images accepted.Foreign old new l h = ap (λ (p : PartState). p.images) h.1
keeps_images accepted.Running old new l h = ap (λ (p : PartState). p.images) h.1
keeps_images accepted.Elsewhere old new l h = ap (λ (p : PartState). p.images) h.1
keeps_images accepted.Full old new l h = ap (λ (p : PartState). p.images) h.1
keeps_images accepted.Started old new l h = ap (λ (p : PartState). p.images) h.1
keeps_images accepted.Memory old new l h = ap (λ (p : PartState). p.images) h.1

-- what it sends goes to the switch
sent_fits : (nodes clients : ℕ) (l : Leg) (a : Accepted) → Each (LetterFits nodes clients) (map own (sent_accepted l a))
sent_fits nodes clients l (accepted.Answer b) = (tt, tt)
sent_fits nodes clients l accepted.Foreign = tt
sent_fits nodes clients l accepted.Running = tt
sent_fits nodes clients l accepted.Elsewhere = (tt, tt)
sent_fits nodes clients l accepted.Full = tt
sent_fits nodes clients l accepted.Started = tt
sent_fits nodes clients l accepted.Memory = tt

sent_few : (l : Leg) (a : Accepted) → length (map own (sent_accepted l a)) ≤ 1
sent_few l (accepted.Answer b) = omega arith
sent_few l accepted.Foreign = omega arith
sent_few l accepted.Running = omega arith
sent_few l accepted.Elsewhere = omega arith
sent_few l accepted.Full = omega arith
sent_few l accepted.Started = omega arith
sent_few l accepted.Memory = omega arith

pub taken_fits : (s : Scene) (nodes : List Member) (letters : List Letter) (n : ℕ) (l : Leg) (a : Accepted) → IsScene s → Takes a s.nodes nodes n l
    → letters ≡ s.letters ++ map own (sent_accepted l a) → IsScene (record s { nodes = nodes; letters = letters })
taken_fits s nodes letters n l a h t eq =
    with_letters (record s { nodes = nodes }) letters (map own (sent_accepted l a))
    (with_node_set s nodes n t.after h t.left (keeps_images a t.before.part t.after.part l t.rule ∙ each_at _ s.nodes n t.before h.nodes t.stands))
    eq (sent_fits (length nodes) (length s.clients) l a)

pub taken_so : (s : Scene) (nodes : List Member) (letters : List Letter) (n : ℕ) (l : Leg) (a : Accepted) (t : Trace) → Takes a s.nodes nodes n l → a ≢ accepted.Memory
    → letters ≡ s.letters ++ map own (sent_accepted l a) → IsTold s.letters (λ w. told_accepted w a) t
    → (world_of (record s { nodes = nodes; letters = letters }), t) ≡ to_node (world_of s) n l (slice_get (world_of s).nodes n)
taken_so s nodes letters n l a t h ne eq told =
    (λ i. (record (world_of s) { nodes = nodes_of nodes; letters = letters_so s.letters letters (sent_accepted l a) eq i }, told (world_of s) (next_in s) i))
    ∙ sym (accepts_so (world_of s) s.nodes nodes n l a refl h ne)

pub taken_stays : (s : Scene) (nodes : List Member) (letters : List Letter) (n : ℕ) (l : Leg) (a : Accepted) → Takes a s.nodes nodes n l
    → letters ≡ s.letters ++ map own (sent_accepted l a) → Stays s (record s { nodes = nodes; letters = letters })
taken_stays s nodes letters n l a t eq = record {
  switch = refl;
  images = refl;
  homes = refl;
  clients = refl;
  plain = ap (map (λ (m : Member). m.plain)) t.left ∙ map_set_same (λ (m : Member). m.plain) s.nodes n t.before t.after t.stands t.plain;
  sent = map own (sent_accepted l a);
  few = sent_few l a;
  letters = eq;
}

-- where there was no memory nothing changed
pub none_taken : (s : Scene) (nodes : List Member) (letters : List Letter) (n : ℕ) (l : Leg) (a : Accepted) → Takes a s.nodes nodes n l → a ≡ accepted.Memory
    → letters ≡ s.letters ++ map own (sent_accepted l a) → IsAsBefore s (record s { nodes = nodes; letters = letters })
none_taken s nodes letters n l a t m eq =
    let same : t.after.part ≡ t.before.part = (subst (λ z. HasAccepted z t.before.part t.after.part l) m t.rule).1 in
    let none : letters ≡ s.letters = eq ∙ ap (λ z. s.letters ++ map own (sent_accepted l z)) m ∙ append-nil s.letters in
    record {
      nodes = ap (map (λ (x : Member). x.part)) t.left ∙ map_set_same (λ (x : Member). x.part) s.nodes n t.before t.after t.stands same;
      plain = ap (map (λ (x : Member). x.plain)) t.left ∙ map_set_same (λ (x : Member). x.plain) s.nodes n t.before t.after t.stands t.plain;
      others = λ i. record s { nodes = nodes; letters = none i };
    }

-- ---- by what is told of it

pub taken_step : (s : Scene) (nodes : List Member) (base letters : List Letter) (n : ℕ) (l : Leg) (a : Accepted) (r : Result Trace Memory) → Takes a s.nodes nodes n l → base ≡ s.letters
    → letters ≡ base ++ map own (sent_accepted l a) → IfOk r (λ t. IsTold base (λ w. told_accepted w a) t) → IfOk r (λ t. a ≢ accepted.Memory)
    → IfOk r (λ t. (world_of (record s { nodes = nodes; letters = letters }), t) ≡ to_node (world_of s) n l (slice_get (world_of s).nodes n))
taken_step s nodes base letters n l a (Ok t) h b eq told ne =
    taken_so s nodes letters n l a t h ne (eq ∙ ap (λ z. z ++ map own (sent_accepted l a)) b) (subst (λ z. IsTold z (λ w. told_accepted w a) t) b told)
taken_step s nodes base letters n l a (Err e) h b eq told ne = tt

pub taken_keeps : (s : Scene) (nodes : List Member) (base letters : List Letter) (n : ℕ) (l : Leg) (a : Accepted) (r : Result Trace Memory) → Takes a s.nodes nodes n l → base ≡ s.letters
    → letters ≡ base ++ map own (sent_accepted l a) → IfOk r (λ t. Stays s (record s { nodes = nodes; letters = letters }))
taken_keeps s nodes base letters n l a (Ok t) h b eq = taken_stays s nodes letters n l a h (eq ∙ ap (λ z. z ++ map own (sent_accepted l a)) b)
taken_keeps s nodes base letters n l a (Err e) h b eq = tt

pub taken_none : (s : Scene) (nodes : List Member) (base letters : List Letter) (n : ℕ) (l : Leg) (a : Accepted) (r : Result Trace Memory) → Takes a s.nodes nodes n l → base ≡ s.letters
    → letters ≡ base ++ map own (sent_accepted l a) → OnErr r (a ≡ accepted.Memory) → OnErr r (IsAsBefore s (record s { nodes = nodes; letters = letters }))
taken_none s nodes base letters n l a (Ok t) h b eq m = tt
taken_none s nodes base letters n l a (Err e) h b eq m = none_taken s nodes letters n l a h m (eq ∙ ap (λ z. z ++ map own (sent_accepted l a)) b)
