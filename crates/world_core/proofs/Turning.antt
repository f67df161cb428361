-- A node that makes a turn: what it leaves of a scene.
use Rattle.std.proofs.Common.{◌≡◌, ℕ, ◌≤◌, List, ◌++◌, length, Option, Some, None, refl, ap, ◌∙◌, map, subst, arith}
use Rattle.pulse_base.specs.declared.event.Trace.{Trace}
use Rattle.frame_codec.specs.declared.frame.Back.{Back}
use Rattle.run_rules.specs.Waiting.{Each}
use Rattle.node_core.specs.declared.part.Turned.{Turned}
use Rattle.node_core.specs.declared.part.Turned.TheVariants as turned
use Rattle.node_core.specs.Part.{PartState, HasTurned}
use Rattle.event_run.specs.Letters.{sent_back}
use Rattle.world_core.specs.declared.letter.Letter.{Letter}
use Rattle.world_core.specs.Scene.{Member, Scene, Stays, nodes_of, world_of}
use Rattle.world_core.specs.inner.Events.{Turns}
use Rattle.world_core.specs.inner.Fits.{IsScene, LetterFits}
use Rattle.world_core.specs.inner.Nodes.{Makes}
use Rattle.world_core.specs.inner.Sends.{own, IsTold, ended_by, told_turned, ordered_by}
use Rattle.world_core.proofs.Scenes.{each_at, map_set_same, letters_so, next_in, with_letters, with_node_set, with_order}

-- its images stay
keeps_images : (t : Turned) (old new : PartState) → HasTurned t old new → new.images ≡ old.images
keeps_images (turned.Iterated q back) old new h = ap (λ (p : PartState). p.images) h.1
keeps_images (turned.Part q) old new h = ap (λ (p : PartState). p.images) h.1
keeps_images (turned.Waits q) old new h = ap (λ (p : PartState). p.images) h.1
keeps_images turned.Idle old new h = ap (λ (p : PartState). p.images) h.1

back_few : (o : Option Back) → length (map own (sent_back o)) ≤ 1
back_few None = omega arith
back_few (Some b) = omega arith

back_fits : (nodes clients : ℕ) (o : Option Back) → Each (LetterFits nodes clients) (map own (sent_back o))
back_fits nodes clients None = tt
back_fits nodes clients (Some b) = (tt, tt)

pub turn_fits : (s : Scene) (nodes : List Member) (base letters : List Letter) (order : List ℕ) (n : ℕ) (t : Turned) → IsScene s → Makes t s.nodes nodes n → base ≡ s.letters
    → letters ≡ base ++ map own (sent_back (ended_by t)) → IsScene (record s { nodes = nodes; letters = letters; order = order })
turn_fits s nodes base letters order n t h m b eq =
    with_order (record s { nodes = nodes; letters = letters }) order (with_letters (record s { nodes = nodes }) letters (map own (sent_back (ended_by t)))
    (with_node_set s nodes n m.after h m.left (keeps_images t m.before.part m.after.part m.rule ∙ each_at _ s.nodes n m.before h.nodes m.stands))
    (eq ∙ ap (λ z. z ++ map own (sent_back (ended_by t))) b) (back_fits (length nodes) (length s.clients) (ended_by t)))

pub turn_so : (s : Scene) (nodes : List Member) (base letters : List Letter) (order : List ℕ) (n : ℕ) (u : Turned) (t : Trace) → Makes u s.nodes nodes n → base ≡ s.letters
    → letters ≡ base ++ map own (sent_back (ended_by u)) → order ≡ s.order ++ ordered_by u → IsTold base (told_turned u) t → Turns s (record s { nodes = nodes; letters = letters; order = order }) n t
turn_so s nodes base letters order n u t m b eq o says = record {
  turned = u;
  makes = m;
  told = subst (λ z. IsTold z (told_turned u) t) b says (world_of s) (next_in s);
  left = λ i. record (world_of s) { nodes = nodes_of nodes; letters = letters_so s.letters letters (sent_back (ended_by u)) (eq ∙ ap (λ z. z ++ map own (sent_back (ended_by u))) b) i; order = o i };
}

pub turn_stays : (s : Scene) (nodes : List Member) (base letters : List Letter) (order : List ℕ) (n : ℕ) (u : Turned) → Makes u s.nodes nodes n → base ≡ s.letters
    → letters ≡ base ++ map own (sent_back (ended_by u)) → Stays s (record s { nodes = nodes; letters = letters; order = order })
turn_stays s nodes base letters order n u m b eq = record {
  switch = refl;
  images = refl;
  homes = refl;
  clients = refl;
  plain = ap (map (λ (x : Member). x.plain)) m.left ∙ map_set_same (λ (x : Member). x.plain) s.nodes n m.before m.after m.stands m.plain;
  sent = map own (sent_back (ended_by u));
  few = back_few (ended_by u);
  letters = eq ∙ ap (λ z. z ++ map own (sent_back (ended_by u))) b;
}
