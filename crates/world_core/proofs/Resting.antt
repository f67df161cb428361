-- Whether a node is idle, and the number that its turns lower.
use Rattle.std.proofs.Common.{◌≡◌, ◌≢◌, ◌↔◌, IsTrue, ℕ, zero, suc, ◌<◌, Bool, List, [], ◌∷◌, length, get_or, Some, refl, sym, ap, ◌∙◌, map, subst, arith}
use Rattle.std.specs.Prelude.{Result, Ok, Err, IfOk, slice_get, slice_set, option_map}
use Rattle.std.proofs.lemmas.List.{length-map}
use Rattle.std.proofs.lemmas.Option.{slice_get-map, slice_get-get_or}
use Rattle.pulse_base.specs.declared.event.Event.{Event}
use Rattle.pulse_base.specs.declared.event.Event.TheVariants as event
use Rattle.pulse_base.specs.declared.event.Trace.{Trace}
use Rattle.pulse_base.specs.declared.listed.Memory.{Memory}
use Rattle.node_core.specs.declared.part.Turned.{Turned}
use Rattle.node_core.specs.declared.part.Turned.TheVariants as turned
use Rattle.node_core.specs.Part.{HasTurned}
use Rattle.drain_run.specs.Drain.{live_at}
use Rattle.world_core.specs.Scene.{Member, Scene, node_of, nodes_of}
use Rattle.world_core.specs.Runs.{rest_of, LowersRest}
use Rattle.world_core.specs.inner.Events.{Happens, Turns}

-- whether no leg is live on the node that stands there
pub idle_at : {N : Type 0} (member : N → Member) (nodes : List N) (old : List Member) (n : ℕ) (x : N) (idle : Bool)
    → n < length old → x ≡ get_or nodes n x → map member nodes ≡ old
    → (IsTrue idle ↔ ((member x).part.node.live ≡ [])) → IsTrue idle ↔ (live_at (slice_get (nodes_of old) n) ≡ [])
idle_at member nodes old n x idle h e o i =
    let many = length-map nodes member in
    let low : n < length nodes = omega (arith, h, ap (λ (w : List Member). length w) o, many) in
    let at : slice_get (nodes_of old) n ≡ Some (member x).part.node =
    ap (λ (z : List Member). slice_get (nodes_of z) n) (sym o) ∙ slice_get-map node_of (map member nodes) n
    ∙ ap (option_map node_of) (slice_get-map member nodes n ∙ ap (option_map member) (slice_get-get_or nodes n x low) ∙ ap (λ z. Some (member z)) (sym e)) in
    subst (λ z. IsTrue idle ↔ (live_at z ≡ [])) (sym at) i

-- ---- a turn of a node that is not idle lowers its number

set_at : {A : Type 0} (xs : List A) (n : ℕ) (x y : A) → slice_get xs n ≡ Some x → slice_get (slice_set xs n y) n ≡ Some y
set_at [] n x y e = absurd (cc)
set_at (z ∷ xs) zero x y e = refl
set_at (z ∷ xs) (suc n) x y e = set_at xs n x y e

turn_rests : (old new : Scene) (n : ℕ) (t : Trace) → Turns old new n t → LowersRest old new (event.Turn n)
turn_rests old new n t h some =
    let m = h.makes in
    let stands : slice_get (nodes_of old.nodes) n ≡ Some m.before.part.node = slice_get-map node_of old.nodes n ∙ ap (option_map node_of) m.stands in
    let live : m.before.part.node.live ≢ [] = λ e. some (ap live_at stands ∙ e) in
    let moved : h.turned ≢ turned.Idle = λ e. live (subst (λ (z : Turned). HasTurned z m.before.part m.after.part) e m.rule).0 in
    let now : slice_get new.nodes n ≡ Some m.after = ap (λ z. slice_get z n) m.left ∙ set_at old.nodes n m.before m.after m.stands in
    let less = m.rest moved in
    let was = ap rest_of m.stands in
    let is = ap rest_of now in
    omega (arith, less, was, is)

pub event_rests : (old new : Scene) (x : Event) (t : Trace) → Happens old new x t → LowersRest old new x
event_rests old new (event.Ask r) t h = tt
event_rests old new (event.Tick r) t h = tt
event_rests old new (event.Deliver k) t h = tt
event_rests old new (event.Turn n) t h = turn_rests old new n t h

pub result_rests : (old new : Scene) (x : Event) (r : Result Trace Memory) → IfOk r (λ t. Happens old new x t) → IfOk r (λ t. LowersRest old new x)
result_rests old new x (Ok t) h = event_rests old new x t h
result_rests old new x (Err m) h = tt
