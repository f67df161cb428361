-- Lists of nodes, requests and letters, as functions.
use Rattle.std.proofs.Common.{◌≡◌, ℕ, zero, suc, ◌<◌, Bool, true, false, List, [], ◌∷◌, ◌++◌, length, map, Option, Some, None, refl, sym, ap, ◌∙◌, arith, nat_eq, if◌then◌else◌}
use Rattle.std.specs.Prelude.{slice_get, slice_set, option_map}
use Rattle.frame_codec.specs.declared.frame.Leg.{Leg}
use Rattle.frame_codec.specs.declared.frame.Back.{Back}
use Rattle.run_rules.specs.declared.client.Asking.{Asking}
use Rattle.run_rules.specs.declared.switch.Out.{Out}
use Rattle.run_rules.specs.declared.switch.Out.TheVariants as out
use Rattle.run_rules.specs.declared.node.Accepted.{Accepted}
use Rattle.run_rules.specs.declared.node.Accepted.TheVariants as accepted
use Rattle.run_rules.specs.Node.{NodeState}
use Rattle.run_laws.specs.Plan as p
use Rattle.run_laws.specs.World as w
use Rattle.run_views.specs.Frames.{leg_view}
use Rattle.run_views.specs.Setting.{Setting}
use Rattle.run_views.specs.Nodes.{node_view, accepted_view}
use Rattle.run_views.specs.Nodes as vn
use Rattle.run_views.specs.Clients.{asking_view}
use Rattle.run_views.specs.Clients as vc
use Rattle.run_views.specs.Switches as vs
use Rattle.event_run.specs.Letters.{Letter, sent_leg, sent_back, sent_out}
use Rattle.event_run.specs.World.{sent_accepted}
use Rattle.event_run.specs.Always.{letter_view, node_at, asking_at}

-- an item that was put, and the others
pub get_set : {A : Type 0} (xs : List A) (r : ℕ) (y : A) (q : ℕ) → r < length xs → slice_get (slice_set xs r y) q ≡ (if nat_eq q r then Some y else slice_get xs q)
get_set [] r y q h = absurd (omega (arith, h))
get_set (x ∷ xs) zero y zero h = refl
get_set (x ∷ xs) zero y (suc q) h = let e : nat_eq (suc q) 0 ≡ false = grind arith in sym (ap (λ b. if b then Some y else slice_get xs q) e)
get_set (x ∷ xs) (suc r) y zero h = let e : nat_eq 0 (suc r) ≡ false = grind arith in sym (ap (λ b. if b then Some y else Some x) e)
get_set (x ∷ xs) (suc r) y (suc q) h =
    let e : nat_eq q r ≡ nat_eq (suc q) (suc r) = grind arith in
    get_set xs r y q (omega (arith, h)) ∙ ap (λ b. if b then Some y else slice_get xs q) e

pub many_set : {A : Type 0} (xs : List A) (r : ℕ) (y : A) → length (slice_set xs r y) ≡ length xs
many_set [] r y = refl
many_set (x ∷ xs) zero y = refl
many_set (x ∷ xs) (suc r) y = ap suc (many_set xs r y)

-- where a number is low, an item is there
pub get_low : {A : Type 0} (xs : List A) (r : ℕ) → r < length xs → (x : A) × (slice_get xs r ≡ Some x)
get_low [] r h = absurd (omega (arith, h))
get_low (x ∷ xs) zero h = (x, refl)
get_low (x ∷ xs) (suc r) h = get_low xs r (omega (arith, h))

pub low_get : {A : Type 0} (xs : List A) (r : ℕ) (x : A) → slice_get xs r ≡ Some x → r < length xs
low_get [] r x e = absurd (cc)
low_get (y ∷ xs) zero x e = omega arith
low_get (y ∷ xs) (suc r) x e = let h = low_get xs r x e in omega (arith, h)

asking_if : (b : Bool) (y : Asking) (o : Option Asking) → asking_at (if b then Some y else o) ≡ (if b then asking_view y else asking_at o)
asking_if true y o = refl
asking_if false y o = refl

pub asking_put : (xs : List Asking) (r : ℕ) (y : Asking) (q : ℕ) → r < length xs → asking_at (slice_get (slice_set xs r y) q) ≡ p.put (λ q. asking_at (slice_get xs q)) r (asking_view y) q
asking_put xs r y q h = ap asking_at (get_set xs r y q h) ∙ asking_if (nat_eq q r) y (slice_get xs q)

node_if : (u : Setting) (b : Bool) (y : NodeState) (o : Option NodeState) → node_at u (if b then Some y else o) ≡ (if b then node_view u y else node_at u o)
node_if u true y o = refl
node_if u false y o = refl

pub node_put : (u : Setting) (xs : List NodeState) (r : ℕ) (y : NodeState) (q : ℕ) → r < length xs → node_at u (slice_get (slice_set xs r y) q) ≡ p.put (λ q. node_at u (slice_get xs q)) r (node_view u y) q
node_put u xs r y q h = ap (node_at u) (get_set xs r y q h) ∙ node_if u (nat_eq q r) y (slice_get xs q)

-- letters
pub map_append : (xs ys : List Letter) → map letter_view (xs ++ ys) ≡ map letter_view xs ++ map letter_view ys
map_append [] ys = refl
map_append (x ∷ xs) ys = ap (λ z. letter_view x ∷ z) (map_append xs ys)

pub get_map : (xs : List Letter) (k : ℕ) (o : Option Letter) → slice_get xs k ≡ o → slice_get (map letter_view xs) k ≡ option_map letter_view o
get_map [] k o e = ap (option_map letter_view) e
get_map (x ∷ xs) zero o e = ap (option_map letter_view) e
get_map (x ∷ xs) (suc k) o e = get_map xs k o e

pub leg_map : (o : Option Leg) → map letter_view (sent_leg o) ≡ vc.sent_leg o
leg_map None = refl
leg_map (Some l) = refl

pub back_map : (o : Option Back) → map letter_view (sent_back o) ≡ vn.sent_back o
back_map None = refl
back_map (Some b) = refl

pub out_map : (o : Out) → map letter_view (sent_out o) ≡ vs.sent_out o
out_map (out.ToNode n l) = refl
out_map (out.ToClient c b) = refl
out_map out.Nothing = refl

pub accepted_map : (l : Leg) (a : Accepted) → map letter_view (sent_accepted l a) ≡ w.accepted_sends (leg_view l) (accepted_view a)
accepted_map l (accepted.Answer b) = refl
accepted_map l accepted.Elsewhere = refl
accepted_map l accepted.Foreign = refl
accepted_map l accepted.Running = refl
accepted_map l accepted.Full = refl
accepted_map l accepted.Started = refl
accepted_map l accepted.Memory = refl
