-- One client of many.
use Rattle.std.proofs.Common.{◌≡◌, ℕ, zero, suc, ◌<◌, List, [], ◌∷◌, length, get_or, Some, refl, sym, ap, ◌∙◌, subst, arith}
use Rattle.std.specs.Prelude.{slice_get, slice_set}
use Rattle.std.proofs.lemmas.Option.{slice_get-get_or}
use Rattle.frame_codec.specs.declared.frame.Back.{Back}
use Rattle.run_rules.specs.declared.client.Asking.{Asking}
use Rattle.run_rules.specs.declared.client.Heard.{Heard}
use Rattle.client_core.specs.declared.request.Request.{Request}
use Rattle.client_core.specs.Requests.{ClientState, Has, find}
use Rattle.client_core.specs.Calls.{Does, Hears}
use Rattle.world_core.specs.inner.Clients.{HasAt, DoesAt, HearsAt}

-- the client that stands there is the one that has the request
same : (k x : ClientState) (clients : List ClientState) (c : ℕ) → slice_get clients c ≡ Some k → c < length clients → x ≡ get_or clients c x → x ≡ k
same k x clients c e h i = let s : Some x ≡ Some k = ap Some i ∙ sym (slice_get-get_or clients c x h) ∙ e in cc

pub has_at : (clients : List ClientState) (c r : ℕ) (x : ClientState) → HasAt clients c r → c < length clients → x ≡ get_or clients c x → Has x r
has_at clients c r x h lt i = subst (λ (k : ClientState). Has k r) (sym (same h.0 x clients c h.1 lt i)) h.2

pub does_at : {A : Type 0} (clients : List ClientState) (c r : ℕ) (x y : ClientState) (rule : ClientState → Request → Asking × A) (answer : A)
    → c < length clients → x ≡ get_or clients c x → Does x y r (rule x) answer → DoesAt clients (slice_set clients c y) c r rule answer
does_at clients c r x y rule answer h i d = record { before = x; after = y; stands = slice_get-get_or clients c x h ∙ ap Some (sym i); does = d; left = refl }

pub hears_at : (clients : List ClientState) (c : ℕ) (x y : ClientState) (b : Back) (a : Heard)
    → c < length clients → x ≡ get_or clients c x → Hears x y b a (find x.requests b.request) → HearsAt clients (slice_set clients c y) c b a
hears_at clients c x y b a h i d = record { before = x; after = y; stands = slice_get-get_or clients c x h ∙ ap Some (sym i); hears = d; left = refl }

-- a client that is there has a place
pub at_here : (clients : List ClientState) (c r : ℕ) → HasAt clients c r → c < length clients
at_here clients c r h = by clients c h.1
  where
    by : (xs : List ClientState) (n : ℕ) → slice_get xs n ≡ Some h.0 → n < length xs
    by [] n e = absurd (cc)
    by (x ∷ xs) zero e = omega arith
    by (x ∷ xs) (suc n) e = let i = by xs n e in omega (arith, i)
