-- What holds of a scene stays true where a node, a client or the letters change.
use Rattle.std.proofs.Common.{◌≡◌, ℕ, zero, suc, List, [], ◌∷◌, ◌++◌, length, Some, refl, sym, ap, ◌∙◌, map, subst}
use Rattle.std.specs.Prelude.{slice_get, slice_set}
use Rattle.std.proofs.lemmas.List.{length-set, length-map, map-append}
use Rattle.run_rules.specs.Waiting.{Each}
use Rattle.run_rules.proofs.Finds.{each_append}
use Rattle.event_run.specs.Letters as e
use Rattle.event_run.specs.World.{next_number}
use Rattle.world_core.specs.declared.letter.Letter.{Letter}
use Rattle.world_core.specs.inner.Fits.{IsScene, LetterFits, SwitchFits}
use Rattle.world_core.specs.inner.Sends.{own}
use Rattle.world_core.specs.Letters.{letter_view}
use Rattle.world_core.specs.Scene.{Member, Scene, IsAsBefore, world_of}

-- ---- lists of which one item changes

pub each_set : {A : Type 0} (P : A → Type 0) (xs : List A) (n : ℕ) (y : A) → Each P xs → P y → Each P (slice_set xs n y)
each_set P [] n y f p = tt
each_set P (x ∷ xs) zero y f p = (p, f.1)
each_set P (x ∷ xs) (suc n) y f p = (f.0, each_set P xs n y f.1 p)

pub each_at : {A : Type 0} (P : A → Type 0) (xs : List A) (n : ℕ) (x : A) → Each P xs → slice_get xs n ≡ Some x → P x
each_at P [] n x f e = absurd (cc)
each_at P (y ∷ xs) zero x f e = let c : y ≡ x = cc in subst P c f.0
each_at P (y ∷ xs) (suc n) x f e = each_at P xs n x f.1 e

pub map_set_same : {A B : Type 0} (f : A → B) (xs : List A) (n : ℕ) (x y : A) → slice_get xs n ≡ Some x → f y ≡ f x → map f (slice_set xs n y) ≡ map f xs
map_set_same f [] n x y e same = absurd (cc)
map_set_same f (z ∷ xs) zero x y e same = let c : z ≡ x = cc in ap (λ w. w ∷ map f xs) (same ∙ ap f (sym c))
map_set_same f (z ∷ xs) (suc n) x y e same = ap (λ w. f z ∷ w) (map_set_same f xs n x y e same)

-- ---- letters that are sent, as the event run has them

own_one : (to : e.To) (x : e.Content) → letter_view (own (record { to = to; content = x })) ≡ record { to = to; content = x }
own_one e.ToSwitch (e.OfLeg l) = refl
own_one e.ToSwitch (e.OfBack b) = refl
own_one (e.ToNode n) (e.OfLeg l) = refl
own_one (e.ToNode n) (e.OfBack b) = refl
own_one (e.ToClient c) (e.OfLeg l) = refl
own_one (e.ToClient c) (e.OfBack b) = refl

own_view : (ms : List e.Letter) → map letter_view (map own ms) ≡ ms
own_view [] = refl
own_view (m ∷ ms) = λ i. own_one m.to m.content i ∷ own_view ms i

pub letters_so : (sent new : List Letter) (ms : List e.Letter) → new ≡ sent ++ map own ms → map letter_view new ≡ map letter_view sent ++ ms
letters_so sent new ms eq = ap (map letter_view) eq ∙ map-append letter_view sent (map own ms) ∙ ap (λ z. map letter_view sent ++ z) (own_view ms)

pub next_in : (s : Scene) → next_number (world_of s) ≡ length s.letters
next_in s = length-map s.letters letter_view

-- ---- what holds of a scene

pub with_letters : (s : Scene) (letters ms : List Letter) → IsScene s → letters ≡ s.letters ++ ms → Each (LetterFits (length s.nodes) (length s.clients)) ms → IsScene (record s { letters = letters })
with_letters s letters ms h eq f = record {
  switch = h.switch;
  nodes = h.nodes;
  clients = h.clients;
  homes = h.homes;
  owned = h.owned;
  letters = subst (Each (LetterFits (length s.nodes) (length s.clients))) (sym eq) (each_append _ s.letters ms h.letters f);
}

-- a node stands otherwise, with its images
pub with_node_set : (s : Scene) (nodes : List Member) (n : ℕ) (y : Member) → IsScene s → nodes ≡ slice_set s.nodes n y → y.part.images ≡ s.images → IsScene (record s { nodes = nodes })
with_node_set s nodes n y h eq same =
    let long : length nodes ≡ length s.nodes = ap (λ (z : List Member). length z) eq ∙ length-set s.nodes n y in
    record {
      switch = subst (λ k. SwitchFits s.switch k (length s.clients)) (sym long) h.switch;
      nodes = subst (Each (λ (m : Member). m.part.images ≡ s.images)) (sym eq) (each_set _ s.nodes n y h.nodes same);
      clients = h.clients;
      homes = h.homes;
      owned = h.owned;
      letters = subst (λ k. Each (LetterFits k (length s.clients)) s.letters) (sym long) h.letters;
    }

-- another order
pub with_order : (s : Scene) (order : List ℕ) → IsScene s → IsScene (record s { order = order })
with_order s order h = record { switch = h.switch; nodes = h.nodes; clients = h.clients; homes = h.homes; owned = h.owned; letters = h.letters }

-- ---- where there was no memory

pub as_before : (s : Scene) (letters : List Letter) (order : List ℕ) → letters ≡ s.letters → order ≡ s.order → IsAsBefore s (record s { letters = letters; order = order })
as_before s letters order l o = record { nodes = refl; plain = refl; others = λ i. record s { letters = l i; order = o i } }

pub still_fits : (s : Scene) (letters : List Letter) (order : List ℕ) → IsScene s → letters ≡ s.letters → IsScene (record s { letters = letters; order = order })
still_fits s letters order h l = subst (λ z. IsScene (record s { letters = z; order = order })) (sym l) (with_order s order h)
