-- A map's keys ascend, so the first of them that is none of the known keys is the first such key in byte order.
use Rattle.std.proofs.Common.{◌≡◌, Bool, true, false, not, ℕ, List, [], ◌∷◌, map, filter, Option, Some, None, Less, String, Global, string_bytes, nat_cmp, if◌then◌else◌, refl, ap, sym}
use Rattle.std.specs.Cmp.Lexicographic.{slice_cmp}
use Rattle.std.specs.List.{AllByRecursion}
use Rattle.std.specs.List.Sorted.{IsStrictlySortedBy}
use Rattle.std.specs.Ordering.{is_lt}
use Rattle.std.specs.String.{string_cmp}
use Rattle.toml.specs.declared.value.Value.{Value}
use Rattle.toml.specs.View.{members_view}
use Rattle.scenario_text.specs.Keys.{Key, is_named, names_of, lesser, first_in_order, first_unknown}

-- the first of some names that the keys do not have
abbrev pub unknown_of : List Key → List (String Global) → Option (List ℕ)
unknown_of ks [] = None
unknown_of ks (s ∷ ss) = if is_named ks (string_bytes s) then unknown_of ks ss else Some (string_bytes s)

-- a name comes before another, if there is one
abbrev pub IsBefore : List ℕ → Option (List ℕ) → Type 0
IsBefore name None = Unit {0}
IsBefore name (Some other) = slice_cmp nat_cmp name other ≡ Less

before_lesser : (name here : List ℕ) (more : Option (List ℕ)) → slice_cmp nat_cmp name here ≡ Less → IsBefore name more → IsBefore name (Some (lesser here more))
before_lesser name here None h m = h
before_lesser name here (Some other) h m =
    pick (is_lt (slice_cmp nat_cmp here other))
  where
    pick : (b : Bool) → slice_cmp nat_cmp name (if b then here else other) ≡ Less
    pick true = h
    pick false = m

before_one_of : (taken : Bool) (name here : List ℕ) (more : List (List ℕ)) → slice_cmp nat_cmp name here ≡ Less → IsBefore name (first_in_order more) → IsBefore name (first_in_order (if taken then here ∷ more else more))
before_one_of true name here more h m = before_lesser name here (first_in_order more) h m
before_one_of false name here more h m = m

before_first : (p : List ℕ → Bool) (name : List ℕ) (es : List (String Global × Value)) → AllByRecursion (λ y. slice_cmp nat_cmp name (string_bytes y) ≡ Less) (map (λ e. e.0) es) → IsBefore name (first_in_order (filter p (names_of (members_view es))))
before_first p name [] h = tt
before_first p name (e ∷ es) h =
    before_one_of (p (string_bytes e.0)) name (string_bytes e.0) (filter p (names_of (members_view es))) h.0 (before_first p name es h.1)

lesser_before : (name : List ℕ) (more : Option (List ℕ)) → IsBefore name more → lesser name more ≡ name
lesser_before name None h = refl
lesser_before name (Some other) h = rw h

first_of : (known : Bool) (here : List ℕ) (more : List (List ℕ)) (rest : Option (List ℕ)) → rest ≡ first_in_order more → IsBefore here (first_in_order more) → (if known then rest else Some here) ≡ first_in_order (if not known then here ∷ more else more)
first_of true here more rest e h = e
first_of false here more rest e h = ap Some (sym (lesser_before here (first_in_order more) h))

pub unknown_members : (ks : List Key) (es : List (String Global × Value)) → IsStrictlySortedBy string_cmp (map (λ e. e.0) es) → unknown_of ks (map (λ e. e.0) es) ≡ first_unknown ks (members_view es)
unfolding IsStrictlySortedBy
unknown_members ks [] h = refl
unknown_members ks (e ∷ es) h =
    let unknown = λ (name : List ℕ). not (is_named ks name) in
    first_of (is_named ks (string_bytes e.0)) (string_bytes e.0) (filter unknown (names_of (members_view es))) (unknown_of ks (map (λ e. e.0) es))
    (unknown_members ks es h.1) (before_first unknown (string_bytes e.0) es h.0)
