-- How a family grows, one call after the other.
use Rattle.std.proofs.Common.{◌≡◌, ℕ, zero, suc, ◌+◌, ◌<◌, List, [], ◌∷◌, ◌++◌, length, slice_get, Option, Some, None, Ok, refl, sym, ap, subst, ◌∙◌, arith, append_assoc, add-zero, zero-add}
use Rattle.std.proofs.lemmas.List.{length_push}
use Rattle.pulse_base.specs.declared.source.Failed.{Failed}
use Rattle.pulse_base.specs.Spawner.{Family, Start, Starts, Waits}
use Rattle.pulse_serve.proofs.Traffics.{append_nil}
use Rattle.pulse_cluster.specs.Cluster.{FamilyGrew, starts, child_words, node_words, switch_words}
use Rattle.pulse_cluster.specs.inner.Starting.{StartsOne}

pub grew_none : (a : Option Family) → FamilyGrew a a [] []
grew_none None = refl
grew_none (Some f) = sym (ap Some (
    ap (λ l. record f { started = l; waited = f.waited ++ [] }) (append_nil f.started)
    ∙ ap (λ l. record f { waited = l }) (append_nil f.waited)))

pub grew_more : (a b c : Option Family) (s t : List Start) (v w : List ℕ) → FamilyGrew a b s v → FamilyGrew b c t w → FamilyGrew a c (s ++ t) (v ++ w)
grew_more None b c s t v w g h = subst (λ x. FamilyGrew x c t w) g h
grew_more (Some f) b c s t v w g h =
    subst (λ x. FamilyGrew x c t w) g h ∙ ap Some (
    ap (λ l. record f { started = l; waited = (f.waited ++ v) ++ w }) (append_assoc f.started s t)
    ∙ ap (λ l. record f { started = f.started ++ (s ++ t); waited = l }) (append_assoc f.waited v w))

pub started_one : (a b : Option Family) (words : List (List ℕ)) (input : List ℕ) (kid : ℕ) → Starts {E = Failed} a b words input (Ok kid) → FamilyGrew a b (record { words = words; input = input; kid = kid } ∷ []) []
started_one None b words input kid s = s
started_one (Some f) b words input kid s =
    s ∙ ap Some (ap (λ l. record f { started = f.started ++ record { words = words; input = input; kid = kid } ∷ []; waited = l }) (sym (append_nil f.waited)))

pub waited_one : (a b : Option Family) (kid status : ℕ) → Waits {T = ℕ} {E = Failed} a b kid (Ok status) → FamilyGrew a b [] (kid ∷ [])
waited_one None b kid status w = w
waited_one (Some f) b kid status w = w ∙ ap Some (ap (λ l. record f { started = l; waited = f.waited ++ kid ∷ [] }) (sym (append_nil f.started)))

-- ---- children that were started

starts_none : (input : List ℕ) (words : List (List (List ℕ))) → starts input words [] ≡ []
starts_none input [] = refl
starts_none input (w ∷ words) = refl

some_same : {A : Type 0} (x y : A) → Some x ≡ Some y → x ≡ y
some_same x y e = cc

none_some : {A : Type 0} (x : A) → ◌≡◌ {A = Option A} None (Some x) → ⊥
none_some x e = cc

starts_more : (input : List ℕ) (words : List (List (List ℕ))) (kids : List ℕ) (w : List (List ℕ)) (k : ℕ) → slice_get words (length kids) ≡ Some w
    → starts input words (kids ++ k ∷ []) ≡ starts input words kids ++ record { words = w; input = input; kid = k } ∷ []
starts_more input [] kids w k e = absurd (none_some w e)
starts_more input (v ∷ words) [] w k e =
    ap (λ l. record { words = v; input = input; kid = k } ∷ l) (starts_none input words)
    ∙ ap (λ x. record { words = x; input = input; kid = k } ∷ []) (some_same v w e)
starts_more input (v ∷ words) (j ∷ kids) w k e = ap (λ l. record { words = v; input = input; kid = j } ∷ l) (starts_more input words kids w k e)

-- before the first start
pub first_start : (a : Option Family) (input : List ℕ) (words : List (List (List ℕ))) (kids : List ℕ) → kids ≡ [] → FamilyGrew a a (starts input words kids) []
first_start a input words kids e = subst (λ l. FamilyGrew a a l []) (sym (ap (starts input words) e ∙ starts_none input words)) (grew_none a)

-- one start more
pub next_start : (a b c : Option Family) (input : List ℕ) (words : List (List (List ℕ))) (w v : List (List ℕ)) (kids more : List ℕ)
    → FamilyGrew a b (starts input words kids) [] → slice_get words (length kids) ≡ Some w → v ≡ w → StartsOne b c v input kids more → FamilyGrew a c (starts input words more) []
next_start a b c input words w v kids more g at same one =
    subst (λ l. FamilyGrew a c l []) (sym (ap (starts input words) one.last ∙ starts_more input words kids w one.kid at ∙ ap (λ x. starts input words kids ++ record { words = x; input = input; kid = one.kid } ∷ []) (sym same)))
    (grew_more a b c (starts input words kids) (record { words = v; input = input; kid = one.kid } ∷ []) [] [] g one.family)

pub one_longer : (b c : Option Family) (v : List (List ℕ)) (input kids more : List ℕ) → StartsOne b c v input kids more → length more ≡ length kids + 1
one_longer b c v input kids more one = ap length one.last ∙ length_push kids one.kid

-- ---- the words of each child

words_from : (turns n count k : ℕ) → k < count → slice_get (child_words turns n count) k ≡ Some (node_words (n + k) turns)
words_from turns n zero k h = absurd (omega arith)
words_from turns n (suc count) zero h = ap (λ m. Some (node_words m turns)) (sym (add-zero n))
words_from turns n (suc count) (suc k) h =
    let e : suc n + k ≡ n + suc k = omega arith in
    words_from turns (suc n) count k (omega arith) ∙ ap (λ m. Some (node_words m turns)) e

-- node n is the n-th child
pub node_at : (turns count n : ℕ) → n < count → slice_get (child_words turns 0 count) n ≡ Some (node_words n turns)
node_at turns count n h = words_from turns 0 count n h ∙ ap (λ m. Some (node_words m turns)) (zero-add n)

switch_from : (turns n count : ℕ) → slice_get (child_words turns n count) count ≡ Some (switch_words turns)
switch_from turns n zero = refl
switch_from turns n (suc count) = switch_from turns (suc n) count

-- the switch is the last one
pub switch_at : (turns count : ℕ) → slice_get (child_words turns 0 count) count ≡ Some (switch_words turns)
switch_at turns count = switch_from turns 0 count
