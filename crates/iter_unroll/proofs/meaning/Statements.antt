-- Flat statements mean what statements of the tree mean.
use Rattle.std.proofs.Common.{◌≡◌, ℕ, zero, suc, ◌+◌, ◌-◌, ◌<◌, List, [], ◌∷◌, length, Option, Some, None, IfSome, refl, sym, ap, subst, ◌∙◌, arith, length-set, get_or-set_same, le_refl}
use Rattle.iter_syntax.specs.declared.tree.Place.{Place}
use Rattle.iter_syntax.specs.declared.tree.Width.{Width}
use Rattle.iter_syntax.specs.declared.tree.Word.{Word}
use Rattle.iter_syntax.specs.declared.tree.FieldDecl.{FieldDecl}
use Rattle.iter_syntax.specs.Tree.{Ex, Sts}
use Rattle.iter_syntax.specs.Tree as t
use Rattle.iter_check.specs.Layout.{Slot, text, find_field}
use Rattle.iter_check.specs.FieldValue.{write_item}
use Rattle.iter_check.specs.State.{Names, State, change}
use Rattle.iter_check.specs.Value.{word}
use Rattle.iter_check.specs.Meaning.{Outcome, turns, meaning, within, given}
use Rattle.iter_unroll.specs.Flat.{Fx, Fs, Fixed, Slots, Leaving, flat_value, flat_given, flat_then, flat_meaning, to_slot, to_pad, to_cur}
use Rattle.iter_unroll.specs.unrolling.Flattened.{join}
use Rattle.iter_unroll.specs.Flat as f
use Rattle.iter_unroll.specs.declared.scope.Meant.TheVariants as m
use Rattle.iter_unroll.specs.unrolling.Scope.{Env, lookup, Shape, index}
use Rattle.iter_unroll.specs.Uses.{element_of}
use Rattle.iter_unroll.specs.unrolling.Flattened.{let_slot, flat_ex, flat_turns, flat_of}
use Rattle.iter_unroll.specs.unrolling.Tied.{setting, as_state, Binds, Fit, Tied, Grown, Comes, SameEx, Same, FlatLaw}
use Rattle.iter_unroll.proofs.meaning.Options.{if_map, if_two, if_three, if_four, if_roomy}
use Rattle.iter_unroll.proofs.meaning.Leaves.{join_is, given_comes, writable_comes, pick_comes, loosen, then_comes, binds_length, within_comes}
use Rattle.iter_unroll.proofs.meaning.Names.{Assigned, kept, assigned, ungrow}
use Rattle.iter_unroll.proofs.meaning.Values.{V, Chosen, chosen, index_is, same_ex, for_each}

-- from names to the same names
stay : (n : ℕ) (env : Env) (g : Fixed) (a : Slots) (names : Names) → Fit n env g a names → Tied n env g a (as_state a names)
stay n env g a names h = record { names = names; is = refl; fit = h }

grown : (n : ℕ) (env : Env) (g : Fixed) (a : Slots) (names : Names) → Fit n env g a names → Grown n env g a (as_state a names)
grown n env g a names h = record { top = []; names = names; is = refl; fit = h }

-- other bytes
moved : (n : ℕ) (env : Env) (g : Fixed) (a b : Slots) (names : Names) → b.slots ≡ a.slots → Fit n env g a names → Fit n env g b names
moved n env g a b names e h =
    record { few = h.few; eight = ap length e ∙ h.eight; binds = subst (λ x. Binds n env names x g.args) (sym e) h.binds }

-- a let
let_fit : (n : ℕ) (env : Env) (g : Fixed) (a : Slots) (names : Names) (x : List ℕ) (v : ℕ) → n < 8 → Fit n env g a names → Fit (suc n) ((x, m.Slot n) ∷ env) g (to_slot n v a) ((x, v) ∷ names)
let_fit n env g a names x v lt h =
    record {
      few = lt;
      eight = length-set a.slots n v ∙ h.eight;
      binds = (refl, (refl, get_or-set_same a.slots n v 0 (omega (arith, lt, h.eight))), kept n env names a.slots g.args n v (le_refl n) h.binds);
    }

-- a loop variable
turn_fit : (n : ℕ) (env : Env) (g : Fixed) (a : Slots) (names : Names) (x : List ℕ) (i : ℕ) → Fit n env g a names → Fit n ((x, m.Number i) ∷ env) g a ((x, i) ∷ names)
turn_fit n env g a names x i h = record { few = h.few; eight = h.eight; binds = (refl, refl, h.binds) }

bind_same : (sh : Shape) (g : Fixed) (n : ℕ) (env : Env) (p : Place) (w : Word) (e : Ex) (rest : Sts) (x : Fx) (r : Fs) → n < 8 → SameEx sh g n env e x → Same sh g (suc n) ((text w, m.Slot n) ∷ env) rest r → Same sh g n env (t.bind p w e rest) (f.put_slot n x r)
bind_same sh g n env p w e rest x r lt hx hr a names h =
    given_comes (Grown n env g) _ _ _ _ (ap word (hx a names h))
    (λ v. loosen (Grown (suc n) ((text w, m.Slot n) ∷ env) g) (Grown n env g) (ungrow (suc n) (text w) (m.Slot n) env g h.few) _ _
    (hr (to_slot n v a) ((text w, v) ∷ names) (let_fit n env g a names (text w) v lt h)))

-- the slot of a name, assigned
abbrev Lands : Fixed → ℕ → Env → Word → ℕ → Type 0
Lands g n env w k = (a : Slots) (names : Names) → Fit n env g a names → (v : ℕ) → Assigned n env (change (text w) v names) a.slots g.args v k

each_value : {A : Type 0} (o : Option A) (P : ℕ → A → Type 0) → ((v : ℕ) → IfSome o (P v)) → IfSome o (λ x. (v : ℕ) → P v x)
each_value None P h = tt
each_value (Some x) P h = h

lands : (g : Fixed) (n : ℕ) (env : Env) (w : Word) → IfSome (let_slot (lookup (text w) env)) (Lands g n env w)
lands g n env w =
    for_each n env g (let_slot (lookup (text w) env)) (λ a names k. (v : ℕ) → Assigned n env (change (text w) v names) a.slots g.args v k)
    (λ a names h. each_value (let_slot (lookup (text w) env)) (λ v k. Assigned n env (change (text w) v names) a.slots g.args v k)
    (λ v. assigned (text w) n env names a.slots g.args v (omega (arith, h.few, h.eight)) h.binds))

set_same : (sh : Shape) (g : Fixed) (n : ℕ) (env : Env) (p : Place) (w : Word) (e : Ex) (rest : Sts) (k : ℕ) (x : Fx) (r : Fs) → Lands g n env w k → SameEx sh g n env e x → Same sh g n env rest r → Same sh g n env (t.set p w e rest) (f.put_slot k x r)
set_same sh g n env p w e rest k x r hk hx hr a names h =
    given_comes (Grown n env g) _ _ _ _ (ap word (hx a names h))
    (λ v. hr (to_slot k v a) (change (text w) v names) (record { few = h.few; eight = length-set a.slots k v ∙ h.eight; binds = (hk a names h v).1 }))

-- a store with an index
abbrev Item : Shape → Fixed → ℕ → Env → List FieldDecl → Word → Ex → ℕ × Width → Type 0
Item sh g n env fields w i u = (a : Slots) (names : Names) → Fit n env g a names → Chosen (find_field fields (text w)) (word (V sh g a names i)) u

item : (sh : Shape) (g : Fixed) (n : ℕ) (env : Env) (fields : List FieldDecl) (w : Word) (i : Ex) → IfSome (element_of fields w (index env i)) (Item sh g n env fields w i)
item sh g n env fields w i =
    for_each n env g (element_of fields w (index env i)) (λ a names u. Chosen (find_field fields (text w)) (word (V sh g a names i)) u)
    (λ a names h. chosen fields w (index env i) (word (V sh g a names i)) (index_is sh g a n env names h i))

-- the index is there
index_given : (P : Slots → State → Type 0) (fo : Leaving) (w : Option ℕ) (k : ℕ) (o : ℕ → Outcome) → w ≡ Some k → Comes P fo (o k) → Comes P fo (given w o)
index_given P fo w k o e h = subst (λ x. Comes P fo (given x o)) (sym e) h

-- a store to the pad goes on
pad_on : (sh : Shape) (g : Fixed) (n : ℕ) (env : Env) (w : Word) (rest : Sts) (r : Fs) (c : Option ℕ) (u : ℕ × Width) (a : Slots) (names : Names) (v : ℕ) → (k : Chosen (find_field sh.pad_fields (text w)) c u) → Same sh g n env rest r → Fit n env g a names → Comes (Grown n env g) (flat_meaning g r (to_pad u.0 u.1 v a)) (meaning (setting sh g) rest (record (as_state a names) { pad = write_item (find_field sh.pad_fields (text w)) k.k v a.pad }))
pad_on sh g n env w rest r c u a names v k hr h =
    subst (λ z. Comes (Grown n env g) (flat_meaning g r (to_pad u.0 u.1 v a)) (meaning (setting sh g) rest (record (as_state a names) { pad = z }))) (sym (k.item.writes v a.pad))
    (hr (to_pad u.0 u.1 v a) names (moved n env g a (to_pad u.0 u.1 v a) names refl h))

cur_on : (sh : Shape) (g : Fixed) (n : ℕ) (env : Env) (w : Word) (rest : Sts) (r : Fs) (c : Option ℕ) (u : ℕ × Width) (a : Slots) (names : Names) (v : ℕ) → (k : Chosen (find_field sh.record_fields (text w)) c u) → Same sh g n env rest r → Fit n env g a names → Comes (Grown n env g) (flat_meaning g r (to_cur u.0 u.1 v a)) (meaning (setting sh g) rest (record (as_state a names) { record_bytes = write_item (find_field sh.record_fields (text w)) k.k v a.record_bytes }))
cur_on sh g n env w rest r c u a names v k hr h =
    subst (λ z. Comes (Grown n env g) (flat_meaning g r (to_cur u.0 u.1 v a)) (meaning (setting sh g) rest (record (as_state a names) { record_bytes = z }))) (sym (k.item.writes v a.record_bytes))
    (hr (to_cur u.0 u.1 v a) names (moved n env g a (to_cur u.0 u.1 v a) names refl h))

some_same : (k : ℕ) → Some 0 ≡ Some k → k ≡ 0
some_same k e = cc

first_case : (o : Option Slot) (e : Option (ℕ × Width)) → IfSome e (Chosen o (Some 0)) → IfSome e (λ u. (c : Chosen o (Some 0) u) × (c.k ≡ 0))
first_case o None h = tt
first_case o (Some u) h = (h, some_same h.k h.is)

-- the first element
first : (fields : List FieldDecl) (w : Word) → IfSome (element_of fields w (Some 0)) (λ u. (c : Chosen (find_field fields (text w)) (Some 0) u) × (c.k ≡ 0))
first fields w = first_case (find_field fields (text w)) (element_of fields w (Some 0)) (chosen fields w (Some 0) (Some 0) refl)

pad_same : (sh : Shape) (g : Fixed) (n : ℕ) (env : Env) (p : Place) (w : Word) (e : Ex) (rest : Sts) (u : ℕ × Width) (x : Fx) (r : Fs) → (c : Chosen (find_field sh.pad_fields (text w)) (Some 0) u) × (c.k ≡ 0) → SameEx sh g n env e x → Same sh g n env rest r → Same sh g n env (t.set_pad p w e rest) (f.put_pad u.0 u.1 x r)
pad_same sh g n env p w e rest u x r c hx hr a names h =
    given_comes (Grown n env g) _ _ _ _ (ap word (hx a names h))
    (λ v. subst (λ k. Comes (Grown n env g) (flat_meaning g r (to_pad u.0 u.1 v a)) (meaning (setting sh g) rest (record (as_state a names) { pad = write_item (find_field sh.pad_fields (text w)) k v a.pad }))) c.1
    (pad_on sh g n env w rest r (Some 0) u a names v c.0 hr h))

cur_same : (sh : Shape) (g : Fixed) (n : ℕ) (env : Env) (p : Place) (w : Word) (e : Ex) (rest : Sts) (u : ℕ × Width) (x : Fx) (r : Fs) → (c : Chosen (find_field sh.record_fields (text w)) (Some 0) u) × (c.k ≡ 0) → SameEx sh g n env e x → Same sh g n env rest r → Same sh g n env (t.set_cur p w e rest) (f.put_cur u.0 u.1 x r)
cur_same sh g n env p w e rest u x r c hx hr a names h =
    given_comes (Grown n env g) _ _ _ _ (ap word (hx a names h))
    (λ v. writable_comes (Grown n env g) g.writable _ _
    (subst (λ k. Comes (Grown n env g) (flat_meaning g r (to_cur u.0 u.1 v a)) (meaning (setting sh g) rest (record (as_state a names) { record_bytes = write_item (find_field sh.record_fields (text w)) k v a.record_bytes }))) c.1
    (cur_on sh g n env w rest r (Some 0) u a names v c.0 hr h)))

pad_item_same : (sh : Shape) (g : Fixed) (n : ℕ) (env : Env) (p : Place) (w : Word) (i e : Ex) (rest : Sts) (u : ℕ × Width) (x : Fx) (r : Fs) → Item sh g n env sh.pad_fields w i u → SameEx sh g n env e x → Same sh g n env rest r → Same sh g n env (t.set_pad_item p w i e rest) (f.put_pad u.0 u.1 x r)
pad_item_same sh g n env p w i e rest u x r hi hx hr a names h =
    let c = hi a names h in
    index_given (Grown n env g) _ (word (V sh g a names i)) c.k _ c.is
    (given_comes (Grown n env g) _ _ _ _ (ap word (hx a names h)) (λ v. pad_on sh g n env w rest r _ u a names v c hr h))

cur_item_same : (sh : Shape) (g : Fixed) (n : ℕ) (env : Env) (p : Place) (w : Word) (i e : Ex) (rest : Sts) (u : ℕ × Width) (x : Fx) (r : Fs) → Item sh g n env sh.record_fields w i u → SameEx sh g n env e x → Same sh g n env rest r → Same sh g n env (t.set_cur_item p w i e rest) (f.put_cur u.0 u.1 x r)
cur_item_same sh g n env p w i e rest u x r hi hx hr a names h =
    let c = hi a names h in
    index_given (Grown n env g) _ (word (V sh g a names i)) c.k _ c.is
    (given_comes (Grown n env g) _ _ _ _ (ap word (hx a names h)) (λ v. writable_comes (Grown n env g) g.writable _ _ (cur_on sh g n env w rest r _ u a names v c hr h)))

-- a block
block_same : (sh : Shape) (g : Fixed) (n : ℕ) (env : Env) (ss : Sts) (b : Fs) (a : Slots) (names : Names) → Same sh g n env ss b → Fit n env g a names → Comes (Tied n env g) (flat_meaning g b a) (within (length names) (meaning (setting sh g) ss (as_state a names)))
block_same sh g n env ss b a names hb h =
    within_comes n env g (length names) (binds_length n env names a.slots g.args h.binds) _ _ (hb a names h)

when_same : (sh : Shape) (g : Fixed) (n : ℕ) (env : Env) (p : Place) (c : Ex) (yes1 rest : Sts) (x : Fx) (b r : Fs) → SameEx sh g n env c x → Same sh g n env yes1 b → Same sh g n env rest r → Same sh g n env (t.when p c yes1 rest) (f.choose x b f.end r)
when_same sh g n env p c yes1 rest x b r hx hb hr a names h =
    given_comes (Grown n env g) _ _ _ _ (ap word (hx a names h))
    (λ v. then_comes n env g (Grown n env g) _ _ _ _ (pick_comes (Tied n env g) v _ _ _ _ (block_same sh g n env yes1 b a names hb h) (stay n env g a names h)) hr)

choose_same : (sh : Shape) (g : Fixed) (n : ℕ) (env : Env) (p : Place) (c : Ex) (s1 s2 rest : Sts) (x : Fx) (b1 b2 r : Fs) → SameEx sh g n env c x → Same sh g n env s1 b1 → Same sh g n env s2 b2 → Same sh g n env rest r → Same sh g n env (t.choose p c s1 s2 rest) (f.choose x b1 b2 r)
choose_same sh g n env p c s1 s2 rest x b1 b2 r hx h1 h2 hr a names h =
    given_comes (Grown n env g) _ _ _ _ (ap word (hx a names h))
    (λ v. then_comes n env g (Grown n env g) _ _ _ _ (pick_comes (Tied n env g) v _ _ _ _ (block_same sh g n env s1 b1 a names h1 h) (block_same sh g n env s2 b2 a names h2 h)) hr)

-- the turns of a loop
abbrev TurnsSame : Shape → Fixed → ℕ → Env → Word → Sts → ℕ → ℕ → Fs → Type 0
TurnsSame sh g n env w body i c b = (a : Slots) (names : Names) → Fit n env g a names → Comes (Tied n env g) (flat_meaning g b a) (turns w i c (meaning (setting sh g) body) (as_state a names))

turn_same : (sh : Shape) (g : Fixed) (n : ℕ) (env : Env) (w : Word) (body : Sts) (i c : ℕ) (x y : Fs) → Same sh g n ((text w, m.Number i) ∷ env) body x → TurnsSame sh g n env w body (i + 1) c y → TurnsSame sh g n env w body i (suc c) (join x y)
turn_same sh g n env w body i c x y hx hy a names h =
    subst (λ o. Comes (Tied n env g) o (turns w i (suc c) (meaning (setting sh g) body) (as_state a names))) (sym (join_is g x y a))
    (then_comes n env g (Tied n env g) _ _ _ _
    (within_comes n env g (length names) (binds_length n env names a.slots g.args h.binds) _ _
    (loosen (Grown n ((text w, m.Number i) ∷ env) g) (Grown n env g) (ungrow n (text w) (m.Number i) env g h.few) _ _
    (hx a ((text w, i) ∷ names) (turn_fit n env g a names (text w) i h))))
    hy)

turns_same : (sh : Shape) (g : Fixed) (n : ℕ) (env : Env) (w : Word) (body : Sts) → ((i : ℕ) → IfSome (flat_of sh n ((text w, m.Number i) ∷ env) body) (Same sh g n ((text w, m.Number i) ∷ env) body)) → (c i : ℕ) → IfSome (flat_turns (λ j. flat_of sh n ((text w, m.Number j) ∷ env) body) i c) (TurnsSame sh g n env w body i c)
turns_same sh g n env w body hb zero i = λ a names h. stay n env g a names h
turns_same sh g n env w body hb (suc c) i =
    if_two join (flat_of sh n ((text w, m.Number i) ∷ env) body) (flat_turns (λ j. flat_of sh n ((text w, m.Number j) ∷ env) body) (i + 1) c)
    (Same sh g n ((text w, m.Number i) ∷ env) body) (TurnsSame sh g n env w body (i + 1) c) (TurnsSame sh g n env w body i (suc c))
    (hb i) (turns_same sh g n env w body hb c (i + 1)) (λ x y hx hy. turn_same sh g n env w body i c x y hx hy)

loop_same : (sh : Shape) (g : Fixed) (n : ℕ) (env : Env) (p : Place) (w : Word) (i past : ℕ) (body rest : Sts) (x r : Fs) → TurnsSame sh g n env w body i (past - i) x → Same sh g n env rest r → Same sh g n env (t.loop p w i past body rest) (join x r)
loop_same sh g n env p w i past body rest x r hx hr a names h =
    subst (λ o. Comes (Grown n env g) o (meaning (setting sh g) (t.loop p w i past body rest) (as_state a names))) (sym (join_is g x r a))
    (then_comes n env g (Grown n env g) _ _ _ _ (hx a names h) hr)

go_same : (sh : Shape) (g : Fixed) (n : ℕ) (env : Env) (p : Place) (e : Ex) (rest : Sts) (x : Fx) (r : Fs) → SameEx sh g n env e x → Same sh g n env (t.go p e rest) (f.go x r)
go_same sh g n env p e rest x r hx a names h = given_comes (Grown n env g) _ _ _ _ (ap word (hx a names h)) (λ v. refl)

pub flat_means : FlatLaw
flat_means sh g n env t.end = λ a names h. grown n env g a names h
flat_means sh g n env (t.bind p w e rest) =
    if_roomy n _ _ (λ lt. if_two (f.put_slot n) (flat_ex sh env e) (flat_of sh (suc n) ((text w, m.Slot n) ∷ env) rest)
    (SameEx sh g n env e) (Same sh g (suc n) ((text w, m.Slot n) ∷ env) rest) (Same sh g n env (t.bind p w e rest))
    (same_ex sh g n env e) (flat_means sh g (suc n) ((text w, m.Slot n) ∷ env) rest) (λ x r hx hr. bind_same sh g n env p w e rest x r lt hx hr))
flat_means sh g n env (t.set p w e rest) =
    if_three f.put_slot (let_slot (lookup (text w) env)) (flat_ex sh env e) (flat_of sh n env rest)
    (Lands g n env w) (SameEx sh g n env e) (Same sh g n env rest) (Same sh g n env (t.set p w e rest))
    (lands g n env w) (same_ex sh g n env e) (flat_means sh g n env rest) (λ k x r hk hx hr. set_same sh g n env p w e rest k x r hk hx hr)
flat_means sh g n env (t.set_pad p w e rest) =
    if_three _ (element_of sh.pad_fields w (Some 0)) (flat_ex sh env e) (flat_of sh n env rest)
    (λ u. (c : Chosen (find_field sh.pad_fields (text w)) (Some 0) u) × (c.k ≡ 0)) (SameEx sh g n env e) (Same sh g n env rest) (Same sh g n env (t.set_pad p w e rest))
    (first sh.pad_fields w) (same_ex sh g n env e) (flat_means sh g n env rest) (λ u x r hu hx hr. pad_same sh g n env p w e rest u x r hu hx hr)
flat_means sh g n env (t.set_pad_item p w i e rest) =
    if_three _ (element_of sh.pad_fields w (index env i)) (flat_ex sh env e) (flat_of sh n env rest)
    (Item sh g n env sh.pad_fields w i) (SameEx sh g n env e) (Same sh g n env rest) (Same sh g n env (t.set_pad_item p w i e rest))
    (item sh g n env sh.pad_fields w i) (same_ex sh g n env e) (flat_means sh g n env rest) (λ u x r hu hx hr. pad_item_same sh g n env p w i e rest u x r hu hx hr)
flat_means sh g n env (t.set_cur p w e rest) =
    if_three _ (element_of sh.record_fields w (Some 0)) (flat_ex sh env e) (flat_of sh n env rest)
    (λ u. (c : Chosen (find_field sh.record_fields (text w)) (Some 0) u) × (c.k ≡ 0)) (SameEx sh g n env e) (Same sh g n env rest) (Same sh g n env (t.set_cur p w e rest))
    (first sh.record_fields w) (same_ex sh g n env e) (flat_means sh g n env rest) (λ u x r hu hx hr. cur_same sh g n env p w e rest u x r hu hx hr)
flat_means sh g n env (t.set_cur_item p w i e rest) =
    if_three _ (element_of sh.record_fields w (index env i)) (flat_ex sh env e) (flat_of sh n env rest)
    (Item sh g n env sh.record_fields w i) (SameEx sh g n env e) (Same sh g n env rest) (Same sh g n env (t.set_cur_item p w i e rest))
    (item sh g n env sh.record_fields w i) (same_ex sh g n env e) (flat_means sh g n env rest) (λ u x r hu hx hr. cur_item_same sh g n env p w i e rest u x r hu hx hr)
flat_means sh g n env (t.when p c s1 rest) =
    if_three _ (flat_ex sh env c) (flat_of sh n env s1) (flat_of sh n env rest)
    (SameEx sh g n env c) (Same sh g n env s1) (Same sh g n env rest) (Same sh g n env (t.when p c s1 rest))
    (same_ex sh g n env c) (flat_means sh g n env s1) (flat_means sh g n env rest) (λ x b r hx hb hr. when_same sh g n env p c s1 rest x b r hx hb hr)
flat_means sh g n env (t.choose p c s1 s2 rest) =
    if_four f.choose (flat_ex sh env c) (flat_of sh n env s1) (flat_of sh n env s2) (flat_of sh n env rest)
    (SameEx sh g n env c) (Same sh g n env s1) (Same sh g n env s2) (Same sh g n env rest) (Same sh g n env (t.choose p c s1 s2 rest))
    (same_ex sh g n env c) (flat_means sh g n env s1) (flat_means sh g n env s2) (flat_means sh g n env rest) (λ x b1 b2 r hx h1 h2 hr. choose_same sh g n env p c s1 s2 rest x b1 b2 r hx h1 h2 hr)
flat_means sh g n env (t.loop p w i past body rest) =
    if_two join (flat_turns (λ j. flat_of sh n ((text w, m.Number j) ∷ env) body) i (past - i)) (flat_of sh n env rest)
    (TurnsSame sh g n env w body i (past - i)) (Same sh g n env rest) (Same sh g n env (t.loop p w i past body rest))
    (turns_same sh g n env w body (λ j. flat_means sh g n ((text w, m.Number j) ∷ env) body) (past - i) i) (flat_means sh g n env rest) (λ x r hx hr. loop_same sh g n env p w i past body rest x r hx hr)
flat_means sh g n env (t.done p rest) =
    if_map (flat_of sh n env rest) f.done (Same sh g n env rest) (Same sh g n env (t.done p rest)) (flat_means sh g n env rest) (λ r hr a names h. refl)
flat_means sh g n env (t.go p e rest) =
    if_two f.go (flat_ex sh env e) (flat_of sh n env rest) (SameEx sh g n env e) (Same sh g n env rest) (Same sh g n env (t.go p e rest))
    (same_ex sh g n env e) (flat_means sh g n env rest) (λ x r hx hr. go_same sh g n env p e rest x r hx)
