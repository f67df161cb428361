-- Straight code has at most the nodes of the text, and uses just the fields of the record that the text uses.
use Rattle.std.proofs.Common.{◌≡◌, ℕ, zero, suc, ◌+◌, ◌-◌, ◌*◌, ◌≤◌, List, [], ◌∷◌, ◌++◌, Option, Some, None, IfSome, refl, sym, ap, ap₂, ◌∙◌, arith, append_assoc, zero-le}
use Rattle.iter_syntax.specs.Tree.{Ex, Sts}
use Rattle.iter_syntax.specs.Tree as t
use Rattle.iter_check.specs.Layout.{text}
use Rattle.iter_check.specs.Value.{word}
use Rattle.iter_check.specs.Nodes.{nodes}
use Rattle.iter_unroll.specs.declared.scope.Meant.TheVariants as m
use Rattle.iter_unroll.specs.Flat.{Fx, Fs}
use Rattle.iter_unroll.specs.Flat as f
use Rattle.iter_unroll.specs.Limits.{fs_nodes}
use Rattle.iter_unroll.specs.Uses.{Use, fx_uses, fs_uses, element_of, index_value, listed, each_turn, sts_uses}
use Rattle.iter_unroll.specs.unrolling.Scope.{Env, lookup, Shape, index}
use Rattle.iter_unroll.specs.unrolling.Flattened.{flat_ex, join, let_slot, flat_turns, flat_of}
use Rattle.iter_unroll.proofs.meaning.Options.{if_map, if_two, if_three, if_four, if_roomy}
use Rattle.iter_unroll.proofs.counts.Nodes.{ExNodes, nodes_ex, always}
use Rattle.iter_unroll.proofs.counts.Uses.{turn_of, ExUses, uses_ex, one_listed, index_is, item_listed}

-- an expression and its straight code
pub record CountedEx (sh : Shape) (env : Env) (e : Ex) (x : Fx) : Type 0 where
  pub few : ExNodes e x
  pub uses : ExUses sh env e x

-- statements and their straight code
pub record Counted (sh : Shape) (env : Env) (ss : Sts) (b : Fs) : Type 0 where
  pub few : fs_nodes b ≤ nodes ss
  pub uses : fs_uses b ≡ sts_uses sh.record_fields (turn_of env) ss

both : {A : Type 0} (o : Option A) (P Q R : A → Type 0) → ((x : A) → P x → Q x → R x) → IfSome o P → IfSome o Q → IfSome o R
both None P Q R h p q = tt
both (Some x) P Q R h p q = h x p q

counted_ex : (sh : Shape) (env : Env) (e : Ex) → IfSome (flat_ex sh env e) (CountedEx sh env e)
counted_ex sh env e = both (flat_ex sh env e) (ExNodes e) (ExUses sh env e) (CountedEx sh env e) (λ x h k. record { few = h; uses = k }) (nodes_ex sh env e) (uses_ex sh env e)

join_nodes : (a b : Fs) → fs_nodes (join a b) ≡ fs_nodes a + fs_nodes b
join_nodes f.end b = omega arith
join_nodes (f.put_slot k e rest) b = omega (arith, join_nodes rest b)
join_nodes (f.put_pad o w e rest) b = omega (arith, join_nodes rest b)
join_nodes (f.put_cur o w e rest) b = omega (arith, join_nodes rest b)
join_nodes (f.choose e x y rest) b = omega (arith, join_nodes rest b)
join_nodes (f.done rest) b = omega (arith, join_nodes rest b)
join_nodes (f.go e rest) b = omega (arith, join_nodes rest b)

after : (xs ys zs us : List Use) → us ≡ ys ++ zs → xs ++ us ≡ (xs ++ ys) ++ zs
after xs ys zs us e = ap (λ l. xs ++ l) e ∙ sym (append_assoc xs ys zs)

join_uses : (a b : Fs) → fs_uses (join a b) ≡ fs_uses a ++ fs_uses b
join_uses f.end b = refl
join_uses (f.put_slot k e rest) b = after (fx_uses e) (fs_uses rest) (fs_uses b) _ (join_uses rest b)
join_uses (f.put_pad o w e rest) b = after (fx_uses e) (fs_uses rest) (fs_uses b) _ (join_uses rest b)
join_uses (f.put_cur o w e rest) b = ap (λ l. (o, w) ∷ l) (after (fx_uses e) (fs_uses rest) (fs_uses b) _ (join_uses rest b))
join_uses (f.choose e x y rest) b =
    after (fx_uses e) (fs_uses x ++ (fs_uses y ++ fs_uses rest)) (fs_uses b) _
    (after (fs_uses x) (fs_uses y ++ fs_uses rest) (fs_uses b) _ (after (fs_uses y) (fs_uses rest) (fs_uses b) _ (join_uses rest b)))
join_uses (f.done rest) b = join_uses rest b
join_uses (f.go e rest) b = after (fx_uses e) (fs_uses rest) (fs_uses b) _ (join_uses rest b)

-- the turns of a loop
pub record CountedTurns (one : ℕ → List Use) (n i c : ℕ) (b : Fs) : Type 0 where
  pub few : fs_nodes b ≤ c * n
  pub uses : fs_uses b ≡ each_turn one i c

counted_turns : (sh : Shape) (env : Env) (n : ℕ) (w : List ℕ) (body : Sts)
    → ((i : ℕ) → IfSome (flat_of sh n ((w, m.Number i) ∷ env) body) (Counted sh ((w, m.Number i) ∷ env) body)) → (c i : ℕ)
    → IfSome (flat_turns (λ j. flat_of sh n ((w, m.Number j) ∷ env) body) i c) (CountedTurns (λ j. sts_uses sh.record_fields ((w, j) ∷ turn_of env) body) (nodes body) i c)
counted_turns sh env n w body h zero i = record { few = zero-le; uses = refl }
counted_turns sh env n w body h (suc c) i =
    let one = λ (j : ℕ). sts_uses sh.record_fields ((w, j) ∷ turn_of env) body in
    if_two join (flat_of sh n ((w, m.Number i) ∷ env) body) (flat_turns (λ j. flat_of sh n ((w, m.Number j) ∷ env) body) (i + 1) c)
    (Counted sh ((w, m.Number i) ∷ env) body) (CountedTurns one (nodes body) (i + 1) c) (CountedTurns one (nodes body) i (suc c))
    (h i) (counted_turns sh env n w body h c (i + 1))
    (λ x y hx hy. record { few = turn_nodes (fs_nodes x) (fs_nodes y) (fs_nodes (join x y)) (nodes body) c (join_nodes x y) hx.few hy.few; uses = join_uses x y ∙ ap₂ (λ u v. u ++ v) hx.uses hy.uses })
  where
    turn_nodes : (a b j n c : ℕ) → j ≡ a + b → a ≤ n → b ≤ c * n → j ≤ suc c * n
    turn_nodes a b j n c e h k = omega (arith, e, h, k)

two_uses : {a b c d : List Use} → a ≡ b → c ≡ d → a ++ c ≡ b ++ d
two_uses h k = ap₂ (λ u v. u ++ v) h k

pub counted : (sh : Shape) (n : ℕ) (env : Env) (ss : Sts) → IfSome (flat_of sh n env ss) (Counted sh env ss)
counted sh n env t.end = record { few = zero-le; uses = refl }
counted sh n env (t.bind p w e rest) =
    if_roomy n _ _ (λ lt. if_two (f.put_slot n) (flat_ex sh env e) (flat_of sh (suc n) ((text w, m.Slot n) ∷ env) rest)
    (CountedEx sh env e) (Counted sh ((text w, m.Slot n) ∷ env) rest) (Counted sh env (t.bind p w e rest))
    (counted_ex sh env e) (counted sh (suc n) ((text w, m.Slot n) ∷ env) rest) (λ x r hx hr. record { few = omega (arith, hx.few, hr.few); uses = two_uses hx.uses hr.uses }))
counted sh n env (t.set p w e rest) =
    if_three f.put_slot (let_slot (lookup (text w) env)) (flat_ex sh env e) (flat_of sh n env rest)
    (λ k. Unit {0}) (CountedEx sh env e) (Counted sh env rest) (Counted sh env (t.set p w e rest))
    (always (let_slot (lookup (text w) env))) (counted_ex sh env e) (counted sh n env rest) (λ k x r hk hx hr. record { few = omega (arith, hx.few, hr.few); uses = two_uses hx.uses hr.uses })
counted sh n env (t.set_pad p w e rest) =
    if_three _ (element_of sh.pad_fields w (Some 0)) (flat_ex sh env e) (flat_of sh n env rest)
    (λ k. Unit {0}) (CountedEx sh env e) (Counted sh env rest) (Counted sh env (t.set_pad p w e rest))
    (always (element_of sh.pad_fields w (Some 0))) (counted_ex sh env e) (counted sh n env rest) (λ k x r hk hx hr. record { few = omega (arith, hx.few, hr.few); uses = two_uses hx.uses hr.uses })
counted sh n env (t.set_pad_item p w i e rest) =
    if_three _ (element_of sh.pad_fields w (index env i)) (flat_ex sh env e) (flat_of sh n env rest)
    (λ k. Unit {0}) (CountedEx sh env e) (Counted sh env rest) (Counted sh env (t.set_pad_item p w i e rest))
    (always (element_of sh.pad_fields w (index env i))) (counted_ex sh env e) (counted sh n env rest) (λ k x r hk hx hr. record { few = omega (arith, hx.few, hr.few); uses = two_uses hx.uses hr.uses })
counted sh n env (t.set_cur p w e rest) =
    let place = element_of sh.record_fields w (Some 0) in
    if_three _ place (flat_ex sh env e) (flat_of sh n env rest)
    (λ u. u ∷ [] ≡ listed place) (CountedEx sh env e) (Counted sh env rest) (Counted sh env (t.set_cur p w e rest))
    (one_listed place) (counted_ex sh env e) (counted sh n env rest) (λ u x r hu hx hr. record { few = omega (arith, hx.few, hr.few); uses = two_uses hu (two_uses hx.uses hr.uses) })
counted sh n env (t.set_cur_item p w i e rest) =
    let v = word (index_value (turn_of env) i) in
    if_three _ (element_of sh.record_fields w (index env i)) (flat_ex sh env e) (flat_of sh n env rest)
    (λ u. u ∷ [] ≡ listed (element_of sh.record_fields w v)) (CountedEx sh env e) (Counted sh env rest) (Counted sh env (t.set_cur_item p w i e rest))
    (item_listed sh.record_fields w (index env i) v (index_is env i)) (counted_ex sh env e) (counted sh n env rest) (λ u x r hu hx hr. record { few = omega (arith, hx.few, hr.few); uses = two_uses hu (two_uses hx.uses hr.uses) })
counted sh n env (t.when p c s1 rest) =
    if_three _ (flat_ex sh env c) (flat_of sh n env s1) (flat_of sh n env rest)
    (CountedEx sh env c) (Counted sh env s1) (Counted sh env rest) (Counted sh env (t.when p c s1 rest))
    (counted_ex sh env c) (counted sh n env s1) (counted sh n env rest) (λ x b r hx hb hr. record { few = omega (arith, hx.few, hb.few, hr.few); uses = two_uses hx.uses (two_uses hb.uses hr.uses) })
counted sh n env (t.choose p c s1 s2 rest) =
    if_four f.choose (flat_ex sh env c) (flat_of sh n env s1) (flat_of sh n env s2) (flat_of sh n env rest)
    (CountedEx sh env c) (Counted sh env s1) (Counted sh env s2) (Counted sh env rest) (Counted sh env (t.choose p c s1 s2 rest))
    (counted_ex sh env c) (counted sh n env s1) (counted sh n env s2) (counted sh n env rest)
    (λ x a b r hx ha hb hr. record { few = omega (arith, hx.few, ha.few, hb.few, hr.few); uses = two_uses hx.uses (two_uses ha.uses (two_uses hb.uses hr.uses)) })
counted sh n env (t.loop p w i past body rest) =
    let one = λ (j : ℕ). sts_uses sh.record_fields ((text w, j) ∷ turn_of env) body in
    if_two join (flat_turns (λ j. flat_of sh n ((text w, m.Number j) ∷ env) body) i (past - i)) (flat_of sh n env rest)
    (CountedTurns one (nodes body) i (past - i)) (Counted sh env rest) (Counted sh env (t.loop p w i past body rest))
    (counted_turns sh env n (text w) body (λ j. counted sh n ((text w, m.Number j) ∷ env) body) (past - i) i) (counted sh n env rest)
    (λ x r hx hr. record { few = loop_nodes (fs_nodes x) (fs_nodes r) (fs_nodes (join x r)) ((past - i) * nodes body) (nodes rest) (join_nodes x r) hx.few hr.few; uses = join_uses x r ∙ two_uses hx.uses hr.uses })
  where
    loop_nodes : (a b j k l : ℕ) → j ≡ a + b → a ≤ k → b ≤ l → j ≤ 1 + k + l
    loop_nodes a b j k l e h q = omega (arith, e, h, q)
counted sh n env (t.done p rest) =
    if_map (flat_of sh n env rest) f.done (Counted sh env rest) (Counted sh env (t.done p rest)) (counted sh n env rest) (λ r hr. record { few = omega (arith, hr.few); uses = hr.uses })
counted sh n env (t.go p e rest) =
    if_two f.go (flat_ex sh env e) (flat_of sh n env rest) (CountedEx sh env e) (Counted sh env rest) (Counted sh env (t.go p e rest)) (counted_ex sh env e) (counted sh n env rest) (λ x r hx hr. record { few = omega (arith, hx.few, hr.few); uses = two_uses hx.uses hr.uses })
