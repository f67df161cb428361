-- How outcomes of flat statements follow one another, and how they go with those of the tree.
use Rattle.std.proofs.Common.{◌≡◌, ℕ, zero, suc, ◌-◌, Bool, true, false, List, [], ◌∷◌, ◌++◌, length, drop, Option, Some, None, refl, sym, ap, subst, ◌∙◌, arith, length-append}
use Rattle.std.proofs.Math.Seq.{drop-append_seam}
use Rattle.iter_check.specs.State.{Names, State}
use Rattle.iter_check.specs.Value.{word}
use Rattle.iter_check.specs.Meaning.{Outcome, given, if_writable, then_do, within, pick}
use Rattle.iter_check.specs.Meaning as out
use Rattle.iter_unroll.specs.Flat.{Fx, Fs, Fixed, Slots, Leaving, Falls, Ends, flat_value, flat_given, flat_writable, flat_then, flat_pick, to_slot, to_pad, to_cur, flat_meaning}
use Rattle.iter_unroll.specs.unrolling.Flattened.{join}
use Rattle.iter_unroll.specs.Flat as f
use Rattle.iter_unroll.specs.unrolling.Scope.{Env}
use Rattle.iter_unroll.specs.unrolling.Tied.{Comes, Fit, Tied, Grown, Binds, as_state, Never}

then_then : (o : Leaving) (f g : Slots → Leaving) → flat_then (flat_then o f) g ≡ flat_then o (λ s. flat_then (f s) g)
then_then (Falls s) f g = refl
then_then (Ends r) f g = refl

then_same : (o : Leaving) (f g : Slots → Leaving) → ((s : Slots) → f s ≡ g s) → flat_then o f ≡ flat_then o g
then_same (Falls s) f g h = h s
then_same (Ends r) f g h = refl

given_then : (o : Option ℕ) (f h : ℕ → Leaving) (g : Slots → Leaving) → ((v : ℕ) → h v ≡ flat_then (f v) g) → flat_given o h ≡ flat_then (flat_given o f) g
given_then None f h g e = refl
given_then (Some v) f h g e = e v

writable_then : (b : Bool) (o p : Leaving) (g : Slots → Leaving) → p ≡ flat_then o g → flat_writable b p ≡ flat_then (flat_writable b o) g
writable_then true o p g e = e
writable_then false o p g e = refl

-- one list after another means one after another
pub join_is : (g : Fixed) (x y : Fs) (s : Slots) → flat_meaning g (join x y) s ≡ flat_then (flat_meaning g x s) (flat_meaning g y)
join_is g f.end y s = refl
join_is g (f.put_slot k e rest) y s = given_then (word (flat_value g s e)) _ _ (flat_meaning g y) (λ v. join_is g rest y (to_slot k v s))
join_is g (f.put_pad o w e rest) y s = given_then (word (flat_value g s e)) _ _ (flat_meaning g y) (λ v. join_is g rest y (to_pad o w v s))
join_is g (f.put_cur o w e rest) y s =
    given_then (word (flat_value g s e)) _ _ (flat_meaning g y) (λ v. writable_then g.writable _ _ (flat_meaning g y) (join_is g rest y (to_cur o w v s)))
join_is g (f.choose e first other rest) y s =
    given_then (word (flat_value g s e)) _ _ (flat_meaning g y)
    (λ v. then_same (flat_pick v (flat_meaning g first s) (flat_meaning g other s)) _ _ (λ b. join_is g rest y b) ∙ sym (then_then (flat_pick v (flat_meaning g first s) (flat_meaning g other s)) _ _))
join_is g (f.done rest) y s = refl
join_is g (f.go e rest) y s = given_then (word (flat_value g s e)) _ _ (flat_meaning g y) (λ v. refl)

pub given_comes : (P : Slots → State → Type 0) (o p : Option ℕ) (f : ℕ → Leaving) (g : ℕ → Outcome) → o ≡ p → ((v : ℕ) → Comes P (f v) (g v)) → Comes P (flat_given o f) (given p g)
given_comes P None None f g e h = refl
given_comes P None (Some v) f g e h = cc
given_comes P (Some v) None f g e h = cc
given_comes P (Some v) (Some u) f g e h = subst (λ x. Comes P (flat_given (Some v) f) (given x g)) e (h v)

pub writable_comes : (P : Slots → State → Type 0) (b : Bool) (f : Leaving) (o : Outcome) → Comes P f o → Comes P (flat_writable b f) (if_writable b o)
writable_comes P true f o h = h
writable_comes P false f o h = refl

pub pick_comes : (P : Slots → State → Type 0) (v : ℕ) (f1 f2 : Leaving) (o1 o2 : Outcome) → Comes P f1 o1 → Comes P f2 o2 → Comes P (flat_pick v f1 f2) (pick v o1 o2)
pick_comes P zero f1 f2 o1 o2 h1 h2 = h2
pick_comes P (suc v) f1 f2 o1 o2 h1 h2 = h1

pub never : {A : Type 0} → Never → A
never h = cc

pub loosen : (P Q : Slots → State → Type 0) → ((a : Slots) (s : State) → P a s → Q a s) → (f : Leaving) (o : Outcome) → Comes P f o → Comes Q f o
loosen P Q h (Falls a) (out.Falls s) c = h a s c
loosen P Q h (Falls a) (out.Done s) c = c
loosen P Q h (Falls a) (out.Goes p s) c = c
loosen P Q h (Falls a) (out.Fault k) c = c
loosen P Q h (Ends r) (out.Falls s) c = c
loosen P Q h (Ends r) (out.Done s) c = c
loosen P Q h (Ends r) (out.Goes p s) c = c
loosen P Q h (Ends r) (out.Fault k) c = c

pub then_comes : (n : ℕ) (env : Env) (g : Fixed) (Q : Slots → State → Type 0) (fo : Leaving) (o : Outcome) (f : Slots → Leaving) (h : State → Outcome) → Comes (Tied n env g) fo o → ((a : Slots) (names : Names) → Fit n env g a names → Comes Q (f a) (h (as_state a names))) → Comes Q (flat_then fo f) (then_do o h)
then_comes n env g Q (Falls a) (out.Falls s) f h c k = subst (λ x. Comes Q (f a) (h x)) (sym c.is) (k a c.names c.fit)
then_comes n env g Q (Falls a) (out.Done s) f h c k = never c
then_comes n env g Q (Falls a) (out.Goes p s) f h c k = never c
then_comes n env g Q (Falls a) (out.Fault e) f h c k = never c
then_comes n env g Q (Ends r) (out.Falls s) f h c k = never c
then_comes n env g Q (Ends r) (out.Done s) f h c k = c
then_comes n env g Q (Ends r) (out.Goes p s) f h c k = c
then_comes n env g Q (Ends r) (out.Fault e) f h c k = c

pub binds_length : (n : ℕ) (env : Env) (names : Names) (slots args : List ℕ) → Binds n env names slots args → length names ≡ length env
binds_length n [] [] slots args b = refl
binds_length n [] (y ∷ names) slots args b = never b
binds_length n (e ∷ env) [] slots args b = never b
binds_length n (e ∷ env) (y ∷ names) slots args b = ap suc (binds_length _ env names slots args b.2)

dropped : (top names : Names) (k : ℕ) → length names ≡ k → drop (length (top ++ names) - k) (top ++ names) ≡ names
dropped top names k e =
    let len : length (top ++ names) - k ≡ length top = omega (arith, length-append top names, e) in
    ap (λ n. drop n (top ++ names)) len ∙ drop-append_seam top names

-- a state without the names above the first `k`
abbrev cut : ℕ → State → State
cut k s = record s { names = drop (length s.names - k) s.names }

-- a block's end
pub within_comes : (n : ℕ) (env : Env) (g : Fixed) (k : ℕ) → k ≡ length env → (fo : Leaving) (o : Outcome) → Comes (Grown n env g) fo o → Comes (Tied n env g) fo (within k o)
within_comes n env g k e (Falls a) (out.Falls s) c =
    record {
      names = c.names;
      is = ap (cut k) c.is ∙ ap (as_state a) (dropped c.top c.names k (binds_length n env c.names a.slots g.args c.fit.binds ∙ sym e));
      fit = c.fit;
    }
within_comes n env g k e (Falls a) (out.Done s) c = c
within_comes n env g k e (Falls a) (out.Goes p s) c = c
within_comes n env g k e (Falls a) (out.Fault x) c = c
within_comes n env g k e (Ends r) (out.Falls s) c = c
within_comes n env g k e (Ends r) (out.Done s) c = c
within_comes n env g k e (Ends r) (out.Goes p s) c = c
within_comes n env g k e (Ends r) (out.Fault x) c = c
