-- Code with a slot in place of each read of a field, where the slot holds what the field does, does the same.
use Rattle.std.proofs.Common.{◌≡◌, ◌≢◌, ℕ, zero, suc, ◌+◌, ◌-◌, ◌^◌, nat_eq, ◌<◌, ◌≤◌, ◌&&◌, ◌||◌, ◌==◌, not, Bool, true, false, if◌then◌else◌, nat_le, List, length, take, drop, Option, Some, None, ◌⊎◌, inl, inr, refl, sym, ap, ap₂, ◌∙◌, subst, arith}
use Rattle.std.proofs.lemmas.List.{get_or-set_same, get_or-set_other, length-set, set_comm}
use Rattle.iter_syntax.specs.declared.tree.Width.{Width}
use Rattle.iter_syntax.specs.declared.tree.BinaryOp.TheVariants as op
use Rattle.iter_check.specs.Layout.{width_bytes}
use Rattle.iter_check.specs.FieldValue.{number_of, read_at, write_at}
use Rattle.iter_check.specs.Value.{Number, Truth, word, one, both, apply, binary}
use Rattle.iter_unroll.specs.Flat.{Fx, Fs, Fixed, Slots, Leaving, Falls, Ends, flat_value, flat_given, flat_writable, flat_then, flat_pick, to_slot, to_pad, to_cur, flat_meaning, flat_iterated, flat_iteration, start}
use Rattle.iter_unroll.specs.Flat as f
use Rattle.iter_check.specs.Iteration as i
use Rattle.flat_hoist.specs.declared.field.Field.{Field}
use Rattle.flat_hoist.specs.hoisting.Fields.{read_of, side_of, held, has_bytes, misses}
use Rattle.flat_hoist.specs.hoisting.Swapped.{in_slot, all_in_slot}
use Rattle.flat_hoist.specs.hoisting.Clear.{spares, clear}
use Rattle.flat_hoist.proofs.Bytes.{store_beside}

pub first_of : (a b : Bool) → (a && b) ≡ true → a ≡ true
first_of true b h = refl
first_of false b h = h

pub second_of : (a b : Bool) → (a && b) ≡ true → b ≡ true
second_of true b h = h
second_of false b h = absurd cc

other_slot : (j k : ℕ) → not (j == k) ≡ true → j ≢ k
other_slot j k h = grind arith

-- ---- values

-- a field that has the same bytes of its side reads the same
same_bytes : (h : Field) (bytes : List ℕ) (o : ℕ) (w : Width) → has_bytes h o w ≡ true → read_at bytes h.off h.width ≡ read_at bytes o w
same_bytes h bytes o w e =
    let off : h.off ≡ o = grind arith in
    let long : width_bytes h.width ≡ width_bytes w = grind arith in
    ap₂ (λ a b. number_of (take a (drop b bytes))) long off

pub read_is : (g : Fixed) (h : Field) (s : Slots) → word (flat_value g s (read_of h)) ≡ Some (held h s)
read_is g h s = by h.pad refl
  where
    by : (p : Bool) → h.pad ≡ p → word (flat_value g s (if p then f.pad_field h.off h.width else f.cur_field h.off h.width)) ≡ Some (read_at (side_of p s) h.off h.width)
    by true e = refl
    by false e = refl

-- where the test says so, the slot is read, which holds what the field does
read_or : (g : Fixed) (k v n : ℕ) (s : Slots) (b : Bool) (e : Fx) → k < length s.slots → (b ≡ true → v ≡ n) → flat_value g s e ≡ Number n → flat_value g (to_slot k v s) e ≡ Number n
    → flat_value g (to_slot k v s) (if b then f.slot k else e) ≡ flat_value g s e
read_or g k v n s true e lt h is was = ap Number (get_or-set_same s.slots k v 0 lt ∙ h refl) ∙ sym is
read_or g k v n s false e lt h is was = was ∙ sym is

on_side : (h : Field) (p : Bool) (s : Slots) (o : ℕ) (w : Width) (v : ℕ) → h.pad ≡ p → held h s ≡ v → has_bytes h o w ≡ true → v ≡ read_at (side_of p s) o w
on_side h p s o w v e is same = sym is ∙ ap (λ q. read_at (side_of q s) h.off h.width) e ∙ same_bytes h (side_of p s) o w same

pub is_not : (p : Bool) → not p ≡ true → p ≡ false
is_not true h = absurd cc
is_not false h = refl

pub same_value : (g : Fixed) (h : Field) (k v : ℕ) (s : Slots) (e : Fx) → k < length s.slots → held h s ≡ v → spares k e ≡ true → flat_value g (to_slot k v s) (in_slot h k e) ≡ flat_value g s e
same_value g h k v s (f.num n) lt is c = refl
same_value g h k v s f.null lt is c = refl
same_value g h k v s (f.arg n) lt is c = refl
same_value g h k v s (f.slot j) lt is c = ap Number (get_or-set_other s.slots k j v 0 (other_slot j k c))
same_value g h k v s f.cur lt is c = refl
same_value g h k v s (f.cur_field o w) lt is c =
    read_or g k v (read_at s.record_bytes o w) s (not h.pad && has_bytes h o w) (f.cur_field o w) lt
    (λ t. on_side h false s o w v (is_not h.pad (first_of (not h.pad) (has_bytes h o w) t)) is (second_of (not h.pad) (has_bytes h o w) t))
    refl refl
same_value g h k v s (f.pad_field o w) lt is c =
    read_or g k v (read_at s.pad o w) s (h.pad && has_bytes h o w) (f.pad_field o w) lt
    (λ t. on_side h true s o w v (first_of h.pad (has_bytes h o w) t) is (second_of h.pad (has_bytes h o w) t))
    refl refl
same_value g h k v s (f.not e) lt is c = ap (λ x. one (λ y. Truth (nat_eq y 0)) (word x)) (same_value g h k v s e lt is c)
same_value g h k v s (f.flip e) lt is c = ap (λ x. one (λ y. Number (2 ^ 64 - 1 - y)) (word x)) (same_value g h k v s e lt is c)
same_value g h k v s (f.bin o a b) lt is c =
    ap₂ (binary o) (same_value g h k v s a lt is (first_of (spares k a) (spares k b) c)) (same_value g h k v s b lt is (second_of (spares k a) (spares k b) c))
same_value g h k v s (f.at a b) lt is c =
    ap₂ (λ x y. both (apply op.Add) (word x) (word y)) (same_value g h k v s a lt is (first_of (spares k a) (spares k b) c)) (same_value g h k v s b lt is (second_of (spares k a) (spares k b) c))

-- ---- statements

-- where the first code leads, and where the second does from a state with the field in the slot: to the same end, or to
-- states that are alike again
abbrev pub Meets : Field → ℕ → ℕ → Leaving → Leaving → Type 0
Meets h k v (Falls s) o = (o ≡ Falls (to_slot k v s)) × (held h s ≡ v) × (length s.slots ≡ 8)
Meets h k v (Ends r) o = o ≡ Ends r

given_same : (h : Field) (k v : ℕ) (a b : Option ℕ) (F H : ℕ → Leaving) → b ≡ a → ((x : ℕ) → Meets h k v (F x) (H x)) → Meets h k v (flat_given a F) (flat_given b H)
given_same h k v None b F H e m = ap (λ o. flat_given o H) e
given_same h k v (Some x) b F H e m = subst (λ o. Meets h k v (F x) (flat_given o H)) (sym e) (m x)

then_same : (h : Field) (k v : ℕ) (p q : Leaving) (F H : Slots → Leaving) → Meets h k v p q
    → ((s : Slots) → held h s ≡ v → length s.slots ≡ 8 → Meets h k v (F s) (H (to_slot k v s))) → Meets h k v (flat_then p F) (flat_then q H)
then_same h k v (Falls s) q F H m n = subst (λ o. Meets h k v (F s) (flat_then o H)) (sym m.0) (n s m.1 m.2)
then_same h k v (Ends r) q F H m n = ap (λ o. flat_then o H) m

pick_same : (h : Field) (k v x : ℕ) (p q r t : Leaving) → Meets h k v p q → Meets h k v r t → Meets h k v (flat_pick x p r) (flat_pick x q t)
pick_same h k v zero p q r t m n = n
pick_same h k v (suc x) p q r t m n = m

writable_same : (h : Field) (k v : ℕ) (w : Bool) (p q : Leaving) → Meets h k v p q → Meets h k v (flat_writable w p) (flat_writable w q)
writable_same h k v true p q m = m
writable_same h k v false p q m = refl

-- a store that misses the field
beside : (h : Field) (bytes : List ℕ) (o : ℕ) (w : Width) (x : ℕ) → misses h o w ≡ true → read_at (write_at bytes o w x) h.off h.width ≡ read_at bytes h.off h.width
beside h bytes o w x e = store_beside bytes o w x h.off h.width (apart (nat_le (h.off + width_bytes h.width) o) (nat_le (o + width_bytes w) h.off) refl refl e)
  where
    apart : (a b : Bool) → nat_le (h.off + width_bytes h.width) o ≡ a → nat_le (o + width_bytes w) h.off ≡ b → (a || b) ≡ true → (h.off + width_bytes h.width ≤ o) ⊎ (o + width_bytes w ≤ h.off)
    apart true b ea eb t = inl (grind arith)
    apart false true ea eb t = inr (grind arith)
    apart false false ea eb t = absurd cc

still_pad : (h : Field) (s : Slots) (o : ℕ) (w : Width) (x : ℕ) → (not h.pad || misses h o w) ≡ true → held h (to_pad o w x s) ≡ held h s
still_pad h s o w x e = by h.pad e
  where
    by : (p : Bool) → (not p || misses h o w) ≡ true → read_at (side_of p (to_pad o w x s)) h.off h.width ≡ read_at (side_of p s) h.off h.width
    by true c = beside h s.pad o w x c
    by false c = refl

still_cur : (h : Field) (s : Slots) (o : ℕ) (w : Width) (x : ℕ) → (h.pad || misses h o w) ≡ true → held h (to_cur o w x s) ≡ held h s
still_cur h s o w x e = by h.pad e
  where
    by : (p : Bool) → (p || misses h o w) ≡ true → read_at (side_of p (to_cur o w x s)) h.off h.width ≡ read_at (side_of p s) h.off h.width
    by true c = refl
    by false c = beside h s.record_bytes o w x c

still_slot : (h : Field) (s : Slots) (j x : ℕ) → held h (to_slot j x s) ≡ held h s
still_slot h s j x = by h.pad
  where
    by : (p : Bool) → read_at (side_of p (to_slot j x s)) h.off h.width ≡ read_at (side_of p s) h.off h.width
    by true = refl
    by false = refl

two_slots : (j k x v : ℕ) (s : Slots) → j ≢ k → to_slot k v (to_slot j x s) ≡ to_slot j x (to_slot k v s)
two_slots j k x v s h = ap (λ l. record s { slots = l }) (set_comm s.slots j k x v h)

pub same_code : (g : Fixed) (h : Field) (k v : ℕ) (ss : Fs) (s : Slots) → k < 8 → clear h k ss ≡ true → held h s ≡ v → length s.slots ≡ 8
    → Meets h k v (flat_meaning g ss s) (flat_meaning g (all_in_slot h k ss) (to_slot k v s))
same_code g h k v f.end s lt c is long = (refl, is, long)
same_code g h k v (f.put_slot j e rest) s lt c is long =
    let here = first_of (not (j == k) && spares k e) (clear h k rest) c in
    let value = ap word (same_value g h k v s e (omega (arith, lt, long)) is (second_of (not (j == k)) (spares k e) here)) in
    given_same h k v (word (flat_value g s e)) _ _ (λ x. flat_meaning g (all_in_slot h k rest) (to_slot j x (to_slot k v s))) value
    (λ x. subst (λ t. Meets h k v (flat_meaning g rest (to_slot j x s)) (flat_meaning g (all_in_slot h k rest) t))
    (two_slots j k x v s (other_slot j k (first_of (not (j == k)) (spares k e) here)))
    (same_code g h k v rest (to_slot j x s) lt (second_of (not (j == k) && spares k e) (clear h k rest) c) (still_slot h s j x ∙ is) (length-set s.slots j x ∙ long)))
same_code g h k v (f.put_pad o w e rest) s lt c is long =
    let here = first_of ((not h.pad || misses h o w) && spares k e) (clear h k rest) c in
    let value = ap word (same_value g h k v s e (omega (arith, lt, long)) is (second_of (not h.pad || misses h o w) (spares k e) here)) in
    given_same h k v (word (flat_value g s e)) _ _ (λ x. flat_meaning g (all_in_slot h k rest) (to_pad o w x (to_slot k v s))) value
    (λ x. same_code g h k v rest (to_pad o w x s) lt (second_of ((not h.pad || misses h o w) && spares k e) (clear h k rest) c)
    (still_pad h s o w x (first_of (not h.pad || misses h o w) (spares k e) here) ∙ is) long)
same_code g h k v (f.put_cur o w e rest) s lt c is long =
    let here = first_of ((h.pad || misses h o w) && spares k e) (clear h k rest) c in
    let value = ap word (same_value g h k v s e (omega (arith, lt, long)) is (second_of (h.pad || misses h o w) (spares k e) here)) in
    given_same h k v (word (flat_value g s e)) _ _ (λ x. flat_writable g.writable (flat_meaning g (all_in_slot h k rest) (to_cur o w x (to_slot k v s)))) value
    (λ x. writable_same h k v g.writable _ _ (same_code g h k v rest (to_cur o w x s) lt (second_of ((h.pad || misses h o w) && spares k e) (clear h k rest) c)
    (still_cur h s o w x (first_of (h.pad || misses h o w) (spares k e) here) ∙ is) long))
same_code g h k v (f.choose e first other rest) s lt c is long =
    let three = first_of ((spares k e && clear h k first) && clear h k other) (clear h k rest) c in
    let two = first_of (spares k e && clear h k first) (clear h k other) three in
    let value = ap word (same_value g h k v s e (omega (arith, lt, long)) is (first_of (spares k e) (clear h k first) two)) in
    given_same h k v (word (flat_value g s e)) _ _
    (λ x. flat_then (flat_pick x (flat_meaning g (all_in_slot h k first) (to_slot k v s)) (flat_meaning g (all_in_slot h k other) (to_slot k v s))) (flat_meaning g (all_in_slot h k rest))) value
    (λ x. then_same h k v (flat_pick x (flat_meaning g first s) (flat_meaning g other s)) _ (flat_meaning g rest) (flat_meaning g (all_in_slot h k rest))
    (pick_same h k v x _ _ _ _
    (same_code g h k v first s lt (second_of (spares k e) (clear h k first) two) is long)
    (same_code g h k v other s lt (second_of (spares k e && clear h k first) (clear h k other) three) is long))
    (λ t is2 long2. same_code g h k v rest t lt (second_of ((spares k e && clear h k first) && clear h k other) (clear h k rest) c) is2 long2))
same_code g h k v (f.done rest) s lt c is long = refl
same_code g h k v (f.go e rest) s lt c is long =
    let value = ap word (same_value g h k v s e (omega (arith, lt, long)) is (first_of (spares k e) (clear h k rest) c)) in
    given_same h k v (word (flat_value g s e)) _ _ (λ x. Ends (i.Goes x s.record_bytes s.pad)) value (λ x. refl)

-- ---- an iteration

iterated_same : (h : Field) (k v : ℕ) (p q : Leaving) → Meets h k v p q → flat_iterated q ≡ flat_iterated p
iterated_same h k v (Falls s) q m = ap flat_iterated m.0
iterated_same h k v (Ends r) q m = ap flat_iterated m

pub same_iteration : (g : Fixed) (h : Field) (k : ℕ) (e n : Fs) (record_bytes pad : List ℕ) → k < 8 → clear h k e ≡ true → clear h k n ≡ true
    → flat_iteration g (f.put_slot k (read_of h) (all_in_slot h k e)) (all_in_slot h k n) record_bytes pad ≡ flat_iteration g e n record_bytes pad
same_iteration g h k e n record_bytes pad lt ce cn =
    let s = start record_bytes pad in
    let v = held h s in
    let after = flat_meaning g (all_in_slot h k n) in
    ap (λ o. flat_iterated (flat_then (flat_given o (λ x. flat_meaning g (all_in_slot h k e) (to_slot k x s))) after)) (read_is g h s)
    ∙ iterated_same h k v _ _
    (then_same h k v (flat_meaning g e s) _ (flat_meaning g n) after (same_code g h k v e s lt ce refl refl) (λ t is long. same_code g h k v n t lt cn is long))
