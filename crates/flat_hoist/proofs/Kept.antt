-- Code with a slot in place of a field keeps to the limits of the code that it was.
use Rattle.std.proofs.Common.{◌≡◌, ℕ, zero, suc, ◌+◌, ◌<◌, ◌&&◌, not, Bool, true, false, if◌then◌else◌, List, [], ◌∷◌, ◌++◌, ◌⊎◌, inl, inr, refl, sym, ap, ap₂, subst, arith}
use Rattle.std.specs.Prelude.{max}
use Rattle.iter_syntax.specs.declared.tree.Width.{Width}
use Rattle.iter_syntax.specs.declared.tree.Width.TheVariants as width
use Rattle.iter_check.specs.Layout.{width_bytes}
use Rattle.iter_unroll.specs.Flat.{Fx, Fs}
use Rattle.iter_unroll.specs.Flat as f
use Rattle.iter_unroll.specs.Limits.{Reach, InReach, Whole, Keeps, depth, fx_nodes, fs_nodes}
use Rattle.iter_unroll.specs.Uses.{Use, fx_uses, fs_uses}
use Rattle.iter_unroll.specs.Span.{HoldsAll, IsSpan}
use Rattle.flat_hoist.specs.declared.field.Field.{Field}
use Rattle.flat_hoist.specs.hoisting.Fields.{read_of, has_bytes}
use Rattle.flat_hoist.specs.hoisting.Swapped.{in_slot, all_in_slot}
use Rattle.flat_hoist.specs.hoisting.Reads.{once, reads, all_reads}
use Rattle.flat_hoist.proofs.Same.{first_of, second_of, is_not}

-- ---- what holds of a slot and of an expression holds of the one that is chosen

either : (b : Bool) (k : ℕ) (e : Fx) (P : Fx → Type 0) → P (f.slot k) → P e → P (if b then f.slot k else e)
either true k e P a c = a
either false k e P a c = c

same_depth : (h : Field) (k : ℕ) (e : Fx) → depth (in_slot h k e) ≡ depth e
same_depth h k (f.num n) = refl
same_depth h k f.null = refl
same_depth h k (f.arg n) = refl
same_depth h k (f.slot j) = refl
same_depth h k f.cur = refl
same_depth h k (f.cur_field o w) = either (not h.pad && has_bytes h o w) k (f.cur_field o w) (λ x. depth x ≡ 1) refl refl
same_depth h k (f.pad_field o w) = either (h.pad && has_bytes h o w) k (f.pad_field o w) (λ x. depth x ≡ 1) refl refl
same_depth h k (f.not e) = ap (λ x. 1 + x) (same_depth h k e)
same_depth h k (f.flip e) = ap (λ x. 1 + x) (same_depth h k e)
same_depth h k (f.bin o a b) = ap₂ (λ x y. 1 + max x y) (same_depth h k a) (same_depth h k b)
same_depth h k (f.at a b) = ap₂ (λ x y. 1 + max x y) (same_depth h k a) (same_depth h k b)

same_nodes : (h : Field) (k : ℕ) (e : Fx) → fx_nodes (in_slot h k e) ≡ fx_nodes e
same_nodes h k (f.num n) = refl
same_nodes h k f.null = refl
same_nodes h k (f.arg n) = refl
same_nodes h k (f.slot j) = refl
same_nodes h k f.cur = refl
same_nodes h k (f.cur_field o w) = either (not h.pad && has_bytes h o w) k (f.cur_field o w) (λ x. fx_nodes x ≡ 1) refl refl
same_nodes h k (f.pad_field o w) = either (h.pad && has_bytes h o w) k (f.pad_field o w) (λ x. fx_nodes x ≡ 1) refl refl
same_nodes h k (f.not e) = ap (λ x. 1 + x) (same_nodes h k e)
same_nodes h k (f.flip e) = ap (λ x. 1 + x) (same_nodes h k e)
same_nodes h k (f.bin o a b) = omega (arith, same_nodes h k a, same_nodes h k b)
same_nodes h k (f.at a b) = omega (arith, same_nodes h k a, same_nodes h k b)

pub all_nodes : (h : Field) (k : ℕ) (ss : Fs) → fs_nodes (all_in_slot h k ss) ≡ fs_nodes ss
all_nodes h k f.end = refl
all_nodes h k (f.put_slot j e rest) = omega (arith, same_nodes h k e, all_nodes h k rest)
all_nodes h k (f.put_pad o w e rest) = omega (arith, same_nodes h k e, all_nodes h k rest)
all_nodes h k (f.put_cur o w e rest) = omega (arith, same_nodes h k e, all_nodes h k rest)
all_nodes h k (f.choose e first other rest) = omega (arith, same_nodes h k e, all_nodes h k first, all_nodes h k other, all_nodes h k rest)
all_nodes h k (f.done rest) = omega (arith, all_nodes h k rest)
all_nodes h k (f.go e rest) = omega (arith, same_nodes h k e, all_nodes h k rest)

-- ---- what is named

still_reached : (r : Reach) (h : Field) (k : ℕ) (e : Fx) → k < 8 → InReach r e → InReach r (in_slot h k e)
still_reached r h k (f.num n) lt i = tt
still_reached r h k f.null lt i = tt
still_reached r h k (f.arg n) lt i = i
still_reached r h k (f.slot j) lt i = i
still_reached r h k f.cur lt i = i
still_reached r h k (f.cur_field o w) lt i = either (not h.pad && has_bytes h o w) k (f.cur_field o w) (InReach r) lt i
still_reached r h k (f.pad_field o w) lt i = either (h.pad && has_bytes h o w) k (f.pad_field o w) (InReach r) lt i
still_reached r h k (f.not e) lt i = still_reached r h k e lt i
still_reached r h k (f.flip e) lt i = still_reached r h k e lt i
still_reached r h k (f.bin o a b) lt i = (still_reached r h k a lt i.0, still_reached r h k b lt i.1)
still_reached r h k (f.at a b) lt i = (still_reached r h k a lt i.0, still_reached r h k b lt i.1)

still_whole : (r : Reach) (h : Field) (k : ℕ) (e : Fx) → k < 8 → Whole r e → Whole r (in_slot h k e)
still_whole r h k e lt i = (still_reached r h k e lt i.0, omega (arith, same_depth h k e, i.1))

pub still_keeps : (r : Reach) (h : Field) (k : ℕ) (ss : Fs) → k < 8 → Keeps r ss → Keeps r (all_in_slot h k ss)
still_keeps r h k f.end lt i = tt
still_keeps r h k (f.put_slot j e rest) lt i = (i.0, still_whole r h k e lt i.1, still_keeps r h k rest lt i.2)
still_keeps r h k (f.put_pad o w e rest) lt i = (i.0, still_whole r h k e lt i.1, still_keeps r h k rest lt i.2)
still_keeps r h k (f.put_cur o w e rest) lt i = (i.0, still_whole r h k e lt i.1, still_keeps r h k rest lt i.2)
still_keeps r h k (f.choose e first other rest) lt i = (still_whole r h k e lt i.0, still_keeps r h k first lt i.1, still_keeps r h k other lt i.2, still_keeps r h k rest lt i.3)
still_keeps r h k (f.done rest) lt i = still_keeps r h k rest lt i
still_keeps r h k (f.go e rest) lt i = (still_whole r h k e lt i.0, still_keeps r h k rest lt i.1)

-- ---- what of the record is used

pub both_hold : (i : ℕ × ℕ) (xs ys : List Use) → HoldsAll i xs → HoldsAll i ys → HoldsAll i (xs ++ ys)
both_hold i [] ys a b = b
both_hold i (x ∷ xs) ys a b = (a.0, both_hold i xs ys a.1 b)

pub first_holds : (i : ℕ × ℕ) (xs ys : List Use) → HoldsAll i (xs ++ ys) → HoldsAll i xs
first_holds i [] ys a = tt
first_holds i (x ∷ xs) ys a = (a.0, first_holds i xs ys a.1)

pub second_holds : (i : ℕ × ℕ) (xs ys : List Use) → HoldsAll i (xs ++ ys) → HoldsAll i ys
second_holds i [] ys a = a
second_holds i (x ∷ xs) ys a = second_holds i xs ys a.1

-- by what is done to either of two lists
on_both : (i : ℕ × ℕ) (xs ys us vs : List Use) → (HoldsAll i xs → HoldsAll i us) → (HoldsAll i ys → HoldsAll i vs) → HoldsAll i (xs ++ ys) → HoldsAll i (us ++ vs)
on_both i xs ys us vs a b h = both_hold i us vs (a (first_holds i xs ys h)) (b (second_holds i xs ys h))

still_holds : (i : ℕ × ℕ) (h : Field) (k : ℕ) (e : Fx) → HoldsAll i (fx_uses e) → HoldsAll i (fx_uses (in_slot h k e))
still_holds i h k (f.num n) a = tt
still_holds i h k f.null a = tt
still_holds i h k (f.arg n) a = tt
still_holds i h k (f.slot j) a = tt
still_holds i h k f.cur a = tt
still_holds i h k (f.cur_field o w) a = either (not h.pad && has_bytes h o w) k (f.cur_field o w) (λ x. HoldsAll i (fx_uses x)) tt a
still_holds i h k (f.pad_field o w) a = either (h.pad && has_bytes h o w) k (f.pad_field o w) (λ x. HoldsAll i (fx_uses x)) tt a
still_holds i h k (f.not e) a = still_holds i h k e a
still_holds i h k (f.flip e) a = still_holds i h k e a
still_holds i h k (f.bin o x y) a = on_both i (fx_uses x) (fx_uses y) (fx_uses (in_slot h k x)) (fx_uses (in_slot h k y)) (still_holds i h k x) (still_holds i h k y) a
still_holds i h k (f.at x y) a = on_both i (fx_uses x) (fx_uses y) (fx_uses (in_slot h k x)) (fx_uses (in_slot h k y)) (still_holds i h k x) (still_holds i h k y) a

pub still_all : (i : ℕ × ℕ) (h : Field) (k : ℕ) (ss : Fs) → HoldsAll i (fs_uses ss) → HoldsAll i (fs_uses (all_in_slot h k ss))
still_all i h k f.end a = tt
still_all i h k (f.put_slot j e rest) a = on_both i (fx_uses e) (fs_uses rest) (fx_uses (in_slot h k e)) (fs_uses (all_in_slot h k rest)) (still_holds i h k e) (still_all i h k rest) a
still_all i h k (f.put_pad o w e rest) a = on_both i (fx_uses e) (fs_uses rest) (fx_uses (in_slot h k e)) (fs_uses (all_in_slot h k rest)) (still_holds i h k e) (still_all i h k rest) a
still_all i h k (f.put_cur o w e rest) a = (a.0, on_both i (fx_uses e) (fs_uses rest) (fx_uses (in_slot h k e)) (fs_uses (all_in_slot h k rest)) (still_holds i h k e) (still_all i h k rest) a.1)
still_all i h k (f.choose e x y rest) a =
    on_both i (fx_uses e) (fs_uses x ++ (fs_uses y ++ fs_uses rest)) (fx_uses (in_slot h k e)) _ (still_holds i h k e)
    (on_both i (fs_uses x) (fs_uses y ++ fs_uses rest) (fs_uses (all_in_slot h k x)) _ (still_all i h k x)
    (on_both i (fs_uses y) (fs_uses rest) (fs_uses (all_in_slot h k y)) (fs_uses (all_in_slot h k rest)) (still_all i h k y) (still_all i h k rest))) a
still_all i h k (f.done rest) a = still_all i h k rest a
still_all i h k (f.go e rest) a = on_both i (fx_uses e) (fs_uses rest) (fx_uses (in_slot h k e)) (fs_uses (all_in_slot h k rest)) (still_holds i h k e) (still_all i h k rest) a

-- ---- a field that is read is there

one_of : (a b : ℕ) → 0 < a + b → (0 < a) ⊎ (0 < b)
one_of zero b h = inr (omega (arith, h))
one_of (suc a) b h = inl (omega arith)

-- by either of two
pub by_either : (a b : ℕ) (P : Type 0) → 0 < a + b → (0 < a → P) → (0 < b → P) → P
by_either a b P h l r = of (one_of a b h)
  where
    of : (0 < a) ⊎ (0 < b) → P
    of (inl x) = l x
    of (inr x) = r x

was_once : (b : Bool) → 0 < once b → b ≡ true
was_once true h = refl
was_once false h = absurd (omega (arith, h))

-- an expression that is a field on its side, and a property of expressions that goes by the bytes
on_cur : (h : Field) (o : ℕ) (w : Width) (P : Fx → Type 0) → 0 < once (not h.pad && has_bytes h o w) → (width_bytes h.width ≡ width_bytes w → h.off ≡ o → P (f.cur_field h.off h.width)) → P (read_of h)
on_cur h o w P some q =
    let t = was_once (not h.pad && has_bytes h o w) some in
    let here = is_not h.pad (first_of (not h.pad) (has_bytes h o w) t) in
    let same = second_of (not h.pad) (has_bytes h o w) t in
    let off : h.off ≡ o = grind arith in
    let long : width_bytes h.width ≡ width_bytes w = grind arith in
    subst (λ b. P (if b then f.pad_field h.off h.width else f.cur_field h.off h.width)) (sym here) (q long off)

on_pad : (h : Field) (o : ℕ) (w : Width) (P : Fx → Type 0) → 0 < once (h.pad && has_bytes h o w) → (width_bytes h.width ≡ width_bytes w → h.off ≡ o → P (f.pad_field h.off h.width)) → P (read_of h)
on_pad h o w P some q =
    let t = was_once (h.pad && has_bytes h o w) some in
    let here = first_of h.pad (has_bytes h o w) t in
    let same = second_of h.pad (has_bytes h o w) t in
    let off : h.off ≡ o = grind arith in
    let long : width_bytes h.width ≡ width_bytes w = grind arith in
    subst (λ b. P (if b then f.pad_field h.off h.width else f.cur_field h.off h.width)) (sym here) (q long off)

there : (r : Reach) (h : Field) (e : Fx) → 0 < reads h e → InReach r e → InReach r (read_of h)
there r h (f.num n) some i = absurd (omega (arith, some))
there r h f.null some i = absurd (omega (arith, some))
there r h (f.arg n) some i = absurd (omega (arith, some))
there r h (f.slot j) some i = absurd (omega (arith, some))
there r h f.cur some i = absurd (omega (arith, some))
there r h (f.cur_field o w) some i = on_cur h o w (InReach r) some (λ long off. omega (arith, long, off, i))
there r h (f.pad_field o w) some i = on_pad h o w (InReach r) some (λ long off. omega (arith, long, off, i))
there r h (f.not e) some i = there r h e some i
there r h (f.flip e) some i = there r h e some i
there r h (f.bin o a b) some i = by_either (reads h a) (reads h b) (InReach r (read_of h)) some (λ x. there r h a x i.0) (λ x. there r h b x i.1)
there r h (f.at a b) some i = by_either (reads h a) (reads h b) (InReach r (read_of h)) some (λ x. there r h a x i.0) (λ x. there r h b x i.1)

pub all_there : (r : Reach) (h : Field) (ss : Fs) → 0 < all_reads h ss → Keeps r ss → InReach r (read_of h)
all_there r h f.end some i = absurd (omega (arith, some))
all_there r h (f.put_slot j e rest) some i = by_either (reads h e) (all_reads h rest) (InReach r (read_of h)) some (λ x. there r h e x i.1.0) (λ x. all_there r h rest x i.2)
all_there r h (f.put_pad o w e rest) some i = by_either (reads h e) (all_reads h rest) (InReach r (read_of h)) some (λ x. there r h e x i.1.0) (λ x. all_there r h rest x i.2)
all_there r h (f.put_cur o w e rest) some i = by_either (reads h e) (all_reads h rest) (InReach r (read_of h)) some (λ x. there r h e x i.1.0) (λ x. all_there r h rest x i.2)
all_there r h (f.choose e first other rest) some i =
    by_either (reads h e + all_reads h first + all_reads h other) (all_reads h rest) (InReach r (read_of h)) some
    (λ x. by_either (reads h e + all_reads h first) (all_reads h other) (InReach r (read_of h)) x
    (λ y. by_either (reads h e) (all_reads h first) (InReach r (read_of h)) y (λ z. there r h e z i.0.0) (λ z. all_there r h first z i.1))
    (λ y. all_there r h other y i.2))
    (λ x. all_there r h rest x i.3)
all_there r h (f.done rest) some i = all_there r h rest some i
all_there r h (f.go e rest) some i = by_either (reads h e) (all_reads h rest) (InReach r (read_of h)) some (λ x. there r h e x i.0.0) (λ x. all_there r h rest x i.1)

inside : (i : ℕ × ℕ) (h : Field) (e : Fx) → 0 < reads h e → HoldsAll i (fx_uses e) → HoldsAll i (fx_uses (read_of h))
inside i h (f.num n) some a = absurd (omega (arith, some))
inside i h f.null some a = absurd (omega (arith, some))
inside i h (f.arg n) some a = absurd (omega (arith, some))
inside i h (f.slot j) some a = absurd (omega (arith, some))
inside i h f.cur some a = absurd (omega (arith, some))
inside i h (f.cur_field o w) some a =
    let from = a.0.0 in
    let past = a.0.1 in
    on_cur h o w (λ x. HoldsAll i (fx_uses x)) some (λ long off. ((omega (arith, off, from), omega (arith, long, off, past)), tt))
inside i h (f.pad_field o w) some a = on_pad h o w (λ x. HoldsAll i (fx_uses x)) some (λ long off. tt)
inside i h (f.not e) some a = inside i h e some a
inside i h (f.flip e) some a = inside i h e some a
inside i h (f.bin o x y) some a =
    by_either (reads h x) (reads h y) (HoldsAll i (fx_uses (read_of h))) some (λ z. inside i h x z (first_holds i (fx_uses x) (fx_uses y) a)) (λ z. inside i h y z (second_holds i (fx_uses x) (fx_uses y) a))
inside i h (f.at x y) some a =
    by_either (reads h x) (reads h y) (HoldsAll i (fx_uses (read_of h))) some (λ z. inside i h x z (first_holds i (fx_uses x) (fx_uses y) a)) (λ z. inside i h y z (second_holds i (fx_uses x) (fx_uses y) a))

-- of an expression and the rest
and_rest : (i : ℕ × ℕ) (h : Field) (e : Fx) (rest : Fs) → 0 < reads h e + all_reads h rest → HoldsAll i (fx_uses e ++ fs_uses rest)
    → (0 < all_reads h rest → HoldsAll i (fs_uses rest) → HoldsAll i (fx_uses (read_of h))) → HoldsAll i (fx_uses (read_of h))
and_rest i h e rest some a more =
    by_either (reads h e) (all_reads h rest) (HoldsAll i (fx_uses (read_of h))) some
    (λ z. inside i h e z (first_holds i (fx_uses e) (fs_uses rest) a)) (λ z. more z (second_holds i (fx_uses e) (fs_uses rest) a))

pub all_inside : (i : ℕ × ℕ) (h : Field) (ss : Fs) → 0 < all_reads h ss → HoldsAll i (fs_uses ss) → HoldsAll i (fx_uses (read_of h))
all_inside i h f.end some a = absurd (omega (arith, some))
all_inside i h (f.put_slot j e rest) some a = and_rest i h e rest some a (all_inside i h rest)
all_inside i h (f.put_pad o w e rest) some a = and_rest i h e rest some a (all_inside i h rest)
all_inside i h (f.put_cur o w e rest) some a = and_rest i h e rest some a.1 (all_inside i h rest)
all_inside i h (f.choose e x y rest) some a =
    let more = second_holds i (fx_uses e) (fs_uses x ++ (fs_uses y ++ fs_uses rest)) a in
    let past = second_holds i (fs_uses x) (fs_uses y ++ fs_uses rest) more in
    by_either (reads h e + all_reads h x + all_reads h y) (all_reads h rest) (HoldsAll i (fx_uses (read_of h))) some
    (λ t. by_either (reads h e + all_reads h x) (all_reads h y) (HoldsAll i (fx_uses (read_of h))) t
    (λ u. by_either (reads h e) (all_reads h x) (HoldsAll i (fx_uses (read_of h))) u
    (λ z. inside i h e z (first_holds i (fx_uses e) (fs_uses x ++ (fs_uses y ++ fs_uses rest)) a))
    (λ z. all_inside i h x z (first_holds i (fs_uses x) (fs_uses y ++ fs_uses rest) more)))
    (λ u. all_inside i h y u (first_holds i (fs_uses y) (fs_uses rest) past)))
    (λ t. all_inside i h rest t (second_holds i (fs_uses y) (fs_uses rest) past))
all_inside i h (f.done rest) some a = all_inside i h rest some a
all_inside i h (f.go e rest) some a = and_rest i h e rest some a (all_inside i h rest)

-- ---- and back: what holds the field and the code with the slot holds the code that it was

here_or : (b : Bool) (i : ℕ × ℕ) (k : ℕ) (e : Fx) → (b ≡ true → HoldsAll i (fx_uses e)) → HoldsAll i (fx_uses (if b then f.slot k else e)) → HoldsAll i (fx_uses e)
here_or true i k e h a = h refl
here_or false i k e h a = a

-- the uses of a field that has the bytes of another
of_cur : (i : ℕ × ℕ) (h : Field) (o : ℕ) (w : Width) → HoldsAll i (fx_uses (read_of h)) → (not h.pad && has_bytes h o w) ≡ true → HoldsAll i (fx_uses (f.cur_field o w))
of_cur i h o w a t =
    let side = is_not h.pad (first_of (not h.pad) (has_bytes h o w) t) in
    let same = second_of (not h.pad) (has_bytes h o w) t in
    let off : h.off ≡ o = grind arith in
    let long : width_bytes h.width ≡ width_bytes w = grind arith in
    let c : HoldsAll i (fx_uses (f.cur_field h.off h.width)) = subst (λ b. HoldsAll i (fx_uses (if b then f.pad_field h.off h.width else f.cur_field h.off h.width))) side a in
    let from = c.0.0 in
    let past = c.0.1 in
    ((omega (arith, off, from), omega (arith, off, long, past)), tt)

held_before : (i : ℕ × ℕ) (h : Field) (k : ℕ) (e : Fx) → HoldsAll i (fx_uses (read_of h)) → HoldsAll i (fx_uses (in_slot h k e)) → HoldsAll i (fx_uses e)
held_before i h k (f.num n) r a = tt
held_before i h k f.null r a = tt
held_before i h k (f.arg n) r a = tt
held_before i h k (f.slot j) r a = tt
held_before i h k f.cur r a = tt
held_before i h k (f.cur_field o w) r a = here_or (not h.pad && has_bytes h o w) i k (f.cur_field o w) (of_cur i h o w r) a
held_before i h k (f.pad_field o w) r a = tt
held_before i h k (f.not e) r a = held_before i h k e r a
held_before i h k (f.flip e) r a = held_before i h k e r a
held_before i h k (f.bin o x y) r a =
    on_both i (fx_uses (in_slot h k x)) (fx_uses (in_slot h k y)) (fx_uses x) (fx_uses y) (held_before i h k x r) (held_before i h k y r) a
held_before i h k (f.at x y) r a =
    on_both i (fx_uses (in_slot h k x)) (fx_uses (in_slot h k y)) (fx_uses x) (fx_uses y) (held_before i h k x r) (held_before i h k y r) a

pub all_before : (i : ℕ × ℕ) (h : Field) (k : ℕ) (ss : Fs) → HoldsAll i (fx_uses (read_of h)) → HoldsAll i (fs_uses (all_in_slot h k ss)) → HoldsAll i (fs_uses ss)
all_before i h k f.end r a = tt
all_before i h k (f.put_slot j e rest) r a = on_both i (fx_uses (in_slot h k e)) (fs_uses (all_in_slot h k rest)) (fx_uses e) (fs_uses rest) (held_before i h k e r) (all_before i h k rest r) a
all_before i h k (f.put_pad o w e rest) r a = on_both i (fx_uses (in_slot h k e)) (fs_uses (all_in_slot h k rest)) (fx_uses e) (fs_uses rest) (held_before i h k e r) (all_before i h k rest r) a
all_before i h k (f.put_cur o w e rest) r a = (a.0, on_both i (fx_uses (in_slot h k e)) (fs_uses (all_in_slot h k rest)) (fx_uses e) (fs_uses rest) (held_before i h k e r) (all_before i h k rest r) a.1)
all_before i h k (f.choose e x y rest) r a =
    on_both i (fx_uses (in_slot h k e)) _ (fx_uses e) (fs_uses x ++ (fs_uses y ++ fs_uses rest)) (held_before i h k e r)
    (on_both i (fs_uses (all_in_slot h k x)) _ (fs_uses x) (fs_uses y ++ fs_uses rest) (all_before i h k x r)
    (on_both i (fs_uses (all_in_slot h k y)) (fs_uses (all_in_slot h k rest)) (fs_uses y) (fs_uses rest) (all_before i h k y r) (all_before i h k rest r))) a
all_before i h k (f.done rest) r a = all_before i h k rest r a
all_before i h k (f.go e rest) r a = on_both i (fx_uses (in_slot h k e)) (fs_uses (all_in_slot h k rest)) (fx_uses e) (fs_uses rest) (held_before i h k e r) (all_before i h k rest r) a

-- ---- spans

some_bytes : (w : Width) → 0 < width_bytes w
some_bytes width.U8 = omega arith
some_bytes width.U16 = omega arith
some_bytes width.U32 = omega arith
some_bytes width.U64 = omega arith
some_bytes width.Ptr = omega arith

not_empty : (u : Use) (us : List Use) → ¬ HoldsAll (0, 0) (u ∷ us)
not_empty u us a =
    let past = a.0.1 in
    omega (arith, past, some_bytes u.1)

-- fields that the same intervals hold have one span
pub one_span : (xs ys : List Use) (i : ℕ × ℕ) → ((j : ℕ × ℕ) → HoldsAll j xs → HoldsAll j ys) → ((j : ℕ × ℕ) → HoldsAll j ys → HoldsAll j xs) → IsSpan xs i → IsSpan ys i
one_span [] [] i to back s = s
one_span [] (y ∷ ys) i to back s = absurd (not_empty y ys (to (0, 0) tt))
one_span (x ∷ xs) [] i to back s = absurd (not_empty x xs (back (0, 0) tt))
one_span (x ∷ xs) (y ∷ ys) i to back s = (to i s.0, λ j a. s.1 j (back j a))
