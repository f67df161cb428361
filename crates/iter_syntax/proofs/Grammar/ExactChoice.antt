-- One form or another, a form or nothing, and larger sets.
use Rattle.std.proofs.Common.{◌≡◌, ℕ, Bool, true, false, ◌||◌, if◌then◌else◌, [], ◌∷◌, ◌++◌, length, refl, sym, ap, ◌∙◌, subst, inl, inr, arith, Option, Some, None}
use Rattle.iter_syntax.specs.Names.{Token}
use Rattle.iter_syntax.specs.Grammar.{Grammar, optional, either}
use Rattle.iter_syntax.specs.Steps.Parsers.{Reading, Read, Stuck, bind, Parser, at_first, read_optional, read_either}
use Rattle.iter_syntax.proofs.Grammar.Splits.{Tokens}
use Rattle.iter_syntax.proofs.Grammar.Exact.{Off, Fitting, Leaves, Exact, shorter, nil_left}

-- one form or another

module _ {A : Type 0} (ga gb : Grammar A) (pa pb : Parser A) (fa ma fb mb : Token → Bool) (a : Exact ga pa fa ma false) (b : Exact gb pb fb mb false) (apart : (t : Token) → fb t ≡ true → fa t ≡ false) where
  abbrev more_or : Token → Bool
  more_or t = ma t || mb t

  off_l : (rest : Tokens) → Off more_or rest → Off ma rest
  off_l [] h = refl
  off_l (t ∷ rest) h = grind arith

  off_r : (rest : Tokens) → Off more_or rest → Off mb rest
  off_r [] h = refl
  off_r (t ∷ rest) h = grind arith

  left_is : (t : Token) (ts : Tokens) → fa t ≡ true → read_either fa pa pb (t ∷ ts) ≡ pa (t ∷ ts)
  left_is t ts h = rw h

  right_is : (t : Token) (ts : Tokens) → fb t ≡ true → read_either fa pa pb (t ∷ ts) ≡ pb (t ∷ ts)
  right_is t ts h = rw (apart t h)

  in_left : (ts : Tokens) (x : Reading A) → Fitting ga ts x → Fitting (either ga gb) ts x
  in_left ts (Read v rest) s = (s.0, s.1, inl s.2)
  in_left ts (Stuck rest) s = (s.0, s.1, inl s.2)

  in_right : (ts : Tokens) (x : Reading A) → Fitting gb ts x → Fitting (either ga gb) ts x
  in_right ts (Read v rest) s = (s.0, s.1, inr s.2)
  in_right ts (Stuck rest) s = (s.0, s.1, inr s.2)

  or_sound : (ts : Tokens) → Fitting (either ga gb) ts (read_either fa pa pb ts)
  or_sound ts = by_test (at_first fa ts)
    where
      by_test : (c : Bool) → Fitting (either ga gb) ts (if c then pa ts else pb ts)
      by_test true = in_left ts (pa ts) (a.sound ts)
      by_test false = in_right ts (pb ts) (b.sound ts)

  or_complete : (u rest : Tokens) (x : A) → (either ga gb).whole u x → Off more_or rest → read_either fa pa pb (u ++ rest) ≡ Read x rest
  or_complete [] rest x (inl w) off = absurd (let e = a.solid x w in cc)
  or_complete [] rest x (inr w) off = absurd (let e = b.solid x w in cc)
  or_complete (t ∷ u) rest x (inl w) off = left_is t (u ++ rest) (a.starts t u (a.within (t ∷ u) x w)) ∙ a.complete (t ∷ u) rest x w (off_l rest off)
  or_complete (t ∷ u) rest x (inr w) off = right_is t (u ++ rest) (b.starts t u (b.within (t ∷ u) x w)) ∙ b.complete (t ∷ u) rest x w (off_r rest off)

  or_viable : (v w : Tokens) → (either ga gb).begins v → Leaves (length w) (read_either fa pa pb (v ++ w))
  or_viable [] w h = shorter (either ga gb) w (read_either fa pa pb w) (or_sound w)
  or_viable (t ∷ v) w (inl h) = subst (λ y. Leaves (length w) y) (sym (left_is t (v ++ w) (a.starts t v h))) (a.viable (t ∷ v) w h)
  or_viable (t ∷ v) w (inr h) = subst (λ y. Leaves (length w) y) (sym (right_is t (v ++ w) (b.starts t v h))) (b.viable (t ∷ v) w h)

  or_starts : (t : Token) (v : Tokens) → (either ga gb).begins (t ∷ v) → (fa t || fb t) ≡ true
  or_starts t v (inl h) = let e = a.starts t v h in grind arith
  or_starts t v (inr h) = let e = b.starts t v h in grind arith

  or_within : (u : Tokens) (x : A) → (either ga gb).whole u x → (either ga gb).begins u
  or_within u x (inl w) = inl (a.within u x w)
  or_within u x (inr w) = inr (b.within u x w)

  or_opens : (u v : Tokens) → (either ga gb).begins (u ++ v) → (either ga gb).begins u
  or_opens u v (inl h) = inl (a.opens u v h)
  or_opens u v (inr h) = inr (b.opens u v h)

  or_solid : (x : A) → (either ga gb).whole [] x → false ≡ true
  or_solid x (inl w) = a.solid x w
  or_solid x (inr w) = b.solid x w

  pub either_right : Exact (either ga gb) (read_either fa pa pb) (λ t. fa t || fb t) more_or false
  either_right = record { sound = or_sound; complete = or_complete; viable = or_viable; starts = or_starts; within = or_within; opens = or_opens; solid = or_solid }

-- a form or nothing
module _ {A : Type 0} (g : Grammar A) (p : Parser A) (first more : Token → Bool) (r : Exact g p first more false) where
  abbrev more_maybe : Token → Bool
  more_maybe t = first t || more t

  off_form : (rest : Tokens) → Off more_maybe rest → Off more rest
  off_form [] h = refl
  off_form (t ∷ rest) h = grind arith

  off_start : (rest : Tokens) → Off more_maybe rest → Off first rest
  off_start [] h = refl
  off_start (t ∷ rest) h = grind arith

  abbrev some : A → Tokens → Reading (Option A)
  some a left = Read (Some a) left

  maybe_is : (t : Token) (ts : Tokens) → first t ≡ true → read_optional first p (t ∷ ts) ≡ bind (p (t ∷ ts)) some
  maybe_is t ts h = rw h

  maybe_not : (ts : Tokens) → at_first first ts ≡ false → read_optional first p ts ≡ Read None ts
  maybe_not ts h = rw h

  in_some : (ts : Tokens) (x : Reading A) → Fitting g ts x → Fitting (optional g) ts (bind x some)
  in_some ts (Read v rest) s = (s.0, s.1, s.2)
  in_some ts (Stuck rest) s = (s.0, s.1, inr s.2)

  maybe_sound : (ts : Tokens) → Fitting (optional g) ts (read_optional first p ts)
  maybe_sound ts = by_test (at_first first ts)
    where
      by_test : (c : Bool) → Fitting (optional g) ts (if c then bind (p ts) some else Read None ts)
      by_test true = in_some ts (p ts) (r.sound ts)
      by_test false = ([], refl, refl)

  maybe_complete : (u rest : Tokens) (x : Option A) → (optional g).whole u x → Off more_maybe rest → read_optional first p (u ++ rest) ≡ Read x rest
  maybe_complete u rest None w off = ap (λ l. read_optional first p (l ++ rest)) w ∙ maybe_not rest (off_start rest off)
  maybe_complete [] rest (Some a) w off = absurd (let e = r.solid a w in cc)
  maybe_complete (t ∷ u) rest (Some a) w off = maybe_is t (u ++ rest) (r.starts t u (r.within (t ∷ u) a w)) ∙ ap (λ x. bind x some) (r.complete (t ∷ u) rest a w (off_form rest off))

  past_some : (n : ℕ) (x : Reading A) → Leaves n x → Leaves {A = Option A} n (bind x some)
  past_some n (Read a rest) h = h
  past_some n (Stuck rest) h = h

  maybe_viable : (v w : Tokens) → (optional g).begins v → Leaves (length w) (read_optional first p (v ++ w))
  maybe_viable [] w h = shorter (optional g) w (read_optional first p w) (maybe_sound w)
  maybe_viable (t ∷ v) w (inl e) = absurd (cc)
  maybe_viable (t ∷ v) w (inr h) =
      subst (λ y. Leaves {A = Option A} (length w) y) (sym (maybe_is t (v ++ w) (r.starts t v h))) (past_some (length w) (p (t ∷ (v ++ w))) (r.viable (t ∷ v) w h))

  maybe_starts : (t : Token) (v : Tokens) → (optional g).begins (t ∷ v) → first t ≡ true
  maybe_starts t v (inl e) = absurd (cc)
  maybe_starts t v (inr h) = r.starts t v h

  maybe_within : (u : Tokens) (x : Option A) → (optional g).whole u x → (optional g).begins u
  maybe_within u None w = inl w
  maybe_within u (Some a) w = inr (r.within u a w)

  maybe_opens : (u v : Tokens) → (optional g).begins (u ++ v) → (optional g).begins u
  maybe_opens u v (inl e) = inl (nil_left u v e)
  maybe_opens u v (inr h) = inr (r.opens u v h)

  pub optional_right : Exact (optional g) (read_optional first p) first more_maybe true
  optional_right = record { sound = maybe_sound; complete = maybe_complete; viable = maybe_viable; starts = maybe_starts; within = maybe_within; opens = maybe_opens; solid = λ x w. refl }

-- larger sets
off_less : (less more : Token → Bool) → ((t : Token) → less t ≡ true → more t ≡ true) → (ts : Tokens) → Off more ts → Off less ts
off_less less more le [] h = refl
off_less less more le (t ∷ ts) h = by_bool (less t) refl
  where
    by_bool : (b : Bool) → less t ≡ b → less t ≡ false
    by_bool true e = absurd (let q : true ≡ false = sym (le t e) ∙ h in cc)
    by_bool false e = e

pub framed_right : {A : Type 0} (g : Grammar A) (p : Parser A) (first more first2 more2 : Token → Bool) → ((t : Token) → first t ≡ true → first2 t ≡ true) → ((t : Token) → more t ≡ true → more2 t ≡ true) → Exact g p first more false → Exact g p first2 more2 false
framed_right g p first more first2 more2 le1 le2 r = record {
  sound = r.sound;
  complete = λ u rest a w off. r.complete u rest a w (off_less more more2 le2 rest off);
  viable = r.viable;
  starts = λ t v h. le1 t (r.starts t v h);
  within = r.within;
  opens = r.opens;
  solid = r.solid;
}
