-- A parser that looks one token ahead answers by its grammar: one token, a pair, another value.
use Rattle.std.proofs.Common.{◌≡◌, ℕ, ◌≤◌, Bool, true, false, ◌||◌, if◌then◌else◌, [], ◌∷◌, ◌++◌, length, refl, sym, ap, ◌∙◌, subst, ◌⊎◌, inl, inr, arith, append_assoc, append-nil, length-append}
use Rattle.iter_syntax.specs.Names.{Token}
use Rattle.iter_syntax.specs.Grammar.{Grammar, token, pair, value}
use Rattle.iter_syntax.specs.Steps.Parsers.{Reading, Read, Stuck, bind, Parser, read_token, read_pair, read_value, at_first}
use Rattle.iter_syntax.proofs.Grammar.Splits.{Tokens, Within, splits}

-- no token follows that would go on with the form
abbrev pub Off : (Token → Bool) → Tokens → Type 0
Off k ts = at_first k ts ≡ false

abbrev pub Fitting : {A : Type 0} → Grammar A → Tokens → Reading A → Type 0
Fitting g ts (Read a rest) = (u : Tokens) × (ts ≡ u ++ rest) × g.whole u a
Fitting g ts (Stuck rest) = (u : Tokens) × (ts ≡ u ++ rest) × g.begins u

-- at most n tokens are left
abbrev pub Leaves : {A : Type 0} → ℕ → Reading A → Type 0
Leaves n (Read a rest) = length rest ≤ n
Leaves n (Stuck rest) = length rest ≤ n

-- a parser by its grammar, the tokens that may begin a form, those that go on with a whole one, and whether nothing is one
pub record Exact {A : Type 0} (g : Grammar A) (p : Parser A) (first more : Token → Bool) (empty : Bool) : Type 0 where
  pub sound : (ts : Tokens) → Fitting g ts (p ts)
  pub complete : (u rest : Tokens) (a : A) → g.whole u a → Off more rest → p (u ++ rest) ≡ Read a rest
  pub viable : (v w : Tokens) → g.begins v → Leaves (length w) (p (v ++ w))
  pub starts : (t : Token) (v : Tokens) → g.begins (t ∷ v) → first t ≡ true
  pub within : (u : Tokens) (a : A) → g.whole u a → g.begins u
  pub opens : (u v : Tokens) → g.begins (u ++ v) → g.begins u
  pub solid : (a : A) → g.whole [] a → empty ≡ true

pub shorter : {A : Type 0} (g : Grammar A) (ts : Tokens) (r : Reading A) → Fitting g ts r → Leaves (length ts) r
shorter g ts (Read a rest) s = omega (arith, ap length s.1, length-append s.0 rest)
shorter g ts (Stuck rest) s = omega (arith, ap length s.1, length-append s.0 rest)

pub past_more : {A : Type 0} (m n : ℕ) (r : Reading A) → m ≤ n → Leaves m r → Leaves n r
past_more m n (Read a rest) le h = omega arith
past_more m n (Stuck rest) le h = omega arith

pub nil_left : (u v : Tokens) → u ++ v ≡ [] → u ≡ []
nil_left [] v e = refl
nil_left (t ∷ u) v e = absurd (cc)

-- one token

token_got : (k : Token → Bool) (t : Token) (ts : Tokens) → k t ≡ true → read_token k (t ∷ ts) ≡ Read t ts
token_got k t ts h = rw h

token_sound : (k : Token → Bool) (ts : Tokens) → Fitting (token k) ts (read_token k ts)
token_sound k [] = ([], refl, inl refl)
token_sound k (t ∷ ts) = by_test (k t) refl
  where
    by_test : (b : Bool) → k t ≡ b → Fitting (token k) (t ∷ ts) (if b then Read t ts else Stuck (t ∷ ts))
    by_test true h = (t ∷ [], refl, (refl, h))
    by_test false h = ([], refl, inl refl)

pub token_right : (k : Token → Bool) → Exact (token k) (read_token k) k (λ t. false) false
token_right k = record {
  sound = token_sound k;
  complete = λ u rest a h off. ap (λ v. read_token k (v ++ rest)) h.0 ∙ token_got k a rest h.1;
  viable = viable;
  starts = starts;
  within = λ u a h. inr (a, h.0, h.1);
  opens = opens;
  solid = λ a h. absurd (solid a h.0);
}
  where
    viable : (v w : Tokens) → (token k).begins v → Leaves (length w) (read_token k (v ++ w))
    viable v w (inl e) = subst (λ v. Leaves (length w) (read_token k (v ++ w))) (sym e) (shorter (token k) w (read_token k w) (token_sound k w))
    viable v w (inr (t, e, h)) = subst (λ v. Leaves (length w) (read_token k (v ++ w))) (sym e) (subst (λ r. Leaves (length w) r) (sym (token_got k t w h)) (omega arith))

    starts : (t : Token) (v : Tokens) → (token k).begins (t ∷ v) → k t ≡ true
    starts t v (inl e) = absurd (cc)
    starts t v (inr (s, e, h)) = let q : t ≡ s = cc in ap k q ∙ h

    opens : (u v : Tokens) → (token k).begins (u ++ v) → (token k).begins u
    opens u v (inl e) = inl (nil_left u v e)
    opens [] v (inr b) = inl refl
    opens (s ∷ u) v (inr (t, e, h)) =
        let first : s ≡ t = cc in
        let others : u ++ v ≡ [] = cc in
        inr (t, λ i. first i ∷ nil_left u v others i, h)

    solid : (a : Token) → [] ≡ a ∷ [] → ⊥
    solid a e = cc

-- one form and then another

-- what goes on with a whole pair
abbrev pub more_then : (Token → Bool) → (Token → Bool) → (Token → Bool) → Bool → Token → Bool
more_then fb ma mb eb t = if eb then mb t || (fb t || ma t) else mb t

abbrev pub first_then : (Token → Bool) → (Token → Bool) → Bool → Token → Bool
first_then fa fb ea t = if ea then fa t || fb t else fa t

module _ {A B : Type 0} (ga : Grammar A) (gb : Grammar B) (pa : Parser A) (pb : Parser B) (fa ma fb mb : Token → Bool) (ea eb : Bool) (a : Exact ga pa fa ma ea) (b : Exact gb pb fb mb eb) (apart : (t : Token) → fb t ≡ true → ma t ≡ false) where
  abbrev more2 : Token → Bool
  more2 = more_then fb ma mb eb

  off_b : (rest : Tokens) → Off more2 rest → Off mb rest
  off_b [] h = refl
  off_b (t ∷ rest) h = grind arith

  off_a : (v rest : Tokens) (y : B) → gb.whole v y → Off more2 rest → Off ma (v ++ rest)
  off_a [] [] y w h = refl
  off_a [] (t ∷ rest) y w h = let e = b.solid y w in grind arith
  off_a (t ∷ v) rest y w h = apart t (b.starts t v (b.within (t ∷ v) y w))

  pair_sound : (ts : Tokens) → Fitting (pair ga gb) ts (read_pair pa pb ts)
  pair_sound ts = after_a (pa ts) (a.sound ts)
    where
      after_b : (x : A) (u rest : Tokens) → ts ≡ u ++ rest → ga.whole u x → (r : Reading B) → Fitting gb rest r → Fitting (pair ga gb) ts (bind r (λ y more. Read (x, y) more))
      after_b x u rest e w (Read y more) s = (u ++ s.0, e ∙ ap (λ l. u ++ l) s.1 ∙ sym (append_assoc u s.0 more), (u, s.0, refl, w, s.2))
      after_b x u rest e w (Stuck more) s = (u ++ s.0, e ∙ ap (λ l. u ++ l) s.1 ∙ sym (append_assoc u s.0 more), inr (u, s.0, x, refl, w, s.2))

      after_a : (r : Reading A) → Fitting ga ts r → Fitting (pair ga gb) ts (bind r (λ x rest. bind (pb rest) (λ y more. Read (x, y) more)))
      after_a (Read x rest) s = after_b x s.0 rest s.1 s.2 (pb rest) (b.sound rest)
      after_a (Stuck rest) s = (s.0, s.1, inl s.2)

  pair_complete : (u rest : Tokens) (x : A × B) → (pair ga gb).whole u x → Off more2 rest → read_pair pa pb (u ++ rest) ≡ Read x rest
  pair_complete u rest x w off =
      let u1 = w.0 in let u2 = w.1 in
      let e : u ++ rest ≡ u1 ++ (u2 ++ rest) = ap (λ l. l ++ rest) w.2 ∙ append_assoc u1 u2 rest in
      ap (read_pair pa pb) e
      ∙ ap (λ r. bind r (λ x rest. bind (pb rest) (λ y more. Read (x, y) more))) (a.complete u1 (u2 ++ rest) x.0 w.3 (off_a u2 rest x.1 w.4 off))
      ∙ ap (λ r. bind r (λ y more. Read (x.0, y) more)) (b.complete u2 rest x.1 w.4 (off_b rest off))

  -- after a first form with at most n tokens left, at most n are left
  then_past : (n : ℕ) (r : Reading A) → Leaves n r → Leaves {A = A × B} n (bind r (λ x rest. bind (pb rest) (λ y more. Read (x, y) more)))
  then_past n (Read x rest) h = by_b (pb rest) (shorter gb rest (pb rest) (b.sound rest))
    where
      by_b : (r : Reading B) → Leaves (length rest) r → Leaves {A = A × B} n (bind r (λ y more. Read (x, y) more))
      by_b (Read y more) p = omega arith
      by_b (Stuck more) p = omega arith
  then_past n (Stuck rest) h = h

  pair_viable : (v w : Tokens) → (pair ga gb).begins v → Leaves (length w) (read_pair pa pb (v ++ w))
  pair_viable v w (inl h) = then_past (length w) (pa (v ++ w)) (a.viable v w h)
  pair_viable v w (inr (u, [], x, e, wa, h)) =
      let q : v ≡ u = e ∙ simp append-nil in
      then_past (length w) (pa (v ++ w)) (a.viable v w (subst ga.begins (sym q) (a.within u x wa)))
  pair_viable v w (inr (u, t ∷ v2, x, e, wa, h)) =
      let q : v ++ w ≡ u ++ ((t ∷ v2) ++ w) = ap (λ l. l ++ w) e ∙ append_assoc u (t ∷ v2) w in
      let got = ap pa q ∙ a.complete u ((t ∷ v2) ++ w) x wa (apart t (b.starts t v2 h)) in
      subst (λ r. Leaves {A = A × B} (length w) (bind r (λ x rest. bind (pb rest) (λ y more. Read (x, y) more)))) (sym got) (by_b (pb ((t ∷ v2) ++ w)) (b.viable (t ∷ v2) w h))
    where
      by_b : (r : Reading B) → Leaves (length w) r → Leaves {A = A × B} (length w) (bind r (λ y more. Read (x, y) more))
      by_b (Read y more) p = omega arith
      by_b (Stuck more) p = omega arith

  pair_starts : (t : Token) (v : Tokens) → (pair ga gb).begins (t ∷ v) → first_then fa fb ea t ≡ true
  pair_starts t v (inl h) = let e = a.starts t v h in grind arith
  pair_starts t v (inr ([], v2, x, e, wa, h)) =
      let q = a.solid x wa in
      let s = b.starts t v (subst gb.begins (sym e) h) in grind arith
  pair_starts t v (inr (s ∷ u, v2, x, e, wa, h)) =
      let q : t ≡ s = cc in
      let f = a.starts s u (a.within (s ∷ u) x wa) in grind arith

  pair_opens : (u v : Tokens) → (pair ga gb).begins (u ++ v) → (pair ga gb).begins u
  pair_opens u v (inl h) = inl (a.opens u v h)
  pair_opens u v (inr (s, t, x, e, w, h)) = by_side (splits u v s t e)
    where
      by_side : Within u v s t ⊎ Within s t u v → (pair ga gb).begins u
      by_side (inl i) = inl (a.opens u i.between (subst ga.begins i.longer (a.within s x w)))
      by_side (inr i) = inr (s, i.between, x, i.longer, w, b.opens i.between v (subst gb.begins i.rest h))

  pub then_right : Exact (pair ga gb) (read_pair pa pb) (first_then fa fb ea) more2 (if ea then eb else false)
  then_right = record {
    sound = pair_sound;
    complete = pair_complete;
    viable = pair_viable;
    starts = pair_starts;
    within = λ u x w. inr (w.0, w.1, x.0, w.2, w.3, b.within w.1 x.1 w.4);
    opens = pair_opens;
    solid = solid;
  }
    where
      solid : (x : A × B) → (pair ga gb).whole [] x → (if ea then eb else false) ≡ true
      solid x w =
          let n1 = nil_left w.0 w.1 (sym w.2) in
          let n2 : w.1 ≡ [] = sym (w.2 ∙ ap (λ l. l ++ w.1) n1) in
          let e1 = a.solid x.0 (subst (λ l. ga.whole l x.0) n1 w.3) in
          let e2 = b.solid x.1 (subst (λ l. gb.whole l x.1) n2 w.4) in
          grind arith

-- another value

pub value_right : {A B : Type 0} (f : A → B) (g : Grammar A) (p : Parser A) (first more : Token → Bool) (empty : Bool) → Exact g p first more empty → Exact (value f g) (read_value f p) first more empty
value_right f g p first more empty r = record {
  sound = λ ts. sound ts (p ts) (r.sound ts);
  complete = λ u rest y w off. ap (λ x. bind x (λ a rest. Read (f a) rest)) (r.complete u rest w.0 w.1 off) ∙ ap (λ y. Read y rest) (sym w.2);
  viable = λ v w h. past (length w) (p (v ++ w)) (r.viable v w h);
  starts = r.starts;
  within = λ u y w. r.within u w.0 w.1;
  opens = r.opens;
  solid = λ y w. r.solid w.0 w.1;
}
  where
    sound : (ts : Tokens) (x : Reading _) → Fitting g ts x → Fitting (value f g) ts (bind x (λ a rest. Read (f a) rest))
    sound ts (Read a rest) s = (s.0, s.1, (a, s.2, refl))
    sound ts (Stuck rest) s = s

    past : (n : ℕ) (x : Reading _) → Leaves n x → Leaves n (bind x (λ a rest. Read (f a) rest))
    past n (Read a rest) h = h
    past n (Stuck rest) h = h
