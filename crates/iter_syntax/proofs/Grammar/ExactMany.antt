-- Any number of a form, read as long as one begins.
use Rattle.std.proofs.Common.{◌≡◌, ℕ, zero, suc, ◌≤◌, Bool, true, false, ◌||◌, if◌then◌else◌, List, [], ◌∷◌, ◌++◌, length, refl, sym, ap, ◌∙◌, subst, ◌⊎◌, inl, inr, arith, append_assoc, append-nil, length-append}
use Rattle.iter_syntax.specs.Names.{Token}
use Rattle.iter_syntax.specs.Grammar.{Grammar, row, many}
use Rattle.iter_syntax.specs.Steps.Parsers.{Reading, Read, Stuck, bind, Parser, at_first, read_up_to, read_many}
use Rattle.iter_syntax.proofs.Grammar.Splits.{Tokens, Within, splits}
use Rattle.iter_syntax.proofs.Grammar.Exact.{Off, Fitting, Leaves, Exact, shorter, past_more, nil_left}

module _ {A : Type 0} (g : Grammar A) (p : Parser A) (first more : Token → Bool) (r : Exact g p first more false) (apart : (t : Token) → first t ≡ true → more t ≡ false) where
  abbrev more_many : Token → Bool
  more_many t = first t || more t

  abbrev next : ℕ → A → Tokens → Reading (List A)
  next n a rest = bind (read_up_to first p n rest) (λ others left. Read (a ∷ others) left)

  -- a whole form has a token, and its first may begin one
  front : (u : Tokens) (a : A) → g.whole u a → (t : Token) × (v : Tokens) × (u ≡ t ∷ v) × (first t ≡ true)
  front [] a w = absurd (let e = r.solid a w in cc)
  front (t ∷ v) a w = (t, v, refl, r.starts t v (r.within (t ∷ v) a w))

  many_sound : (n : ℕ) (ts : Tokens) → Fitting (many g) ts (read_up_to first p n ts)
  many_sound zero ts = ([], refl, refl)
  many_sound (suc n) ts = by_test (λ rest. many_sound n rest) (at_first first ts)
    where
      after_rest : (a : A) (u rest : Tokens) → ts ≡ u ++ rest → g.whole u a → (x : Reading (List A)) → Fitting (many g) rest x → Fitting (many g) ts (bind x (λ others left. Read (a ∷ others) left))
      after_rest a u rest e w (Read others left) s = (u ++ s.0, e ∙ ap (λ l. u ++ l) s.1 ∙ sym (append_assoc u s.0 left), (u, s.0, refl, w, s.2))
      after_rest a u rest e w (Stuck left) s =
          let b = s.2 in
          (u ++ s.0, e ∙ ap (λ l. u ++ l) s.1 ∙ sym (append_assoc u s.0 left), (u ++ b.0, b.1, a ∷ b.2, ap (λ l. u ++ l) b.3 ∙ sym (append_assoc u b.0 b.1), (u, b.0, refl, w, b.4), b.5))

      after_one : ((rest : Tokens) → Fitting (many g) rest (read_up_to first p n rest)) → (x : Reading A) → Fitting g ts x → Fitting (many g) ts (bind x (next n))
      after_one ih (Read a rest) s = after_rest a s.0 rest s.1 s.2 (read_up_to first p n rest) (ih rest)
      after_one ih (Stuck rest) s = (s.0, s.1, ([], s.0, [], refl, refl, inr s.2))

      by_test : ((rest : Tokens) → Fitting (many g) rest (read_up_to first p n rest)) → (b : Bool) → Fitting (many g) ts (if b then bind (p ts) (next n) else Read [] ts)
      by_test ih true = after_one ih (p ts) (r.sound ts)
      by_test ih false = ([], refl, refl)

  -- one form and the others, where the first token may begin one
  many_step : (n : ℕ) (t : Token) (ts : Tokens) → first t ≡ true → read_up_to first p (suc n) (t ∷ ts) ≡ bind (p (t ∷ ts)) (next n)
  many_step n t ts h = rw h

  many_stop : (n : ℕ) (ts : Tokens) → at_first first ts ≡ false → read_up_to first p n ts ≡ Read [] ts
  many_stop zero ts h = refl
  many_stop (suc n) ts h = rw h

  -- what follows a whole form, in a row of them before `rest`
  off_row : (xs : List A) (u rest : Tokens) → row g xs u → Off more_many rest → Off more (u ++ rest)
  off_row [] u [] w h = rw w
  off_row [] u (t ∷ rest) w h = rw w (grind arith)
  off_row (x ∷ xs) u rest w h =
      let f = front w.0 x w.3 in
      let e : u ++ rest ≡ f.0 ∷ (f.1 ++ (w.1 ++ rest)) = ap (λ l. l ++ rest) (w.2 ∙ ap (λ l. l ++ w.1) f.2) ∙ append_assoc (f.0 ∷ f.1) w.1 rest in
      ap (at_first more) e ∙ apart f.0 f.3

  one_more : (n : ℕ) (x : A) (u v : Tokens) → g.whole u x → length (u ++ v) ≤ suc n → Off more v → read_up_to first p (suc n) (u ++ v) ≡ next n x v
  one_more n x u v w le off =
      let f = front u x w in
      ap (λ l. read_up_to first p (suc n) (l ++ v)) f.2
      ∙ many_step n f.0 (f.1 ++ v) f.3
      ∙ ap (λ l. bind (p (l ++ v)) (next n)) (sym f.2)
      ∙ ap (λ x. bind x (next n)) (r.complete u v x w off)

  many_complete : (xs : List A) (n : ℕ) (u rest : Tokens) → length (u ++ rest) ≤ n → row g xs u → Off more_many rest → read_up_to first p n (u ++ rest) ≡ Read xs rest
  many_complete [] n u rest le w off = ap (λ l. read_up_to first p n (l ++ rest)) w ∙ many_stop n rest (off_first rest off) ∙ refl
    where
      off_first : (rest : Tokens) → Off more_many rest → at_first first rest ≡ false
      off_first [] h = refl
      off_first (t ∷ rest) h = grind arith
  many_complete (x ∷ xs) zero u rest le w off =
      let f = front w.0 x w.3 in
      absurd (omega (arith, length-append u rest, ap length w.2, ap length f.2, length-append w.0 w.1))
  many_complete (x ∷ xs) (suc n) u rest le w off =
      let f = front w.0 x w.3 in
      let e : u ++ rest ≡ w.0 ++ (w.1 ++ rest) = ap (λ l. l ++ rest) w.2 ∙ append_assoc w.0 w.1 rest in
      let le1 : length (w.0 ++ (w.1 ++ rest)) ≤ suc n = omega (arith, ap length e) in
      let le2 : length (w.1 ++ rest) ≤ n = omega (arith, le1, length-append w.0 (w.1 ++ rest), ap length f.2) in
      ap (read_up_to first p (suc n)) e
      ∙ one_more n x w.0 (w.1 ++ rest) w.3 le1 (off_row xs w.1 rest w.4 off)
      ∙ ap (λ y. bind y (λ others left. Read (x ∷ others) left)) (many_complete xs n w.1 rest le2 w.4 off)

  many_short : (n : ℕ) (ts : Tokens) → Leaves (length ts) (read_up_to first p n ts)
  many_short n ts = shorter (many g) ts (read_up_to first p n ts) (many_sound n ts)

  cons_past : (m : ℕ) (a : A) (x : Reading (List A)) → Leaves m x → Leaves {A = List A} m (bind x (λ others left. Read (a ∷ others) left))
  cons_past m a (Read others left) h = h
  cons_past m a (Stuck left) h = h

  -- after one form with at most m tokens left, at most m are left
  next_past : (n m : ℕ) (x : Reading A) → Leaves m x → Leaves {A = List A} m (bind x (next n))
  next_past n m (Read a rest) h = cons_past m a (read_up_to first p n rest) (past_more (length rest) m (read_up_to first p n rest) h (many_short n rest))
  next_past n m (Stuck rest) h = h

  -- a form that is begun is not left
  begun : (n : ℕ) (v w : Tokens) → g.begins v → Leaves (length w) (read_up_to first p n (v ++ w)) ⊎ (n ≡ 0)
  begun zero v w h = inr refl
  begun (suc n) [] w h = inl (many_short (suc n) w)
  begun (suc n) (t ∷ v) w h =
      inl (subst (λ x. Leaves (length w) x) (sym (many_step n t (v ++ w) (r.starts t v h))) (next_past n (length w) (p (t ∷ (v ++ w))) (r.viable (t ∷ v) w h)))

  sure : (n : ℕ) (v w : Tokens) → length (v ++ w) ≤ n → Leaves (length w) (read_up_to first p n (v ++ w)) ⊎ (n ≡ 0) → Leaves (length w) (read_up_to first p n (v ++ w))
  sure n v w le (inl h) = h
  sure n v w le (inr e) = past_more (length (v ++ w)) (length w) (read_up_to first p n (v ++ w)) (omega arith) (many_short n (v ++ w))

  row_starts : (xs : List A) (u v : Tokens) (t : Token) (s : Tokens) → row g xs u → (v ≡ []) ⊎ g.begins v → u ++ v ≡ t ∷ s → first t ≡ true
  row_starts [] u v t s h (inl e) q = absurd (let z : [] ≡ t ∷ s = sym (ap (λ l. l ++ v) h ∙ e) ∙ q in cc)
  row_starts [] u v t s h (inr b) q =
      let z : v ≡ t ∷ s = sym (ap (λ l. l ++ v) h) ∙ q in r.starts t s (subst g.begins z b)
  row_starts (x ∷ xs) u v t s h b q =
      let f = front h.0 x h.3 in
      let z : f.0 ∷ ((f.1 ++ h.1) ++ v) ≡ t ∷ s = sym (ap (λ l. (l ++ h.1) ++ v) f.2) ∙ sym (ap (λ l. l ++ v) h.2) ∙ q in
      let same : f.0 ≡ t = cc in
      sym (ap first same) ∙ f.3

  many_viable : (xs : List A) (n : ℕ) (u v w : Tokens) → length ((u ++ v) ++ w) ≤ n → row g xs u → (v ≡ []) ⊎ g.begins v → Leaves (length w) (read_up_to first p n ((u ++ v) ++ w))
  many_viable [] n u v w le h (inl e) =
      let q : (u ++ v) ++ w ≡ w = ap (λ l. (l ++ v) ++ w) h ∙ ap (λ l. l ++ w) e in
      subst (λ l. Leaves (length w) (read_up_to first p n l)) (sym q) (many_short n w)
  many_viable [] n u v w le h (inr b) =
      let q : (u ++ v) ++ w ≡ v ++ w = ap (λ l. (l ++ v) ++ w) h in
      subst (λ l. Leaves (length w) (read_up_to first p n l)) (sym q) (sure n v w (omega (arith, ap length q)) (begun n v w b))
  many_viable (x ∷ xs) zero u v w le h b =
      let f = front h.0 x h.3 in
      absurd (omega (arith, length-append (u ++ v) w, length-append u v, ap length h.2, ap length f.2, length-append h.0 h.1))
  many_viable (x ∷ xs) (suc n) u v w le h b = by_rest (λ le2. many_viable xs n h.1 v w le2 h.4 b) (h.1 ++ v) refl
    where
      e : (u ++ v) ++ w ≡ h.0 ++ ((h.1 ++ v) ++ w)
      e = ap (λ l. (l ++ v) ++ w) h.2 ∙ simp append_assoc

      by_rest : (length ((h.1 ++ v) ++ w) ≤ n → Leaves (length w) (read_up_to first p n ((h.1 ++ v) ++ w))) → (s : Tokens) → h.1 ++ v ≡ s → Leaves (length w) (read_up_to first p (suc n) ((u ++ v) ++ w))
      by_rest ih [] q =
          let e2 : (u ++ v) ++ w ≡ h.0 ++ w = e ∙ ap (λ l. h.0 ++ (l ++ w)) q in
          subst (λ l. Leaves (length w) (read_up_to first p (suc n) l)) (sym e2) (sure (suc n) h.0 w (omega (arith, ap length e2)) (begun (suc n) h.0 w (r.within h.0 x h.3)))
      by_rest ih (t ∷ s) q =
          let off : Off more ((h.1 ++ v) ++ w) = ap (λ l. at_first more (l ++ w)) q ∙ apart t (row_starts xs h.1 v t s h.4 b q) in
          let le1 : length (h.0 ++ ((h.1 ++ v) ++ w)) ≤ suc n = omega (arith, ap length e) in
          let f = front h.0 x h.3 in
          let le2 : length ((h.1 ++ v) ++ w) ≤ n = omega (arith, le1, length-append h.0 ((h.1 ++ v) ++ w), ap length f.2) in
          let is = ap (read_up_to first p (suc n)) e ∙ one_more n x h.0 ((h.1 ++ v) ++ w) h.3 le1 off in
          subst (λ y. Leaves (length w) y) (sym is) (cons_past (length w) x (read_up_to first p n ((h.1 ++ v) ++ w)) (ih le2))

  -- enough turns are as good as more
  many_fuel : (n m : ℕ) (ts : Tokens) → length ts ≤ n → length ts ≤ m → read_up_to first p n ts ≡ read_up_to first p m ts
  many_fuel n m [] le le2 = many_stop n [] refl ∙ sym (many_stop m [] refl)
  many_fuel zero m (t ∷ ts) le le2 = absurd (omega arith)
  many_fuel (suc n) zero (t ∷ ts) le le2 = absurd (omega arith)
  many_fuel (suc n) (suc m) (t ∷ ts) le le2 = by_test (λ rest l. many_fuel n m rest (omega arith) (omega arith)) (first t)
    where
      after : ((rest : Tokens) → length rest ≤ length ts → read_up_to first p n rest ≡ read_up_to first p m rest) → (x : Reading A) → Fitting g (t ∷ ts) x → bind x (next n) ≡ bind x (next m)
      after ih (Read a rest) s =
          let f = front s.0 a s.2 in
          let le3 : length rest ≤ length ts = omega (arith, ap length s.1, length-append s.0 rest, ap length f.2) in
          ap (λ y. bind y (λ others left. Read (a ∷ others) left)) (ih rest le3)
      after ih (Stuck rest) s = refl

      by_test : ((rest : Tokens) → length rest ≤ length ts → read_up_to first p n rest ≡ read_up_to first p m rest) → (b : Bool) → (if b then bind (p (t ∷ ts)) (next n) else Read [] (t ∷ ts)) ≡ (if b then bind (p (t ∷ ts)) (next m) else Read [] (t ∷ ts))
      by_test ih true = after ih (p (t ∷ ts)) (r.sound (t ∷ ts))
      by_test ih false = refl

  -- one form, and then the others
  pub many_turn : (ts : Tokens) → at_first first ts ≡ true → read_many first p ts ≡ bind (p ts) (λ a rest. bind (read_many first p rest) (λ others left. Read (a ∷ others) left))
  many_turn [] h = absurd (cc)
  many_turn (t ∷ ts) h = many_step (length ts) t ts h ∙ after (p (t ∷ ts)) (r.sound (t ∷ ts))
    where
      after : (x : Reading A) → Fitting g (t ∷ ts) x → bind x (next (length ts)) ≡ bind x (λ a rest. bind (read_many first p rest) (λ others left. Read (a ∷ others) left))
      after (Read a rest) s =
          let f = front s.0 a s.2 in
          let le3 : length rest ≤ length ts = omega (arith, ap length s.1, length-append s.0 rest, ap length f.2) in
          ap (λ y. bind y (λ others left. Read (a ∷ others) left)) (many_fuel (length ts) (length rest) rest le3 (omega arith))
      after (Stuck rest) s = refl

  pub many_done : (ts : Tokens) → at_first first ts ≡ false → read_many first p ts ≡ Read [] ts
  many_done ts h = many_stop (length ts) ts h

  row_opens : (xs : List A) (s t u v : Tokens) → u ++ v ≡ s ++ t → row g xs s → (t ≡ []) ⊎ g.begins t → (many g).begins u
  row_opens [] s t u v e w (inl none) = ([], u, [], refl, refl, inl (nil_left u v (e ∙ ap (λ l. l ++ t) w ∙ none)))
  row_opens [] s t u v e w (inr b) = ([], u, [], refl, refl, inr (r.opens u v (subst g.begins (sym (e ∙ ap (λ l. l ++ t) w)) b)))
  row_opens (x ∷ xs) s t u v e w last =
      by_side (λ m is. row_opens xs w.1 t m v is w.4 last) (splits u v w.0 (w.1 ++ t) (e ∙ ap (λ l. l ++ t) w.2 ∙ append_assoc w.0 w.1 t))
    where
      and_one : (m : Tokens) → u ≡ w.0 ++ m → (many g).begins m → (many g).begins u
      and_one m is h = (w.0 ++ h.0, h.1, x ∷ h.2, is ∙ ap (λ l. w.0 ++ l) h.3 ∙ sym (append_assoc w.0 h.0 h.1), (w.0, h.0, refl, w.3, h.4), h.5)

      by_side : ((m : Tokens) → m ++ v ≡ w.1 ++ t → (many g).begins m) → Within u v w.0 (w.1 ++ t) ⊎ Within w.0 (w.1 ++ t) u v → (many g).begins u
      by_side ih (inl i) = ([], u, [], refl, refl, inr (r.opens u i.between (subst g.begins i.longer (r.within w.0 x w.3))))
      by_side ih (inr i) = and_one i.between i.longer (ih i.between (sym i.rest))

  pub many_right : Exact (many g) (read_many first p) first more_many true
  many_right = record {
    sound = λ ts. many_sound (length ts) ts;
    complete = λ u rest xs w off. many_complete xs (length (u ++ rest)) u rest (omega arith) w off;
    viable = λ v w b. subst (λ l. Leaves (length w) (read_many first p (l ++ w))) (sym b.3) (many_viable b.2 (length ((b.0 ++ b.1) ++ w)) b.0 b.1 w (omega arith) b.4 b.5);
    starts = λ t v b. row_starts b.2 b.0 b.1 t v b.4 b.5 (sym b.3);
    within = λ u xs w. (u, [], xs, sym (append-nil u), w, inl refl);
    opens = λ u v b. row_opens b.2 b.0 b.1 u v b.3 b.4 b.5;
    solid = λ xs w. refl;
  }
