-- Open brackets and the tokens of a stretch along tokens: what comes from tokens in a row and between brackets.
use Rattle.std.proofs.Common.{◌≡◌, ℕ, ◌+◌, ◌-◌, ◌≤◌, Bool, true, false, ◌||◌, nat_lt, cond, List, [], ◌∷◌, ◌++◌, Option, Some, None, refl, ap, ap₂, ◌∙◌, subst, sym as flip, ltb-false, le-ltb, arith}
use Rattle.iter_syntax.specs.Names.{Token, TokenKind, Symbol}
use Rattle.iter_syntax.specs.declared.token.Symbol.TheVariants as S
use Rattle.iter_syntax.specs.Deep.{depth_after, ends_stretch, deep_from}
use Rattle.iter_syntax.specs.Printed.{Kinds, between, sym}
use Rattle.iter_syntax.proofs.TokenKinds.{kinds}

-- open brackets and tokens of the stretch after tokens, where none of them is too deep
abbrev pub scan : ℕ → ℕ → Kinds → Option (ℕ × ℕ)
scan n m [] = Some (n, m)
scan n m (k ∷ ks) = cond (nat_lt 32 (depth_after n k) || nat_lt 256 (m + 1)) None (scan (depth_after n k) (cond (ends_stretch k) 0 (m + 1)) ks)

-- as many brackets are open after these as before, and none was needed
pub record Closed (ks : Kinds) : Type 0 where
  pub same_depth : (n m : ℕ) (r : ℕ × ℕ) → scan n m ks ≡ Some r → r.0 ≡ n
  pub shallower : (n m : ℕ) (r : ℕ × ℕ) → scan (n + 1) m ks ≡ Some r → scan n m ks ≡ Some (n, r.1)

-- a stretch ends with the last of these
abbrev pub Ended : Kinds → Type 0
Ended ks = (n m : ℕ) (r : ℕ × ℕ) → scan n m ks ≡ Some r → r.1 ≡ 0

-- ---- one token and the ones behind it

-- tokens of the stretch after a token
abbrev stretch_after : ℕ → TokenKind → ℕ
stretch_after m k = cond (ends_stretch k) 0 (m + 1)

passed : {A : Type 0} (x y : Bool) (o : Option A) (r : A) → cond (x || y) None o ≡ Some r → (x ≡ false) × (y ≡ false) × (o ≡ Some r)
passed true y o r e = absurd (cc)
passed false true o r e = absurd (cc)
passed false false o r e = (refl, refl, e)

passes : {A : Type 0} (x y : Bool) (o : Option A) → x ≡ false → y ≡ false → cond (x || y) None o ≡ o
passes x y o e f = ap₂ (λ s t. cond (s || t) None o) e f

scan_step : (k : TokenKind) (ks : Kinds) (n m : ℕ) (r : ℕ × ℕ) → scan n m (k ∷ ks) ≡ Some r → (depth_after n k ≤ 32) × (m + 1 ≤ 256) × (scan (depth_after n k) (stretch_after m k) ks ≡ Some r)
scan_step k ks n m r e =
    let p = passed (nat_lt 32 (depth_after n k)) (nat_lt 256 (m + 1)) (scan (depth_after n k) (stretch_after m k) ks) r e in
    (ltb-false 32 (depth_after n k) p.0, ltb-false 256 (m + 1) p.1, p.2)

scan_cons : (k : TokenKind) (ks : Kinds) (n m : ℕ) (r : ℕ × ℕ) → depth_after n k ≤ 32 → m + 1 ≤ 256 → scan (depth_after n k) (stretch_after m k) ks ≡ Some r → scan n m (k ∷ ks) ≡ Some r
scan_cons k ks n m r h g e =
    passes (nat_lt 32 (depth_after n k)) (nat_lt 256 (m + 1)) (scan (depth_after n k) (stretch_after m k) ks) (le-ltb 32 (depth_after n k) h) (le-ltb 256 (m + 1) g) ∙ e

-- ---- some tokens and others behind them

pub scan_join : (a b : Kinds) (n m : ℕ) (s r : ℕ × ℕ) → scan n m a ≡ Some s → scan s.0 s.1 b ≡ Some r → scan n m (a ++ b) ≡ Some r
scan_join [] b n m s r e f = let q : (n, m) ≡ s = cc in subst (λ z. scan z.0 z.1 b ≡ Some r) (flip q) f
scan_join (k ∷ a) b n m s r e f =
    let p = scan_step k a n m s e in
    scan_cons k (a ++ b) n m r p.0 p.1 (scan_join a b (depth_after n k) (stretch_after m k) s r p.2 f)

pub scan_split : (a b : Kinds) (n m : ℕ) (r : ℕ × ℕ) → scan n m (a ++ b) ≡ Some r → (s : ℕ × ℕ) × (scan n m a ≡ Some s) × (scan s.0 s.1 b ≡ Some r)
scan_split [] b n m r e = ((n, m), refl, e)
scan_split (k ∷ a) b n m r e =
    let p = scan_step k (a ++ b) n m r e in
    let q = scan_split a b (depth_after n k) (stretch_after m k) r p.2 in
    (q.0, scan_cons k a n m q.0 p.0 p.1 q.1, q.2)

-- ---- a shorter stretch before the same tokens

shorter_stretch : (b : Bool) (m l : ℕ) → l ≤ m → cond b 0 (l + 1) ≤ cond b 0 (m + 1)
shorter_stretch true m l h = omega arith
shorter_stretch false m l h = omega arith

pub scan_less : (ks : Kinds) (n m l : ℕ) (r : ℕ × ℕ) → scan n m ks ≡ Some r → l ≤ m → (b : ℕ) × (scan n l ks ≡ Some (r.0, b)) × (b ≤ r.1)
scan_less [] n m l r e h =
    let q : (n, m) ≡ r = cc in
    (l, ap (λ z. Some (z.0, l)) q, subst (λ z. l ≤ z.1) q h)
scan_less (k ∷ ks) n m l r e h =
    let p = scan_step k ks n m r e in
    let q = scan_less ks (depth_after n k) (stretch_after m k) (stretch_after l k) r p.2 (shorter_stretch (ends_stretch k) m l h) in
    (q.0, scan_cons k ks n l (r.0, q.0) p.0 (omega (arith, p.1)) q.1, q.2)

-- ---- tokens after which as many brackets are open as before

pub closed_none : Closed []
closed_none = record { same_depth = same; shallower = less }
  where
    same : (n m : ℕ) (r : ℕ × ℕ) → scan n m [] ≡ Some r → r.0 ≡ n
    same n m r e = let q : (n, m) ≡ r = cc in ap (λ z. z.0) (flip q)

    less : (n m : ℕ) (r : ℕ × ℕ) → scan (n + 1) m [] ≡ Some r → scan n m [] ≡ Some (n, r.1)
    less n m r e = let q : (n + 1, m) ≡ r = cc in ap (λ z. Some (n, z.1)) q

-- one token that is no bracket
pub closed_token : (k : TokenKind) → ((n : ℕ) → depth_after n k ≡ n) → Closed (k ∷ [])
closed_token k h = record { same_depth = same; shallower = less }
  where
    same : (n m : ℕ) (r : ℕ × ℕ) → scan n m (k ∷ []) ≡ Some r → r.0 ≡ n
    same n m r e =
        let p = scan_step k [] n m r e in
        closed_none.same_depth (depth_after n k) (stretch_after m k) r p.2 ∙ h n

    less : (n m : ℕ) (r : ℕ × ℕ) → scan (n + 1) m (k ∷ []) ≡ Some r → scan n m (k ∷ []) ≡ Some (n, r.1)
    less n m r e =
        let p = scan_step k [] (n + 1) m r e in
        let q : Some (n + 1, stretch_after m k) ≡ Some r = ap (λ z. Some (z, stretch_after m k)) (flip (h (n + 1))) ∙ p.2 in
        let f : scan n (stretch_after m k) [] ≡ Some (n, r.1) = closed_none.shallower n (stretch_after m k) r q in
        scan_cons k [] n m (n, r.1) (omega (arith, p.0, h n, h (n + 1))) p.1 (ap (λ z. Some (z, stretch_after m k)) (h n) ∙ f)

pub closed_join : (a b : Kinds) → Closed a → Closed b → Closed (a ++ b)
closed_join a b h g = record { same_depth = same; shallower = less }
  where
    same : (n m : ℕ) (r : ℕ × ℕ) → scan n m (a ++ b) ≡ Some r → r.0 ≡ n
    same n m r e =
        let p = scan_split a b n m r e in
        g.same_depth p.0.0 p.0.1 r p.2 ∙ h.same_depth n m p.0 p.1

    less : (n m : ℕ) (r : ℕ × ℕ) → scan (n + 1) m (a ++ b) ≡ Some r → scan n m (a ++ b) ≡ Some (n, r.1)
    less n m r e =
        let p = scan_split a b (n + 1) m r e in
        let q = subst (λ z. scan z p.0.1 b ≡ Some r) (h.same_depth (n + 1) m p.0 p.1) p.2 in
        scan_join a b n m (n, p.0.1) (n, r.1) (h.shallower n m p.0 p.1) (g.shallower n p.0.1 r q)

-- the symbols open a bracket and close one
pub record Brackets (o c : Symbol) : Type 0 where
  pub opens : (n : ℕ) → depth_after n (sym o) ≡ n + 1
  pub closes : (n : ℕ) → depth_after n (sym c) ≡ n - 1

pub round : Brackets S.OpenRound S.CloseRound
round = record { opens = λ n. refl; closes = λ n. refl }

square : Brackets S.OpenSquare S.CloseSquare
square = record { opens = λ n. refl; closes = λ n. refl }

brace : Brackets S.OpenBrace S.CloseBrace
brace = record { opens = λ n. refl; closes = λ n. refl }

-- how tokens between brackets are passed, with `x` tokens of the stretch before the closing bracket
pub record Inside (o : Symbol) (a : Kinds) (c : Symbol) (n m x : ℕ) : Type 0 where
  pub deep : n + 1 ≤ 32
  pub room : m + 1 ≤ 256
  pub inner : scan (n + 1) (stretch_after m (sym o)) a ≡ Some (n + 1, x)
  pub last : x + 1 ≤ 256

-- behind the closing bracket
close : (o c : Symbol) → Brackets o c → (n : ℕ) (s r : ℕ × ℕ) → s.0 ≡ n + 1 → scan s.0 s.1 (sym c ∷ []) ≡ Some r → (s.1 + 1 ≤ 256) × (r ≡ (n, stretch_after s.1 (sym c)))
close o c b n s r same e =
    let t = scan_step (sym c) [] s.0 s.1 r e in
    let depth : depth_after s.0 (sym c) ≡ n = omega (arith, b.closes s.0, same) in
    let is : r ≡ (depth_after s.0 (sym c), stretch_after s.1 (sym c)) = only t.2 in
    (t.1, is ∙ ap (λ z. (z, stretch_after s.1 (sym c))) depth)
  where
    only : {x y : ℕ × ℕ} → Some x ≡ Some y → y ≡ x
    only e = cc

pub inside : (o c : Symbol) → Brackets o c → (a : Kinds) → Closed a → (n m : ℕ) (r : ℕ × ℕ) → scan n m (between o a c) ≡ Some r → (x : ℕ) × Inside o a c n m x × (r ≡ (n, stretch_after x (sym c)))
inside o c b a h n m r e =
    let p = scan_step (sym o) (a ++ sym c ∷ []) n m r e in
    let q = subst (λ z. scan z (stretch_after m (sym o)) (a ++ sym c ∷ []) ≡ Some r) (b.opens n) p.2 in
    let s = scan_split a (sym c ∷ []) (n + 1) (stretch_after m (sym o)) r q in
    let same = h.same_depth (n + 1) (stretch_after m (sym o)) s.0 s.1 in
    let t = close o c b n s.0 r same s.2 in
    (s.0.1, record { deep = omega (arith, p.0, b.opens n); room = p.1; inner = inner s.0 s.1 same; last = t.0 }, t.1)
  where
    inner : (s : ℕ × ℕ) → scan (n + 1) (stretch_after m (sym o)) a ≡ Some s → s.0 ≡ n + 1 → scan (n + 1) (stretch_after m (sym o)) a ≡ Some (n + 1, s.1)
    inner s e same = e ∙ ap (λ z. Some (z, s.1)) same

around : (o c : Symbol) → Brackets o c → (a : Kinds) (n m x : ℕ) → Inside o a c n m x → scan n m (between o a c) ≡ Some (n, stretch_after x (sym c))
around o c b a n m x i =
    let back : depth_after (n + 1) (sym c) ≡ n = b.closes (n + 1) ∙ omega arith in
    let t = scan_cons (sym c) [] (n + 1) x (n, stretch_after x (sym c)) (omega (arith, back, i.deep)) i.last (ap (λ z. Some (z, stretch_after x (sym c))) back) in
    let s = scan_join a (sym c ∷ []) (n + 1) (stretch_after m (sym o)) (n + 1, x) (n, stretch_after x (sym c)) i.inner t in
    scan_cons (sym o) (a ++ sym c ∷ []) n m (n, stretch_after x (sym c)) (omega (arith, b.opens n, i.deep)) i.room
    (subst (λ z. scan z (stretch_after m (sym o)) (a ++ sym c ∷ []) ≡ Some (n, stretch_after x (sym c))) (flip (b.opens n)) s)

closed_between : (o c : Symbol) → Brackets o c → (a : Kinds) → Closed a → Closed (between o a c)
closed_between o c b a h = record { same_depth = same; shallower = less }
  where
    same : (n m : ℕ) (r : ℕ × ℕ) → scan n m (between o a c) ≡ Some r → r.0 ≡ n
    same n m r e = ap (λ z. z.0) (inside o c b a h n m r e).2

    less : (n m : ℕ) (r : ℕ × ℕ) → scan (n + 1) m (between o a c) ≡ Some r → scan n m (between o a c) ≡ Some (n, r.1)
    less n m r e =
        let p = inside o c b a h (n + 1) m r e in
        let i = p.1 in
        let inner = h.shallower (n + 1) (stretch_after m (sym o)) (n + 1 + 1, p.0) i.inner in
        around o c b a n m p.0 (record { deep = omega (arith, i.deep); room = i.room; inner = inner; last = i.last }) ∙ ap (λ z. Some (n, z.1)) (flip p.2)

pub closed_round : (a : Kinds) → Closed a → Closed (between S.OpenRound a S.CloseRound)
closed_round a h = closed_between S.OpenRound S.CloseRound round a h

pub closed_square : (a : Kinds) → Closed a → Closed (between S.OpenSquare a S.CloseSquare)
closed_square a h = closed_between S.OpenSquare S.CloseSquare square a h

pub closed_brace : (a : Kinds) → Closed a → Closed (between S.OpenBrace a S.CloseBrace)
closed_brace a h = closed_between S.OpenBrace S.CloseBrace brace a h

pub ended_brace : (a : Kinds) → Ended (a ++ sym S.CloseBrace ∷ [])
ended_brace a n m r e =
    let p = scan_split a (sym S.CloseBrace ∷ []) n m r e in
    let q = scan_step (sym S.CloseBrace) [] p.0.0 p.0.1 r p.2 in
    last q.2
  where
    last : {x : ℕ} {r : ℕ × ℕ} → Some (x, 0) ≡ Some r → r.1 ≡ 0
    last {x = x} {r = r} e = let q : (x, 0) ≡ r = cc in ap (λ z. z.1) (flip q)

-- ---- tokens that are nowhere too deep

not_here : (x y : Bool) (place : ℕ) (o : Option ℕ) → cond (x || y) (Some place) o ≡ None → (x ≡ false) × (y ≡ false) × (o ≡ None)
not_here true y place o e = absurd (cc)
not_here false true place o e = absurd (cc)
not_here false false place o e = (refl, refl, e)

pub shallow : (ts : List Token) (n m : ℕ) → deep_from n m ts ≡ None → (r : ℕ × ℕ) × (scan n m (kinds ts) ≡ Some r)
shallow [] n m h = ((n, m), refl)
shallow (t ∷ ts) n m h =
    let p = not_here (nat_lt 32 (depth_after n t.kind)) (nat_lt 256 (m + 1)) (t.place).0 (deep_from (depth_after n t.kind) (stretch_after m t.kind) ts) h in
    let q = shallow ts (depth_after n t.kind) (stretch_after m t.kind) p.2 in
    (q.0, scan_cons t.kind (kinds ts) n m q.0 (ltb-false 32 (depth_after n t.kind) p.0) (ltb-false 256 (m + 1) p.1) q.1)

pub not_deep : (ts : List Token) (n m : ℕ) (r : ℕ × ℕ) → scan n m (kinds ts) ≡ Some r → deep_from n m ts ≡ None
not_deep [] n m r h = refl
not_deep (t ∷ ts) n m r h =
    let p = scan_step t.kind (kinds ts) n m r h in
    let q = not_deep ts (depth_after n t.kind) (stretch_after m t.kind) r p.2 in
    ap₂ (λ x y. cond (x || y) (Some (t.place).0) (deep_from (depth_after n t.kind) (stretch_after m t.kind) ts)) (le-ltb 32 (depth_after n t.kind) p.0) (le-ltb 256 (m + 1) p.1) ∙ q
