-- Each production is exact: its parser answers by its grammar.
use Rattle.std.proofs.Common.{◌≡◌, ℕ, zero, suc, ◌-◌, ◌<◌, ◌≤◌, Bool, true, false, ◌||◌, nat_eq, refl, sym, ap, ◌∙◌, subst, arith, Option, Some, None}
use Rattle.iter_syntax.specs.Names.{BinaryOp, Expr, Token, Keyword, Symbol}
use Rattle.iter_syntax.specs.declared.tree.Expr.TheVariants as E
use Rattle.iter_syntax.specs.declared.token.Keyword.TheVariants as W
use Rattle.iter_syntax.specs.declared.token.Symbol.TheVariants as S
use Rattle.iter_syntax.specs.Kinds.{is_symbol, is_operator, has_level, kind_operator}
use Rattle.iter_syntax.specs.Form.{Form, both, none}
use Rattle.iter_syntax.specs.Productions as P
use Rattle.iter_syntax.specs.Steps.Sets
use Rattle.iter_syntax.proofs.EachKind.{apart, part}
use Rattle.iter_syntax.proofs.Grammar.ExactForm.{IsExact, one_ok, both_ok, gives_ok, any_ok, maybe_ok, or_ok, framed_ok, none_ok}

-- ---- one token

pub symbol_ok : (s : Symbol) → IsExact (P.symbol s)
symbol_ok s = gives_ok P.place_of _ (one_ok _)

pub keyword_ok : (k : Keyword) → IsExact (P.keyword k)
keyword_ok k = gives_ok P.place_of _ (one_ok _)

pub word_ok : IsExact P.word
word_ok = gives_ok P.to_word _ (one_ok _)

pub number_ok : IsExact P.number
number_ok = gives_ok P.to_number _ (one_ok _)

pub operator_ok : (n : ℕ) → IsExact (P.operator n)
operator_ok n = gives_ok P.to_operator _ (one_ok _)

-- after a form with which no token goes on, anything may follow
pub after : {A B : Type 0} (a : Form A) (b : Form B) → ((t : Token) → a.more t ≡ false) → IsExact a → IsExact b → IsExact (both a b)
after a b closed ra rb = both_ok a b ra rb (λ t h. closed t)

-- ---- the levels

abbrev some_level : Option BinaryOp → Bool
some_level (Some x) = true
some_level None = false

abbrev an_operator : Token → Bool
an_operator t = some_level (kind_operator t.kind)

has_one : (n : ℕ) (x : Option BinaryOp) → has_level n x ≡ true → some_level x ≡ true
has_one n (Some x) h = refl
has_one n None h = h

operator_off : (t : Token) → an_operator t ≡ true → Sets.goes_on t ≡ false
operator_off = apart an_operator Sets.goes_on (λ p. ((λ w. refl), (λ n. refl), refl, refl))

one_level : (m n : ℕ) (x : Option BinaryOp) → n < m → has_level m x ≡ true → has_level n x ≡ false
one_level m n (Some x) lt h = grind arith
one_level m n None lt h = refl

below : (m n : ℕ) (t : Token) → n < m → is_operator m t ≡ true → Sets.operator_up_to n t ≡ false
below m zero t lt h = refl
below m (suc n) t lt h =
    let e1 = one_level m (suc n) (kind_operator t.kind) lt h in
    let e2 = below m n t (omega arith) h in
    grind arith

level_solid : (n : ℕ) (u : Form Expr) → u.empty ≡ false → (P.level n u).empty ≡ false
level_solid zero u h = h
level_solid (suc n) u h = by_case (nat_eq n 4) (level_solid n u h)
  where
    by_case : (b : Bool) → (P.level n u).empty ≡ false → (P.row_of b (suc n) (P.level n u)).empty ≡ false
    by_case true e = rw e
    by_case false e = rw e

level_first : (n : ℕ) (u : Form Expr) → u.empty ≡ false → (t : Token) → (P.level n u).first t ≡ true → u.first t ≡ true
level_first zero u h t f = f
level_first (suc n) u h t f = level_first n u h t (by_case (nat_eq n 4) (level_solid n u h) f)
  where
    by_case : (b : Bool) → (P.level n u).empty ≡ false → (P.row_of b (suc n) (P.level n u)).first t ≡ true → (P.level n u).first t ≡ true
    by_case true e f = grind arith
    by_case false e f = grind arith

join : (a b c d : Bool) → (d ≡ true → (b || c) ≡ true) → ((a || d) || (a || d)) ≡ true → ((a || b) || c) ≡ true
join true b c d f h = refl
join false b c true f h = f refl
join false b c false f h = absurd (cc)

level_more : (n : ℕ) (u : Form Expr) → u.empty ≡ false → (t : Token) → (P.level n u).more t ≡ true → (Sets.operator_up_to n t || u.more t) ≡ true
level_more zero u h t f = f
level_more (suc n) u h t f = by_case (nat_eq n 4) refl (level_solid n u h) (level_more n u h t) f
  where
    by_case : (b : Bool) → nat_eq n 4 ≡ b → (P.level n u).empty ≡ false → ((P.level n u).more t ≡ true → (Sets.operator_up_to n t || u.more t) ≡ true) → (P.row_of b (suc n) (P.level n u)).more t ≡ true → (Sets.operator_up_to (suc n) t || u.more t) ≡ true
    by_case true is e ih f =
        let q : n ≡ 4 = grind arith in
        let five : is_operator (suc n) t ≡ is_operator 5 t = ap (λ k. is_operator (suc k) t) q in
        let g = rw e at f in
        ap (λ b. (b || Sets.operator_up_to n t) || u.more t) five ∙ join (is_operator 5 t) (Sets.operator_up_to n t) (u.more t) ((P.level n u).more t) ih g
    by_case false is e ih f =
        let g = rw e at f in
        join (is_operator (suc n) t) (Sets.operator_up_to n t) (u.more t) ((P.level n u).more t) ih g

-- an operator of a level above does not go on with an operand
operand_off : (n : ℕ) (u : Form Expr) → u.empty ≡ false → ((t : Token) → u.more t ≡ true → Sets.goes_on t ≡ true) → (t : Token) → is_operator (suc n) t ≡ true → (P.level n u).more t ≡ false
operand_off n u h m t is = by_more ((P.level n u).more t) refl
  where
    by_more : (b : Bool) → (P.level n u).more t ≡ b → (P.level n u).more t ≡ false
    by_more false e = e
    by_more true e =
        let o = below (suc n) n t (omega arith) is in
        let g = operator_off t (has_one (suc n) (kind_operator t.kind) is) in
        absurd (rest (Sets.operator_up_to n t) (u.more t) (Sets.goes_on t) o g (m t) (level_more n u h t e))
      where
        rest : (o a g : Bool) → o ≡ false → g ≡ false → (a ≡ true → g ≡ true) → (o || a) ≡ true → ⊥
        rest true a g e1 e2 f h = cc
        rest false true g e1 e2 f h = let q : false ≡ true = sym e2 ∙ f refl in cc
        rest false false g e1 e2 f h = cc

chain_ok : (n : ℕ) (a : Form Expr) → a.empty ≡ false → IsExact a → ((t : Token) → is_operator n t ≡ true → a.more t ≡ false) → IsExact (P.chain n a)
chain_ok n a h ra off = gives_ok P.grouped _ (both_ok _ _ ra (any_ok _ refl (after _ _ (λ t. refl) (operator_ok n) ra) (step h off)) off)
  where
    step : a.empty ≡ false → ((t : Token) → is_operator n t ≡ true → a.more t ≡ false) → (t : Token) → is_operator n t ≡ true → (both (P.operator n) a).more t ≡ false
    step h off t is = let q = off t is in rw h q

comparison_ok : (a : Form Expr) → a.empty ≡ false → IsExact a → ((t : Token) → is_operator 5 t ≡ true → a.more t ≡ false) → IsExact (P.comparison a)
comparison_ok a h ra off = gives_ok P.compared _ (both_ok _ _ ra (maybe_ok _ refl (after _ _ (λ t. refl) (operator_ok 5) ra)) off)

level_ok : (n : ℕ) (u : Form Expr) → u.empty ≡ false → ((t : Token) → u.more t ≡ true → Sets.goes_on t ≡ true) → IsExact u → IsExact (P.level n u)
level_ok zero u h m ru = ru
level_ok (suc n) u h m ru = by_case (nat_eq n 4) refl (level_ok n u h m ru)
  where
    by_case : (b : Bool) → nat_eq n 4 ≡ b → IsExact (P.level n u) → IsExact (P.row_of b (suc n) (P.level n u))
    by_case true is ra =
        let q : n ≡ 4 = grind arith in
        comparison_ok (P.level n u) (level_solid n u h) ra (λ t o. operand_off n u h m t (ap (λ k. is_operator (suc k) t) q ∙ o))
    by_case false is ra = chain_ok (suc n) (P.level n u) (level_solid n u h) ra (operand_off n u h m)

-- ---- unary expressions and what stands in them

pub expr_ok : (n : ℕ) → IsExact (P.unary n) → IsExact (P.expr n)
expr_ok n ru =
    framed_ok Sets.begins_expr Sets.follows_expr (P.level 7 (P.unary n)) (level_solid 7 (P.unary n) refl) (λ t h. level_first 7 (P.unary n) refl t h) (λ t h. level_more 7 (P.unary n) refl t h)
    (level_ok 7 (P.unary n) refl (λ t h. h) ru)

-- ---- brackets, which hold a form that does not go on with the closing one

pub brackets_ok : {A : Type 0} (o : Symbol) (a : Form A) (c : Symbol) → IsExact a → ((t : Token) → is_symbol c t ≡ true → a.more t ≡ false) → IsExact (P.brackets o a c)
brackets_ok o a c ra off = gives_ok P.inner _ (after _ _ (λ t. refl) (symbol_ok o) (both_ok _ _ ra (symbol_ok c) off))

module _ (n : ℕ) (re : IsExact (P.expr n)) where
  pub use_ok : IsExact (P.field_use n)
  use_ok = gives_ok P.to_use _ (after _ _ (λ t. refl) word_ok (maybe_ok _ refl (brackets_ok S.OpenSquare (P.expr n) S.CloseSquare re (apart _ _ (λ p. ((λ w. refl), (λ n. refl), refl, refl))))))

  cur_ok : IsExact (P.cur_over (P.expr n))
  cur_ok = gives_ok P.to_cur _ (after _ _ (λ t. refl) (keyword_ok W.Cur) (maybe_ok _ refl (after _ _ (λ t. refl) (symbol_ok S.Dot) use_ok)))

  pad_ok : IsExact (P.pad_over (P.expr n))
  pad_ok = gives_ok P.to_pad _ (after _ _ (λ t. refl) (keyword_ok W.Pad) (after _ _ (λ t. refl) (symbol_ok S.Dot) use_ok))

  at_ok : IsExact (P.at_over (P.expr n))
  at_ok =
      gives_ok P.to_at _
      (after _ _ (λ t. refl) (keyword_ok W.At) (after _ _ (λ t. refl) (symbol_ok S.OpenRound)
      (both_ok _ _ re (after _ _ (λ t. refl) (symbol_ok S.Comma)
      (both_ok _ _ re (symbol_ok S.CloseRound) (apart _ _ (λ p. ((λ w. refl), (λ n. refl), refl, refl)))))
      (apart _ _ (λ p. ((λ w. refl), (λ n. refl), refl, refl))))))

  round_ok : IsExact (P.brackets S.OpenRound (P.expr n) S.CloseRound)
  round_ok = brackets_ok S.OpenRound (P.expr n) S.CloseRound re (apart _ _ (λ p. ((λ w. refl), (λ n. refl), refl, refl)))

  atom_ok : IsExact (P.atom_over (P.expr n))
  atom_ok =
      or_ok _ _ refl refl (gives_ok P.to_num _ number_ok)
      (or_ok _ _ refl refl (gives_ok E.Null _ (keyword_ok W.Null))
      (or_ok _ _ refl refl (gives_ok E.Name _ word_ok)
      (or_ok _ _ refl refl cur_ok
      (or_ok _ _ refl refl pad_ok
      (or_ok _ _ refl refl at_ok round_ok
      (apart _ _ (λ p. ((λ w. refl), (λ n. refl), refl, refl))))
      (apart _ _ (λ p. ((λ w. refl), (λ n. refl), refl, refl))))
      (apart _ _ (λ p. ((λ w. refl), (λ n. refl), refl, refl))))
      (apart _ _ (λ p. ((λ w. refl), (λ n. refl), refl, refl))))
      (apart _ _ (λ p. ((λ w. refl), (λ n. refl), refl, refl))))
      (apart _ _ (λ p. ((λ w. refl), (λ n. refl), refl, refl)))

  pub unary_over_ok : IsExact (P.unary n) → IsExact (P.unary_over (P.unary n))
  unary_over_ok ru =
      or_ok _ _ refl refl (gives_ok P.to_not _ (after _ _ (λ t. refl) (symbol_ok S.Bang) ru))
      (or_ok _ _ refl refl (gives_ok P.to_flip _ (after _ _ (λ t. refl) (symbol_ok S.Tilde) ru)) atom_ok
      (apart _ _ (λ p. ((λ w. refl), (λ n. refl), refl, refl))))
      (apart _ _ (λ p. ((λ w. refl), (λ n. refl), refl, refl)))

pub unary_ok : (n : ℕ) → IsExact (P.unary n)
unary_ok zero = framed_ok Sets.begins_expr Sets.goes_on (none Sets.begins_expr Sets.goes_on) refl (λ t h. h) (λ t h. h) (none_ok _ _ _)
unary_ok (suc n) =
    let ru = unary_ok n in
    framed_ok Sets.begins_expr Sets.goes_on (P.unary_over (P.unary n)) refl (part _ _ (λ p. ((λ w. refl), (λ n. refl), refl, refl))) (part _ _ (λ p. ((λ w. refl), (λ n. refl), refl, refl)))
    (unary_over_ok n (expr_ok n ru) ru)

-- an operator and its operand, as they stand in a chain
pub item_off : (n d : ℕ) → 1 ≤ n → (t : Token) → is_operator n t ≡ true → (both (P.operator n) (P.level (n - 1) (P.unary d))).more t ≡ false
item_off zero d some t is = absurd (omega arith)
item_off (suc m) d some t is =
    let e : suc m - 1 ≡ m = omega arith in
    subst (λ k. (both (P.operator (suc m)) (P.level k (P.unary d))).more t ≡ false) (sym e) (
    let q = operand_off m (P.unary d) refl (λ t h. h) t is in
    rw (level_solid m (P.unary d) refl) q)

pub item_ok : (n d : ℕ) → 1 ≤ n → IsExact (both (P.operator n) (P.level (n - 1) (P.unary d)))
item_ok n d some = after _ _ (λ t. refl) (operator_ok n) (level_ok (n - 1) (P.unary d) refl (λ t h. h) (unary_ok d))
