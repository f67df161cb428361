-- What tokens are a whole expression of a level of is printed as these tokens without some parentheses: operators and parentheses.
use Rattle.std.proofs.Common.{◌≡◌, ℕ, zero, suc, ◌≤◌, Bool, true, false, cond, nat_eq, nat_lt, List, [], ◌∷◌, ◌++◌, Option, Some, None, append_assoc, append-nil, le_trans, le_refl, refl, sym, ap, ◌∙◌, subst, arith}
use Rattle.iter_syntax.specs.Names.{Token, Place, BinaryOp, Expr}
use Rattle.iter_syntax.specs.declared.token.Symbol.TheVariants as S
use Rattle.iter_syntax.specs.declared.tree.Expr.TheVariants as E
use Rattle.iter_syntax.specs.Tree.{ex}
use Rattle.iter_syntax.specs.Grammar.{Grammar, pair, row, many, optional, whole_or_nothing}
use Rattle.iter_syntax.specs.Form.{Form}
use Rattle.iter_syntax.specs.Productions as P
use Rattle.iter_syntax.specs.Printed.{Kinds, sym as kind, between, left_level, right_level, level_of, in_parentheses, expr_kinds}
use Rattle.iter_syntax.specs.Operators.{level_of_operator, symbol_of_operator}
use Rattle.iter_syntax.proofs.TokenKinds.{kinds}
use Rattle.iter_syntax.proofs.Trims.{Trims, trims_join, trims_bare}
use Rattle.iter_syntax.proofs.Trims.Scan.{Closed, closed_join, closed_round}
use Rattle.iter_syntax.proofs.ExprLaws.{ex_binary}
use Rattle.iter_syntax.proofs.ReadsBack.Levels.{level_low}
use Rattle.iter_syntax.proofs.KindTests.{operator_kind}
use Rattle.iter_syntax.proofs.Trims.Pieces.{Prints, AllPrint, kinds_of, prints_operator, between_kinds, before_last, prints_between}

-- an expression at a level, printed where at least that level may stand
pub record TrimsExpr (level : ℕ) (ts : List Token) (x : Expr) : Type 0 where
  pub closed : Closed (kinds ts)
  pub trims : (loosest : ℕ) → level ≤ loosest → Trims (in_parentheses loosest (level_of (ex x)) (expr_kinds (ex x))) (kinds ts)

-- so is each whole form
pub record AllTrim (level : ℕ) (g : Grammar Expr) : Type 0 where
  pub all : (ts : List Token) (x : Expr) → g.whole ts x → TrimsExpr level ts x

-- ---- parentheses

not_looser : (m n : ℕ) → n ≤ m → nat_lt m n ≡ false
not_looser m n h = grind arith

-- none around what may stand there
pub bare : (loosest l : ℕ) (ks : Kinds) → l ≤ loosest → in_parentheses loosest l ks ≡ ks
bare loosest l ks h = ap (λ b. cond b (between S.OpenRound ks S.CloseRound) ks) (not_looser loosest l h)

trims_alone : (ts : List Token) (x : Expr) → TrimsExpr 7 ts x → Prints (expr_kinds (ex x)) (kinds ts)
trims_alone ts x h =
    record { closed = h.closed; trims = subst (λ l. Trims l (kinds ts)) (bare 7 (level_of (ex x)) (expr_kinds (ex x)) (level_low (ex x))) (h.trims 7 (le_refl 7)) }

-- an expression that stands alone
pub prints_expr : (g : Grammar Expr) → AllTrim 7 g → AllPrint g (λ x. expr_kinds (ex x))
prints_expr g h = record { all = λ ts x w. trims_alone ts x (h.all ts x w) }

-- parentheses where the tokens have them
in_round : (b : Bool) (us ts : Kinds) → Prints us ts → Trims (cond b (between S.OpenRound us S.CloseRound) us) (between S.OpenRound ts S.CloseRound)
in_round true us ts h = (prints_between S.OpenRound S.CloseRound us ts closed_round h).trims
in_round false us ts h = trims_bare us ts h.closed h.trims

pub round_trims : (e : Form Expr) → AllTrim 7 e.grammar → AllTrim 0 (P.brackets S.OpenRound e S.CloseRound).grammar
round_trims e h = record { all = λ ts x w. one ts x w.0 w.1 w.2 }
  where
    one : (ts : List Token) (x : Expr) (y : Place × (Expr × Place)) → (pair (P.symbol S.OpenRound).grammar (pair e.grammar (P.symbol S.CloseRound).grammar)).whole ts y → x ≡ P.inner y → TrimsExpr 0 ts x
    one ts x y w e2 =
        let s = between_kinds S.OpenRound S.CloseRound _ _ (before_last S.CloseRound e.grammar (λ z. expr_kinds (ex z)) (prints_expr e.grammar h)) ts y w in
        subst (TrimsExpr 0 ts) (sym e2) (record {
          closed = subst Closed (sym s.1) (closed_round s.0 s.2.closed);
          trims = λ loosest lt. subst (Trims (in_parentheses loosest (level_of (ex y.1.0)) (expr_kinds (ex y.1.0)))) (sym s.1) (in_round (nat_lt loosest (level_of (ex y.1.0))) _ s.0 s.2);
        })

-- ---- operators

-- the same of kinds
record Shown (level : ℕ) (ks : Kinds) (x : Expr) : Type 0 where
  closed : Closed ks
  trims : (loosest : ℕ) → level ≤ loosest → Trims (in_parentheses loosest (level_of (ex x)) (expr_kinds (ex x))) ks

shown : (level : ℕ) (ts : List Token) (x : Expr) → TrimsExpr level ts x → Shown level (kinds ts) x
shown level ts x h = record { closed = h.closed; trims = h.trims }

of_tokens : (level : ℕ) (ts : List Token) (ks : Kinds) (x : Expr) → kinds ts ≡ ks → Shown level ks x → TrimsExpr level ts x
of_tokens level ts ks x e h = record { closed = subst Closed (sym e) h.closed; trims = λ loosest lt. subst (Trims _) (sym e) (h.trims loosest lt) }

looser : (m n : ℕ) (ks : Kinds) (x : Expr) → m ≤ n → Shown m ks x → Shown n ks x
looser m n ks x le h = record { closed = h.closed; trims = λ loosest lt. h.trims loosest (le_trans le lt) }

-- an operator between two operands, the left of which stands at a level m
binary_shown : (n m : ℕ) (p : Place) (op : BinaryOp) (a b : Expr) (us os vs : Kinds) → level_of_operator op ≡ suc n → m ≤ left_level (level_of_operator op)
    → Shown m us a → Prints (kind (symbol_of_operator op) ∷ []) os → Shown n vs b → Shown (suc n) (us ++ (os ++ vs)) (E.Binary p op a b)
binary_shown n m p op a b us os vs e fits ha ho hb = record {
  closed = closed_join us (os ++ vs) ha.closed (closed_join os vs ho.closed hb.closed);
  trims = λ loosest lt. subst (λ l. Trims l (us ++ (os ++ vs))) (sym (same loosest lt)) parts;
}
  where
    at_left : Kinds
    at_left = in_parentheses (left_level (level_of_operator op)) (level_of (ex a)) (expr_kinds (ex a))

    at_right : Kinds
    at_right = in_parentheses (right_level (level_of_operator op)) (level_of (ex b)) (expr_kinds (ex b))

    parts : Trims (at_left ++ kind (symbol_of_operator op) ∷ at_right) (us ++ (os ++ vs))
    parts =
        trims_join at_left us (kind (symbol_of_operator op) ∷ at_right) (os ++ vs) (ha.trims _ fits)
        (trims_join (kind (symbol_of_operator op) ∷ []) os at_right vs ho.trims (hb.trims _ (omega (arith, e))))

    same : (loosest : ℕ) → suc n ≤ loosest → in_parentheses loosest (level_of (ex (E.Binary p op a b))) (expr_kinds (ex (E.Binary p op a b))) ≡ at_left ++ kind (symbol_of_operator op) ∷ at_right
    same loosest lt =
        ap (λ y. in_parentheses loosest (level_of y) (expr_kinds y)) (ex_binary p op a b)
        ∙ bare loosest (level_of_operator op) (at_left ++ kind (symbol_of_operator op) ∷ at_right) (omega (arith, e, lt))

operator_level : (n : ℕ) (ts : List Token) (x : Place × BinaryOp) → (P.operator n).grammar.whole ts x → level_of_operator x.1 ≡ n
operator_level n ts x (t, (e, h), p) = ap (λ y. level_of_operator y.1) p ∙ (operator_kind n t.kind h).1

-- an operator and an operand behind one of a level m
next_shown : (n m : ℕ) (f : Form Expr) (left : Expr) (us : Kinds) (v : List Token) (x : (Place × BinaryOp) × Expr) → AllTrim n f.grammar → m ≤ left_level (suc n)
    → Shown m us left → (pair (P.operator (suc n)).grammar f.grammar).whole v x → Shown (suc n) (us ++ kinds v) (E.Binary x.0.0 x.0.1 left x.1)
next_shown n m f left us v x h fits l (o, r, e, ow, rw) =
    let level = operator_level (suc n) o x.0 ow in
    subst (λ k. Shown (suc n) (us ++ k) (E.Binary x.0.0 x.0.1 left x.1)) (sym (kinds_of v o r e))
    (binary_shown n m x.0.0 x.0.1 left x.1 us (kinds o) (kinds r) level (subst (λ k. m ≤ left_level k) (sym level) fits) l
    ((prints_operator (suc n)).all o x.0 ow) (shown n r x.1 (h.all r x.1 rw)))

rows_shown : (n : ℕ) (f : Form Expr) → AllTrim n f.grammar → suc n ≤ left_level (suc n) → (xs : List ((Place × BinaryOp) × Expr)) (left : Expr) (us : Kinds) (v : List Token)
    → Shown (suc n) us left → row (pair (P.operator (suc n)).grammar f.grammar) xs v → Shown (suc n) (us ++ kinds v) (P.to_left left xs)
rows_shown n f h fits [] left us v l e = subst (λ k. Shown (suc n) k left) (sym (ap (λ w. us ++ kinds w) e ∙ append-nil us)) l
rows_shown n f h fits (x ∷ xs) left us v l (u, w, e, z, rest) =
    subst (λ k. Shown (suc n) k (P.to_left (E.Binary x.0.0 x.0.1 left x.1) xs)) (append_assoc us (kinds u) (kinds w) ∙ ap (λ k. us ++ k) (sym (kinds_of v u w e)))
    (rows_shown n f h fits xs (E.Binary x.0.0 x.0.1 left x.1) (us ++ kinds u) w (next_shown n (suc n) f left us u x h fits l z) rest)

chain_trims : (n : ℕ) (f : Form Expr) → suc n ≤ left_level (suc n) → AllTrim n f.grammar → AllTrim (suc n) (P.chain (suc n) f).grammar
chain_trims n f fits h = record { all = λ ts y w. subst (TrimsExpr (suc n) ts) (sym w.2) (one ts w.0 w.1) }
  where
    one : (ts : List Token) (x : Expr × List ((Place × BinaryOp) × Expr)) → (pair f.grammar (many (pair (P.operator (suc n)).grammar f.grammar))).whole ts x → TrimsExpr (suc n) ts (P.grouped x)
    one ts x (u, v, e, w, z) =
        of_tokens (suc n) ts (kinds u ++ kinds v) (P.grouped x) (kinds_of ts u v e)
        (rows_shown n f h fits x.1 x.0 (kinds u) v (looser n (suc n) (kinds u) x.0 (omega arith) (shown n u x.0 (h.all u x.0 w))) z)

comparison_trims : (f : Form Expr) → AllTrim 4 f.grammar → AllTrim 5 (P.comparison f).grammar
comparison_trims f h = record { all = λ ts y w. subst (TrimsExpr 5 ts) (sym w.2) (one ts w.0.0 w.0.1 w.1) }
  where
    tail : (x : Expr) (o : Option ((Place × BinaryOp) × Expr)) (u v : List Token) → Shown 4 (kinds u) x → whole_or_nothing (pair (P.operator 5).grammar f.grammar) v o → Shown 5 (kinds u ++ kinds v) (P.compared (x, o))
    tail x None u v l e = subst (λ k. Shown 5 k x) (sym (ap (λ w. kinds u ++ kinds w) e ∙ append-nil (kinds u))) (looser 4 5 (kinds u) x (omega arith) l)
    tail x (Some y) u v l z = next_shown 4 4 f x (kinds u) v y h (le_refl 4) l z

    one : (ts : List Token) (x : Expr) (o : Option ((Place × BinaryOp) × Expr)) → (pair f.grammar (optional (pair (P.operator 5).grammar f.grammar))).whole ts (x, o) → TrimsExpr 5 ts (P.compared (x, o))
    one ts x o (u, v, e, w, z) = of_tokens 5 ts (kinds u ++ kinds v) (P.compared (x, o)) (kinds_of ts u v e) (tail x o u v (shown 4 u x (h.all u x w)) z)

to_the_left : (n : ℕ) → nat_eq n 4 ≡ false → suc n ≤ left_level (suc n)
to_the_left n e = grind arith

level_four : (n : ℕ) → nat_eq n 4 ≡ true → 4 ≡ n
level_four n e = grind arith

row_trims : (b : Bool) (n : ℕ) (f : Form Expr) → nat_eq n 4 ≡ b → AllTrim n f.grammar → AllTrim (suc n) (P.row_of b (suc n) f).grammar
row_trims true n f e h = subst (λ m. AllTrim (suc m) (P.comparison f).grammar) (level_four n e) (comparison_trims f (subst (λ m. AllTrim m f.grammar) (sym (level_four n e)) h))
row_trims false n f e h = chain_trims n f (to_the_left n e) h

pub level_trims : (n : ℕ) (u : Form Expr) → AllTrim 0 u.grammar → AllTrim n (P.level n u).grammar
level_trims zero u h = h
level_trims (suc n) u h = row_trims (nat_eq n 4) n (P.level n u) refl (level_trims n u h)
