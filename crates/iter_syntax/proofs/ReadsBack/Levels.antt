-- What is whole at a level is so at a looser one, and a printed operator stands between operands of its levels.
use Rattle.std.proofs.Common.{◌≡◌, ℕ, zero, suc, ◌≤◌, Bool, true, false, nat_eq, List, [], ◌∷◌, ◌++◌, Some, None, refl, sym, ap, ◌∙◌, subst, arith, append_assoc, append-nil, eq-eqb, inl, inr}
use Rattle.std.proofs.Math.Nat.{le-suc_iff}
use Rattle.iter_syntax.specs.Names.{Place, BinaryOp, Expr, Token}
use Rattle.iter_syntax.specs.declared.tree.BinaryOp.TheVariants as B
use Rattle.iter_syntax.specs.declared.tree.Expr.TheVariants as E
use Rattle.iter_syntax.specs.Kinds.{is_operator, has_level, kind_operator}
use Rattle.iter_syntax.specs.Operators.{symbol_operator}
use Rattle.iter_syntax.specs.Tree.{Ex, bin}
use Rattle.iter_syntax.specs.Grammar.{Grammar, pair, row}
use Rattle.iter_syntax.specs.Form.{Form}
use Rattle.iter_syntax.specs.Productions as P
use Rattle.iter_syntax.specs.Printed.{Kinds, sym as kind, left_level, right_level, level_of}
use Rattle.iter_syntax.specs.Operators.{level_of_operator, symbol_of_operator}
use Rattle.iter_syntax.proofs.ReadsBack.Forms.{Back, token_back, wider_back}

-- ---- levels

operator_low : (op : BinaryOp) → level_of_operator op ≤ 7
operator_low B.Mul = omega arith
operator_low op = omega arith

-- no expression is looser than level 7
pub level_low : (e : Ex) → level_of e ≤ 7
level_low (bin p op a b) = operator_low op
level_low e = omega arith

-- what is whole at a level is so at the next
next_level : (n : ℕ) (u : Form Expr) {ks : Kinds} {Q : Expr → Type 0} → Back (P.level n u).grammar ks Q → Back (P.level (suc n) u).grammar ks Q
next_level n u {ks = ks} {Q = Q} h = by_case (nat_eq n 4)
  where
    by_case : (b : Bool) → Back (P.row_of b (suc n) (P.level n u)).grammar ks Q
    by_case true = wider_back (λ us y w. ((y, None), (us, [], sym (append-nil us), w, refl), refl)) h
    by_case false = wider_back (λ us y w. ((y, []), (us, [], sym (append-nil us), w, refl), refl)) h

-- and so at each looser one
pub looser : (n m : ℕ) → m ≤ n → (u : Form Expr) {ks : Kinds} {Q : Expr → Type 0} → Back (P.level m u).grammar ks Q → Back (P.level n u).grammar ks Q
looser zero m h u {ks = ks} {Q = Q} b = let e : m ≡ 0 = omega (arith, h) in subst (λ k. Back (P.level k u).grammar ks Q) e b
looser (suc n) m h u {ks = ks} {Q = Q} b = elim (le-suc_iff.0 h) [
  | inl g ↦ next_level n u (looser n m g u b)
  | inr e ↦ subst (λ k. Back (P.level k u).grammar ks Q) e b
]

-- ---- operators

operator_found : (op : BinaryOp) → symbol_operator (symbol_of_operator op) ≡ Some op
operator_found B.Mul = refl
operator_found op = refl

pub operator_back : (op : BinaryOp) → Back (P.operator (level_of_operator op)).grammar (kind (symbol_of_operator op) ∷ []) (λ y. y.1 ≡ op)
operator_back op =
    let n = level_of_operator op in
    token_back (is_operator n) P.to_operator (kind (symbol_of_operator op)) (λ y. y.1 ≡ op) (λ t e. (
      ap (λ k. has_level n (kind_operator k)) e ∙ ap (has_level n) (operator_found op) ∙ eq-eqb n n refl,
      ap (λ k. P.found_operator (kind_operator k)) e ∙ ap P.found_operator (operator_found op),
    ))

-- one more form behind a row of them
row_append : {A : Type 0} (g : Grammar A) (xs : List A) (x : A) (us vs : List Token) → row g xs us → g.whole vs x → row g (xs ++ x ∷ []) (us ++ vs)
row_append g [] x us vs r w = (vs, [], ap (λ l. l ++ vs) r ∙ sym (append-nil vs), w, refl)
row_append g (y ∷ xs) x us vs r w = (r.0, r.1 ++ vs, ap (λ l. l ++ vs) r.2 ∙ append_assoc r.0 r.1 vs, r.3, row_append g xs x r.1 vs r.4 w)

-- what one more operator and operand makes of operands from the left
left_append : (xs : List ((Place × BinaryOp) × Expr)) (x : (Place × BinaryOp) × Expr) (l : Expr) → P.to_left l (xs ++ x ∷ []) ≡ E.Binary x.0.0 x.0.1 (P.to_left l xs) x.1
left_append [] x l = refl
left_append (y ∷ xs) x l = left_append xs x (E.Binary y.0.0 y.0.1 l y.1)

-- one more operator and operand behind a chain
chain_more : (n : ℕ) (f : Form Expr) (ts u v : List Token) (x : Expr) (y : (Place × BinaryOp) × Expr) → ts ≡ u ++ v → (P.chain n f).grammar.whole u x → (pair (P.operator n).grammar f.grammar).whole v y → (P.chain n f).grammar.whole ts (E.Binary y.0.0 y.0.1 x y.1)
chain_more n f ts u v x y e ((l, xs), (a, b, s, first, others), q) w = (
  (l, xs ++ y ∷ []),
  (a, b ++ v, e ∙ ap (λ z. z ++ v) s ∙ append_assoc a b v, first, row_append (pair (P.operator n).grammar f.grammar) xs y b v others w),
  ap (λ z. E.Binary y.0.0 y.0.1 z y.1) q ∙ sym (left_append xs y l),
)

-- one operator and operand behind that of a comparison
comparison_one : (f : Form Expr) (ts u v : List Token) (x : Expr) (y : (Place × BinaryOp) × Expr) → ts ≡ u ++ v → f.grammar.whole u x → (pair (P.operator 5).grammar f.grammar).whole v y → (P.comparison f).grammar.whole ts (E.Binary y.0.0 y.0.1 x y.1)
comparison_one f ts u v x y e w z = ((x, Some y), (u, v, e, w, z), refl)

-- an operator stands between operands of the levels that may stand beside it
pub operator_joins : (op : BinaryOp) (f : Form Expr) (ts u v : List Token) (x : Expr) (y : (Place × BinaryOp) × Expr) → ts ≡ u ++ v → (P.level (left_level (level_of_operator op)) f).grammar.whole u x → (pair (P.operator (level_of_operator op)).grammar (P.level (right_level (level_of_operator op)) f).grammar).whole v y → (P.level (level_of_operator op) f).grammar.whole ts (E.Binary y.0.0 y.0.1 x y.1)
operator_joins B.Eq f = comparison_one (P.level 4 f)
operator_joins B.Ne f = comparison_one (P.level 4 f)
operator_joins B.Lt f = comparison_one (P.level 4 f)
operator_joins B.Le f = comparison_one (P.level 4 f)
operator_joins B.Gt f = comparison_one (P.level 4 f)
operator_joins B.Ge f = comparison_one (P.level 4 f)
operator_joins op f = chain_more (level_of_operator op) (P.level (right_level (level_of_operator op)) f)
