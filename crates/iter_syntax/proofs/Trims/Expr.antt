-- The printed tokens of what tokens are a whole expression of are these tokens without some parentheses.
use Rattle.std.proofs.Common.{◌≡◌, ℕ, zero, suc, List, ◌∷◌, Option, Some, None, option_map, refl, sym, ap, ◌∙◌, subst, inl, inr, arith}
use Rattle.iter_syntax.specs.Names.{Token, Place, Word, FieldUse, Expr}
use Rattle.iter_syntax.specs.declared.token.Keyword.TheVariants as W
use Rattle.iter_syntax.specs.declared.token.Symbol.TheVariants as S
use Rattle.iter_syntax.specs.declared.tree.Expr.TheVariants as E
use Rattle.iter_syntax.specs.Tree.{Ex, cur_use, pad_use, ex, used}
use Rattle.iter_syntax.specs.Grammar.{Grammar, pair, value, either}
use Rattle.iter_syntax.specs.Form.{Form}
use Rattle.iter_syntax.specs.Productions as P
use Rattle.iter_syntax.specs.Printed.{Kinds, key, sym as kind, word, between, level_of, in_parentheses, expr_kinds}
use Rattle.iter_syntax.specs.Steps.Printing.{or_none, use_kinds}
use Rattle.iter_syntax.proofs.TokenKinds.{kinds}
use Rattle.iter_syntax.proofs.Trims.{Trims}
use Rattle.iter_syntax.proofs.Trims.Scan.{closed_round, closed_square}
use Rattle.iter_syntax.proofs.ExprLaws.{ex_num, ex_null, ex_name, ex_cur, ex_cur_field, ex_pad_field, ex_not, ex_flip, ex_at, used_is}
use Rattle.iter_syntax.proofs.Trims.Pieces.{Prints, AllPrint, prints_pair, prints_value, prints_optional, prints_keyword, prints_symbol, prints_word, prints_number, before_last, before_pair, prints_enclosed, prints_brackets}
use Rattle.iter_syntax.proofs.Trims.Level.{AllTrim, bare, prints_expr, round_trims, level_trims}
pub use Rattle.iter_syntax.proofs.Trims.Level.{TrimsExpr}

-- ---- atoms

alone : (ts : List Token) (x : Expr) → level_of (ex x) ≡ 0 → Prints (expr_kinds (ex x)) (kinds ts) → TrimsExpr 0 ts x
alone ts x e h =
    record { closed = h.closed; trims = λ loosest lt. subst (λ l. Trims l (kinds ts)) (sym (bare loosest (level_of (ex x)) (expr_kinds (ex x)) (omega (arith, e)))) h.trims }

-- forms of level 0 that are printed as they stand
atom : {A : Type 0} (f : A → Expr) (a : Grammar A) (g : A → Kinds) → ((x : A) → level_of (ex (f x)) ≡ 0) → ((x : A) → expr_kinds (ex (f x)) ≡ g x) → AllPrint a g → AllTrim 0 (value f a)
atom f a g low same h = record {
  all = λ ts x w. alone ts x (ap (λ y. level_of (ex y)) w.2 ∙ low w.0) ((prints_value f a g (λ y. expr_kinds (ex y)) same h).all ts x w);
}

-- the use of a field

mapped : (i : Option Expr) → or_none (λ e. between S.OpenSquare (expr_kinds e) S.CloseSquare) (option_map ex i) ≡ or_none (λ e. between S.OpenSquare (expr_kinds (ex e)) S.CloseSquare) i
mapped None = refl
mapped (Some e) = refl

pub prints_use : (e : Form Expr) → AllPrint e.grammar (λ x. expr_kinds (ex x)) → AllPrint (P.use_over e).grammar (λ u. use_kinds (used u))
prints_use e h =
    prints_value P.to_use _ _ _ (λ x. ap use_kinds (used_is x.0 x.1) ∙ ap (λ l. word x.0 ∷ l) (mapped x.1))
    (prints_pair _ _ _ _ prints_word (prints_optional _ _ (prints_brackets S.OpenSquare S.CloseSquare _ _ closed_square h)))

cur_use_level : (p : Place) (w : Word) (i : Option Ex) → level_of (cur_use p w i) ≡ 0
cur_use_level p w None = refl
cur_use_level p w (Some i) = refl

cur_use_kinds : (p : Place) (w : Word) (i : Option Ex) → expr_kinds (cur_use p w i) ≡ key W.Cur ∷ kind S.Dot ∷ use_kinds (w, i)
cur_use_kinds p w None = refl
cur_use_kinds p w (Some i) = refl

pad_use_level : (p : Place) (w : Word) (i : Option Ex) → level_of (pad_use p w i) ≡ 0
pad_use_level p w None = refl
pad_use_level p w (Some i) = refl

pad_use_kinds : (p : Place) (w : Word) (i : Option Ex) → expr_kinds (pad_use p w i) ≡ key W.Pad ∷ kind S.Dot ∷ use_kinds (w, i)
pad_use_kinds p w None = refl
pad_use_kinds p w (Some i) = refl

cur_level : (p : Place) (o : Option (Place × FieldUse)) → level_of (ex (P.cur_or_field p o)) ≡ 0
cur_level p None = ap level_of (ex_cur p)
cur_level p (Some x) = ap level_of (ex_cur_field p x.1) ∙ cur_use_level p (used x.1).0 (used x.1).1

cur_kinds : (p : Place) (o : Option (Place × FieldUse)) → expr_kinds (ex (P.cur_or_field p o)) ≡ key W.Cur ∷ or_none (λ x. kind S.Dot ∷ use_kinds (used x.1)) o
cur_kinds p None = ap expr_kinds (ex_cur p)
cur_kinds p (Some x) = ap expr_kinds (ex_cur_field p x.1) ∙ cur_use_kinds p (used x.1).0 (used x.1).1

num_trims : AllTrim 0 (value P.to_num P.number.grammar)
num_trims = atom P.to_num _ _ (λ x. ap level_of (ex_num x.0 x.1)) (λ x. ap expr_kinds (ex_num x.0 x.1)) prints_number

null_trims : AllTrim 0 (value E.Null (P.keyword W.Null).grammar)
null_trims = atom (λ p. E.Null p) _ _ (λ p. ap level_of (ex_null p)) (λ p. ap expr_kinds (ex_null p)) (prints_keyword W.Null)

name_trims : AllTrim 0 (value E.Name P.word.grammar)
name_trims = atom (λ w. E.Name w) _ _ (λ w. ap level_of (ex_name w)) (λ w. ap expr_kinds (ex_name w)) prints_word

cur_trims : (e : Form Expr) → AllPrint e.grammar (λ x. expr_kinds (ex x)) → AllTrim 0 (P.cur_over e).grammar
cur_trims e h =
    atom P.to_cur _ _ (λ x. cur_level x.0 x.1) (λ x. cur_kinds x.0 x.1)
    (prints_pair _ _ _ _ (prints_keyword W.Cur) (prints_optional _ _ (prints_pair _ _ _ _ (prints_symbol S.Dot (λ n. refl)) (prints_use e h))))

pad_trims : (e : Form Expr) → AllPrint e.grammar (λ x. expr_kinds (ex x)) → AllTrim 0 (P.pad_over e).grammar
pad_trims e h =
    atom P.to_pad _ _
    (λ x. ap level_of (ex_pad_field x.0 x.1.1) ∙ pad_use_level x.0 (used x.1.1).0 (used x.1.1).1)
    (λ x. ap expr_kinds (ex_pad_field x.0 x.1.1) ∙ pad_use_kinds x.0 (used x.1.1).0 (used x.1.1).1)
    (prints_pair _ _ _ _ (prints_keyword W.Pad) (prints_pair _ _ _ _ (prints_symbol S.Dot (λ n. refl)) (prints_use e h)))

at_trims : (e : Form Expr) → AllPrint e.grammar (λ x. expr_kinds (ex x)) → AllTrim 0 (P.at_over e).grammar
at_trims e h =
    atom P.to_at _ _
    (λ x. ap level_of (ex_at x.0 x.1.1.0 x.1.1.1.1.0))
    (λ x. ap expr_kinds (ex_at x.0 x.1.1.0 x.1.1.1.1.0))
    (prints_pair _ _ _ _ (prints_keyword W.At)
    (prints_enclosed S.OpenRound S.CloseRound _ _ closed_round
    (before_pair _ _ _ _ _ h (before_pair _ _ _ _ _ (prints_symbol S.Comma (λ n. refl)) (before_last _ _ _ h)))))

-- an operand behind `!` or `~`
prints_operand : (u : Form Expr) → AllTrim 0 u.grammar → AllPrint u.grammar (λ x. in_parentheses 0 (level_of (ex x)) (expr_kinds (ex x)))
prints_operand u h = record { all = λ ts x w. let t = h.all ts x w in record { closed = t.closed; trims = t.trims 0 (omega arith) } }

not_trims : (u : Form Expr) → AllTrim 0 u.grammar → AllTrim 0 (value P.to_not (pair (P.symbol S.Bang).grammar u.grammar))
not_trims u h =
    atom P.to_not _ _ (λ x. ap level_of (ex_not x.0 x.1)) (λ x. ap expr_kinds (ex_not x.0 x.1))
    (prints_pair _ _ _ _ (prints_symbol S.Bang (λ n. refl)) (prints_operand u h))

flip_trims : (u : Form Expr) → AllTrim 0 u.grammar → AllTrim 0 (value P.to_flip (pair (P.symbol S.Tilde).grammar u.grammar))
flip_trims u h =
    atom P.to_flip _ _ (λ x. ap level_of (ex_flip x.0 x.1)) (λ x. ap expr_kinds (ex_flip x.0 x.1))
    (prints_pair _ _ _ _ (prints_symbol S.Tilde (λ n. refl)) (prints_operand u h))

-- ---- all of them

either_trims : (n : ℕ) (a b : Grammar Expr) → AllTrim n a → AllTrim n b → AllTrim n (either a b)
either_trims n a b h k = record { all = all }
  where
    all : (ts : List Token) (x : Expr) → (either a b).whole ts x → TrimsExpr n ts x
    all ts x (inl w) = h.all ts x w
    all ts x (inr w) = k.all ts x w

unary_over_trims : (u : Form Expr) → AllTrim 0 u.grammar → AllTrim 0 (P.unary_over u).grammar
unary_over_trims u h =
    let e = level_trims 7 u h in
    let p = prints_expr (P.level 7 u).grammar e in
    either_trims 0 _ _ (not_trims u h)
    (either_trims 0 _ _ (flip_trims u h)
    (either_trims 0 _ _ num_trims
    (either_trims 0 _ _ null_trims
    (either_trims 0 _ _ name_trims
    (either_trims 0 _ _ (cur_trims (P.expr_over u) p)
    (either_trims 0 _ _ (pad_trims (P.expr_over u) p)
    (either_trims 0 _ _ (at_trims (P.expr_over u) p)
    (round_trims (P.expr_over u) e))))))))

unary_trims : (d : ℕ) → AllTrim 0 (P.unary d).grammar
unary_trims zero = record { all = λ ts x w. absurd w }
unary_trims (suc d) = unary_over_trims (P.unary d) (unary_trims d)

pub expr_prints : (d : ℕ) → AllPrint (P.expr d).grammar (λ x. expr_kinds (ex x))
expr_prints d = prints_expr (P.expr d).grammar (level_trims 7 (P.unary d) (unary_trims d))
