-- The printed tokens of an expression are that expression again, places aside.
use Rattle.std.proofs.Common.{◌≡◌, ℕ, Bool, true, false, cond, nat_lt, [], ◌∷◌, ◌++◌, Option, Some, None, option_map, refl, ap, sym, append_assoc, arith}
use Rattle.iter_syntax.specs.Names.{Place, Word, BinaryOp, FieldUse, Expr}
use Rattle.iter_syntax.specs.declared.tree.Expr.TheVariants as E
use Rattle.iter_syntax.specs.declared.token.TokenKind.TheVariants as K
use Rattle.iter_syntax.specs.declared.token.Keyword.TheVariants as W
use Rattle.iter_syntax.specs.declared.token.Symbol.TheVariants as S
use Rattle.iter_syntax.specs.Tree.{Ex, num, null, name, cur, cur_field, cur_item, pad_field, pad_item, not, flip, bin, at, used, cur_use, pad_use}
use Rattle.iter_syntax.specs.Form.{Form}
use Rattle.iter_syntax.specs.Productions as P
use Rattle.iter_syntax.specs.Printed.{Kinds, key, sym as kind, word, between, left_level, right_level, level_of, in_parentheses, expr_kinds}
use Rattle.iter_syntax.specs.Operators.{level_of_operator, symbol_of_operator}
use Rattle.iter_syntax.specs.Bare.{nowhere, bare_word, bare_expr}
use Rattle.iter_syntax.proofs.ExprLaws.{ex_num, ex_null, ex_name, ex_cur, ex_cur_field, ex_pad_field, ex_not, ex_flip, ex_binary, ex_at}
use Rattle.iter_syntax.proofs.ReadsBack.Forms.{Back, join_back, pair_back, value_back, either_left, either_right, none_back, some_back, symbol_back, keyword_back, word_back, number_back, brackets_back, same_kinds, Deep, deep_map, deep_both, deep_next}
use Rattle.iter_syntax.proofs.ReadsBack.Use.{IsExpr, ExprAt, use_kinds, UseAt, use_plain, use_item}
use Rattle.iter_syntax.proofs.ReadsBack.Levels.{level_low, looser, operator_back, operator_joins}

-- ---- uses of fields, places aside

bare_cur_use : (p : Place) (w : Word) (o : Option Ex) → bare_expr (cur_use p w o) ≡ cur_use nowhere (bare_word w) (option_map bare_expr o)
bare_cur_use p w None = refl
bare_cur_use p w (Some i) = refl

bare_pad_use : (p : Place) (w : Word) (o : Option Ex) → bare_expr (pad_use p w o) ≡ pad_use nowhere (bare_word w) (option_map bare_expr o)
bare_pad_use p w None = refl
bare_pad_use p w (Some i) = refl

-- ---- atoms, unary expressions and operators over expressions that stand in them

module _ (f : Form Expr) where
  abbrev AtomAt : Kinds → Ex → Type 0
  AtomAt ks e = Back (P.atom_over f).grammar ks (IsExpr e)

  num_at : (p : Place) (n : ℕ) → AtomAt (K.Number n ∷ []) (num p n)
  num_at p n = either_left (value_back P.to_num (λ x q. cc (ex_num x.0 x.1)) (number_back n))

  null_at : (p : Place) → AtomAt (key W.Null ∷ []) (null p)
  null_at p = either_right (either_left (value_back E.Null (λ x q. ap bare_expr (ex_null x)) (keyword_back W.Null)))

  name_at : (w : Word) → AtomAt (word w ∷ []) (name w)
  name_at w = either_right (either_right (either_left (value_back E.Name (λ x q. cc (ex_name x)) (word_back w))))

  -- what stands behind `cur` makes it this expression
  abbrev MakesCur : Ex → Option (Place × FieldUse) → Type 0
  MakesCur e o = (p : Place) → IsExpr e (P.cur_or_field p o)

  cur_at : (p : Place) → AtomAt (key W.Cur ∷ []) (cur p)
  cur_at p =
      either_right (either_right (either_right (either_left (value_back P.to_cur (λ x q. q.1 x.0)
      (pair_back (keyword_back W.Cur) (none_back _ (MakesCur (cur p)) (λ q. ap bare_expr (ex_cur q))))))))

  cur_use_at : (p : Place) (w : Word) (o : Option Ex) → UseAt f w o → AtomAt (key W.Cur ∷ kind S.Dot ∷ use_kinds w o) (cur_use p w o)
  cur_use_at p w o h =
      either_right (either_right (either_right (either_left (value_back P.to_cur (λ x q. q.1 x.0)
      (pair_back (keyword_back W.Cur) (some_back (MakesCur (cur_use p w o)) (λ x r q. cc (ex_cur_field q x.1, bare_cur_use q (used x.1).0 (used x.1).1, bare_cur_use p w o)) (pair_back (symbol_back S.Dot) h)))))))

  pad_use_at : (p : Place) (w : Word) (o : Option Ex) → UseAt f w o → AtomAt (key W.Pad ∷ kind S.Dot ∷ use_kinds w o) (pad_use p w o)
  pad_use_at p w o h =
      either_right (either_right (either_right (either_right (either_left (value_back P.to_pad (λ x q. cc (ex_pad_field x.0 x.1.1, bare_pad_use x.0 (used x.1.1).0 (used x.1.1).1, bare_pad_use p w o))
      (pair_back (keyword_back W.Pad) (pair_back (symbol_back S.Dot) h)))))))

  at_at : (p : Place) (a b : Ex) → ExprAt f a → ExprAt f b → AtomAt (expr_kinds (at p a b)) (at p a b)
  at_at p a b h g =
      either_right (either_right (either_right (either_right (either_right (either_left
      (value_back P.to_at (λ x q. cc (ex_at x.0 x.1.1.0 x.1.1.1.1.0))
      (same_kinds (ap (λ l. key W.At ∷ kind S.OpenRound ∷ l) (sym (append_assoc (expr_kinds a) (kind S.Comma ∷ expr_kinds b) (kind S.CloseRound ∷ []))))
      (pair_back (keyword_back W.At) (pair_back (symbol_back S.OpenRound) (pair_back h (pair_back (symbol_back S.Comma) (pair_back g (symbol_back S.CloseRound)))))))))))))

  round_at : (e : Ex) → ExprAt f e → AtomAt (between S.OpenRound (expr_kinds e) S.CloseRound) e
  round_at e h = either_right (either_right (either_right (either_right (either_right (either_right (brackets_back S.OpenRound S.CloseRound h))))))

  not_at : (p : Place) (e : Ex) (ks : Kinds) → Back f.grammar ks (IsExpr e) → Back (P.unary_over f).grammar (kind S.Bang ∷ ks) (IsExpr (not p e))
  not_at p e ks h = either_left (value_back P.to_not (λ x q. cc (ex_not x.0 x.1)) (pair_back (symbol_back S.Bang) h))

  flip_at : (p : Place) (e : Ex) (ks : Kinds) → Back f.grammar ks (IsExpr e) → Back (P.unary_over f).grammar (kind S.Tilde ∷ ks) (IsExpr (flip p e))
  flip_at p e ks h = either_right (either_left (value_back P.to_flip (λ x q. cc (ex_flip x.0 x.1)) (pair_back (symbol_back S.Tilde) h)))

  bin_at : (p : Place) (op : BinaryOp) (a b : Ex) (ks ls : Kinds) → Back (P.level (left_level (level_of_operator op)) f).grammar ks (IsExpr a) → Back (P.level (right_level (level_of_operator op)) f).grammar ls (IsExpr b) → Back (P.level (level_of_operator op) f).grammar (ks ++ kind (symbol_of_operator op) ∷ ls) (IsExpr (bin p op a b))
  bin_at p op a b ks ls h g =
      join_back (λ x y. E.Binary y.0.0 y.0.1 x y.1) (operator_joins op f) (λ x y q r. cc (ex_binary y.0.0 y.0.1 x y.1))
      h (pair_back (operator_back op) g)

-- ---- expressions at their levels

-- tokens of these kinds are the expression at a level, at depth `d`
abbrev LevelAt : ℕ → Kinds → Ex → ℕ → Type 0
LevelAt level ks e d = Back (P.level level (P.unary d)).grammar ks (IsExpr e)

-- an atom is a unary expression, one deeper than what stands in it
atom : {ks : Kinds} {Q : Expr → Type 0} → Deep (λ d. Back (P.atom_over (P.expr d)).grammar ks Q) → Deep (λ d. Back (P.unary d).grammar ks Q)
atom h = deep_next (λ d g. either_right (either_right g)) h

-- an expression at the level that it has, without parentheses
abbrev Own : Ex → Type 0
Own e = Deep (LevelAt (level_of e) (expr_kinds e) e)

-- an expression where any may stand
alone : (e : Ex) → Own e → Deep (λ d. ExprAt (P.expr d) e)
alone e h = deep_map (λ d. looser 7 (level_of e) (level_low e) (P.unary d)) h

-- an expression where one of a level may stand, in parentheses if it is looser
at_level : (level : ℕ) (e : Ex) → Own e → Deep (LevelAt level (in_parentheses level (level_of e) (expr_kinds e)) e)
at_level level e h = by_case (nat_lt level (level_of e)) refl
  where
    by_case : (b : Bool) → nat_lt level (level_of e) ≡ b → Deep (LevelAt level (cond b (between S.OpenRound (expr_kinds e) S.CloseRound) (expr_kinds e)) e)
    by_case true q = deep_map (λ d. looser level 0 (omega arith) (P.unary d)) (atom (deep_map (λ d. round_at (P.expr d) e) (alone e h)))
    by_case false q = deep_map (λ d. looser level (level_of e) (grind arith) (P.unary d)) h

own : (e : Ex) → Own e
own (num p n) = atom (0, λ d le. num_at (P.expr d) p n)
own (null p) = atom (0, λ d le. null_at (P.expr d) p)
own (name w) = atom (0, λ d le. name_at (P.expr d) w)
own (cur p) = atom (0, λ d le. cur_at (P.expr d) p)
own (cur_field p w) = atom (0, λ d le. cur_use_at (P.expr d) p w None (use_plain (P.expr d) w))
own (cur_item p w i) = atom (deep_map (λ d h. cur_use_at (P.expr d) p w (Some i) (use_item (P.expr d) w i h)) (alone i (own i)))
own (pad_field p w) = atom (0, λ d le. pad_use_at (P.expr d) p w None (use_plain (P.expr d) w))
own (pad_item p w i) = atom (deep_map (λ d h. pad_use_at (P.expr d) p w (Some i) (use_item (P.expr d) w i h)) (alone i (own i)))
own (not p e) = deep_next (λ d. not_at (P.unary d) p e _) (at_level 0 e (own e))
own (flip p e) = deep_next (λ d. flip_at (P.unary d) p e _) (at_level 0 e (own e))
own (bin p op a b) = deep_both (λ d. bin_at (P.unary d) p op a b _ _) (at_level (left_level (level_of_operator op)) a (own a)) (at_level (right_level (level_of_operator op)) b (own b))
own (at p a b) = atom (deep_both (λ d. at_at (P.expr d) p a b) (alone a (own a)) (alone b (own b)))

pub expr_back : (e : Ex) → Deep (λ d. ExprAt (P.expr d) e)
expr_back e = alone e (own e)
