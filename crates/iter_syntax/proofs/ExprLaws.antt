-- What expressions and uses of fields are as plain trees, by their constructors.
use Rattle.std.proofs.Common.{rules, ◌≡◌, ℕ, Option, option_map}
use Rattle.iter_syntax.specs.Names.{Place, Word, BinaryOp, FieldUse}
use Rattle.iter_syntax.specs.declared.tree.Expr.{Expr, the_lemmas}
use Rattle.iter_syntax.specs.declared.tree.Expr.TheVariants as E
use Rattle.iter_syntax.specs.Tree.{num, null, name, cur, not, flip, bin, at, ex, used, cur_use, pad_use}

pub ex_num : (p : Place) (n : ℕ) → ex (E.Num p n) ≡ num p n
ex_num p n = search (rules, the_lemmas)

pub ex_null : (p : Place) → ex (E.Null p) ≡ null p
ex_null p = search (rules, the_lemmas)

pub ex_name : (w : Word) → ex (E.Name w) ≡ name w
ex_name w = search (rules, the_lemmas)

pub ex_cur : (p : Place) → ex (E.Cur p) ≡ cur p
ex_cur p = search (rules, the_lemmas)

pub ex_cur_field : (p : Place) (u : FieldUse) → ex (E.CurField p u) ≡ cur_use p (used u).0 (used u).1
ex_cur_field p u = search (rules, the_lemmas)

pub ex_pad_field : (p : Place) (u : FieldUse) → ex (E.PadField p u) ≡ pad_use p (used u).0 (used u).1
ex_pad_field p u = search (rules, the_lemmas)

pub ex_not : (p : Place) (x : Expr) → ex (E.Not p x) ≡ not p (ex x)
ex_not p x = search (rules, the_lemmas)

pub ex_flip : (p : Place) (x : Expr) → ex (E.Flip p x) ≡ flip p (ex x)
ex_flip p x = search (rules, the_lemmas)

pub ex_binary : (p : Place) (op : BinaryOp) (x y : Expr) → ex (E.Binary p op x y) ≡ bin p op (ex x) (ex y)
ex_binary p op x y = search (rules, the_lemmas)

pub ex_at : (p : Place) (x y : Expr) → ex (E.At p x y) ≡ at p (ex x) (ex y)
ex_at p x y = search (rules, the_lemmas)

-- the word and the index of a use
pub used_is : (w : Word) (i : Option Expr) → used (record { name = w; index = i }) ≡ (w, option_map ex i)
used_is w i = search (rules, the_lemmas)
