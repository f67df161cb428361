-- The printed tokens of the use of a field are this use again, places aside, where those of its index are.
use Rattle.std.proofs.Common.{◌≡◌, [], ◌∷◌, Option, Some, None, option_map, refl, ap, sym, subst}
use Rattle.iter_syntax.specs.Names.{Word, FieldUse, Expr}
use Rattle.iter_syntax.specs.declared.token.Symbol.TheVariants as S
use Rattle.iter_syntax.specs.Tree.{Ex, Used, ex, used}
use Rattle.iter_syntax.specs.Form.{Form}
use Rattle.iter_syntax.specs.Productions as P
use Rattle.iter_syntax.specs.Printed.{Kinds, word, expr_kinds, item}
use Rattle.iter_syntax.specs.Bare.{bare_word, bare_expr}
use Rattle.iter_syntax.proofs.ExprLaws.{used_is}
use Rattle.iter_syntax.proofs.ReadsBack.Forms.{Back, pair_back, value_back, none_back, some_back, word_back, brackets_back}

-- the expression is this one, places aside
abbrev pub IsExpr : Ex → Expr → Type 0
IsExpr e y = bare_expr (ex y) ≡ bare_expr e

abbrev pub ExprAt : Form Expr → Ex → Type 0
ExprAt f e = Back f.grammar (expr_kinds e) (IsExpr e)

abbrev SameUse : Word → Option Ex → Used → Type 0
SameUse w o u = (bare_word u.0 ≡ bare_word w) × (option_map bare_expr u.1 ≡ option_map bare_expr o)

-- the use is of this word and index, places aside
abbrev pub IsUse : Word → Option Ex → FieldUse → Type 0
IsUse w o u = SameUse w o (used u)

abbrev pub use_kinds : Word → Option Ex → Kinds
use_kinds w None = word w ∷ []
use_kinds w (Some i) = item w i

abbrev pub UseAt : Form Expr → Word → Option Ex → Type 0
UseAt f w o = Back (P.use_over f).grammar (use_kinds w o) (IsUse w o)

abbrev IsIndex : Option Ex → Option Expr → Type 0
IsIndex o y = option_map bare_expr (option_map ex y) ≡ option_map bare_expr o

use_is : (w : Word) (o : Option Ex) (x : Word × Option Expr) → (bare_word x.0 ≡ bare_word w) × IsIndex o x.1 → IsUse w o (P.to_use x)
use_is w o x h = subst (SameUse w o) (sym (used_is x.0 x.1)) h

pub use_plain : (f : Form Expr) (w : Word) → UseAt f w None
use_plain f w = value_back P.to_use (use_is w None) (pair_back (word_back w) (none_back _ (IsIndex None) refl))

pub use_item : (f : Form Expr) (w : Word) (i : Ex) → ExprAt f i → UseAt f w (Some i)
use_item f w i h =
    value_back P.to_use (use_is w (Some i))
    (pair_back (word_back w) (some_back (IsIndex (Some i)) (λ x q. ap Some q) (brackets_back S.OpenSquare S.CloseSquare h)))
