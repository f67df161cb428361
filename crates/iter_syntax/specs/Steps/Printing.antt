-- What the printer adds to a text: tokens one after the other.
use Rattle.std.specs.Prelude.{ℕ, Bool, true, false, nat_lt, List, [], ◌∷◌, ◌++◌, Option, Some, None}
use Rattle.iter_syntax.specs.Names.{Word, RecordDecl, Iter, TokenKind}
use Rattle.iter_syntax.specs.declared.token.TokenKind.TheVariants as K
use Rattle.iter_syntax.specs.declared.token.Keyword.TheVariants as W
use Rattle.iter_syntax.specs.declared.token.Symbol.TheVariants as S
use Rattle.iter_syntax.specs.Tree.{Ex, Used}
use Rattle.iter_syntax.specs.Printed.{Kinds, key, sym, word, between, expr_kinds, fields_kinds, spelling, separator}

-- the text with one token more
abbrev pub add : TokenKind → List ℕ → List ℕ
add k text = (text ++ spelling k) ++ separator k ∷ []

-- the text with more tokens, the first of them first
abbrev pub add_all : Kinds → List ℕ → List ℕ
add_all [] text = text
add_all (k ∷ ks) text = add_all ks (add k text)

abbrev pub or_none : {A : Type 0} → (A → Kinds) → Option A → Kinds
or_none f None = []
or_none f (Some x) = f x

-- a field behind `cur .` or `pad .`, with an index or without
abbrev pub use_kinds : Used → Kinds
use_kinds u = word u.0 ∷ or_none (λ e. between S.OpenSquare (expr_kinds e) S.CloseSquare) u.1

-- the value that a target gets
abbrev pub given : Ex → Kinds
given e = sym S.Assign ∷ (expr_kinds e ++ sym S.Semicolon ∷ [])

-- `for name in first .. past`
abbrev pub range_kinds : Word → ℕ → ℕ → Kinds
range_kinds w first past = key W.For ∷ word w ∷ key W.In ∷ K.Number first ∷ sym S.Range ∷ K.Number past ∷ []

-- `iter name on on { pad { fields }`
abbrev pub head_kinds : Iter → Kinds
head_kinds i = key W.Iter ∷ word i.name ∷ key W.On ∷ word i.on ∷ sym S.OpenBrace ∷ key W.Pad ∷ fields_kinds i.pad

-- whether an iterator comes before the records that are left
abbrev pub iter_next : List RecordDecl → List Iter → Bool
iter_next rs [] = false
iter_next [] (i ∷ is) = true
iter_next (r ∷ rs) (i ∷ is) = nat_lt (i.place).0 (r.place).0
