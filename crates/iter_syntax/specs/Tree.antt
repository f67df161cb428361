-- Expressions and statement lists as plain trees, and what the types of the code mean as such.
-- The definitions of the language's meaning and faults go by these trees.
use Rattle.std.specs.Prelude.{ℕ, List, [], ◌∷◌, Option, Some, None}
use Rattle.iter_syntax.specs.Names.{Place, Word, BinaryOp, FieldUse, Expr, Block, Stmt}
use Rattle.iter_syntax.specs.declared.tree.Expr.TheOpen as O
use Rattle.iter_syntax.specs.declared.tree.Expr.TheFolds.{fold-Expr, fold-FieldUse}
use Rattle.iter_syntax.specs.declared.tree.Stmt.TheOpen as S
use Rattle.iter_syntax.specs.declared.tree.Stmt.TheFolds.{fold-Stmt, fold-Block}

-- an expression; `cur_item` and `pad_item` name an element of an array field, with the index behind the name
pub data Ex : Type 0 where
  num : Place → ℕ → Ex
  null : Place → Ex
  name : Word → Ex
  cur : Place → Ex
  cur_field : Place → Word → Ex
  cur_item : Place → Word → Ex → Ex
  pad_field : Place → Word → Ex
  pad_item : Place → Word → Ex → Ex
  not : Place → Ex → Ex
  flip : Place → Ex → Ex
  bin : Place → BinaryOp → Ex → Ex → Ex
  at : Place → Ex → Ex → Ex

-- a list of statements: each but `end` is followed by the rest
pub data Sts : Type 0 where
  end : Sts
  bind : Place → Word → Ex → Sts → Sts
  set : Place → Word → Ex → Sts → Sts
  set_pad : Place → Word → Ex → Sts → Sts
  set_pad_item : Place → Word → Ex → Ex → Sts → Sts
  set_cur : Place → Word → Ex → Sts → Sts
  set_cur_item : Place → Word → Ex → Ex → Sts → Sts
  when : Place → Ex → Sts → Sts → Sts
  choose : Place → Ex → Sts → Sts → Sts → Sts
  loop : Place → Word → ℕ → ℕ → Sts → Sts → Sts
  done : Place → Sts → Sts
  go : Place → Ex → Sts → Sts

-- the word and the index of a use
abbrev pub Used : Type 0
Used = Word × Option Ex

abbrev pub cur_use : Place → Word → Option Ex → Ex
cur_use p w None = cur_field p w
cur_use p w (Some i) = cur_item p w i

abbrev pub pad_use : Place → Word → Option Ex → Ex
pad_use p w None = pad_field p w
pad_use p w (Some i) = pad_item p w i

abbrev pub ex_step : O.Expr-F Ex Used → Ex
ex_step (O.Num p n) = num p n
ex_step (O.Null p) = null p
ex_step (O.Name w) = name w
ex_step (O.Cur p) = cur p
ex_step (O.CurField p u) = cur_use p u.0 u.1
ex_step (O.PadField p u) = pad_use p u.0 u.1
ex_step (O.Not p e) = not p e
ex_step (O.Flip p e) = flip p e
ex_step (O.Binary p op a b) = bin p op a b
ex_step (O.At p a b) = at p a b

abbrev pub use_step : O.FieldUse-F Ex Used → Used
use_step f = (f.name, f.index)

abbrev pub ex : Expr → Ex
ex = fold-Expr Ex Used ex_step use_step

abbrev pub used : FieldUse → Used
used = fold-FieldUse Ex Used ex_step use_step

-- statements in a row, each of which goes before a rest
abbrev pub row : List (Sts → Sts) → Sts → Sts
row [] rest = rest
row (f ∷ fs) rest = f (row fs rest)

abbrev pub to_pad : Place → Word → Option Ex → Ex → Sts → Sts
to_pad p w None e rest = set_pad p w e rest
to_pad p w (Some i) e rest = set_pad_item p w i e rest

abbrev pub to_cur : Place → Word → Option Ex → Ex → Sts → Sts
to_cur p w None e rest = set_cur p w e rest
to_cur p w (Some i) e rest = set_cur_item p w i e rest

abbrev pub branch : Place → Ex → Sts → Option Sts → Sts → Sts
branch p t first None rest = when p t first rest
branch p t first (Some other) rest = choose p t first other rest

abbrev pub st_step : S.Stmt-F (Sts → Sts) Sts → Sts → Sts
st_step (S.Let p w e) rest = bind p w (ex e) rest
st_step (S.Set p w e) rest = set p w (ex e) rest
st_step (S.SetPad p u e) rest = to_pad p (used u).0 (used u).1 (ex e) rest
st_step (S.SetCur p u e) rest = to_cur p (used u).0 (used u).1 (ex e) rest
st_step (S.If p t first other) rest = branch p (ex t) first other rest
st_step (S.For p w first past body) rest = loop p w first past body rest
st_step (S.Done p) rest = done p rest
st_step (S.Go p e) rest = go p (ex e) rest

abbrev pub block_step : S.Block-F (Sts → Sts) Sts → Sts
block_step b = row b.stmts end

-- a statement before a rest
abbrev pub st : Stmt → Sts → Sts
st = fold-Stmt (Sts → Sts) Sts st_step block_step

-- the statements of a block
abbrev pub block : Block → Sts
block = fold-Block (Sts → Sts) Sts st_step block_step

abbrev pub sts : List Stmt → Sts
sts [] = end
sts (s ∷ ss) = st s (sts ss)
