-- What statements and blocks are as plain trees, by their constructors.
use Rattle.std.proofs.Common.{rules, ◌≡◌, ℕ, List, [], ◌∷◌, Option, option_map, map, refl, ap, ◌∙◌}
use Rattle.iter_syntax.specs.Names.{Place, Word, FieldUse, Expr, Block}
use Rattle.iter_syntax.specs.declared.tree.Stmt.{Stmt, the_lemmas}
use Rattle.iter_syntax.specs.declared.tree.Stmt.TheVariants as T
use Rattle.iter_syntax.specs.declared.tree.Stmt.TheFolds.{fold_out-Block}
use Rattle.iter_syntax.specs.Tree.{ex, used, Sts, end, bind, set, loop, done, go, row, to_pad, to_cur, branch, st, sts, block, st_step, block_step}

pub st_let : (p : Place) (w : Word) (e : Expr) (rest : Sts) → st (T.Let p w e) rest ≡ bind p w (ex e) rest
st_let p w e rest = search (rules, the_lemmas)

pub st_set : (p : Place) (w : Word) (e : Expr) (rest : Sts) → st (T.Set p w e) rest ≡ set p w (ex e) rest
st_set p w e rest = search (rules, the_lemmas)

pub st_set_pad : (p : Place) (u : FieldUse) (e : Expr) (rest : Sts) → st (T.SetPad p u e) rest ≡ to_pad p (used u).0 (used u).1 (ex e) rest
st_set_pad p u e rest = search (rules, the_lemmas)

pub st_set_cur : (p : Place) (u : FieldUse) (e : Expr) (rest : Sts) → st (T.SetCur p u e) rest ≡ to_cur p (used u).0 (used u).1 (ex e) rest
st_set_cur p u e rest = search (rules, the_lemmas)

pub st_if : (p : Place) (t : Expr) (first : Block) (other : Option Block) (rest : Sts) → st (T.If p t first other) rest ≡ branch p (ex t) (block first) (option_map block other) rest
st_if p t first other rest = search (rules, the_lemmas)

pub st_for : (p : Place) (w : Word) (first past : ℕ) (body : Block) (rest : Sts) → st (T.For p w first past body) rest ≡ loop p w first past (block body) rest
st_for p w first past body rest = search (rules, the_lemmas)

pub st_done : (p : Place) (rest : Sts) → st (T.Done p) rest ≡ done p rest
st_done p rest = search (rules, the_lemmas)

pub st_go : (p : Place) (e : Expr) (rest : Sts) → st (T.Go p e) rest ≡ go p (ex e) rest
st_go p e rest = search (rules, the_lemmas)

map_row : (ss : List Stmt) → row (map st ss) end ≡ sts ss
map_row [] = refl
map_row (s ∷ ss) = ap (st s) (map_row ss)

-- a block is its statements
pub block_is : (b : Block) → block b ≡ sts b.stmts
block_is b = fold_out-Block (Sts → Sts) Sts st_step block_step b ∙ map_row b.stmts
