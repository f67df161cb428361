-- What the flat types of the code mean as plain trees.
use Rattle.std.specs.Prelude.{List, [], ◌∷◌}
use Rattle.iter_unroll.specs.declared.tree.FlatExpr.{FlatExpr}
use Rattle.iter_unroll.specs.declared.tree.FlatExpr.TheOpen as O
use Rattle.iter_unroll.specs.declared.tree.FlatExpr.TheFolds.{fold-FlatExpr}
use Rattle.iter_unroll.specs.declared.tree.FlatStmt.{FlatStmt}
use Rattle.iter_unroll.specs.declared.tree.FlatStmt.TheOpen as S
use Rattle.iter_unroll.specs.declared.tree.FlatStmt.TheFolds.{fold-FlatStmt}
use Rattle.iter_unroll.specs.Flat.{Fx, Fs}
use Rattle.iter_unroll.specs.Flat as f

abbrev pub fx_step : O.FlatExpr-F Fx → Fx
fx_step (O.Num n) = f.num n
fx_step O.Null = f.null
fx_step (O.Arg k) = f.arg k
fx_step (O.Local k) = f.slot k
fx_step O.Cur = f.cur
fx_step (O.CurField u) = f.cur_field u.off u.width
fx_step (O.PadField u) = f.pad_field u.off u.width
fx_step (O.Not e) = f.not e
fx_step (O.Flip e) = f.flip e
fx_step (O.Binary o a b) = f.bin o a b
fx_step (O.At a b) = f.at a b

abbrev pub fx : FlatExpr → Fx
fx = fold-FlatExpr Fx fx_step

-- statements in a row, each of which goes before a rest
abbrev pub row : List (Fs → Fs) → Fs → Fs
row [] rest = rest
row (h ∷ hs) rest = h (row hs rest)

abbrev pub fst_step : S.FlatStmt-F (Fs → Fs) → Fs → Fs
fst_step (S.Local k e) rest = f.put_slot k (fx e) rest
fst_step (S.Pad u e) rest = f.put_pad u.off u.width (fx e) rest
fst_step (S.Cur u e) rest = f.put_cur u.off u.width (fx e) rest
fst_step (S.If e first other) rest = f.choose (fx e) (row first f.end) (row other f.end) rest
fst_step S.Done rest = f.done rest
fst_step (S.Go e) rest = f.go (fx e) rest

-- a statement before a rest
abbrev pub fst : FlatStmt → Fs → Fs
fst = fold-FlatStmt (Fs → Fs) fst_step

abbrev pub fsts : List FlatStmt → Fs
fsts [] = f.end
fsts (s ∷ ss) = fst s (fsts ss)
