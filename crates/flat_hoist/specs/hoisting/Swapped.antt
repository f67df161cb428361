-- A slot in place of each read of a field.
use Rattle.std.specs.Prelude.{ℕ, ◌&&◌, not, if◌then◌else◌, List, [], ◌∷◌}
use Rattle.iter_unroll.specs.declared.tree.FlatStmt.{FlatStmt}
use Rattle.iter_unroll.specs.Flat.{Fx, Fs}
use Rattle.iter_unroll.specs.Flat as f
use Rattle.iter_unroll.specs.Tree.{fst}
use Rattle.flat_hoist.specs.declared.field.Field.{Field}
use Rattle.flat_hoist.specs.hoisting.Fields.{has_bytes}

abbrev pub in_slot : Field → ℕ → Fx → Fx
in_slot h k (f.cur_field o w) = if not h.pad && has_bytes h o w then f.slot k else f.cur_field o w
in_slot h k (f.pad_field o w) = if h.pad && has_bytes h o w then f.slot k else f.pad_field o w
in_slot h k (f.not e) = f.not (in_slot h k e)
in_slot h k (f.flip e) = f.flip (in_slot h k e)
in_slot h k (f.bin o a b) = f.bin o (in_slot h k a) (in_slot h k b)
in_slot h k (f.at a b) = f.at (in_slot h k a) (in_slot h k b)
in_slot h k e = e

abbrev pub all_in_slot : Field → ℕ → Fs → Fs
all_in_slot h k f.end = f.end
all_in_slot h k (f.put_slot j e rest) = f.put_slot j (in_slot h k e) (all_in_slot h k rest)
all_in_slot h k (f.put_pad o w e rest) = f.put_pad o w (in_slot h k e) (all_in_slot h k rest)
all_in_slot h k (f.put_cur o w e rest) = f.put_cur o w (in_slot h k e) (all_in_slot h k rest)
all_in_slot h k (f.choose e first other rest) =
    f.choose (in_slot h k e) (all_in_slot h k first) (all_in_slot h k other) (all_in_slot h k rest)
all_in_slot h k (f.done rest) = f.done (all_in_slot h k rest)
all_in_slot h k (f.go e rest) = f.go (in_slot h k e) (all_in_slot h k rest)

-- statements before a rest
abbrev pub before : List FlatStmt → Fs → Fs
before [] rest = rest
before (s ∷ ss) rest = fst s (before ss rest)
