-- The bounds of the fields so far: where the first begins, and where the last is past.
use Rattle.std.specs.Prelude.{ℕ, ◌+◌, min, max, Option, Some, None, option_map}
use Rattle.iter_check.specs.Layout.{width_bytes}
use Rattle.iter_unroll.specs.declared.bounds.Bounds.{Bounds}
use Rattle.iter_unroll.specs.Flat.{Fx, Fs}
use Rattle.iter_unroll.specs.Flat as f
use Rattle.iter_unroll.specs.Uses.{Use}

abbrev pub pair_of : Bounds → ℕ × ℕ
pair_of b = (b.from, b.past)

abbrev pub bounds_of : Option Bounds → Option (ℕ × ℕ)
bounds_of o = option_map pair_of o

-- with one more field
abbrev pub wider : Option (ℕ × ℕ) → Use → Option (ℕ × ℕ)
wider None u = Some (u.0, u.0 + width_bytes u.1)
wider (Some b) u = Some (min u.0 b.0, max (u.0 + width_bytes u.1) b.1)

-- with those of an expression, and of statements
abbrev pub wider_fx : Option (ℕ × ℕ) → Fx → Option (ℕ × ℕ)
wider_fx b (f.cur_field o w) = wider b (o, w)
wider_fx b (f.not e) = wider_fx b e
wider_fx b (f.flip e) = wider_fx b e
wider_fx b (f.bin o x y) = wider_fx (wider_fx b x) y
wider_fx b (f.at x y) = wider_fx (wider_fx b x) y
wider_fx b e = b

abbrev pub wider_fs : Option (ℕ × ℕ) → Fs → Option (ℕ × ℕ)
wider_fs b f.end = b
wider_fs b (f.put_slot k e rest) = wider_fs (wider_fx b e) rest
wider_fs b (f.put_pad o w e rest) = wider_fs (wider_fx b e) rest
wider_fs b (f.put_cur o w e rest) = wider_fs (wider_fx (wider b (o, w)) e) rest
wider_fs b (f.choose e first other rest) = wider_fs (wider_fs (wider_fs (wider_fx b e) first) other) rest
wider_fs b (f.done rest) = wider_fs b rest
wider_fs b (f.go e rest) = wider_fs (wider_fx b e) rest
