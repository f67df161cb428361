-- Code that neither names a slot nor stores over a field.
use Rattle.std.specs.Prelude.{ℕ, ◌==◌, ◌&&◌, ◌||◌, not, Bool, true}
use Rattle.iter_unroll.specs.Flat.{Fx, Fs}
use Rattle.iter_unroll.specs.Flat as f
use Rattle.flat_hoist.specs.declared.field.Field.{Field}
use Rattle.flat_hoist.specs.hoisting.Fields.{misses}

abbrev pub spares : ℕ → Fx → Bool
spares k (f.slot j) = not (j == k)
spares k (f.not e) = spares k e
spares k (f.flip e) = spares k e
spares k (f.bin o a b) = spares k a && spares k b
spares k (f.at a b) = spares k a && spares k b
spares k e = true

abbrev pub clear : Field → ℕ → Fs → Bool
clear h k f.end = true
clear h k (f.put_slot j e rest) = (not (j == k) && spares k e) && clear h k rest
clear h k (f.put_pad o w e rest) = ((not h.pad || misses h o w) && spares k e) && clear h k rest
clear h k (f.put_cur o w e rest) = ((h.pad || misses h o w) && spares k e) && clear h k rest
clear h k (f.choose e first other rest) = ((spares k e && clear h k first) && clear h k other) && clear h k rest
clear h k (f.done rest) = clear h k rest
clear h k (f.go e rest) = spares k e && clear h k rest
