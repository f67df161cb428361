-- Slots below 8, and expressions for which r8 to r14 are enough: what is asked so that code can be put.
use Rattle.std.specs.Prelude.{◌<◌, ◌≤◌, ⊤}
use Rattle.iter_unroll.specs.Flat.{Fs}
use Rattle.iter_unroll.specs.Flat as x
use Rattle.flat_code.specs.Code.{height}

abbrev pub IsShallow : Fs → Type 0
IsShallow x.end = ⊤
IsShallow (x.put_slot k e rest) = (k < 8) × (height e ≤ 6) × IsShallow rest
IsShallow (x.put_pad o w e rest) = (height e ≤ 6) × IsShallow rest
IsShallow (x.put_cur o w e rest) = (height e ≤ 6) × IsShallow rest
IsShallow (x.choose e first other rest) = (height e ≤ 6) × IsShallow first × IsShallow other × IsShallow rest
IsShallow (x.done rest) = IsShallow rest
IsShallow (x.go e rest) = (height e ≤ 6) × IsShallow rest
