-- What is asked of a flat program so that its code stands: its slots, fields and arguments are there.
use Rattle.std.specs.Prelude.{◌≡◌, ℕ, ◌*◌, ◌<◌, ◌≤◌, Bool, true, false, List, length, get_or, Some, if◌then◌else◌}
use Rattle.pulse_isa.specs.Bytes.{number_at}
use Rattle.pulse_isa.specs.Step.{State, Window, End}
use Rattle.pulse_isa.specs.Step as m
use Rattle.iter_check.specs.Layout.{width_bytes}
use Rattle.iter_check.specs.Iteration.{Iterated}
use Rattle.iter_check.specs.Iteration as i
use Rattle.code_verify.specs.Fits.{HasBytes, HasSeen}
use Rattle.iter_unroll.specs.Flat.{Fx, Fs, Fixed, Slots}
use Rattle.iter_unroll.specs.Flat as x
use Rattle.flat_code.specs.Code.{height}

-- init or the body; the window; how many bytes the record (or the arguments) and the pad have;
-- and in init how many arguments there are, and their bytes
pub record Frame : Type 0 where
  pub init : Bool
  pub window : Window
  pub size : ℕ
  pub pad : ℕ
  pub args : ℕ
  pub given : List ℕ

-- init names no record, and the body no arguments
abbrev pub FxFits : Frame → Fx → Type 0
FxFits f (x.num n) = Unit {0}
FxFits f x.null = Unit {0}
FxFits f (x.arg k) = (f.init ≡ true) × (k < f.args) × HasSeen f.size f.window (8 * k) 8
FxFits f (x.slot k) = k < 8
FxFits f x.cur = f.init ≡ false
FxFits f (x.cur_field o w) = (f.init ≡ false) × HasSeen f.size f.window o (width_bytes w)
FxFits f (x.pad_field o w) = HasBytes f.pad o (width_bytes w)
FxFits f (x.not e) = FxFits f e
FxFits f (x.flip e) = FxFits f e
FxFits f (x.bin o a b) = FxFits f a × FxFits f b
FxFits f (x.at a b) = FxFits f a × FxFits f b

-- r8 to r14 are enough
abbrev pub UseFits : Frame → Fx → Type 0
UseFits f e = FxFits f e × (height e ≤ 6)

abbrev pub FsFits : Frame → Fs → Type 0
FsFits f x.end = Unit {0}
FsFits f (x.put_slot k e rest) = (k < 8) × UseFits f e × FsFits f rest
FsFits f (x.put_pad o w e rest) = HasBytes f.pad o (width_bytes w) × UseFits f e × FsFits f rest
FsFits f (x.put_cur o w e rest) = (f.init ≡ false) × HasSeen f.size f.window o (width_bytes w) × UseFits f e × FsFits f rest
FsFits f (x.choose e first other rest) = UseFits f e × FsFits f first × FsFits f other × FsFits f rest
FsFits f (x.done rest) = FsFits f rest
FsFits f (x.go e rest) = UseFits f e × FsFits f rest

-- init ends with the bytes of the arguments, the body with those of the record
abbrev pub left_bytes : Frame → List ℕ → List ℕ
left_bytes f bytes = if f.init then f.given else bytes

-- how a run ends, where an iteration ends so
abbrev pub end_of : Frame → Iterated → End
end_of f (i.Done bytes pad) = m.Done (left_bytes f bytes) pad
end_of f (i.Goes to bytes pad) = m.Goes to (left_bytes f bytes) pad
end_of f (i.Fault c) = m.Faults c

-- the state of a run stands to the state of the meaning; its registers are spoken of elsewhere
pub record Agrees (f : Frame) (g : Fixed) (a : Slots) (s : State) : Type 0 where
  pub window : s.window ≡ f.window
  pub size : length s.bytes ≡ f.size
  pub pad_size : length s.pad ≡ f.pad
  pub pad : s.pad ≡ a.pad
  pub cur : f.init ≡ false → s.cur ≡ g.cur
  pub bytes : s.bytes ≡ left_bytes f a.record_bytes
  pub args : f.init ≡ true → (k : ℕ) → k < f.args → number_at f.given (8 * k) 8 ≡ Some (get_or g.args k 0)
  pub writable : f.init ≡ false → s.writable ≡ g.writable
