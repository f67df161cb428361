-- What one statement adds to the instructions of those behind it.
use Rattle.std.specs.Prelude.{◌≡◌, ◌+◌, ◌||◌, ◌++◌, List, length}
use Rattle.pulse_isa.specs.declared.instr.Instr.{Instr}
use Rattle.iter_unroll.specs.Flat.{Fs}
use Rattle.flat_code.specs.Statements.{leaves, sts_len, sts_code}
use Rattle.pulse_codegen.specs.declared.extent.Extent.{Extent}

-- how many they are, and whether it ends the iteration
pub record Extends (x : Extent) (stmt : Fs → Fs) : Type 0 where
  pub len : (rest : Fs) → sts_len (stmt rest) ≡ x.len + sts_len rest
  pub leaves : (rest : Fs) → leaves (stmt rest) ≡ (x.leaves || leaves rest)

-- its instructions were put behind those that were there, whatever follows
abbrev pub Puts : List Instr → (Fs → Fs) → List Instr → Type 0
Puts before stmt now = (rest : Fs) → before ++ sts_code (stmt rest) (length before) ≡ now ++ sts_code rest (length now)
