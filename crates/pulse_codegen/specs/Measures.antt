-- Numbers of instructions that are those of a code.
use Rattle.std.specs.Prelude.{◌≡◌}
use Rattle.flat_code.specs.Code.{Code}
use Rattle.pulse_codegen.specs.declared.lengths.Lengths.{Lengths}

pub record Measures (l : Lengths) (c : Code) : Type 0 where
  pub value : l.value ≡ c.value_len
  pub slot : l.slot ≡ c.slot_len
  pub branch : l.branch ≡ c.branch_len
  pub home : l.home ≡ c.home
