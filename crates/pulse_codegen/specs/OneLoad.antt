-- Code that loads once: its first instruction, and no other, is a LOAD.
use Rattle.std.specs.Prelude.{◌≡◌, ◌==◌, ◌&&◌, not, ℕ, ◌*◌, Bool, true, false, List, [], ◌∷◌}
use Rattle.iter_syntax.specs.declared.tree.FieldDecl.{FieldDecl}
use Rattle.iter_syntax.specs.declared.tree.Iter.{Iter}
use Rattle.pulse_isa.specs.declared.instr.Instr.{Instr}
use Rattle.pulse_isa.specs.declared.instr.Instr.TheVariants.{Load}
use Rattle.code_verify.specs.Rules.{is_load}
use Rattle.code_image.specs.declared.image.Image.{Image}
use Rattle.iter_unroll.specs.Uses.{iter_uses}
use Rattle.iter_unroll.specs.Span.{IsSpan}

abbrev pub has_no_load : List Instr → Bool
has_no_load [] = true
has_no_load (i ∷ is) = not (is_load i) && has_no_load is

-- the code begins with the LOAD of an interval, by its offset and its length, and has no other
abbrev pub loads_once : ℕ × ℕ → List Instr → Bool
loads_once interval (Load off len ∷ rest) = off == interval.0 && len == interval.1 && has_no_load rest
loads_once interval _ = false

abbrev pub LoadsOnce : ℕ × ℕ → List Instr → Type 0
LoadsOnce interval code = loads_once interval code ≡ true

-- the body loads just the span: the least interval of the record that holds the bytes of all fields used in end or next,
-- of which there is one; and init loads all the arguments
pub record LoadsSpan (fields : List FieldDecl) (it : Iter) (image : Image) : Type 0 where
  pub body : (span : ℕ × ℕ) → IsSpan (iter_uses fields it) span → LoadsOnce span image.body_code
  pub init : LoadsOnce (0, 8 * image.args) image.init_code
