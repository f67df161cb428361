-- A compiled program: an image for each iterator.
use Rattle.std.specs.Prelude.{◌≡◌, ℕ, List, length, slice_get, Some}
use Rattle.iter_syntax.specs.declared.tree.Iter.{Iter}
use Rattle.iter_syntax.specs.declared.tree.Program.{Program}
use Rattle.iter_check.specs.FaultList.{record_fields}
use Rattle.code_image.specs.declared.image.Image.{Image}
use Rattle.pulse_codegen.specs.Means.{Means}
use Rattle.pulse_codegen.specs.OneLoad.{LoadsSpan}

-- the image means the iterator, and loads no more of the record than it uses
pub record IsImageOf (p : Program) (it : Iter) (image : Image) : Type 0 where
  pub means : Means (record_fields p.records it) it image
  pub loads : LoadsSpan (record_fields p.records it) it image

-- of the iterator of a number
abbrev pub Compiles : Program → ℕ → Image → Type 0
Compiles p number image = (it : Iter) → slice_get p.iters number ≡ Some it → IsImageOf p it image

-- images of the first iterators
abbrev pub CompilesFirst : Program → List Image → Type 0
CompilesFirst p images = (number : ℕ) (image : Image) → slice_get images number ≡ Some image → Compiles p number image

-- image i is that of iterator i
pub record CompilesAll (p : Program) (images : List Image) : Type 0 where
  pub each : CompilesFirst p images
  pub all : length images ≡ length p.iters
