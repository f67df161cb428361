-- When the code of images does what the walks of a setting ask.
use Rattle.std.specs.Prelude.{◌≡◌, ℕ, Bool, List, length, Some, slice_get}
use Rattle.code_verify.specs.Run.{run_body}
use Rattle.code_image.specs.declared.image.Image.{Image}
use Rattle.run_rules.specs.Node.{size_in}
use Rattle.node_core.specs.Code.{outcome_of}
use Rattle.run_views.specs.Setting.{Setting, pad_in}

-- each image is that of a program: its sizes are the program's, and a run of its body on a record and a pad of these sizes is the
-- program's iteration
pub record IsCodeOf (u : Setting) (images : List Image) : Type 0 where
  pub all : length images ≡ length u.sizes
  pub records : (program : ℕ) (image : Image) → slice_get images program ≡ Some image → image.record_size ≡ size_in (slice_get u.sizes program)
  pub pads : (program : ℕ) (image : Image) → slice_get images program ≡ Some image → image.pad_size ≡ pad_in (slice_get u.sizes program)
  pub runs : (program : ℕ) (image : Image) (bytes : List ℕ) (cur : ℕ) (pad : List ℕ) (writable : Bool)
      → slice_get images program ≡ Some image → length bytes ≡ image.record_size → length pad ≡ image.pad_size
      → outcome_of (run_body image.body_code bytes pad cur writable) ≡ u.iterate program bytes cur pad writable
