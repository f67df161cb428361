-- The image of straight code. Nobody needs this to know what an image means.
use Rattle.std.specs.Prelude.{◌≡◌, ℕ}
use Rattle.code_image.specs.declared.image.Image.{Image}
use Rattle.iter_unroll.specs.declared.tree.Flat.{Flat}
use Rattle.iter_unroll.specs.Tree.{fsts}
use Rattle.iter_unroll.specs.Uses.{flat_uses}
use Rattle.iter_unroll.specs.Span.{HoldsAll, IsSpan}
use Rattle.iter_unroll.specs.Unrolled.{SmallSizes, KeepsAll, FewNodes}
use Rattle.flat_code.specs.Segments.{body_code, init_code}

-- what is asked of straight code
pub record Fits (flat : Flat) : Type 0 where
  pub small : SmallSizes flat
  pub keeps : KeepsAll flat
  pub few : FewNodes flat
  pub inside : HoldsAll (0, flat.record_size) (flat_uses flat)

pub record IsImageOfFlat (flat : Flat) (image : Image) : Type 0 where
  pub record_size : image.record_size ≡ flat.record_size
  pub pad_size : image.pad_size ≡ flat.pad_size
  pub args : image.args ≡ flat.args
  pub span : ℕ × ℕ
  pub least : IsSpan (flat_uses flat) span
  pub init : image.init_code ≡ init_code flat.args (fsts flat.init_part)
  pub body : image.body_code ≡ body_code span.0 span.1 (fsts flat.end_part) (fsts flat.next_part)
