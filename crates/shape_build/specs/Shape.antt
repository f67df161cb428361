-- A document by its kind, its number of records and its seed.
use Rattle.std.specs.Prelude.{ℕ, ◌≤◌, ◌<◌, ◌^◌, List, codes}
use Rattle.shape_build.specs.Documents.{list_text, buckets_text, btree_text}
use Rattle.shape_build.specs.declared.shape.Kind.{Kind}
use Rattle.shape_build.specs.declared.shape.Kind.TheVariants as kind
use Rattle.shape_build.specs.declared.shape.Shape.{Shape}

-- the word of a kind
abbrev pub kind_word : Kind → List ℕ
kind_word kind.List = codes "list"
kind_word kind.Buckets = codes "buckets"
kind_word kind.Btree = codes "btree"

-- a document has 1 to 20,000 records, and its seed fits in 64 bits
pub record InRange (shape : Shape) : Type 0 where
  pub some : 1 ≤ shape.count
  pub few : shape.count ≤ 20000
  pub seed : shape.seed < 2 ^ 64

abbrev pub text_of_kind : Kind → (count seed : ℕ) → List ℕ
text_of_kind kind.List count seed = list_text count seed
text_of_kind kind.Buckets count seed = buckets_text count seed
text_of_kind kind.Btree count seed = btree_text count seed

abbrev pub shape_text : Shape → List ℕ
shape_text shape = text_of_kind shape.kind shape.count shape.seed
