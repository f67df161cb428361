-- The lines of fields: the name of a field, its type, and its offset.
use Rattle.std.specs.Prelude.{ℕ, ◌+◌, List, [], ◌∷◌, ◌++◌, codes, decimal, Option, Some, None}
use Rattle.iter_syntax.specs.declared.tree.Width.{Width}
use Rattle.iter_syntax.specs.declared.tree.Width.TheVariants as w
use Rattle.iter_syntax.specs.declared.tree.FieldDecl.{FieldDecl}
use Rattle.iter_check.specs.Layout.{text, field_size}

abbrev pub width_name : Width → List ℕ
width_name w.U8 = codes "u8"
width_name w.U16 = codes "u16"
width_name w.U32 = codes "u32"
width_name w.U64 = codes "u64"
width_name w.Ptr = codes "ptr"

abbrev pub type_text : Width → Option ℕ → List ℕ
type_text width None = width_name width
type_text width (Some len) = codes "[" ++ width_name width ++ codes "; " ++ decimal len ++ codes "]"

abbrev pub field_text : ℕ → FieldDecl → List ℕ
field_text offset f =
    codes "field " ++ text f.name ++ codes " " ++ type_text f.width f.len ++ codes " " ++ decimal offset ++ codes "\n"

-- fields from an offset on
abbrev pub fields_text : ℕ → List FieldDecl → List ℕ
fields_text offset [] = []
fields_text offset (f ∷ fields) = field_text offset f ++ fields_text (offset + field_size f) fields
