-- Where the fields of a record or of a pad lie: in the order of the text, with nothing between them.
use Rattle.std.specs.Prelude.{ℕ, ◌+◌, ◌*◌, List, [], ◌∷◌, Option, Some, None, unwrap_or, sum_by, bytes_eq, if◌then◌else◌}
use Rattle.iter_syntax.specs.declared.tree.Word.{Word}
use Rattle.iter_syntax.specs.declared.tree.Width.{Width}
use Rattle.iter_syntax.specs.declared.tree.Width.TheVariants.{U8, U16, U32, U64, Ptr}
use Rattle.iter_syntax.specs.declared.tree.FieldDecl.{FieldDecl}
use Rattle.iter_syntax.specs.declared.tree.RecordDecl.{RecordDecl}

-- the letters of a word
abbrev pub text : Word → List ℕ
text w = w.text.items

-- how many bytes a width has
abbrev pub width_bytes : Width → ℕ
width_bytes U8 = 1
width_bytes U16 = 2
width_bytes U32 = 4
width_bytes U64 = 8
width_bytes Ptr = 8

-- how many elements a field has: the length of an array, and 1 for any other field
abbrev pub elements : FieldDecl → ℕ
elements f = unwrap_or f.len 1

-- how many bytes a field has
abbrev pub field_size : FieldDecl → ℕ
field_size f = elements f * width_bytes f.width

-- how many bytes a record or a pad has
abbrev pub size_of : List FieldDecl → ℕ
size_of fields = sum_by field_size fields

-- a field's place: its offset, the width of an element, and the number of elements
pub record Slot : Type 0 where
  pub offset : ℕ
  pub width : Width
  pub count : ℕ

-- the place of the first field of a name, where the fields lie from an offset on
abbrev pub find_from : ℕ → List ℕ → List FieldDecl → Option Slot
find_from offset name [] = None
find_from offset name (f ∷ fields) =
    if bytes_eq (text f.name) name
    then Some (record { offset = offset; width = f.width; count = elements f })
    else find_from (offset + field_size f) name fields

-- the place of a field by its name
abbrev pub find_field : List FieldDecl → List ℕ → Option Slot
find_field fields name = find_from 0 name fields

-- the fields of the first record of a name, and none where no record has it
abbrev pub fields_of : List RecordDecl → List ℕ → List FieldDecl
fields_of [] name = []
fields_of (r ∷ records) name = if bytes_eq (text r.name) name then r.fields else fields_of records name
