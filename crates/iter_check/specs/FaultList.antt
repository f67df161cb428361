-- The fault list of a program. A program is accepted where its list is empty.
use Rattle.std.specs.Prelude.{ℕ, ◌+◌, nat_lt, nat_eq, Bool, true, false, ◌&&◌, ◌||◌, List, [], ◌∷◌, ◌++◌, flat_map, slice_get, Option, Some, None, is_some, is_none, option_map, find, bytes_eq, if◌then◌else◌}
use Rattle.iter_syntax.specs.declared.tree.Word.{Word}
use Rattle.iter_syntax.specs.declared.tree.FieldDecl.{FieldDecl}
use Rattle.iter_syntax.specs.declared.tree.RecordDecl.{RecordDecl}
use Rattle.iter_syntax.specs.declared.tree.Arg.{Arg}
use Rattle.iter_syntax.specs.declared.tree.Block.{Block}
use Rattle.iter_syntax.specs.declared.tree.Iter.{Iter}
use Rattle.iter_syntax.specs.declared.tree.Program.{Program}
use Rattle.iter_syntax.specs.Tree.{block}
use Rattle.iter_check.specs.Layout.{text, size_of}
use Rattle.iter_check.specs.declared.kind.CheckKind.{CheckKind}
use Rattle.iter_check.specs.declared.kind.CheckKind.TheVariants as k
use Rattle.iter_check.specs.declared.kind.Fault.{Fault}
use Rattle.iter_check.specs.declared.sort.Sort.{Sort}
use Rattle.iter_check.specs.declared.sort.Sort.TheVariants as s
use Rattle.iter_check.specs.declared.sort.Part.{Part}
use Rattle.iter_check.specs.declared.sort.Part.TheVariants as part
use Rattle.iter_check.specs.Faults.{fault, in_order}
use Rattle.iter_check.specs.Scope.{Scope, Ground, bind}
use Rattle.iter_check.specs.Scoping.{scoping}
use Rattle.iter_check.specs.Paths.{paths, open_end}
use Rattle.iter_check.specs.Nodes.{nodes}
use Rattle.iter_check.specs.Indices.{indices}

-- a word is the name of one of these
abbrev pub names_one : {A : Type 0} → (A → Word) → List A → Word → Bool
names_one name xs w = is_some (find (λ x. bytes_eq (text (name x)) (text w)) xs)

-- no name is that of an earlier one
abbrev pub twice : {A : Type 0} → (A → Word) → List A → List A → List Fault
twice name earlier [] = []
twice name earlier (x ∷ xs) = fault k.Name (name x).place (names_one name earlier (name x)) ++ twice name (earlier ++ x ∷ []) xs

-- a fault at a word, where there is one
abbrev pub at_word : CheckKind → Option Word → List Fault
at_word kind None = []
at_word kind (Some w) = fault kind w.place true

-- there are at most so many
abbrev pub one_more : {A : Type 0} → CheckKind → ℕ → (A → Word) → List A → List Fault
one_more kind most name xs = at_word kind (option_map name (slice_get xs most))

-- the names of a list differ, and there are at most so many
abbrev pub names_faults : {A : Type 0} → CheckKind → ℕ → (A → Word) → List A → List Fault
names_faults kind most name xs = twice name [] xs ++ one_more kind most name xs

abbrev pub is_zero : Option ℕ → Bool
is_zero None = false
is_zero (Some n) = nat_eq n 0

abbrev pub no_fields : List FieldDecl → Bool
no_fields [] = true
no_fields (f ∷ fields) = false

-- a record or a pad has no field, an array of length 0, or more than 256 bytes
abbrev pub bad_size : List FieldDecl → Bool
bad_size fields = no_fields fields || (is_some (find (λ f. is_zero f.len) fields) || nat_lt 256 (size_of fields))

-- the faults of the fields of a record or a pad
abbrev pub fields_faults : CheckKind → Word → List FieldDecl → List Fault
fields_faults kind owner fields = twice (λ f. f.name) [] fields ++ fault kind owner.place (bad_size fields)

-- the record that an iterator is on: the first of that name that stands before it
abbrev pub record_for : List RecordDecl → Iter → Option RecordDecl
record_for records it = find (λ r. nat_lt (r.place).0 (it.place).0 && bytes_eq (text r.name) (text it.on)) records

abbrev pub fields_in : Option RecordDecl → List FieldDecl
fields_in None = []
fields_in (Some r) = r.fields

-- the fields of an iterator's record
abbrev pub record_fields : List RecordDecl → Iter → List FieldDecl
record_fields records it = fields_in (record_for records it)

abbrev pub arg_sort : Arg → Sort
arg_sort a = if a.pointer then s.Ptr else s.Int

-- the arguments in scope
abbrev pub with_args : List Arg → Scope → Scope
with_args [] scope = scope
with_args (a ∷ args) scope = with_args args (bind a.name (Some (arg_sort a)) false scope)

-- where a block of an iterator stands
abbrev pub ground : List RecordDecl → Iter → Part → Ground
ground records it b = record {
  part = b;
  record_fields = record_fields records it;
  pad_fields = it.pad;
}

-- the faults of a block of an iterator
abbrev pub block_faults : Ground → Scope → Block → List Fault
block_faults g scope b = scoping g scope (block b) ++ paths g.part false (block b)

-- the same of a block that must end
abbrev pub ending_faults : Ground → Scope → Block → List Fault
ending_faults g scope b = block_faults g scope b ++ open_end (block b) b.close

-- the faults of an iterator's record, pad and arguments
abbrev pub head_faults : List RecordDecl → Iter → List Fault
head_faults records it =
    fault k.Name (it.on).place (is_none (record_for records it))
    ++ fields_faults k.PadSize it.name it.pad
    ++ names_faults k.ArgCount 8 (λ a. a.name) it.args

abbrev pub iter_faults : List RecordDecl → Iter → List Fault
iter_faults records it =
    head_faults records it
    ++ ending_faults (ground records it part.Init) (with_args it.args []) it.init_part
    ++ block_faults (ground records it part.End) [] it.end_part
    ++ ending_faults (ground records it part.Next) [] it.next_part

abbrev pub record_faults : RecordDecl → List Fault
record_faults r = fields_faults k.RecordSize r.name r.fields

-- all faults but those of Code and Index
abbrev pub first_group : List RecordDecl → List Iter → List Fault
first_group records iters =
    names_faults k.Count 64 (λ r. r.name) records
    ++ names_faults k.Count 64 (λ it. it.name) iters
    ++ flat_map record_faults records
    ++ flat_map (iter_faults records) iters

-- the nodes of the init segment, and of the body segment: end and next together
abbrev pub init_nodes : Iter → ℕ
init_nodes it = nodes (block it.init_part)

abbrev pub body_nodes : Iter → ℕ
body_nodes it = nodes (block it.end_part) + nodes (block it.next_part)

-- each segment has at most 2,000 nodes
abbrev pub code_fault : Iter → List Fault
code_fault it = fault k.Code (it.name).place (nat_lt 2000 (init_nodes it) || nat_lt 2000 (body_nodes it))

abbrev pub code_faults : List Iter → List Fault
code_faults iters = flat_map code_fault iters

abbrev pub iter_indices : List RecordDecl → Iter → List Fault
iter_indices records it =
    indices (ground records it part.Init) [] (block it.init_part)
    ++ indices (ground records it part.End) [] (block it.end_part)
    ++ indices (ground records it part.Next) [] (block it.next_part)

abbrev pub index_faults : List RecordDecl → List Iter → List Fault
index_faults records iters = flat_map (iter_indices records) iters

-- these faults, or where there are none the later ones
abbrev pub or_later : List Fault → List Fault → List Fault
or_later [] later = later
or_later (f ∷ fs) later = f ∷ fs

-- all but Code and Index in their order; where there are none, Code in the order of iterators; where there are
-- none either, Index in its order
abbrev pub fault_list : Program → List Fault
fault_list p =
    or_later
    (in_order (first_group p.records p.iters))
    (or_later (code_faults p.iters) (in_order (index_faults p.records p.iters)))
