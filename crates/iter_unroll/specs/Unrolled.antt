-- What the straight code of an iterator is held to.
use Rattle.std.specs.Prelude.{◌≡◌, ℕ, ◌+◌, ◌≤◌, Bool, List, [], length, slice_get, Some, Result, IfOk}
use Rattle.pulse_base.specs.declared.listed.Memory.{Memory}
use Rattle.iter_syntax.specs.declared.tree.FieldDecl.{FieldDecl}
use Rattle.iter_syntax.specs.declared.tree.Iter.{Iter}
use Rattle.iter_syntax.specs.declared.tree.Program.{Program}
use Rattle.iter_check.specs.Layout.{size_of}
use Rattle.iter_check.specs.FaultList.{record_fields}
use Rattle.iter_check.specs.Iteration.{iteration, begin}
use Rattle.iter_unroll.specs.declared.tree.Flat.{Flat}
use Rattle.iter_unroll.specs.Flat.{flat_iteration, flat_begin}
use Rattle.iter_unroll.specs.Tree.{fsts}
use Rattle.iter_unroll.specs.Limits.{init_reach, body_reach, Keeps, fs_nodes}

-- where there is an answer, something holds of the fields of the iterator's record, of the iterator and of the answer
abbrev pub Unrolls : Program → ℕ → Result Flat Memory → (List FieldDecl → Iter → Flat → Type 0) → Type 0
Unrolls p i result Q = (it : Iter) → slice_get p.iters i ≡ Some it → IfOk result (Q (record_fields p.records it) it)

-- it tells the bytes of record and pad, and the number of arguments
abbrev pub HasSizes : List FieldDecl → Iter → Flat → Type 0
HasSizes fields it flat = (flat.record_size ≡ size_of fields) × (flat.pad_size ≡ size_of it.pad) × (flat.args ≡ length it.args)

-- an iteration by straight code is one by the text: for all bytes of a record and of a pad, any pointer and both permissions
abbrev pub Iterates : List FieldDecl → Iter → Flat → Type 0
Iterates fields it flat =
    (record_bytes : List ℕ) (cur : ℕ) (pad : List ℕ) (writable : Bool)
    → flat_iteration (record { args = []; cur = cur; writable = writable }) (fsts flat.end_part) (fsts flat.next_part) record_bytes pad
    ≡ iteration fields it record_bytes cur pad writable

-- a walk begins by straight code as by the text
abbrev pub Begins : List FieldDecl → Iter → Flat → Type 0
Begins fields it flat =
    (values : List ℕ) → length values ≡ flat.args → flat_begin (fsts flat.init_part) values flat.pad_size ≡ begin it values

-- each part keeps to what is there
abbrev pub KeepsAll : Flat → Type 0
KeepsAll flat =
    Keeps (init_reach flat) (fsts flat.init_part)
    × Keeps (body_reach flat) (fsts flat.end_part)
    × Keeps (body_reach flat) (fsts flat.next_part)

-- the nodes of init, and those of end and next together
abbrev pub FewNodes : Flat → Type 0
FewNodes flat =
    (fs_nodes (fsts flat.init_part) ≤ 2000)
    × (fs_nodes (fsts flat.end_part) + fs_nodes (fsts flat.next_part) ≤ 2000)

-- records and pads have 1 to 256 bytes, and there are at most 8 arguments
abbrev pub SmallSizes : Flat → Type 0
SmallSizes flat = (1 ≤ flat.record_size) × (flat.record_size ≤ 256) × (1 ≤ flat.pad_size) × (flat.pad_size ≤ 256) × (flat.args ≤ 8)
