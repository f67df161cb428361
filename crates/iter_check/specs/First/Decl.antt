-- The first fault of declarations, of iterators and of whole programs.
use Rattle.std.specs.Prelude.{ℕ, nat_lt, Bool, false, not, ◌||◌, List, [], ◌∷◌, ◌++◌, Option, Some, None, is_none, if◌then◌else◌}
use Rattle.iter_syntax.specs.declared.tree.Word.{Word}
use Rattle.iter_syntax.specs.declared.tree.FieldDecl.{FieldDecl}
use Rattle.iter_syntax.specs.declared.tree.RecordDecl.{RecordDecl}
use Rattle.iter_syntax.specs.declared.tree.Block.{Block}
use Rattle.iter_syntax.specs.declared.tree.Iter.{Iter}
use Rattle.iter_syntax.specs.Tree.{block}
use Rattle.iter_check.specs.declared.kind.CheckKind.{CheckKind}
use Rattle.iter_check.specs.declared.kind.CheckKind.TheVariants as k
use Rattle.iter_check.specs.declared.kind.Fault.{Fault}
use Rattle.iter_check.specs.declared.sort.Part.TheVariants as part
use Rattle.iter_check.specs.Scope.{Scope, Ground}
use Rattle.iter_check.specs.Paths.{ends}
use Rattle.iter_check.specs.FaultList.{names_one, one_more, bad_size, record_for, with_args, ground, init_nodes, body_nodes}
use Rattle.iter_check.specs.First.Least.{least, note, each}
use Rattle.iter_check.specs.First.Stmt.{first_scoping}
use Rattle.iter_check.specs.First.Path.{first_paths}
use Rattle.iter_check.specs.First.Index.{first_indices}
use Rattle.iter_check.specs.First.Count.{up_to}

abbrev pub first_twice : {A : Type 0} → (A → Word) → List A → List A → Option Fault → Option Fault
first_twice name earlier [] best = best
first_twice name earlier (x ∷ xs) best =
    first_twice name (earlier ++ x ∷ []) xs (note k.Name (name x).place (names_one name earlier (name x)) best)

abbrev pub first_fields : CheckKind → Word → List FieldDecl → Option Fault → Option Fault
first_fields kind owner fields best = note kind owner.place (bad_size fields) (first_twice (λ f. f.name) [] fields best)

-- the names of some things, of which there are at most so many
abbrev pub first_names : {A : Type 0} → CheckKind → ℕ → (A → Word) → List A → Option Fault → Option Fault
first_names kind most name xs best = least (first_twice name [] xs best) (one_more kind most name xs)

abbrev pub first_block : Ground → Scope → Block → Option Fault → Option Fault
first_block g scope b best = first_paths g.part false (block b) (first_scoping g scope (block b) best)

-- a block that must end
abbrev pub first_ending : Ground → Scope → Block → Option Fault → Option Fault
first_ending g scope b best = note k.Path b.close (not (ends (block b))) (first_block g scope b best)

abbrev pub first_head : List RecordDecl → Iter → Option Fault → Option Fault
first_head records it best =
    first_names k.ArgCount 8 (λ a. a.name) it.args
    (first_fields k.PadSize it.name it.pad (note k.Name (it.on).place (is_none (record_for records it)) best))

abbrev pub first_iter : List RecordDecl → Iter → Option Fault → Option Fault
first_iter records it best =
    first_ending (ground records it part.Next) [] it.next_part
    (first_block (ground records it part.End) [] it.end_part
    (first_ending (ground records it part.Init) (with_args it.args []) it.init_part (first_head records it best)))

abbrev pub first_record : RecordDecl → Option Fault → Option Fault
first_record r best = first_fields k.RecordSize r.name r.fields best

-- all but Code and Index
abbrev pub first_of_group : List RecordDecl → List Iter → Option Fault → Option Fault
first_of_group records iters best =
    each (first_iter records) iters
    (each first_record records
    (first_names k.Count 64 (λ it. it.name) iters (first_names k.Count 64 (λ r. r.name) records best)))

abbrev pub first_iter_indices : List RecordDecl → Iter → Option Fault → Option Fault
first_iter_indices records it best =
    first_indices (ground records it part.Next) [] (block it.next_part)
    (first_indices (ground records it part.End) [] (block it.end_part)
    (first_indices (ground records it part.Init) [] (block it.init_part) best))

abbrev pub too_many_nodes : Iter → Bool
too_many_nodes it = nat_lt 2000 (up_to (init_nodes it)) || nat_lt 2000 (up_to (body_nodes it))

abbrev pub first_code : List Iter → Option Fault
first_code [] = None
first_code (it ∷ iters) = if too_many_nodes it then Some (record { kind = k.Code; place = ((it.name).place).0 }) else first_code iters

-- the first of a group, or where there is none that of the later ones
abbrev pub or_first : Option Fault → Option Fault → Option Fault
or_first None later = later
or_first (Some f) later = Some f

abbrev pub first_later : List RecordDecl → List Iter → Option Fault
first_later records iters = or_first (first_code iters) (each (first_iter_indices records) iters None)

abbrev pub first_fault : List RecordDecl → List Iter → Option Fault
first_fault records iters = or_first (first_of_group records iters None) (first_later records iters)
