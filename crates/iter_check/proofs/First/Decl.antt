-- What the checker keeps of declarations, of iterators and of whole programs is the first of their faults.
use Rattle.std.proofs.Common.{ℕ, false, List, []}
use Rattle.std.specs.Prelude.{is_none}
use Rattle.iter_syntax.specs.declared.tree.Word.{Word}
use Rattle.iter_syntax.specs.declared.tree.FieldDecl.{FieldDecl}
use Rattle.iter_syntax.specs.declared.tree.RecordDecl.{RecordDecl}
use Rattle.iter_syntax.specs.declared.tree.Block.{Block}
use Rattle.iter_syntax.specs.declared.tree.Iter.{Iter}
use Rattle.iter_syntax.specs.Tree.{block}
use Rattle.iter_check.specs.declared.kind.CheckKind.{CheckKind}
use Rattle.iter_check.specs.declared.kind.CheckKind.TheVariants as k
use Rattle.iter_check.specs.declared.sort.Part.TheVariants as part
use Rattle.iter_check.specs.Faults.{fault}
use Rattle.iter_check.specs.Scope.{Scope, Ground}
use Rattle.iter_check.specs.Paths.{open_end}
use Rattle.iter_check.specs.FaultList as fl
use Rattle.iter_check.specs.First.Decl as fd
use Rattle.iter_check.proofs.First.Keeps.{Firsts, listed, next, each_is}
use Rattle.iter_check.proofs.First.Stmt.{first_scoping_is}
use Rattle.iter_check.proofs.First.Rest.{first_paths_is, first_indices_is}
use Rattle.iter_check.proofs.DeclLaws.{first_twice_is}

names_is : {A : Type 0} (kind : CheckKind) (most : ℕ) (name : A → Word) (xs : List A) → Firsts (fd.first_names kind most name xs) (fl.names_faults kind most name xs)
names_is kind most name xs = next (first_twice_is name [] xs) (listed (fl.one_more kind most name xs))

fields_is : (kind : CheckKind) (owner : Word) (fields : List FieldDecl) → Firsts (fd.first_fields kind owner fields) (fl.fields_faults kind owner fields)
fields_is kind owner fields = next (first_twice_is (λ f. f.name) [] fields) (listed (fault kind owner.place (fl.bad_size fields)))

block_is : (g : Ground) (scope : Scope) (b : Block) → Firsts (fd.first_block g scope b) (fl.block_faults g scope b)
block_is g scope b = next (first_scoping_is g scope (block b)) (first_paths_is g.part false (block b))

ending_is : (g : Ground) (scope : Scope) (b : Block) → Firsts (fd.first_ending g scope b) (fl.ending_faults g scope b)
ending_is g scope b = next (block_is g scope b) (listed (open_end (block b) b.close))

head_is : (records : List RecordDecl) (it : Iter) → Firsts (fd.first_head records it) (fl.head_faults records it)
head_is records it =
    next
    (next (listed (fault k.Name (it.on).place (is_none (fl.record_for records it)))) (fields_is k.PadSize it.name it.pad))
    (names_is k.ArgCount 8 (λ a. a.name) it.args)

iter_is : (records : List RecordDecl) (it : Iter) → Firsts (fd.first_iter records it) (fl.iter_faults records it)
iter_is records it =
    next
    (next
    (next (head_is records it) (ending_is (fl.ground records it part.Init) (fl.with_args it.args []) it.init_part))
    (block_is (fl.ground records it part.End) [] it.end_part))
    (ending_is (fl.ground records it part.Next) [] it.next_part)

pub group_is : (records : List RecordDecl) (iters : List Iter) → Firsts (fd.first_of_group records iters) (fl.first_group records iters)
group_is records iters =
    next
    (next
    (next (names_is k.Count 64 (λ r. r.name) records) (names_is k.Count 64 (λ it. it.name) iters))
    (each_is (λ r. fields_is k.RecordSize r.name r.fields) records))
    (each_is (iter_is records) iters)

pub iter_indices_is : (records : List RecordDecl) (it : Iter) → Firsts (fd.first_iter_indices records it) (fl.iter_indices records it)
iter_indices_is records it =
    next
    (next
    (first_indices_is (fl.ground records it part.Init) [] (block it.init_part))
    (first_indices_is (fl.ground records it part.End) [] (block it.end_part)))
    (first_indices_is (fl.ground records it part.Next) [] (block it.next_part))
