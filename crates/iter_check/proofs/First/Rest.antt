-- What the checker keeps of paths and of indices is the first of their faults.
use Rattle.std.proofs.Common.{Bool, true, false, ◌&&◌, ◌||◌, List, [], ◌∷◌, ◌++◌}
use Rattle.iter_syntax.specs.Tree.{Ex, Sts}
use Rattle.iter_syntax.specs.Tree as t
use Rattle.iter_check.specs.declared.sort.Part.{Part}
use Rattle.iter_check.specs.declared.kind.CheckKind.TheVariants as k
use Rattle.iter_check.specs.declared.loops.Loop.{Loop}
use Rattle.iter_check.specs.Faults.{fault}
use Rattle.iter_check.specs.Scope.{Ground}
use Rattle.iter_check.specs.Paths.{ends, is_next, is_end, paths}
use Rattle.iter_check.specs.Indices.{index_fault, expr_indices, loop_of, indices}
use Rattle.iter_check.specs.First.Path.{first_paths}
use Rattle.iter_check.specs.First.Index.{first_expr_index, first_indices}
use Rattle.iter_check.proofs.First.Keeps.{Firsts, nothing, listed, next}

pub first_paths_is : (b : Part) (late : Bool) (ss : Sts) → Firsts (first_paths b late ss) (paths b late ss)
first_paths_is b late t.end = nothing
first_paths_is b late (t.bind p w e rest) = next (listed (fault k.Path p late)) (first_paths_is b late rest)
first_paths_is b late (t.set p w e rest) = next (listed (fault k.Path p late)) (first_paths_is b late rest)
first_paths_is b late (t.set_pad p w e rest) = next (listed (fault k.Path p late)) (first_paths_is b late rest)
first_paths_is b late (t.set_pad_item p w i e rest) = next (listed (fault k.Path p late)) (first_paths_is b late rest)
first_paths_is b late (t.set_cur p w e rest) = next (listed (fault k.Path p late)) (first_paths_is b late rest)
first_paths_is b late (t.set_cur_item p w i e rest) = next (listed (fault k.Path p late)) (first_paths_is b late rest)
first_paths_is b late (t.when p c first rest) = next (next (listed (fault k.Path p late)) (first_paths_is b false first)) (first_paths_is b late rest)
first_paths_is b late (t.choose p c first other rest) =
    next (next (next (listed (fault k.Path p late)) (first_paths_is b false first)) (first_paths_is b false other))
    (first_paths_is b (ends first && ends other || late) rest)
first_paths_is b late (t.loop p w first past body rest) =
    next (next (next (listed (fault k.Path p late)) (first_paths_is b false body)) (listed (fault k.Path p (ends body)))) (first_paths_is b late rest)
first_paths_is b late (t.done p rest) = next (next (listed (fault k.Path p late)) (listed (fault k.Path p (is_next b)))) (first_paths_is b true rest)
first_paths_is b late (t.go p e rest) = next (next (listed (fault k.Path p late)) (listed (fault k.Path p (is_end b)))) (first_paths_is b true rest)

pub first_expr_index_is : (g : Ground) (loops : List Loop) (e : Ex) → Firsts (first_expr_index g loops e) (expr_indices g loops e)
first_expr_index_is g loops (t.num p n) = nothing
first_expr_index_is g loops (t.null p) = nothing
first_expr_index_is g loops (t.name w) = nothing
first_expr_index_is g loops (t.cur p) = nothing
first_expr_index_is g loops (t.cur_field p w) = nothing
first_expr_index_is g loops (t.cur_item p w i) = next (listed (index_fault g.record_fields loops w i)) (first_expr_index_is g loops i)
first_expr_index_is g loops (t.pad_field p w) = nothing
first_expr_index_is g loops (t.pad_item p w i) = next (listed (index_fault g.pad_fields loops w i)) (first_expr_index_is g loops i)
first_expr_index_is g loops (t.not p e) = first_expr_index_is g loops e
first_expr_index_is g loops (t.flip p e) = first_expr_index_is g loops e
first_expr_index_is g loops (t.bin p o a b) = next (first_expr_index_is g loops a) (first_expr_index_is g loops b)
first_expr_index_is g loops (t.at p a b) = next (first_expr_index_is g loops a) (first_expr_index_is g loops b)

pub first_indices_is : (g : Ground) (loops : List Loop) (ss : Sts) → Firsts (first_indices g loops ss) (indices g loops ss)
first_indices_is g loops t.end = nothing
first_indices_is g loops (t.bind p w e rest) = next (first_expr_index_is g loops e) (first_indices_is g loops rest)
first_indices_is g loops (t.set p w e rest) = next (first_expr_index_is g loops e) (first_indices_is g loops rest)
first_indices_is g loops (t.set_pad p w e rest) = next (first_expr_index_is g loops e) (first_indices_is g loops rest)
first_indices_is g loops (t.set_pad_item p w i e rest) =
    next (next (first_expr_index_is g loops (t.pad_item p w i)) (first_expr_index_is g loops e)) (first_indices_is g loops rest)
first_indices_is g loops (t.set_cur p w e rest) = next (first_expr_index_is g loops e) (first_indices_is g loops rest)
first_indices_is g loops (t.set_cur_item p w i e rest) =
    next (next (first_expr_index_is g loops (t.cur_item p w i)) (first_expr_index_is g loops e)) (first_indices_is g loops rest)
first_indices_is g loops (t.when p c first rest) = next (next (first_expr_index_is g loops c) (first_indices_is g loops first)) (first_indices_is g loops rest)
first_indices_is g loops (t.choose p c first other rest) =
    next (next (next (first_expr_index_is g loops c) (first_indices_is g loops first)) (first_indices_is g loops other)) (first_indices_is g loops rest)
first_indices_is g loops (t.loop p w first past body rest) = next (first_indices_is g (loops ++ loop_of w first past ∷ []) body) (first_indices_is g loops rest)
first_indices_is g loops (t.done p rest) = first_indices_is g loops rest
first_indices_is g loops (t.go p e rest) = next (first_expr_index_is g loops e) (first_indices_is g loops rest)
