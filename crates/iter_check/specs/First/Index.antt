-- The first fault of indices.
use Rattle.std.specs.Prelude.{List, [], ◌∷◌, ◌++◌, Option, Some, None}
use Rattle.iter_syntax.specs.declared.tree.Word.{Word}
use Rattle.iter_syntax.specs.declared.tree.FieldDecl.{FieldDecl}
use Rattle.iter_syntax.specs.Tree.{Ex, Sts}
use Rattle.iter_syntax.specs.Tree as t
use Rattle.iter_check.specs.declared.kind.Fault.{Fault}
use Rattle.iter_check.specs.declared.loops.Loop.{Loop}
use Rattle.iter_check.specs.Scope.{Ground}
use Rattle.iter_check.specs.Indices.{index_fault, loop_of}
use Rattle.iter_check.specs.First.Least.{least}

abbrev pub first_expr_index : Ground → List Loop → Ex → Option Fault → Option Fault
first_expr_index g loops (t.cur_item p w i) best = first_expr_index g loops i (least best (index_fault g.record_fields loops w i))
first_expr_index g loops (t.pad_item p w i) best = first_expr_index g loops i (least best (index_fault g.pad_fields loops w i))
first_expr_index g loops (t.not p e) best = first_expr_index g loops e best
first_expr_index g loops (t.flip p e) best = first_expr_index g loops e best
first_expr_index g loops (t.bin p o a b) best = first_expr_index g loops b (first_expr_index g loops a best)
first_expr_index g loops (t.at p a b) best = first_expr_index g loops b (first_expr_index g loops a best)
first_expr_index g loops e best = best

abbrev pub first_use_index : Ground → List FieldDecl → List Loop → Word → Option Ex → Option Fault → Option Fault
first_use_index g fields loops w None best = best
first_use_index g fields loops w (Some i) best = first_expr_index g loops i (least best (index_fault fields loops w i))

abbrev pub first_indices : Ground → List Loop → Sts → Option Fault → Option Fault
first_indices g loops t.end best = best
first_indices g loops (t.bind p w e rest) best = first_indices g loops rest (first_expr_index g loops e best)
first_indices g loops (t.set p w e rest) best = first_indices g loops rest (first_expr_index g loops e best)
first_indices g loops (t.set_pad p w e rest) best = first_indices g loops rest (first_expr_index g loops e best)
first_indices g loops (t.set_pad_item p w i e rest) best =
    first_indices g loops rest (first_expr_index g loops e (first_expr_index g loops (t.pad_item p w i) best))
first_indices g loops (t.set_cur p w e rest) best = first_indices g loops rest (first_expr_index g loops e best)
first_indices g loops (t.set_cur_item p w i e rest) best =
    first_indices g loops rest (first_expr_index g loops e (first_expr_index g loops (t.cur_item p w i) best))
first_indices g loops (t.when p c first rest) best =
    first_indices g loops rest (first_indices g loops first (first_expr_index g loops c best))
first_indices g loops (t.choose p c first other rest) best =
    first_indices g loops rest (first_indices g loops other (first_indices g loops first (first_expr_index g loops c best)))
first_indices g loops (t.loop p w first past body rest) best =
    first_indices g loops rest (first_indices g (loops ++ loop_of w first past ∷ []) body best)
first_indices g loops (t.done p rest) best = first_indices g loops rest best
first_indices g loops (t.go p e rest) best = first_indices g loops rest (first_expr_index g loops e best)
