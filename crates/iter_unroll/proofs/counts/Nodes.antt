-- Straight code has at most the nodes of the text.
use Rattle.std.proofs.Common.{◌≤◌, Option, Some, None, IfSome, le_refl, arith}
use Rattle.iter_syntax.specs.Tree.{Ex, Sts}
use Rattle.iter_syntax.specs.Tree as t
use Rattle.iter_check.specs.Layout.{text}
use Rattle.iter_check.specs.Nodes.{expr_nodes}
use Rattle.iter_unroll.specs.declared.scope.Meant.{Meant}
use Rattle.iter_unroll.specs.declared.scope.Meant.TheVariants as m
use Rattle.iter_unroll.specs.Flat.{Fx, Fs}
use Rattle.iter_unroll.specs.Flat as f
use Rattle.iter_unroll.specs.Limits.{fx_nodes}
use Rattle.iter_unroll.specs.Uses.{element_of}
use Rattle.iter_unroll.specs.unrolling.Scope.{Env, lookup, Shape, index}
use Rattle.iter_unroll.specs.unrolling.Flattened.{named, flat_ex}
use Rattle.iter_unroll.proofs.meaning.Options.{if_map, if_two}

pub always : {A : Type 0} (o : Option A) → IfSome o (λ x. Unit {0})
always None = tt
always (Some x) = tt

named_one : (x : Meant) → fx_nodes (named x) ≤ 1
named_one (m.Slot k) = le_refl 1
named_one (m.Number i) = le_refl 1
named_one (m.Argument k) = le_refl 1

abbrev pub ExNodes : Ex → Fx → Type 0
ExNodes e x = fx_nodes x ≤ expr_nodes e

pub nodes_ex : (sh : Shape) (env : Env) (e : Ex) → IfSome (flat_ex sh env e) (ExNodes e)
nodes_ex sh env (t.num p k) = le_refl 1
nodes_ex sh env (t.null p) = le_refl 1
nodes_ex sh env (t.name w) = if_map (lookup (text w) env) named (λ x. Unit {0}) (ExNodes (t.name w)) (always (lookup (text w) env)) (λ x h. named_one x)
nodes_ex sh env (t.cur p) = le_refl 1
nodes_ex sh env (t.cur_field p w) = if_map (element_of sh.record_fields w (Some 0)) _ (λ u. Unit {0}) (ExNodes (t.cur_field p w)) (always (element_of sh.record_fields w (Some 0))) (λ u h. le_refl 1)
nodes_ex sh env (t.cur_item p w i) = if_map (element_of sh.record_fields w (index env i)) _ (λ u. Unit {0}) (ExNodes (t.cur_item p w i)) (always (element_of sh.record_fields w (index env i))) (λ u h. le_refl 1)
nodes_ex sh env (t.pad_field p w) = if_map (element_of sh.pad_fields w (Some 0)) _ (λ u. Unit {0}) (ExNodes (t.pad_field p w)) (always (element_of sh.pad_fields w (Some 0))) (λ u h. le_refl 1)
nodes_ex sh env (t.pad_item p w i) = if_map (element_of sh.pad_fields w (index env i)) _ (λ u. Unit {0}) (ExNodes (t.pad_item p w i)) (always (element_of sh.pad_fields w (index env i))) (λ u h. le_refl 1)
nodes_ex sh env (t.not p e) = if_map (flat_ex sh env e) f.not (ExNodes e) (ExNodes (t.not p e)) (nodes_ex sh env e) (λ x h. omega (arith, h))
nodes_ex sh env (t.flip p e) = if_map (flat_ex sh env e) f.flip (ExNodes e) (ExNodes (t.flip p e)) (nodes_ex sh env e) (λ x h. omega (arith, h))
nodes_ex sh env (t.bin p o a b) =
    if_two (f.bin o) (flat_ex sh env a) (flat_ex sh env b) (ExNodes a) (ExNodes b) (ExNodes (t.bin p o a b)) (nodes_ex sh env a) (nodes_ex sh env b) (λ x y h k. omega (arith, h, k))
nodes_ex sh env (t.at p a b) =
    if_two f.at (flat_ex sh env a) (flat_ex sh env b) (ExNodes a) (ExNodes b) (ExNodes (t.at p a b)) (nodes_ex sh env a) (nodes_ex sh env b) (λ x y h k. omega (arith, h, k))
