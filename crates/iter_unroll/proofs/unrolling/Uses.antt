-- Uses of fields.
use Rattle.std.proofs.Common.{◌≡◌, Option, Some, None, option_map, refl}
use Rattle.iter_syntax.specs.declared.tree.Place.{Place}
use Rattle.iter_syntax.specs.declared.tree.Word.{Word}
use Rattle.iter_syntax.specs.Tree.{Ex, cur_use, pad_use}
use Rattle.iter_unroll.specs.Flat as f
use Rattle.iter_unroll.specs.Uses.{element_of}
use Rattle.iter_unroll.specs.unrolling.Scope.{Env, Shape}
use Rattle.iter_unroll.specs.unrolling.Flattened.{flat_ex}
use Rattle.iter_unroll.specs.unrolling.Views.{number_of}

pub cur_use_is : (sh : Shape) (env : Env) (p : Place) (w : Word) (i : Option Ex) → flat_ex sh env (cur_use p w i) ≡ option_map (λ u. f.cur_field u.0 u.1) (element_of sh.record_fields w (number_of env i))
cur_use_is sh env p w None = refl
cur_use_is sh env p w (Some i) = refl

pub pad_use_is : (sh : Shape) (env : Env) (p : Place) (w : Word) (i : Option Ex) → flat_ex sh env (pad_use p w i) ≡ option_map (λ u. f.pad_field u.0 u.1) (element_of sh.pad_fields w (number_of env i))
pad_use_is sh env p w None = refl
pad_use_is sh env p w (Some i) = refl
