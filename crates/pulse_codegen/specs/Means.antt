-- When an image means an iterator: its sizes are the iterator's, a run of its body is an iteration, and a run of its
-- init begins a walk.
use Rattle.std.specs.Prelude.{◌≡◌, ◌<◌, ◌^◌, ℕ, Bool, List, length, All}
use Rattle.pulse_base.specs.declared.answer.Cause.TheVariants.{DivZero}
use Rattle.iter_syntax.specs.declared.tree.FieldDecl.{FieldDecl}
use Rattle.iter_syntax.specs.declared.tree.Iter.{Iter}
use Rattle.iter_check.specs.Layout.{size_of}
use Rattle.iter_check.specs.Iteration.{Iterated, iteration, Begun, begin}
use Rattle.iter_check.specs.Iteration as i
use Rattle.pulse_isa.specs.Step.{End}
use Rattle.pulse_isa.specs.Step as m
use Rattle.code_verify.specs.Run.{run_body, run_init, argument_bytes}
use Rattle.code_image.specs.declared.image.Image.{Image}

-- how a run ends that does an iteration
abbrev pub end_of : Iterated → End
end_of (i.Done bytes pad) = m.Done bytes pad
end_of (i.Goes to bytes pad) = m.Goes to bytes pad
end_of (i.Fault cause) = m.Faults cause

-- how a run ends that begins a walk: the arguments are left as they were
abbrev pub start_of : (args : List ℕ) → Begun → End
start_of args (i.Ready cur pad) = m.Goes cur (argument_bytes args) pad
start_of args (i.Ended pad) = m.Done (argument_bytes args) pad
start_of args i.DivZero = m.Faults DivZero

-- the image means the iterator on a record with these fields
pub record Means (fields : List FieldDecl) (it : Iter) (image : Image) : Type 0 where
  pub record_size : image.record_size ≡ size_of fields
  pub pad_size : image.pad_size ≡ size_of it.pad
  pub args : image.args ≡ length it.args
  pub body : (bytes pad : List ℕ) (cur : ℕ) (writable : Bool) → length bytes ≡ image.record_size → length pad ≡ image.pad_size
      → run_body image.body_code bytes pad cur writable ≡ end_of (iteration fields it bytes cur pad writable)
  pub init : (args : List ℕ) → length args ≡ image.args → All (λ v. v < 2 ^ 64) args
      → run_init image.init_code args image.pad_size ≡ start_of args (begin it args)
