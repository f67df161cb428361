-- How a walk begins, by the run of an image's init.
use Rattle.std.specs.Prelude.{ℕ, List, Option, Some, None, slice_get}
use Rattle.pulse_base.specs.declared.plan.RequestPlan.{RequestPlan}
use Rattle.pulse_isa.specs.Step.{End}
use Rattle.pulse_isa.specs.Step as m
use Rattle.code_verify.specs.Run.{run_init}
use Rattle.code_image.specs.declared.image.Image.{Image}
use Rattle.run_rules.specs.Outcome.{Begin}
use Rattle.run_rules.specs.Outcome as o

-- by the end of the run. Init has no record, so a division by zero is its one fault; verified code is never stuck
abbrev pub begun : End → Begin
begun (m.Done bytes pad) = o.Ended pad
begun (m.Goes cur bytes pad) = o.Ready cur pad
begun (m.Faults cause) = o.DivZero
begun m.Stuck = o.DivZero

-- init runs on the arguments and a zero pad
abbrev pub begin : Image → (args : List ℕ) → Begin
begin image args = begun (run_init image.init_code args image.pad_size)

abbrev pub begin_by : Option Image → (args : List ℕ) → Begin
begin_by None args = o.DivZero
begin_by (Some image) args = begin image args

-- the walk of a request begins by the image of its iterator, which a client always has
abbrev pub begin_of : List Image → RequestPlan → Begin
begin_of images plan = begin_by (slice_get images plan.iter) plan.args.items
