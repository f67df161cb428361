-- Each event of a world, for nodes of any kind, keeps what is always true of a run.
use Rattle.pulse_base.specs.declared.event.Event.{Event}
use Rattle.pulse_base.specs.declared.event.Trace.{Trace}
use Rattle.run_laws.specs.Flat.{Flat}
use Rattle.run_views.specs.Setting.{Setting, IsSetting}
use Rattle.event_run.specs.World.{WorldState}
use Rattle.event_run.specs.Always.{HasNumbers, IsRun, IsEventOf}
use Rattle.world_core.specs.Runs.{Steps}

abbrev pub StepKeepsRun : Type 0
StepKeepsRun =
    (u : Setting) (start : Flat) (w v : WorldState) (e : Event) (t : Trace)
    → IsSetting u → HasNumbers u → IsEventOf w e → IsRun u start w → Steps u w v e t → IsRun u start v
