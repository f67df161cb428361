use Rattle.std.proofs.Common.{refl}
use Rattle.pulse_cli.proofs.Endings.{ends_as, of_status, other}
use Rattle.pulse_cli.proofs.top.pulse.Goals as goal

pub returns-in-Err-clause-ends : goal.returns-in-Err-clause-ends
returns-in-Err-clause-ends g c = ends_as _ _ _ _ _ _ _ _ c.in-Err.failure _ c.in-Err.ensures.comes c.fail.ensures

pub returns-in-Err-clause-counts : goal.returns-in-Err-clause-counts
returns-in-Err-clause-counts g c = λ l k m w.
    let own = of_status _ _ c.in-Err.failure _ c.fail.ensures l k m w in
    c.in-Err.ensures.counts (other _ _ _ refl own.link) (other _ _ _ refl own.child) (other _ _ _ refl own.memory)
