use Rattle.std.proofs.Common.{ap}
use Rattle.std.specs.FinMap as map
use Rattle.leg_ledger.specs.Legs.{key_cmp}
use Rattle.leg_ledger.proofs.Keys.{from_entries-updated}
use Rattle.leg_ledger.proofs.ledger.Ledger.add.Goals as goal
use Rattle.leg_ledger.proofs.ledger.Ledger.add.Goals.{in-Ok, in-Err}

pub returns-clause-ok : goal.returns-clause-ok
returns-clause-ok c =
    elim c.match-insert.branch [
      | in-Ok w ↦ rw (w.result-is, ← c.self.view_is) (from_entries-updated c.self.inside.legs.entries c.insert.new.self.entries c.args.key c.args.state w.in-Ok.ensures.updates.0)
      | in-Err w ↦ rw w.result-is tt
    ]

pub returns-clause-err : goal.returns-clause-err
returns-clause-err c =
    elim c.match-insert.branch [
      | in-Ok w ↦ rw w.result-is tt
      | in-Err w ↦ rw (w.result-is, ← c.self.view_is) (ap (λ es. map.from_entries {R = key_cmp} es) w.in-Err.ensures.err)
    ]
