use Rattle.std.proofs.Common.{◌≡◌, Option, None, IsSome, ap, sym, ◌∙◌, subst}
use Rattle.std.specs.FinMap as map
use Rattle.std.specs.Map.{lookup}
use Rattle.std.specs.Option.{option_copied_mut}
use Rattle.leg_ledger.specs.declared.leg.LegState.{LegState}
use Rattle.leg_ledger.specs.Legs.{Legs}
use Rattle.leg_ledger.proofs.Keys.{key_eq, get-entries, from_entries-updated}
use Rattle.leg_ledger.proofs.ledger.Ledger.change.Goals as goal
use Rattle.leg_ledger.proofs.ledger.Ledger.change.Goals.{in-Some, in_default}

known : (c : goal.Joined-get_mut) → IsSome (lookup (key_eq c.args.key) c.self.inside.legs.entries)
known c =
    subst (λ (o : Option LegState). IsSome o) (ap (λ (m : Legs). map.get m c.args.key) (sym c.self.view_is) ∙ get-entries c.self.inside.legs.entries c.args.key) c.requires

pub returns : goal.returns
returns c =
    elim c.match-get_mut.branch [
      | in-Some w ↦ rw (w.self-inside-is, ← c.self.view_is) (from_entries-updated c.self.inside.legs.entries (c.get_mut.follows.lender c.args.state).entries c.args.key c.args.state ((c.get_mut.follows.holds c.args.state).3 (known c)).0)
      | in_default w ↦
          let none : lookup (key_eq c.args.key) c.self.inside.legs.entries ≡ None = sym c.get_mut.ensures.value ∙ ap option_copied_mut w.in_default.is in
          absurd (let some = subst (λ (o : Option LegState). IsSome o) none (known c) in cc)
    ]
