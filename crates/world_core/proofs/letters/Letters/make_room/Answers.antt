use Rattle.std.proofs.Common.{◌≤◌, length, sym, subst}
use Rattle.world_core.specs.inner.Notes.{AreNotes}
use Rattle.world_core.proofs.letters.Letters.make_room.Goals as goal

pub invariant_of-self : goal.invariant_of-self
invariant_of-self c = (subst (λ b. AreNotes b c.self.inside.notes.items) (sym c.reserve.ensures.items) c.self.invariant.0, c.self.invariant.1)

pub invariant_of-self-in_err-reserve-2 : goal.invariant_of-self-in_err-reserve-2
invariant_of-self-in_err-reserve-2 c = (
  subst (λ b. AreNotes b c.reserve-2.new.self.items) (sym c.reserve.ensures.items) (subst (AreNotes c.self.inside.bytes.items) (sym c.reserve-2.ensures.items) c.self.invariant.0),
  subst (λ ns. length ns ≤ 4000000000) (sym c.reserve-2.ensures.items) c.self.invariant.1,
)

pub invariant_of-self-2 : goal.invariant_of-self-2
invariant_of-self-2 c = (
  subst (λ b. AreNotes b c.reserve-2.new.self.items) (sym c.reserve.ensures.items) (subst (AreNotes c.self.inside.bytes.items) (sym c.reserve-2.ensures.items) c.self.invariant.0),
  subst (λ ns. length ns ≤ 4000000000) (sym c.reserve-2.ensures.items) c.self.invariant.1,
)
