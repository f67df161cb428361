-- The first of some faults.
use Rattle.std.specs.Prelude.{Bool, List, [], ◌∷◌, Option, Some, None, if◌then◌else◌}
use Rattle.iter_syntax.specs.declared.tree.Place.{Place}
use Rattle.iter_check.specs.declared.kind.CheckKind.{CheckKind}
use Rattle.iter_check.specs.declared.kind.Fault.{Fault}
use Rattle.iter_check.specs.Faults.{before, fault}

-- the first of a fault that is known and of one more
abbrev pub better : Option Fault → Fault → Option Fault
better None f = Some f
better (Some g) f = if before f g then Some f else Some g

-- the first of a fault that is known and of others
abbrev pub least : Option Fault → List Fault → Option Fault
least best [] = best
least best (f ∷ fs) = least (better best f) fs

-- the same with a fault of a kind at a place, where the test holds
abbrev pub note : CheckKind → Place → Bool → Option Fault → Option Fault
note kind p holds best = least best (fault kind p holds)

-- the first of what each of some things adds
abbrev pub each : {A : Type 0} → (A → Option Fault → Option Fault) → List A → Option Fault → Option Fault
each f [] best = best
each f (x ∷ xs) best = each f xs (f x best)
