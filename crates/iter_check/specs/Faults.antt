-- Faults of a program, and the order in which they are listed: by place, and at one place in the order of the kinds.
use Rattle.std.specs.Prelude.{ℕ, Bool, true, false, ◌&&◌, ◌||◌, nat_lt, nat_eq, List, [], ◌∷◌, if◌then◌else◌}
use Rattle.iter_syntax.specs.declared.tree.Place.{Place}
use Rattle.iter_check.specs.declared.kind.CheckKind.{CheckKind}
use Rattle.iter_check.specs.declared.kind.CheckKind.TheVariants as k
use Rattle.iter_check.specs.declared.kind.Fault.{Fault}

-- the number of a kind in the order of the kinds
abbrev pub rank : CheckKind → ℕ
rank k.Name = 0
rank k.Typing = 1
rank k.Path = 2
rank k.RecordSize = 3
rank k.PadSize = 4
rank k.ArgCount = 5
rank k.LocalCount = 6
rank k.Depth = 7
rank k.LoopTurns = 8
rank k.Count = 9
rank k.Code = 10
rank k.Index = 11

-- the first of two faults is listed before the second
abbrev pub before : Fault → Fault → Bool
before f g = nat_lt f.place g.place || nat_eq f.place g.place && nat_lt (rank f.kind) (rank g.kind)

-- a list in order with one more fault
abbrev pub put : Fault → List Fault → List Fault
put f [] = f ∷ []
put f (g ∷ gs) = if before g f then g ∷ put f gs else f ∷ g ∷ gs

-- the faults in their order
abbrev pub in_order : List Fault → List Fault
in_order [] = []
in_order (f ∷ fs) = put f (in_order fs)

-- one fault of a kind at a place where the test holds, and none where it does not
abbrev pub fault : CheckKind → Place → Bool → List Fault
fault kind p false = []
fault kind p true = record { kind = kind; place = p.0 } ∷ []
