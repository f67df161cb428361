use Rattle.std.proofs.Common.{◌≡◌, ℕ, ◌+◌, ◌-◌, ◌*◌, Bool, List, [], ◌∷◌, ◌++◌, length, drop}
use Rattle.iter_syntax.specs.Tree.{ex}
use Rattle.iter_check.specs.Indices as ix
use Rattle.iter_check.proofs.loops.+turns.Given as goal

-- the turns that are left decide, and the numbers are as they were
pub record Left (holds : ℕ → Bool) (first i past : ℕ) (old now : List ℕ) : Type 0 where
  pub some : ix.for_some first (past - first) holds ≡ ix.for_some i (past - i) holds
  pub same : now ≡ old

abbrev pub invariant-in_turns-turns : goal.invariant-in_turns-turns
invariant-in_turns-turns l =
    Left (λ i. ix.in_some_turn (drop (length l.fn.turn.items + 1) l.loops) (l.fn.turn.items ++ i ∷ []) (ix.out_of l.loops (ex l.index) l.len))
    l.first l.i l.past l.fn.turn.items l.turn.items

abbrev pub decreases-in_turns-turns : goal.decreases-in_turns-turns
decreases-in_turns-turns l = l.past - l.i

abbrev pub decreases-in_some_turn : goal.decreases-in_some_turn
decreases-in_some_turn l = 2 * (length l.loops.now - length l.turn.now.items) + 1

abbrev pub decreases-in_turns : goal.decreases-in_turns
decreases-in_turns l = 2 * (length l.loops.now - length l.turn.now.items)
