use Rattle.std.proofs.Common.{ℕ, ◌≡◌, ◌+◌, ◌-◌, ◌*◌, ◌++◌, codes, min, refl, ap, ◌∙◌}
use Rattle.shape_build.specs.declared.tree.Level.{Level}
use Rattle.shape_build.specs.Text.{below, short, byte}
use Rattle.shape_build.specs.Tree.{tree_address, filled, group_text}
use Rattle.shape_build.proofs.Below.{joined_five}
use Rattle.shape_build.proofs.tree.put_group.Goals as goal

same_group : (l : Level) (g count : ℕ) → count ≡ min (l.size - 16 * g) 16 →
    short (count - 1) ++ byte 0 ++ below 15 (filled (count - 1) (λ j. 2 * (l.keys * (16 * g + j + 1)) + 1))
    ++ below 16 (filled count (λ j. tree_address (l.first + 16 * g + j))) ++ codes "0000000000"
    ≡ group_text l g
unfolding group_text
same_group l g count f = rw f refl

pub returns : goal.returns
returns c =
    joined_five _ _ _ _ _ _ _ _ _ _ _ c.in_ok-put_short.ensures c.in_ok-put_byte.ensures c.in_ok-put_least_keys.ensures c.in_ok-put_addresses.ensures c.in_ok-put.ensures
    ∙ ap (λ t. c.args.text.now ++ t) (same_group _ _ _ c.min-count.ensures)
