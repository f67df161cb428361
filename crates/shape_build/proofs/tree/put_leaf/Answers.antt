use Rattle.std.proofs.Common.{ℕ, ◌≡◌, ◌+◌, ◌-◌, ◌*◌, ◌++◌, codes, min, refl, ap, ◌∙◌}
use Rattle.shape_build.specs.Draws.{draw}
use Rattle.shape_build.specs.Text.{below, short, byte}
use Rattle.shape_build.specs.Tree.{filled, leaf_text}
use Rattle.shape_build.proofs.Below.{joined_five}
use Rattle.shape_build.proofs.tree.put_leaf.Goals as goal

same_leaf : (n seed l m count first : ℕ) → m ≡ n → count ≡ min (m - 15 * l) 15 → first ≡ 15 * l →
    short count ++ byte 1 ++ below 15 (filled count (λ j. 2 * (15 * l + j) + 1)) ++ below 16 (filled count (λ j. draw seed (first + j))) ++ codes "0000000000"
    ≡ leaf_text n seed l
unfolding leaf_text
same_leaf n seed l m count first e f g = rw (f, e, g) refl

pub returns-clause-leaf : goal.returns-clause-leaf
returns-clause-leaf c =
    joined_five _ _ _ _ _ _ _ _ _ _ _ c.in_ok-put_short.ensures c.in_ok-put_byte.ensures c.in_ok-put_odd_keys.ensures c.in_ok-put_drawn_kids.ensures.kids c.in_ok-put.ensures
    ∙ ap (λ t. c.args.text.now ++ t) (same_leaf _ _ _ _ _ _ c.from.ensures c.min-count.ensures c.requires.drawn)
