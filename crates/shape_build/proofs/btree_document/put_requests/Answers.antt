use Rattle.std.proofs.Common.{◌≡◌, ℕ, ◌+◌, ◌*◌, ◌%◌, ◌++◌, codes, refl, arith}
use Rattle.shape_build.specs.Draws.{draw}
use Rattle.shape_build.specs.Requests.{request_text, two, three}
use Rattle.shape_build.specs.Documents.{btree_pair}
use Rattle.shape_build.proofs.Below.{begins, goes_on_by_two}
use Rattle.shape_build.proofs.Drawing.{drawn_so_far, drawn_value, drawn_next}
use Rattle.shape_build.proofs.btree_document.put_requests.Goals as goal

same_pair : (n seed root p m o a b d : ℕ) → m ≡ n → o ≡ n → a ≡ draw seed (n + 3 * p) → b ≡ draw seed (n + 3 * p + 1) → d ≡ draw seed (n + 3 * p + 2) →
    btree_pair n seed root p ≡ request_text (codes "find") (two root (2 * (a % m) + 1)) ++ request_text (codes "put") (three root (2 * (b % o) + 1) d)
same_pair n seed root p m o a b d e f g h i = rw (e, f, g, h, i) refl

pub pairs-init : goal.pairs-init
pairs-init c = (begins _ _, drawn_so_far _ _ (omega arith))

pub pairs-preserved : goal.pairs-preserved
pairs-preserved c =
    let n : ℕ = c.args.n in
    let p : ℕ = c.pairs._p in
    let one : c.draw.new.self ≡ record { seed = c.args.draws.now.seed; count = n + 3 * p + 1 } = drawn_next _ _ _ _ _ c.pairs.invariant.1 c.draw.ensures.next refl in
    let both : c.draw-in-pairs.new.self ≡ record { seed = c.args.draws.now.seed; count = n + 3 * p + 2 } = drawn_next _ _ _ _ _ one c.draw-in-pairs.ensures.next (omega arith) in (
      goes_on_by_two _ _ _ _ _ _ _ _ c.pairs.invariant.0 c.in_ok-put_request_of_two.ensures c.in_ok-put_request_of_three.ensures
          (same_pair _ _ _ _ _ _ _ _ _ c.from.ensures c.from-in-pairs.ensures (drawn_value _ _ _ _ c.pairs.invariant.1 c.draw.ensures.value)
          (drawn_value _ _ _ _ one c.draw-in-pairs.ensures.value) (drawn_value _ _ _ _ both c.draw-in-pairs-2.ensures.value)),
      drawn_next _ _ _ _ _ both c.draw-in-pairs-2.ensures.next (omega arith),
    )
