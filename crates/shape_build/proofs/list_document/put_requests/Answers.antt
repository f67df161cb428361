use Rattle.std.proofs.Common.{◌≡◌, ℕ, ◌+◌, ◌*◌, ◌%◌, ◌++◌, codes, decimal, refl, arith}
use Rattle.shape_build.specs.Draws.{draw}
use Rattle.shape_build.specs.Requests.{request_text, two}
use Rattle.shape_build.specs.Documents.{list_pair}
use Rattle.shape_build.proofs.Below.{begins, goes_on_by_two}
use Rattle.shape_build.proofs.Drawing.{drawn_so_far, drawn_value, drawn_next}
use Rattle.shape_build.proofs.list_document.put_requests.Goals as goal

same_pair : (n seed p m a : ℕ) → m ≡ n → a ≡ draw seed (n + p) →
    list_pair n seed p ≡ request_text (codes "find") (two 65536 (2 * (a % m) + 1)) ++ request_text (codes "bump") (decimal 65536)
same_pair n seed p m a e d = rw (e, d) refl

pub pairs-init : goal.pairs-init
pairs-init c = (begins _ _, drawn_so_far _ _ (omega arith))

pub pairs-preserved : goal.pairs-preserved
pairs-preserved c = (
  goes_on_by_two _ _ _ _ _ _ _ _ c.pairs.invariant.0 c.in_ok-put_request_of_two.ensures c.in_ok-put_request_of_one.ensures
      (same_pair _ _ _ _ _ c.from.ensures (drawn_value _ _ _ _ c.pairs.invariant.1 c.draw.ensures.value)),
  drawn_next _ _ _ _ _ c.pairs.invariant.1 c.draw.ensures.next (omega arith),
)
