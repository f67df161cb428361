-- The Stops that are sent, one port after the other.
use Rattle.std.proofs.Common.{◌≡◌, ℕ, zero, suc, ◌+◌, [], ◌++◌, Option, sym, ap, subst, ◌∙◌, arith, add-zero, zero-add, add-one}
use Rattle.pulse_base.specs.Link.{Traffic}
use Rattle.pulse_serve.specs.Frames.{Grew}
use Rattle.pulse_serve.proofs.Traffics.{grew_more}
use Rattle.pulse_cluster.specs.Cluster.{three_stops, node_stops}

one_node_more : (port n count : ℕ) → node_stops port n (suc count) ≡ node_stops port n count ++ three_stops (port + 1 + (n + count))
one_node_more port n zero = ap (λ m. three_stops (port + 1 + m)) (sym (add-zero n))
one_node_more port n (suc count) =
    let e : suc n + count ≡ n + suc count = omega arith in
    ap (λ l. three_stops (port + 1 + n) ++ l) (one_node_more port (suc n) count ∙ ap (λ m. node_stops port (suc n) count ++ three_stops (port + 1 + m)) e)

-- one node more was stopped
pub next_stops : (a b c : Option Traffic) (port n : ℕ) → Grew a b [] (node_stops port 0 n) → Grew b c [] (three_stops (port + 1 + n)) → Grew a c [] (node_stops port 0 (n + 1))
next_stops a b c port n g h =
    subst (λ l. Grew a c [] l)
    (sym (ap (node_stops port 0) (add-one n) ∙ one_node_more port 0 n ∙ ap (λ m. node_stops port 0 n ++ three_stops (port + 1 + m)) (zero-add n)))
    (grew_more a b c [] [] (node_stops port 0 n) (three_stops (port + 1 + n)) g h)
