-- What was drawn so far, and the next draw.
use Rattle.std.proofs.Common.{ℕ, ◌≡◌, ◌+◌, ap, ◌∙◌}
use Rattle.shape_build.specs.Draws.{Drawn, draw}

pub drawn_so_far : (d : Drawn) (count : ℕ) → d.count ≡ count → d ≡ record { seed = d.seed; count = count }
drawn_so_far d count e = ap (λ k. record { seed = d.seed; count = k }) e

pub drawn_value : (seed count a : ℕ) (was : Drawn) → was ≡ record { seed = seed; count = count } → a ≡ draw was.seed was.count → a ≡ draw seed count
drawn_value seed count a was p e = e ∙ ap (λ (w : Drawn). draw w.seed w.count) p

pub drawn_to : (seed count to next : ℕ) (was after : Drawn) → was ≡ record { seed = seed; count = count } →
    after ≡ record was { count = to } → to ≡ next → after ≡ record { seed = seed; count = next }
drawn_to seed count to next was after p q e = q ∙ ap (λ (w : Drawn). record w { count = to }) p ∙ ap (λ k. record { seed = seed; count = k }) e

pub drawn_next : (seed count next : ℕ) (was after : Drawn) → was ≡ record { seed = seed; count = count } →
    after ≡ record was { count = was.count + 1 } → count + 1 ≡ next → after ≡ record { seed = seed; count = next }
drawn_next seed count next was after p q e = q ∙ ap (λ (w : Drawn). record w { count = w.count + 1 }) p ∙ ap (λ k. record { seed = seed; count = k }) e
