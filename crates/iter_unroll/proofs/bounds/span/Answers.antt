use Rattle.std.proofs.Common.{ap, sym, subst, refl, arith, Some, None}
use Rattle.iter_unroll.specs.Tree.{fsts}
use Rattle.iter_unroll.specs.Uses.{flat_uses}
use Rattle.iter_unroll.specs.Span.{IsSpan}
use Rattle.iter_unroll.specs.unrolling.Bounds.{bounds_of}
use Rattle.iter_unroll.proofs.unrolling.Spans.{Spans, found}
use Rattle.iter_unroll.proofs.bounds.span.Goals as goal

pub overflow_cast-result : goal.overflow_cast-result
overflow_cast-result c =
    let f = found (bounds_of c.wider_row.result) (bounds_of c.wider_row-first.result) (fsts c.as_slice.result.now) (fsts c.as_slice-2.result.now) (fsts c.args.flat.now.end_part) (fsts c.args.flat.now.next_part) c.wider_row-first.ensures c.wider_row.ensures (ap fsts c.as_slice.ensures) (ap fsts c.as_slice-2.ensures) in
    let s : Spans (flat_uses c.args.flat.now) (Some (c.in-Some.b.from, c.in-Some.b.past)) = subst (Spans (flat_uses c.args.flat.now)) (ap bounds_of c.in-Some.is) f in
    let low = s.0 in
    let high = s.2 (0, c.args.flat.now.record_size) c.requires.inside in
    omega (arith, low, high)

pub overflow_sub-result : goal.overflow_sub-result
overflow_sub-result c =
    let f = found (bounds_of c.wider_row.result) (bounds_of c.wider_row-first.result) (fsts c.as_slice.result.now) (fsts c.as_slice-2.result.now) (fsts c.args.flat.now.end_part) (fsts c.args.flat.now.next_part) c.wider_row-first.ensures c.wider_row.ensures (ap fsts c.as_slice.ensures) (ap fsts c.as_slice-2.ensures) in
    let s : Spans (flat_uses c.args.flat.now) (Some (c.in-Some.b.from, c.in-Some.b.past)) = subst (Spans (flat_uses c.args.flat.now)) (ap bounds_of c.in-Some.is) f in
    s.0

pub overflow_cast-result-in-Some : goal.overflow_cast-result-in-Some
overflow_cast-result-in-Some c =
    let f = found (bounds_of c.wider_row.result) (bounds_of c.wider_row-first.result) (fsts c.as_slice.result.now) (fsts c.as_slice-2.result.now) (fsts c.args.flat.now.end_part) (fsts c.args.flat.now.next_part) c.wider_row-first.ensures c.wider_row.ensures (ap fsts c.as_slice.ensures) (ap fsts c.as_slice-2.ensures) in
    let s : Spans (flat_uses c.args.flat.now) (Some (c.in-Some.b.from, c.in-Some.b.past)) = subst (Spans (flat_uses c.args.flat.now)) (ap bounds_of c.in-Some.is) f in
    let high = s.2 (0, c.args.flat.now.record_size) c.requires.inside in
    omega (arith, high)

pub returns-in-None : goal.returns-in-None
returns-in-None c =
    let f = found (bounds_of c.wider_row.result) (bounds_of c.wider_row-first.result) (fsts c.as_slice.result.now) (fsts c.as_slice-2.result.now) (fsts c.args.flat.now.end_part) (fsts c.args.flat.now.next_part) c.wider_row-first.ensures c.wider_row.ensures (ap fsts c.as_slice.ensures) (ap fsts c.as_slice-2.ensures) in
    let s : Spans (flat_uses c.args.flat.now) None = subst (Spans (flat_uses c.args.flat.now)) (ap bounds_of c.in-None.is) f in
    record { least = subst (λ l. IsSpan l (0, 0)) (sym s) refl }

pub returns-in-Some : goal.returns-in-Some
returns-in-Some c =
    let f = found (bounds_of c.wider_row.result) (bounds_of c.wider_row-first.result) (fsts c.as_slice.result.now) (fsts c.as_slice-2.result.now) (fsts c.args.flat.now.end_part) (fsts c.args.flat.now.next_part) c.wider_row-first.ensures c.wider_row.ensures (ap fsts c.as_slice.ensures) (ap fsts c.as_slice-2.ensures) in
    let s : Spans (flat_uses c.args.flat.now) (Some (c.in-Some.b.from, c.in-Some.b.past)) = subst (Spans (flat_uses c.args.flat.now)) (ap bounds_of c.in-Some.is) f in
    record { least = s.1 }
