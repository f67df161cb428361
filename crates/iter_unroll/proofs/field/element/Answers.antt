use Rattle.std.proofs.Common.{arith}
use Rattle.iter_unroll.proofs.unrolling.Elements.{element_at}
use Rattle.iter_unroll.proofs.field.element.Goals as goal

pub overflow_mul-result : goal.overflow_mul-result
overflow_mul-result c =
    let e = element_at c.args.fields.now c.args.word.now c.args.k c.find_field.result c.in-Some.slot c.width_bytes.result c.requires.size c.find_field.ensures c.in-Some.is c.if-k-slot.true c.width_bytes.ensures.value in
    let small = e.small in
    omega (arith, small)

pub overflow_add-result : goal.overflow_add-result
overflow_add-result c =
    let e = element_at c.args.fields.now c.args.word.now c.args.k c.find_field.result c.in-Some.slot c.width_bytes.result c.requires.size c.find_field.ensures c.in-Some.is c.if-k-slot.true c.width_bytes.ensures.value in
    let fits = e.fits in
    omega (arith, fits)

pub overflow_cast-result : goal.overflow_cast-result
overflow_cast-result c =
    let e = element_at c.args.fields.now c.args.word.now c.args.k c.find_field.result c.in-Some.slot c.width_bytes.result c.requires.size c.find_field.ensures c.in-Some.is c.if-k-slot.true c.width_bytes.ensures.value in
    let fits = e.fits in
    omega (arith, fits)

pub returns-then-k-slot : goal.returns-then-k-slot
returns-then-k-slot c =
    let e = element_at c.args.fields.now c.args.word.now c.args.k c.find_field.result c.in-Some.slot c.width_bytes.result c.requires.size c.find_field.ensures c.in-Some.is c.if-k-slot.true c.width_bytes.ensures.value in
    e.is
