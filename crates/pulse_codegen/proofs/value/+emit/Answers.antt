-- Calls made one after another put the code of the whole, and there is room for it.
use Rattle.std.proofs.Common.{◌≡◌, ◌+◌, [], ◌∷◌, ◌++◌, length, OnOk, sym, ap, ◌∙◌, subst, arith, false, true, not, length-append}
use Rattle.std.proofs.lemmas.Result.{on_ok_weaker}
use Rattle.iter_unroll.specs.Tree.{fx}
use Rattle.iter_unroll.specs.Limits.{fx_nodes}
use Rattle.flat_code.specs.Operator.{jumps}
use Rattle.flat_code.specs.Code.{Code, code_of, operand, by_way, compare, operand_len}
use Rattle.flat_code.proofs.Long.{code_long, two_length}
use Rattle.pulse_codegen.proofs.Folds.{fx_not, fx_flip, fx_binary}
use Rattle.pulse_codegen.proofs.Emits.{operand_grows, value_grows, branch_grows, compared_grows, two_put, joined_put, branches_put, bit_put, flip_put}
use Rattle.pulse_codegen.proofs.value.+emit.Goals as goal

pub emit_two-emit_operand-requires-2 : goal.emit_two-emit_operand-requires-2
emit_two-emit_operand-requires-2 t c =
    let g = operand_grows (fx c.args.left.now) c.args.t (length c.args.code.now) c.args.code.now c.emit_operand.new.code c.in_ok-a.ensures.code in
    (omega arith, (omega (arith, c.requires.registers), (omega (arith, c.requires.few), omega (arith, g, c.requires.room))))

pub emit_two-returns-clause-code : goal.emit_two-returns-clause-code
emit_two-returns-clause-code t c =
    two_put (code_of (fx c.args.left.now)) (code_of (fx c.args.right.now)) c.args.t c.args.code.now c.emit_operand.new.code c.emit_operand-2.new.code (code_long (fx c.args.left.now)) c.in_ok-a.ensures.code c.in_ok-b.ensures.code

pub branch_joined-emit_branch-requires-2 : goal.branch_joined-emit_branch-requires-2
branch_joined-emit_branch-requires-2 t c =
    let g = branch_grows (fx c.args.left.now) c.args.short c.target.result c.args.t (length c.args.code.now) c.args.code.now c.emit_branch.new.code c.in_ok-emit_branch.ensures in
    (omega arith, (omega (arith, c.requires.registers), (omega (arith, c.requires.few), omega (arith, g, c.requires.room))))

pub emit_joined-emit_value-requires-2 : goal.emit_joined-emit_value-requires-2
emit_joined-emit_value-requires-2 t c =
    let g = value_grows (fx c.args.left.now) c.args.t (length c.args.code.now) c.args.code.now c.emit_value.new.code c.in_ok-emit_value.ensures in
    let k = ap length c.in_ok-push.ensures.ok ∙ length-append c.emit_value.new.code (c.testing.result ∷ []) in
    (omega arith, (omega (arith, c.requires.registers), (omega (arith, c.requires.few), omega (arith, g, k, c.requires.room))))

pub branch_joined-returns : goal.branch_joined-returns
branch_joined-returns t c =
    let a = fx c.args.left.now in
    let b = fx c.args.right.now in
    let ma = c.measure.ensures.lengths in
    let mb = c.measure-2.ensures.lengths in
    on_ok_weaker c.emit_branch-2.result
    (λ q. branches_put c.args.short c.args.sense (code_of a) (code_of b) c.args.to (c.len.result + c.measure.result.branch + c.measure-2.result.branch) c.args.t c.args.code.now c.emit_branch.new.code c.emit_branch-2.new.code (code_long a)
    (omega (arith, c.len.ensures, ma.branch, mb.branch)) (c.in_ok-emit_branch.ensures ∙ ap (λ to. c.args.code.now ++ (code_of a).branch c.args.short to c.args.t (length c.args.code.now)) c.target.ensures) q)
    c.emit_branch-2.ensures

pub emit_joined-returns : goal.emit_joined-returns
emit_joined-returns t c =
    let a = fx c.args.left.now in
    let b = fx c.args.right.now in
    let ma = c.measure.ensures.lengths in
    let mb = c.measure-2.ensures.lengths in
    let past = c.len.result + c.measure.result.value + 1 + c.measure-2.result.value in
    on_ok_weaker c.emit_move.result
    (λ q. joined_put c.args.short (code_of a) (code_of b) c.args.d c.args.t past c.args.code.now c.emit_value.new.code c.push.new.self c.emit_value-2.new.code c.emit_move.new.code (code_long a)
    (omega (arith, c.len.ensures, ma.value, mb.value)) c.in_ok-emit_value.ensures (c.in_ok-push.ensures.ok ∙ ap (λ i. c.emit_value.new.code ++ i ∷ []) c.testing.ensures) c.in_ok-emit_value-2.ensures q)
    c.emit_move.ensures

pub emit_value-emit_bit-requires : goal.emit_value-emit_bit-requires
emit_value-emit_bit-requires t c =
    let e = ap fx_nodes (fx_not c.args.e.now _ c.get-in-Not.result.now c.in-Not.is c.get-in-Not.ensures) in
    let g = branch_grows (fx c.get-in-Not.result.now) true _ c.args.t (length c.args.code.now) c.args.code.now c.emit_branch.new.code c.in_ok-emit_branch-in-Not.ensures in
    record { room = omega (arith, e, g, c.requires.room) }

pub emit_value-returns-in_ok-emit_branch-in-Not : goal.emit_value-returns-in_ok-emit_branch-in-Not
emit_value-returns-in_ok-emit_branch-in-Not t c =
    let of = c.get-in-Not.result.now in
    let a = code_of (fx of) in
    let long = code_long (fx of) in
    let m = c.measure.ensures.lengths in
    let got = ap (λ k. (code_of (fx k)).branch_len) (c.get.ensures ∙ sym c.get-in-Not.ensures) in
    let e = fx_not c.args.e.now _ of c.in-Not.is c.get-in-Not.ensures in
    subst (λ k. OnOk c.emit_bit.result (c.emit_bit.new.code ≡ c.args.code.now ++ (code_of k).value c.args.d c.args.t (length c.args.code.now))) (sym e)
    (on_ok_weaker c.emit_bit.result
    (λ q. bit_put (λ sense. a.branch (not sense)) a.branch_len c.args.d c.args.t (c.len.result + c.measure.result.branch + 2) c.args.code.now c.emit_branch.new.code c.emit_bit.new.code
    (λ sense to t here. long.branch (not sense) to t here) (omega (arith, c.len.ensures, m.branch, got)) c.in_ok-emit_branch-in-Not.ensures q)
    c.emit_bit.ensures)

pub emit_value-returns-in_ok-b-in-Flip : goal.emit_value-returns-in_ok-b-in-Flip
emit_value-returns-in_ok-b-in-Flip t c =
    let of = c.get-in-Flip.result.now in
    let e = fx_flip c.args.e.now _ of c.in-Flip.is c.get-in-Flip.ensures in
    subst (λ k. OnOk c.push-in-Flip.result (c.push-in-Flip.new.self ≡ c.args.code.now ++ (code_of k).value c.args.d c.args.t (length c.args.code.now))) (sym e)
    (on_ok_weaker c.push-in-Flip.result
    (λ q. flip_put (code_of (fx of)) c.args.d c.args.t c.in_ok-b-in-Flip.b c.args.code.now c.emit_operand.new.code c.push-in-Flip.new.self c.in_ok-b-in-Flip.ensures.register c.in_ok-b-in-Flip.ensures.code q)
    c.push-in-Flip.ensures.ok)

pub emit_value-emit_bit-requires-in-Compared : goal.emit_value-emit_bit-requires-in-Compared
emit_value-emit_bit-requires-in-Compared t c =
    let a = fx c.get-in-Compared-3.result.now in
    let b = fx c.get-in-Compared-4.result.now in
    let e = ap fx_nodes (fx_binary c.in-Binary.op c.args.e.now _ _ c.get-in-Compared-3.result.now c.get-in-Compared-4.result.now c.in-Binary.is c.get-in-Compared-3.ensures c.get-in-Compared-4.ensures) in
    let g = compared_grows (jumps c.in-Binary.op) a b false _ c.args.t (length c.args.code.now) c.args.code.now c.emit_compared.new.code c.in_ok-emit_compared-in-Compared.ensures in
    record { room = omega (arith, e, g, c.requires.room) }

pub emit_value-returns-in_ok-emit_compared-in-Compared : goal.emit_value-returns-in_ok-emit_compared-in-Compared
emit_value-returns-in_ok-emit_compared-in-Compared t c =
    let o = c.in-Binary.op in
    let left = c.get-in-Compared-3.result.now in
    let right = c.get-in-Compared-4.result.now in
    let a = code_of (fx left) in
    let b = code_of (fx right) in
    let two = two_length a b (code_long (fx left)) (code_long (fx right)) in
    let ma = c.operand.ensures.length (code_of (fx c.get-in-Compared.result.now)) c.measure-a.ensures.lengths ∙ ap (λ k. operand_len (code_of (fx k))) (c.get-in-Compared.ensures ∙ sym c.get-in-Compared-3.ensures) in
    let mb = c.operand-in-Compared.ensures.length (code_of (fx c.get-in-Compared-2.result.now)) c.measure-b.ensures.lengths ∙ ap (λ k. operand_len (code_of (fx k))) (c.get-in-Compared-2.ensures ∙ sym c.get-in-Compared-4.ensures) in
    let e = ap code_of (fx_binary o c.args.e.now _ _ left right c.in-Binary.is c.get-in-Compared-3.ensures c.get-in-Compared-4.ensures) ∙ ap (λ way. by_way way o a b) (sym c.way_for.ensures ∙ c.in-Compared.is) in
    subst (λ (k : Code). OnOk c.emit_bit-in-Compared.result (c.emit_bit-in-Compared.new.code ≡ c.args.code.now ++ k.value c.args.d c.args.t (length c.args.code.now))) (sym e)
    (on_ok_weaker c.emit_bit-in-Compared.result
    (λ q. bit_put (compare (jumps o) a b).branch (operand_len a + operand_len b + 1) c.args.d c.args.t (c.len-in-Compared.result + (c.operand.result + c.operand-in-Compared.result + 1) + 2) c.args.code.now c.emit_compared.new.code c.emit_bit-in-Compared.new.code
    (λ sense to t here. two t here (jumps o sense (operand a.home t) (operand b.home (t + 1)) to)) (omega (arith, c.len-in-Compared.ensures, ma, mb)) c.in_ok-emit_compared-in-Compared.ensures q)
    c.emit_bit-in-Compared.ensures)
