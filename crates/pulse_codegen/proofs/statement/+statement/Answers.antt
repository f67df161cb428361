-- Each statement puts its code behind what is there, and there is room for it.
use Rattle.std.proofs.Common.{◌+◌, ◌++◌, [], ◌∷◌, length, ap, subst, ◌∙◌, arith, false}
use Rattle.std.proofs.lemmas.Result.{on_ok_weaker}
use Rattle.pulse_isa.specs.declared.instr.Instr.TheVariants as i
use Rattle.iter_check.specs.Layout.{width_bytes}
use Rattle.iter_unroll.specs.Flat.{end}
use Rattle.iter_unroll.specs.Flat as x
use Rattle.iter_unroll.specs.Limits.{fs_nodes}
use Rattle.iter_unroll.specs.Tree.{fx, fsts}
use Rattle.flat_code.specs.Statements.{leaves, over, over_len}
use Rattle.pulse_codegen.specs.Shallow.{IsShallow}
use Rattle.pulse_codegen.proofs.Emits.{branch_grows}
use Rattle.pulse_codegen.proofs.Folds.{fst_local, fst_pad, fst_cur, fst_if, fst_done, fst_go}
use Rattle.pulse_codegen.proofs.Rows.{grows, over_short, put_more, puts_as, slot_puts, taken_puts, done_puts, if_puts}
use Rattle.pulse_codegen.proofs.statement.+statement.Goals as goal

pub emit_if-emit_statements-requires : goal.emit_if-emit_statements-requires
emit_if-emit_statements-requires t c =
    let g = branch_grows (fx c.args.test.now) false _ 8 (length c.args.code.now) c.args.code.now c.emit_branch.new.code c.in_ok-emit_branch.ensures in
    (omega arith, (c.requires.shallow.1, (omega (arith, c.requires.few), omega (arith, g, c.requires.room))))

pub emit_if-emit_statements-requires-2 : goal.emit_if-emit_statements-requires-2
emit_if-emit_statements-requires-2 t c =
    let g = branch_grows (fx c.args.test.now) false _ 8 (length c.args.code.now) c.args.code.now c.emit_branch.new.code c.in_ok-emit_branch.ensures in
    let k = grows c.emit_branch.new.code c.emit_statements.new.code (fsts c.args.yes.now) c.requires.shallow.1 c.in_ok-emit_statements.ensures in
    let o = over_short c.extent_of-first.result.leaves c.extent_of-other.result.len _ c.emit_statements.new.code c.emit_over.new.code c.in_ok-emit_over.ensures in
    (omega arith, (c.requires.shallow.2, (omega (arith, c.requires.few), omega (arith, g, k, o, c.requires.room))))

pub emit_if-returns : goal.emit_if-returns
emit_if-returns t c =
    let e = fx c.args.test.now in
    let first = fsts c.args.yes.now in
    let other = fsts c.args.no.now in
    let len1 = c.extent_of-first.ensures.len in
    let len2 = c.extent_of-other.ensures.len in
    let left = c.extent_of-first.ensures.leaves in
    let over_is = c.jumps_over.ensures.over ∙ ap (λ b. over_len b c.extent_of-other.result.len) left ∙ ap (λ n. over_len (leaves first) n) len2 in
    let m = c.measure.ensures.lengths in
    let else_at = c.len.result + c.measure.result.branch + c.extent_of-first.result.len + c.jumps_over.result in
    on_ok_weaker c.emit_statements-2.result
    (λ q. if_puts e first other else_at c.args.code.now c.emit_branch.new.code c.emit_statements.new.code c.emit_over.new.code c.emit_statements-2.new.code c.requires.shallow.1 c.requires.shallow.2
    (omega (arith, c.len.ensures, m.branch, len1, over_is))
    c.in_ok-emit_branch.ensures c.in_ok-emit_statements.ensures
    (c.in_ok-emit_over.ensures ∙ ap (λ b. c.emit_statements.new.code ++ over b c.extent_of-other.result.len (else_at + c.extent_of-other.result.len)) left ∙ ap (λ n. c.emit_statements.new.code ++ over (leaves first) n (else_at + n)) len2)
    q)
    c.emit_statements-2.ensures

pub emit_statement-emit_if-requires : goal.emit_statement-emit_if-requires
emit_statement-emit_if-requires t c =
    let is = fst_if c.args.stmt.now c.in-If.test _ _ c.as_slice.result.now c.as_slice-in-If.result.now c.in-If.is c.as_slice.ensures c.as_slice-in-If.ensures end in
    let e = ap fs_nodes is in
    (omega (arith, e), (subst IsShallow is c.requires.shallow, (omega (arith, e, c.requires.few), omega (arith, e, c.requires.room))))

pub emit_statement-returns-in-If : goal.emit_statement-returns-in-If
emit_statement-returns-in-If t c =
    let is = fst_if c.args.stmt.now c.in-If.test _ _ c.as_slice.result.now c.as_slice-in-If.result.now c.in-If.is c.as_slice.ensures c.as_slice-in-If.ensures in
    on_ok_weaker c.emit_if.result
    (λ q. puts_as c.args.code.now c.emit_if.new.code c.args.stmt.now (x.choose (fx c.in-If.test) (fsts c.as_slice.result.now) (fsts c.as_slice-in-If.result.now)) is q)
    c.emit_if.ensures

pub emit_statement-returns-in-Local : goal.emit_statement-returns-in-Local
emit_statement-returns-in-Local t c =
    let is = fst_local c.args.stmt.now c.in-Local.slot c.in-Local.value c.in-Local.is in
    let h = subst IsShallow (is end) c.requires.shallow in
    on_ok_weaker c.emit_value.result
    (λ q. puts_as c.args.code.now c.emit_value.new.code c.args.stmt.now (x.put_slot c.in-Local.slot (fx c.in-Local.value)) is (slot_puts c.in-Local.slot (fx c.in-Local.value) c.args.code.now c.emit_value.new.code h.0 q))
    c.emit_value.ensures

pub emit_statement-returns-in_ok-a-in-Pad : goal.emit_statement-returns-in_ok-a-in-Pad
emit_statement-returns-in_ok-a-in-Pad t c =
    let u = c.in-Pad.target in
    let e = fx c.in-Pad.value in
    let c1 = c.emit_operand.new.code in
    let is = fst_pad c.args.stmt.now u c.in-Pad.value c.in-Pad.is in
    on_ok_weaker c.push.result
    (λ q. puts_as c.args.code.now c.push.new.self c.args.stmt.now (x.put_pad u.off u.width e) is
    (λ rest. taken_puts e (λ r. i.PutP r (width_bytes u.width) u.off) c.in_ok-a-in-Pad.a c.args.code.now c1 c.push.new.self rest c.in_ok-a-in-Pad.ensures.register c.in_ok-a-in-Pad.ensures.code
    (q ∙ ap (λ w. c1 ++ i.PutP c.in_ok-a-in-Pad.a w c.from.result ∷ []) c.bytes.ensures ∙ ap (λ n. c1 ++ i.PutP c.in_ok-a-in-Pad.a (width_bytes u.width) n ∷ []) c.from.ensures)))
    c.push.ensures.ok

pub emit_statement-returns-in_ok-a-in-Cur : goal.emit_statement-returns-in_ok-a-in-Cur
emit_statement-returns-in_ok-a-in-Cur t c =
    let u = c.in-Cur.target in
    let e = fx c.in-Cur.value in
    let c1 = c.emit_operand-in-Cur.new.code in
    let is = fst_cur c.args.stmt.now u c.in-Cur.value c.in-Cur.is in
    on_ok_weaker c.push-in-Cur.result
    (λ q. puts_as c.args.code.now c.push-in-Cur.new.self c.args.stmt.now (x.put_cur u.off u.width e) is
    (λ rest. taken_puts e (λ r. i.PutW r (width_bytes u.width) u.off) c.in_ok-a-in-Cur.a c.args.code.now c1 c.push-in-Cur.new.self rest c.in_ok-a-in-Cur.ensures.register c.in_ok-a-in-Cur.ensures.code
    (q ∙ ap (λ w. c1 ++ i.PutW c.in_ok-a-in-Cur.a w c.from-in-Cur.result ∷ []) c.bytes-in-Cur.ensures ∙ ap (λ n. c1 ++ i.PutW c.in_ok-a-in-Cur.a (width_bytes u.width) n ∷ []) c.from-in-Cur.ensures)))
    c.push-in-Cur.ensures.ok

pub emit_statement-returns-in-Done : goal.emit_statement-returns-in-Done
emit_statement-returns-in-Done t c =
    on_ok_weaker c.push-in-Done.result
    (λ q. puts_as c.args.code.now c.push-in-Done.new.self c.args.stmt.now x.done (fst_done c.args.stmt.now c.in-Done.is) (λ rest. done_puts i.Return c.args.code.now c.push-in-Done.new.self rest q))
    c.push-in-Done.ensures.ok

pub emit_statement-returns-in_ok-a-in-Go : goal.emit_statement-returns-in_ok-a-in-Go
emit_statement-returns-in_ok-a-in-Go t c =
    let e = fx c.in-Go.to in
    on_ok_weaker c.push-in-Go.result
    (λ q. puts_as c.args.code.now c.push-in-Go.new.self c.args.stmt.now (x.go e) (fst_go c.args.stmt.now c.in-Go.to c.in-Go.is)
    (λ rest. taken_puts e i.NextIter c.in_ok-a-in-Go.a c.args.code.now c.emit_operand-in-Go.new.code c.push-in-Go.new.self rest c.in_ok-a-in-Go.ensures.register c.in_ok-a-in-Go.ensures.code q))
    c.push-in-Go.ensures.ok

pub emit_statements-row-preserved : goal.emit_statements-row-preserved
emit_statements-row-preserved t c =
    put_more c.args.code.now c.row.code c.emit_statement.new.code c.args.stmts.now c.row.stmt-index c.stmt-item.result c.row-test.true c.stmt-item.is c.row.invariant c.in_ok-emit_statement.ensures
