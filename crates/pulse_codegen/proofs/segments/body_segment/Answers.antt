-- The code of end, and then that of next, for which there is room.
use Rattle.std.proofs.Common.{◌∙◌, ◌++◌, [], ◌∷◌, length, ap, sym, subst, arith}
use Rattle.pulse_isa.specs.declared.instr.Instr.TheVariants.{Load}
use Rattle.iter_unroll.specs.Limits.{body_reach, fs_nodes}
use Rattle.iter_unroll.specs.Tree.{fsts}
use Rattle.flat_code.specs.Segments.{body_code}
use Rattle.pulse_codegen.specs.Shallow.{IsShallow}
use Rattle.pulse_codegen.proofs.Rows.{grows}
use Rattle.pulse_codegen.proofs.Whole.{keeps_shallow, body_put}
use Rattle.pulse_codegen.proofs.segments.body_segment.Goals as goal

pub emit_statements-requires-clause-shallow : goal.emit_statements-requires-clause-shallow
emit_statements-requires-clause-shallow c =
    subst (λ l. IsShallow (fsts l)) (sym c.as_slice.ensures) (keeps_shallow (body_reach c.args.flat.now) (fsts c.args.flat.now.end_part) c.requires.ends)

pub emit_statements-requires-2-clause-shallow : goal.emit_statements-requires-2-clause-shallow
emit_statements-requires-2-clause-shallow c =
    subst (λ l. IsShallow (fsts l)) (sym c.as_slice-2.ensures) (keeps_shallow (body_reach c.args.flat.now) (fsts c.args.flat.now.next_part) c.requires.next)

pub emit_statements-requires-2-clause-room : goal.emit_statements-requires-2-clause-room
emit_statements-requires-2-clause-room c =
    let h = subst (λ l. IsShallow (fsts l)) (sym c.as_slice.ensures) (keeps_shallow (body_reach c.args.flat.now) (fsts c.args.flat.now.end_part) c.requires.ends) in
    let g = grows c.push.new.self c.emit_statements.new.code (fsts c.as_slice.result.now) h c.in_ok-emit_statements.ensures in
    let one = ap length (c.in_ok-push.ensures.ok ∙ ap (λ l. l ++ Load c.args.off c.args.len ∷ []) c.new-code.ensures) in
    let e = ap (λ l. fs_nodes (fsts l)) c.as_slice.ensures in
    let n = ap (λ l. fs_nodes (fsts l)) c.as_slice-2.ensures in
    omega (arith, g, one, e, n, c.requires.few)

pub returns : goal.returns
returns c =
    let h = subst (λ l. IsShallow (fsts l)) (sym c.as_slice.ensures) (keeps_shallow (body_reach c.args.flat.now) (fsts c.args.flat.now.end_part) c.requires.ends) in
    body_put c.args.off c.args.len (fsts c.as_slice.result.now) (fsts c.as_slice-2.result.now) c.new-code.result c.push.new.self c.emit_statements.new.code c.emit_statements-2.new.code c.push-2.new.self h
    c.new-code.ensures c.in_ok-push.ensures.ok c.in_ok-emit_statements.ensures c.in_ok-emit_statements-2.ensures c.in_ok-push-2.ensures.ok
    ∙ ap (λ l. body_code c.args.off c.args.len (fsts l) (fsts c.as_slice-2.result.now)) c.as_slice.ensures
    ∙ ap (λ l. body_code c.args.off c.args.len (fsts c.args.flat.now.end_part) (fsts l)) c.as_slice-2.ensures
