use Rattle.std.proofs.Common.{◌≡◌, ◌∙◌, ap, sym}
use Rattle.iter_syntax.specs.declared.tree.Program.{Program}
use Rattle.iter_check.specs.Layout.{size_of}
use Rattle.iter_unroll.specs.declared.tree.Flat.{Flat}
use Rattle.iter_unroll.specs.Uses.{flat_uses, iter_uses}
use Rattle.iter_unroll.specs.Unrolled.{HasSizes, Iterates, Begins}
use Rattle.iter_unroll.proofs.unrolling.Iterators.{known, read_is, init_there, end_there, next_there, fields_small, pads_small, made, has_sizes, iterates, begins, keeps_all, few_nodes, uses_are, all_held, small_sizes, of_iter}
use Rattle.iter_unroll.proofs.whole.unroll.Goals as goal

pub unroll_init-requires-clause-pad : goal.unroll_init-requires-clause-pad
unroll_init-requires-clause-pad c =
    let k = known c.args.checked.now c.args.iter c.iter-it.result.now c.as_slice-records.result.now c.record_fields.result.now c.iter-it.ensures.accepted c.iter-it.ensures.value (c.as_slice-records.ensures ∙ ap (λ (x : Program). x.records) c.program.ensures.same) c.record_fields.ensures in
    k.right.pad_size.1

pub unroll_init-requires-clause-args : goal.unroll_init-requires-clause-args
unroll_init-requires-clause-args c =
    let k = known c.args.checked.now c.args.iter c.iter-it.result.now c.as_slice-records.result.now c.record_fields.result.now c.iter-it.ensures.accepted c.iter-it.ensures.value (c.as_slice-records.ensures ∙ ap (λ (x : Program). x.records) c.program.ensures.same) c.record_fields.ensures in
    k.right.args

pub unroll_init-requires-clause-there : goal.unroll_init-requires-clause-there
unroll_init-requires-clause-there c =
    let k = known c.args.checked.now c.args.iter c.iter-it.result.now c.as_slice-records.result.now c.record_fields.result.now c.iter-it.ensures.accepted c.iter-it.ensures.value (c.as_slice-records.ensures ∙ ap (λ (x : Program). x.records) c.program.ensures.same) c.record_fields.ensures in
    init_there c.args.checked.now c.args.iter c.iter-it.result.now c.record_fields.result.now k

pub unroll_part-requires-clause-shape : goal.unroll_part-requires-clause-shape
unroll_part-requires-clause-shape c =
    let k = known c.args.checked.now c.args.iter c.iter-it.result.now c.as_slice-records.result.now c.record_fields.result.now c.iter-it.ensures.accepted c.iter-it.ensures.value (c.as_slice-records.ensures ∙ ap (λ (x : Program). x.records) c.program.ensures.same) c.record_fields.ensures in
    (fields_small c.args.checked.now c.args.iter c.iter-it.result.now c.record_fields.result.now k, pads_small c.args.checked.now c.args.iter c.iter-it.result.now c.record_fields.result.now c.as_slice.result.now c.as_slice.ensures k)

pub unroll_part-requires-clause-there : goal.unroll_part-requires-clause-there
unroll_part-requires-clause-there c =
    let k = known c.args.checked.now c.args.iter c.iter-it.result.now c.as_slice-records.result.now c.record_fields.result.now c.iter-it.ensures.accepted c.iter-it.ensures.value (c.as_slice-records.ensures ∙ ap (λ (x : Program). x.records) c.program.ensures.same) c.record_fields.ensures in
    end_there c.args.checked.now c.args.iter c.iter-it.result.now c.record_fields.result.now c.as_slice.result.now c.as_slice.ensures k

pub unroll_part-requires-2-clause-shape : goal.unroll_part-requires-2-clause-shape
unroll_part-requires-2-clause-shape c =
    let k = known c.args.checked.now c.args.iter c.iter-it.result.now c.as_slice-records.result.now c.record_fields.result.now c.iter-it.ensures.accepted c.iter-it.ensures.value (c.as_slice-records.ensures ∙ ap (λ (x : Program). x.records) c.program.ensures.same) c.record_fields.ensures in
    (fields_small c.args.checked.now c.args.iter c.iter-it.result.now c.record_fields.result.now k, pads_small c.args.checked.now c.args.iter c.iter-it.result.now c.record_fields.result.now c.as_slice.result.now c.as_slice.ensures k)

pub unroll_part-requires-2-clause-there : goal.unroll_part-requires-2-clause-there
unroll_part-requires-2-clause-there c =
    let k = known c.args.checked.now c.args.iter c.iter-it.result.now c.as_slice-records.result.now c.record_fields.result.now c.iter-it.ensures.accepted c.iter-it.ensures.value (c.as_slice-records.ensures ∙ ap (λ (x : Program). x.records) c.program.ensures.same) c.record_fields.ensures in
    next_there c.args.checked.now c.args.iter c.iter-it.result.now c.record_fields.result.now c.as_slice.result.now c.as_slice.ensures k

pub returns-clause-sizes : goal.returns-clause-sizes
returns-clause-sizes c =
    let k = known c.args.checked.now c.args.iter c.iter-it.result.now c.as_slice-records.result.now c.record_fields.result.now c.iter-it.ensures.accepted c.iter-it.ensures.value (c.as_slice-records.ensures ∙ ap (λ (x : Program). x.records) c.program.ensures.same) c.record_fields.ensures in
    let flat : Flat = record { record_size = c.record_size.result; pad_size = c.pad_size.result; args = c.arg_count.result; init_part = c.in_ok-init_part.init_part; end_part = c.in_ok-end_part.end_part; next_part = c.in_ok-next_part.next_part } in
    let m = made c.args.checked.now c.args.iter c.iter-it.result.now c.record_fields.result.now c.as_slice.result.now flat
    c.as_slice.ensures c.in_ok-init_part.ensures c.in_ok-end_part.ensures c.in_ok-next_part.ensures
    (read_is _ _ c.iter-it.result.now c.record_size.result c.iter-it.ensures.value c.record_size.ensures.value ∙ ap size_of (sym k.fields_are))
    (read_is _ _ c.iter-it.result.now c.pad_size.result c.iter-it.ensures.value c.pad_size.ensures.value)
    (read_is _ _ c.iter-it.result.now c.arg_count.result c.iter-it.ensures.value c.arg_count.ensures.value) in
    λ it h. of_iter c.args.checked.now c.args.iter c.iter-it.result.now it c.record_fields.result.now (λ fields x. HasSizes fields x flat) k h (has_sizes c.record_fields.result.now c.iter-it.result.now flat m)

pub returns-clause-small : goal.returns-clause-small
returns-clause-small c =
    let k = known c.args.checked.now c.args.iter c.iter-it.result.now c.as_slice-records.result.now c.record_fields.result.now c.iter-it.ensures.accepted c.iter-it.ensures.value (c.as_slice-records.ensures ∙ ap (λ (x : Program). x.records) c.program.ensures.same) c.record_fields.ensures in
    let flat : Flat = record { record_size = c.record_size.result; pad_size = c.pad_size.result; args = c.arg_count.result; init_part = c.in_ok-init_part.init_part; end_part = c.in_ok-end_part.end_part; next_part = c.in_ok-next_part.next_part } in
    let m = made c.args.checked.now c.args.iter c.iter-it.result.now c.record_fields.result.now c.as_slice.result.now flat
    c.as_slice.ensures c.in_ok-init_part.ensures c.in_ok-end_part.ensures c.in_ok-next_part.ensures
    (read_is _ _ c.iter-it.result.now c.record_size.result c.iter-it.ensures.value c.record_size.ensures.value ∙ ap size_of (sym k.fields_are))
    (read_is _ _ c.iter-it.result.now c.pad_size.result c.iter-it.ensures.value c.pad_size.ensures.value)
    (read_is _ _ c.iter-it.result.now c.arg_count.result c.iter-it.ensures.value c.arg_count.ensures.value) in
    small_sizes c.args.checked.now c.args.iter c.iter-it.result.now c.record_fields.result.now flat k m

pub returns-clause-iterations : goal.returns-clause-iterations
returns-clause-iterations c =
    let k = known c.args.checked.now c.args.iter c.iter-it.result.now c.as_slice-records.result.now c.record_fields.result.now c.iter-it.ensures.accepted c.iter-it.ensures.value (c.as_slice-records.ensures ∙ ap (λ (x : Program). x.records) c.program.ensures.same) c.record_fields.ensures in
    let flat : Flat = record { record_size = c.record_size.result; pad_size = c.pad_size.result; args = c.arg_count.result; init_part = c.in_ok-init_part.init_part; end_part = c.in_ok-end_part.end_part; next_part = c.in_ok-next_part.next_part } in
    let m = made c.args.checked.now c.args.iter c.iter-it.result.now c.record_fields.result.now c.as_slice.result.now flat
    c.as_slice.ensures c.in_ok-init_part.ensures c.in_ok-end_part.ensures c.in_ok-next_part.ensures
    (read_is _ _ c.iter-it.result.now c.record_size.result c.iter-it.ensures.value c.record_size.ensures.value ∙ ap size_of (sym k.fields_are))
    (read_is _ _ c.iter-it.result.now c.pad_size.result c.iter-it.ensures.value c.pad_size.ensures.value)
    (read_is _ _ c.iter-it.result.now c.arg_count.result c.iter-it.ensures.value c.arg_count.ensures.value) in
    λ it h. of_iter c.args.checked.now c.args.iter c.iter-it.result.now it c.record_fields.result.now (λ fields x. Iterates fields x flat) k h (iterates c.record_fields.result.now c.iter-it.result.now flat m)

pub returns-clause-starts : goal.returns-clause-starts
returns-clause-starts c =
    let k = known c.args.checked.now c.args.iter c.iter-it.result.now c.as_slice-records.result.now c.record_fields.result.now c.iter-it.ensures.accepted c.iter-it.ensures.value (c.as_slice-records.ensures ∙ ap (λ (x : Program). x.records) c.program.ensures.same) c.record_fields.ensures in
    let flat : Flat = record { record_size = c.record_size.result; pad_size = c.pad_size.result; args = c.arg_count.result; init_part = c.in_ok-init_part.init_part; end_part = c.in_ok-end_part.end_part; next_part = c.in_ok-next_part.next_part } in
    let m = made c.args.checked.now c.args.iter c.iter-it.result.now c.record_fields.result.now c.as_slice.result.now flat
    c.as_slice.ensures c.in_ok-init_part.ensures c.in_ok-end_part.ensures c.in_ok-next_part.ensures
    (read_is _ _ c.iter-it.result.now c.record_size.result c.iter-it.ensures.value c.record_size.ensures.value ∙ ap size_of (sym k.fields_are))
    (read_is _ _ c.iter-it.result.now c.pad_size.result c.iter-it.ensures.value c.pad_size.ensures.value)
    (read_is _ _ c.iter-it.result.now c.arg_count.result c.iter-it.ensures.value c.arg_count.ensures.value) in
    λ it h. of_iter c.args.checked.now c.args.iter c.iter-it.result.now it c.record_fields.result.now (λ fields x. Begins fields x flat) k h (begins c.record_fields.result.now c.iter-it.result.now flat m)

pub returns-clause-keeps : goal.returns-clause-keeps
returns-clause-keeps c =
    let k = known c.args.checked.now c.args.iter c.iter-it.result.now c.as_slice-records.result.now c.record_fields.result.now c.iter-it.ensures.accepted c.iter-it.ensures.value (c.as_slice-records.ensures ∙ ap (λ (x : Program). x.records) c.program.ensures.same) c.record_fields.ensures in
    let flat : Flat = record { record_size = c.record_size.result; pad_size = c.pad_size.result; args = c.arg_count.result; init_part = c.in_ok-init_part.init_part; end_part = c.in_ok-end_part.end_part; next_part = c.in_ok-next_part.next_part } in
    let m = made c.args.checked.now c.args.iter c.iter-it.result.now c.record_fields.result.now c.as_slice.result.now flat
    c.as_slice.ensures c.in_ok-init_part.ensures c.in_ok-end_part.ensures c.in_ok-next_part.ensures
    (read_is _ _ c.iter-it.result.now c.record_size.result c.iter-it.ensures.value c.record_size.ensures.value ∙ ap size_of (sym k.fields_are))
    (read_is _ _ c.iter-it.result.now c.pad_size.result c.iter-it.ensures.value c.pad_size.ensures.value)
    (read_is _ _ c.iter-it.result.now c.arg_count.result c.iter-it.ensures.value c.arg_count.ensures.value) in
    keeps_all c.args.checked.now c.args.iter c.iter-it.result.now c.record_fields.result.now flat k m

pub returns-clause-nodes : goal.returns-clause-nodes
returns-clause-nodes c =
    let k = known c.args.checked.now c.args.iter c.iter-it.result.now c.as_slice-records.result.now c.record_fields.result.now c.iter-it.ensures.accepted c.iter-it.ensures.value (c.as_slice-records.ensures ∙ ap (λ (x : Program). x.records) c.program.ensures.same) c.record_fields.ensures in
    let flat : Flat = record { record_size = c.record_size.result; pad_size = c.pad_size.result; args = c.arg_count.result; init_part = c.in_ok-init_part.init_part; end_part = c.in_ok-end_part.end_part; next_part = c.in_ok-next_part.next_part } in
    let m = made c.args.checked.now c.args.iter c.iter-it.result.now c.record_fields.result.now c.as_slice.result.now flat
    c.as_slice.ensures c.in_ok-init_part.ensures c.in_ok-end_part.ensures c.in_ok-next_part.ensures
    (read_is _ _ c.iter-it.result.now c.record_size.result c.iter-it.ensures.value c.record_size.ensures.value ∙ ap size_of (sym k.fields_are))
    (read_is _ _ c.iter-it.result.now c.pad_size.result c.iter-it.ensures.value c.pad_size.ensures.value)
    (read_is _ _ c.iter-it.result.now c.arg_count.result c.iter-it.ensures.value c.arg_count.ensures.value) in
    few_nodes c.args.checked.now c.args.iter c.iter-it.result.now c.record_fields.result.now flat k m

pub returns-clause-uses : goal.returns-clause-uses
returns-clause-uses c =
    let k = known c.args.checked.now c.args.iter c.iter-it.result.now c.as_slice-records.result.now c.record_fields.result.now c.iter-it.ensures.accepted c.iter-it.ensures.value (c.as_slice-records.ensures ∙ ap (λ (x : Program). x.records) c.program.ensures.same) c.record_fields.ensures in
    let flat : Flat = record { record_size = c.record_size.result; pad_size = c.pad_size.result; args = c.arg_count.result; init_part = c.in_ok-init_part.init_part; end_part = c.in_ok-end_part.end_part; next_part = c.in_ok-next_part.next_part } in
    let m = made c.args.checked.now c.args.iter c.iter-it.result.now c.record_fields.result.now c.as_slice.result.now flat
    c.as_slice.ensures c.in_ok-init_part.ensures c.in_ok-end_part.ensures c.in_ok-next_part.ensures
    (read_is _ _ c.iter-it.result.now c.record_size.result c.iter-it.ensures.value c.record_size.ensures.value ∙ ap size_of (sym k.fields_are))
    (read_is _ _ c.iter-it.result.now c.pad_size.result c.iter-it.ensures.value c.pad_size.ensures.value)
    (read_is _ _ c.iter-it.result.now c.arg_count.result c.iter-it.ensures.value c.arg_count.ensures.value) in
    λ it h. of_iter c.args.checked.now c.args.iter c.iter-it.result.now it c.record_fields.result.now (λ fields x. flat_uses flat ≡ iter_uses fields x) k h (uses_are c.record_fields.result.now c.iter-it.result.now flat m)

pub returns-clause-inside : goal.returns-clause-inside
returns-clause-inside c =
    let k = known c.args.checked.now c.args.iter c.iter-it.result.now c.as_slice-records.result.now c.record_fields.result.now c.iter-it.ensures.accepted c.iter-it.ensures.value (c.as_slice-records.ensures ∙ ap (λ (x : Program). x.records) c.program.ensures.same) c.record_fields.ensures in
    let flat : Flat = record { record_size = c.record_size.result; pad_size = c.pad_size.result; args = c.arg_count.result; init_part = c.in_ok-init_part.init_part; end_part = c.in_ok-end_part.end_part; next_part = c.in_ok-next_part.next_part } in
    let m = made c.args.checked.now c.args.iter c.iter-it.result.now c.record_fields.result.now c.as_slice.result.now flat
    c.as_slice.ensures c.in_ok-init_part.ensures c.in_ok-end_part.ensures c.in_ok-next_part.ensures
    (read_is _ _ c.iter-it.result.now c.record_size.result c.iter-it.ensures.value c.record_size.ensures.value ∙ ap size_of (sym k.fields_are))
    (read_is _ _ c.iter-it.result.now c.pad_size.result c.iter-it.ensures.value c.pad_size.ensures.value)
    (read_is _ _ c.iter-it.result.now c.arg_count.result c.iter-it.ensures.value c.arg_count.ensures.value) in
    all_held flat (keeps_all c.args.checked.now c.args.iter c.iter-it.result.now c.record_fields.result.now flat k m)
