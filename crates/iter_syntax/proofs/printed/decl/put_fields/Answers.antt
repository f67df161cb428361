use Rattle.std.proofs.Common.{flat_map, sym, ap, ◌∙◌, [], ◌∷◌}
use Rattle.std.proofs.lemmas.List.{drop_all}
use Rattle.iter_syntax.specs.declared.token.Symbol.TheVariants as S
use Rattle.iter_syntax.specs.Printed as P
use Rattle.iter_syntax.specs.Steps.Printing.{add, add_all}
use Rattle.iter_syntax.proofs.Printing.{all_append}
use Rattle.iter_syntax.proofs.printed.decl.put_fields.Goals as goal

pub returns : goal.returns
returns c =
    let all = c.row.invariant ∙ ap (λ l. add_all (flat_map P.field_kinds l) c.row.text) (drop_all c.row.field-index c.args.fields.now c.row-test.false) in
    c.in_ok-put_symbol-2.ensures ∙ ap (add (P.sym S.CloseBrace)) (sym all) ∙ sym (all_append (flat_map P.field_kinds c.args.fields.now) (P.sym S.CloseBrace ∷ []) _)
