use Rattle.std.proofs.Common.{◌≡◌, drop, flat_map}
use Rattle.iter_syntax.specs.Printed.{sym, field_kinds}
use Rattle.iter_syntax.specs.Steps.Printing.{add, add_all}
use Rattle.iter_syntax.specs.declared.token.Symbol.TheVariants as S
use Rattle.iter_syntax.proofs.printed.decl.put_fields.Given as goal

abbrev pub invariant-row : goal.invariant-row
invariant-row l = add_all (flat_map field_kinds l.fields) (add (sym S.OpenBrace) l.fn.text) ≡ add_all (flat_map field_kinds (drop l.field-index l.fields)) l.text
