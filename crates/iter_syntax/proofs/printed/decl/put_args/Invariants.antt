use Rattle.std.proofs.Common.{◌≡◌, drop, cond, nat_eq, flat_map, ◌∷◌}
use Rattle.iter_syntax.specs.Printed.{sym, arg_kinds, args_kinds}
use Rattle.iter_syntax.specs.Steps.Printing.{add_all}
use Rattle.iter_syntax.specs.declared.token.Symbol.TheVariants as S
use Rattle.iter_syntax.proofs.printed.decl.put_args.Given as goal

-- the first argument has no comma before it
abbrev pub invariant-row : goal.invariant-row
invariant-row l =
    add_all (args_kinds l.args) l.fn.text
    ≡ cond (nat_eq l.i 0) (add_all (args_kinds l.args) l.text) (add_all (flat_map (λ a. sym S.Comma ∷ arg_kinds a) (drop l.i l.args)) l.text)
