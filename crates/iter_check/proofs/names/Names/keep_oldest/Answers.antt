use Rattle.std.proofs.Common.{ap, ◌∙◌, ◌-◌, length, drop, map, arith}
use Rattle.iter_check.specs.Views.NamesView.{pair_of}
use Rattle.iter_check.proofs.NamesLaws.{shed_one}
use Rattle.iter_check.proofs.names.Names.keep_oldest.Goals as goal

pub shed-preserved : goal.shed-preserved
shed-preserved c =
    ap (λ l. drop (length l - c.args.len) (map pair_of l)) c.remove.ensures.items
    ∙ shed_one pair_of c.shed.self-inside.names.items c.args.len (omega arith)
    ∙ c.shed.invariant
