use Rattle.std.proofs.Common.{ap, sym, ◌∙◌, arith}
use Rattle.iter_check.specs.Layout.{text}
use Rattle.iter_check.specs.State.{change}
use Rattle.iter_check.specs.Views.NamesView.{place_in}
use Rattle.iter_check.proofs.NamesLaws.{change_at, change_none}
use Rattle.iter_check.proofs.names.Names.change.Goals as goal

pub returns-then-at-len : goal.returns-then-at-len
returns-then-at-len c =
    let x = text c.args.word.now in
    change_at x c.self.inside.names.items c.place-at.result c.index_mut.result.now c.args.value (c.place-at.ensures.found ∙ ap (place_in x) c.deref.ensures.value) (omega arith) c.index_mut.ensures.value
    ∙ ap (change x c.args.value) c.self.view_is

pub returns-else-at-len : goal.returns-else-at-len
returns-else-at-len c =
    let x = text c.args.word.now in
    sym c.self.view_is
    ∙ change_none x c.self.inside.names.items c.place-at.result c.args.value (c.place-at.ensures.found ∙ ap (place_in x) c.deref.ensures.value) (omega arith)
    ∙ ap (change x c.args.value) c.self.view_is
