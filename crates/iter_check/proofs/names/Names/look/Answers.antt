use Rattle.std.proofs.Common.{ap, ◌∙◌, arith}
use Rattle.iter_check.specs.Layout.{text}
use Rattle.iter_check.specs.State.{look}
use Rattle.iter_check.specs.Views.NamesView.{place_in}
use Rattle.iter_check.proofs.NamesLaws.{look_at, look_none}
use Rattle.iter_check.proofs.names.Names.look.Goals as goal

pub returns-then-at-len : goal.returns-then-at-len
returns-then-at-len c =
    let x = text c.args.word.now in
    look_at x c.self.inside.names.items c.place-at.result c.index.result.now (c.place-at.ensures.found ∙ ap (place_in x) c.deref.ensures.value) (omega arith) c.index.ensures
    ∙ ap (look x) c.self.view_is

pub returns-else-at-len : goal.returns-else-at-len
returns-else-at-len c =
    let x = text c.args.word.now in
    look_none x c.self.inside.names.items c.place-at.result (c.place-at.ensures.found ∙ ap (place_in x) c.deref.ensures.value) (omega arith)
    ∙ ap (look x) c.self.view_is
