use Rattle.std.proofs.Common.{◌∙◌, ap₂}
use Rattle.std.proofs.lemmas.Result.{IfOk-weaker}
use Rattle.pulse_words.specs.inner.Line.{with_leaf}
use Rattle.pulse_words.proofs.line.document_line.Goals as goal

pub returns : goal.returns
returns c =
    let compile = c.in_ok-compile.ensures in
    let shape = c.in_ok-shape.ensures in
    let drill = c.in_ok-drill.ensures in
    let with_compile_is = c.in_ok-with_compile.ensures.shape compile.local ∙ ap₂ with_leaf c.in_ok-plain.ensures compile.shape in
    let with_shape_is = c.in_ok-with_shape.ensures.shape shape.local ∙ ap₂ with_leaf with_compile_is shape.shape in
    IfOk-weaker c.subcommand-3.result _ _ (λ line h. h.shape drill.local ∙ ap₂ with_leaf with_shape_is drill.shape) c.subcommand-3.ensures
