use Rattle.std.proofs.Common.{◌∙◌, ap₂}
use Rattle.std.proofs.lemmas.Result.{IfOk-weaker}
use Rattle.pulse_words.specs.inner.Line.{pulse_app, with_leaf}
use Rattle.pulse_words.proofs.line.command_line.Goals as goal

pub returns : goal.returns
unfolding pulse_app
returns c =
    let node = c.in_ok-node.ensures in
    let switch = c.in_ok-switch.ensures in
    let ask = c.in_ok-ask.ensures in
    let cluster = c.in_ok-cluster.ensures in
    let with_node_is = c.in_ok-with_node.ensures.shape node.local ∙ ap₂ with_leaf c.in_ok-documents.ensures node.shape in
    let with_switch_is = c.in_ok-with_switch.ensures.shape switch.local ∙ ap₂ with_leaf with_node_is switch.shape in
    let with_ask_is = c.in_ok-with_ask.ensures.shape ask.local ∙ ap₂ with_leaf with_switch_is ask.shape in
    IfOk-weaker c.subcommand-4.result _ _ (λ line h. h.shape cluster.local ∙ ap₂ with_leaf with_ask_is cluster.shape) c.subcommand-4.ensures
