use Rattle.std.proofs.Common.{◌≡◌, ◌∙◌, ap, ap₂, codes}
use Rattle.std.proofs.lemmas.Result.{IfOk-weaker}
use Rattle.clap.specs.Words.{app_of, new_app}
use Rattle.clap.specs.Simple.{app_of_fields}
use Rattle.pulse_words.specs.inner.Line.{with_leaf, without_program}
use Rattle.pulse_words.proofs.line.plain_line.Goals as goal

pub returns : goal.returns
returns c =
    let empty_is : app_of c.no_binary_name-empty.result ≡ without_program (new_app (codes "pulse")) =
    ap app_of_fields c.no_binary_name-empty.ensures ∙ ap without_program c.new.ensures.app in
    let walk_is = c.in_ok-walk.ensures.shape c.new-2.ensures.local ∙ ap₂ with_leaf empty_is c.new-2.ensures.app in
    let replay_is = c.in_ok-replay.ensures.shape c.new-3.ensures.local ∙ ap₂ with_leaf walk_is c.new-3.ensures.app in
    let check_is = c.in_ok-check.ensures.shape c.new-4.ensures.local ∙ ap₂ with_leaf replay_is c.new-4.ensures.app in
    let format_is = c.in_ok-format.ensures.shape c.new-5.ensures.local ∙ ap₂ with_leaf check_is c.new-5.ensures.app in
    let list_is = c.in_ok-list.ensures.shape c.new-6.ensures.local ∙ ap₂ with_leaf format_is c.new-6.ensures.app in
    IfOk-weaker c.subcommand-6.result _ _ (λ line h. h.shape c.new-7.ensures.local ∙ ap₂ with_leaf list_is c.new-7.ensures.app) c.subcommand-6.ensures
