use Rattle.std.proofs.Common.{◌≤◌, length, map, ap, ◌∙◌, arith}
use Rattle.std.proofs.lemmas.List.{take_all}
use Rattle.run_rules.specs.Client.{answer_of}
use Rattle.world_core.specs.Scene.{world_of}
use Rattle.scenario_parts.proofs.Lists.{one_more}
use Rattle.replay.proofs.OneEvent.{asking_count}
use Rattle.replay.proofs.telling.answers_of.Goals as goal

pub answers-preserved : goal.answers-preserved
answers-preserved g c = one_more answer_of (world_of c.args.world.now).asking c.answers.answers c.push.new.self c.answers.request c.answer.result.now c.answer.ensures c.answers.invariant c.in_ok-push.ensures.ok

pub returns : goal.returns
returns g c =
    let all = asking_count c.args.world.now in
    let long : length (world_of c.args.world.now).asking ≤ c.answers.request = omega (arith, all, c.answers-test.false, c.requests-count.ensures) in
    c.answers.invariant ∙ ap (map answer_of) (take_all c.answers.request (world_of c.args.world.now).asking long)
