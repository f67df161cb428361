use Rattle.std.proofs.Common.{ap, sym, subst, ◌∙◌}
use Rattle.pulse_words.specs.declared.command.Command.{Command}
use Rattle.pulse_words.specs.declared.command.Command.TheVariants as m
use Rattle.pulse_process.specs.Answer.{NodeAnswer}
use Rattle.pulse_cli.specs.Answers.{Answers, AnswersCompile, AnswersList, AnswersVerify, AnswersDrill}
use Rattle.pulse_cli.specs.Uses.{uses_net}
use Rattle.pulse_cli.specs.Steps.{Serves}
use Rattle.pulse_cli.specs.Sides.{sides}
use Rattle.pulse_cli.proofs.Outputs.{process_answers, whole_answers}
use Rattle.pulse_cli.proofs.answer.answer.Goals as goal

pub returns-in-Compile-clause-answered : goal.returns-in-Compile-clause-answered
returns-in-Compile-clause-answered g c =
    let s = sides (g.Y.Yard.returned c.args.yard.now) (g.Y.Yard.returned c.args.yard.now) (g.L.Link.traffic c.args.net.now) (g.L.Link.traffic c.args.net.now) (g.L.Link.faults c.args.net.now) (g.L.Link.faults c.args.net.now)
    (g.S.Spawner.family c.args.kids.now) (g.S.Spawner.family c.args.kids.now) (g.S.Spawner.faults c.args.kids.now) (g.S.Spawner.faults c.args.kids.now) in
    whole_answers c.args.command.now c.args.text.now s (AnswersCompile c.as_slice.result.now c.args.text.now) c.compile.result c.whole-in-Compile.result
    (λ x h. subst (λ (m : Command). Answers m c.args.text.now s x) (sym (c.in-Compile.is ∙ ap m.Compile (sym c.as_slice.ensures))) h) c.compile.ensures c.whole-in-Compile.ensures

pub returns-in-List-clause-answered : goal.returns-in-List-clause-answered
returns-in-List-clause-answered g c =
    let s = sides (g.Y.Yard.returned c.args.yard.now) (g.Y.Yard.returned c.args.yard.now) (g.L.Link.traffic c.args.net.now) (g.L.Link.traffic c.args.net.now) (g.L.Link.faults c.args.net.now) (g.L.Link.faults c.args.net.now)
    (g.S.Spawner.family c.args.kids.now) (g.S.Spawner.family c.args.kids.now) (g.S.Spawner.faults c.args.kids.now) (g.S.Spawner.faults c.args.kids.now) in
    whole_answers c.args.command.now c.args.text.now s (AnswersList c.args.text.now) c.list.result c.whole-in-List.result
    (λ x h. subst (λ (m : Command). Answers m c.args.text.now s x) (sym c.in-List.is) h) c.list.ensures c.whole-in-List.ensures

pub returns-in-Verify-clause-answered : goal.returns-in-Verify-clause-answered
returns-in-Verify-clause-answered g c =
    let s = sides (g.Y.Yard.returned c.args.yard.now) (g.Y.Yard.returned c.args.yard.now) (g.L.Link.traffic c.args.net.now) (g.L.Link.traffic c.args.net.now) (g.L.Link.faults c.args.net.now) (g.L.Link.faults c.args.net.now)
    (g.S.Spawner.family c.args.kids.now) (g.S.Spawner.family c.args.kids.now) (g.S.Spawner.faults c.args.kids.now) (g.S.Spawner.faults c.args.kids.now) in
    whole_answers c.args.command.now c.args.text.now s (AnswersVerify c.args.text.now) c.verify.result c.whole-in-Verify.result
    (λ x h. subst (λ (m : Command). Answers m c.args.text.now s x) (sym c.in-Verify.is) h) c.verify.ensures c.whole-in-Verify.ensures

pub returns-in-Drill-clause-answered : goal.returns-in-Drill-clause-answered
returns-in-Drill-clause-answered g c =
    let s = sides (g.Y.Yard.returned c.args.yard.now) (g.Y.Yard.returned c.drill_shape.new.yard) (g.L.Link.traffic c.args.net.now) (g.L.Link.traffic c.args.net.now) (g.L.Link.faults c.args.net.now) (g.L.Link.faults c.args.net.now)
    (g.S.Spawner.family c.args.kids.now) (g.S.Spawner.family c.args.kids.now) (g.S.Spawner.faults c.args.kids.now) (g.S.Spawner.faults c.args.kids.now) in
    whole_answers c.args.command.now c.args.text.now s (AnswersDrill c.in-Drill.shape s.yard) c.drill_shape.result c.whole-in-Drill.result
    (λ x h. subst (λ (m : Command). Answers m c.args.text.now s x) (sym c.in-Drill.is) h) c.drill_shape.ensures.gives c.whole-in-Drill.ensures

pub returns-in-Node-clause-answered : goal.returns-in-Node-clause-answered
returns-in-Node-clause-answered g c =
    let s = sides (g.Y.Yard.returned c.args.yard.now) (g.Y.Yard.returned c.node_process.new.yard) (g.L.Link.traffic c.args.net.now) (g.L.Link.traffic c.node_process.new.net) (g.L.Link.faults c.args.net.now) (g.L.Link.faults c.node_process.new.net)
    (g.S.Spawner.family c.args.kids.now) (g.S.Spawner.family c.args.kids.now) (g.S.Spawner.faults c.args.kids.now) (g.S.Spawner.faults c.args.kids.now) in
    process_answers c.args.command.now c.args.text.now s (NodeAnswer c.args.text.now c.in-Node.node c.in-Node.turns (s.net).before (s.net).after (s.yard).before (s.yard).after) c.node_process.result
    (λ x h. subst (λ (m : Command). Answers m c.args.text.now s x) (sym c.in-Node.is) h)
    (λ e. (ap uses_net c.in-Node.is, c.node_process.ensures.link e))
    (λ e. absurd (subst (Serves (NodeAnswer c.args.text.now c.in-Node.node c.in-Node.turns (s.net).before (s.net).after (s.yard).before (s.yard).after)) e c.node_process.ensures.serves))
    c.node_process.ensures.serves
