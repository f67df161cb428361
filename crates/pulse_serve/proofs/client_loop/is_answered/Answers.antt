use Rattle.pulse_serve.proofs.Answering.{answer_at, none_at}
use Rattle.pulse_serve.proofs.client_loop.is_answered.Goals as goal

pub returns-in-Unasked-clause-no : goal.returns-in-Unasked-clause-no
returns-in-Unasked-clause-no c = λ e h. none_at c.args.client.now c.args.at c.number.result _ _ c.number.ensures.number c.answer.ensures c.in-Unasked.is h

pub returns-in-Waiting-clause-no : goal.returns-in-Waiting-clause-no
returns-in-Waiting-clause-no c = λ e h. none_at c.args.client.now c.args.at c.number.result _ _ c.number.ensures.number c.answer.ensures c.in-Waiting.is h

pub returns-in-Done-clause-yes : goal.returns-in-Done-clause-yes
returns-in-Done-clause-yes c = λ e. answer_at c.args.client.now c.args.at c.number.result _ _ c.number.ensures.number c.answer.ensures c.in-Done.is tt

pub returns-in-Fault-clause-yes : goal.returns-in-Fault-clause-yes
returns-in-Fault-clause-yes c = λ e. answer_at c.args.client.now c.args.at c.number.result _ _ c.number.ensures.number c.answer.ensures c.in-Fault.is tt

pub returns-in-Spent-clause-yes : goal.returns-in-Spent-clause-yes
returns-in-Spent-clause-yes c = λ e. answer_at c.args.client.now c.args.at c.number.result _ _ c.number.ensures.number c.answer.ensures c.in-Spent.is tt

pub returns-in-Silent-clause-yes : goal.returns-in-Silent-clause-yes
returns-in-Silent-clause-yes c = λ e. answer_at c.args.client.now c.args.at c.number.result _ _ c.number.ensures.number c.answer.ensures c.in-Silent.is tt
