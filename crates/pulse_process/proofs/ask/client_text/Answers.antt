use Rattle.std.proofs.Common.{◌≤◌, ◌++◌, codes, length, refl, ap, ◌∙◌, arith}
use Rattle.report_text.specs.Report.{answer_line}
use Rattle.pulse_process.specs.Ask.{request_lines}
use Rattle.pulse_process.proofs.Telling.{one_line, all_lines}
use Rattle.pulse_process.proofs.Asking.{next_request}
use Rattle.pulse_process.proofs.ask.client_text.Goals as goal

pub requests-preserved : goal.requests-preserved
requests-preserved c =
    one_line c.requests.text c.append.new.self (answer_line c.number-number.result c.answer.result.now) _ _ _
    (c.in_ok-append.ensures.ok ∙ ap (λ l. c.requests.text ++ l) (c.as_slice.ensures ∙ c.in_ok-answer_line.ensures))
    (next_request c.args.client.now c.requests.k c.number-number.result c.answer.result.now c.requires.differ c.number-number.ensures.number c.answer.ensures)
    c.requests.invariant

pub returns : goal.returns
returns c =
    let long : length c.args.client.now.requests ≤ c.requests.k = omega (arith, c.requests-test.false, c.len-k-end.ensures) in
    c.in_ok-append-2.ensures.ok
    ∙ ap (λ t. t ++ codes "end\n") (all_lines request_lines c.args.client.now.requests c.requests.k c.requests.text _ refl long c.requests.invariant)
