use Rattle.std.proofs.Common.{ap, ◌∙◌}
use Rattle.std.specs.Prelude.{ℕ, codes, decimal}
use Rattle.drill.specs.Summary.{line, answers_line}
use Rattle.drill.proofs.Rows.{five_texts, put_text}
use Rattle.drill.proofs.summary.summary.Goals as goal

pub returns : goal.returns
returns c =
    let turns = c.in_ok-iterations_line.ensures ∙ ap (λ (n : ℕ). line (codes "iterations") (decimal n)) c.len.ensures in
    let answers = c.in_ok-answers_line.ensures ∙ ap answers_line c.as_slice.ensures in
    five_texts _ _ _ _ _ _ _ _ _ _ _ c.new-text.ensures
    (put_text _ _ _ _ c.in_ok-put.ensures c.in_ok-shape_line.ensures)
    (put_text _ _ _ _ c.in_ok-put-2.ensures turns)
    (put_text _ _ _ _ c.in_ok-put-3.ensures c.in_ok-letters_line.ensures)
    (put_text _ _ _ _ c.in_ok-put-4.ensures answers)
    (put_text _ _ _ _ c.in_ok-put-5.ensures c.in_ok-digest_line.ensures)
