use Rattle.std.proofs.Common.{[], ap, ◌∙◌}
use Rattle.iter_syntax.specs.Printed.{program_kinds}
use Rattle.iter_syntax.specs.Steps.Printing.{add_all}
use Rattle.iter_syntax.proofs.Printing.{all_laid}
use Rattle.iter_syntax.proofs.ReadsBack.Law.{reads_back}
use Rattle.iter_syntax.proofs.printed.print.Goals as goal

pub returns-in_err-put_program-clause-reads_back : goal.returns-in_err-put_program-clause-reads_back
returns-in_err-put_program-clause-reads_back c = reads_back c.args.program.now

pub returns-clause-text : goal.returns-clause-text
returns-clause-text c =
    c.in_ok-put_program.ensures ∙ ap (add_all (program_kinds c.args.program.now)) c.new-text.ensures ∙ all_laid (program_kinds c.args.program.now) []

pub returns-clause-reads_back : goal.returns-clause-reads_back
returns-clause-reads_back c = reads_back c.args.program.now
