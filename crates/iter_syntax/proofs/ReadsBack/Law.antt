-- The printed form of a text's program is a text that has that program.
use Rattle.iter_syntax.specs.Names.{Program}
use Rattle.iter_syntax.specs.Printed.{program_kinds}
use Rattle.iter_syntax.specs.Bare.{ReadsBack}
use Rattle.iter_syntax.proofs.ReadsBack.ProgramFits.{program_fits}
use Rattle.iter_syntax.proofs.ReadsBack.Text.{text_tokens}
use Rattle.iter_syntax.proofs.ReadsBack.Program.{program_back}

pub reads_back : (p : Program) → ReadsBack p
reads_back p text h =
    let f = program_fits text p h in
    let t = text_tokens (program_kinds p) f.spelled in
    let b = program_back p t.0 t.2 in
    (b.0, (t.0, t.1, f.shallow t.0 t.2, b.1), b.2)
