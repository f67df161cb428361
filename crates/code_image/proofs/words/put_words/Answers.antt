use Rattle.std.proofs.Common.{◌≡◌, ◌+◌, ◌<◌, take, length, get_or, subst, arith, sym, ap, ◌∙◌}
use Rattle.std.specs.Prelude.{All}
use Rattle.std.proofs.Math.Seq.{take-length}
use Rattle.std.proofs.lemmas.List.Elements.{All-more}
use Rattle.std.proofs.lemmas.Grind.{common_steps}
use Rattle.pulse_isa.specs.declared.instr.Instr.TheVariants.{Load}
use Rattle.code_image.specs.Spelling.{OperandsFit}
use Rattle.code_image.proofs.words.put_words.Goals as goal

pub words-preserved : goal.words-preserved
words-preserved c =
    let room : c.words.i-index < length c.args.code.now = c.words-test.true in
    let more : All OperandsFit (take (c.words.i-index + 1) c.args.code.now) =
    All-more OperandsFit c.args.code.now c.words.i-index (Load 0 0) room c.words.invariant.1 c.to_word.ensures.fits in
    let bytes = c.words.invariant.0 in
    (grind (arith, common_steps), more)

pub returns-clause-fits : goal.returns-clause-fits
returns-clause-fits c =
    let end : c.words.i-index ≡ length c.args.code.now = omega (arith, c.words-test.false, c.words.auto.i-index-end) in
    subst (λ l. All OperandsFit l) (ap (λ n. take n c.args.code.now) end ∙ take-length c.args.code.now) c.words.invariant.1
