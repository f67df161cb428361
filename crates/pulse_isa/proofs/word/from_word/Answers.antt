-- An instruction that the word spells is the one that was read, and neither test refuses it.
use Rattle.std.proofs.Common.{◌≡◌, Some, true, sym, ap, subst, ◌∙◌}
use Rattle.std.proofs.lemmas.Slice.Eq.{bytes_eq-Decides}
use Rattle.pulse_isa.specs.declared.instr.Instr.{Instr}
use Rattle.pulse_isa.specs.Spelling.{has_spelling}
use Rattle.pulse_isa.specs.Words.{spelling, Spells}
use Rattle.pulse_isa.proofs.Words.{read_word, read_word-spells}
use Rattle.pulse_isa.proofs.word.from_word.Goals as goal
use Rattle.pulse_isa.proofs.word.from_word.Goals.{else-has_spelling-via-then-has_spelling+else-eq, else-has_spelling-via-else-has_spelling}

pub returns-in_err-i-clause-exact : goal.returns-in_err-i-clause-exact
returns-in_err-i-clause-exact c = λ i. (
  λ h. cc,
  λ h.
      let e : read_word c.args.w.now ≡ Some i = read_word-spells i _ h in
      let found : c.named.result ≡ Some i = cc in
      cc (c.in_err-i.was, found),
)

pub returns-else-has_spelling-clause-exact : goal.returns-else-has_spelling-clause-exact
returns-else-has_spelling-clause-exact c = λ i. (
  λ h. cc,
  λ h.
      let e : read_word c.args.w.now ≡ Some i = read_word-spells i _ h in
      let found : c.named.result ≡ Some i = cc in
      let same : c.in_ok-i.i ≡ i = cc (c.in_ok-i.was, found) in
      elim c.else-has_spelling.branch [
        | else-has_spelling-via-then-has_spelling+else-eq w ↦
            let spelled : w.to_word.result ≡ c.args.w.now = w.to_word.ensures.spelling ∙ ap spelling same ∙ sym h.word in
            cc ((bytes_eq-Decides w.to_word.result c.args.w.now).1 spelled, w.eq.ensures, w.if-eq.false)
        | else-has_spelling-via-else-has_spelling w ↦ let t : has_spelling i ≡ true = h.width in cc (ap has_spelling same, w.if-has_spelling.false)
      ],
)

pub returns-then-eq-clause-spells : goal.returns-then-eq-clause-spells
returns-then-eq-clause-spells c =
    let same : c.to_word.result ≡ c.args.w.now = (bytes_eq-Decides c.to_word.result c.args.w.now).0 (cc (c.eq.ensures, c.if-eq.true)) in
    record {
      fits = c.in_ok-i.ensures.fits;
      width = cc (c.has_spelling.ensures, c.if-has_spelling.true);
      word = sym same ∙ c.to_word.ensures.spelling;
    }

pub returns-then-eq-clause-exact : goal.returns-then-eq-clause-exact
returns-then-eq-clause-exact c = λ i. (
  λ h.
      let same : c.in_ok-i.i ≡ i = cc in
      subst (λ (j : Instr). Spells j c.args.w.now) same (returns-then-eq-clause-spells c),
  λ h.
      let e : read_word c.args.w.now ≡ Some i = read_word-spells i _ h in
      let found : c.named.result ≡ Some i = cc in
      cc (c.in_ok-i.was, found),
)
