use Rattle.std.proofs.Common.{◌≡◌, ◌+◌, ◌*◌, ◌≤◌, [], ◌∷◌, ◌++◌, length, take, drop, sym, ap, subst, arith, rules, length-append}
use Rattle.pulse_isa.specs.Words.{Spells}
use Rattle.code_image.specs.declared.fault.ImageFault.TheVariants as f
use Rattle.code_image.proofs.WordLaws.{no_word, one_more}
use Rattle.code_image.proofs.words.read_words.Goals as goal

pub returns-in-None-clause-refused : goal.returns-in-None-clause-refused
returns-in-None-clause-refused c = λ other.
    let word : c.word_at-word.result ≡ take 8 (drop (8 * c.words.k) c.args.bytes.now) = search rules in
    let room : 8 * c.words.k + 8 ≤ length c.args.bytes.now = search rules in
    let at : c.from-in-None.result ≡ c.words.k = search rules in (
      c.words.k,
      no_word c.words.code c.args.bytes.now c.words.k c.words.invariant.0 c.words.invariant.1 room
          (λ i s. let found = (c.from_word.ensures.exact i).1 (subst (λ w. Spells i w) (sym word) s) in absurd cc),
      ap (λ n. f.Word (c.args.first + n)) at,
    )

pub words-preserved : goal.words-preserved
words-preserved c =
    let word : c.word_at-word.result ≡ take 8 (drop (8 * c.words.k) c.args.bytes.now) = search rules in
    let pushed : c.push.new.self ≡ c.words.code ++ c.in-Some.i ∷ [] = search rules in
    let spells : Spells c.in-Some.i c.word_at-word.result = search rules in
    let more = one_more c.words.code c.args.bytes.now c.words.k c.in-Some.i c.words.invariant.0 (subst (λ w. Spells c.in-Some.i w) word spells) in
    (rw pushed more, rw pushed (omega (arith, length-append c.words.code (c.in-Some.i ∷ []), c.words.invariant.1)))
