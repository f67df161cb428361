use Rattle.std.proofs.Common.{◌≡◌, ◌+◌, ◌*◌, take, drop, length, ap, subst, ◌∙◌, arith, rules, inl}
use Rattle.code_image.specs.declared.fault.ImageFault.TheVariants as f
use Rattle.code_image.specs.Checks.{IsWords, NoWordFirst}
use Rattle.code_image.proofs.WordLaws.{in_front, behind}
use Rattle.code_image.proofs.decoding.image_of.Goals as goal

pub returns-in-Err-clause-refused : goal.returns-in-Err-clause-refused
returns-in-Err-clause-refused c = λ other.
    let n = c.args.header.init_words in
    let front : c.split_at.result.0.now ≡ take (8 * n) c.args.rest.now = search rules in
    let found = c.in-Err.ensures.refused other in
    let at : 0 + found.0 ≡ found.0 = omega arith in
    inl (found.0, in_front c.args.rest.now (8 * n) found.0 (subst (λ l. NoWordFirst l found.0) front found.1), found.2 ∙ ap f.Word at)

pub returns-in-Err-read_words-clause-refused : goal.returns-in-Err-read_words-clause-refused
returns-in-Err-read_words-clause-refused c = λ other.
    let n = c.args.header.init_words in
    let front : c.split_at.result.0.now ≡ take (8 * n) c.args.rest.now = search rules in
    let back : c.split_at.result.1.now ≡ drop (8 * n) c.args.rest.now = search rules in
    let first : c.from-first.result ≡ n = search rules in
    let code : IsWords c.in-Ok.code c.split_at.result.0.now = search rules in
    let count : length c.in-Ok.code ≡ n = search rules in
    let found = c.in-Err-read_words.ensures.refused other in
    inl (
      n + found.0,
      behind c.in-Ok.code c.args.rest.now n found.0 (subst (λ l. IsWords c.in-Ok.code l) front code) count (subst (λ l. NoWordFirst l found.0) back found.1),
      found.2 ∙ ap (λ m. f.Word (m + found.0)) first,
    )
