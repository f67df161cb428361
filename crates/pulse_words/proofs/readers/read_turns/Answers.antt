use Rattle.std.proofs.Common.{◌≡◌, ◌∙◌, ap₂, sym, List, ℕ, [], ◌∷◌}
use Rattle.std.specs.String.{string_bytes}
use Rattle.std.proofs.lemmas.Option.{IfSome_then}
use Rattle.pulse_words.proofs.Slices.{is_first, is_not_first, two}
use Rattle.pulse_words.proofs.readers.read_turns.Goals as goal

pub returns-in-len2-clause-is : goal.returns-in-len2-clause-is
returns-in-len2-clause-is c =
    let words = two c.args.words.now c.word-item.result c.turns-item.result c.in-len2.len_at_least c.in-len2.len_below c.word-item.is c.turns-item.is in
    let first = is_first _ _ _ _ c.eq.ensures c.as_str.ensures.value c.if-eq.true in
    IfSome_then c.turns_word.result c.turns_word.ensures.is (λ turns h. (
      words ∙ ap₂ (λ (a b : List ℕ). a ∷ b ∷ []) first (sym c.as_str-in-len2.ensures.value ∙ h.0),
      h.1,
    ))

pub returns-in_default-2-clause-each : goal.returns-in_default-2-clause-each
returns-in_default-2-clause-each c = λ turns h.
    let words = two c.args.words.now c.word-item.result c.turns-item.result c.in-len2.len_at_least c.in-len2.len_below c.word-item.is c.turns-item.is in
    let same = sym words ∙ h.0 in
    let first : string_bytes c.word-item.result ≡ c.args.first.now = cc in
    absurd (is_not_first _ _ _ _ c.eq.ensures c.as_str.ensures.value c.if-eq.false first)
