use Rattle.std.proofs.Common.{sym, ap, ◌∙◌, subst, Some}
use Rattle.frame_codec.specs.Spelling.{MeetsRules}
use Rattle.world_core.specs.declared.letter.Letter.{Letter}
use Rattle.world_core.specs.Letters.{LettersState, frame_of}
use Rattle.world_core.specs.inner.Notes.{Lies, letter_in}
use Rattle.world_core.proofs.Notes.{read_lies, read_is}
use Rattle.world_core.proofs.letters.Letters.get.Goals as goal

pub letter_of-requires : goal.letter_of-requires
letter_of-requires c = subst (λ b. Lies b c.index.result.now) (sym c.as_slice.ensures.value)
    (read_lies c.self.inside.bytes.items c.self.inside.notes.items c.args.self.now.sent c.args.k c.index.result.now c.self.invariant.0 (ap (λ (s : LettersState). s.sent) c.self.view_is) c.requires c.index.ensures)

pub returns-clause-letter : goal.returns-clause-letter
returns-clause-letter c = read_is c.self.inside.bytes.items c.self.inside.notes.items c.args.self.now.sent c.args.k c.index.result.now (ap (λ (s : LettersState). s.sent) c.self.view_is) c.requires c.index.ensures
    ∙ ap (λ b. Some (letter_in b c.index.result.now)) (sym c.as_slice.ensures.value) ∙ ap Some (sym c.letter_of.ensures)

pub returns-clause-rules : goal.returns-clause-rules
returns-clause-rules c =
    let l = read_lies c.self.inside.bytes.items c.self.inside.notes.items c.args.self.now.sent c.args.k c.index.result.now c.self.invariant.0 (ap (λ (s : LettersState). s.sent) c.self.view_is) c.requires c.index.ensures in
    subst (λ (m : Letter). MeetsRules (frame_of m.content)) (ap (λ b. letter_in b c.index.result.now) (sym c.as_slice.ensures.value) ∙ sym c.letter_of.ensures) l.spells.rules
