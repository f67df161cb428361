use Rattle.std.proofs.Common.{sym, ap, ◌∙◌, subst}
use Rattle.frame_codec.specs.Spelling.{Spells}
use Rattle.world_core.specs.Letters.{LettersState, frame_of}
use Rattle.world_core.specs.inner.Notes.{Lies, letter_in, bytes_in}
use Rattle.world_core.proofs.Notes.{read_lies, read_is}
use Rattle.world_core.proofs.letters.Letters.bytes.Goals as goal

pub bytes_of-requires : goal.bytes_of-requires
bytes_of-requires c = subst (λ b. Lies b c.index.result.now) (sym c.as_slice.ensures.value)
    (read_lies c.self.inside.bytes.items c.self.inside.notes.items c.args.self.now.sent c.args.k c.index.result.now c.self.invariant.0 (ap (λ (s : LettersState). s.sent) c.self.view_is) c.requires c.index.ensures)

pub returns : goal.returns
returns c =
    let sent = ap (λ (s : LettersState). s.sent) c.self.view_is in
    let lies = read_lies c.self.inside.bytes.items c.self.inside.notes.items c.args.self.now.sent c.args.k c.index.result.now c.self.invariant.0 sent c.requires c.index.ensures in (
      letter_in c.self.inside.bytes.items c.index.result.now,
      read_is c.self.inside.bytes.items c.self.inside.notes.items c.args.self.now.sent c.args.k c.index.result.now sent c.requires c.index.ensures,
      subst (λ b. Spells b (frame_of (letter_in c.self.inside.bytes.items c.index.result.now).content)) (sym (c.bytes_of.ensures ∙ ap (λ b. bytes_in b c.index.result.now) c.as_slice.ensures.value)) lies.spells,
    )
