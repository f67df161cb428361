use Rattle.std.proofs.Common.{rules, arith, List, [], ◌∷◌, ◌++◌, length, length-append, sym, ap, ◌∙◌, subst}
use Rattle.std.proofs.lemmas.List.{length-map}
use Rattle.frame_codec.specs.Spelling.{Spells}
use Rattle.world_core.specs.Letters.{LettersState, frame_of}
use Rattle.world_core.specs.declared.letter.Note.{Note}
use Rattle.world_core.specs.inner.Notes.{letter_in}
use Rattle.world_core.proofs.Notes.{Pushed, pushed}
use Rattle.world_core.proofs.letters.Letters.push.Goals as goal

pushes : (c : goal.In-Ok-push) → Pushed c.args.to c.args.content.now c.self.inside.bytes.items c.extend_from_slice.new.self.items c.self.inside.notes.items c.push.new.self.items
pushes c =
    let spells : Spells c.as_slice.result.now (frame_of c.args.content.now) =
    subst (λ b. Spells b (frame_of c.args.content.now)) (sym c.as_slice.ensures.value) (subst (Spells c.encode.result.items) c.frame_of.ensures c.encode.ensures) in
    pushed c.args.to c.args.content.now c.self.inside.bytes.items c.extend_from_slice.new.self.items c.as_slice.result.now c.self.inside.notes.items c.push.new.self.items
    c.len-start.result c.len-end.result c.pad_len.result c.note_of-note.result c.in-Ok.ensures.items spells (search rules) (search rules) c.pad_len.ensures c.note_of-note.ensures c.in-Ok-push.ensures.items c.self.invariant.0

pub invariant_of-self : goal.invariant_of-self
invariant_of-self c =
    let many = length-map c.self.inside.notes.items (letter_in c.self.inside.bytes.items) in
    let sent = ap (λ (s : LettersState). length s.sent) c.self.view_is in
    let more = ap (λ (ns : List Note). length ns) c.in-Ok-push.ensures.items ∙ length-append c.self.inside.notes.items (c.note_of-note.result ∷ []) in
    ((pushes c).notes, omega (arith, many, sent, more, c.requires.few))

pub returns : goal.returns
returns c = (pushes c).letters ∙ ap (λ (s : LettersState). s.sent ++ record { to = c.args.to; content = c.args.content.now } ∷ []) c.self.view_is
