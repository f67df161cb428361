-- Letters as notes and the bytes of all frames.
use Rattle.std.specs.Prelude.{◌≡◌, ℕ, ◌+◌, ◌-◌, ◌≤◌, ◌&&◌, List, length, map, take, drop, Option, Some, None, nat_lt, nat_le, slice_get}
use Rattle.std.specs.Vec.{vec_len, vec_capacity}
use Rattle.frame_codec.specs.declared.frame.Ending.{Ending}
use Rattle.frame_codec.specs.Spelling.{Spells}
use Rattle.world_core.specs.declared.letter.To.{To}
use Rattle.world_core.specs.declared.letter.Content.{Content}
use Rattle.world_core.specs.declared.letter.Content.TheVariants as content
use Rattle.world_core.specs.declared.letter.Letter.{Letter}
use Rattle.world_core.specs.declared.letter.Note.{Note}
use Rattle.world_core.specs.declared.letters.Letters.TheInside.{Inside}
use Rattle.world_core.specs.Letters.{LettersState, frame_of}

-- the bytes from one place up to another
abbrev pub between : ℕ → ℕ → List ℕ → List ℕ
between from to bytes = take (to - from) (drop from bytes)

abbrev pub bytes_in : List ℕ → Note → List ℕ
bytes_in bytes n = between n.start n.end bytes

abbrev pub content_with : Note → List ℕ → Option Ending → Content
content_with n pad None = content.Leg (record { client = n.client; request = n.request; leg = n.leg; program = n.program; left = n.left; cur = n.cur; pad = pad })
content_with n pad (Some e) = content.Back (record { client = n.client; request = n.request; leg = n.leg; program = n.program; left = n.left; cur = n.cur; pad = pad; ending = e })

abbrev pub letter_in : List ℕ → Note → Letter
letter_in bytes n = record { to = n.to; content = content_with n (between n.pad_start n.end bytes) n.ending }

-- a note's bytes are there, and spell its frame
pub record Lies (bytes : List ℕ) (n : Note) : Type 0 where
  pub order : n.start ≤ n.pad_start
  pub pad_order : n.pad_start ≤ n.end
  pub inside : n.end ≤ length bytes
  pub spells : Spells (bytes_in bytes n) (frame_of (letter_in bytes n).content)

abbrev pub AreNotes : List ℕ → List Note → Type 0
AreNotes bytes notes = (k : ℕ) (n : Note) → slice_get notes k ≡ Some n → Lies bytes n

abbrev pub letters_view : Inside → LettersState
letters_view l = record {
  sent = map (letter_in l.bytes.items) l.notes.items;
  room = nat_lt (vec_len l.notes) (vec_capacity l.notes) && nat_le (vec_len l.bytes + 286) (vec_capacity l.bytes);
}

-- the note of a content whose bytes lie there
abbrev pub note_of : To → Content → ℕ → ℕ → ℕ → Note
note_of to (content.Leg l) start pad end = record { to = to; client = l.client; request = l.request; leg = l.leg; program = l.program; left = l.left; cur = l.cur; ending = None; start = start; pad_start = pad; end = end }
note_of to (content.Back b) start pad end = record { to = to; client = b.client; request = b.request; leg = b.leg; program = b.program; left = b.left; cur = b.cur; ending = Some b.ending; start = start; pad_start = pad; end = end }
