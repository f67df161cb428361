-- Notes and the bytes of all frames, as a letter is read and appended.
use Rattle.std.proofs.Common.{◌≡◌, ℕ, zero, suc, ◌+◌, ◌-◌, ◌≤◌, ◌<◌, List, [], ◌∷◌, ◌++◌, length, get_or, take, drop, Some, refl, sym, ap, ◌∙◌, subst, arith, map, append_assoc, length-append, length-drop}
use Rattle.std.specs.Prelude.{slice_get, option_map}
use Rattle.std.proofs.lemmas.List.{take-append-le, drop-append-le, take_all, length-map}
use Rattle.std.proofs.Math.Seq.{drop-append_seam}
use Rattle.std.proofs.lemmas.Option.{slice_get-map, slice_get-get_or}
use Rattle.frame_codec.specs.Spelling.{Spells, header_of, pad_of}
use Rattle.frame_codec.specs.Layout.{header_bytes}
use Rattle.world_core.specs.declared.letter.To.{To}
use Rattle.world_core.specs.declared.letter.Content.{Content}
use Rattle.world_core.specs.declared.letter.Content.TheVariants as content
use Rattle.world_core.specs.declared.letter.Letter.{Letter}
use Rattle.world_core.specs.declared.letter.Note.{Note}
use Rattle.world_core.specs.Letters.{frame_of}
use Rattle.world_core.specs.inner.Notes.{between, bytes_in, content_with, letter_in, Lies, AreNotes, note_of}

-- ---- bytes before others that are appended

between_more : (xs ys : List ℕ) (from to : ℕ) → from ≤ to → to ≤ length xs → between from to (xs ++ ys) ≡ between from to xs
between_more xs ys from to h k =
    ap (take (to - from)) (drop-append-le from xs ys (omega (arith, h, k))) ∙ take-append-le (to - from) (drop from xs) ys (omega (arith, h, k, length-drop from xs))

letter_more : (xs ys : List ℕ) (n : Note) → Lies xs n → letter_in (xs ++ ys) n ≡ letter_in xs n
letter_more xs ys n l = ap (λ p. record { to = n.to; content = content_with n p n.ending }) (between_more xs ys n.pad_start n.end l.pad_order l.inside)

lies_more : (xs ys : List ℕ) (n : Note) → Lies xs n → Lies (xs ++ ys) n
lies_more xs ys n l = record {
  order = l.order;
  pad_order = l.pad_order;
  inside = omega (arith, l.inside, length-append xs ys);
  spells = subst (λ (m : Letter). Spells (bytes_in (xs ++ ys) n) (frame_of m.content)) (sym (letter_more xs ys n l))
      (subst (λ b. Spells b (frame_of (letter_in xs n).content)) (sym (between_more xs ys n.start n.end (omega (arith, l.order, l.pad_order)) l.inside)) l.spells);
}

-- ---- the frame whose bytes are appended

between_end : (xs ys : List ℕ) (to : ℕ) → to ≡ length (xs ++ ys) → between (length xs) to (xs ++ ys) ≡ ys
between_end xs ys to e =
    ap (λ z. take (to - length xs) z) (drop-append_seam xs ys) ∙ take_all (to - length xs) ys (omega (arith, e, length-append xs ys))

pad_behind : (xs new : List ℕ) (f : Content) → Spells new (frame_of f) → between (length (xs ++ new) - length (pad_of (frame_of f))) (length (xs ++ new)) (xs ++ new) ≡ pad_of (frame_of f)
pad_behind xs new f s =
    let h = header_bytes (header_of (frame_of f)) in
    let e : xs ++ new ≡ (xs ++ h) ++ pad_of (frame_of f) = ap (λ z. xs ++ z) s.spelling ∙ sym (append_assoc xs h (pad_of (frame_of f))) in
    let n : length (xs ++ new) ≡ length (xs ++ h) + length (pad_of (frame_of f)) = ap (λ (z : List ℕ). length z) e ∙ length-append (xs ++ h) (pad_of (frame_of f)) in
    let at : length (xs ++ new) - length (pad_of (frame_of f)) ≡ length (xs ++ h) = omega (arith, n) in
    (λ i. between (at i) (length (xs ++ new)) (e i)) ∙ between_end (xs ++ h) (pad_of (frame_of f)) (length (xs ++ new)) (ap (λ (z : List ℕ). length z) e)

noted : (to : To) (f : Content) (bytes : List ℕ) (start pad_start end : ℕ) → between pad_start end bytes ≡ pad_of (frame_of f) → letter_in bytes (note_of to f start pad_start end) ≡ record { to = to; content = f }
noted to (content.Leg l) bytes start pad_start end e =
    ap (λ z. record { to = to; content = content.Leg (record { client = l.client; request = l.request; leg = l.leg; program = l.program; left = l.left; cur = l.cur; pad = z }) }) e
noted to (content.Back b) bytes start pad_start end e =
    ap (λ z. record { to = to; content = content.Back (record { client = b.client; request = b.request; leg = b.leg; program = b.program; left = b.left; cur = b.cur; pad = z; ending = b.ending }) }) e

record Places (n : Note) (a p b : ℕ) : Type 0 where
  start : n.start ≡ a
  pad_start : n.pad_start ≡ p
  end : n.end ≡ b

places : (to : To) (f : Content) (start pad_start end : ℕ) → Places (note_of to f start pad_start end) start pad_start end
places to (content.Leg l) start pad_start end = record { start = refl; pad_start = refl; end = refl }
places to (content.Back b) start pad_start end = record { start = refl; pad_start = refl; end = refl }

-- the note of a frame whose bytes were appended
abbrev new_note : To → Content → (xs new : List ℕ) → Note
new_note to f xs new = note_of to f (length xs) (length (xs ++ new) - length (pad_of (frame_of f))) (length (xs ++ new))

new_letter : (to : To) (f : Content) (xs new : List ℕ) → Spells new (frame_of f) → letter_in (xs ++ new) (new_note to f xs new) ≡ record { to = to; content = f }
new_letter to f xs new s = noted to f (xs ++ new) (length xs) (length (xs ++ new) - length (pad_of (frame_of f))) (length (xs ++ new)) (pad_behind xs new f s)

new_lies : (to : To) (f : Content) (xs new : List ℕ) → Spells new (frame_of f) → Lies (xs ++ new) (new_note to f xs new)
new_lies to f xs new s =
    let at = places to f (length xs) (length (xs ++ new) - length (pad_of (frame_of f))) (length (xs ++ new)) in
    let n = length-append xs new in
    let m : length new ≡ length (header_bytes (header_of (frame_of f))) + length (pad_of (frame_of f)) = ap (λ (z : List ℕ). length z) s.spelling ∙ length-append (header_bytes (header_of (frame_of f))) (pad_of (frame_of f)) in
    let whole : bytes_in (xs ++ new) (new_note to f xs new) ≡ new = (λ i. between (at.start i) (at.end i) (xs ++ new)) ∙ between_end xs new (length (xs ++ new)) refl in
    record {
      order = omega (arith, at.start, at.pad_start, n, m);
      pad_order = omega (arith, at.pad_start, at.end);
      inside = omega (arith, at.end);
      spells = subst (λ (x : Letter). Spells (bytes_in (xs ++ new) (new_note to f xs new)) (frame_of x.content)) (sym (new_letter to f xs new s)) (subst (λ b. Spells b (frame_of f)) (sym whole) s);
    }

-- ---- all notes

all_more : (xs ys : List ℕ) (notes : List Note) → AreNotes xs notes → AreNotes (xs ++ ys) notes
all_more xs ys notes h k n e = lies_more xs ys n (h k n e)

all_push : (xs : List ℕ) (notes : List Note) (n : Note) → AreNotes xs notes → Lies xs n → AreNotes xs (notes ++ n ∷ [])
all_push xs [] n h l zero m e = let c : n ≡ m = cc in subst (Lies xs) c l
all_push xs [] n h l (suc k) m e = absurd (cc)
all_push xs (x ∷ notes) n h l zero m e = h zero m e
all_push xs (x ∷ notes) n h l (suc k) m e = all_push xs notes n (λ j. h (suc j)) l k m e

map_more : (xs ys : List ℕ) (notes : List Note) → AreNotes xs notes → map (letter_in (xs ++ ys)) notes ≡ map (letter_in xs) notes
map_more xs ys [] h = refl
map_more xs ys (n ∷ notes) h = (λ i. letter_more xs ys n (h zero n refl) i ∷ map_more xs ys notes (λ j. h (suc j)) i)

map_end : (xs : List ℕ) (notes : List Note) (n : Note) → map (letter_in xs) (notes ++ n ∷ []) ≡ map (letter_in xs) notes ++ letter_in xs n ∷ []
map_end xs [] n = refl
map_end xs (m ∷ notes) n = ap (λ l. letter_in xs m ∷ l) (map_end xs notes n)

pub record Pushed (to : To) (f : Content) (xs bytes : List ℕ) (short longer : List Note) : Type 0 where
  pub notes : AreNotes bytes longer
  pub letters : map (letter_in bytes) longer ≡ map (letter_in xs) short ++ record { to = to; content = f } ∷ []

pub pushed : (to : To) (f : Content) (xs bytes new : List ℕ) (notes longer : List Note) (start end pad : ℕ) (n : Note)
    → bytes ≡ xs ++ new → Spells new (frame_of f) → start ≡ length xs → end ≡ length bytes → pad ≡ length (pad_of (frame_of f))
    → n ≡ note_of to f start (end - pad) end → longer ≡ notes ++ n ∷ [] → AreNotes xs notes → Pushed to f xs bytes notes longer
pushed to f xs bytes new notes longer start end pad n b s e1 e2 e3 noted_as long h =
    let e4 : end ≡ length (xs ++ new) = e2 ∙ ap (λ (z : List ℕ). length z) b in
    let is : n ≡ new_note to f xs new = noted_as ∙ (λ i. note_of to f (e1 i) (e4 i - e3 i) (e4 i)) in
    let all : longer ≡ notes ++ new_note to f xs new ∷ [] = long ∙ ap (λ z. notes ++ z ∷ []) is in
    record {
      notes = subst (λ z. AreNotes z longer) (sym b) (subst (AreNotes (xs ++ new)) (sym all) (all_push (xs ++ new) notes _ (all_more xs new notes h) (new_lies to f xs new s)));
      letters = (λ i. map (letter_in (b i)) (all i)) ∙ map_end (xs ++ new) notes _ ∙ (λ i. map_more xs new notes h i ++ new_letter to f xs new s i ∷ []);
    }

-- ---- a note that is read

pub read_lies : (xs : List ℕ) (notes : List Note) (letters : List Letter) (k : ℕ) (n : Note) → AreNotes xs notes → map (letter_in xs) notes ≡ letters → k < length letters → n ≡ get_or notes k n → Lies xs n
read_lies xs notes letters k n h e lt r =
    let l : k < length notes = omega (arith, lt, ap (λ (z : List Letter). length z) e, length-map notes (letter_in xs)) in h k n (slice_get-get_or notes k n l ∙ ap Some (sym r))

pub read_is : (xs : List ℕ) (notes : List Note) (letters : List Letter) (k : ℕ) (n : Note) → map (letter_in xs) notes ≡ letters → k < length letters → n ≡ get_or notes k n → slice_get letters k ≡ Some (letter_in xs n)
read_is xs notes letters k n e lt r =
    let l : k < length notes = omega (arith, lt, ap (λ (z : List Letter). length z) e, length-map notes (letter_in xs)) in
    ap (λ ls. slice_get ls k) (sym e) ∙ slice_get-map (letter_in xs) notes k ∙ ap (option_map (letter_in xs)) (slice_get-get_or notes k n l ∙ ap Some (sym r))
