-- How traffic grows, one call after the other.
use Rattle.std.proofs.Common.{◌≡◌, ◌≤◌, ℕ, Bool, List, [], ◌∷◌, ◌++◌, length, take, min, Option, Some, None, Result, Ok, Err, refl, sym, ap, subst, ◌∙◌, arith, append_assoc, length-append, length-take}
use Rattle.std.proofs.Math.Seq.{take-length}
use Rattle.pulse_base.specs.Link.{Item, frame, gap, Receipt, Sent, Traffic, next_item, later_items, receive, Receives, Sends, Answers}
use Rattle.pulse_base.specs.declared.link.Got.{Got}
use Rattle.pulse_base.specs.declared.link.Got.TheVariants as got
use Rattle.pulse_base.specs.declared.source.Failed.{Failed}
use Rattle.frame_codec.specs.declared.frame.Frame.{Frame}
use Rattle.frame_codec.specs.declared.header.Header.{Header}
use Rattle.frame_codec.specs.Layout.{header_bytes}
use Rattle.frame_codec.specs.Spelling.{Spells, header_of, pad_of, HasPad}
use Rattle.frame_codec.specs.declared.frame.Frame.TheVariants as frames
use Rattle.pulse_serve.specs.declared.frames.Came.TheVariants as came
use Rattle.pulse_serve.specs.Frames.{Says, Comes, left, Grew, Received, Posts, letter}

header_len : (h : Header) → length (header_bytes h) ≡ 30
header_len h = refl

pad_len : (f : Frame) → HasPad f → length (pad_of f) ≤ 256
pad_len (frames.Leg l) h = h.1
pad_len (frames.Back b) h = h.1
pad_len frames.Stop h = omega arith

-- no frame is longer than 286 bytes
pub spelled_len : (bytes : List ℕ) (f : Frame) → Spells bytes f → length bytes ≤ 286
spelled_len bytes f s = omega (arith, ap length s.spelling, length-append (header_bytes (header_of f)) (pad_of f), header_len (header_of f), pad_len f s.pad)

comes_more : (items : List Item) (rs qs : List Receipt) → Comes items rs → Comes (left items rs) qs → Comes items (rs ++ qs)
comes_more items [] qs c d = d
comes_more items (r ∷ rs) qs c d = (c.0, comes_more (later_items items) rs qs c.1 d)

left_more : (items : List Item) (rs qs : List Receipt) → left items (rs ++ qs) ≡ left (left items rs) qs
left_more items [] qs = refl
left_more items (r ∷ rs) qs = left_more (later_items items) rs qs

grown : Traffic → List Receipt → List Sent → Traffic
grown t rs ss = record t { incoming = left t.incoming rs; taken = t.taken ++ rs; sent = t.sent ++ ss }

pub grew_more : (a b c : Option Traffic) (rs qs : List Receipt) (ss ts : List Sent) → Grew a b rs ss → Grew b c qs ts → Grew a c (rs ++ qs) (ss ++ ts)
grew_more None b c rs qs ss ts g h = subst (λ x. Grew x c qs ts) g h
grew_more (Some t) b c rs qs ss ts g h =
    let k = subst (λ x. Grew x c qs ts) g.1 h in (
      comes_more t.incoming rs qs g.0 k.0,
      k.1 ∙ ap Some (
          ap (λ l. record t { incoming = l; taken = (t.taken ++ rs) ++ qs; sent = (t.sent ++ ss) ++ ts }) (sym (left_more t.incoming rs qs))
          ∙ ap (λ l. record t { incoming = left t.incoming (rs ++ qs); taken = l; sent = (t.sent ++ ss) ++ ts }) (append_assoc t.taken rs qs)
          ∙ ap (λ l. record t { incoming = left t.incoming (rs ++ qs); taken = t.taken ++ (rs ++ qs); sent = l }) (append_assoc t.sent ss ts)),
    )

pub append_nil : {A : Type 0} (l : List A) → l ++ [] ≡ l
append_nil [] = refl
append_nil (x ∷ xs) = ap (λ l. x ∷ l) (append_nil xs)

unsent : (t : Traffic) → record t { taken = t.taken ++ []; sent = t.sent ++ [] } ≡ t
unsent t = ap (λ l. record t { taken = l; sent = t.sent ++ [] }) (append_nil t.taken) ∙ ap (λ l. record t { sent = l }) (append_nil t.sent)

pub grew_none : (a b : Option Traffic) → a ≡ b → Grew a b [] []
grew_none None b e = sym e
grew_none (Some t) b e = (tt, sym e ∙ ap Some (sym (unsent t)))

pub posted : (a b : Option Traffic) (port : ℕ) (bytes : List ℕ) (f : Frame) (r : Result (Unit {0}) Failed) → Sends a b port bytes r → Spells bytes f → Posts a b (letter port f ∷ []) r
posted None b port bytes f (Ok u) s p = s
posted None b port bytes f (Err e) s p = (letter port f, refl, s)
posted (Some t) b port bytes f (Ok u) s p = (
  tt,
  s ∙ ap Some (
      ap (λ l. record t { sent = t.sent ++ record { port = port; bytes = l } ∷ [] }) p.spelling
      ∙ ap (λ l. record t { taken = l; sent = t.sent ++ letter port f ∷ [] }) (sym (append_nil t.taken))),
)
posted (Some t) b port bytes f (Err e) s p = (letter port f, refl, grew_none (Some t) b (sym s))

-- ---- an item

whole : (bytes : List ℕ) (n m : ℕ) → n ≡ min (length bytes) m → 512 ≤ m → n ≤ 286 → take n bytes ≡ bytes
whole bytes n m is big small =
    let all : n ≡ length bytes = omega (arith, is, big, small) in
    ap (λ k. take k bytes) all ∙ take-length bytes

says_frame : (i : Item) (buf : List ℕ) (p n : ℕ) (f : Frame) → Answers i buf (got.Frame p n) → 512 ≤ length buf → Spells (take n buf) f → Says i (came.Frame f)
says_frame gap buf p n f a big s = a
says_frame (frame q bytes) buf p n f a big s =
    let short : n ≤ 286 = omega (arith, spelled_len (take n buf) f s, length-take n buf, a.1, big) in
    subst (λ l. Spells l f) (a.2 ∙ whole bytes n (length buf) a.1 big short) s

says_noise : (i : Item) (buf : List ℕ) (p n : ℕ) → Answers i buf (got.Frame p n) → 512 ≤ length buf → ((f : Frame) → Spells (take n buf) f → ⊥) → Says i came.Noise
says_noise gap buf p n a big s = a
says_noise (frame q bytes) buf p n a big s = λ f k.
    let short : n ≤ 286 = omega (arith, spelled_len bytes f k, a.1, big) in
    s f (subst (λ l. Spells l f) (sym (a.2 ∙ whole bytes n (length buf) a.1 big short)) k)

says_gap : (i : Item) (buf : List ℕ) → Answers i buf got.Nothing → Says i came.Gap
says_gap gap buf a = tt
says_gap (frame q bytes) buf a = a

took : (t : Traffic) (b : Option Traffic) (wait : Bool) → b ≡ Some (receive t wait) → Grew (Some t) b (record { wait = wait; item = next_item t.incoming } ∷ []) []
took t b wait e = ((refl, tt), e ∙ ap Some (ap (λ l. record (receive t wait) { sent = l }) (sym (append_nil t.sent))))

pub received_gap : (a b : Option Traffic) (wait : Bool) (buf : List ℕ) → Receives {E = Failed} a b wait buf (Ok got.Nothing) → Received {E = Failed} a b wait (Ok came.Gap)
received_gap None b wait buf r = (record { wait = wait; item = gap }, refl, tt, r)
received_gap (Some t) b wait buf r = (record { wait = wait; item = next_item t.incoming }, refl, says_gap (next_item t.incoming) buf r.1, took t b wait r.0)

pub received_frame : (a b : Option Traffic) (wait : Bool) (buf : List ℕ) (p n : ℕ) (f : Frame) → Receives {E = Failed} a b wait buf (Ok (got.Frame p n)) → 512 ≤ length buf → Spells (take n buf) f → Received {E = Failed} a b wait (Ok (came.Frame f))
received_frame None b wait buf p n f r big s = (record { wait = wait; item = frame p (take n buf) }, refl, s, r)
received_frame (Some t) b wait buf p n f r big s = (record { wait = wait; item = next_item t.incoming }, refl, says_frame (next_item t.incoming) buf p n f r.1 big s, took t b wait r.0)

pub received_noise : (a b : Option Traffic) (wait : Bool) (buf : List ℕ) (p n : ℕ) → Receives {E = Failed} a b wait buf (Ok (got.Frame p n)) → 512 ≤ length buf → ((f : Frame) → Spells (take n buf) f → ⊥) → Received {E = Failed} a b wait (Ok came.Noise)
received_noise None b wait buf p n r big s = (record { wait = wait; item = frame p (take n buf) }, refl, s, r)
received_noise (Some t) b wait buf p n r big s = (record { wait = wait; item = next_item t.incoming }, refl, says_noise (next_item t.incoming) buf p n r.1 big s, took t b wait r.0)

pub received_none : (a b : Option Traffic) (wait : Bool) (buf : List ℕ) (e : Failed) → Receives {E = Failed} a b wait buf (Err e) → Received {E = Failed} a b wait (Err e)
received_none None b wait buf e r = r
received_none (Some t) b wait buf e r = grew_none (Some t) b (sym r)

-- ---- as the code meets them

pub came_gap : (a b : Option Traffic) (wait : Bool) (buf : List ℕ) (x : Got) → Receives {E = Failed} a b wait buf (Ok x) → x ≡ got.Nothing → Received {E = Failed} a b wait (Ok came.Gap)
came_gap a b wait buf x r e = received_gap a b wait buf (subst (λ y. Receives {E = Failed} a b wait buf (Ok y)) e r)

pub came_frame : (a b : Option Traffic) (wait : Bool) (buf : List ℕ) (x : Got) (p n : ℕ) (f : Frame) → Receives {E = Failed} a b wait buf (Ok x) → x ≡ got.Frame p n → 512 ≤ length buf → Spells (take n buf) f → Received {E = Failed} a b wait (Ok (came.Frame f))
came_frame a b wait buf x p n f r e big s = received_frame a b wait buf p n f (subst (λ y. Receives {E = Failed} a b wait buf (Ok y)) e r) big s

pub came_noise : {E : Type 0} (a b : Option Traffic) (wait : Bool) (buf : List ℕ) (x : Got) (p n : ℕ) (bad : E) → Receives {E = Failed} a b wait buf (Ok x) → x ≡ got.Frame p n → 512 ≤ length buf
    → ((f : Frame) → Spells (take n buf) f → ◌≡◌ {A = Result Frame E} (Err bad) (Ok f)) → Received {E = Failed} a b wait (Ok came.Noise)
came_noise a b wait buf x p n bad r e big s =
    received_noise a b wait buf p n (subst (λ y. Receives {E = Failed} a b wait buf (Ok y)) e r) big (λ f k. let no = s f k in absurd (cc))
