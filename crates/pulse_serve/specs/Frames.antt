-- What the items of a link say, and how its traffic grows.
use Rattle.std.specs.Prelude.{◌≡◌, ℕ, Bool, List, [], ◌∷◌, ◌++◌, Option, Some, None, Result, Ok, Err}
use Rattle.pulse_base.specs.Link.{Item, frame, gap, Receipt, Sent, Traffic, next_item, later_items}
use Rattle.frame_codec.specs.declared.frame.Frame.{Frame}
use Rattle.frame_codec.specs.Spelling.{Spells, MeetsRules, frame_bytes}
use Rattle.pulse_serve.specs.declared.frames.Came.{Came}
use Rattle.pulse_serve.specs.declared.frames.Came.TheVariants as came

-- an item is a gap, or spells a frame, or spells none
abbrev pub Says : Item → Came → Type 0
Says gap came.Gap = Unit {0}
Says gap came.Noise = ⊥
Says gap (came.Frame f) = ⊥
Says (frame port bytes) came.Gap = ⊥
Says (frame port bytes) came.Noise = (f : Frame) → Spells bytes f → ⊥
Says (frame port bytes) (came.Frame f) = Spells bytes f

-- a frame that is sent to a port
abbrev pub letter : ℕ → Frame → Sent
letter port f = record { port = port; bytes = frame_bytes f }

-- ---- traffic

-- the receipts took the next items, in order
abbrev pub Comes : List Item → List Receipt → Type 0
Comes items [] = Unit {0}
Comes items (r ∷ rs) = (r.item ≡ next_item items) × Comes (later_items items) rs

abbrev pub left : List Item → List Receipt → List Item
left items [] = items
left items (r ∷ rs) = left (later_items items) rs

-- just these items were taken and these frames sent, as far as the link tells it
abbrev pub Grew : Option Traffic → Option Traffic → List Receipt → List Sent → Type 0
Grew None now rs ss = now ≡ None
Grew (Some t) now rs ss = Comes t.incoming rs × (now ≡ Some (record t { incoming = left t.incoming rs; taken = t.taken ++ rs; sent = t.sent ++ ss }))

-- the same, with what holds of the items and the frames
abbrev pub Over : Option Traffic → Option Traffic → (List Receipt → List Sent → Type 0) → Type 0
Over old now P = (rs : List Receipt) × (ss : List Sent) × Grew old now rs ss × P rs ss

-- one item was taken; a receive that fails takes none
abbrev pub Received : {E : Type 0} → Option Traffic → Option Traffic → Bool → Result Came E → Type 0
Received old now wait (Ok c) = (r : Receipt) × (r.wait ≡ wait) × Says r.item c × Grew old now (r ∷ []) []
Received old now wait (Err e) = Grew old now [] []

-- all of these frames were sent, of which there is one at most; where its send failed, none was
abbrev pub Posts : {E : Type 0} → Option Traffic → Option Traffic → List Sent → Result (Unit {0}) E → Type 0
Posts old now ss (Ok u) = Grew old now [] ss
Posts old now ss (Err e) = (lost : Sent) × (ss ≡ lost ∷ []) × Grew old now [] []

abbrev pub CameFits : Came → Type 0
CameFits came.Gap = Unit {0}
CameFits came.Noise = Unit {0}
CameFits (came.Frame f) = MeetsRules f
