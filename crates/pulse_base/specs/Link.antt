-- What a link may tell, and what a call does to it.
use Rattle.std.specs.Prelude.{◌≡◌, ◌≤◌, ℕ, min, Bool, List, [], ◌∷◌, ◌++◌, length, take, Option, Some, None, Result, Ok, Err}
use Rattle.pulse_base.specs.declared.link.Got.{Got}
use Rattle.pulse_base.specs.declared.link.Got.TheVariants.{Frame, Nothing}

-- what comes in: a frame from a port, or a gap
pub data Item : Type 0 where
  frame : ℕ → List ℕ → Item
  gap : Item

-- an item that a receive took, and whether it waited
pub record Receipt : Type 0 where
  pub wait : Bool
  pub item : Item

-- a frame that was sent to a port
pub record Sent : Type 0 where
  pub port : ℕ
  pub bytes : List ℕ

-- what is still to come, the receipts of the receives that did not fail, the frames sent, the ports bound
pub record Traffic : Type 0 where
  pub incoming : List Item
  pub taken : List Receipt
  pub sent : List Sent
  pub bound : List ℕ

-- a bind appends its port, or fails and appends nothing
abbrev pub Binds : {E : Type 0} → Option Traffic → Option Traffic → ℕ → Result (Unit {0}) E → Type 0
Binds None now port r = now ≡ None
Binds (Some t) now port (Ok u) = now ≡ Some (record t { bound = t.bound ++ port ∷ [] })
Binds (Some t) now port (Err e) = now ≡ Some t

-- a send appends its frame, or fails and appends nothing
abbrev pub Sends : {E : Type 0} → Option Traffic → Option Traffic → ℕ → List ℕ → Result (Unit {0}) E → Type 0
Sends None now port bytes r = now ≡ None
Sends (Some t) now port bytes (Ok u) = now ≡ Some (record t { sent = t.sent ++ record { port = port; bytes = bytes } ∷ [] })
Sends (Some t) now port bytes (Err e) = now ≡ Some t

-- the next item, which is a gap at the end, and the items after it
abbrev pub next_item : List Item → Item
next_item [] = gap
next_item (i ∷ is) = i

abbrev pub later_items : List Item → List Item
later_items [] = []
later_items (i ∷ is) = is

abbrev pub receive : Traffic → Bool → Traffic
receive t wait = record t { incoming = later_items t.incoming; taken = t.taken ++ record { wait = wait; item = next_item t.incoming } ∷ [] }

-- what is answered for an item, with the buffer after the call: the front of a frame that is longer than the buffer
abbrev pub Answers : Item → List ℕ → Got → Type 0
Answers gap buf Nothing = Unit {0}
Answers gap buf (Frame port len) = ⊥
Answers (frame p bytes) buf Nothing = ⊥
Answers (frame p bytes) buf (Frame port len) = (port ≡ p) × (len ≡ min (length bytes) (length buf)) × (take len buf ≡ take len bytes)

-- a receive takes the next item, or fails and takes none
abbrev pub Receives : {E : Type 0} → Option Traffic → Option Traffic → Bool → List ℕ → Result Got E → Type 0
Receives None now wait buf r = now ≡ None
Receives (Some t) now wait buf (Ok got) = (now ≡ Some (receive t wait)) × Answers (next_item t.incoming) buf got
Receives (Some t) now wait buf (Err e) = now ≡ Some t

-- the length that is answered is within the buffer
abbrev pub WithinBuffer : Got → List ℕ → Type 0
WithinBuffer Nothing buf = Unit {0}
WithinBuffer (Frame port len) buf = len ≤ length buf
