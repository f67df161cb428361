-- A served run: the items of a link taken one after the other, each by one turn of a loop, and where it ends.
use Rattle.std.specs.Prelude.{◌≡◌, ◌≤◌, ◌<◌, ℕ, List, [], ◌∷◌, ◌++◌, length, ◌⊎◌}
use Rattle.pulse_base.specs.Link.{Receipt, Sent}
use Rattle.pulse_serve.specs.declared.served.Served.{Served}
use Rattle.pulse_serve.specs.declared.served.Served.TheVariants as served

-- what a turn does: from a state and what it is made on, to the state after it and the frames sent
abbrev pub TurnOn : Type 0 → Type 0 → Type 1
TurnOn S I = S → I → S → List Sent → Type 0

-- a turn for each of these, in order
abbrev pub Runs : {S I : Type 0} → TurnOn S I → S → List I → S → List Sent → Type 0
Runs Turn s [] now ss = (now ≡ s) × (ss ≡ [])
Runs {S} Turn s (i ∷ is) now ss = (mid : S) × (first later : List Sent) × Turn s i mid first × Runs Turn mid is now later × (ss ≡ first ++ later)

-- whole turns, and then one that was cut at a send that failed: `UpTo` says what it did by then, with the frame that
-- was lost as its last
pub record CutAt {S : Type 0} (Turn UpTo : TurnOn S Receipt) (s : S) (rs : List Receipt) (now : S) (ss : List Sent) : Type 0 where
  pub before : List Receipt
  pub last : Receipt
  pub receipts : rs ≡ before ++ last ∷ []
  pub mid : S
  pub early : List Sent
  pub run : Runs Turn s before mid early
  pub late : List Sent
  pub lost : Sent
  pub cut : UpTo mid last now (late ++ lost ∷ [])
  pub sent : ss ≡ early ++ late

-- whole turns, and then an item that changed nothing and ended the loop
pub record EndsAt {S : Type 0} (Turn : TurnOn S Receipt) (Ends : S → Receipt → Type 0) (s : S) (rs : List Receipt) (now : S) (ss : List Sent) : Type 0 where
  pub before : List Receipt
  pub last : Receipt
  pub receipts : rs ≡ before ++ last ∷ []
  pub run : Runs Turn s before now ss
  pub ends : Ends now last

-- the turns of a loop, and the items that end it
pub record Loop (S : Type 0) : Type 1 where
  pub Turn : TurnOn S Receipt
  pub UpTo : TurnOn S Receipt
  pub IsStop : S → Receipt → Type 0
  pub WantsMemory : S → Receipt → Type 0

-- how a loop ended: at a Stop; after all its turns; at a call on the link that failed, a receive between two turns or a
-- send within one; or for want of memory
abbrev pub Ended : {S : Type 0} → Loop S → ℕ → Served → S → List Receipt → S → List Sent → Type 0
Ended loop turns served.Stopped s rs now ss = EndsAt loop.Turn loop.IsStop s rs now ss
Ended loop turns served.TurnsUsed s rs now ss = Runs loop.Turn s rs now ss × (length rs ≡ turns)
Ended loop turns served.LinkFault s rs now ss = (Runs loop.Turn s rs now ss × (length rs < turns)) ⊎ CutAt loop.Turn loop.UpTo s rs now ss
Ended loop turns served.Memory s rs now ss = EndsAt loop.Turn loop.WantsMemory s rs now ss

-- a loop of so many turns at most, from a state, on these items, to this state with these frames sent
abbrev pub Serves : {S : Type 0} → Loop S → ℕ → Served → S → List Receipt → S → List Sent → Type 0
Serves loop turns result s rs now ss = (length rs ≤ turns) × Ended loop turns result s rs now ss
