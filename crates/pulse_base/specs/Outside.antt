-- What a call to the outside did: its count of faults, and its content where the object tells it.
use Rattle.std.specs.Prelude.{◌≡◌, ℕ, ◌+◌, ◌-◌, ◌^◌, ◌≤◌, min, List, [], ◌++◌, length, take, drop, Option, Some, None, Result, Ok, Err, OnOk, OnErr}

-- a count rose, or stands at its last value
abbrev pub Rose : ℕ → ℕ → Type 0
Rose before now = min (before + 1) (2 ^ 64 - 1) ≤ now

-- a count never falls; a call that fails raises it, and a call that does not leaves it as it was
pub record HasCause {T E : Type 0} (before now : ℕ) (result : Result T E) : Type 0 where
  pub later : before ≤ now
  pub failed : OnErr result (Rose before now)
  pub kept : OnOk result (now ≡ before)

-- n bytes were taken from the front of what was left, into a buffer; none only at the end
pub record Front (left now buf : List ℕ) (n : ℕ) : Type 0 where
  pub within : n ≤ length left
  pub rest : now ≡ drop n left
  pub bytes : take n buf ≡ take n left
  pub end : n ≡ 0 → left ≡ []

-- what a read did to what is left
abbrev pub Takes : {E : Type 0} → Option (List ℕ) → Option (List ℕ) → List ℕ → Result ℕ E → Type 0
Takes None now buf r = now ≡ None
Takes (Some left) now buf (Ok n) = (rest : List ℕ) × (now ≡ Some rest) × Front left rest buf n
Takes (Some left) now buf (Err e) = now ≡ Some left

-- what a write did to what was taken
abbrev pub Gives : {E : Type 0} → Option (List ℕ) → Option (List ℕ) → List ℕ → Result ℕ E → Type 0
Gives None now piece r = now ≡ None
Gives (Some taken) now piece (Ok n) = now ≡ Some (taken ++ take n piece)
Gives (Some taken) now piece (Err e) = now ≡ Some taken

-- just the bytes were appended, or a front of them where a write failed
abbrev pub Appends : {E : Type 0} → Option (List ℕ) → Option (List ℕ) → List ℕ → Result (Unit {0}) E → Type 0
Appends None now bytes r = now ≡ None
Appends (Some taken) now bytes (Ok u) = now ≡ Some (taken ++ bytes)
Appends (Some taken) now bytes (Err e) = (n : ℕ) × (now ≡ Some (taken ++ take n bytes))
