-- What holds of each store and of each iteration, whatever the program.
use Rattle.std.specs.Prelude.{◌≡◌, ℕ, ◌+◌, ◌<◌, ◌≤◌, Bool, List, length, take, drop, Some}
use Rattle.iter_syntax.specs.declared.tree.FieldDecl.{FieldDecl}
use Rattle.iter_syntax.specs.declared.tree.Iter.{Iter}
use Rattle.iter_check.specs.Layout.{Slot, width_bytes, size_of}
use Rattle.iter_check.specs.FieldValue.{bytes_of, item_at, write_item}
use Rattle.iter_check.specs.Iteration.{Iterated, Done, Goes, Fault, iteration, Begun, Ready, Ended, DivZero, begin}

-- the bytes at an offset are those of a value, and all others are as they were
pub record StoresAlone (before after : List ℕ) (offset width v : ℕ) : Type 0 where
  pub size : length after ≡ length before
  pub front : take offset after ≡ take offset before
  pub field : take width (drop offset after) ≡ bytes_of width v
  pub back : drop (offset + width) after ≡ drop (offset + width) before

-- a store touches only the bytes of its element, which are then those of its value
abbrev pub StoreLaw : Type 0
StoreLaw =
    (s : Slot) (i v : ℕ) (bytes : List ℕ)
    → i < s.count → item_at s i + width_bytes s.width ≤ length bytes
    → StoresAlone bytes (write_item (Some s) i v bytes) (item_at s i) (width_bytes s.width) v

-- an iteration leaves a record of `n` bytes and a pad of `m`; a fault leaves neither
abbrev pub Leaves : ℕ → ℕ → Iterated → Type 0
Leaves n m (Done bytes pad) = (length bytes ≡ n) × (length pad ≡ m)
Leaves n m (Goes to bytes pad) = (length bytes ≡ n) × (length pad ≡ m)
Leaves n m (Fault k) = Unit {0}

-- an iteration keeps how long the record and the pad are
abbrev pub LengthLaw : Type 0
LengthLaw =
    (fields : List FieldDecl) (it : Iter) (bytes : List ℕ) (cur : ℕ) (pad : List ℕ) (writable : Bool)
    → Leaves (length bytes) (length pad) (iteration fields it bytes cur pad writable)

-- init leaves a pad of `m` bytes; a division by zero leaves none
abbrev pub LeavesPad : ℕ → Begun → Type 0
LeavesPad m (Ready cur pad) = length pad ≡ m
LeavesPad m (Ended pad) = length pad ≡ m
LeavesPad m DivZero = Unit {0}

-- the pad of a walk has as many bytes as the iterator's pad
abbrev pub PadLaw : Type 0
PadLaw = (it : Iter) (values : List ℕ) → LeavesPad (size_of it.pad) (begin it values)
