-- Numbers are read and stored where their bytes are there; a store changes no length.
use Rattle.std.proofs.Common.{◌≡◌, ℕ, zero, suc, ◌+◌, ◌/◌, ◌≤◌, Bool, if◌then◌else◌, List, ◌++◌, length, take, drop, Some, None, refl, ap, arith, length-append, length-take, length-drop}
use Rattle.std.proofs.lemmas.Bool.{le-leb}
use Rattle.pulse_isa.specs.Bytes.{number, low_bytes, number_at, stored_at}

pub number_at-there : (bytes : List ℕ) (off w : ℕ) → off + w ≤ length bytes → number_at bytes off w ≡ Some (number (take w (drop off bytes)))
number_at-there bytes off w h = ap (λ (b : Bool). if b then Some (number (take w (drop off bytes))) else None) (le-leb (off + w) (length bytes) h)

pub stored_at-there : (bytes : List ℕ) (off w v : ℕ) → off + w ≤ length bytes → stored_at bytes off w v ≡ Some (take off bytes ++ low_bytes w v ++ drop (off + w) bytes)
stored_at-there bytes off w v h = ap (λ (b : Bool). if b then Some (take off bytes ++ low_bytes w v ++ drop (off + w) bytes) else None) (le-leb (off + w) (length bytes) h)

pub length-low_bytes : (w v : ℕ) → length (low_bytes w v) ≡ w
length-low_bytes zero v = refl
length-low_bytes (suc w) v = omega (arith, length-low_bytes w (v / 256))

pub length-stored : (bytes : List ℕ) (off w v : ℕ) → off + w ≤ length bytes → length (take off bytes ++ low_bytes w v ++ drop (off + w) bytes) ≡ length bytes
length-stored bytes off w v h =
    omega (arith, length-append (take off bytes ++ low_bytes w v) (drop (off + w) bytes), length-append (take off bytes) (low_bytes w v), length-take off bytes, length-drop (off + w) bytes, length-low_bytes w v)
