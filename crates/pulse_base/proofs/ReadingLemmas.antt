-- The bytes found so far are the front of what was left.
use Rattle.std.proofs.Common.{◌≡◌, ℕ, ◌+◌, ◌++◌, List, length, drop, Option, Some, None, Ok, Err, sym, ap, ◌∙◌, subst}
use Rattle.std.proofs.Math.Seq.{drop-append-add}
use Rattle.pulse_base.specs.Outside.{Takes}
use Rattle.pulse_base.specs.Reading.{ReadsAll}
use Rattle.pulse_base.specs.declared.source.Failed.{Failed}
use Rattle.pulse_base.specs.declared.reading.ReadAll.TheVariants.{Memory}

abbrev pub Found : Option (List ℕ) → Option (List ℕ) → List ℕ → Type 0
Found None now found = now ≡ None
Found (Some left) now found = (rest : List ℕ) × (now ≡ Some rest) × (left ≡ found ++ rest)

dropped : (found rest : List ℕ) (n : ℕ) → drop n rest ≡ drop (length found + n) (found ++ rest)
dropped found rest n = sym (drop-append-add found rest n)

-- what was read and could not be kept
pub gave_up : (old mid new : Option (List ℕ)) (max n : ℕ) (buf found : List ℕ) → Found old mid found → Takes {E = Failed} mid new buf (Ok n) → ReadsAll max old new (Err Memory)
gave_up None mid new max n buf found f t = subst (λ m. Takes {E = Failed} m new buf (Ok n)) f t
gave_up (Some left) mid new max n buf found f t =
    let h = subst (λ m. Takes {E = Failed} m new buf (Ok n)) f.1 t in
    (length found + n, h.1 ∙ ap Some (h.2.rest ∙ dropped found f.0 n ∙ ap (drop (length found + n)) (sym f.2)))
