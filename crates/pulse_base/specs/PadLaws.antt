-- A pad's fields are those of its bytes.
use Rattle.std.proofs.Common.{◌≡◌, ℕ, ◌-◌, List, ◌++◌, length, replicate, arith, sym, ap, ◌∙◌, length-take}
use Rattle.std.proofs.lemmas.List.{take-append-drop}
use Rattle.pulse_base.specs.declared.pad_bytes.PadBytes.TheInside.{Inside}
use Rattle.pulse_base.specs.Pad.{pad_view, pad_fields, IsPad}

pub pad_fields-view : (p : Inside) → IsPad p → pad_fields (pad_view p) ≡ p
pad_fields-view p h =
    let len : length (pad_view p) ≡ p.len = omega (arith, h.whole, h.fits, length-take p.len p.bytes) in
    let bytes : pad_view p ++ replicate (256 - length (pad_view p)) 0 ≡ p.bytes =
    ap (λ n. pad_view p ++ replicate (256 - n) 0) len ∙ ap (λ l. pad_view p ++ l) (sym h.zeros) ∙ take-append-drop p.len p.bytes in
    ap (λ (x : List ℕ × ℕ). record { bytes = x.0; len = x.1 }) (ap (λ l. (l, length (pad_view p))) bytes ∙ ap (λ n. (p.bytes, n)) len)
