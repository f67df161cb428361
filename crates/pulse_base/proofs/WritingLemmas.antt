-- A front of the bytes was appended, and then one more piece.
use Rattle.std.proofs.Common.{◌≡◌, ℕ, ◌+◌, List, ◌++◌, take, drop, Option, Some, None, Ok, sym, ap, ◌∙◌, subst, append_assoc}
use Rattle.std.proofs.Math.Seq.{take-add}
use Rattle.pulse_base.specs.Outside.{Gives}
use Rattle.pulse_base.specs.declared.source.Failed.{Failed}

abbrev pub Wrote : Option (List ℕ) → Option (List ℕ) → List ℕ → ℕ → Type 0
Wrote None now bytes n = now ≡ None
Wrote (Some taken) now bytes n = now ≡ Some (taken ++ take n bytes)

pub wrote_more : (old mid new : Option (List ℕ)) (bytes piece : List ℕ) (at n : ℕ) → piece ≡ drop at bytes → Wrote old mid bytes at → Gives {E = Failed} mid new piece (Ok n) → Wrote old new bytes (at + n)
wrote_more None mid new bytes piece at n p w h = subst (λ m. Gives {E = Failed} m new piece (Ok n)) w h
wrote_more (Some taken) mid new bytes piece at n p w h =
    subst (λ m. Gives {E = Failed} m new piece (Ok n)) w h
    ∙ ap (λ q. Some ((taken ++ take at bytes) ++ take n q)) p
    ∙ ap Some (append_assoc taken (take at bytes) (take n (drop at bytes)) ∙ ap (λ l. taken ++ l) (sym (take-add at n bytes)))
