-- The rules hold below one more place where none is broken at that place.
use Rattle.std.proofs.Common.{◌≡◌, ℕ, ◌+◌, List, length, Option, Some, None, sym, ap, ◌∙◌, subst, inl, inr, arith}
use Rattle.std.specs.List.{slice_get}
use Rattle.std.proofs.lemmas.Bool.{cases_lt}
use Rattle.pulse_isa.specs.declared.instr.Instr.{Instr}
use Rattle.pulse_isa.specs.Step.{Window}
use Rattle.code_verify.specs.declared.bad.Sizes.{Sizes}
use Rattle.code_verify.specs.declared.bad.BadKind.{BadKind}
use Rattle.code_verify.specs.Rules.{window_of, broken_in, broken_at, IsUnbrokenBelow}

-- what is broken depends on the window and the instruction alone
pub broken_at-same : (sizes : Sizes) (code : List Instr) (n : ℕ) (i j : Instr) (window : Window) (found k : Option BadKind) → window ≡ window_of code → j ≡ i → found ≡ broken_in sizes window (length code) n j → found ≡ k → broken_at sizes code n i ≡ k
broken_at-same sizes code n i j window found k same_window same_instr found_is k_is =
    ap (λ w. broken_in sizes w (length code) n i) (sym same_window)
    ∙ ap (λ x. broken_in sizes window (length code) n x) (sym same_instr)
    ∙ sym found_is
    ∙ k_is

pub unbroken_more : (sizes : Sizes) (code : List Instr) (n : ℕ) → ((i : Instr) → slice_get code n ≡ Some i → broken_at sizes code n i ≡ None) → IsUnbrokenBelow n sizes code → IsUnbrokenBelow (n + 1) sizes code
unbroken_more sizes code n here below place i lt stands =
    elim (cases_lt place n) [
      | inl p ↦ below place i p stands
      | inr q ↦
          let e : n ≡ place = omega arith in
          subst (λ (p : ℕ). slice_get code p ≡ Some i → broken_at sizes code p i ≡ None) e (here i) stands
    ]
