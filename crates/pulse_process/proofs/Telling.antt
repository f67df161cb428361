-- Texts that grow by a line.
use Rattle.std.proofs.Common.{◌≡◌, ℕ, suc, ◌+◌, ◌≤◌, List, [], ◌∷◌, ◌++◌, length, drop, Some, sym, ap, ◌∙◌, arith, append_assoc, append-nil}
use Rattle.std.specs.Prelude.{slice_get}
use Rattle.std.proofs.lemmas.List.{at_drop_more, drop_all}
use Rattle.std.proofs.lemmas.Option.{slice_get_within, get_or_from_slice_get}
use Rattle.node_core.specs.Part.{PartState}
use Rattle.scenario_text.specs.declared.plan.PlanRegion.{PlanRegion}
use Rattle.pulse_process.specs.inner.Held.{line_here, lines_here}

pub one_line : (old new line rest before all : List ℕ) → new ≡ old ++ line → before ≡ line ++ rest → old ++ before ≡ all → new ++ rest ≡ all
one_line old new line rest before all n b h = ap (λ t. t ++ rest) n ∙ append_assoc old line rest ∙ ap (λ z. old ++ z) (sym b) ∙ h

-- no line is left
pub all_lines : {A : Type 0} (lines : List A → List ℕ) (xs : List A) (k : ℕ) (text all : List ℕ) → lines [] ≡ [] → length xs ≤ k → text ++ lines (drop k xs) ≡ all → text ≡ all
all_lines lines xs k text all none long h = sym (append-nil text) ∙ ap (λ z. text ++ z) (sym none) ∙ ap (λ z. text ++ lines z) (sym (drop_all k xs long)) ∙ h

pub next_region : (p : PartState) (regions : List PlanRegion) (k : ℕ) (r : PlanRegion) → slice_get regions k ≡ Some r → lines_here p k (drop k regions) ≡ line_here p k r ++ lines_here p (k + 1) (drop (k + 1) regions)
next_region p regions k r e =
    at_drop_more (lines_here p k) regions k r (slice_get_within regions k r e)
    ∙ ap (λ x. lines_here p k (x ∷ drop (k + 1) regions)) (get_or_from_slice_get regions k r r e)
    ∙ ap (λ j. line_here p k r ++ lines_here p j (drop (k + 1) regions)) next
  where
    next : suc k ≡ k + 1
    next = omega arith
