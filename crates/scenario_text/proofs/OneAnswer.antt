-- Want of memory aside, a text has one answer: its scenario, or its first failing check.
use Rattle.std.proofs.Common.{◌≡◌, ℕ, List, Some, None, refl, ap, sym, subst, inl, inr, ◌∙◌}
use Rattle.std.specs.Prelude.{◌⊎◌, Result, Ok, Err}
use Rattle.toml.specs.Data.{Members}
use Rattle.iter_syntax.specs.declared.tree.Program.{Program}
use Rattle.iter_syntax.specs.Parsed.{HasOneProgram}
use Rattle.scenario_text.specs.declared.fault.DocFault.{DocFault}
use Rattle.scenario_text.specs.declared.fault.DocFault.TheVariants as fault
use Rattle.scenario_text.specs.declared.plan.Plan.{Plan}
use Rattle.scenario_text.specs.declared.scenario.Scenario.{Scenario}
use Rattle.scenario_text.specs.OfProgram.{rest_fault}
use Rattle.scenario_text.specs.Plan.{plan_of}
use Rattle.scenario_text.specs.Scenario.{HasOneAnswer, IsFaultOf, IsScenarioOf, IsTableOf, ReadAnswer, of_form, of_text, of_program}
use Rattle.scenario_text.specs.Values.{program_of}

-- the four kinds of answers
data Kind (text : List ℕ) : Result Scenario DocFault → Type 0 where
  memory : Kind text (Err fault.Memory)
  no_table : ((ms : Members) → IsTableOf text ms → ⊥) → Kind text (Err fault.Toml)
  scenario : (s : Scenario) (ms : Members) → IsTableOf text ms → IsScenarioOf ms s → Kind text (Ok s)
  failing : (f : DocFault) (ms : Members) → IsTableOf text ms → IsFaultOf ms f → Kind text (Err f)

kind_of : (text : List ℕ) (r : Result Scenario DocFault) → ReadAnswer text r → Kind text r
kind_of text (Ok s) h = scenario s h.0 h.1 h.2
kind_of text (Err fault.Memory) h = memory
kind_of text (Err fault.Toml) h = no_table h
kind_of text (Err f) h = failing f h.0 h.1 h.2

same_table : (text : List ℕ) (ms ns : Members) → IsTableOf text ms → IsTableOf text ns → ms ≡ ns
same_table text ms ns h k =
    let e : Some ms ≡ Some ns = sym h.1 ∙ k.1 in
    cc

same_parts : (p q : Program) (x y : Plan) → p ≡ q → x ≡ y → let s : Scenario = record { checked = p; plan = x } in let t : Scenario = record { checked = q; plan = y } in s ≡ t
same_parts p q x y e f =
    let with_program : Program → Scenario = λ p. record { checked = p; plan = x } in
    let with_plan : Plan → Scenario = λ z. record { checked = q; plan = z } in
    ap with_program e ∙ ap with_plan f

one_scenario : (ms : Members) (s t : Scenario) → HasOneProgram (program_of ms) → IsScenarioOf ms s → IsScenarioOf ms t → s ≡ t
one_scenario ms s t one h k =
    let e : s.checked ≡ t.checked = one.unique s.checked t.checked h.program k.program in
    same_parts s.checked t.checked s.plan t.plan e (h.plan ∙ ap (λ (p : Program). plan_of p ms) e ∙ sym k.plan)

no_fault : (ms : Members) (s : Scenario) (f : DocFault) → HasOneProgram (program_of ms) → IsScenarioOf ms s → IsFaultOf ms f → ⊥
no_fault ms s _ one h (of_form f k) = let e : None ≡ Some f = sym h.form ∙ k in cc
no_fault ms s _ one h (of_text g form k other) = other (one.no_fault s.checked g h.program k)
no_fault ms s _ one h (of_program p f form is k) =
    let e : None ≡ Some f = sym h.rest ∙ ap (λ (p : Program). rest_fault p ms) (one.unique s.checked p h.program is) ∙ k in cc

one_fault : (ms : Members) (f g : DocFault) → HasOneProgram (program_of ms) → IsFaultOf ms f → IsFaultOf ms g → f ≡ g
one_fault ms _ _ one (of_form f h) (of_form g k) = let e : Some f ≡ Some g = sym h ∙ k in cc
one_fault ms _ _ one (of_form f h) (of_text g form k other) = let e : Some f ≡ None = sym h ∙ form in cc
one_fault ms _ _ one (of_form f h) (of_program q g form is k) = let e : Some f ≡ None = sym h ∙ form in cc
one_fault ms _ _ one (of_text f form h other) (of_form g k) = let e : Some g ≡ None = sym k ∙ form in cc
one_fault ms _ _ one (of_text f form h other) (of_text g form' k other') =
    elim (one.one_fault f g h k) [ inl e ↦ absurd (other e) | inr (inl e) ↦ absurd (other' e) | inr (inr e) ↦ ap fault.Program e ]
one_fault ms _ _ one (of_text f form h other) (of_program q g form' is k) = absurd (other (one.no_fault q f is h))
one_fault ms _ _ one (of_program p f form is h) (of_form g k) = let e : Some g ≡ None = sym k ∙ form in cc
one_fault ms _ _ one (of_program p f form is h) (of_text g form' k other) = absurd (other (one.no_fault p g is k))
one_fault ms _ _ one (of_program p f form is h) (of_program q g form' is' k) =
    let e : Some f ≡ Some g = sym h ∙ ap (λ (p : Program). rest_fault p ms) (one.unique p q is is') ∙ k in cc

one_kind : (text : List ℕ) (a b : Result Scenario DocFault) → ((t : List ℕ) → HasOneProgram t) → Kind text a → Kind text b → (a ≡ Err fault.Memory) ⊎ (b ≡ Err fault.Memory) ⊎ (a ≡ b)
one_kind text _ b one memory k = inl refl
one_kind text a _ one h memory = inr (inl refl)
one_kind text _ _ one (no_table h) (no_table k) = inr (inr refl)
one_kind text _ _ one (no_table h) (scenario t ns is k) = absurd (h ns is)
one_kind text _ _ one (no_table h) (failing g ns is k) = absurd (h ns is)
one_kind text _ _ one (scenario s ms is h) (no_table k) = absurd (k ms is)
one_kind text _ _ one (failing f ms is h) (no_table k) = absurd (k ms is)
one_kind text _ _ one (scenario s ms is h) (scenario t ns is' k) =
    let moved = subst (λ (m : Members). IsScenarioOf m t) (sym (same_table text ms ns is is')) k in
    inr (inr (ap Ok (one_scenario ms s t (one (program_of ms)) h moved)))
one_kind text _ _ one (scenario s ms is h) (failing g ns is' k) =
    absurd (no_fault ms s g (one (program_of ms)) h (subst (λ (m : Members). IsFaultOf m g) (sym (same_table text ms ns is is')) k))
one_kind text _ _ one (failing f ms is h) (scenario t ns is' k) =
    absurd (no_fault ns t f (one (program_of ns)) k (subst (λ (m : Members). IsFaultOf m f) (same_table text ms ns is is') h))
one_kind text _ _ one (failing f ms is h) (failing g ns is' k) =
    inr (inr (ap Err (one_fault ms f g (one (program_of ms)) h (subst (λ (m : Members). IsFaultOf m g) (sym (same_table text ms ns is is')) k))))

pub one_answer : (text : List ℕ) → ((t : List ℕ) → HasOneProgram t) → HasOneAnswer text
one_answer text one a b h k = one_kind text a b one (kind_of text a h) (kind_of text b k)
