-- The answers of a cluster that ended with a fault.
use Rattle.std.proofs.Common.{◌≡◌, ◌≢◌, ℕ, List, Option, Result, Ok, Err, IfErr, ◌⊎◌, inl, inr, refl, sym, ap, subst, ◌∙◌}
use Rattle.std.specs.Prelude.{IsErrAnd}
use Rattle.pulse_base.specs.Link.{Traffic}
use Rattle.pulse_base.specs.Spawner.{Family}
use Rattle.pulse_process.specs.declared.fault.ProcessFault.{ProcessFault}
use Rattle.pulse_process.specs.declared.fault.ProcessFault.TheVariants as fault
use Rattle.pulse_process.specs.Answer.{Faults}
use Rattle.pulse_cluster.specs.Answer.{ClusterAnswer}

-- a text that is refused
pub refused : (text : List ℕ) (turns : ℕ) (net now : Option Traffic) (old new : Option Family) (f : ProcessFault) → Faults text (λ l. ⊥) f → ClusterAnswer text turns net now old new (Err f)
refused text turns net now old new (fault.Document d) h = h
refused text turns net now old new (fault.Form l) h = absurd (h)
refused text turns net now old new fault.Link h = tt
refused text turns net now old new fault.Child h = tt
refused text turns net now old new fault.Memory h = tt

-- ---- a fault that a step handed up

pub passed : {T : Type 0} (P : Result T ProcessFault → Type 0) (r : Result T ProcessFault) (e : ProcessFault) → IsErrAnd r (λ y. y ≡ e) → P (Err e) → P r
passed P (Ok x) e is p = absurd (is)
passed P (Err y) e is p = subst (λ z. P (Err z)) (sym is) p

-- a fault of a start
pub not_started : (P : ProcessFault → Type 0) (e : ProcessFault) → (e ≡ fault.Child) ⊎ (e ≡ fault.Memory) → P fault.Child → P fault.Memory → P e
not_started P e (inl q) x y = subst P (sym q) x
not_started P e (inr q) x y = subst P (sym q) y

-- a fault of the asking
pub not_asked : (P : ProcessFault → Type 0) (e : ProcessFault) → (e ≡ fault.Link) ⊎ (e ≡ fault.Memory) → P fault.Link → P fault.Memory → P e
not_asked P e (inl q) x y = subst P (sym q) x
not_asked P e (inr q) x y = subst P (sym q) y

-- a fault after which nothing is said of what was called
abbrev pub IsOutside : ProcessFault → Type 0
IsOutside e = e ≢ fault.Link → e ≢ fault.Child → e ≢ fault.Memory → ⊥

pub link_outside : IsOutside fault.Link
link_outside n m k = n refl

pub child_outside : IsOutside fault.Child
child_outside n m k = m refl

pub memory_outside : IsOutside fault.Memory
memory_outside n m k = k refl

pub barred : {T : Type 0} (A : Type 0) (r : Result T ProcessFault) (e : ProcessFault) → IsErrAnd r (λ y. y ≡ e) → IsOutside e → IfErr r (λ f. f ≢ fault.Link → f ≢ fault.Child → f ≢ fault.Memory → A)
barred A (Ok x) e is h = tt
barred A (Err y) e is h = λ n m k. absurd (h (λ q. n (is ∙ q)) (λ q. m (is ∙ q)) (λ q. k (is ∙ q)))

-- ---- a count that is kept where the fault is not this one

abbrev fault_of : {T : Type 0} → ProcessFault → Result T ProcessFault → ProcessFault
fault_of d (Ok x) = d
fault_of d (Err e) = e

pub kept_over : {T U : Type 0} (A : Type 0) (r : Result T ProcessFault) (s : Result U ProcessFault) (e d : ProcessFault) → IsErrAnd r (λ y. y ≡ e) → s ≡ Err e → (s ≢ Err d → A) → r ≢ Err d → A
kept_over A (Ok x) s e d is same h = absurd (is)
kept_over A (Err y) s e d is same h = λ n. h (λ q. n (ap Err (is ∙ ap (fault_of e) (sym same ∙ q))))

-- a fault that is this one
pub is_it : {T : Type 0} (A : Type 0) (r : Result T ProcessFault) (e d : ProcessFault) → IsErrAnd r (λ y. y ≡ e) → e ≡ d → r ≢ Err d → A
is_it A (Ok x) e d is same = absurd (is)
is_it A (Err y) e d is same = λ n. absurd (n (ap Err (is ∙ same)))
