-- What binding a port and refusing a text say.
use Rattle.std.proofs.Common.{◌≡◌, ◌≢◌, ℕ, Bool, true, false, List, Option, Result, Ok, Err, sym, ap, subst, ◌∙◌, arith, inl, inr}
use Rattle.std.specs.Prelude.{◌⊎◌}
use Rattle.pulse_base.specs.Link.{Traffic, Receipt, Sent, Binds}
use Rattle.pulse_base.specs.Outside.{Rose}
use Rattle.pulse_base.specs.declared.source.Failed.{Failed}
use Rattle.pulse_serve.specs.declared.served.Served.{Served}
use Rattle.pulse_serve.specs.declared.served.Served.TheVariants as served
use Rattle.pulse_serve.specs.Frames.{Over}
use Rattle.pulse_process.specs.Bound.{BoundTo, end_of}
use Rattle.pulse_process.specs.declared.fault.ProcessFault.{ProcessFault}
use Rattle.pulse_process.specs.declared.fault.ProcessFault.TheVariants as fault
use Rattle.pulse_process.specs.declared.fault.FormLimit.{FormLimit}
use Rattle.pulse_process.specs.Answer.{Faults}

-- a port that was bound, and then a loop that ended so
pub bound : (port : ℕ) (a b c : Option Traffic) (result : Served) (end : Bool) (P : Served → List Receipt → List Sent → Type 0) → Binds {E = Failed} a b port (Ok tt) → result ≡ end_of end → Over b c (P result) → BoundTo port a c (P (end_of end))
bound port a b c result end P binds e over = (b, binds, subst (λ r. Over b c (P r)) e over)

-- a loop whose port failed ended in a fault
pub no_end : (end : Bool) → served.LinkFault ≡ end_of end → ⊥
no_end true e = absurd (cc)
no_end false e = absurd (cc)

pub rose_after : (a b c : ℕ) → b ≡ a → Rose b c → Rose a c
rose_after a b c e h = subst (λ n. Rose n c) e h

-- a refused text
pub refused : (text : List ℕ) (lacks : FormLimit → Type 0) (f : ProcessFault) → Faults text (λ l. ⊥) f → Faults text lacks f
refused text lacks (fault.Document f) h = h
refused text lacks (fault.Form l) h = absurd (h)
refused text lacks fault.Link h = tt
refused text lacks fault.Child h = absurd (h)
refused text lacks fault.Memory h = tt

-- a loop that ended in a fault
pub ended : (text : List ℕ) (lacks : FormLimit → Type 0) (f : ProcessFault) → ((f ≡ fault.Link) ⊎ (f ≡ fault.Memory)) → Faults text lacks f
ended text lacks f (inl e) = subst (Faults text lacks) (sym e) tt
ended text lacks f (inr e) = subst (Faults text lacks) (sym e) tt

-- which is neither of two others
pub neither : {A : Type 0} (f : ProcessFault) → ((f ≡ fault.Link) ⊎ (f ≡ fault.Memory)) → f ≢ fault.Link → f ≢ fault.Memory → A
neither f (inl e) a b = absurd (a e)
neither f (inr e) a b = absurd (b e)

pub neither_of : {A T : Type 0} (r : Result T ProcessFault) (f : ProcessFault) → r ≡ Err f → ((f ≡ fault.Link) ⊎ (f ≡ fault.Memory)) → r ≢ Err fault.Link → r ≢ Err fault.Memory → A
neither_of r f is (inl e) a b = absurd (a (is ∙ ap Err e))
neither_of r f is (inr e) a b = absurd (b (is ∙ ap Err e))
