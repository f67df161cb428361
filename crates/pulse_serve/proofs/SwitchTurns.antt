-- A turn of the switch, from its calls.
use Rattle.std.proofs.Common.{◌≡◌, ◌≢◌, ℕ, true, [], ◌∷◌, Option, Some, None, Ok, Err, refl, subst, inr}
use Rattle.pulse_base.specs.Link.{Receipt, Traffic}
use Rattle.pulse_base.specs.declared.source.Failed.{Failed}
use Rattle.frame_codec.specs.declared.frame.Frame.TheVariants as frames
use Rattle.run_rules.specs.Switch.{SwitchState}
use Rattle.pulse_serve.specs.declared.frames.Came.{Came}
use Rattle.pulse_serve.specs.declared.frames.Came.TheVariants as came
use Rattle.pulse_serve.specs.declared.served.Served.TheVariants as served
use Rattle.pulse_serve.specs.Frames.{Says, Grew, Over, Received, Posts}
use Rattle.pulse_serve.specs.SwitchRun.{passed_on, SwitchTurn, switch_loop}
use Rattle.pulse_serve.specs.inner.Steps.{Goes}
use Rattle.pulse_serve.proofs.Traffics.{grew_more}

made : (port : ℕ) (s : SwitchState) (r : Receipt) (x : Came) → r.wait ≡ true → Says r.item x → x ≢ came.Frame frames.Stop → SwitchTurn port s r s (passed_on port s x)
made port s r x waits says not = record { waits = waits; item = x; says = says; goes_on = not; same = refl; sent = refl }

pub passed : (a b c : Option Traffic) (port : ℕ) (s : SwitchState) (x : Came) → Received {E = Failed} a b true (Ok x) → x ≢ came.Frame frames.Stop
    → Grew b c [] (passed_on port s x) → Over a c (Goes (switch_loop port) None s s)
passed a b c port s x r not g =
    (r.0 ∷ [], passed_on port s x, grew_more a b c (r.0 ∷ []) [] [] (passed_on port s x) r.3 g, (r.0, refl, made port s r.0 x r.1 r.2 not))

pub lost : (a b c : Option Traffic) (port : ℕ) (s : SwitchState) (x : Came) (e : Failed) → Received {E = Failed} a b true (Ok x) → x ≢ came.Frame frames.Stop
    → Posts b c (passed_on port s x) (Err e) → Over a c (Goes (switch_loop port) (Some served.LinkFault) s s)
lost a b c port s x e r not p =
    (r.0 ∷ [], [], grew_more a b c (r.0 ∷ []) [] [] [] r.3 p.2, inr (r.0, p.0, refl, subst (λ l. SwitchTurn port s r.0 s l) p.1 (made port s r.0 x r.1 r.2 not)))
