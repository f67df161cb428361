-- A client's loop, from its calls.
use Rattle.std.proofs.Common.{◌≡◌, ◌≤◌, ◌<◌, ℕ, ◌+◌, true, [], ◌∷◌, ◌++◌, length, Option, Some, None, Ok, Err, refl, ◌∙◌, inl, inr, arith}
use Rattle.pulse_base.specs.Link.{Traffic}
use Rattle.pulse_base.specs.declared.source.Failed.{Failed}
use Rattle.client_core.specs.Requests.{ClientState}
use Rattle.pulse_serve.specs.declared.frames.Came.{Came}
use Rattle.pulse_serve.specs.declared.served.Served.{Served}
use Rattle.pulse_serve.specs.declared.served.Served.TheVariants as served
use Rattle.pulse_serve.specs.Frames.{Over, Received}
use Rattle.pulse_serve.specs.ClientRun.{AllAnswered, Asks, client_loop, TurnsEnd, ServesClient}
use Rattle.pulse_serve.specs.inner.Steps.{Goes}
use Rattle.pulse_serve.specs.inner.Asking.{DoesAll, Hearing}
use Rattle.pulse_serve.proofs.Traffics.{grew_more}
use Rattle.pulse_serve.proofs.Running.{Made, goes_on, ends, none_made}

-- ---- a turn

pub went : (a b c : Option Traffic) (port : ℕ) (s now : ClientState) (x : Came) → (AllAnswered s → ⊥) → Received {E = Failed} a b true (Ok x) → Hearing {E = Failed} port s x now b c (Ok tt) → Over a c (Goes (client_loop port) None s now)
went a b c port s now x unfinished r h =
    (r.0 ∷ [], h.0, grew_more a b c (r.0 ∷ []) [] [] h.0 r.3 h.1, (r.0, refl, record { unfinished = unfinished; waits = r.1; item = x; says = r.2; makes = h.2 }))

pub lost : (a b c : Option Traffic) (port : ℕ) (s now : ClientState) (x : Came) (e : Failed) → (AllAnswered s → ⊥) → Received {E = Failed} a b true (Ok x) → Hearing {E = Failed} port s x now b c (Err e) → Over a c (Goes (client_loop port) (Some served.LinkFault) s now)
lost a b c port s now x e unfinished r h =
    (r.0 ∷ [], h.0, grew_more a b c (r.0 ∷ []) [] [] h.0 r.3 h.1, inr (r.0, h.2, refl, record { unfinished = unfinished; waits = r.1; item = x; says = r.2; makes = h.3 }))

-- ---- the whole

-- all were asked, and so many turns made
abbrev pub Going : ℕ → ClientState → ℕ → ClientState → Option Traffic → Option Traffic → Type 0
Going port c n now a d = (mid : ClientState) × (b : Option Traffic) × DoesAll {E = Failed} (Asks port) c mid a b (Ok tt) × Over b d (Made (client_loop port) n mid now)

pub begun : (port : ℕ) (c now : ClientState) (a b : Option Traffic) → DoesAll {E = Failed} (Asks port) c now a b (Ok tt) → Going port c 0 now a b
begun port c now a b d = (now, b, d, none_made (client_loop port) now b)

pub going_on : (port n : ℕ) (c cur now : ClientState) (a b d : Option Traffic) → Going port c n cur a b → Over b d (Goes (client_loop port) None cur now) → Going port c (n + 1) now a d
going_on port n c cur now a b d g o = (g.0, g.1, g.2, goes_on (client_loop port) n g.0 cur now g.1 b d g.3 o)

whole : (port turns : ℕ) (e : Served) (c mid now : ClientState) (a b d : Option Traffic) → DoesAll {E = Failed} (Asks port) c mid a b (Ok tt)
    → Over b d (λ rs ss. (length rs ≤ turns) × TurnsEnd port turns e mid rs now ss) → Over a d (λ rs ss. ServesClient port turns e c rs now ss)
whole port turns e c mid now a b d all o = (
  o.0,
  all.0 ++ o.1,
  grew_more a b d [] o.0 all.0 o.1 all.1 o.2,
  (o.3.0, inl (record { mid = mid; early = all.0; asks = all.2; late = o.1; turns_made = o.3.1; sent = refl })),
)

pub going_ends : (port n turns : ℕ) (c cur now : ClientState) (a b d : Option Traffic) (e : Served) → n < turns → Going port c n cur a b → Over b d (Goes (client_loop port) (Some e) cur now)
    → Over a d (λ rs ss. ServesClient port turns e c rs now ss)
going_ends port n turns c cur now a b d served.Stopped less g o = absurd (o.3.4)
going_ends port n turns c cur now a b d served.TurnsUsed less g o = absurd (o.3)
going_ends port n turns c cur now a b d served.LinkFault less g o =
    whole port turns served.LinkFault c g.0 now a g.1 d g.2 (ends (client_loop port) n turns g.0 cur now g.1 b d served.LinkFault less g.3 o)
going_ends port n turns c cur now a b d served.Memory less g o = absurd (o.3.4)

pub going_stops : (port n turns : ℕ) (c now : ClientState) (a b : Option Traffic) → n ≤ turns → Going port c n now a b → AllAnswered now → Over a b (λ rs ss. ServesClient port turns served.Stopped c rs now ss)
going_stops port n turns c now a b less g all =
    whole port turns served.Stopped c g.0 now a g.1 b g.2 (g.3.0, g.3.1, g.3.2, (omega (arith, g.3.3.1, less), (g.3.3.0, all)))

pub going_used : (port n turns : ℕ) (c now : ClientState) (a b : Option Traffic) → n ≡ turns → Going port c n now a b → (AllAnswered now → ⊥) → Over a b (λ rs ss. ServesClient port turns served.TurnsUsed c rs now ss)
going_used port n turns c now a b used g unfinished =
    whole port turns served.TurnsUsed c g.0 now a g.1 b g.2 (g.3.0, g.3.1, g.3.2, (omega (arith, g.3.3.1, used), ((g.3.3.0, g.3.3.1 ∙ used), unfinished)))

pub asking_lost : (port turns : ℕ) (c now : ClientState) (a b : Option Traffic) (e : Failed) → DoesAll {E = Failed} (Asks port) c now a b (Err e) → Over a b (λ rs ss. ServesClient port turns served.LinkFault c rs now ss)
asking_lost port turns c now a b e d = ([], d.0, d.1, (omega arith, inr (record { fault = refl; nothing = refl; lost = d.2; count = d.3; asks = d.4 })))
