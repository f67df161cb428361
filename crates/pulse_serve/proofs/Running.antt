-- The run so far, and one more turn.
use Rattle.std.proofs.Common.{◌≡◌, ◌≤◌, ◌<◌, ℕ, ◌+◌, List, [], ◌∷◌, ◌++◌, length, Option, Some, None, refl, sym, ap, subst, ◌∙◌, arith, inl, inr, append_assoc, length-append}
use Rattle.pulse_base.specs.Link.{Receipt, Sent, Traffic}
use Rattle.pulse_serve.specs.declared.served.Served.{Served}
use Rattle.pulse_serve.specs.declared.served.Served.TheVariants as served
use Rattle.pulse_serve.specs.Frames.{Grew, Over}
use Rattle.pulse_serve.specs.Runs.{TurnOn, Runs, EndsAt, Loop, Serves}
use Rattle.pulse_serve.specs.inner.Steps.{Goes}
use Rattle.pulse_serve.proofs.Traffics.{grew_more, grew_none, append_nil}

pub runs_more : {S I : Type 0} (Turn : TurnOn S I) (s mid now : S) (is : List I) (i : I) (ss ts : List Sent) → Runs Turn s is mid ss → Turn mid i now ts → Runs Turn s (is ++ i ∷ []) now (ss ++ ts)
runs_more Turn s mid now [] i ss ts r t =
    (now, ts, [], subst (λ x. Turn x i now ts) r.0 t, (refl, refl), ap (λ l. l ++ ts) r.1 ∙ sym (append_nil ts))
runs_more Turn s mid now (j ∷ js) i ss ts r t =
    (r.0, r.1, r.2 ++ ts, r.3, runs_more Turn r.0 mid now js i r.2 ts r.4 t, ap (λ l. l ++ ts) r.5 ∙ append_assoc r.1 r.2 ts)

-- the turns made so far are whole, one for each item
abbrev pub Made : {S : Type 0} → Loop S → ℕ → S → S → List Receipt → List Sent → Type 0
Made loop n s now rs ss = Runs loop.Turn s rs now ss × (length rs ≡ n)

pub goes_on : {S : Type 0} (loop : Loop S) (n : ℕ) (s mid now : S) (a b c : Option Traffic) → Over a b (Made loop n s mid) → Over b c (Goes loop None mid now) → Over a c (Made loop (n + 1) s now)
goes_on loop n s mid now a b c m g =
    let rs = m.0 in let ss = m.1 in let r = g.3.0 in
    let more = subst (λ l. Grew b c l g.1) g.3.1 g.2 in (
      rs ++ r ∷ [],
      ss ++ g.1,
      grew_more a b c rs (r ∷ []) ss g.1 m.2 more,
      (runs_more loop.Turn s mid now rs r ss g.1 m.3.0 g.3.2, omega (arith, length-append rs (r ∷ []), m.3.1)),
    )

-- an item that changes nothing and ends the loop
ended : {S : Type 0} (loop : Loop S) (Ends : S → Receipt → Type 0) (n turns : ℕ) (s mid now : S) (a b c : Option Traffic) → n < turns → Over a b (Made loop n s mid)
    → Over b c (λ rs ss. (r : Receipt) × (rs ≡ r ∷ []) × (ss ≡ []) × (now ≡ mid) × Ends mid r) → Over a c (λ rs ss. (length rs ≤ turns) × EndsAt loop.Turn Ends s rs now ss)
ended loop Ends n turns s mid now a b c less m g =
    let r = g.3.0 in
    let more : Grew b c (r ∷ []) [] = subst (λ l. Grew b c (r ∷ []) l) g.3.2 (subst (λ l. Grew b c l g.1) g.3.1 g.2) in (
      m.0 ++ r ∷ [],
      m.1,
      subst (λ l. Grew a c (m.0 ++ r ∷ []) l) (append_nil m.1) (grew_more a b c m.0 (r ∷ []) m.1 [] m.2 more),
      (
        omega (arith, length-append m.0 (r ∷ []), m.3.1, less),
        record {
          before = m.0;
          last = r;
          receipts = refl;
          run = subst (λ x. Runs loop.Turn s m.0 x m.1) (sym g.3.3) m.3.0;
          ends = subst (λ x. Ends x r) (sym g.3.3) g.3.4;
        },
      ),
    )

-- a call that failed
cut : {S : Type 0} (loop : Loop S) (n turns : ℕ) (s mid now : S) (a b c : Option Traffic) → n < turns → Over a b (Made loop n s mid) → (rs : List Receipt) (ss : List Sent) → Grew b c rs ss
    → Goes loop (Some served.LinkFault) mid now rs ss → Over a c (λ rs ss. Serves loop turns served.LinkFault s rs now ss)
cut loop n turns s mid now a b c less m rs ss grew (inl g) =
    let more : Grew b c [] [] = subst (λ l. Grew b c [] l) g.1 (subst (λ l. Grew b c l ss) g.0 grew) in
    let all = subst (λ l. Grew a c (m.0 ++ []) l) (append_nil m.1) (grew_more a b c m.0 [] m.1 [] m.2 more) in
    (m.0, m.1, subst (λ l. Grew a c l m.1) (append_nil m.0) all, (omega (arith, m.3.1, less), inl (subst (λ x. Runs loop.Turn s m.0 x m.1) (sym g.2) m.3.0, omega (arith, m.3.1, less))))
cut loop n turns s mid now a b c less m rs ss grew (inr g) =
    let more = subst (λ l. Grew b c l ss) g.2 grew in (
      m.0 ++ g.0 ∷ [],
      m.1 ++ ss,
      grew_more a b c m.0 (g.0 ∷ []) m.1 ss m.2 more,
      (
        omega (arith, length-append m.0 (g.0 ∷ []), m.3.1, less),
        inr (record { before = m.0; last = g.0; receipts = refl; mid = mid; early = m.1; run = m.3.0; late = ss; lost = g.1; cut = g.3; sent = refl }),
      ),
    )

pub ends : {S : Type 0} (loop : Loop S) (n turns : ℕ) (s mid now : S) (a b c : Option Traffic) (e : Served) → n < turns → Over a b (Made loop n s mid) → Over b c (Goes loop (Some e) mid now)
    → Over a c (λ rs ss. Serves loop turns e s rs now ss)
ends loop n turns s mid now a b c served.Stopped less m g = ended loop loop.IsStop n turns s mid now a b c less m g
ends loop n turns s mid now a b c served.TurnsUsed less m g = absurd (g.3)
ends loop n turns s mid now a b c served.LinkFault less m g = cut loop n turns s mid now a b c less m g.0 g.1 g.2 g.3
ends loop n turns s mid now a b c served.Memory less m g = ended loop loop.WantsMemory n turns s mid now a b c less m g

-- before the first turn
pub none_made : {S : Type 0} (loop : Loop S) (s : S) (a : Option Traffic) → Over a a (Made loop 0 s s)
none_made loop s a = ([], [], grew_none a a refl, ((refl, refl), refl))

pub all_made : {S : Type 0} (loop : Loop S) (n turns : ℕ) (s now : S) (a b : Option Traffic) → n ≡ turns → Over a b (Made loop n s now) → Over a b (λ rs ss. Serves loop turns served.TurnsUsed s rs now ss)
all_made loop n turns s now a b e m = (m.0, m.1, m.2, (omega (arith, m.3.1, e), (m.3.0, m.3.1 ∙ e)))
