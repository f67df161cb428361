-- A step of the drain gives the answer, or brings the last letter nearer to it.
use Rattle.std.proofs.Common.{◌≡◌, ◌≢◌, ℕ, zero, suc, ◌<◌, ◌≤◌, ◌⊎◌, inl, inr, Bool, true, false, List, [], ◌∷◌, ◌++◌, Option, Some, None, refl, sym, ap, ◌∙◌, subst, arith, nat_eq, nat_lt, if◌then◌else◌, eqb-true}
use Rattle.std.proofs.lemmas.Bool.{eqb-false}
use Rattle.run_laws.specs.Plan.{Unmapped, NotReadable, Progress, Leg, Ending, Done, Reroute, Resume, Fault, Back, Frame, AsLeg, AsBack, back_of, Plan, limit, Here, Barred, Nowhere, arrival, owned, arrive_on, put}
use Rattle.run_laws.specs.Flat.{Flat, Answer, Spent}
use Rattle.run_laws.specs.Node.{Slot, Running, Kept, Node, put_at, with_slot, Accepted, Foreign, Replies, RunsAlready, Elsewhere, Full, Started, Accepts, Turned, Stays, Ends, turned_slot, Iterates}
use Rattle.run_laws.specs.Client.{Asking, Asked, Answered, Heard, Stale, Answers, Sends, next_leg, hears_ending, hears, heard_asking}
use Rattle.run_laws.specs.World.{To, ToSwitch, ToNode, ToClient, Letter, to_switch, accepted_sends, turned_sends, routed, rerouted_leg, switched_back, heard_sends, World, Delivered}
use Rattle.run_laws.specs.Spines.Spine.{sent_leg}
use Rattle.run_laws.specs.Spines.Fits.{BackFits, FrameFits}
use Rattle.run_laws.specs.Spines.Sound.{Each, IsSound}
use Rattle.run_laws.specs.Spines.Drain.{IsIdle, AllIdle, StageBy, Draining, Settles, SettlesAt, measure, GoesOn, DrainAdvances}
use Rattle.run_laws.proofs.LegNumbers.{by_cases}
use Rattle.run_laws.proofs.FewLegs.{number_few}
use Rattle.run_laws.proofs.Backs.{kept_is, back_number, reroute_fits}
use Rattle.run_laws.proofs.Events.{put_here, put_there, same_number, put_same, put_self, delivered_keeps}

less_same : (P : Plan) (j a b : ℕ) → a < b → measure P j a < measure P j b
less_same P j a b h = omega (arith, h)

less_next : (P : Plan) (j a b : ℕ) → suc j < limit P → a ≤ 3 → measure P (suc j) a < measure P j b
less_next P j a b h e = omega (arith, h, e)

last_fits : (P : Plan) (start : Flat) (w : World) (s : IsSound P start w) (earlier : List Letter) (m : Letter) → w.letters ≡ earlier ++ m ∷ [] → FrameFits P s.spines m.frame
last_fits P start w s earlier m e = each_last earlier (subst (Each (λ x. FrameFits P s.spines x.frame)) e s.letters)
  where
    each_last : (xs : List Letter) → Each (λ x. FrameFits P s.spines x.frame) (xs ++ m ∷ []) → FrameFits P s.spines m.frame
    each_last [] f = f.0
    each_last (x ∷ xs) f = each_last xs f.1

-- The switch sends a leg on.
route_goes : (P : Plan) (w : World) (r j : ℕ) (bound : ℕ) (l leg : Leg) (accepted ticks : ℕ) (o : Option ℕ) → P.region l.request l.now.cur ≡ o → l.request ≡ r → l.number ≡ j
    → w.asking r ≡ Asked leg accepted ticks → leg.number ≤ j → AllIdle w → measure P j 2 < bound
    → GoesOn P (record w { letters = w.letters ++ routed P l o }) r bound
route_goes P w r j bound l leg accepted ticks (Some i) o e f g h idle less = record {
  number = j;
  rank = 2;
  last = record { to = ToNode (P.owner i); frame = AsLeg l };
  less = less;
  drains = record { earlier = w.letters; stands = refl; stage = (e, f, refl, (i, o, refl)); leg = leg; accepted = accepted; ticks = ticks; asking = g; reached = h; idle = idle };
}
route_goes P w r j bound l leg accepted ticks None o e f g h idle less = record {
  number = j;
  rank = 0;
  last = record { to = ToClient; frame = AsBack (back_of l.request l.number l.now (Fault Unmapped)) };
  less = omega (arith, less);
  drains = record { earlier = w.letters; stands = refl; stage = (e, f, refl, λ x. absurd (cc)); leg = leg; accepted = accepted; ticks = ticks; asking = g; reached = h; idle = idle };
}

client_goes : (P : Plan) (w : World) (r j bound : ℕ) (b : Back) (leg : Leg) (accepted ticks : ℕ) → b.request ≡ r → b.number ≡ j → b.ending ≢ Reroute
    → w.asking r ≡ Asked leg accepted ticks → leg.number ≤ j → AllIdle w → measure P j 0 < bound
    → GoesOn P (record w { letters = w.letters ++ record { to = ToClient; frame = AsBack b } ∷ [] }) r bound
client_goes P w r j bound b leg accepted ticks e f x g h idle less = record {
  number = j;
  rank = 0;
  last = record { to = ToClient; frame = AsBack b };
  less = less;
  drains = record { earlier = w.letters; stands = refl; stage = (e, f, refl, x); leg = leg; accepted = accepted; ticks = ticks; asking = g; reached = h; idle = idle };
}

-- A back at the switch.
switch_back_goes : (P : Plan) (start : Flat) (w : World) (r j rank : ℕ) (b : Back) (leg : Leg) (accepted ticks : ℕ) (s : IsSound P start w) (e : Ending) → b.ending ≡ e → b.request ≡ r → b.number ≡ j → rank ≡ 1
    → w.asking r ≡ Asked leg accepted ticks → leg.number ≤ j → AllIdle w → BackFits P (s.spines b.request) b
    → GoesOn P (record w { letters = w.letters ++ switched_back P b e }) r (measure P j rank)
switch_back_goes P start w r j rank b leg accepted ticks s Reroute e f g q a h idle fits =
    let sh = reroute_fits P (s.spines b.request) b (s.fits b.request).spine fits e in
    let few : suc j < limit P = let z = number_few P b.request (suc b.number) (s.spines b.request) (rerouted_leg b) (s.fits b.request).spine sh in omega (arith, z, g) in
    route_goes P w r (suc j) (measure P j rank) (rerouted_leg b) leg accepted ticks _ refl f (ap suc g) a (omega (arith, h)) idle (less_next P j 2 rank few (omega arith))
switch_back_goes P start w r j rank b leg accepted ticks s Done e f g q a h idle fits = client_goes P w r j _ b leg accepted ticks f g (λ x. let c : Done ≡ Reroute = sym e ∙ x in cc) a h idle (less_same P j 0 rank (omega (arith, q)))
switch_back_goes P start w r j rank b leg accepted ticks s Resume e f g q a h idle fits = client_goes P w r j _ b leg accepted ticks f g (λ x. let c : Resume ≡ Reroute = sym e ∙ x in cc) a h idle (less_same P j 0 rank (omega (arith, q)))
switch_back_goes P start w r j rank b leg accepted ticks s (Fault k) e f g q a h idle fits = client_goes P w r j _ b leg accepted ticks f g (λ x. let c : Fault k ≡ Reroute = sym e ∙ x in cc) a h idle (less_same P j 0 rank (omega (arith, q)))

-- only leg k of request r is live, on node n
pub record OnlyRuns (w : World) (n r k : ℕ) : Type 0 where
  pub runs : (a : Progress) × ((w.nodes n).slot r k ≡ Running a)
  pub only : (m q j : ℕ) (a : Progress) → (w.nodes m).slot q j ≡ Running a → (m ≡ n) × (q ≡ r) × (j ≡ k)

put_other_slot : (slot : ℕ → ℕ → Slot) (r k : ℕ) (x : Slot) (q j : ℕ) (a : Progress) → put_at slot r k x q j ≡ Running a → ((q ≡ r) × (j ≡ k) × (x ≡ Running a)) ⊎ (slot q j ≡ Running a)
put_other_slot slot r k x q j a e = by_cases (nat_eq q r)
    (λ f. by_cases (nat_eq j k)
    (λ g. inl (eqb-true q r f, eqb-true j k g, (let c : put_at slot r k x q j ≡ x = grind (arith, f, g) in sym c ∙ e)))
    (λ g. inr ((let c : put_at slot r k x q j ≡ slot q j = grind (arith, f, g) in sym c ∙ e))))
    (λ f. inr ((let c : put_at slot r k x q j ≡ slot q j = grind (arith, f) in sym c ∙ e)))

put_runs : (w : World) (n : ℕ) (new : Node) (m q j : ℕ) (a : Progress) → (put w.nodes n new m).slot q j ≡ Running a → ((m ≡ n) × (new.slot q j ≡ Running a)) ⊎ ((m ≢ n) × ((w.nodes m).slot q j ≡ Running a))
put_runs w n new m q j a e = by_cases (nat_eq m n)
    (λ f. inl (eqb-true m n f, ap (λ (v : Node). v.slot q j) (sym (put_here w.nodes n new m f)) ∙ e))
    (λ f. inr ((λ g. eqb-false m n f g), ap (λ (v : Node). v.slot q j) (sym (put_there w.nodes n new m f)) ∙ e))

idle_settles : (P : Plan) (n m : ℕ) (u v : World) → IsIdle (u.nodes n) → Settles P n m u v → v ≡ u
idle_settles P n zero u v h s = s.0
idle_settles P n (suc m) u v h (x, (new, q, k, t, e, d), s) = absurd (h q k e.now e.is_live)

-- The node turns until that leg has ended.
settles : (P : Plan) (n m r j : ℕ) (u v : World) (leg : Leg) (accepted ticks : ℕ) → OnlyRuns u n r j → Settles P n m u v → u.asking r ≡ Asked leg accepted ticks → leg.number ≤ j
    → (last : Letter) × Draining P v r j 1 last
settles P n zero r j u v leg accepted ticks o s a h = absurd (s.1 r j o.runs.0 o.runs.1)
settles P n (suc m) r j u v leg accepted ticks o (x, (new, q, k, t, e, d), s) a h = step t e d (λ o2 a2. settles P n m r j x v leg accepted ticks o2 s a2 h)
  where
    named : (q ≡ r) × (k ≡ j)
    named = let z = o.only n q k e.now e.is_live in (z.1, z.2)

    left_slot : (t : Turned) → Iterates P n (u.nodes n) new q k t → (y i : ℕ) (a : Progress) → new.slot y i ≡ Running a → ((y ≡ q) × (i ≡ k) × (turned_slot q k t ≡ Running a)) ⊎ ((u.nodes n).slot y i ≡ Running a)
    left_slot t e y i a f = put_other_slot (u.nodes n).slot q k (turned_slot q k t) y i a (ap (λ (v : Node). v.slot y i) (sym e.changes) ∙ f)

    own_slot : (t : Turned) → Iterates P n (u.nodes n) new q k t → new.slot q k ≡ turned_slot q k t
    own_slot t e = ap (λ (v : Node). v.slot q k) e.changes ∙ (let f = same_number q in let g = same_number k in let c : put_at (u.nodes n).slot q k (turned_slot q k t) q k ≡ turned_slot q k t = grind (arith, f, g) in c)

    slot_there : (t : Turned) → Iterates P n (u.nodes n) new q k t → new.slot r j ≡ turned_slot q k t
    slot_there t e = (λ i. new.slot (sym named.0 i) (sym named.1 i)) ∙ own_slot t e

    stays_only : (b : Progress) → Iterates P n (u.nodes n) new q k (Stays b) → (y z i : ℕ) (a : Progress) → (((y ≡ n) × (new.slot z i ≡ Running a)) ⊎ ((y ≢ n) × ((u.nodes y).slot z i ≡ Running a))) → (y ≡ n) × (z ≡ r) × (i ≡ j)
    stays_only b e y z i a (inr f) = o.only y z i a f.1
    stays_only b e y z i a (inl f) = at_node (left_slot (Stays b) e z i a f.1)
      where
        at_node : (((z ≡ q) × (i ≡ k) × (turned_slot q k (Stays b) ≡ Running a)) ⊎ ((u.nodes n).slot z i ≡ Running a)) → (y ≡ n) × (z ≡ r) × (i ≡ j)
        at_node (inl g) = (f.0, g.0 ∙ named.0, g.1 ∙ named.1)
        at_node (inr g) = let c = o.only n z i a g in (f.0, c.1, c.2)

    none_left : (b : Progress) (c : Ending) → Iterates P n (u.nodes n) new q k (Ends b c) → (y z i : ℕ) (a : Progress) → (((y ≡ n) × (new.slot z i ≡ Running a)) ⊎ ((y ≢ n) × ((u.nodes y).slot z i ≡ Running a))) → ⊥
    none_left b c e y z i a (inr f) = f.0 (o.only y z i a f.1).0
    none_left b c e y z i a (inl f) = at_node (left_slot (Ends b c) e z i a f.1)
      where
        at_node : (((z ≡ q) × (i ≡ k) × (turned_slot q k (Ends b c) ≡ Running a)) ⊎ ((u.nodes n).slot z i ≡ Running a)) → ⊥
        at_node (inl g) = let d : Kept (back_of q k b c) ≡ Running a = g.2 in cc
        at_node (inr g) = let w = o.only n z i a g in
            let d : Kept (back_of q k b c) ≡ Running a = sym (slot_there (Ends b c) e) ∙ (λ l. new.slot (sym w.1 l) (sym w.2 l)) ∙ f.1 in cc

    step : (t : Turned) → Iterates P n (u.nodes n) new q k t → x ≡ record u { nodes = put u.nodes n new; letters = u.letters ++ turned_sends q k t; order = u.order ++ q ∷ [] }
        → (OnlyRuns x n r j → x.asking r ≡ Asked leg accepted ticks → (last : Letter) × Draining P v r j 1 last) → (last : Letter) × Draining P v r j 1 last
    step (Stays b) e d again =
        again
        (subst (λ (y : World). OnlyRuns y n r j) (sym d) (record {
          runs = (b, ap (λ (y : Node). y.slot r j) (put_here u.nodes n new n (same_number n)) ∙ slot_there (Stays b) e);
          only = λ y z i a f. stays_only b e y z i a (put_runs u n new y z i a f);
        }))
        (ap (λ (y : World). y.asking r) d ∙ a)
    step (Ends b c) e d again =
        let idle : AllIdle x = subst AllIdle (sym d) (λ y z i a f. none_left b c e y z i a (put_runs u n new y z i a f)) in
        let same : v ≡ x = idle_settles P n m x v (idle n) s in (
          to_switch (AsBack (back_of q k b c)),
          subst (λ (y : World). Draining P y r j 1 (to_switch (AsBack (back_of q k b c)))) (sym same) (record {
            earlier = u.letters;
            stands = ap (λ (y : World). y.letters) d;
            stage = (named.0, named.1, refl);
            leg = leg;
            accepted = accepted;
            ticks = ticks;
            asking = ap (λ (y : World). y.asking r) d ∙ a;
            reached = h;
            idle = idle;
          }),
        )

owned_some : (P : Plan) (n r cur i : ℕ) → P.region r cur ≡ Some i → P.owner i ≡ n → arrive_on P n r cur ≡ Nowhere → ⊥
owned_some P n r cur i e o h = some_arrival (P.readable i) (sym (ap (λ x. arrival P (owned P n x)) e ∙ ap (λ b. arrival P (if b then Some i else None)) (ap (λ z. nat_eq z n) o ∙ same_number n)) ∙ h)
  where
    some_arrival : (b : Bool) → (if b then Here i else Barred) ≡ Nowhere → ⊥
    some_arrival true e = cc
    some_arrival false e = cc

started_only : (w : World) (n : ℕ) (l : Leg) → AllIdle w → OnlyRuns (record w { nodes = put w.nodes n (with_slot (w.nodes n) l.request l.number (Running l.now)); letters = w.letters ++ [] }) n l.request l.number
started_only w n l idle = record {
  runs = (l.now, ap (λ (y : Node). y.slot l.request l.number) (put_here w.nodes n _ n (same_number n)) ∙ (let f = same_number l.request in let g = same_number l.number in let c : put_at (w.nodes n).slot l.request l.number (Running l.now) l.request l.number ≡ Running l.now = grind (arith, f, g) in c));
  only = λ m q j a f. by_put m q j a (put_runs w n (with_slot (w.nodes n) l.request l.number (Running l.now)) m q j a f);
}
  where
    by_put : (m q j : ℕ) (a : Progress) → (((m ≡ n) × (put_at (w.nodes n).slot l.request l.number (Running l.now) q j ≡ Running a)) ⊎ ((m ≢ n) × ((w.nodes m).slot q j ≡ Running a))) → (m ≡ n) × (q ≡ l.request) × (j ≡ l.number)
    by_put m q j a (inr f) = absurd (idle m q j a f.1)
    by_put m q j a (inl f) = by_slot (put_other_slot (w.nodes n).slot l.request l.number (Running l.now) q j a f.1)
      where
        by_slot : (((q ≡ l.request) × (j ≡ l.number) × (Running l.now ≡ Running a)) ⊎ ((w.nodes n).slot q j ≡ Running a)) → (m ≡ n) × (q ≡ l.request) × (j ≡ l.number)
        by_slot (inl g) = (f.0, g.0, g.1)
        by_slot (inr g) = absurd (idle n q j a g)

node_idle : (w : World) (n : ℕ) (new : Node) (letters : List Letter) → new ≡ w.nodes n → AllIdle w → AllIdle (record w { nodes = put w.nodes n new; letters = letters })
node_idle w n new letters e idle m q j a f = idle m q j a (ap (λ (v : Node). v.slot q j) (sym (put_self w.nodes n new e m)) ∙ f)

answer_names : (P : Plan) (start : Flat) (w : World) (n : ℕ) (l : Leg) (b : Back) (s : IsSound P start w)
    → (((w.nodes n).slot l.request l.number ≡ Kept b) ⊎ ((arrive_on P n l.request l.now.cur ≡ Barred) × (b ≡ back_of l.request l.number l.now (Fault NotReadable)))) → (b.number ≡ l.number) × (b.request ≡ l.request)
answer_names P start w n l b s (inl k) = back_number l.request _ _ l.number b (kept_is P l.request n l.number _ (s.spines l.request) b (s.fits l.request) k)
answer_names P start w n l b s (inr k) = (ap (λ (x : Back). x.number) k.1, ap (λ (x : Back). x.request) k.1)

-- A leg at its node: it has its reply there, or is started and runs to its end.
node_goes : (P : Plan) (start : Flat) (w v : World) (n m r j rank : ℕ) (new : Node) (l leg : Leg) (accepted ticks : ℕ) (a : Accepted) (s : IsSound P start w) → l.request ≡ r → l.number ≡ j → rank ≡ 2
    → ((i : ℕ) × (P.region l.request l.now.cur ≡ Some i) × (P.owner i ≡ n)) → w.asking r ≡ Asked leg accepted ticks → leg.number ≤ j → AllIdle w
    → Accepts P n (w.nodes n) new l a → Settles P n m (record w { nodes = put w.nodes n new; letters = w.letters ++ accepted_sends l a }) v
    → GoesOn P v r (measure P j rank)
node_goes P start w v n m r j rank new l leg accepted ticks Foreign s e f q o g h idle acc st = absurd acc
node_goes P start w v n m r j rank new l leg accepted ticks (Replies b) s e f q o g h idle acc st =
    let names = answer_names P start w n l b s acc.1 in
    let still : AllIdle (record w { nodes = put w.nodes n new; letters = w.letters ++ to_switch (AsBack b) ∷ [] }) = node_idle w n new (w.letters ++ to_switch (AsBack b) ∷ []) acc.0 idle in
    let same = idle_settles P n m _ v (still n) st in
    subst (λ (y : World). GoesOn P y r (measure P j rank)) (sym same) (record {
      number = j;
      rank = 1;
      last = to_switch (AsBack b);
      less = less_same P j 1 rank (omega (arith, q));
      drains = record { earlier = w.letters; stands = refl; stage = (names.1 ∙ e, names.0 ∙ f, refl); leg = leg; accepted = accepted; ticks = ticks; asking = g; reached = h; idle = still };
    })
node_goes P start w v n m r j rank new l leg accepted ticks RunsAlready s e f q o g h idle acc st = absurd (idle n l.request l.number acc.1.0 acc.1.1)
node_goes P start w v n m r j rank new l leg accepted ticks Elsewhere s e f q o g h idle acc st = absurd (owned_some P n l.request l.now.cur o.0 o.1 o.2 acc.1)
node_goes P start w v n m r j rank new l leg accepted ticks Full s e f q o g h idle acc st = absurd (idle n acc.1.request acc.1.leg acc.1.now acc.1.runs)
node_goes P start w v n m r j rank new l leg accepted ticks Started s e f q o g h idle acc st =
    let only : OnlyRuns (record w { nodes = put w.nodes n new; letters = w.letters ++ [] }) n r j =
    subst (λ (y : Node). OnlyRuns (record w { nodes = put w.nodes n y; letters = w.letters ++ [] }) n r j) (sym acc.2)
    (subst (λ (x : ℕ). OnlyRuns (record w { nodes = put w.nodes n (with_slot (w.nodes n) l.request l.number (Running l.now)); letters = w.letters ++ [] }) n x j) e
    (subst (λ (x : ℕ). OnlyRuns (record w { nodes = put w.nodes n (with_slot (w.nodes n) l.request l.number (Running l.now)); letters = w.letters ++ [] }) n l.request x) f (started_only w n l idle))) in
    let d = settles P n m r j _ v leg accepted ticks only st g h in
    record { number = j; rank = 1; last = d.0; less = less_same P j 1 rank (omega (arith, q)); drains = d.1 }

ending_heard : (P : Plan) (b : Back) (accepted : ℕ) (e : Ending) → e ≢ Reroute → ((x : Answer) × (hears_ending P b accepted e ≡ Answers x)) ⊎ (hears_ending P b accepted e ≡ Sends (next_leg P b))
ending_heard P b accepted Done h = inl (_, refl)
ending_heard P b accepted (Fault kind) h = inl (_, refl)
ending_heard P b accepted Reroute h = absurd (h refl)
ending_heard P b accepted Resume h = by_cases (nat_eq (suc accepted) P.rounds)
    (λ q. inl (Spent (limit P), ap (λ t. if t then Answers (Spent (limit P)) else Sends (next_leg P b)) q))
    (λ q. inr (ap (λ t. if t then Answers (Spent (limit P)) else Sends (next_leg P b)) q))

client_heard : (P : Plan) (b : Back) (leg : Leg) (accepted ticks : ℕ) → leg.number ≤ b.number → b.ending ≢ Reroute
    → ((x : Answer) × (hears P b (Asked leg accepted ticks) ≡ Answers x)) ⊎ (hears P b (Asked leg accepted ticks) ≡ Sends (next_leg P b))
client_heard P b leg accepted ticks h x =
    let q : nat_lt b.number leg.number ≡ false = grind (arith, h) in
    subst (λ t. ((x : Answer) × ((if t then Stale else hears_ending P b accepted b.ending) ≡ Answers x)) ⊎ ((if t then Stale else hears_ending P b accepted b.ending) ≡ Sends (next_leg P b))) (sym q) (ending_heard P b accepted b.ending x)

abbrev heard_world : World → Back → Asking → Heard → World
heard_world w b g h = record w { asking = put w.asking b.request (heard_asking g h); letters = w.letters ++ heard_sends h }

-- A back at the client.
client_moves : (P : Plan) (start : Flat) (w : World) (j rank : ℕ) (b : Back) (leg : Leg) (accepted ticks : ℕ) (h : Heard) → IsSound P start (heard_world w b (Asked leg accepted ticks) h) → b.number ≡ j → rank ≡ 0 → AllIdle w
    → ((x : Answer) × (h ≡ Answers x)) ⊎ (h ≡ Sends (next_leg P b))
    → ((x : Answer) × ((heard_world w b (Asked leg accepted ticks) h).asking b.request ≡ Answered x)) ⊎ GoesOn P (heard_world w b (Asked leg accepted ticks) h) b.request (measure P j rank)
client_moves P start w j rank b leg accepted ticks h s f q idle (inl (x, e)) = inl (x, put_same w.asking b.request (heard_asking (Asked leg accepted ticks) h) ∙ ap (heard_asking (Asked leg accepted ticks)) e)
client_moves P start w j rank b leg accepted ticks h s f q idle (inr e) =
    let l = next_leg P b in
    let s2 : IsSound P start (heard_world w b (Asked leg accepted ticks) (Sends l)) = subst (λ z. IsSound P start (heard_world w b (Asked leg accepted ticks) z)) e s in
    let sh : sent_leg P b.request (s2.spines b.request).past (s2.spines b.request).stand (suc b.number) ≡ Some l = last_fits P start (heard_world w b (Asked leg accepted ticks) (Sends l)) s2 w.letters (to_switch (AsLeg l)) refl in
    let few0 = number_few P b.request (suc b.number) (s2.spines b.request) l (s2.fits b.request).spine sh in
    let few : suc j < limit P = omega (arith, few0, f) in
    inr (subst (λ z. GoesOn P (heard_world w b (Asked leg accepted ticks) z) b.request (measure P j rank)) (sym e) (record {
      number = suc j;
      rank = 3;
      last = to_switch (AsLeg l);
      less = less_next P j 3 rank few (omega arith);
      drains = record {
        earlier = w.letters;
        stands = refl;
        stage = (refl, ap suc f, refl);
        leg = l;
        accepted = suc accepted;
        ticks = 0;
        asking = put_same w.asking b.request (Asked l (suc accepted) 0);
        reached = omega (arith, f);
        idle = idle;
      };
    }))

advances_by : (P : Plan) (start : Flat) (w u v : World) (r j rank : ℕ) (to : To) (f : Frame) (s : IsSound P start w) → IsSound P start u → FrameFits P s.spines f → StageBy P r j rank to f
    → (leg : Leg) (accepted ticks : ℕ) → w.asking r ≡ Asked leg accepted ticks → leg.number ≤ j → AllIdle w
    → Delivered P w u to f → SettlesAt P to u v → ((x : Answer) × (v.asking r ≡ Answered x)) ⊎ GoesOn P v r (measure P j rank)
advances_by P start w u v r j rank ToSwitch (AsLeg l) s su k (e, f, q) leg accepted ticks g h idle d st =
    inr (subst (λ y. GoesOn P y r (measure P j rank)) (sym (st ∙ d)) (route_goes P w r j (measure P j rank) l leg accepted ticks _ refl e f g h idle (less_same P j 2 rank (omega (arith, q)))))
advances_by P start w u v r j rank ToSwitch (AsBack b) s su k (e, f, q) leg accepted ticks g h idle d st =
    inr (subst (λ y. GoesOn P y r (measure P j rank)) (sym (st ∙ d)) (switch_back_goes P start w r j rank b leg accepted ticks s b.ending refl e f q g h idle k))
advances_by P start w u v r j rank (ToNode n) (AsLeg l) s su k (e, f, q, o) leg accepted ticks g h idle (new, a, acc, d) (m, st) =
    inr (node_goes P start w v n m r j rank new l leg accepted ticks a s e f q o g h idle acc (subst (λ y. Settles P n m y v) d st))
advances_by P start w u v r j rank (ToNode n) (AsBack b) s su k st0 leg accepted ticks g h idle d st = absurd st0
advances_by P start w u v r j rank ToClient (AsLeg l) s su k st0 leg accepted ticks g h idle d st = absurd st0
advances_by P start w u v r j rank ToClient (AsBack b) s su k (e, f, q, x) leg accepted ticks g h idle d st =
    let a0 : w.asking b.request ≡ Asked leg accepted ticks = ap w.asking e ∙ g in
    let hd = hears P b (Asked leg accepted ticks) in
    let world : u ≡ heard_world w b (Asked leg accepted ticks) hd = d ∙ ap (λ z. heard_world w b z (hears P b z)) a0 in
    let moves = client_moves P start w j rank b leg accepted ticks hd (subst (IsSound P start) world su) f q idle (client_heard P b leg accepted ticks (omega (arith, h, f)) x) in
    let moves2 = subst (λ (y : World). ((x : Answer) × (y.asking b.request ≡ Answered x)) ⊎ GoesOn P y b.request (measure P j rank)) (sym (st ∙ world)) moves in
    subst (λ (z : ℕ). ((x : Answer) × (v.asking z ≡ Answered x)) ⊎ GoesOn P v z (measure P j rank)) e moves2

pub drain_advances : DrainAdvances
drain_advances P start w u v r j rank last s dr d st =
    let k = last_fits P start w s dr.earlier last dr.stands in
    advances_by P start w u v r j rank last.to last.frame s (delivered_keeps P start w u last.to last.frame s k d) k dr.stage dr.leg dr.accepted dr.ticks dr.asking dr.reached dr.idle d st
