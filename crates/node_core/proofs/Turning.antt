-- The iteration of the first live leg, and that what becomes of it is possible.
use Rattle.std.proofs.Common.{◌≡◌, ℕ, ◌-◌, ◌<◌, ◌≤◌, false, not, List, ◌∷◌, length, get_or, drop, Option, Some, None, refl, sym, ap, ◌∙◌, subst, arith, nat_eq, if◌then◌else◌, eqb-true}
use Rattle.std.specs.Prelude.{slice_get}
use Rattle.std.specs.FinMap as m
use Rattle.std.proofs.lemmas.List.{length-map}
use Rattle.std.proofs.lemmas.List.Quantifiers.{position-Some}
use Rattle.pulse_base.specs.declared.answer.FaultKind.TheVariants as fault
use Rattle.range_table.specs.declared.region.RegionSpan.{RegionSpan}
use Rattle.range_table.specs.Memory.{holds, region_of, may_read, may_write}
use Rattle.pulse_isa.specs.Step.{End}
use Rattle.code_verify.specs.Run.{run_body}
use Rattle.leg_machine.specs.declared.context.Context.{Context}
use Rattle.leg_machine.specs.declared.context.Ended.{Ended}
use Rattle.leg_machine.specs.declared.context.Ended.TheVariants as e
use Rattle.leg_machine.specs.Iterations.{IsIteration}
use Rattle.frame_codec.specs.declared.frame.Leg.{Leg}
use Rattle.frame_codec.specs.declared.frame.Ending.TheVariants as ending
use Rattle.run_rules.specs.declared.node.NodeRegion.{NodeRegion}
use Rattle.run_rules.specs.declared.node.ProgramSizes.{ProgramSizes}
use Rattle.run_rules.specs.declared.node.LiveLeg.{LiveLeg}
use Rattle.run_rules.specs.declared.node.Fate.{Fate}
use Rattle.run_rules.specs.declared.node.Fate.TheVariants as fate
use Rattle.run_rules.specs.Outcome.{Outcome, record_after}
use Rattle.run_rules.specs.Outcome as o
use Rattle.run_rules.specs.Node.{NodeState, key_of, back_of, spans_of, size_in, size_of, place_of, region_at, offset_of, record_in, spliced, with_record}
use Rattle.run_rules.specs.Accepting.{foreign_by, is_foreign}
use Rattle.run_rules.specs.Turning.{moved, fate_at, fate_of, record_by, writable_by}
use Rattle.run_rules.specs.Waiting.{Each}
use Rattle.run_rules.proofs.Finds.{by_bool}
use Rattle.node_core.specs.Code.{body_of, outcome_of, code_run}
use Rattle.node_core.specs.Part.{PartState, IsPart, CanRun, ran_by}
use Rattle.node_core.specs.inner.Starts.{fate_after}
use Rattle.node_core.specs.inner.Steps.{Iterates, FitsAt, FateFits}
use Rattle.node_core.proofs.Regions.{map_kept}
use Rattle.node_core.proofs.Nodes.{first_of}

-- ---- what becomes of a leg depends on spans and sizes alone

at_same : (n k : NodeState) (l : Leg) (p : Option ℕ) → spans_of n.regions ≡ spans_of k.regions → fate_at n l p ≡ fate_at k l p
at_same n k l None e = refl
at_same n k l (Some i) e = ap (λ b. if b then fate.Stays l else fate.Ends (back_of l (ending.Fault fault.NotReadable))) (ap (λ z. may_read z i) e)

after_same : (n k : NodeState) (l : Leg) → spans_of n.regions ≡ spans_of k.regions → n.sizes ≡ k.sizes → fate_after n l ≡ fate_after k l
after_same n k l e s =
    let place : place_of n l ≡ place_of k l = λ i. region_of (e i) l.cur (size_in (slice_get (s i) l.program)) in
    ap (λ z. if nat_eq l.left 0 then fate.Ends (back_of l ending.Resume) else z) (at_same n k l (place_of n l) e ∙ ap (fate_at k l) place)

pub fate_same : (n k : NodeState) (l : Leg) (x : Outcome) → spans_of n.regions ≡ spans_of k.regions → n.sizes ≡ k.sizes → fate_of n l x ≡ fate_of k l x
fate_same n k l (o.Done bytes pad) e s = refl
fate_same n k l (o.Faults c) e s = refl
fate_same n k l (o.Goes to bytes pad) e s = after_same n k (moved l to pad) e s

-- ---- what becomes of a leg that can run is possible

abbrev PadIs : Outcome → ℕ → Type 0
PadIs (o.Done bytes pad) k = length pad ≡ k
PadIs (o.Goes to bytes pad) k = length pad ≡ k
PadIs (o.Faults c) k = Unit {0}

pad_is : (ended : Ended) (end : End) (was now : Context) (old new : List ℕ) → IsIteration ended end was now old new → PadIs (outcome_of end) (length now.pad)
pad_is e.Done end was now old new i = subst (λ z. PadIs (outcome_of z) (length now.pad)) (sym i.0) refl
pad_is e.Go end was now old new i = subst (λ z. PadIs (outcome_of z) (length now.pad)) (sym i) refl
pad_is e.NotWritable end was now old new i = subst (λ z. PadIs (outcome_of z) (length now.pad)) (sym i.0) tt
pad_is e.DivZero end was now old new i = subst (λ z. PadIs (outcome_of z) (length now.pad)) (sym i.0) tt

at_fits : (n : NodeState) (x : LiveLeg) (es : List LiveLeg) (l : Leg) (p : Option ℕ) → place_of n l ≡ p → key_of l ≡ key_of x.leg → CanRun n x → is_foreign n l ≡ false → 1 ≤ l.left → FitsAt n (x ∷ es) (fate_at n l p)
at_fits n x es l None e k r f one = one
at_fits n x es l (Some i) e k r f one = by_bool (may_read (spans_of n.regions) i)
    (λ t. subst (λ b. FitsAt n (x ∷ es) (if b then fate.Stays l else fate.Ends (back_of l (ending.Fault fault.NotReadable)))) (sym t)
    (k, record { rules = one; known = f; unkept = ap (m.get n.kept) k ∙ r.unkept; place = i; at = e; reads = t }))
    (λ t. subst (λ b. FitsAt n (x ∷ es) (if b then fate.Stays l else fate.Ends (back_of l (ending.Fault fault.NotReadable)))) (sym t) one)

foreign_same : (p : Option ProgramSizes) (a b : Leg) → length a.pad ≡ length b.pad → foreign_by a p ≡ foreign_by b p
foreign_same None a b e = refl
foreign_same (Some z) a b e = ap (λ k. not (nat_eq k z.pad_size)) e

fate_fits : (n : NodeState) (x : LiveLeg) (es : List LiveLeg) (y : Outcome) → CanRun n x → PadIs y (length x.leg.pad) → FitsAt n (x ∷ es) (fate_of n x.leg y)
fate_fits n x es (o.Done bytes pad) r p = refl
fate_fits n x es (o.Faults c) r p = r.rules
fate_fits n x es (o.Goes to bytes pad) r p =
    let known : is_foreign n (moved x.leg to pad) ≡ false = foreign_same (slice_get n.sizes x.leg.program) (moved x.leg to pad) x.leg p ∙ r.known in
    by_bool (nat_eq (x.leg.left - 1) 0)
    (λ t. subst (λ b. FitsAt n (x ∷ es) (if b then fate.Ends (back_of (moved x.leg to pad) ending.Resume) else fate_at n (moved x.leg to pad) (place_of n (moved x.leg to pad)))) (sym t) (eqb-true (x.leg.left - 1) 0 t))
    (λ t. subst (λ b. FitsAt n (x ∷ es) (if b then fate.Ends (back_of (moved x.leg to pad) ending.Resume) else fate_at n (moved x.leg to pad) (place_of n (moved x.leg to pad)))) (sym t)
    (at_fits n x es (moved x.leg to pad) (place_of n (moved x.leg to pad)) refl refl r known (grind (arith, t))))

-- ---- the iteration of the first live leg

record_is_after : (ended : Ended) (end : End) (was now : Context) (old new : List ℕ) → IsIteration ended end was now old new → new ≡ record_after (outcome_of end) old
record_is_after e.Done end was now old new i = ap (λ z. record_after (outcome_of z) old) (sym i.0)
record_is_after e.Go end was now old new i = ap (λ z. record_after (outcome_of z) old) (sym i)
record_is_after e.NotWritable end was now old new i = i.2 ∙ ap (λ z. record_after (outcome_of z) old) (sym i.0)
record_is_after e.DivZero end was now old new i = i.2 ∙ ap (λ z. record_after (outcome_of z) old) (sym i.0)

-- the run of a leg's code at a place
abbrev pub end_at : PartState → Leg → ℕ → End
end_at p l place = run_body (body_of p.images l) (record_in p.node l place) l.pad l.cur (may_write (spans_of p.node.regions) place)

ran_is : (p : PartState) (x : LiveLeg) (place : ℕ) → place_of p.node x.leg ≡ Some place → ran_by p (Some x) ≡ outcome_of (end_at p x.leg place)
ran_is p x place at = λ i. code_run p.images x.leg (record_by p.node x.leg (at i)) (writable_by p.node (at i))

-- other bytes in the record leave all spans
spans_with : (n : NodeState) (l : Leg) (place : ℕ) (new : List ℕ) → place_of n l ≡ Some place → spans_of (with_record n l place new).regions ≡ spans_of n.regions
spans_with n l place new at =
    let found = position-Some (λ (x : RegionSpan). holds x l.cur (size_of n l)) (spans_of n.regions) place (record { base = 0; len = 0; read = false; write = false }) at in
    map_kept (λ (x : NodeRegion). x.span) n.regions place _ (record (region_at n place) { bytes = spliced (region_at n place).bytes (offset_of n l place) new })
    (omega (arith, found.0, length-map n.regions (λ (x : NodeRegion). x.span))) refl

pub iterated : (p t : PartState) (f : Fate) (x : LiveLeg) (place : ℕ) (ended : Ended) (was now : Context)
    → 0 < length p.node.live → x ≡ get_or p.node.live 0 x → place_of p.node x.leg ≡ Some place
    → IsIteration ended (end_at p x.leg place) was now (record_in p.node x.leg place) (record_in t.node x.leg place)
    → t ≡ record p { node = with_record p.node x.leg place (record_in t.node x.leg place) }
    → f ≡ fate_of t.node x.leg (outcome_of (end_at p x.leg place))
    → Iterates p t f
iterated p t f x place ended was now l i at r w k =
    let after : record_in t.node x.leg place ≡ record_after (ran_by p (Some x)) (record_in p.node x.leg place) =
    record_is_after ended (end_at p x.leg place) was now (record_in p.node x.leg place) (record_in t.node x.leg place) r ∙ ap (λ z. record_after z (record_in p.node x.leg place)) (sym (ran_is p x place at)) in
    record {
      first = x;
      others = drop 1 p.node.live;
      stands = first_of p.node.live x l i;
      place = place;
      at = at;
      fate = k ∙ ap (λ (z : PartState). fate_of z.node x.leg (outcome_of (end_at p x.leg place))) w
          ∙ fate_same (with_record p.node x.leg place (record_in t.node x.leg place)) p.node x.leg (outcome_of (end_at p x.leg place)) (spans_with p.node x.leg place (record_in t.node x.leg place) at) refl
          ∙ ap (fate_of p.node x.leg) (sym (ran_is p x place at));
      left = w ∙ ap (λ z. record p { node = with_record p.node x.leg place z }) after;
    }

can_put : (n : NodeState) (rs : List NodeRegion) (x : LiveLeg) → spans_of rs ≡ spans_of n.regions → CanRun n x → CanRun (record n { regions = rs }) x
can_put n rs x s r = record {
  rules = r.rules;
  known = r.known;
  unkept = r.unkept;
  place = r.place;
  at = ap (λ z. region_of z x.leg.cur (size_of n x.leg)) s ∙ r.at;
  reads = ap (λ z. may_read z r.place) s ∙ r.reads;
}

pub first_runs : (p : PartState) (x : LiveLeg) → IsPart p → 0 < length p.node.live → x ≡ get_or p.node.live 0 x → CanRun p.node x
first_runs p x h l i = (subst (Each (CanRun p.node)) (first_of p.node.live x l i) h.live).0

-- what becomes of it is possible after the iteration
pub iterated_fits : (p t : PartState) (f : Fate) (x : LiveLeg) (place : ℕ) (ended : Ended) (was now : Context)
    → 0 < length p.node.live → x ≡ get_or p.node.live 0 x → place_of p.node x.leg ≡ Some place → CanRun p.node x
    → IsIteration ended (end_at p x.leg place) was now (record_in p.node x.leg place) (record_in t.node x.leg place) → length now.pad ≡ length x.leg.pad
    → t ≡ record p { node = with_record p.node x.leg place (record_in t.node x.leg place) } → f ≡ fate_of t.node x.leg (outcome_of (end_at p x.leg place))
    → FateFits t f
iterated_fits p t f x place ended was now l i at h r pad w k =
    let padded : PadIs (outcome_of (end_at p x.leg place)) (length x.leg.pad) = subst (PadIs (outcome_of (end_at p x.leg place))) pad (pad_is ended (end_at p x.leg place) was now (record_in p.node x.leg place) (record_in t.node x.leg place) r) in
    let runs : CanRun (with_record p.node x.leg place (record_in t.node x.leg place)) x = can_put p.node (with_record p.node x.leg place (record_in t.node x.leg place)).regions x (spans_with p.node x.leg place (record_in t.node x.leg place) at) h in
    let one : FitsAt (with_record p.node x.leg place (record_in t.node x.leg place)) p.node.live (fate_of (with_record p.node x.leg place (record_in t.node x.leg place)) x.leg (outcome_of (end_at p x.leg place))) =
    subst (λ z. FitsAt (with_record p.node x.leg place (record_in t.node x.leg place)) z (fate_of (with_record p.node x.leg place (record_in t.node x.leg place)) x.leg (outcome_of (end_at p x.leg place)))) (sym (first_of p.node.live x l i))
    (fate_fits (with_record p.node x.leg place (record_in t.node x.leg place)) x (drop 1 p.node.live) (outcome_of (end_at p x.leg place)) runs padded) in
    subst (FateFits t) (sym k) (subst (λ (z : PartState). FateFits z (fate_of z.node x.leg (outcome_of (end_at p x.leg place)))) (sym w) one)
