-- What an event changes of one request, with the letters that it sends.
use Rattle.std.proofs.Common.{◌≡◌, ℕ, suc, ◌⊎◌, inl, inr, List, [], ◌∷◌, Option, Some, None, refl, sym, ap, subst, nat_le, if◌then◌else◌}
use Rattle.run_laws.specs.Plan.{Leg, Ending, Done, Reroute, Resume, Fault, Back, Frame, AsLeg, AsBack, Begun, Begins, Finished, Faulted, Plan, arrival}
use Rattle.run_laws.specs.Flat.{Silent, due}
use Rattle.run_laws.specs.Node.{Kept}
use Rattle.run_laws.specs.Client.{Asking, NotAsked, Asked, Answered, Heard, Stale, Answers, Sends, hears, heard_asking, first_leg, begun_asking, asks_asking, ticks_asking}
use Rattle.run_laws.specs.World.{Letter, to_switch, routed, route, rerouted_leg, switched_back, switched, begun_sends, asks_sends, ticks_sends, resends, heard_sends}
use Rattle.run_laws.specs.Spines.Spine.{Held, Waiting, Spine, fresh, sent_leg, became, flat_stand, flat_begun}
use Rattle.run_laws.specs.Spines.Fits.{BegunFits, IsSpine, InRound, AskingFits, blocked, early, BackFits, RequestView, Fits}
use Rattle.run_laws.specs.Spines.Sound.{Each}
use Rattle.run_laws.proofs.Follows.{Grows}
use Rattle.run_laws.proofs.LegNumbers.{leg_number, by_cases, sent_leg_is}
use Rattle.run_laws.proofs.Backs.{reroute_fits}
use Rattle.run_laws.proofs.Round.{current_sent}
use Rattle.run_laws.proofs.Hearing.{SendsFit, same_grows, heard}

-- a frame of request r that may be among the letters
abbrev pub FrameIn : Plan → ℕ → Spine → Frame → Type 0
FrameIn P r s (AsLeg l) = (l.request ≡ r) × (sent_leg P r s.past s.stand l.number ≡ Some l)
FrameIn P r s (AsBack b) = (b.request ≡ r) × ((became r s.past s.stand b.number ≡ Kept b) ⊎ ((l : Leg) × (sent_leg P r s.past s.stand b.number ≡ Some l) × (early P l ≡ Some b)))

-- a change of one request, with the letters that it adds
pub record Changes (P : Plan) (r : ℕ) (s : Spine) (v : RequestView) (new : List Letter) : Type 0 where
  pub spine : Spine
  pub fits : Fits P r v spine
  pub grows : Grows P r s spine
  pub sends : Each (λ m. FrameIn P r spine m.frame) new

pub nothing : (P : Plan) (r : ℕ) (s : Spine) (v : RequestView) → Fits P r v s → Changes P r s v []
nothing P r s v f = record { spine = s; fits = f; grows = same_grows P r s; sends = tt }

pub sent : (P : Plan) (r : ℕ) (s : Spine) (v : RequestView) (m : Letter) → Fits P r v s → FrameIn P r s m.frame → Changes P r s v (m ∷ [])
sent P r s v m f i = record { spine = s; fits = f; grows = same_grows P r s; sends = (i, tt) }

asked_fresh : (P : Plan) (r : ℕ) (v : RequestView) (cur : ℕ) (pad : List ℕ) → P.first r ≡ Begins cur pad → Fits P r v fresh → Changes P r fresh (record v { asking = Asked (first_leg P r) 0 0 }) (to_switch (AsLeg (first_leg P r)) ∷ [])
asked_fresh P r v cur pad e f = record {
  spine = record { past = []; stand = Waiting };
  fits = record {
    spine = record { rounds = f.spine.rounds; entered = f.spine.entered; many = f.spine.many; ran = tt; stands = tt; begun = subst (λ g. BegunFits g (record { past = []; stand = Waiting })) (sym e) tt };
    flat = f.flat;
    slots = f.slots;
    asking = (refl, refl);
  };
  grows = record { legs = λ k l e. absurd (cc); backs = λ k b e. e };
  sends = ((refl, refl), tt);
}

begun_change : (P : Plan) (r : ℕ) (v : RequestView) (g : Begun) → P.first r ≡ g → Fits P r v fresh → Changes P r fresh (record v { asking = begun_asking P r g }) (begun_sends P r g)
begun_change P r v (Begins cur pad) e f = asked_fresh P r v cur pad e f
begun_change P r v (Finished pad) e f = record { spine = fresh; fits = record { spine = f.spine; flat = f.flat; slots = f.slots; asking = inr (ap (λ g. due P r (flat_begun g (flat_stand P r [] Held))) e) }; grows = same_grows P r fresh; sends = tt }
begun_change P r v Faulted e f = record { spine = fresh; fits = record { spine = f.spine; flat = f.flat; slots = f.slots; asking = inr (ap (λ g. due P r (flat_begun g (flat_stand P r [] Held))) e) }; grows = same_grows P r fresh; sends = tt }

asks_case : (P : Plan) (r : ℕ) (v : RequestView) (s : Spine) (g : Asking) → v.asking ≡ g → Fits P r v s → Changes P r s (record v { asking = asks_asking P r g }) (asks_sends P r g)
asks_case P r v s NotAsked e f =
    let same : s ≡ fresh = subst (AskingFits P r s) e f.asking in
    subst (λ t. Changes P r t (record v { asking = begun_asking P r (P.first r) }) (begun_sends P r (P.first r))) (sym same) (begun_change P r v (P.first r) refl (subst (Fits P r v) same f))
asks_case P r v s (Asked l c t) e f = nothing P r s _ (subst (λ g. Fits P r (record v { asking = g }) s) e f)
asks_case P r v s (Answered a) e f = nothing P r s _ (subst (λ g. Fits P r (record v { asking = g }) s) e f)

-- an ask
pub asks_change : (P : Plan) (r : ℕ) (v : RequestView) (s : Spine) → Fits P r v s → Changes P r s (record v { asking = asks_asking P r v.asking }) (asks_sends P r v.asking)
asks_change P r v s f = asks_case P r v s v.asking refl f

round_request : (P : Plan) (r : ℕ) (s : Spine) (l : Leg) → sent_leg P r s.past s.stand l.number ≡ Some l → l.request ≡ r
round_request P r s l e = (leg_number P r s.past l.number l (sent_leg_is P r s.past s.stand l.number l e)).1

ticks_case : (P : Plan) (tries r : ℕ) (v : RequestView) (s : Spine) (g : Asking) → v.asking ≡ g → Fits P r v s → Changes P r s (record v { asking = ticks_asking tries g }) (ticks_sends tries g)
ticks_case P tries r v s NotAsked e f = nothing P r s _ (subst (λ g. Fits P r (record v { asking = g }) s) e f)
ticks_case P tries r v s (Answered a) e f = nothing P r s _ (subst (λ g. Fits P r (record v { asking = g }) s) e f)
ticks_case P tries r v s (Asked l c t) e f = by_cases (nat_le tries t)
    (λ q. subst (λ b. Changes P r s (record v { asking = if b then Answered Silent else Asked l c (suc t) }) (if b then [] else to_switch (AsLeg l) ∷ [])) (sym q)
    (nothing P r s _ (record { spine = f.spine; flat = f.flat; slots = f.slots; asking = inl refl })))
    (λ q. let i : InRound P r s.past s.stand l c = subst (AskingFits P r s) e f.asking in
    let d = current_sent P r s.past s.stand l c i in
    subst (λ b. Changes P r s (record v { asking = if b then Answered Silent else Asked l c (suc t) }) (if b then [] else to_switch (AsLeg l) ∷ [])) (sym q)
    (sent P r s _ (to_switch (AsLeg l)) (record { spine = f.spine; flat = f.flat; slots = f.slots; asking = i }) (round_request P r s l d, d)))

-- a tick
pub ticks_change : (P : Plan) (tries r : ℕ) (v : RequestView) (s : Spine) → Fits P r v s → Changes P r s (record v { asking = ticks_asking tries v.asking }) (ticks_sends tries v.asking)
ticks_change P tries r v s f = ticks_case P tries r v s v.asking refl f

-- a leg that is sent again
pub resends_fit : (P : Plan) (r : ℕ) (v : RequestView) (s : Spine) (g : Asking) → v.asking ≡ g → Fits P r v s → Each (λ m. FrameIn P r s m.frame) (resends g)
resends_fit P r v s NotAsked e f = tt
resends_fit P r v s (Answered a) e f = tt
resends_fit P r v s (Asked l c t) e f =
    let d = current_sent P r s.past s.stand l c (subst (AskingFits P r s) e f.asking) in
    ((round_request P r s l d, d), tt)

hears_sent : (P : Plan) (r : ℕ) (s : Spine) (h : Heard) → SendsFit P r s h → Each (λ m. FrameIn P r s m.frame) (heard_sends h)
hears_sent P r s Stale f = tt
hears_sent P r s (Answers x) f = tt
hears_sent P r s (Sends l) f = (f, tt)

-- a back that is heard
pub hears_change : (P : Plan) (v : RequestView) (s : Spine) (b : Back) → Fits P b.request v s → BackFits P s b → Changes P b.request s (record v { asking = heard_asking v.asking (hears P b v.asking) }) (heard_sends (hears P b v.asking))
hears_change P v s b f k = let h = heard P s v b f k in record { spine = h.spine; fits = h.fits; grows = h.grows; sends = hears_sent P b.request h.spine (hears P b v.asking) h.sends }

route_case : (P : Plan) (s : Spine) (l : Leg) (o : Option ℕ) → P.region l.request l.now.cur ≡ o → sent_leg P l.request s.past s.stand l.number ≡ Some l → Each (λ m. FrameIn P l.request s m.frame) (routed P l o)
route_case P s l (Some i) e f = ((refl, f), tt)
route_case P s l None e f = ((refl, inr (l, f, ap (λ o. blocked l (arrival P o)) e)), tt)

-- a leg at the switch
pub route_fits : (P : Plan) (s : Spine) (l : Leg) → sent_leg P l.request s.past s.stand l.number ≡ Some l → Each (λ m. FrameIn P l.request s m.frame) (route P l)
route_fits P s l f = route_case P s l (P.region l.request l.now.cur) refl f

back_case : (P : Plan) (s : Spine) (b : Back) (e : Ending) → b.ending ≡ e → IsSpine P b.request s → BackFits P s b → Each (λ m. FrameIn P b.request s m.frame) (switched_back P b e)
back_case P s b Reroute e w f = route_fits P s (rerouted_leg b) (reroute_fits P s b w f e)
back_case P s b Done e w f = ((refl, f), tt)
back_case P s b Resume e w f = ((refl, f), tt)
back_case P s b (Fault kind) e w f = ((refl, f), tt)

-- a back at the switch
pub switched_fits : (P : Plan) (s : Spine) (b : Back) → IsSpine P b.request s → BackFits P s b → Each (λ m. FrameIn P b.request s m.frame) (switched P (AsBack b))
switched_fits P s b w f = back_case P s b b.ending refl w f
