-- The drain keeps what is always true of a run.
use Rattle.std.proofs.Common.{◌≡◌, ℕ, zero, suc, inl, inr, Bool, true, false, ◌++◌, length, map, Option, Some, None, refl, sym, ap, ◌∙◌, subst}
use Rattle.std.specs.Prelude.{slice_get}
use Rattle.pulse_base.specs.declared.event.Event.TheVariants.{Deliver, Turn}
use Rattle.frame_codec.specs.declared.frame.Leg.{Leg}
use Rattle.run_rules.specs.declared.client.Asking.{Asking}
use Rattle.run_laws.specs.Flat as f
use Rattle.run_laws.specs.World as w
use Rattle.run_laws.specs.Spines.Sound.{Each}
use Rattle.run_laws.proofs.Events.{each_append, each_event_keeps}
use Rattle.run_laws.proofs.Shapes.{each_event_keeps_shape}
use Rattle.run_laws.proofs.KeptSent.{each_event_keeps_sent}
use Rattle.run_views.specs.Setting.{Setting, plan_of, IsSetting}
use Rattle.run_views.specs.Clients.{IsAskingOf}
use Rattle.run_views.specs.Keeps.{shape_of, SentLegOf}
use Rattle.run_views.proofs.Clients.{tick_seen}
use Rattle.run_views.proofs.Sent.{client_keeps}
use Rattle.run_views.proofs.Shaped.{plan_keeps_shape}
use Rattle.event_run.specs.Letters.{sent_leg}
use Rattle.event_run.specs.World.{WorldState}
use Rattle.event_run.specs.Always.{asking_at, letter_view, world_view, LetterOf, IsWorldOf, HasNumbers, IsRun}
use Rattle.event_run.proofs.Lists.{map_append, leg_map}
use Rattle.event_run.proofs.Runs.{run_is_explained, event_keeps_run}
use Rattle.drain_run.specs.Drain.{after_turns, waits, current_leg, resends, Rounds, DrainsWhere, NodesSettle, RequestsDrain}
use Rattle.drain_run.specs.Laws.{SettlingKeepsRun, RoundKeepsRun, ResendKeepsRun, RequestDrainKeepsRun, DrainKeepsRun, DrainIsExplained}

-- ---- a leg that is sent again

resent_of : (u : Setting) (r : ℕ) (o : Option Asking) → IsSetting u → ((a : Asking) → o ≡ Some a → IsAskingOf u r a) → SentLegOf u (current_leg o)
resent_of u r None set h = tt
resent_of u r (Some a) set h = (client_keeps u r a set (h a refl)).1.2

resent_letters : (u : Setting) (nodes : ℕ) (o : Option Leg) → SentLegOf u o → Each (λ m. LetterOf u nodes m.to m.content) (sent_leg o)
resent_letters u nodes None h = tt
resent_letters u nodes (Some l) h = (h, tt)

resend_of : (u : Setting) (v : WorldState) (r : ℕ) → IsSetting u → IsWorldOf u v → IsWorldOf u (resends u v r)
resend_of u v r set h =
    let leg = current_leg (slice_get v.asking r) in
    record {
      owners = h.owners;
      nodes = h.nodes;
      asking = h.asking;
      letters = each_append (λ m. LetterOf u (length v.nodes) m.to m.content) v.letters (sent_leg leg) h.letters (resent_letters u (length v.nodes) leg (resent_of u r (slice_get v.asking r) set (h.asking r)));
    }

resent_seen : (u : Setting) (r : ℕ) (o : Option Asking) → ((a : Asking) → o ≡ Some a → IsAskingOf u r a) → map letter_view (sent_leg (current_leg o)) ≡ w.resends (asking_at o)
resent_seen u r None h = refl
resent_seen u r (Some a) h = leg_map (current_leg (Some a)) ∙ (tick_seen u r a (h a refl)).2

pub resend_happens : (u : Setting) (v : WorldState) (r : ℕ) → IsWorldOf u v → w.Happens (plan_of u) u.tries (world_view u v) (world_view u (resends u v r)) (w.Resend r)
resend_happens u v r of =
    let o = slice_get v.asking r in
    λ z. record {
      nodes = (world_view u v).nodes;
      asking = (world_view u v).asking;
      letters = (map_append v.letters (sent_leg (current_leg o)) ∙ ap (λ x. map letter_view v.letters ++ x) (resent_seen u r o (of.asking r))) z;
      order = v.order;
    }

pub resend_keeps_run : ResendKeepsRun
resend_keeps_run u start v r set few run =
    let x = resends u v r in
    let h = resend_happens u v r run.of in
    record {
      of = resend_of u v r set run.of;
      sound = each_event_keeps (plan_of u) u.tries start (world_view u v) (world_view u x) (w.Resend r) run.sound h;
      shaped = each_event_keeps_shape (plan_of u) (shape_of u) u.tries (world_view u v) (world_view u x) (w.Resend r) (plan_keeps_shape u set) run.shaped h;
      sent = each_event_keeps_sent (plan_of u) u.tries (world_view u v) (world_view u x) (w.Resend r) run.sent h;
    }

-- ---- turns and rounds

pub turns_keep_run : (u : Setting) (start : f.Flat) (n k : ℕ) (v : WorldState) → IsSetting u → HasNumbers u → IsRun u start v → IsRun u start (after_turns u n k v)
turns_keep_run u start n zero v set few run = run
turns_keep_run u start n (suc k) v set few run = event_keeps_run u start (after_turns u n k v) (Turn n) set few tt (turns_keep_run u start n k v set few run)

pub settling_keeps_run : SettlingKeepsRun
settling_keeps_run u start n v x set few h run = subst (IsRun u start) (sym h.1) (turns_keep_run u start n h.0 v set few run)

pub round_keeps_run : RoundKeepsRun
round_keeps_run u start v x set few (inl h) run = settling_keeps_run u start h.0 _ x set few h.3 (event_keeps_run u start v (Deliver _) set few tt run)
round_keeps_run u start v x set few (inr h) run = subst (IsRun u start) (sym h.1) (event_keeps_run u start v (Deliver _) set few tt run)

rounds_keep_run : (u : Setting) (start : f.Flat) (r k : ℕ) (v x : WorldState) → IsSetting u → HasNumbers u → Rounds u r k v x → IsRun u start v → IsRun u start x
rounds_keep_run u start r zero v x set few h run = subst (IsRun u start) (sym h) run
rounds_keep_run u start r (suc k) v x set few (y, h, t, last) run = round_keeps_run u start y x set few last (rounds_keep_run u start r k v y set few h run)

-- ---- the whole

request_keeps_run : (u : Setting) (start : f.Flat) (r : ℕ) (v x : WorldState) (b : Bool) → IsSetting u → HasNumbers u → DrainsWhere u r v x b → IsRun u start v → IsRun u start x
request_keeps_run u start r v x false set few h run = subst (IsRun u start) (sym h) run
request_keeps_run u start r v x true set few h run = rounds_keep_run u start r h.0 (resends u v r) x set few h.1 (resend_keeps_run u start v r set few run)

pub request_drain_keeps_run : RequestDrainKeepsRun
request_drain_keeps_run u start r v x set few h run = request_keeps_run u start r v x (waits v r) set few h run

nodes_keep_run : (u : Setting) (start : f.Flat) (n : ℕ) (v x : WorldState) → IsSetting u → HasNumbers u → NodesSettle u n v x → IsRun u start v → IsRun u start x
nodes_keep_run u start zero v x set few h run = subst (IsRun u start) (sym h) run
nodes_keep_run u start (suc n) v x set few (y, h, s) run = settling_keeps_run u start n y x set few s (nodes_keep_run u start n v y set few h run)

requests_keep_run : (u : Setting) (start : f.Flat) (r : ℕ) (v x : WorldState) → IsSetting u → HasNumbers u → RequestsDrain u r v x → IsRun u start v → IsRun u start x
requests_keep_run u start zero v x set few h run = subst (IsRun u start) (sym h) run
requests_keep_run u start (suc r) v x set few (y, h, s) run = request_drain_keeps_run u start r y x set few s (requests_keep_run u start r v y set few h run)

pub drain_keeps_run : DrainKeepsRun
drain_keeps_run u start v x set few (y, h, s) run = requests_keep_run u start (length v.asking) y x set few s (nodes_keep_run u start (length v.nodes) v y set few h run)

pub drain_is_explained : DrainIsExplained
drain_is_explained u start v x set few h run = run_is_explained u start x (drain_keeps_run u start v x set few h run)
