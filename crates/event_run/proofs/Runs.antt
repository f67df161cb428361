-- Runs keep what is always true, and so their order, memory and answers are those of a flat run.
use Rattle.std.proofs.Common.{◌≡◌, ℕ, ◌<◌, inr, List, [], ◌∷◌, length, map, Option, Some, None, refl, ap, ◌∙◌}
use Rattle.std.specs.Prelude.{slice_get}
use Rattle.pulse_base.specs.declared.event.Event.{Event}
use Rattle.pulse_base.specs.declared.event.Event.TheVariants as event
use Rattle.run_rules.specs.declared.node.LiveLeg.{LiveLeg}
use Rattle.run_rules.specs.Node.{NodeState, key_of, find_live}
use Rattle.run_rules.proofs.Finds.{find_first}
use Rattle.run_laws.specs.Plan as p
use Rattle.run_laws.specs.Flat as f
use Rattle.run_laws.specs.World as w
use Rattle.run_laws.specs.Spines.Sound.{number_in}
use Rattle.run_laws.specs.Spines.Carries.{FrameShaped}
use Rattle.run_laws.proofs.Events.{each_event_keeps, each_get}
use Rattle.run_laws.proofs.First.{is_explained}
use Rattle.run_laws.proofs.Sentences.{says_all}
use Rattle.run_laws.proofs.Shapes.{each_event_keeps_shape}
use Rattle.run_laws.proofs.KeptSent.{each_event_keeps_sent}
use Rattle.run_laws.proofs.AnswersStay.{answers_stay}
use Rattle.run_views.specs.Setting.{Setting, plan_of, IsSetting}
use Rattle.run_views.specs.Keeps.{shape_of}
use Rattle.run_views.proofs.Shaped.{plan_keeps_shape}
use Rattle.event_run.specs.Letters.{Content, OfLeg, OfBack, Letter}
use Rattle.event_run.specs.World.{WorldState, delivers_at, turns, turns_first, turns_at, asks_at, ticks_at}
use Rattle.event_run.specs.World as world
use Rattle.event_run.specs.Always.{content_view, letter_view, world_view, event_view, LetterOf, IsWorldOf, HasNumbers, IsRun, IsEventOf}
use Rattle.event_run.specs.Laws.{RunIsExplained, EventKeepsRun, AnyTurnKeepsRun, AnswersStayInRun}
use Rattle.event_run.proofs.Lists.{get_map}
use Rattle.event_run.proofs.Happens.{ask_happens, tick_happens, delivery_happens, turn_made, turn_happens}
use Rattle.event_run.proofs.Keeps.{LeftOf, ask_of, tick_of, delivery_of, turn_of}

pub run_is_explained : RunIsExplained
run_is_explained u start v run = is_explained (plan_of u) start (world_view u v) run.sound

-- ---- what is known of a letter

abbrev LetterFacts : Setting → WorldState → Letter → Type 0
LetterFacts u v m = LetterOf u (length v.nodes) m.to m.content × (number_in (content_view m.content) < p.limit (plan_of u)) × FrameShaped (plan_of u) (shape_of u) (content_view m.content)

letter_facts : (u : Setting) (start : f.Flat) (v : WorldState) (k : ℕ) (o : Option Letter) → IsRun u start v → slice_get v.letters k ≡ o → (m : Letter) → o ≡ Some m → LetterFacts u v m
letter_facts u start v k o run e m same =
    let there : slice_get v.letters k ≡ Some m = e ∙ same in
    let seen : slice_get (map letter_view v.letters) k ≡ Some (letter_view m) = get_map v.letters k (Some m) there in (
      each_get (λ m. LetterOf u (length v.nodes) m.to m.content) v.letters k m there run.of.letters,
      (says_all (plan_of u) start (world_view u v) run.sound).numbers_low k (letter_view m) seen,
      each_get (λ m. FrameShaped (plan_of u) (shape_of u) m.frame) (map letter_view v.letters) k (letter_view m) seen run.shaped.letters,
    )

left_of : (u : Setting) (x : Content) → FrameShaped (plan_of u) (shape_of u) (content_view x) → LeftOf x
left_of u (OfLeg l) h = h.1
left_of u (OfBack b) h = tt

-- ---- an event

made : (u : Setting) (start : f.Flat) (v x : WorldState) (e : w.Event) → IsSetting u → IsRun u start v → IsWorldOf u x → w.Happens (plan_of u) u.tries (world_view u v) (world_view u x) e → IsRun u start x
made u start v x e set run of h = record {
  of = of;
  sound = each_event_keeps (plan_of u) u.tries start (world_view u v) (world_view u x) e run.sound h;
  shaped = each_event_keeps_shape (plan_of u) (shape_of u) u.tries (world_view u v) (world_view u x) e (plan_keeps_shape u set) run.shaped h;
  sent = each_event_keeps_sent (plan_of u) u.tries (world_view u v) (world_view u x) e run.sent h;
}

happens : (u : Setting) (start : f.Flat) (v : WorldState) (e : Event) → IsSetting u → HasNumbers u → IsEventOf v e → IsRun u start v → w.Happens (plan_of u) u.tries (world_view u v) (world_view u (world.event u v e).0) (event_view e)
happens u start v (event.Ask r) set few h run = ask_happens u v r (slice_get v.asking r) run.of h refl
happens u start v (event.Tick r) set few h run = tick_happens u v r (slice_get v.asking r) run.of h refl
happens u start v (event.Deliver k) set few h run = delivery_happens u v k (slice_get v.letters k) set few run.of refl (letter_facts u start v k (slice_get v.letters k) run refl)
happens u start v (event.Turn i) set few h run = turn_happens u v i (slice_get v.nodes i) set run.of refl

first_of : (u : Setting) (v : WorldState) (i : ℕ) (s : NodeState) (live : List LiveLeg) → IsSetting u → IsWorldOf u v → slice_get v.nodes i ≡ Some s → s.live ≡ live → IsWorldOf u (turns_first u v i s live).0
first_of u v i s [] set h at e = h
first_of u v i s (x ∷ es) set h at e = turn_of u v i s x set h at (ap (λ z. find_live z (key_of x.leg)) e ∙ find_first x es)

turn_at_of : (u : Setting) (v : WorldState) (i : ℕ) (o : Option NodeState) → IsSetting u → IsWorldOf u v → slice_get v.nodes i ≡ o → IsWorldOf u (turns_at u v i o).0
turn_at_of u v i None set h e = h
turn_at_of u v i (Some s) set h e = first_of u v i s s.live set h e refl

event_of : (u : Setting) (start : f.Flat) (v : WorldState) (e : Event) → IsSetting u → IsRun u start v → IsWorldOf u (world.event u v e).0
event_of u start v (event.Ask r) set run = ask_of u v r (slice_get v.asking r) set run.of refl
event_of u start v (event.Tick r) set run = tick_of u v r (slice_get v.asking r) set run.of refl
event_of u start v (event.Deliver k) set run = delivery_of u v (slice_get v.letters k) set run.of
    (λ m e. let x = letter_facts u start v k (slice_get v.letters k) run refl m e in (x.0, left_of u m.content x.2))
event_of u start v (event.Turn i) set run = turn_at_of u v i (slice_get v.nodes i) set run.of refl

pub event_keeps_run : EventKeepsRun
event_keeps_run u start v e set few h run = made u start v (world.event u v e).0 (event_view e) set run (event_of u start v e set run) (happens u start v e set few h run)

pub any_turn_keeps_run : AnyTurnKeepsRun
any_turn_keeps_run u start v i s e set few at found run =
    made u start v (turns u v i s e).0 (w.TurnOf i) set run (turn_of u v i s e set run.of at found) (inr (turn_made u v i s e set run.of at found))

pub answers_stay_in_run : AnswersStayInRun
answers_stay_in_run u start v e r a set few h run given = answers_stay (plan_of u) u.tries (world_view u v) (world_view u (world.event u v e).0) (event_view e) r a (happens u start v e set few h run) given
