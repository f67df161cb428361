-- What the switch makes of a frame goes to a node or a client that is there, and meets the rules of its fields.
use Rattle.std.proofs.Common.{◌++◌, map, ◌≡◌, ℕ, zero, suc, ◌-◌, ◌^◌, ◌<◌, ◌≤◌, Bool, true, false, nat_eq, nat_lt, List, [], ◌∷◌, length, Option, Some, None, refl, sym, ap, ◌∙◌, subst, arith, if◌then◌else◌}
use Rattle.std.specs.Prelude.{slice_index_or}
use Rattle.std.proofs.lemmas.Bool.{and_parts}
use Rattle.std.proofs.lemmas.List.Quantifiers.{position-Some}
use Rattle.range_table.specs.Memory.{region_of}
use Rattle.frame_codec.specs.declared.frame.Leg.{Leg}
use Rattle.frame_codec.specs.declared.frame.Back.{Back}
use Rattle.frame_codec.specs.declared.frame.Ending.{Ending}
use Rattle.frame_codec.specs.declared.frame.Ending.TheVariants as ending
use Rattle.frame_codec.specs.declared.frame.Frame.TheVariants as frame
use Rattle.frame_codec.specs.Spelling.{MeetsRules, EndsBy}
use Rattle.run_rules.specs.declared.switch.Out.{Out}
use Rattle.run_rules.specs.declared.switch.Out.TheVariants as out
use Rattle.run_rules.specs.Switch.{SwitchState, on, is_known, route, sent_to, next_leg, pass_back}
use Rattle.run_rules.specs.Waiting.{Each}
use Rattle.run_rules.proofs.Finds.{by_bool}
use Rattle.world_core.specs.declared.letter.Content.{Content}
use Rattle.world_core.specs.declared.letter.Content.TheVariants as content
use Rattle.world_core.specs.Letters.{frame_of}
use Rattle.pulse_base.specs.declared.event.Trace.{Trace}
use Rattle.event_run.specs.Letters.{sent_out}
use Rattle.event_run.specs.World.{told_out, switches}
use Rattle.world_core.specs.declared.letter.Letter.{Letter}
use Rattle.world_core.specs.Scene.{Scene, Stays, world_of}
use Rattle.world_core.specs.inner.Fits.{IsScene, SwitchFits, LetterFits, OutFits, OutMeets}
use Rattle.world_core.specs.inner.Sends.{own, IsTold}
use Rattle.world_core.proofs.Scenes.{letters_so, next_in, with_letters}

-- there is a node where each owner is one
each_or : (xs : List ℕ) (n i : ℕ) → Each (λ o. o < n) xs → i < length xs → slice_index_or xs i 0 < n
each_or [] n i f h = absurd (omega (arith, h))
each_or (x ∷ xs) n zero f h = f.0
each_or (x ∷ xs) n (suc i) f h = each_or xs n i f.1 (omega (arith, h))

-- a leg is sent on to the owner of a region
sent_fits : (s : SwitchState) (nodes clients : ℕ) (l : Leg) (o : Option ℕ) → SwitchFits s nodes clients → l.client < clients → region_of s.table l.cur (slice_index_or s.sizes l.program 0) ≡ o → OutFits nodes clients (sent_to s l o)
sent_fits s nodes clients l None f c e = c
sent_fits s nodes clients l (Some i) f c e =
    let at = (position-Some _ s.table i (record { base = 0; len = 0; read = false; write = false }) e).0 in
    each_or s.owners nodes i f.owners (omega (arith, at, f.owned))

sent_meets : (s : SwitchState) (l : Leg) (o : Option ℕ) → 1 ≤ l.left → OutMeets (sent_to s l o)
sent_meets s l None h = h
sent_meets s l (Some i) h = h

route_fits : (s : SwitchState) (nodes clients : ℕ) (l : Leg) → SwitchFits s nodes clients → l.client < clients → 1 ≤ l.left → OutMeets (route s l) × OutFits nodes clients (route s l)
route_fits s nodes clients l f c h = let o = region_of s.table l.cur (slice_index_or s.sizes l.program 0) in (sent_meets s l o h, sent_fits s nodes clients l o f c refl)

abbrev Both : (nodes clients : ℕ) → Out → Type 0
Both nodes clients o = OutMeets o × OutFits nodes clients o

pass_fits : (s : SwitchState) (nodes clients : ℕ) (b : Back) (e : Ending) → SwitchFits s nodes clients → b.client < clients → e ≡ b.ending → MeetsRules (frame.Back b) → Both nodes clients (pass_back s b e)
pass_fits s nodes clients b ending.Reroute f c e h = by (nat_eq b.leg (2 ^ 32 - 1))
  where
    left : 1 ≤ b.left
    left = subst (λ z. EndsBy z b) (sym e) h

    by : (x : Bool) → Both nodes clients (if x then out.Nothing else route s (next_leg b))
    by true = (tt, tt)
    by false = route_fits s nodes clients (next_leg b) f c left
pass_fits s nodes clients b ending.Done f c e h = (h, c)
pass_fits s nodes clients b ending.Resume f c e h = (h, c)
pass_fits s nodes clients b (ending.Fault kind) f c e h = (h, c)

-- a client that is known is there
known_client : (s : SwitchState) (nodes clients client program : ℕ) → SwitchFits s nodes clients → is_known s client program ≡ true → client < clients
known_client s nodes clients client program f k =
    let c = (and_parts (nat_lt client s.clients) (nat_lt program (length s.sizes)) k).0 in grind (arith, c, f.known)

pub out_fits : (s : SwitchState) (nodes clients : ℕ) (x : Content) → SwitchFits s nodes clients → MeetsRules (frame_of x) → OutMeets (on s (frame_of x)) × OutFits nodes clients (on s (frame_of x))
out_fits s nodes clients (content.Leg l) f h = by_bool (is_known s l.client l.program)
    (λ k. subst (λ b. Both nodes clients (if b then route s l else out.Nothing)) (sym k) (route_fits s nodes clients l f (known_client s nodes clients l.client l.program f k) h))
    (λ k. subst (λ b. Both nodes clients (if b then route s l else out.Nothing)) (sym k) (tt, tt))
out_fits s nodes clients (content.Back b) f h = by_bool (is_known s b.client b.program)
    (λ k. subst (λ z. Both nodes clients (if z then pass_back s b b.ending else out.Nothing)) (sym k) (pass_fits s nodes clients b b.ending f (known_client s nodes clients b.client b.program f k) refl h))
    (λ k. subst (λ z. Both nodes clients (if z then pass_back s b b.ending else out.Nothing)) (sym k) (tt, tt))

-- ---- what it gives, as the event of a run

out_sent : (nodes clients : ℕ) (o : Out) → OutFits nodes clients o → Each (LetterFits nodes clients) (map own (sent_out o))
out_sent nodes clients (out.ToNode n l) h = (h, tt)
out_sent nodes clients (out.ToClient c b) h = (h, tt)
out_sent nodes clients out.Nothing h = tt

out_few : (o : Out) → length (map own (sent_out o)) ≤ 1
out_few (out.ToNode n l) = omega arith
out_few (out.ToClient c b) = omega arith
out_few out.Nothing = omega arith

pub passed_fits : (s : Scene) (base letters : List Letter) (o : Out) → IsScene s → base ≡ s.letters → letters ≡ base ++ map own (sent_out o) → OutFits (length s.nodes) (length s.clients) o → IsScene (record s { letters = letters })
passed_fits s base letters o h b eq f = with_letters s letters (map own (sent_out o)) h (eq ∙ ap (λ z. z ++ map own (sent_out o)) b) (out_sent (length s.nodes) (length s.clients) o f)

pub passed_so : (s : Scene) (base letters : List Letter) (o p : Out) (t : Trace) → base ≡ s.letters → letters ≡ base ++ map own (sent_out o) → IsTold base (λ w. told_out w o) t → o ≡ p
    → (world_of (record s { letters = letters }), t) ≡ switches (world_of s) p
passed_so s base letters o p t b eq says is =
    (λ i. (record (world_of s) { letters = letters_so s.letters letters (sent_out o) (eq ∙ ap (λ z. z ++ map own (sent_out o)) b) i }, subst (λ z. IsTold z (λ w. told_out w o) t) b says (world_of s) (next_in s) i))
    ∙ ap (switches (world_of s)) is

pub passed_stays : (s : Scene) (base letters : List Letter) (o : Out) → base ≡ s.letters → letters ≡ base ++ map own (sent_out o) → Stays s (record s { letters = letters })
passed_stays s base letters o b eq = record {
  switch = refl;
  images = refl;
  homes = refl;
  clients = refl;
  plain = refl;
  sent = map own (sent_out o);
  few = out_few o;
  letters = eq ∙ ap (λ z. z ++ map own (sent_out o)) b;
}
