-- The rule of the switch is that of the laws of runs.
use Rattle.std.proofs.Common.{◌≡◌, ℕ, zero, suc, ◌^◌, ◌<◌, ◌&&◌, true, List, [], ◌∷◌, length, map, Option, Some, None, refl, ap, ◌∙◌, arith, nat_lt, if◌then◌else◌}
use Rattle.std.specs.Prelude.{slice_get, slice_index_or}
use Rattle.range_table.specs.Memory.{region_of}
use Rattle.frame_codec.specs.declared.frame.Leg.{Leg}
use Rattle.frame_codec.specs.declared.frame.Back.{Back}
use Rattle.frame_codec.specs.declared.frame.Ending.{Ending}
use Rattle.frame_codec.specs.declared.frame.Ending.TheVariants as ending
use Rattle.run_rules.specs.declared.node.ProgramSizes.{ProgramSizes}
use Rattle.run_rules.specs.declared.switch.Out.TheVariants.{Nothing}
use Rattle.run_rules.specs.Node.{size_in}
use Rattle.run_rules.specs.Switch.{sent_to, route, next_leg, pass_back, is_known}
use Rattle.run_laws.specs.Plan as p
use Rattle.run_laws.specs.World as w
use Rattle.run_views.specs.Frames.{ending_view, leg_view, back_view}
use Rattle.run_views.specs.Setting.{Setting, plan_of, record_size, IsSetting, IsBackOf}
use Rattle.run_views.specs.Switches.{switch_of, sent_out}
use Rattle.run_views.specs.Laws.{SwitchSeen}
use Rattle.run_views.proofs.Clients.{plus_one, not_last}

size_at : (sizes : List ProgramSizes) (k : ℕ) → slice_index_or (map (λ s. s.record_size) sizes) k 0 ≡ size_in (slice_get sizes k)
size_at [] k = refl
size_at (s ∷ sizes) zero = refl
size_at (s ∷ sizes) (suc k) = size_at sizes k

length_same : (sizes : List ProgramSizes) → length (map (λ s. s.record_size) sizes) ≡ length sizes
length_same [] = refl
length_same (s ∷ sizes) = ap suc (length_same sizes)

sent_case : (u : Setting) (l : Leg) (o : Option ℕ) → sent_out (sent_to (switch_of u) l o) ≡ w.routed (plan_of u) (leg_view l) o
sent_case u l None = refl
sent_case u l (Some i) = refl

route_seen : (u : Setting) (l : Leg) → l.program ≡ u.program l.request → sent_out (route (switch_of u) l) ≡ w.route (plan_of u) (leg_view l)
route_seen u l e =
    ap (λ z. sent_out (sent_to (switch_of u) l (region_of u.table l.cur z))) (size_at u.sizes l.program ∙ ap (λ z. size_in (slice_get u.sizes z)) e)
    ∙ sent_case u l (region_of u.table l.cur (record_size u l.request))

known : (u : Setting) (r client program : ℕ) → IsSetting u → client ≡ u.client r → program ≡ u.program r → is_known (switch_of u) client program ≡ true
known u r client program s c q =
    let a : nat_lt client u.clients ≡ true = (let d = s.clients r in grind (arith, c, d)) in
    let b : nat_lt program (length (map (λ s. s.record_size) u.sizes)) ≡ true = (let d = s.programs r in let e = length_same u.sizes in grind (arith, q, d, e)) in
    λ i. a i && b i

back_case : (u : Setting) (b : Back) (e : Ending) → IsBackOf u b → suc b.leg < 2 ^ 32 → sent_out (pass_back (switch_of u) b e) ≡ w.switched_back (plan_of u) (back_view b) (ending_view e)
back_case u b ending.Done of h = refl
back_case u b ending.Resume of h = refl
back_case u b (ending.Fault kind) of h = refl
back_case u b ending.Reroute of h =
    ap (λ z. sent_out (if z then Nothing else route (switch_of u) (next_leg b))) (not_last b.leg h)
    ∙ route_seen u (next_leg b) of.program
    ∙ ap (λ k. w.route (plan_of u) (p.leg_of b.request k (record { cur = b.cur; pad = b.pad; left = b.left }))) (plus_one b.leg)

pub switch_seen : SwitchSeen
switch_seen u s = (
  (λ l of. ap (λ z. sent_out (if z then route (switch_of u) l else Nothing)) (known u l.request l.client l.program s of.client of.program) ∙ route_seen u l of.program),
  (λ b of h. ap (λ z. sent_out (if z then pass_back (switch_of u) b b.ending else Nothing)) (known u b.request b.client b.program s of.client of.program) ∙ back_case u b b.ending of h),
)
