-- Compiled images do the source's iterations, and begin its walks.
use Rattle.std.proofs.Common.{◌≡◌, ℕ, ◌^◌, ◌<◌, List, length, map, Some, refl, sym, ap, ◌∙◌, arith}
use Rattle.std.specs.Prelude.{All, slice_get, option_map}
use Rattle.std.specs.Option.{option_or}
use Rattle.std.proofs.lemmas.List.{length-map}
use Rattle.std.proofs.lemmas.Option.{slice_get-map, slice_get_within, same_Some}
use Rattle.pulse_base.specs.declared.plan.RequestPlan.{RequestPlan}
use Rattle.iter_syntax.specs.declared.tree.Iter.{Iter}
use Rattle.iter_syntax.specs.declared.tree.Program.{Program}
use Rattle.iter_check.specs.FaultList.{record_fields}
use Rattle.iter_check.specs.Iteration.{Iterated, iteration, Begun, begin}
use Rattle.iter_check.specs.Iteration as i
use Rattle.code_image.specs.declared.image.Image.{Image}
use Rattle.run_rules.specs.Node.{size_in}
use Rattle.run_views.specs.Setting.{pad_in}
use Rattle.pulse_codegen.specs.Means.{Means, end_of, start_of}
use Rattle.pulse_codegen.specs.Compiled.{CompilesAll}
use Rattle.node_core.specs.Code as node
use Rattle.client_core.specs.Begins.{begun, begin_of}
use Rattle.client_core.specs.Begins as client
use Rattle.event_run.proofs.Lists.{get_low}
use Rattle.scenario_text.specs.OfProgram.{arg_count}
use Rattle.scenario_run.specs.Setting.{outcome_of, begun_of, iterate_by, begin_by, begin_in, sizes_of}
use Rattle.scenario_run.specs.Laws.{CodeIs, BeginIs}
use Rattle.scenario_run.proofs.Lists.{all_at}

-- how a run ends that does an iteration, or begins a walk
same_end : (x : Iterated) → node.outcome_of (end_of x) ≡ outcome_of x
same_end (i.Done bytes pad) = refl
same_end (i.Goes to bytes pad) = refl
same_end (i.Fault cause) = refl

same_start : (args : List ℕ) (x : Begun) → begun (start_of args x) ≡ begun_of x
same_start args (i.Ready cur pad) = refl
same_start args (i.Ended pad) = refl
same_start args i.DivZero = refl

-- the iterator of an image's number, which the image means
pub record IsMeant (p : Program) (number : ℕ) (image : Image) : Type 0 where
  pub iter : Iter
  pub stands : slice_get p.iters number ≡ Some iter
  pub means : Means (record_fields p.records iter) iter image

meant : (p : Program) (images : List Image) (number : ℕ) (image : Image) → CompilesAll p images → slice_get images number ≡ Some image → IsMeant p number image
meant p images number image all at =
    let low = slice_get_within images number image at in
    let long = all.all in
    let x = get_low p.iters number (omega (arith, low, long)) in
    record { iter = x.0; stands = x.1; means = (all.each number image at x.0 x.1).means }

sizes : (p : Program) (number : ℕ) (it : Iter) → slice_get p.iters number ≡ Some it → slice_get (map (sizes_of p) p.iters) number ≡ Some (sizes_of p it)
sizes p number it e = slice_get-map (sizes_of p) p.iters number ∙ ap (option_map (sizes_of p)) e

pub code_is : CodeIs
code_is s h images all = record {
  all = all.all ∙ sym (length-map (s.checked).iters (sizes_of s.checked));
  records = λ number image at. (let x = meant s.checked images number image all at in x.means.record_size ∙ sym (ap size_in (sizes s.checked number x.iter x.stands)));
  pads = λ number image at. (let x = meant s.checked images number image all at in x.means.pad_size ∙ sym (ap pad_in (sizes s.checked number x.iter x.stands)));
  runs = λ number image bytes cur pad writable at long full. (let x = meant s.checked images number image all at in
      ap node.outcome_of (x.means.body bytes pad cur writable long full)
      ∙ same_end (iteration (record_fields (s.checked).records x.iter) x.iter bytes cur pad writable)
      ∙ sym (λ j. iterate_by s.checked (x.stands j) bytes cur pad writable));
}

begins : (p : Program) (images : List Image) (q : RequestPlan) (it : Iter) → CompilesAll p images → slice_get p.iters q.iter ≡ Some it → length q.args.items ≡ length it.args → All (λ v. v < 2 ^ 64) q.args.items
    → begin_of images q ≡ begin_by (slice_get p.iters q.iter) q.args.items
begins p images q it all at many low =
    let within = slice_get_within p.iters q.iter it at in
    let long = all.all in
    let x = get_low images q.iter (omega (arith, within, long)) in
    let means = (all.each q.iter x.0 x.1 it at).means in
    (λ j. client.begin_by (x.1 j) q.args.items)
    ∙ ap begun (means.init q.args.items (many ∙ sym means.args) low)
    ∙ same_start q.args.items (begin it q.args.items)
    ∙ sym (λ j. begin_by (at j) q.args.items)

pub begin_is : BeginIs
begin_is s h images r q all at low =
    let x = get_low (s.checked).iters q.iter (all_at (λ (q : RequestPlan). q.iter < length (s.checked).iters) (s.plan).requests r q h.requests.iters at) in
    let counted = all_at (λ (q : RequestPlan). arg_count s.checked q.iter ≡ Some (length q.args.items)) (s.plan).requests r q h.requests.args at in
    let many : length q.args.items ≡ length (x.0).args = same_Some _ _ (sym counted ∙ ap (option_map (λ (it : Iter). length it.args)) x.1) in
    let is = begins s.checked images q x.0 all x.1 many low in
    (is, is ∙ sym (λ j. begin_in s.checked (option_or (at j) (slice_get (s.plan).requests 0))))
