-- The first scene belongs to the scenario's setting.
use Rattle.std.proofs.Common.{◌≡◌, ℕ, ◌<◌, ◌^◌, List, [], ◌∷◌, map, Some, refl, sym, ap, ◌∙◌, subst, arith}
use Rattle.std.specs.Prelude.{slice_get, All}
use Rattle.std.specs.Option.{option_or}
use Rattle.pulse_base.specs.declared.plan.RequestPlan.{RequestPlan}
use Rattle.iter_syntax.specs.declared.tree.Iter.{Iter}
use Rattle.iter_syntax.specs.declared.tree.Program.{Program}
use Rattle.iter_check.specs.Layout.{size_of}
use Rattle.iter_check.specs.FaultList.{record_fields}
use Rattle.code_image.specs.declared.image.Image.{Image}
use Rattle.run_rules.specs.declared.node.ProgramSizes.{ProgramSizes}
use Rattle.run_views.specs.Switches.{switch_of}
use Rattle.client_core.specs.declared.request.Request.{Request}
use Rattle.client_core.specs.Requests.{ClientState, find}
use Rattle.pulse_codegen.specs.Compiled.{CompilesAll}
use Rattle.scenario_text.specs.declared.scenario.Scenario.{Scenario}
use Rattle.scenario_text.specs.Accepted.{IsRunnable}
use Rattle.scenario_run.specs.Setting.{setting_of, sizes_of, request_of, client_in, iter_in}
use Rattle.scenario_run.proofs.Codes.{code_is, begin_is}
use Rattle.scenario_run.proofs.Lists.{all_at}
use Rattle.world_core.specs.Scene.{Member, requests_in}
use Rattle.world_core.specs.Runs.{IsSceneOf, IsRequestOf}
use Rattle.scenario_parts.specs.Clients.{first_client}
use Rattle.scenario_parts.specs.Switch.{first_switch}
use Rattle.replay.specs.inner.First.{first_scene}
use Rattle.replay.proofs.Scenes.{client_at, client_is, own_found, IsOwn, home_of, numbered_all}

sizes_twice : (p : Program) (iters : List Iter) → map (λ it. size_of (record_fields p.records it)) iters ≡ map (λ (z : ProgramSizes). z.record_size) (map (sizes_of p) iters)
sizes_twice p [] = refl
sizes_twice p (it ∷ iters) = ap (λ k. size_of (record_fields p.records it) ∷ k) (sizes_twice p iters)

switch_same : (s : Scenario) (h : IsRunnable s) → first_switch s ≡ switch_of (setting_of s h)
switch_same s h = ap (λ k. record (first_switch s) { sizes = k }) (sizes_twice s.checked (s.checked).iters)

request_is : (requests : List RequestPlan) (r : ℕ) (q : RequestPlan) → slice_get requests r ≡ Some q → request_of requests r ≡ Some q
request_is requests r q e = ap (λ o. option_or o (slice_get requests 0)) e

-- what is asked of each request's arguments
abbrev pub ArgumentsFit : List RequestPlan → Type 0
ArgumentsFit requests = All (λ (q : RequestPlan). All (λ v. v < 2 ^ 64) q.args.items) requests

one_request : (s : Scenario) (h : IsRunnable s) (images : List Image) (members : List Member) → CompilesAll s.checked images → ArgumentsFit (s.plan).requests
    → (r c : ℕ) (q : Request) → IsOwn c 0 (s.plan).requests r q → IsRequestOf (setting_of s h) (first_scene s images members) r q
one_request s h images members compiled fit r c q own =
    let place : r ≡ own.place = own.number ∙ omega arith in
    let stands : slice_get (s.plan).requests r ≡ Some own.plan = ap (slice_get (s.plan).requests) place ∙ own.stands in
    let small = all_at (λ (q : RequestPlan). All (λ v. v < 2 ^ 64) q.args.items) (s.plan).requests r own.plan fit stands in
    subst (IsRequestOf (setting_of s h) (first_scene s images members) r) (sym own.is)
    (record { program = sym (ap iter_in (request_is (s.plan).requests r own.plan stands)); begins = (begin_is s h images r own.plan compiled stands small).1 })

pub belongs : (s : Scenario) (h : IsRunnable s) (images : List Image) (members : List Member) → CompilesAll s.checked images → ArgumentsFit (s.plan).requests → IsSceneOf (setting_of s h) (first_scene s images members)
belongs s h images members compiled fit = record {
  switch = switch_same s h;
  code = code_is s h images compiled;
  homes = λ r c e. (let q = home_of (s.plan).requests r c e in sym q.2 ∙ sym (ap client_in (request_is (s.plan).requests r q.0 q.1)));
  terms = λ c k e. (let is = client_is s.plan images 0 (s.plan).clients c k e in
      let same = is.1 ∙ ap (first_client s.plan images) (omega arith) in
      ap (λ (z : ClientState). z.terms) same);
  requests = λ r c q e f. (let home = home_of (s.plan).requests r c e in
      let low = all_at (λ (q : RequestPlan). q.client < (s.plan).clients) (s.plan).requests r home.0 h.requests.asked home.1 in
      let here = home.2 in
      let at = client_at s.plan images 0 (s.plan).clients c (omega (arith, low, here)) ∙ ap (λ n. Some (first_client s.plan images n)) (omega arith) in
      one_request s h images members compiled fit r c q (own_found c 0 (s.plan).requests r q (numbered_all s h) (sym (ap (λ o. find (requests_in o) r) at) ∙ f)));
}
