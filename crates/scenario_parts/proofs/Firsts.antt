-- The clients and nodes of a scenario, one by one.
use Rattle.std.proofs.Common.{◌≡◌, ℕ, suc, ◌+◌, ◌-◌, ◌<◌, List, [], ◌∷◌, ◌++◌, map, Some, append_assoc, sym, ap, ◌∙◌, arith}
use Rattle.std.specs.Prelude.{slice_get}
use Rattle.iter_check.specs.Layout.{size_of}
use Rattle.iter_check.specs.FaultList.{record_fields}
use Rattle.iter_syntax.specs.declared.tree.Iter.{Iter}
use Rattle.code_image.specs.declared.image.Image.{Image}
use Rattle.node_core.specs.Part.{PartState, new_part}
use Rattle.node_core.specs.Part as p
use Rattle.client_core.specs.Requests.{ClientState}
use Rattle.pulse_codegen.specs.Compiled.{CompilesAll}
use Rattle.scenario_text.specs.declared.plan.Plan.{Plan}
use Rattle.scenario_text.specs.declared.scenario.Scenario.{Scenario}
use Rattle.scenario_run.specs.Setting.{sizes_of}
use Rattle.scenario_run.specs.Start.{first_node, first_nodes, regions_on}
use Rattle.scenario_parts.specs.Clients.{first_client, first_clients}
use Rattle.scenario_parts.specs.Parts.{with_images, first_parts}
use Rattle.scenario_parts.proofs.Lists.{same_map}

next_client : (plan : Plan) (images : List Image) (c count : ℕ) → c < count
    → first_clients plan images c (count - c) ≡ first_client plan images c ∷ first_clients plan images (c + 1) (count - (c + 1))
next_client plan images c count h = ap (first_clients plan images c) here ∙ ap (λ k. first_client plan images c ∷ first_clients plan images k (count - (c + 1))) there
  where
    here : count - c ≡ suc (count - (c + 1))
    here = omega (arith, h)

    there : suc c ≡ c + 1
    there = omega arith

pub one_client : (plan : Plan) (images : List Image) (c count : ℕ) (made more all : List ClientState) → c < count
    → made ++ first_clients plan images c (count - c) ≡ all → more ≡ made ++ first_client plan images c ∷ []
    → more ++ first_clients plan images (c + 1) (count - (c + 1)) ≡ all
one_client plan images c count made more all h e m =
    ap (λ k. k ++ first_clients plan images (c + 1) (count - (c + 1))) m ∙ append_assoc made (first_client plan images c ∷ []) _ ∙ ap (λ k. made ++ k) (sym (next_client plan images c count h)) ∙ e

-- the images have the sizes of the program's iterators
sizes_same : (s : Scenario) (images : List Image) → CompilesAll s.checked images → map p.sizes_of images ≡ map (sizes_of s.checked) (s.checked).iters
sizes_same s images h = same_map p.sizes_of (sizes_of s.checked) images (s.checked).iters h.all (λ i image it a b. same i image it a b)
  where
    same : (i : ℕ) (image : Image) (it : Iter) → slice_get images i ≡ Some image → slice_get (s.checked).iters i ≡ Some it → p.sizes_of image ≡ sizes_of s.checked it
    same i image it a b =
        let means = (h.each i image a it b).means in
        ap (λ k. record { record_size = k; pad_size = image.pad_size }) means.record_size ∙ ap (λ k. record { record_size = size_of (record_fields (s.checked).records it); pad_size = k }) means.pad_size

pub part_is : (s : Scenario) (images : List Image) → CompilesAll s.checked images → (n : ℕ) → new_part (regions_on n 0 (s.plan).regions) images (s.plan).slots ≡ with_images images (first_node s n)
part_is s images h n = ap (λ k. with_images images (record (first_node s n) { sizes = k })) (sizes_same s images h)

next_node : (s : Scenario) (n count : ℕ) → n < count → first_nodes s n (count - n) ≡ first_node s n ∷ first_nodes s (n + 1) (count - (n + 1))
next_node s n count h = ap (first_nodes s n) here ∙ ap (λ k. first_node s n ∷ first_nodes s k (count - (n + 1))) there
  where
    here : count - n ≡ suc (count - (n + 1))
    here = omega (arith, h)

    there : suc n ≡ n + 1
    there = omega arith

pub one_part : (s : Scenario) (images : List Image) (n count : ℕ) (made more all : List PartState) (part : PartState) → n < count
    → made ++ first_parts s images n (count - n) ≡ all → more ≡ made ++ part ∷ [] → part ≡ with_images images (first_node s n)
    → more ++ first_parts s images (n + 1) (count - (n + 1)) ≡ all
one_part s images n count made more all part h e m is =
    ap (λ k. k ++ first_parts s images (n + 1) (count - (n + 1))) (m ∙ ap (λ k. made ++ k ∷ []) is) ∙ append_assoc made (with_images images (first_node s n) ∷ []) _
    ∙ ap (λ k. made ++ map (with_images images) k) (sym (next_node s n count h)) ∙ e
