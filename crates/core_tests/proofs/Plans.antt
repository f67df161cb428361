-- One request of one program is a plan that a client takes.
use Rattle.std.proofs.Common.{◌≡◌, ℕ, zero, suc, [], ◌∷◌, length, All, refl, nat_eq, arith}
use Rattle.std.specs.List.{IsDistinct}
use Rattle.code_image.specs.declared.image.Image.{Image}
use Rattle.pulse_base.specs.declared.plan.RequestPlan.{RequestPlan}
use Rattle.client_core.specs.Requests.{IsPlan, ArePlans, numbers}

each_one : (P : RequestPlan → Type 0) (p : RequestPlan) → P p → All P (p ∷ [])
each_one P p h zero d lt = h
each_one P p h (suc k) d lt = absurd (omega (arith, lt))

differ_one : (p : RequestPlan) → IsDistinct nat_eq (numbers (p ∷ []))
unfolding IsDistinct
differ_one p = (tt, tt)

pub one_plan : (client : ℕ) (image : Image) (p : RequestPlan) → p.client ≡ client → p.iter ≡ 0 → length p.args.items ≡ image.args → ArePlans client (image ∷ []) (p ∷ [])
one_plan client image p own iter args = record {
  each = each_one (IsPlan client (image ∷ [])) p (record { own = own; image = image; program = cc; args = args });
  differ = differ_one p;
}
