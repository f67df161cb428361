use Rattle.std.proofs.Common.{◌≡◌, [], ◌∷◌, ◌++◌, length, refl, sym, ap, ◌∙◌, subst, rules}
use Rattle.pulse_base.specs.declared.plan.RequestPlan.{RequestPlan}
use Rattle.client_core.specs.Requests.{ArePlans}
use Rattle.core_tests.proofs.Plans.{one_plan}
use Rattle.core_tests.proofs.clients.client_by.Goals as goal

pub make-requires-clause-plans : goal.make-requires-clause-plans
make-requires-clause-plans c =
    let plan : RequestPlan = record { number = 7; iter = 0; client = 2; args = c.push-2.new.self } in
    let images : c.push.new.self ≡ c.args.image ∷ [] = c.in_ok-push.ensures.ok ∙ ap (λ l. l ++ c.args.image ∷ []) c.new-images.ensures in
    let requests : c.push-3.new.self ≡ plan ∷ [] = c.in_ok-push-2.ensures.ok ∙ ap (λ l. l ++ plan ∷ []) c.new-requests.ensures in
    let one : length c.push-2.new.self.items ≡ 1 = search rules in
    subst (λ im. ArePlans 2 im c.push-3.new.self) (sym images) (subst (λ ps. ArePlans 2 (c.args.image ∷ []) ps) (sym requests) (one_plan 2 c.args.image plan refl refl (one ∙ sym c.requires.args)))
