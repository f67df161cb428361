use Rattle.std.proofs.Common.{◌≡◌, ℕ, List, Err, sym, subst, ◌∙◌}
use Rattle.iter_syntax.specs.Parsed.{IsProgramOf}
use Rattle.toml.specs.View.{table_view}
use Rattle.scenario_text.specs.declared.plan.Plan.{Plan}
use Rattle.scenario_text.specs.Accepted.{IsRunnable}
use Rattle.scenario_text.specs.declared.plan.PlanRegion.{PlanRegion}
use Rattle.scenario_text.specs.Plan.{plan_of}
use Rattle.scenario_text.specs.Regions.{plan_regions}
use Rattle.scenario_text.specs.Steps.{ProgramAnswer}
use Rattle.scenario_text.specs.Values.{program_of, regions_of}
use Rattle.scenario_text.proofs.Composed.{form_answer, program_answer, rest_answer}
use Rattle.scenario_text.proofs.Runnable.{FormFacts, form_facts, rest_iters, runnable}
use Rattle.scenario_text.proofs.scenario.read_table.Goals as goal

pub returns-in-Err-clause-answer : goal.returns-in-Err-clause-answer
returns-in-Err-clause-answer c = form_answer {A = List PlanRegion} (table_view c.args.table.now) (plan_regions (regions_of (table_view c.args.table.now))) c.in-Err.fault c.in-Err.ensures

pub read_program-requires : goal.read_program-requires
read_program-requires c =
    let facts : FormFacts (table_view c.args.table.now) = form_facts (table_view c.args.table.now) c.in-Ok.ensures.0 in
    rw (c.as_bytes.ensures.value, c.text_at.ensures) facts.lists.program

pub returns-in-Err-read_program-clause-answer : goal.returns-in-Err-read_program-clause-answer
returns-in-Err-read_program-clause-answer c =
    let ms = table_view c.args.table.now in
    let same : c.as_bytes.result.now ≡ program_of ms = c.as_bytes.ensures.value ∙ c.text_at.ensures in
    let f = c.in-Err-read_program.fault in
    program_answer ms f c.in-Ok.ensures.0 (subst (λ (text : List ℕ). ProgramAnswer text (Err f)) same c.in-Err-read_program.ensures)

pub returns-in-Ok-read_plan-clause-runnable : goal.returns-in-Ok-read_plan-clause-runnable
returns-in-Ok-read_plan-clause-runnable c =
    let ms = table_view c.args.table.now in
    let p = c.in-Ok-read_program.checked in
    let P : Plan → _ = λ (plan : Plan). IsRunnable (record { checked = p; plan = plan }) in
    subst P (sym c.in-Ok-read_plan.ensures.plan.1)
    (runnable p ms c.in-Ok.ensures.0 (rest_iters p ms c.in-Ok-read_plan.ensures.plan.0) c.in-Ok-read_program.ensures.1 c.in-Ok-read_plan.ensures.table)

pub returns-in-Err-read_plan-clause-answer : goal.returns-in-Err-read_plan-clause-answer
returns-in-Err-read_plan-clause-answer c =
    let ms = table_view c.args.table.now in
    let p = c.in-Ok-read_program.checked in
    let same : c.as_bytes.result.now ≡ program_of ms = c.as_bytes.ensures.value ∙ c.text_at.ensures in
    rest_answer {A = Plan} ms p (plan_of p ms) c.in-Err-read_plan.fault c.in-Ok.ensures.0
    (subst (λ (text : List ℕ). IsProgramOf text p) same c.in-Ok-read_program.ensures.0) c.in-Err-read_plan.ensures.plan
