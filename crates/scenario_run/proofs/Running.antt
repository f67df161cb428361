-- The code of a live leg gives the outcome that its setting asks.
use Rattle.std.proofs.Common.{◌≡◌, ℕ, ◌+◌, ◌<◌, ◌≤◌, length, take, drop, sym, ap, ◌∙◌, arith}
use Rattle.std.specs.Prelude.{slice_get}
use Rattle.leg_ledger.specs.declared.leg.LegKey.{LegKey}
use Rattle.run_rules.specs.declared.node.LiveLeg.{LiveLeg}
use Rattle.run_rules.specs.Node.{NodeState, size_in, region_at, offset_of}
use Rattle.run_rules.specs.Turning.{record_of, record_by, is_writable}
use Rattle.node_core.specs.Code.{code_run, body_in}
use Rattle.node_core.specs.Code as node
use Rattle.code_verify.specs.Run.{run_body}
use Rattle.run_views.specs.Setting.{Setting, record_size, pad_size, pad_in}
use Rattle.run_views.proofs.Turned.{Site, site}
use Rattle.run_views.proofs.Keeps.{inside, record_length}
use Rattle.event_run.proofs.Lists.{get_low}
use Rattle.scenario_run.specs.Laws.{TurnRuns}

-- the record of a live leg has the bytes of its program's records
record_full : (u : Setting) (i : ℕ) (s : NodeState) (q : LegKey) (e : LiveLeg) (x : Site u i s q e) → offset_of s e.leg x.live.place + record_size u e.leg.request ≤ length (region_at s x.live.place).bytes → length (record_of s e.leg) ≡ record_size u e.leg.request
record_full u i s q e x fits =
    let place = x.live.place in
    let r = region_at s place in
    ap (λ o. length (record_by s e.leg o)) x.live.at
    ∙ ap (λ z. length (take z (drop (offset_of s e.leg place) r.bytes))) x.size
    ∙ record_length r.bytes (offset_of s e.leg place) (record_size u e.leg.request) fits

pub turn_runs : TurnRuns
turn_runs u i s q e images set h found code =
    let x = site u i s q e h found in
    let l = e.leg in
    let program = x.live.leg.program in
    let known : l.program < length images = (let low = set.programs l.request in omega (arith, low, program, code.all)) in
    let image = get_low images l.program known in
    let full = record_full u i s q e x (inside u i s q e x h.share) in
    let size : image.0.record_size ≡ record_size u l.request = code.records l.program image.0 image.1 ∙ ap (λ z. size_in (slice_get u.sizes z)) program in
    let pad : image.0.pad_size ≡ pad_size u l.request = code.pads l.program image.0 image.1 ∙ ap (λ z. pad_in (slice_get u.sizes z)) program in
    sym (ap (λ o. node.outcome_of (run_body (body_in o) (record_of s l) l.pad l.cur (is_writable s l))) image.1
    ∙ code.runs l.program image.0 (record_of s l) l.cur l.pad (is_writable s l) image.1 (full ∙ sym size) (x.live.leg.pad ∙ sym pad))
