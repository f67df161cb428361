use Rattle.std.proofs.Common.{◌≡◌, length, sym, ap, ◌∙◌}
use Rattle.std.specs.Prelude.{slice_get}
use Rattle.replay.proofs.Holding.{bytes_are, copied, told}
use Rattle.replay.proofs.telling.region_of.Goals as goal

pub returns : goal.returns
returns g c =
    let held = c.requires.held in
    let out = c.region.new.out in
    let items = c.into_vec-bytes.result.items in
    let same : length out ≡ length items = c.region.auto.out ∙ ap length c.deref_mut.ensures.value in
    let whole : c.into_vec-bytes.result.len ≡ length items = sym c.deref_mut.ensures.len ∙ ap length c.deref_mut.ensures.value in
    let long : length out ≡ length c.args.region.now.bytes = same ∙ ap length (c.into_vec-bytes.ensures ∙ c.in_ok-from_slice.ensures ∙ c.as_slice.ensures) in
    ap (told c.args.region.now.shown) (c.from_vec.ensures ∙ copied c.into_vec-bytes.result.len out items same whole
    ∙ bytes_are c.args.world.now.nodes c.args.number c.args.region.now held out long (c.region.ensures held.member (ap (slice_get c.args.world.now.nodes) c.requires.owned ∙ held.stands)))
