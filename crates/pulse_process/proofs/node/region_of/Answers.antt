use Rattle.std.proofs.Common.{◌≡◌, length, sym, ap, ◌∙◌}
use Rattle.pulse_process.proofs.Holding.{bytes_are, copied, may_be_read, told}
use Rattle.pulse_process.proofs.node.region_of.Goals as goal

pub read_region-requires : goal.read_region-requires
read_region-requires g c =
    may_be_read (g.N.NodePart.state c.args.part.now) c.args.number c.args.region.now c.requires.held _ (ap length (c.deref_mut.ensures.value ∙ c.into_vec-bytes.ensures ∙ c.in_ok-from_slice.ensures ∙ c.as_slice.ensures))

pub returns : goal.returns
returns g c =
    let out = c.read_region.new.out in
    let items = c.into_vec-bytes.result.items in
    let same : length out ≡ length items = c.read_region.auto.out ∙ ap length c.deref_mut.ensures.value in
    let whole : c.into_vec-bytes.result.len ≡ length items = sym c.deref_mut.ensures.len ∙ ap length c.deref_mut.ensures.value in
    let long : length out ≡ length c.args.region.now.bytes = same ∙ ap length (c.into_vec-bytes.ensures ∙ c.in_ok-from_slice.ensures ∙ c.as_slice.ensures) in
    ap (told c.args.region.now.shown) (c.from_vec.ensures ∙ copied c.into_vec-bytes.result.len out items same whole
    ∙ bytes_are (g.N.NodePart.state c.args.part.now) c.args.number c.args.region.now c.requires.held out long c.read_region.ensures.bytes)
