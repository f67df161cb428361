use Rattle.std.proofs.Common.{length, refl}
use Rattle.std.proofs.lemmas.Option.{slice_get_read}
use Rattle.replay.proofs.telling.regions_of.Goals as goal

pub region_of-requires-clause-held : goal.region_of-requires-clause-held
region_of-requires-clause-held g c = c.requires.held c.regions.k c.index-regions-k.result (slice_get_read c.args.regions.now (length c.args.regions.now) c.regions.k c.index-regions-k.result refl c.regions-test.true c.index-regions-k.is)
