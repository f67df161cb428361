use Rattle.std.proofs.Common.{◌++◌, length, drop, replicate, ap, ◌∙◌}
use Rattle.std.proofs.lemmas.List.{drop-replicate}
use Rattle.pulse_base.proofs.pad_bytes.zero_filled.Goals as goal

pub returns : goal.returns
returns c =
    ap (λ l. l ++ drop (length c.args.bytes.now) (replicate 256 0)) c.copy_from_slice.ensures.after
    ∙ ap (λ l. c.args.bytes.now ++ l) (drop-replicate (length c.args.bytes.now) 256 0)
