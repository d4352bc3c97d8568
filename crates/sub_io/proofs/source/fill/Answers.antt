-- If the bytes of a source are known, a successful `fill` determines the remaining bytes.
use Rattle.sub_io.proofs.DeviceLemmas.{FillsFromKnown-from_result}
use Rattle.sub_io.proofs.source.fill.Goals as goal

pub returns-clause-told : goal.returns-clause-told
returns-clause-told g c =
    FillsFromKnown-from_result _ _ c.fill_until_end.new.to c.fill_until_end.result
    c.fill_until_end.ensures.fills
