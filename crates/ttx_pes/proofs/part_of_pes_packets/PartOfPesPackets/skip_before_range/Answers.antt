-- When no PES packet is still to be skipped, the index of the range's first packet is the number of
-- skipped packets.
use Rattle.std.proofs.Common.{◌∙◌, sym}
use Rattle.ttx_pes.proofs.PartLemmas.{no_packets_left_to_skip}
use Rattle.ttx_pes.proofs.part_of_pes_packets.PartOfPesPackets.skip_before_range.Goals as goal

pub returns-then-to_skip-eq0-clause-first : goal.returns-then-to_skip-eq0-clause-first
returns-then-to_skip-eq0-clause-first g c = λ n is.
    c.skipped.ensures
    ∙ no_packets_left_to_skip c.args.self.now.ahead n
    (g.P.PesPackets.remaining c.args.self.now.inner.inner.now)
    (sym c.to_skip.ensures ∙ c.if-to_skip-eq0.true) is
