-- The contract of `listen` follows from that of `listen_pes_packets`, for the PES packets of its
-- source.
use Rattle.std.proofs.Common.{rules}
use Rattle.sub_listen.proofs.listening.listen.Goals as goal

pub returns-clause-exact : goal.returns-clause-exact
returns-clause-exact g c = λ frames unread bytes reported reads none_failed.
    let heard =
    rw (c.new-pes_packets.ensures.none, c.new-pes_packets.ensures.now) at
    (c.listen_pes_packets.ensures.exact frames unread bytes
    (rw (c.new-pes_packets.ensures.none, c.new-pes_packets.ensures.now) reported) reads none_failed)
    in
    search rules
