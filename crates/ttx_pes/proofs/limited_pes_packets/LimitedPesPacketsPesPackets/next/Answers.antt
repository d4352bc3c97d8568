-- Reading the next PES packet has the specified effect if the number of packets is limited.
use Rattle.std.proofs.Common.{◌∙◌, ℕ, Option, Result, Ok, subst, sym}
use Rattle.sub_io.specs.declared.source.Failed.{Failed}
use Rattle.ttx_pes.specs.Advancing.{Advances, left_within_limit, limited_known_bytes}
use Rattle.ttx_pes.specs.declared.pes_packets.Received.{Received}
use Rattle.ttx_pes.proofs.LimitedReadLemmas.{limited_reader_advances, reader_stops_at_limit}
use Rattle.ttx_pes.proofs.limited_pes_packets.LimitedPesPacketsPesPackets.next.Goals as goal

pub returns-then-is_finished-clause-received : goal.returns-then-is_finished-clause-received
returns-then-is_finished-clause-received g c =
    let inner = c.args.self.now.inner.now in
    reader_stops_at_limit Failed g.T.TakePesPacket.is_take _ c.args.self.now.left
    (g.P.PesPackets.remaining
    inner)
    (g.P.PesPackets.left inner) (sym c.is_finished.ensures ∙ c.if-is_finished.true)

pub returns-clause-received : goal.returns-clause-received
returns-clause-received g c =
    let left = c.args.self.now.left in
    let old = g.P.PesPackets.remaining c.args.self.now.inner.now in
    let new = g.P.PesPackets.remaining c.next.new.self in
    let following = g.P.PesPackets.left c.next.new.self in
    subst (λ (l : Option ℕ).
    Advances (limited_known_bytes left old) (limited_known_bytes l new)
    (left_within_limit l new following)
    g.T.TakePesPacket.is_take c.args.taker.now c.next.new.taker
    (let r : Result (Received _) Failed = Ok c.in_ok-received.received in r))
    (sym c.limit_after-self.ensures)
    (limited_reader_advances Failed _ _ _ _ _ _ left c.in_ok-received.received
    (sym c.is_finished.ensures ∙ c.if-is_finished.false) c.in_ok-received.ensures.received)
