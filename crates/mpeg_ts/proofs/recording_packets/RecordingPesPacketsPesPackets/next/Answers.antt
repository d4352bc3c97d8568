-- `next` returns the next item. The consumed bytes determine the item, and no more bytes were
-- requested than the item needs.
use Rattle.std.proofs.Common.{[], refl}
use Rattle.std.proofs.lemmas.Result.{err_from_is_err_and}
use Rattle.mpeg_ts.specs.Stream.{remaining_output}
use Rattle.mpeg_ts.proofs.DeliveredBytesLemmas.{next_item_is_output}
use Rattle.mpeg_ts.proofs.RecordingLemmas.{received_packet_is_taken, rest_next_is_reported}
use Rattle.mpeg_ts.proofs.recording_packets.RecordingPesPacketsPesPackets.next.Goals as goal

pub take_with-requires : goal.take_with-requires
take_with-requires g c =
    let i = c.self.inside in
    let pes_packet =
    received_packet_is_taken (g.S.Source.remaining i.inner)
    (g.S.Source.remaining c.read_ahead.new.source)
    i.stream
    c.read_ahead.new.self c.take_next-next.new.self c.in_ok-read_ahead.ensures.keeps
    c.take_next-next.ensures.same c.take_next-next.result c.in_default.not-Nothing
    c.in_default.not-Rest c.take_next-next.ensures.next in
    rw c.taken.ensures pes_packet.0

pub returns-in-Rest-clause-received : goal.returns-in-Rest-clause-received
returns-in-Rest-clause-received g c =
    let i = c.self.inside in
    let rest =
    rest_next_is_reported (g.S.Source.remaining i.inner)
    (g.S.Source.remaining c.read_ahead.new.source)
    i.stream
    c.read_ahead.new.self c.take_next-next.new.self c.in_ok-read_ahead.ensures.keeps
    c.take_next-next.ensures.same c.in-Rest.fault c.in-Rest.ensures.next in
    rw (← c.self.view_is) (rest.0, rest.1, refl)

pub returns-in_default-clause-received : goal.returns-in_default-clause-received
returns-in_default-clause-received g c =
    let i = c.self.inside in
    let pes_packet =
    received_packet_is_taken (g.S.Source.remaining i.inner)
    (g.S.Source.remaining c.read_ahead.new.source)
    i.stream
    c.read_ahead.new.self c.take_next-next.new.self c.in_ok-read_ahead.ensures.keeps
    c.take_next-next.ensures.same c.take_next-next.result c.in_default.not-Nothing
    c.in_default.not-Rest c.take_next-next.ensures.next in
    rw (← c.self.view_is) (
      record {
        bytes = c.taken.result.now;
        is_pes_packet = rw c.taken.ensures pes_packet.0;
        fit = c.take_with.ensures.fit;
        consumed = rw c.taken.ensures pes_packet.1;
        takes = c.take_with.ensures.takes;
      },
      refl {a = remaining_output c.take_next-next.new.self
          (g.S.Source.remaining c.read_ahead.new.source)},
    )

pub returns-in_err-read_ahead-clause-requests : goal.returns-in_err-read_ahead-clause-requests
returns-in_err-read_ahead-clause-requests g c =
    let failed = err_from_is_err_and c.from_residual.result c.from_residual.ensures.1 in
    rw (← c.self.view_is, failed.1) (c.read_ahead.new.self, c.in_err-read_ahead.ensures.requests)

pub returns-in-Nothing-clause-requests : goal.returns-in-Nothing-clause-requests
returns-in-Nothing-clause-requests g c =
    rw (← c.self.view_is) (c.read_ahead.new.self, c.in_ok-read_ahead.ensures.requests)

pub returns-in-Rest-clause-requests : goal.returns-in-Rest-clause-requests
returns-in-Rest-clause-requests g c =
    rw (← c.self.view_is) (c.read_ahead.new.self, c.in_ok-read_ahead.ensures.requests)

pub returns-in_default-clause-requests : goal.returns-in_default-clause-requests
returns-in_default-clause-requests g c =
    rw (← c.self.view_is) (c.read_ahead.new.self, c.in_ok-read_ahead.ensures.requests)

pub returns-in-Nothing-clause-gives : goal.returns-in-Nothing-clause-gives
returns-in-Nothing-clause-gives g c =
    rw (← c.self.view_is)
    (next_item_is_output (g.S.Source.remaining c.self.inside.inner)
    (g.S.Source.remaining c.read_ahead.new.source) c.self.inside.stream c.read_ahead.new.self
    c.take_next-next.new.self c.take_next-next.result c.in_ok-read_ahead.ensures.takes
    c.take_next-next.ensures.next c.take_next-next.ensures.same)

pub returns-in-Rest-clause-gives : goal.returns-in-Rest-clause-gives
returns-in-Rest-clause-gives g c =
    rw (← c.self.view_is)
    (next_item_is_output (g.S.Source.remaining c.self.inside.inner)
    (g.S.Source.remaining c.read_ahead.new.source) c.self.inside.stream c.read_ahead.new.self
    c.take_next-next.new.self c.take_next-next.result c.in_ok-read_ahead.ensures.takes
    c.take_next-next.ensures.next c.take_next-next.ensures.same)

pub returns-in_default-clause-gives : goal.returns-in_default-clause-gives
returns-in_default-clause-gives g c =
    rw (← c.self.view_is)
    (next_item_is_output (g.S.Source.remaining c.self.inside.inner)
    (g.S.Source.remaining c.read_ahead.new.source) c.self.inside.stream c.read_ahead.new.self
    c.take_next-next.new.self c.take_next-next.result c.in_ok-read_ahead.ensures.takes
    c.take_next-next.ensures.next c.take_next-next.ensures.same)

pub returns-in_err-read_ahead-clause-gives : goal.returns-in_err-read_ahead-clause-gives
returns-in_err-read_ahead-clause-gives g c =
    rw (← c.self.view_is) (record { given = []; takes = c.in_err-read_ahead.ensures.takes })
