-- `read_rest` returns all remaining bytes, and no output follows.
use Rattle.mpeg_ts.proofs.RecordingLemmas.{emptying_consumes_rest}
use Rattle.mpeg_ts.proofs.recording_packets.RecordingPesPacketsPesPackets.read_rest.Goals as goal

pub returns-clause-bytes : goal.returns-clause-bytes
returns-clause-bytes g c =
    let i = c.self.inside in
    let rest =
    emptying_consumes_rest (g.S.Source.remaining i.inner) i.stream c.clear_returned_bytes.new.self
    (c.self.invariant (rw (← c.self.view_is) at c.requires.rest)) c.clear_returned_bytes.ensures in
    rw (← c.self.view_is, c.put_in_front.ensures, c.bytes-bytes.ensures.bytes)
    (rest.0, λ none some. rest.1)
