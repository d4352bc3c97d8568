-- Each iteration of `fill_buffer` stores the bytes of one pull after those of the earlier pulls.
use Rattle.std.proofs.Common.{◌+◌, ◌-◌, ◌≤◌, arith, length, take}
use Rattle.std.proofs.lemmas.Bool.Decides.{nat_tests}
use Rattle.std.proofs.KnownBytes.{Consumes-kept}
use Rattle.std.proofs.lemmas.List.{length-take-le}
use Rattle.std.proofs.lemmas.Slice.{take-put_mid_below}
use Rattle.sub_io.proofs.DeviceLemmas.{Consumes-more}
use Rattle.ttx_pes.proofs.BorrowedPacketLemmas.{borrowed-more}
use Rattle.ttx_pes.proofs.pes_packet_buffer.fill_buffer.Goals as goal

pub loop-at-preserved : goal.loop-at-preserved
loop-at-preserved g c =
    let at = c.loop-at.at in
    let old = c.args.room.now in
    let len = length-take-le c.args.buffered old c.requires.buffered in
    let borrowed = λ (many : c.args.least ≤ c.args.buffered + length
    (g.S.Source.borrowed c.args.source.now)).
    borrowed-more (take c.args.buffered old) (g.S.Source.borrowed c.args.source.now)
    (g.S.Source.borrowed c.loop-at.source) (g.S.Source.borrowed c.pull.new.self) c.loop-at.room
    c.pull.new.to c.args.least at (c.args.most - at) c.in-Ok.n
    (c.loop-at.invariant.borrowed many) c.in-Ok.ensures.borrowed (omega arith) (omega arith)
    (omega (arith, c.in-Ok.ensures.bound)) (omega (arith, len, many)) in
    grind (arith, nat_tests, take-put_mid_below, Consumes-more)

pub returns-in-Err-clause-bytes : goal.returns-in-Err-clause-bytes
returns-in-Err-clause-bytes g c = grind (arith, nat_tests, take-put_mid_below, Consumes-kept)

pub returns-in-Ok-eq0-clause-bytes : goal.returns-in-Ok-eq0-clause-bytes
returns-in-Ok-eq0-clause-bytes g c =
    grind (arith, nat_tests, take-put_mid_below, Consumes-more)
