-- `has_enough_for_packet` returns whether the bytes contain a complete PES packet, or six bytes
-- with a wrong start code or length.
use Rattle.std.proofs.Common.{◌≡◌, ◌≤◌, ◌∙◌, Err, Ok, ap, length, rules, take}
use Rattle.ttx_pes.specs.Reading.{size_at}
use Rattle.ttx_pes.proofs.BorrowedPacketLemmas.{size_decides_whether_enough}
use Rattle.ttx_pes.proofs.borrowed_packet.has_enough_for_packet.Goals as goal

pub returns-in-Ok : goal.returns-in-Ok
returns-in-Ok c =
    let long : 6 ≤ length c.args.borrowed.now = search rules in
    let head : take 6 c.args.borrowed.now ≡ c.in-Some.head.now = search rules in
    size_decides_whether_enough c.args.borrowed.now (Ok c.in-Ok.size) long
    (ap size_at head ∙ c.in-Ok.ensures.exact)

pub returns-in-Err : goal.returns-in-Err
returns-in-Err c =
    let long : 6 ≤ length c.args.borrowed.now = search rules in
    let head : take 6 c.args.borrowed.now ≡ c.in-Some.head.now = search rules in
    size_decides_whether_enough c.args.borrowed.now (Err c.in-Err.field-0) long
    (ap size_at head ∙ c.in-Err.ensures.exact)
