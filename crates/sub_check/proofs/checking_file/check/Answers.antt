-- The contract of `check` follows from that of `check_pes_packets`, for the PES packets of its
-- source.
use Rattle.std.proofs.Common.{rules}
use Rattle.sub_check.proofs.checking_file.check.Goals as goal

pub returns-clause-read : goal.returns-clause-read
returns-clause-read g c = λ pes is.
    let read =
    rw (c.new-pes_packets.ensures.none, c.new-pes_packets.ensures.now) at
    (c.check_pes_packets.ensures.read pes is) in
    search rules
