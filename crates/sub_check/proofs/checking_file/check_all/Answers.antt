-- The contract of `check_all` follows from that of `check_all_pes_packets`, for the PES packets of
-- its source.
use Rattle.std.proofs.Common.{rules}
use Rattle.sub_check.proofs.checking_file.check_all.Goals as goal

pub returns-clause-first : goal.returns-clause-first
returns-clause-first g c = λ programme is none at_once bytes reported.
    c.check_all_pes_packets.ensures.first programme is none at_once bytes
    (rw (c.new-pes_packets.ensures.none, c.new-pes_packets.ensures.now) reported)

pub returns-clause-first_by : goal.returns-clause-first_by
returns-clause-first_by g c = λ programme is bytes reported.
    c.check_all_pes_packets.ensures.first_by programme is bytes
    (rw (c.new-pes_packets.ensures.none, c.new-pes_packets.ensures.now) reported)

pub returns-clause-trusted : goal.returns-clause-trusted
returns-clause-trusted g c = λ none at_once bytes reported.
    c.check_all_pes_packets.ensures.trusted none at_once bytes
    (rw (c.new-pes_packets.ensures.none, c.new-pes_packets.ensures.now) reported)

pub returns-clause-trusted_within : goal.returns-clause-trusted_within
returns-clause-trusted_within g c = λ bytes reported.
    c.check_all_pes_packets.ensures.trusted_within bytes
    (rw (c.new-pes_packets.ensures.none, c.new-pes_packets.ensures.now) reported)

pub returns-clause-known : goal.returns-clause-known
returns-clause-known g c = λ bytes reported.
    c.check_all_pes_packets.ensures.known bytes
    (rw (c.new-pes_packets.ensures.none, c.new-pes_packets.ensures.now) reported)

pub returns-clause-read : goal.returns-clause-read
returns-clause-read g c = λ pes is.
    let read =
    rw (c.new-pes_packets.ensures.none, c.new-pes_packets.ensures.now) at
    (c.check_all_pes_packets.ensures.read pes is) in
    search rules
