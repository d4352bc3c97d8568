-- Either the listing was printed from the first PES packet on, or the source failed before this
-- packet was found.
use Rattle.std.proofs.Common.{◌≡◌, ◌+◌, arith}
use Rattle.sub_listing.specs.DeviceCall.{read_call}
use Rattle.sub_listing.proofs.FirstPacketLemmas.{failed_search_prints_fault}
use Rattle.sub_listing.proofs.FirstPacketLemmas.{listing_counts_from_found_packet}
use Rattle.sub_listing.proofs.packets.list_packets.Goals as goal

pub returns-in-Ok-clause-listing : goal.returns-in-Ok-clause-listing
returns-in-Ok-clause-listing g c =
    let counted = c.in-Ok.ensures.count in
    let same : g.P.PesPackets.failure_count c.find_first.new.self
    ≡ g.P.PesPackets.failure_count c.args.pes_packets.now = omega (arith, counted) in
    listing_counts_from_found_packet _ c.in-Ok.first _ _ _ _ _ _ _ _ (λ n is. c.in-Ok.ensures.first
    n is)
    c.in-Ok.ensures.kept same
    (rw (c.new.ensures.start, c.new.ensures.first) at c.list.ensures.listing)

pub returns-in-Err-clause-listing : goal.returns-in-Err-clause-listing
returns-in-Err-clause-listing g c =
    let counted = c.in-Err.ensures.count in
    let risen : g.P.PesPackets.failure_count c.find_first.new.self
    ≡ g.P.PesPackets.failure_count c.args.pes_packets.now + 1 = omega (arith, counted) in
    failed_search_prints_fault _ c.in-Err.at.pes
    (read_call g.P.PesPackets.remaining g.P.PesPackets.left g.P.PesPackets.failure_count
    c.args.pes_packets.now
    c.find_first.new.self)
    _ _ (λ n is. c.in-Err.ensures.before n is) c.in-Err.ensures.failed
    (λ n is. c.in-Err.ensures.left n is) c.in-Err.ensures.unread risen
    (rw c.fault_line_of_failed_read.ensures at c.print_fault_line.ensures.printed)
