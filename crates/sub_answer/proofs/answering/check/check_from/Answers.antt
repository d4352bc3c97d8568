-- Either the check starts at the first PES packet, or the source failed before this packet was
-- found.
use Rattle.std.proofs.Common.{◌≡◌}
use Rattle.sub_listing.proofs.FirstPacketLemmas.{unchanged_bytes_allow_packet_failure}
use Rattle.sub_listing.proofs.FirstPacketLemmas.{keeping_preserves_packet_failure}
use Rattle.sub_answer.proofs.AnsweringLemmas.{failed_first_read_fits_any_bytes}
use Rattle.sub_answer.proofs.answering.check.check_from.Goals as goal

pub returns-in-Ok-clause-read : goal.returns-in-Ok-clause-read
returns-in-Ok-clause-read g c = λ index is.
    keeping_preserves_packet_failure index _ _ _ c.in-Ok.ensures.kept
    (c.check_pes_packets.ensures.read index is)

pub returns-in-Err-clause-is_checked_by_options : goal.returns-in-Err-clause-is_checked_by_options
returns-in-Err-clause-is_checked_by_options g c = λ bytes reported.
    failed_first_read_fits_any_bytes c.args.programme.now c.args.options.now bytes

pub returns-in-Err-clause-read : goal.returns-in-Err-clause-read
returns-in-Err-clause-read g c = λ index is.
    let first : index ≡ 0 = cc in
    rw first (unchanged_bytes_allow_packet_failure _ _ c.in-Err.ensures.unread)
