-- If a read fails within an item of the output, and all items before it are valid PES packets, the
-- consumed bytes carry these packets and no further complete one.
use Rattle.mpeg_ts.proofs.DeliveredBytesLemmas.{read_failure_is_at_packet}
use Rattle.mpeg_ts.proofs.laws.law_of_failed_read.Goals as goal

pub returns : goal.returns
returns c = read_failure_is_at_packet
