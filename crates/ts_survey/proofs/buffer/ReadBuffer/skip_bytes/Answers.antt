-- `skip_bytes` moves the remaining bytes to the front of the buffer.
use Rattle.std.proofs.Common.{rules}
use Rattle.ts_survey.proofs.ReadBufferLemmas.{skipping_drops_buffered_bytes}
use Rattle.ts_survey.proofs.buffer.ReadBuffer.skip_bytes.Goals as goal

pub returns-clause-buffered : goal.returns-clause-buffered
returns-clause-buffered c =
    skipping_drops_buffered_bytes c.args.self.now.bytes.items c.as_mut_slice.result.now
    c.copy_within.new.self _
    c.args.self.now.bytes.len c.args.self.now.len c.args.count c.as_mut_slice.ensures.value
    (search rules) (search rules) (search rules) (search rules) (search rules)
