-- `pull` appends new bytes to the buffered bytes.
use Rattle.std.proofs.Common.{rules}
use Rattle.ts_survey.proofs.ReadBufferLemmas.{pull_buffers_more_bytes}
use Rattle.ts_survey.proofs.buffer.ReadBuffer.pull.Goals as goal

pub returns-clause-buffered : goal.returns-clause-buffered
returns-clause-buffered g c =
    pull_buffers_more_bytes c.args.self.now.bytes.items c.as_mut_slice-bytes.result.now
    c.pull.new.to _ _
    c.args.self.now.bytes.len c.args.self.now.len c.in_ok-count.count _ _
    c.as_mut_slice-bytes.ensures.value (search rules) (search rules) (search rules) (search rules)
