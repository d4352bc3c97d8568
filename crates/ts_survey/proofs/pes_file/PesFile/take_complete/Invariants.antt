-- Each iteration of `take_complete` processes at least one byte; counting the PES packets in the
-- rest of the bytes then gives the count for all bytes.
use Rattle.std.proofs.Common.{◌+◌, ◌≤◌, List, ℕ, length}
use Rattle.ts_survey.specs.FilePesPackets.{CountsPesPackets}
use Rattle.ts_survey.proofs.pes_file.PesFile.take_complete.Given as goal

abbrev pub invariant-loop : goal.invariant-loop
invariant-loop l = record {
  within : length l.rest + l.counter ≤ length l.bytes;
  counts :
      (rest : List ℕ) (count : ℕ)
      → CountsPesPackets l.self.lines.count l.rest rest count
      → CountsPesPackets l.fn.self.lines.count l.bytes rest count;
}
