-- In each iteration of `survey`, no device has failed, and all text printed so far is in the sink.
-- The text is flushed if nothing was buffered before the call.
use Rattle.std.proofs.Common.{◌≡◌, ◌≤◌, List, ℕ, false, length, take, true, vec_len}
use Rattle.std.specs.Io.KnownBytes.{Consumes}
use Rattle.ts_survey.specs.Counted.{HasReadUpToBuffer}
use Rattle.ts_survey.specs.FirstLines.{head_size}
use Rattle.ts_survey.specs.Listed.{IsAsRequested, IsReported}
use Rattle.ts_survey.specs.ReadBuffer.{max_retained_bytes, read_buffer_size}
use Rattle.ts_survey.specs.Survey.{AppendsSomeText}
use Rattle.ts_survey.proofs.reporting.survey.Given as goal

abbrev pub invariant-reads : goal.invariant-reads
invariant-reads g l = record {
  source : g.S.Source.failure_count l.source ≡ g.S.Source.failure_count l.fn.source;
  out : g.K.Sink.failure_count l.out ≡ g.K.Sink.failure_count l.fn.out;
  grows : AppendsSomeText (g.K.Sink.contents l.fn.out) (g.K.Sink.contents l.out);
  read :
      (received : List ℕ)
      × Consumes (g.S.Source.remaining l.fn.source) (g.S.Source.remaining l.source) received;
  reported : IsReported l.recording read.0 grows.0;
  buffered : l.recording.has_head ≡ false → take l.buffer.len l.buffer.bytes.items ≡ read.0;
  is_at_place :
      HasReadUpToBuffer l.recording.kind l.recording.skipped read.0
      (take l.buffer.len l.buffer.bytes.items) false;
  long : l.recording.has_head ≡ true → head_size ≤ length read.0;
  enough : l.recording.out_of_memory ≡ false;
  requested : l.recording.requested ≡ l.fn.options;
  as_requested : IsAsRequested l.recording.requested l.recording.kind;
  first : length l.first.bytes.items ≡ 0;
  none : length l.text.bytes.items ≡ 0;
  kept : l.buffer.len ≤ max_retained_bytes;
  buffer : vec_len l.buffer.bytes ≡ read_buffer_size;
  stays_flushed : g.K.Flush.buffered l.fn.out ≡ 0 → g.K.Flush.buffered l.out ≡ 0;
}
