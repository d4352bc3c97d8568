-- The counts of a transport stream that is read from an offset of a recording to its end: its
-- packets, and the bytes that belong to no packet.
use Rattle.std.specs.Prelude.{◌≡◌, ◌≤◌, ⊤, ℕ, ◌+◌, ◌-◌, ◌*◌, Bool, true, List, drop, length}
use Rattle.mpeg_ts.specs.PacketSize.{bytes_of}
use Rattle.mpeg_ts.specs.PacketsInStep.{Item, lead_size}
use Rattle.ts_survey.specs.Requested.{packet_keeps_requested}
use Rattle.ts_survey.specs.Following.{accepts_any_state}
use Rattle.ts_survey.specs.InStep.{TakesAll, saturating_count, items_from, packet_count}
use Rattle.ts_survey.specs.InStep.{skipped_byte_count}
use Rattle.ts_survey.specs.declared.multiplex.Multiplex.{Multiplex}
use Rattle.ts_survey.specs.declared.packets_in_step.PacketsInStep.{PacketsInStep}
use Rattle.ts_survey.specs.declared.recording.Kind.{Kind}
use Rattle.ts_survey.specs.declared.recording.Kind.TheVariants.{Stream, Unknown}

-- ---- counting while the stream is read

-- The state at the beginning of a stream, after `skipped_before` other bytes.
pub record BeginsAfterSkipping (skipped_before : ℕ) (packets : PacketsInStep) : Type 0 where
  pub lead : packets.lead ≡ lead_size (bytes_of packets.size)
  pub in_step : packets.in_step ≡ true
  pub number : packets.number ≡ 0
  pub run : packets.run ≡ 0
  pub skipped : packets.skipped ≡ skipped_before

-- If the recording is a transport stream, its state is the state at the beginning of the stream.
abbrev pub IsAtStreamStart : ℕ → Kind → Type 0
IsAtStreamStart skipped_before (Stream packets multiplex) = BeginsAfterSkipping skipped_before
    packets
IsAtStreamStart skipped_before _ = ⊤

-- The transport packets in these bytes were processed by some receiver, as `TakesAll` states.
abbrev pub SomeReceiverTakes : PacketsInStep → List ℕ → Bool → ℕ → PacketsInStep → Type 0
SomeReceiverTakes old bytes is_end used new =
    TakesAll {T = Unit {0}} accepts_any_state old (tt {0}) bytes is_end used new (tt {0})

-- A stream begins after `skipped_before` bytes, and the transport packets in its first bytes were
-- processed.
pub record TakesStreamStart
    (skipped_before : ℕ) (bytes : List ℕ) (is_end : Bool) (used : ℕ) (packets : PacketsInStep)
    (multiplex : Multiplex)
    : Type 0 where
  pub first : PacketsInStep
  pub begins : BeginsAfterSkipping skipped_before first
  pub start : Multiplex
  pub taken : TakesAll packet_keeps_requested first start bytes is_end used packets multiplex

-- If the recording was recognised as a transport stream, the packets in its first bytes were
-- processed.
abbrev pub TakesStartedStream : ℕ → List ℕ → Bool → ℕ → Kind → Type 0
TakesStartedStream skipped_before bytes is_end used (Stream packets multiplex) =
    TakesStreamStart skipped_before bytes is_end used packets multiplex
TakesStartedStream skipped_before bytes is_end used _ = ⊤

-- The packets of a stream were found in the bytes received, except for those still buffered; at the
-- end, in all bytes.
pub record ReadsStream (received buffered : List ℕ) (is_end : Bool) (packets : PacketsInStep) : Type
    0 where
  pub skipped_before : ℕ
  pub within : skipped_before ≤ length received
  pub first : PacketsInStep
  pub begins : BeginsAfterSkipping skipped_before first
  pub used : ℕ
  pub taken : SomeReceiverTakes first (drop skipped_before received) is_end used packets
  pub left : buffered ≡ drop used (drop skipped_before received)

-- How far a recording was read: a stream, up to the buffered bytes; while the kind of the recording
-- is unknown, all bytes after the skipped bytes are buffered. Nothing is required of other kinds.
abbrev pub HasReadUpToBuffer : Kind → ℕ → List ℕ → List ℕ → Bool → Type 0
HasReadUpToBuffer Unknown skipped received buffered is_end = (skipped ≤ length received) ×
    (buffered ≡ drop skipped received)
HasReadUpToBuffer (Stream packets multiplex) skipped received buffered is_end = ReadsStream received
    buffered is_end packets
HasReadUpToBuffer _ skipped received buffered is_end = ⊤

-- If the recording is a transport stream before and after, no more bytes of it were read.
abbrev pub ReadsNoMoreOfStream : Kind → Kind → Type 0
ReadsNoMoreOfStream (Stream packets multiplex) (Stream after reported) = after ≡ packets
ReadsNoMoreOfStream _ _ = ⊤

-- ---- the counts at the end of the stream

-- All packets of the stream were counted, each once, and all bytes that belong to no packet: those
-- before the stream, and those before, between and after its packets. A packet takes up its whole
-- distance of 188, 192 or 204 bytes. If that is 192, the first 4 bytes of the stream, the place of
-- a time stamp, are not counted. Counts saturate at 64 bits.
pub record CountsStream (received : List ℕ) (packets : PacketsInStep) : Type 0 where
  pub skipped_before : ℕ
  pub within : skipped_before ≤ length received
  pub found : List Item
  pub items :
      items_from (bytes_of packets.size) true
      (drop (lead_size (bytes_of packets.size)) (drop skipped_before received)) ≡ found
  pub number : packets.number ≡ saturating_count 0 (packet_count found)
  pub skipped :
      packets.skipped ≡ saturating_count skipped_before (skipped_byte_count found
      + (length (drop skipped_before received) - (lead_size (bytes_of packets.size)
      + bytes_of packets.size * packet_count found + skipped_byte_count found)))

-- If the recording is a transport stream, all its packets and skipped bytes were counted.
abbrev pub CountsRecording : List ℕ → Kind → Type 0
CountsRecording received (Stream packets multiplex) = CountsStream received packets
CountsRecording received _ = ⊤
