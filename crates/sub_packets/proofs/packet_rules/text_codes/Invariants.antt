-- The codes computed so far are those of the packet's text.
use Rattle.std.proofs.Common.{◌≡◌, ℕ, ◌+◌, ◌<◌, ◌%◌, length, slice_index}
use Rattle.sub_packets.proofs.packet_rules.text_codes.Given as goal

abbrev pub invariant-loop-column : goal.invariant-loop-column
invariant-loop-column l = record {
  size : length l.codes ≡ 40;
  done : (k : ℕ) → k < l.column → slice_index l.codes k ≡ slice_index l.bytes (k + 2) % 128;
}
