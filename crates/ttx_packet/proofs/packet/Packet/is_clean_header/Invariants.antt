use Rattle.std.proofs.Common.{ℕ, ◌<◌, ◌≤◌, slice_index}
use Rattle.ttx_packet.specs.Hamming84.{IsCodeWord}
use Rattle.ttx_packet.proofs.packet.Packet.is_clean_header.Given as goal

abbrev pub invariant-loop-place : goal.invariant-loop-place
invariant-loop-place l =
    (k : ℕ) → 2 ≤ k → k < l.place → IsCodeWord (slice_index l.self-inside.bytes k)
