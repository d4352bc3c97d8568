-- Ranges of the PES packets of a file, by their indices counted from 0, and the bytes of a range.
use Rattle.std.specs.Prelude.{◌≡◌, ◌==◌, ◌||◌, ℕ, zero, suc, ◌+◌, ◌-◌, nat_le, nat_lt}
use Rattle.std.specs.Prelude.{if◌then◌else◌, List, [], ◌++◌, length, take, drop}
use Rattle.std.specs.Prelude.{Option, Some, None, option_map}
use Rattle.std.specs.List.{concat}
use Rattle.std.specs.Result.{result_ok}
use Rattle.ttx_pes.specs.PesPackets.{IsPesPacket}
use Rattle.ttx_pes.specs.Reading.{size_at}

-- ---- the bytes of PES packets

-- The size of the PES packet at the front of the bytes, from its first six bytes. `None` if there
-- are fewer, or if their start code or length is wrong.
unfoldable pub stated_packet_size : List ℕ → Option ℕ
stated_packet_size b = if nat_lt (length b) 6 then None else result_ok (size_at (take 6 b))

-- The size, if at least that many bytes are available; otherwise `None`.
abbrev pub size_if_complete : ℕ → Option ℕ → Option ℕ
size_if_complete count None = None
size_if_complete count (Some size) = if nat_le size count then Some size else None

-- The size in bytes of the complete PES packet at the front of b. `None` if b does not begin with a
-- complete PES packet.
unfoldable pub pes_packet_size : List ℕ → Option ℕ
pes_packet_size b = size_if_complete (length b) (stated_packet_size b)

-- Applies `more` to the size of the PES packet at the front. Returns `none` if there is no packet.
abbrev pub with_packet_size_or : {A : Type 0} → Option ℕ → (ℕ → A) → A → A
with_packet_size_or None more none = none
with_packet_size_or (Some size) more none = more size

-- The bytes after the first n PES packets, or after all packets if b has fewer.
unfoldable pub rest_after_pes_packets : ℕ → List ℕ → List ℕ
rest_after_pes_packets zero b = b
rest_after_pes_packets (suc n) b = with_packet_size_or (pes_packet_size b)
    (λ size. rest_after_pes_packets
    n (drop size b)) b

-- The bytes of the first n PES packets, or all bytes if b has fewer packets.
unfoldable pub first_pes_packets : ℕ → List ℕ → List ℕ
first_pes_packets zero b = []
first_pes_packets (suc n) b =
    with_packet_size_or (pes_packet_size b) (λ size. take size b ++ first_pes_packets n
    (drop size b)) b

-- The number of PES packets at the front of b, at most n.
unfoldable pub count_pes_packets : ℕ → List ℕ → ℕ
count_pes_packets zero b = 0
count_pes_packets (suc n) b =
    with_packet_size_or (pes_packet_size b) (λ size. suc (count_pes_packets n (drop size b))) 0

-- The bytes of the first n PES packets, or all bytes if b has fewer packets or there is no limit.
abbrev pub limited_bytes : Option ℕ → List ℕ → List ℕ
limited_bytes None b = b
limited_bytes (Some n) b = first_pes_packets n b

-- A range of PES packets: the indices of its first and last packet. Without `last`, it extends to
-- the end of the file.
pub record PesPacketRangeValue : Type 0 where
  pub first : ℕ
  pub last : Option ℕ

-- The range from `first` to `last`. `None` if it is invalid: `last` is less than `first`, or is the
-- greatest 64-bit number.
unfoldable pub range_of : ℕ → Option ℕ → Option PesPacketRangeValue
range_of first None = Some (record { first = first; last = None })
range_of first (Some last) =
    if nat_lt last first || (last == 0xFFFF_FFFF_FFFF_FFFF) then None
    else Some (record { first = first; last = Some last })

-- The number of PES packets of a range, or `None` if the range extends to the end of the file.
abbrev pub range_length : PesPacketRangeValue → Option ℕ
range_length r = option_map (λ last. last + 1 - r.first) r.last

-- The bytes of a range: its PES packets and, if it extends beyond the last packet of the file, the
-- bytes after that packet.
unfoldable pub range_bytes : PesPacketRangeValue → List ℕ → List ℕ
range_bytes r b = limited_bytes (range_length r) (rest_after_pes_packets r.first b)

-- The index in the file of the first PES packet of a range, or the number of packets in the file if
-- it has fewer.
unfoldable pub first_index : PesPacketRangeValue → List ℕ → ℕ
first_index r b = count_pes_packets r.first b

-- ---- PES packets before a range

-- The progress of skipping the PES packets before a range: the number of skipped packets, and the
-- number still to be skipped.
pub record AheadValue : Type 0 where
  pub skipped : ℕ
  pub to_skip : ℕ

-- ---- ranges by lists of PES packets

-- The bytes do not begin with a PES packet.
abbrev pub StartsWithoutPesPacket : List ℕ → Type 0
StartsWithoutPesPacket bytes = (p more : List ℕ) → IsPesPacket p → bytes ≡ p ++ more → ⊥

-- The part of a file from PES packet `first` to packet `last`. The file consists of PES packets and
-- a rest without packets. The rest belongs to the part if the file has no packet `last`, or if
-- `last` is `None`.
abbrev pub packets_in_range : ℕ → Option ℕ → List (List ℕ) → List ℕ → List ℕ
packets_in_range first None pes_packets rest = concat (drop first pes_packets) ++ rest
packets_in_range first (Some last) pes_packets rest =
    concat (take (last + 1 - first) (drop first pes_packets))
    ++ (if nat_lt last (length pes_packets) then [] else rest)
