-- The model of a reader of a range of PES packets: it skips the PES packets before the range, and
-- ends at a limit.
use Rattle.std.specs.Prelude.{ℕ, zero, suc, ◌+◌, Bool, false, List, Option, option_map}
use Rattle.ttx_pes.specs.Advancing.{left_within_limit, limited_known_bytes, is_unlimited_rest}
use Rattle.ttx_pes.specs.PesPacketRange.{AheadValue, rest_after_pes_packets, count_pes_packets}

-- The remaining bytes of the range, if n PES packets are still to be skipped and then at most
-- `left` may be read.
abbrev pub known_part : ℕ → Option ℕ → Option (List ℕ) → Option (List ℕ)
known_part zero left known_bytes = limited_known_bytes left known_bytes
known_part (suc n) left known_bytes = limited_known_bytes left
    (option_map (rest_after_pes_packets (suc n)) known_bytes)

-- `left` of a reader of a range: `left_within_limit`, but all remaining bytes of the range while
-- PES packets are still to be skipped.
abbrev pub left_after_part : ℕ → Option ℕ → Option (List ℕ) → Option (List ℕ) → Option (List ℕ)
left_after_part zero left known following = left_within_limit left known following
left_after_part (suc n) left known following = known_part (suc n) left known

-- `read_rest` may be called: the inner reader allows it (`rest`), no PES packet is still to be
-- skipped, and there is no limit.
abbrev pub is_part_rest : ℕ → Option ℕ → Bool → Bool
is_part_rest zero left rest = is_unlimited_rest left rest
is_part_rest (suc n) left rest = false

-- The next call uses no device: no PES packet is still to be skipped, and the inner reader uses no
-- device.
abbrev pub is_part_ready : ℕ → Bool → Bool
is_part_ready zero ready = ready
is_part_ready (suc n) ready = false

-- The index in the file of the first PES packet of the range, or the number of packets in the file
-- if it has fewer. `None` if the remaining bytes are unknown.
abbrev pub part_first_index : AheadValue → Option (List ℕ) → Option ℕ
part_first_index ahead known_bytes = option_map (λ b. ahead.skipped + count_pes_packets
    ahead.to_skip b)
    known_bytes
