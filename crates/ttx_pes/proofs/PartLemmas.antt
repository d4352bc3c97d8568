-- If a reader of a range has skipped no PES packets yet, the bytes that it will read, and the index
-- of its first packet, are those of the range. If no packets are left to skip, this index is the
-- number of skipped packets.
use Rattle.std.proofs.Common.{◌≡◌, ℕ, zero, suc, ◌+◌, List, Option, Some, None}
use Rattle.std.proofs.Common.{refl, ap, ◌∙◌, arith}
use Rattle.std.specs.Prelude.{option_map}
use Rattle.ttx_pes.specs.Advancing.{limited_known_bytes}
use Rattle.ttx_pes.specs.PartOfPesPackets.{known_part, part_first_index}
use Rattle.ttx_pes.specs.PesPacketRange.{AheadValue, PesPacketRangeValue, rest_after_pes_packets}
use Rattle.ttx_pes.specs.PesPacketRange.{count_pes_packets}
use Rattle.ttx_pes.specs.PesPacketRange.{first_index, range_bytes, limited_bytes, range_length}

part_is_limited_suffix : (n : ℕ) (left : Option ℕ) (known_bytes : Option (List ℕ))
    → known_part n left known_bytes ≡ limited_known_bytes left
    (option_map (rest_after_pes_packets n)
    known_bytes)
unfolding rest_after_pes_packets
part_is_limited_suffix zero left None = refl
part_is_limited_suffix zero left (Some x) = refl
part_is_limited_suffix (suc n) left known_bytes = refl

limiting_maps_known_bytes : (m : Option ℕ) (n : ℕ) (known_bytes : Option (List ℕ))
    → limited_known_bytes m (option_map (rest_after_pes_packets n) known_bytes)
    ≡ option_map (λ b. limited_bytes m (rest_after_pes_packets n b)) known_bytes
limiting_maps_known_bytes None n None = refl
limiting_maps_known_bytes None n (Some x) = refl
limiting_maps_known_bytes (Some k) n None = refl
limiting_maps_known_bytes (Some k) n (Some x) = refl

pub part_bytes_are_in_range : (r : PesPacketRangeValue) (known_bytes : Option (List ℕ))
    → known_part r.first (range_length r) known_bytes ≡ option_map (range_bytes r) known_bytes
unfolding range_bytes
part_bytes_are_in_range r known_bytes =
    part_is_limited_suffix r.first (range_length r) known_bytes ∙ limiting_maps_known_bytes
    (range_length r) r.first
    known_bytes

pub part_number_is_first_index : (r : PesPacketRangeValue) (known_bytes : Option (List ℕ))
    → part_first_index (record { skipped = 0; to_skip = r.first }) known_bytes
    ≡ option_map (first_index r) known_bytes
unfolding first_index
part_number_is_first_index r None = refl
part_number_is_first_index r (Some x) = ap (λ (n : ℕ). Some n) (omega arith)

pub no_packets_left_to_skip : (a : AheadValue) (m : ℕ) (known_bytes : Option (List ℕ))
    → a.to_skip ≡ 0
    → part_first_index a known_bytes ≡ Some m
    → a.skipped ≡ m
unfolding count_pes_packets
no_packets_left_to_skip a m None none is = absurd cc
no_packets_left_to_skip a m (Some x) none is =
    let same : a.skipped + count_pes_packets a.to_skip x ≡ m = cc in
    omega (arith, rw none at same)
