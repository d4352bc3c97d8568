-- The PES packets of a file: each is as long as its PES_packet_length says (ISO/IEC 13818-1,
-- PES_packet). Other bytes may follow the last complete PES packet.
use Rattle.std.specs.Prelude.{◌≡◌, ℕ, ◌&&◌, ◌||◌, not, nat_le, nat_lt, Bool, if◌then◌else◌}
use Rattle.std.specs.Prelude.{List, length, drop, Option, Some, None}
use Rattle.ttx_pes.specs.Reading.{is_start, stated_size}
use Rattle.ts_survey.specs.InStep.{saturating_count}

-- There are at least six bytes, and they do not begin with 00 00 01 BD, as a PES packet of
-- private_stream_1 does.
abbrev pub has_wrong_start_code : List ℕ → Bool
has_wrong_start_code bytes = nat_le 6 (length bytes) && not (is_start bytes)

-- The size in bytes of the complete PES packet at the front of the bytes, or `None` if they begin
-- with no complete PES packet.
unfoldable pub complete_packet_size : List ℕ → Option ℕ
complete_packet_size bytes =
    if nat_lt (length bytes) 6 || not (is_start bytes)
    || nat_lt (length bytes) (stated_size bytes) then None
    else Some (stated_size bytes)

-- The complete PES packets at the front of the bytes were counted, in order, each once, in a count
-- that saturates. The rest of the bytes begins with no complete PES packet.
pub data CountsPesPackets : ℕ → List ℕ → List ℕ → ℕ → Type 0 where
  no_complete_packet :
      (count : ℕ) (rest : List ℕ)
      → complete_packet_size rest ≡ None
      → CountsPesPackets count rest rest count
  next_packet_counted :
      (old new size : ℕ) (bytes rest : List ℕ)
      → complete_packet_size bytes ≡ Some size
      → CountsPesPackets (saturating_count old 1) (drop size bytes) rest new
      → CountsPesPackets old bytes rest new
