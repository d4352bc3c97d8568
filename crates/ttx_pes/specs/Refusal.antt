-- The fault of the bytes of a PES packet, defined by the grammar alone: the first check, in a fixed
-- order, in which no packet of the grammar agrees with the bytes (EN 300 472; the order of the
-- checks is not defined by a standard).
--
-- Each check has a number. It concerns bytes of the packet or of data unit k, or the number of
-- bytes, and has a fault:
--
--   0            there are six bytes                                           Truncated
--   1            0..3   packet_start_code_prefix, stream_id                     Start
--   2            4..5   PES_packet_length                                       Length
--   3            there are all bytes of the packet                             Truncated
--   4            6      PES_scrambling_control, with the two bits before it     Flags, Lost
--   5            7      PTS_DTS_flags                                           NoTime
--   6            8      PES_header_data_length                                  HeaderLength
--   7            9..13  PTS                                                     Time
--   8            45     data_identifier                                         DataId
--   9 + 3 * k    1      data_unit_length                                        UnitLength
--   10 + 3 * k   0, 3   data_unit_id and, of a Teletext unit, framing_code      Framing
--   11 + 3 * k   2      field_parity and line_offset                            LineOrder
--
-- Check 4 gives `Lost` if all bytes of the packet from 6 on are FF, and otherwise `Flags`.
use Rattle.std.specs.Prelude.{◌≡◌, ℕ, ◌+◌, ◌-◌, ◌*◌, ◌/◌, ◌%◌, ◌<◌, ◌≤◌, List, [], ◌∷◌, ◌++◌}
use Rattle.std.specs.Prelude.{drop, length, replicate, slice_index, slice_index_or, take}
use Rattle.ttx_pes.specs.declared.fault.PesFault.{PesFault}
use Rattle.ttx_pes.specs.declared.fault.PesFault.TheVariants as fault
use Rattle.ttx_pes.specs.DataUnit.{data_unit_size}
use Rattle.ttx_pes.specs.PesGrammar.{PesValue, IsValidPesPacket, header_size, max_units}
use Rattle.ttx_pes.specs.Reading.{flags_fault}

-- The bytes of a PES packet from byte 6 on, at most as many as PES_packet_length states.
abbrev pub stated_body : List ℕ → List ℕ
stated_body b = take (0x100 * slice_index b 4 + slice_index b 5) (drop 6 b)

-- The faults of the checks 0 to 8, which come before the checks of the data units.
abbrev pub packet_faults : List ℕ → List PesFault
packet_faults b =
    fault.Truncated ∷ fault.Start ∷ fault.Length ∷ fault.Truncated ∷ flags_fault (stated_body b)
    ∷ fault.NoTime ∷ fault.HeaderLength ∷ fault.Time ∷ fault.DataId ∷ []

-- The faults of the three checks of each data unit, in order.
abbrev pub unit_faults : List PesFault
unit_faults = fault.UnitLength ∷ fault.Framing ∷ fault.LineOrder ∷ []

-- The fault of check number i for the bytes b.
abbrev pub fault_of_check : List ℕ → ℕ → PesFault
fault_of_check b i =
    slice_index_or (packet_faults b) i (slice_index_or unit_faults (i % 3) fault.Truncated)

-- A number that is greater than the number of any check. Bytes that no check concerns have at least
-- this check number.
abbrev pub check_of_unchecked_bytes : ℕ
check_of_unchecked_bytes = 9 + 3 * max_units

-- The check numbers of the 46 bytes before the data units.
abbrev pub header_byte_checks : List ℕ
header_byte_checks =
    (1 ∷ 1 ∷ 1 ∷ 1 ∷ 2 ∷ 2 ∷ 4 ∷ 5 ∷ 6 ∷ 7 ∷ 7 ∷ 7 ∷ 7 ∷ 7 ∷ [])
    ++ (replicate 31 check_of_unchecked_bytes ++ (8 ∷ []))

-- The check numbers of the first four bytes of data unit 0.
abbrev pub unit_byte_checks : List ℕ
unit_byte_checks = 10 ∷ 9 ∷ 11 ∷ 10 ∷ []

-- The check number of byte number `place` of a PES packet.
abbrev pub check_of_byte : ℕ → ℕ
check_of_byte place =
    let within = place - header_size in
    slice_index_or header_byte_checks place
    (slice_index_or unit_byte_checks (within % data_unit_size) check_of_unchecked_bytes
    + 3 * (within / data_unit_size))

-- The bytes agree with `packet` in all checks before check number `check_number`: they are as many
-- as these checks need, and each byte that these checks concern equals that of `packet`.
pub record AgreeBeforeCheck (check_number : ℕ) (bytes packet : List ℕ) : Type 0 where
  pub has_six_bytes : 0 < check_number → 6 ≤ length bytes
  pub all : 3 < check_number → length packet ≤ length bytes
  pub same :
      (place : ℕ)
      → check_of_byte place < check_number
      → place < length packet
      → slice_index bytes place ≡ slice_index packet place

-- Check number `check_number` is the first check that the bytes fail: a packet of the grammar
-- agrees with them in all earlier checks, but none agrees in this check too.
pub record FailsFirstAtCheck (check_number : ℕ) (bytes : List ℕ) : Type 0 where
  pub value : PesValue
  pub packet : List ℕ
  pub is_packet : IsValidPesPacket value packet
  pub before : AgreeBeforeCheck check_number bytes packet
  pub none :
      (v : PesValue) (p : List ℕ)
      → IsValidPesPacket v p
      → AgreeBeforeCheck (check_number + 1) bytes p
      → ⊥
