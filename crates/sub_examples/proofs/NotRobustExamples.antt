-- For each of eight faults that affect receivers, a transmission with none of the other seven fails
-- at a receiver. Each example gives the receiver's start and the packets that it receives.
use Rattle.std.proofs.Common.{List, [], ◌∷◌, refl, ℕ}
use Rattle.std.specs.Int.RustNames.{count_ones}
use lib.Count.{ones_in}
use Rattle.ttx_packet.specs.Hamming84.{decoded_nibble}
use Rattle.ttx_packet.specs.OneBit.{is_near}
use Rattle.ttx_packet.specs.PacketAddress.{address}
use Rattle.ttx_packet.specs.PageHeader.{header, decoded_header}
use Rattle.ttx_packet.specs.Parity.{is_odd}
use Rattle.ttx_page.specs.Page.{blank, blank_row}
use Rattle.sub_rules.specs.PacketTests.{are_code_words, breaks, is_word_below, packet_rules}
use Rattle.ttx_packet.specs.RowPacket.{first_even_parity_column}
use Rattle.ttx_page.specs.Differing.{differing_column_count}
use Rattle.sub_rules.specs.Events.{first_cell, is_gap, is_incomplete, is_late, active_faults_at}
use Rattle.sub_rules.specs.Events.{first_wrong_cell_after}
use Rattle.ttx_page.specs.PacketKind.{kind}
use Rattle.stl_rows.specs.DuePage.{due}
use Rattle.stl_rows.specs.SubSets.{sub_set}
use Rattle.sub_examples.specs.Examples.{ExamplesOfNeededRules, time_filling_header, english_header}
use Rattle.sub_examples.specs.Examples.{header_without_c4, row_1, header_of_coded_bytes}
use Rattle.sub_examples.proofs.RobustTests.{needed}

abbrev exclamation_mark_page : List (List ℕ)
exclamation_mark_page = english_header ∷ row_1 0xA1 ∷ time_filling_header ∷ []

-- The header of page 888 with one wrong bit in its page units.
abbrev header_with_wrong_units : List ℕ
header_with_wrong_units =
    header_of_coded_bytes (0x15 ∷ 0x15 ∷ 0xD1 ∷ 0xD0 ∷ 0x15 ∷ 0xD0 ∷ 0x15 ∷ 0xD0 ∷ 0x02 ∷ 0x15 ∷ [])

-- A header of page 888 with two wrong bits in its first address byte, so the byte can't be decoded.
abbrev header_with_two_wrong_bits : List ℕ
header_with_two_wrong_bits =
    header_of_coded_bytes (0x16 ∷ 0x15 ∷ 0xD0 ∷ 0xD0 ∷ 0x15 ∷ 0xD0 ∷ 0x15 ∷ 0xD0 ∷ 0x02 ∷ 0x15 ∷ [])

-- The transmission of each example breaks only one of the eight rules, and fails at a receiver.
pub examples_of_needed_rules : ExamplesOfNeededRules
unfolding are_code_words is_word_below first_even_parity_column breaks differing_column_count is_gap
    packet_rules active_faults_at is_late first_wrong_cell_after first_cell is_incomplete
    kind address header decoded_header decoded_nibble is_near is_odd count_ones ones_in due blank
    blank_row sub_set
examples_of_needed_rules = record {
  -- The receiver receives frames 900000 and 900001 unchanged.
  frames_rise = needed 62 _ _ 900000 0 900001 (english_header ∷ row_1 0xA1 ∷ []) refl;
  -- A second bit in the header's address is received wrong, so the receiver misses the header.
  exact_addresses =
      needed 64 _ _ 900000 0 900000 (header_with_two_wrong_bits ∷ time_filling_header ∷ [])
      refl;
  -- The receiver receives only the last packet, with one wrong bit in its page units.
  exact_headers = needed 65 _ _ 900000 2 900000 (header_with_wrong_units ∷ []) refl;
  -- The header does not erase the receiver's old page of question marks.
  subtitle_headers =
      needed 67 _ _ 900000 0 900000 (header_without_c4 ∷ time_filling_header ∷ []) refl;
  -- The byte A0 of row 1 is received as A1.
  odd_rows = needed 68 _ _ 900000 0 900000 exclamation_mark_page refl;
  -- The receiver receives both packets of row 1 unchanged.
  same_rows =
      needed 69 _ _ 900000 0 900000
      (english_header ∷ row_1 0x20 ∷ row_1 0xA1 ∷ time_filling_header ∷ [])
      refl;
  -- The receiver receives all packets unchanged.
  due_content = needed 72 _ _ 900000 0 900000 exclamation_mark_page refl;
  -- The receiver starts at the end of the first frame, after its header.
  headers_in_time = needed 73 _ _ 900000 2 900001 (time_filling_header ∷ []) refl;
}
