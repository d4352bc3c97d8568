-- Sections of tables (ISO/IEC 13818-1, 2.4.4), and the contents of those of a PAT and of a PMT:
--
--   0      table_id: 00 of a PAT, 02 of a PMT
--   1..2   section_syntax_indicator (1 bit), 0, reserved (2), section_length (12): bytes after it
--   3..4   transport_stream_id of a PAT, program_number of a PMT
--   6      section_number
--   8..    of a PAT, for each programme: program_number (16 bits), reserved (3), the PID of its PMT
--          (13); the program_number 0 names a network instead
--   8..9   of a PMT: reserved (3 bits), PCR_PID (13)
--   10..11 of a PMT: reserved (4 bits), program_info_length (12), and so many bytes after it
--   ..     then for each stream: stream_type (8 bits), reserved (3), elementary_PID (13), reserved
--          (4), ES_info_length (12), and so many bytes of descriptors
--   ..     CRC_32
use Rattle.std.specs.Prelude.{ℕ, ◌+◌, ◌-◌, ◌*◌, ◌/◌, ◌%◌, ◌==◌, ◌&&◌, ◌||◌, Bool, min, nat_le}
use Rattle.std.specs.Prelude.{if◌then◌else◌, List, [], ◌∷◌, length, slice_index, bit_xor}
use Rattle.std.specs.Prelude.{Option, Some, None, nat_lt}
use Rattle.std.specs.List.{fold}
use Rattle.ts_survey.specs.declared.section.Announced.{Announced}
use Rattle.ts_survey.specs.declared.section.Descriptor.{Descriptor}
use Rattle.ts_survey.specs.declared.section.Programme.{Programme}
use Rattle.ts_survey.specs.declared.section.SectionName.{SectionName}
use Rattle.ts_survey.specs.declared.section.Stream.{Stream}

-- The 16-bit number at an offset of the bytes.
abbrev pub number_at : List ℕ → ℕ → ℕ
number_at bytes place = slice_index bytes place * 0x100 + slice_index bytes (place + 1)

-- The 12-bit length at an offset of the bytes.
abbrev pub length_at : List ℕ → ℕ → ℕ
length_at bytes place = slice_index bytes place % 0x10 * 0x100 + slice_index bytes (place + 1)

-- The PID, 13 bits, at an offset of the bytes.
abbrev pub pid_at : List ℕ → ℕ → ℕ
pid_at bytes place = slice_index bytes place % 0x20 * 0x100 + slice_index bytes (place + 1)

-- The size of a section in bytes, from its first bytes. `None` if fewer than three bytes are
-- available.
abbrev pub section_size : List ℕ → Option ℕ
section_size bytes = if nat_lt (length bytes) 3 then None else Some (3 + length_at bytes 1)

-- ---- CRC_32 (annex A): the polynomial 04C11DB7, from FFFFFFFF on

-- The CRC_32 after one more bit.
unfoldable pub crc_after_bit : ℕ → ℕ
crc_after_bit crc =
    if nat_le 0x8000_0000 crc then bit_xor (2 * (crc - 0x8000_0000)) 0x04C1_1DB7 else 2 * crc

-- The CRC_32 after one more byte.
unfoldable pub crc_after_byte : ℕ → ℕ → ℕ
crc_after_byte crc byte =
    crc_after_bit (crc_after_bit
    (crc_after_bit (crc_after_bit (crc_after_bit (crc_after_bit (crc_after_bit
    (crc_after_bit (bit_xor crc (byte * 0x100_0000)))))))))

-- The CRC_32 of a list of bytes.
abbrev pub crc_of : List ℕ → ℕ
crc_of bytes = fold crc_after_byte 0xFFFF_FFFF bytes

-- ---- the contents of sections

-- The name of a section, which distinguishes it from other sections: table_id, the number in bytes
-- 3 and 4, and section_number. `None` if the section is shorter than 12 bytes.
abbrev pub section_name_of : List ℕ → Option SectionName
section_name_of s =
    if nat_lt (length s) 12 then None
    else Some (record {
      table = slice_index s 0;
      number = number_at s 3;
      section = slice_index s 6;
    })

-- The bit current_next_indicator of a section: the section applies now, and is not only the next
-- one to apply. False if the section is shorter than six bytes.
abbrev pub is_current : List ℕ → Bool
is_current s = nat_le 6 (length s) && (slice_index s 5 % 2 == 1)

-- The PID of the PMT that a PAT names at an offset; 1FFF if the entry names a network. `None` after
-- the last entry.
abbrev pub pmt_pid_at : List ℕ → ℕ → Option ℕ
pmt_pid_at s place =
    if nat_lt (length s) (place + 8) then None
    else (if number_at s place == 0 then Some 0x1FFF else Some (pid_at s (place + 2)))

-- The programme that a PMT describes, or `None` if the section is shorter than 16 bytes.
abbrev pub programme_of : List ℕ → Option Programme
programme_of s =
    if nat_lt (length s) 16 then None
    else Some (record {
      number = number_at s 3;
      clock_pid = pid_at s 8;
      first = 12 + length_at s 10;
    })

-- The stream that a PMT describes at an offset, or `None` after the last stream.
abbrev pub stream_at : List ℕ → ℕ → Option Stream
stream_at s place =
    if nat_lt (length s) (place + 9) then None
    else Some (record {
      kind = slice_index s place;
      pid = pid_at s (place + 1);
      first = place + 5;
      end = place + 5 + length_at s (place + 3);
    })

-- The descriptor at an offset: descriptor_tag, descriptor_length, and that many bytes, cut off at
-- `end` or at the end of the bytes. `None` if fewer than two bytes are left there.
abbrev pub descriptor_at : List ℕ → ℕ → ℕ → Option Descriptor
descriptor_at bytes place end =
    if nat_lt (min end (length bytes)) (place + 2) then None
    else Some (record {
      tag = slice_index bytes place;
      first = place + 2;
      end = min (place + 2 + slice_index bytes (place + 1)) (min end (length bytes));
    })

-- The descriptor lists Teletext pages: by its descriptor_tag it is a VBI_teletext_descriptor, 46,
-- or a teletext_descriptor, 56 (ETSI EN 300 468).
abbrev pub lists_teletext_pages : Descriptor → Bool
lists_teletext_pages d = (d.tag == 0x46) || (d.tag == 0x56)

-- The page that a teletext_descriptor names at an offset (ETSI EN 300 468): ISO_639_language_code
-- (24 bits), teletext_type (5), teletext_magazine_number (3), teletext_page_number (8). `None` if
-- fewer than five bytes are left before `end`.
abbrev pub page_at : List ℕ → ℕ → ℕ → Option Announced
page_at bytes place end =
    if nat_lt end (place + 5) then None
    else Some (record {
      language = slice_index bytes place ∷ slice_index bytes (place + 1)
          ∷ slice_index bytes (place + 2) ∷ [];
      kind = slice_index bytes (place + 3) / 8;
      magazine = slice_index bytes (place + 3) % 8;
      page = slice_index bytes (place + 4);
    })
