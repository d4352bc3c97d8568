-- Lines that the program prints, and parts of lines. Each line ends with one newline.
use Rattle.std.specs.Prelude.{ℕ, ◌+◌, ◌/◌, ◌%◌, ◌==◌, ◌&&◌, nat_le, List, [], ◌∷◌, ◌++◌, codes}
use Rattle.std.specs.Prelude.{decimal, map, min, length, Bool, if◌then◌else◌, slice_index}
use Rattle.ttx_packet.specs.Parity.{is_odd, character_code}
use Rattle.ttx_packet.specs.PageHeader.{c4, c5, c6, c7, c8, c9, c10, c11, c12, c13, c14}
use Rattle.ttx_packet.specs.declared.Header.{Header}
use Rattle.hex.specs.Hex.{encode_lower}
use Rattle.ttx_pes.specs.DataUnit.{UnitValue}
use Rattle.stl_file.specs.Gsi.{five_digits}
use Rattle.stl_file.specs.Subtitle.{SubtitleValue}

-- The printed character of a cell's code: codes 20 to 7E as ASCII, any other code as a full stop.
abbrev pub printed_character : ℕ → ℕ
printed_character code = if nat_le 0x20 code && nat_le code 0x7E then code else 0x2E

-- The printed character of a text byte with odd parity, or `?` if its parity is even.
abbrev pub printed_text_character : ℕ → ℕ
printed_text_character byte = if is_odd byte then printed_character (character_code byte) else 0x3F

-- An upper case hexadecimal digit, given its value 0 to 15.
abbrev pub hex_digit : ℕ → ℕ
hex_digit n = slice_index (codes "0123456789ABCDEF") n

-- The two upper case hexadecimal digits of a byte.
unfoldable pub hex_digits_of_byte : ℕ → List ℕ
hex_digits_of_byte n = hex_digit (n / 16) ∷ hex_digit (n % 16) ∷ []

-- The printed number of a magazine, 1 to 8. Magazine 8 is coded as 0.
abbrev pub printed_magazine : ℕ → ℕ
printed_magazine magazine = if magazine == 0 then 8 else magazine

-- The line with the magazine, 1 to 8, and the packet number of a Teletext packet.
abbrev pub address_line : ℕ → ℕ → List ℕ
address_line magazine packet_number = codes "magazine " ++ decimal (printed_magazine magazine)
    ++ codes " packet " ++ decimal packet_number ++ codes "\n"

-- The text `name`, which is a space and the name of a control bit, if the bit is set; otherwise no
-- text.
abbrev pub name_if_set : Bool → List ℕ → List ℕ
name_if_set bit name = if bit then name else []

-- The names of the control bits that are set, in rising order, each after a space.
abbrev pub control_names : Header → List ℕ
control_names h = name_if_set (c4 h) (codes " C4") ++ name_if_set (c5 h) (codes " C5")
    ++ name_if_set (c6 h) (codes " C6") ++ name_if_set (c7 h) (codes " C7") ++ name_if_set (c8 h)
    (codes " C8")
    ++ name_if_set (c9 h) (codes " C9") ++ name_if_set (c10 h) (codes " C10")
    ++ name_if_set (c11 h) (codes " C11") ++ name_if_set (c12 h) (codes " C12")
    ++ name_if_set (c13 h) (codes " C13") ++ name_if_set (c14 h) (codes " C14")

-- The names of the control bits that are set, or ` none`.
abbrev pub control_list : Header → List ℕ
control_list h =
    if length (control_names h) == 0 then codes " none" else control_names h

-- The line with the contents of a page header: page number and subcode in hexadecimal, and the
-- control bits.
abbrev pub header_line : Header → List ℕ
header_line h = codes "page " ++ hex_digits_of_byte h.page ++ codes " subcode "
    ++ hex_digits_of_byte (h.subcode / 256) ++ hex_digits_of_byte (h.subcode % 256)
    ++ codes " control" ++ control_list h ++ codes "\n"

-- The line with the text of a Teletext packet between bars.
abbrev pub text_line : List ℕ → List ℕ
text_line bytes = codes "text |" ++ map printed_text_character bytes ++ codes "|\n"

-- The number of a PES packet in its file, counted from 0, given its index counted from the PES
-- packet with the number `first`. A number above 2^64 - 1 is printed as 2^64 - 1.
unfoldable pub number_in_file : ℕ → ℕ → ℕ
number_in_file first index = min (first + index) 0xFFFF_FFFF_FFFF_FFFF

-- The line of a PES packet: its number in its file, and its PTS.
abbrev pub pes_line : ℕ → ℕ → List ℕ
pes_line number pts = codes "pes " ++ decimal number ++ codes " pts " ++ decimal pts ++ codes "\n"

-- The line of a Teletext unit: its number among the Teletext units of its PES packet, from 0;
-- data_unit_id; the field, 1 or 2; line_offset; and the packet's 42 bytes in the bit order of
-- Teletext.
abbrev pub unit_line : ℕ → UnitValue → List ℕ
unit_line number u = codes "unit " ++ decimal number ++ codes " id 0" ++ decimal u.id
    ++ codes " field " ++ decimal u.field ++ codes " line " ++ decimal u.line ++ codes " "
    ++ encode_lower u.packet ++ codes "\n"

-- The two decimal digits of a number below 100.
unfoldable pub two_digits : ℕ → List ℕ
two_digits n = (0x30 + n / 10) ∷ (0x30 + n % 10) ∷ []

-- A frame of the day as `HH:MM:SS:FF`, at 25 frames a second (EBU Tech 3264, TCI and TCO).
unfoldable pub time_text : ℕ → List ℕ
time_text frame = two_digits (frame / 90000) ++ codes ":" ++ two_digits ((frame / 1500) % 60)
    ++ codes ":" ++ two_digits ((frame / 25) % 60) ++ codes ":" ++ two_digits (frame % 25)

-- The text of a subtitle in hexadecimal, or a hyphen if it is empty (not defined by a standard).
unfoldable pub text_digits : List ℕ → List ℕ
text_digits text = if length text == 0 then codes "-" else encode_lower text

-- The line of a subtitle: its number SN in five digits, the time codes TCI and TCO, the vertical
-- position, the justification code and the bytes of its text.
abbrev pub subtitle_line : SubtitleValue → List ℕ
subtitle_line s = five_digits s.sn ++ codes " " ++ time_text s.tci ++ codes " " ++ time_text s.tco
    ++ codes " vp " ++ decimal s.vp ++ codes " jc " ++ decimal s.jc
    ++ codes " text " ++ text_digits s.text ++ codes "\n"
