-- The text of a subtitle (EBU Tech 3264, TTI block, field TF) as text codes: the cells of its bytes
-- on a Teletext page of level 1 (EN 300 706, Latin G0 set with a national option sub-set).
use Rattle.std.specs.Prelude.{ℕ, zero, suc, ◌+◌, Bool, ◌&&◌, ◌||◌, List, [], ◌∷◌, Option}
use Rattle.std.specs.Prelude.{Some, None, option_and_then, option_map, unwrap_or, ◌==◌, nat_lt}
use Rattle.std.specs.Prelude.{nat_le, if◌then◌else◌, ⊤}
use Rattle.std.specs.List.{filter_map, onto_first}
use Rattle.ttx_page.specs.Page.{IsCode}
use Rattle.stl_rows.specs.declared.text_code.TextCode.{TextCode}
use Rattle.stl_rows.specs.declared.text_code.TextCode.TheVariants.{Cell, NoCell, NewLine, Refused}
use Rattle.stl_rows.specs.declared.national.National.{National}
use Rattle.stl_rows.specs.declared.fault.RowFault.{RowFault}
use Rattle.stl_rows.specs.declared.fault.RowFaultKind.{RowFaultKind}
use Rattle.stl_rows.specs.declared.fault.RowFaultKind.TheVariants.{Character, Control}
use Rattle.stl_rows.specs.SubSets.{cell_of_character, sub_set}

-- ---- kinds of bytes in a text

-- The byte of a text that ends a line.
abbrev pub new_line : ℕ
new_line = 0x8A

-- The byte is in the range from `first` to `last`, bounds included.
abbrev pub is_within : ℕ → ℕ → ℕ → Bool
is_within first last byte = nat_le first byte && nat_le byte last

-- The byte switches italics, underline or boxing on or off, so it has no cell.
abbrev pub is_style_code : ℕ → Bool
is_style_code byte = is_within 0x80 0x85 byte

-- The byte is a control code: 00 to 1F or 80 to 9F.
abbrev pub is_control : ℕ → Bool
is_control byte = nat_lt byte 0x20 || is_within 0x80 0x9F byte

-- The byte is in column C of code table 00, the diacritical marks, each of which precedes its
-- letter.
abbrev pub is_diacritical : ℕ → Bool
is_diacritical byte = is_within 0xC0 0xCF byte

-- The byte has a cell with the byte's own number in every national option: code table 00 of EBU
-- Tech 3264 and the Latin G0 set of EN 300 706 agree.
unfoldable pub is_common : ℕ → Bool
is_common byte =
    -- Bytes 01 to 0D: alpha colours, flash, steady, end box, start box, normal height, double
    -- height.
    is_within 0x01 0x0D byte
    -- Bytes 1C and 1D: black background, new background.
    || is_within 0x1C 0x1D byte
    -- Bytes 20 to 22: space, exclamation mark, quotation mark.
    || is_within 0x20 0x22 byte
    -- Bytes 25 to 3F: percent sign to full stop, solidus, digits, colon to question mark.
    || is_within 0x25 0x3F byte
    -- Bytes 41 to 5A: capital letters.
    || is_within 0x41 0x5A byte
    -- Bytes 61 to 7A: small letters.
    || is_within 0x61 0x7A byte

-- ---- the text codes of single bytes and pairs

-- The cell of a single byte: the byte's own number, or the place of a character of the national
-- option. `None` if the byte has no cell.
unfoldable pub cell_of : National → ℕ → Option ℕ
cell_of national byte =
    if is_common byte then Some byte else cell_of_character (sub_set national).characters None byte

-- The text code of a byte without a cell: no cell, a new line, or a rejected byte.
unfoldable pub code_without_cell : ℕ → TextCode
code_without_cell byte =
    if is_style_code byte then NoCell
    else (if byte == new_line then NewLine
    else (if is_control byte then Refused Control else Refused Character))

-- The text code of a single byte.
abbrev pub text_code : National → ℕ → TextCode
text_code national byte = unwrap_or (option_map Cell (cell_of national byte))
    (code_without_cell byte)

-- The cell of a pair of bytes, a diacritical mark and its letter; `None` if the bytes are no such
-- pair, or the national option has no such character. A mark outside such a pair is rejected, since
-- without its accent the letter would show a different word.
unfoldable pub cell_of_pair : National → ℕ → Option ℕ → Option ℕ
cell_of_pair national byte next =
    if is_diacritical byte
    then option_and_then (cell_of_character (sub_set national).characters (Some byte)) next
    else None

-- ---- the text codes and lines of a whole text

-- The first element of a list; `None` if the list is empty.
abbrev pub first_of : {A : Type 0} → List A → Option A
first_of [] = None
first_of (x ∷ xs) = Some x

-- The text code that begins with `byte`, and the number of further bytes that belong to the code: 1
-- if the byte and the next byte are a pair with one cell, otherwise 0.
abbrev pub code_and_extra_bytes : National → ℕ → List ℕ → TextCode × ℕ
code_and_extra_bytes national byte bytes =
    unwrap_or
    (option_map (λ code. (Cell code, 1)) (cell_of_pair national byte (first_of bytes)))
    (text_code national byte, 0)

-- The text codes of bytes, each with the place of its first byte; the first of the bytes is at
-- `place`. The first `taken` bytes belong to the text code before them, and give no text code.
abbrev pub text_codes_after_skip : National → ℕ → ℕ → List ℕ → List (ℕ × TextCode)
text_codes_after_skip national place taken [] = []
text_codes_after_skip national place (suc taken) (byte ∷ bytes) = text_codes_after_skip national
    (place + 1) taken bytes
text_codes_after_skip national place zero (byte ∷ bytes) =
    (place, (code_and_extra_bytes national byte bytes).0)
    ∷ text_codes_after_skip national (place + 1) (code_and_extra_bytes national byte bytes).1 bytes

-- The text codes of bytes, each with the place of its first byte; the first of the bytes is at
-- `place`.
abbrev pub text_codes : National → ℕ → List ℕ → List (ℕ × TextCode)
text_codes national place bytes = text_codes_after_skip national place 0 bytes

-- The fault of the given kind at a place: the index of a byte, or the number of a line.
abbrev pub fault_of : ℕ → RowFaultKind → RowFault
fault_of place kind = record { kind = kind; at = place }

-- If the text code is a rejected byte, the fault of this byte, at its place; otherwise `None`.
abbrev pub fault_of_code : ℕ → TextCode → Option RowFault
fault_of_code place (Refused kind) = Some (fault_of place kind)
fault_of_code place _ = None

-- The faults of all rejected text codes, in the order of their bytes.
abbrev pub faults_of_codes : List (ℕ × TextCode) → List RowFault
faults_of_codes codes = filter_map (λ (c : ℕ × TextCode). fault_of_code c.0 c.1) codes

-- If the text code has a cell, the code of the cell has 7 bits.
abbrev pub HasSevenBits : TextCode → Type 0
HasSevenBits (Cell code) = IsCode code
HasSevenBits _ = ⊤

-- Puts the cell of a text code in front of lines of cells. A new line starts another line, and any
-- other text code changes nothing.
abbrev pub lines_with_code : TextCode → List (List ℕ) → List (List ℕ)
lines_with_code (Cell code) lines = onto_first code lines
lines_with_code NewLine lines = [] ∷ lines
lines_with_code _ lines = lines

-- The lines of cells of text codes. New lines separate them, so the number of lines is one more
-- than the number of new lines.
abbrev pub lines_of_codes : List (ℕ × TextCode) → List (List ℕ)
lines_of_codes [] = [] ∷ []
lines_of_codes (c ∷ codes) = lines_with_code c.1 (lines_of_codes codes)
