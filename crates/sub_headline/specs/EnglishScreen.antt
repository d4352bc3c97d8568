-- The characters that a viewer sees on an English page, as numbers of ISO/IEC 10646 (Unicode).
use Rattle.std.specs.Prelude.{◌≡◌, ◌⊎◌, ℕ, Bool, IsTrue, List, Some, ◌==◌, nat_lt}
use Rattle.std.specs.Prelude.{if◌then◌else◌}
use Rattle.ttx_packet.specs.PageId.{PageIdValue}
use Rattle.ttx_page.specs.DroppedRows.{ExcusedBy}
use Rattle.ttx_page.specs.LostRows.{IsHitOrLost, arrivals_from_flags}
use Rattle.ttx_page.specs.Page.{IsCell, Rows, cell}
use Rattle.ttx_page.specs.PacketKind.{kind}
use Rattle.ttx_page.specs.Receiver.{HearsBy, ReceiverClass, State}
use Rattle.ttx_page.specs.Span.{has_page_header}
use Rattle.stl_file.specs.Subtitle.{SubtitleValue}
use Rattle.sub_rules.specs.Transmission.{Transmission, first_frame, last_frame, on_air}
use Rattle.sub_laws.specs.LostRows.{IsReceivedWithLosses}
use Rattle.sub_headline.specs.EnglishPage.{english_code, english_due_page}

-- The character SPACE, U+0020 of ISO/IEC 10646.
abbrev pub space_character : ℕ
space_character = 0x20

-- The character of a cell with this code (EN 300 706, Latin G0 set, Table 35, with the English
-- national option sub-set, Table 36): the same number, except at 11 of the 13 places of the sub-set
-- and for 7F, a filled rectangle. A spacing attribute is shown as a space. Receivers that are set
-- to region 0000 or 0010 have this sub-set for C12, C13 and C14 clear; in other regions, some of
-- these codes may be other characters.
unfoldable pub english_character : ℕ → ℕ
english_character code =
    if nat_lt code 0x20 then space_character
    else (if 0x23 == code then 0xA3  -- £
    else (if 0x5B == code then 0x2190  -- ←
    else (if 0x5C == code then 0xBD  -- ½
    else (if 0x5D == code then 0x2192  -- →
    else (if 0x5E == code then 0x2191  -- ↑
    else (if 0x5F == code then 0x23  -- #
    else (if 0x60 == code then 0x2014  -- —
    else (if 0x7B == code then 0xBC  -- ¼
    else (if 0x7C == code then 0x2016  -- ‖
    else (if 0x7D == code then 0xBE  -- ¾
    else (if 0x7E == code then 0xF7  -- ÷
    else (if 0x7F == code then 0x25A0  -- ■
    else code))))))))))))

-- The character of a byte of text that has a cell (EBU Tech 3264, code table 00): the same number,
-- except that A4 is a dollar sign, as 24 is, and that a control code is a space.
unfoldable pub text_character : ℕ → ℕ
text_character byte =
    if nat_lt byte 0x20 then space_character else (if 0xA4 == byte then 0x24 else byte)

-- The cell for a byte of text shows the character of that byte. So a viewer of the expected page
-- reads the text of the subtitle file.
abbrev pub LawOfEnglishCharacters : Type 0
LawOfEnglishCharacters =
    (byte code : ℕ)
    → english_code byte ≡ Some code
    → english_character code ≡ text_character byte

-- The character in a cell of an English page. A decoder shows it only inside a box.
abbrev pub english_character_in_cell : Rows → ℕ → ℕ → ℕ
english_character_in_cell page row column = english_character (cell page row column)

-- At the end of frame f, each cell of the decoded page of every receiver shows the character of the
-- expected page, or a space if the cell is excused. The receiver was switched on in frame g, a
-- header of the page was sent since then, and the packets were received as `IsReceivedWithLosses`
-- allows.
abbrev pub EachDecodedPageReads : PageIdValue → List SubtitleValue → Transmission → Type 0
EachDecodedPageReads page subtitles transmission =
    (class : ReceiverClass) (g j f : ℕ) (arrived : List Bool) (got : List (List ℕ))
    (old new : State)
    → IsReceivedWithLosses transmission (first_frame transmission) (last_frame transmission) g j f
    arrived got
    → HearsBy class page old got new
    → IsTrue (has_page_header (kind page) (on_air transmission g j f))
    → (row column : ℕ)
    → IsCell row column
    → (english_character_in_cell new.page row column
    ≡ english_character_in_cell (english_due_page subtitles f) row column)
    ⊎ ((english_character_in_cell new.page row column ≡ space_character)
    × ExcusedBy class
    (IsHitOrLost page (on_air transmission g j f) (arrivals_from_flags arrived got))
    row column)
