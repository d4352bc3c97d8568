-- Page numbers as users type them (EN 300 706, page number): a magazine digit 1 to 8 and two
-- hexadecimal digits other than FF, such as 888.
use Rattle.std.specs.Prelude.{ℕ, ◌+◌, ◌-◌, ◌*◌, ◌%◌, Bool, ◌&&◌, List, [], ◌∷◌, Option, Some, None}
use Rattle.std.specs.Prelude.{◌==◌, nat_le, if◌then◌else◌, not}
use Rattle.ttx_packet.specs.PacketAddress.{◌>>=◌}

-- A Teletext page: its magazine, 0 to 7 (0 means magazine 8), and its page number, 0 to FE.
pub record PageIdValue : Type 0 where
  pub magazine : ℕ
  pub page : ℕ

-- The byte is an ASCII character from `first` to `last`.
abbrev pub is_in_range : ℕ → ℕ → ℕ → Bool
is_in_range first last b = nat_le first b && nat_le b last

-- The value of a hexadecimal digit in ASCII, upper or lower case. `None` for any other byte.
abbrev pub hexadecimal_digit : ℕ → Option ℕ
hexadecimal_digit b =
    if is_in_range 0x30 0x39 b then Some (b - 0x30)
    else (if is_in_range 0x61 0x66 b then Some (b - 0x57)
    else (if is_in_range 0x41 0x46 b then Some (b - 0x37) else None))

-- The page with this magazine digit, 1 to 8 in ASCII, and this page number. `None` for any other
-- digit, and for page number FF, which is not displayed.
abbrev pub page_of_numbers : ℕ → ℕ → Option PageIdValue
page_of_numbers digit page =
    if is_in_range 0x31 0x38 digit && not (page == 0xFF)
    then Some (record { magazine = (digit - 0x30) % 8; page = page })
    else None

-- The page that a text of three characters names, such as 888. `None` if the text names no page.
unfoldable pub page_of_text : List ℕ → Option PageIdValue
page_of_text (magazine ∷ tens ∷ units ∷ []) = do
  high ← hexadecimal_digit tens
  low ← hexadecimal_digit units
  page_of_numbers magazine (0x10 * high + low)
page_of_text _ = None
