-- The texts of options: numbers and times (of several commands), and the lists of numbers, flips
-- and the receiver of `listen`.
use Rattle.std.specs.Prelude.{ℕ, ◌+◌, ◌-◌, ◌*◌, Bool, ◌&&◌, List, [], ◌∷◌, ◌++◌, length}
use Rattle.std.specs.Prelude.{Option, Some, None, codes, slice_index, if◌then◌else◌, ◌==◌, nat_le}
use Rattle.std.specs.Char.{is_ascii_digit}
use Rattle.std.specs.List.{list_all, list_any, slice_split}
use Rattle.std.specs.Str.{bytes_eq}
use Rattle.std.specs.Str.Parse.{digits_value}
use Rattle.ttx_packet.specs.PacketAddress.{◌>>=◌}
use Rattle.stl_file.specs.TimeCode.{frame_of, is_time_code}
use Rattle.sub_request.specs.declared.listening.Flip.{Flip}
use Rattle.sub_request.specs.declared.listening.ReceiverKind.{ReceiverKind}
use Rattle.sub_request.specs.declared.listening.ReceiverKind.TheVariants.{BlankEachHeader, Blank}
use Rattle.sub_request.specs.declared.listening.ReceiverKind.TheVariants.{DropRow, Keep}

-- ---- decimal numbers

-- The value of one to ten decimal digits, with leading zeros allowed; `None` for any other text.
unfoldable pub number_of_text : List ℕ → Option ℕ
number_of_text text =
    if nat_le 1 (length text) && nat_le (length text) 10 && list_all is_ascii_digit text
    then Some (digits_value 10 text)
    else None

-- ---- lists of arguments

-- The comma, which separates the items of a list.
abbrev pub comma : ℕ
comma = 0x2C

-- The colon, which separates the fields of a time and of a flip.
abbrev pub colon : ℕ
colon = 0x3A

-- The items so far, followed by the items of more texts. `None` if a text is no item, or if an item
-- equals an earlier item by the test `same`.
abbrev pub list_after_texts :
    {A : Type 0} → (List ℕ → Option A) → (A → A → Bool) → List A → List (List ℕ)
    → Option (List A)
list_after_texts parsed same items [] = Some items
list_after_texts parsed same items (text ∷ texts) = do
  x ← parsed text
  if list_any (same x) items then None else list_after_texts parsed same (items ++ x ∷ []) texts

-- The list that a text describes: 1 to 64 items, separated by commas, none of which equals an
-- earlier item by the test `same`; `None` for any other text.
abbrev pub list_of_text :
    {A : Type 0} → (List ℕ → Option A) → (A → A → Bool) → List ℕ → Option (List A)
list_of_text parsed same text =
    let texts = slice_split (λ c. c == comma) text in
    if nat_le (length texts) 64 then list_after_texts parsed same [] texts else None

-- ---- the bits to flip

-- The flip that three texts describe: the number of a packet, a byte from 0 to 41, and a bit from 1
-- to 8; `None` for any other texts.
abbrev pub flip_of_fields : List (List ℕ) → Option Flip
flip_of_fields (packet ∷ byte ∷ bit ∷ []) = do
  packet ← number_of_text packet
  byte ← number_of_text byte
  bit ← number_of_text bit
  if nat_le byte 41 && nat_le 1 bit && nat_le bit 8
      then Some (record { packet = packet; byte = byte; bit = bit })
      else None
flip_of_fields _ = None

-- The flip that a text describes: packet, byte and bit, separated by colons; `None` for any other
-- text.
unfoldable pub flip_of_text : List ℕ → Option Flip
flip_of_text text = flip_of_fields (slice_split (λ c. c == colon) text)

-- The two flips are in the same byte of the same packet.
abbrev pub is_same_byte : Flip → Flip → Bool
is_same_byte a b = (a.packet == b.packet) && (a.byte == b.byte)

-- The flips that a text describes, 1 to 64, separated by commas, at most one in each byte of a
-- packet; `None` for any other text.
unfoldable pub flips_of_text : List ℕ → Option (List Flip)
flips_of_text text = list_of_text flip_of_text is_same_byte text

-- ---- times of day (TIME)

-- The value of the two decimal digits at a place of a text; `None` if either is no digit.
unfoldable pub two_digits_at : List ℕ → ℕ → Option ℕ
two_digits_at text place =
    let tens = slice_index text place in
    let units = slice_index text (place + 1) in
    if is_ascii_digit tens && is_ascii_digit units
    then Some (10 * (tens - 0x30) + (units - 0x30))
    else None

-- The text has eleven bytes, with colons at the places 2, 5 and 8.
abbrev pub has_colons : List ℕ → Bool
has_colons text =
    (length text == 11)
    && (slice_index text 2 == colon)
    && (slice_index text 5 == colon)
    && (slice_index text 8 == colon)

-- The frame of the day for the text of a time code with four pairs of digits; `None` if a pair is
-- not two digits, or the time code is invalid (EBU Tech 3264, TCI and TCO).
abbrev pub frame_of_digits : List ℕ → Option ℕ
frame_of_digits text = do
  hours ← two_digits_at text 0
  minutes ← two_digits_at text 3
  seconds ← two_digits_at text 6
  frames ← two_digits_at text 9
  if is_time_code hours minutes seconds frames
      then Some (frame_of hours minutes seconds frames)
      else None

-- The frame of the day that a text `HH:MM:SS:FF` describes, two digits each; `None` for any other
-- text, and for an invalid time code.
unfoldable pub frame_of_text : List ℕ → Option ℕ
frame_of_text text = if has_colons text then frame_of_digits text else None

-- ---- the state of the receiver

-- The receiver that a text names: `blank`, `keep`, `drop` or `anew`; `None` for any other text.
unfoldable pub receiver_of_text : List ℕ → Option ReceiverKind
receiver_of_text text =
    if bytes_eq text (codes "blank") then Some Blank
    else if bytes_eq text (codes "keep") then Some Keep
    else if bytes_eq text (codes "drop") then Some DropRow
    else if bytes_eq text (codes "anew") then Some BlankEachHeader
    else None
