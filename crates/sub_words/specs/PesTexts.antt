-- The options that select PES packets: the PID and the size of transport packets, and the numbers
-- of the PES packets.
use Rattle.std.specs.Prelude.{ℕ, ◌&&◌, ◌==◌, List, length, drop, Option, Some, None, Bool}
use Rattle.std.specs.Prelude.{codes, nat_le, nat_lt, if◌then◌else◌}
use Rattle.std.specs.Char.{is_ascii_hexdigit}
use Rattle.std.specs.List.{after_first, before_first, list_all, position_or_len, starts_with}
use Rattle.std.specs.Option.{option_map_or}
use Rattle.std.specs.Str.{bytes_eq}
use Rattle.std.specs.Str.Parse.{digits_value}
use Rattle.ttx_packet.specs.PacketAddress.{◌>>=◌}
use Rattle.ttx_pes.specs.PesPacketRange.{PesPacketRangeValue, range_of}
use Rattle.mpeg_ts.specs.Pid.{pid_with_number}
use Rattle.mpeg_ts.specs.declared.packet_size.PacketSize.{PacketSize}
use Rattle.mpeg_ts.specs.declared.packet_size.PacketSize.TheVariants.{Plain, TimeStamped}
use Rattle.mpeg_ts.specs.declared.packet_size.PacketSize.TheVariants.{ErrorCorrected}
use Rattle.sub_words.specs.Texts.{number_of_text}

-- ---- the argument of `--pid`

-- The text after a leading `0x`; `None` if the text does not begin with `0x`.
abbrev pub digits_after_0x : List ℕ → Option (List ℕ)
digits_after_0x text =
    if starts_with (λ a b. a == b) text (codes "0x") then Some (drop 2 text) else None

-- The value of one to eight hexadecimal digits, upper or lower case; `None` for any other text.
unfoldable pub number_of_hex_digits : List ℕ → Option ℕ
number_of_hex_digits text =
    if nat_le 1 (length text) && nat_le (length text) 8 && list_all is_ascii_hexdigit text
    then Some (digits_value 16 text)
    else None

-- The PID that a text describes: `0x` and one to eight hexadecimal digits, or one to ten decimal
-- digits; at most 8190; `None` for any other text.
unfoldable pub pid_of_text : List ℕ → Option ℕ
pid_of_text text = do
  number ← option_map_or number_of_hex_digits (digits_after_0x text) (number_of_text text)
  pid_with_number number

-- ---- the argument for the packet size

-- The packet size that a text describes: 188, 192 or 204 bytes; `None` for any other text.
unfoldable pub packet_size_of_text : List ℕ → Option PacketSize
packet_size_of_text text =
    if bytes_eq text (codes "188") then Some Plain
    else if bytes_eq text (codes "192") then Some TimeStamped
    else if bytes_eq text (codes "204") then Some ErrorCorrected
    else None

-- ---- the numbers of the PES packets to read

-- The character between the two numbers of a range: a dash.
abbrev pub dash : ℕ
dash = 0x2D

-- The character is the dash between the numbers of a range.
abbrev pub is_dash : ℕ → Bool
is_dash c = c == dash

-- The texts before and after the first dash; `None` if the text has no dash.
abbrev pub texts_around_dash : List ℕ → Option (List ℕ × List ℕ)
texts_around_dash text =
    if nat_lt (position_or_len is_dash text) (length text)
    then Some (before_first is_dash text, after_first is_dash text)
    else None

-- The range of PES packets from the first number to the last, or to the end of the file if the text
-- of the last number is empty; `None` if a text is no number or the last is before the first.
abbrev pub range_of_numbers : List ℕ → List ℕ → Option PesPacketRangeValue
range_of_numbers first last = do
  first ← number_of_text first
  if length last == 0
      then range_of first None
      else (number_of_text last >>= (λ last. range_of first (Some last)))

-- The range of PES packets that a text describes: `I-J` with I at most J, or `I-` to the end of the
-- file; `None` for any other text.
unfoldable pub range_of_text : List ℕ → Option PesPacketRangeValue
range_of_text text = texts_around_dash text >>= (λ numbers. range_of_numbers numbers.0 numbers.1)
