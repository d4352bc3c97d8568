-- The syntax of the option `--layout`: items joined by commas, without duplicates, in any order.
use Rattle.std.specs.Prelude.{ℕ, ◌+◌, ◌-◌, ◌*◌, Bool, true, false, ◌&&◌, List, [], ◌∷◌, Option}
use Rattle.std.specs.Prelude.{Some, None, codes, drop, length, nat_lt, nat_le, option_map}
use Rattle.std.specs.Prelude.{replicate}
use Rattle.std.specs.Prelude.{slice_index_or, slice_set, ◌==◌, if◌then◌else◌}
use Rattle.std.specs.List.{after_first, before_first, position_or_len, slice_split}
use Rattle.std.specs.Str.{bytes_eq}
use Rattle.ttx_packet.specs.PacketAddress.{◌>>=◌}
use Rattle.stl_rows.specs.declared.layout.Attribute.{Attribute}
use Rattle.stl_rows.specs.declared.layout.Layout.{Layout}
use Rattle.stl_rows.specs.declared.layout.LayoutItems.{LayoutItems}
use Rattle.stl_rows.specs.Layout.{attribute_of, default_items, empty_places}
use Rattle.stl_rows.specs.TextCode.{is_within}

-- ---- separators of a layout's text

-- The comma, which separates the items of a layout.
abbrev pub item_separator : ℕ
item_separator = 0x2C

-- The equals sign, which separates the name and the value of a layout item.
abbrev pub equals_sign : ℕ
equals_sign = 0x3D

-- The asterisk. In the value of the layout item `before`, it marks the place of a line's own
-- leading codes.
abbrev pub asterisk : ℕ
asterisk = 0x2A

-- The text before the first `mark`, and the text after it; the whole text and `None` if the text
-- has no `mark`.
unfoldable pub split_at_mark : ℕ → List ℕ → List ℕ × Option (List ℕ)
split_at_mark mark text =
    if nat_lt (position_or_len (λ c. c == mark) text) (length text)
    then (before_first (λ c. c == mark) text, Some (after_first (λ c. c == mark) text))
    else (text, None)

-- ---- numbers in a layout's text

-- The value of a decimal digit in ASCII; `None` for other characters.
abbrev pub decimal_digit : ℕ → Option ℕ
decimal_digit c = if is_within 0x30 0x39 c then Some (c - 0x30) else None

-- The value of one or two decimal digits; `None` for any other text.
abbrev pub number_of_digits : List ℕ → Option ℕ
number_of_digits (units ∷ []) = decimal_digit units
number_of_digits (tens ∷ units ∷ []) = do
  tens ← decimal_digit tens
  units ← decimal_digit units
  Some (10 * tens + units)
number_of_digits _ = None

-- The value of one or two decimal digits, if it is from `least` to `most`; otherwise `None`.
unfoldable pub number_within : ℕ → ℕ → List ℕ → Option ℕ
number_within least most text = do
  n ← number_of_digits text
  if nat_le least n && nat_le n most then Some n else None

-- The value of the layout item `row`, 0 to 22, with `-` before it to move lines up: how many rows
-- down, and how many rows up. `None` for any other text.
unfoldable pub rows_of_text : List ℕ → Option (ℕ × ℕ)
rows_of_text text =
    if slice_index_or text 0 0 == 0x2D
    then option_map (λ n. (0, n)) (number_within 0 22 (drop 1 text))
    else option_map (λ n. (n, 0)) (number_within 0 22 text)

-- ---- hexadecimal codes in a layout's text

-- The value of a hexadecimal digit in ASCII, upper or lower case; `None` for other characters.
unfoldable pub hex_digit_value : ℕ → Option ℕ
hex_digit_value c =
    if is_within 0x30 0x39 c then Some (c - 0x30)
    else (if is_within 0x41 0x46 c then Some (c - 0x37)
    else (if is_within 0x61 0x66 c then Some (c - 0x57) else None))

-- The byte that two hexadecimal digits describe; `None` if one of them is no such digit.
abbrev pub byte_of_digits : ℕ → ℕ → Option ℕ
byte_of_digits high low = do
  high ← hex_digit_value high
  low ← hex_digit_value low
  Some (16 * high + low)

-- Fills a list of places with the spacing attributes of pairs of hexadecimal digits. The first
-- `filled` places are taken. `None` if a pair is no spacing attribute of a layout, a digit is left
-- over, or there are more pairs than free places.
unfoldable pub places_with_codes :
    List (Option Attribute) → ℕ → List ℕ → Option (List (Option Attribute))
places_with_codes places filled [] = Some places
places_with_codes places filled (high ∷ []) = None
places_with_codes places filled (high ∷ low ∷ digits) = do
  code ← byte_of_digits high low
  attribute ← attribute_of code
  if nat_lt filled (length places)
      then places_with_codes (slice_set places filled (Some attribute)) (filled + 1) digits
      else None

-- The spacing attributes of pairs of hexadecimal digits: at most `most`, each from 01 to 0D. `None`
-- for any other text.
abbrev pub codes_of_text : ℕ → List ℕ → Option (List (Option Attribute))
codes_of_text most text = places_with_codes (empty_places most) 0 text

-- Adds the bytes of pairs of hexadecimal digits to the bytes of the layout item `strip`. `None` if
-- a pair is not 00 to 1F, a byte is a duplicate, or a digit is left over.
unfoldable pub strip_with_bytes : List Bool → List ℕ → Option (List Bool)
strip_with_bytes strip [] = Some strip
strip_with_bytes strip (high ∷ []) = None
strip_with_bytes strip (high ∷ low ∷ digits) = do
  code ← byte_of_digits high low
  if slice_index_or strip code true then None
      else strip_with_bytes (slice_set strip code true) digits

-- The codes of the layout item `before`, given the parts of its value around `*`. `None` if a part
-- is no list of codes, or there are more than 6 codes in total.
abbrev pub before_codes_of_parts :
    List ℕ → Option (List ℕ) → Option (List (Option Attribute) × List (Option Attribute))
before_codes_of_parts ahead None = option_map (λ codes. (codes, empty_places 6))
    (codes_of_text 6 ahead)
before_codes_of_parts ahead (Some following) = do
  first ← codes_of_text 6 ahead
  second ← codes_of_text 6 following
  if nat_le (length ahead + length following) 12 then Some (first, second) else None

-- The codes of the layout item `before`: those before a line's own leading codes, and those after
-- them. `None` if the value is not valid.
unfoldable pub before_codes_of_text :
    List ℕ → Option (List (Option Attribute) × List (Option Attribute))
before_codes_of_text text =
    let parts : List ℕ × Option (List ℕ) = split_at_mark asterisk text in before_codes_of_parts
    parts.0 parts.1

-- ---- layout items by name and value

-- Sets the layout item with this name, which takes no value. Returns the number of the item, to
-- find duplicates, and the changed items; `None` if there is no such item.
unfoldable pub items_with_flag : LayoutItems → List ℕ → Option (ℕ × LayoutItems)
items_with_flag items name =
    if bytes_eq name (codes "fit") then Some (0, record items { fit = true })
    else (if bytes_eq name (codes "white") then Some (1, record items { white = true })
    else (if bytes_eq name (codes "trim") then Some (2, record items { trim = true })
    else (if bytes_eq name (codes "text") then Some (3, record items { text = true })
    else (if bytes_eq name (codes "up") then Some (4, record items { up = true })
    else (if bytes_eq name (codes "double") then Some (5, record items { double = true })
    else (if bytes_eq name (codes "pack") then Some (6, record items { pack = true })
    else (if bytes_eq name (codes "last") then Some (7, record items { last = true })
    else None)))))))

-- Sets the layout item with this name to a decimal value. Returns the number of the item, to find
-- duplicates, and the changed items; `None` if there is no such item or the value is not valid.
unfoldable pub items_with_number : LayoutItems → List ℕ → List ℕ → Option (ℕ × LayoutItems)
items_with_number items name value =
    if bytes_eq name (codes "left")
    then option_map (λ n. (11, record items { left = n })) (number_within 0 39 value)
    else (if bytes_eq name (codes "right")
    then option_map (λ n. (12, record items { right = n })) (number_within 0 39 value)
    else (if bytes_eq name (codes "free")
    then option_map (λ n. (13, record items { free_jc = n })) (number_within 1 3 value)
    else (if bytes_eq name (codes "row")
    then option_map (λ (r : ℕ × ℕ). (14, record items { rows_down = r.0; rows_up = r.1 }))
    (rows_of_text value)
    else None)))

-- Sets the layout item with this name to a value. Returns the number of the item, to find
-- duplicates, and the changed items; `None` if there is no such item or the value is not valid.
unfoldable pub items_with_value : LayoutItems → List ℕ → List ℕ → Option (ℕ × LayoutItems)
items_with_value items name value =
    if bytes_eq name (codes "strip")
    then option_map (λ s. (8, record items { strip = s }))
    (strip_with_bytes (replicate 32 false) value)
    else (if bytes_eq name (codes "before")
    then option_map
    (λ (b : List (Option Attribute) × List (Option Attribute)).
    (9, record items { ahead = b.0; following = b.1 }))
    (before_codes_of_text value)
    else (if bytes_eq name (codes "after")
    then option_map (λ a. (10, record items { after = a })) (codes_of_text 4 value)
    else items_with_number items name value))

-- Sets the layout item with this name, with or without a value. Returns the number of the item, to
-- find duplicates, and the changed items; `None` if the item is not valid.
abbrev pub items_with_parts : LayoutItems → List ℕ → Option (List ℕ) → Option (ℕ × LayoutItems)
items_with_parts items name None = items_with_flag items name
items_with_parts items name (Some value) = items_with_value items name value

-- Sets the layout item that a text names, with the value after an equals sign, if any. Returns the
-- number of the item, to find duplicates, and the changed items; `None` if the item is not valid.
unfoldable pub items_with_item : LayoutItems → List ℕ → Option (ℕ × LayoutItems)
items_with_item items text =
    let parts : List ℕ × Option (List ℕ) = split_at_mark equals_sign text in
    items_with_parts items parts.0 parts.1

-- Sets the layout items that several texts name. `None` if a text is no valid item, or names an
-- item that was already set.
unfoldable pub items_with_all : LayoutItems → List Bool → List (List ℕ) → Option LayoutItems
items_with_all items already_set [] = Some items
items_with_all items already_set (text ∷ texts) = do
  next ← items_with_item items text
  if slice_index_or already_set next.0 true
      then None
      else items_with_all next.1 (slice_set already_set next.0 true) texts

-- The layout that a text describes; `None` if the text does not match the syntax.
unfoldable pub layout_of_text : List ℕ → Option Layout
layout_of_text text =
    option_map (λ items. record { items = Some items })
    (items_with_all default_items (replicate 15 false) (slice_split (λ c. c == item_separator)
    text))
