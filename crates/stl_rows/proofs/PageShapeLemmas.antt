-- Each expected page has 24 rows of 40 codes below 128. The lines of a text have only codes below
-- 128, before and after a layout prepares the lines.
use Rattle.std.proofs.Common.{◌≡◌, ℕ, zero, suc, ◌+◌, ◌<◌, List, [], ◌∷◌, ◌++◌, map, get_or, refl}
use Rattle.std.proofs.Common.{Bool, false, Ok, Option, Some, None, arith, drop, length, lit<, take}
use Rattle.std.specs.List.{range_with_len, AllByRecursion}
use Rattle.std.proofs.lemmas.Bool.Decides.{nat_tests}
use Rattle.std.proofs.lemmas.List.FromFn.{get_or-map-range_with_len, length-map-range_with_len}
use Rattle.ttx_page.specs.Page.{IsPage, Rows, blank_row}
use Rattle.ttx_page.proofs.PageLemmas.{blank_is_page}
use Rattle.stl_file.specs.Subtitle.{SubtitleValue}
use Rattle.stl_rows.specs.declared.layout.Attribute.{Attribute}
use Rattle.stl_rows.specs.declared.layout.Drawing.{Drawing}
use Rattle.stl_rows.specs.declared.layout.LayoutItems.{LayoutItems}
use Rattle.stl_rows.specs.declared.national.National.{National}
use Rattle.stl_rows.specs.declared.text_code.TextCode.{TextCode}
use Rattle.stl_rows.specs.DrawnPage.{drawn, lines_by_layout, page_of_placed, pitch}
use Rattle.stl_rows.specs.DrawnPage.{placed_lines_from, shown_row, text_after_strip}
use Rattle.stl_rows.specs.DuePage.{due}
use Rattle.stl_rows.specs.Layout.{attribute_code, codes_of_places, items_of_layout}
use Rattle.stl_rows.specs.Line.{has_double_height}
use Rattle.stl_rows.specs.PreparedLine.{codes_to_append, line_with_layout_codes}
use Rattle.stl_rows.specs.PreparedLine.{line_with_before_codes, prepared_by_layout}
use Rattle.stl_rows.specs.PreparedLine.{row_starting_at, start_column_by_layout}
use Rattle.stl_rows.specs.PreparedLine.{trimmed, codes_with_colour}
use Rattle.stl_rows.specs.TextCode.{HasSevenBits, code_and_extra_bytes, text_codes_after_skip}
use Rattle.stl_rows.specs.TextCode.{lines_of_codes}
use Rattle.stl_rows.specs.TextCode.{lines_with_code}
use Rattle.stl_rows.proofs.DuePageLemmas.{due_has_property}
use Rattle.stl_rows.proofs.LaidOutLemmas.{drawn_by-lines, shift_of_subtitle}
use Rattle.stl_rows.proofs.LineLemmas.{AreSevenBitCodes, property_holds_at_index}
use Rattle.stl_rows.proofs.LineLemmas.{property_holds_on_map, row_has_40_columns}
use Rattle.stl_rows.proofs.LineLemmas.{row_is_seven_bit}
use Rattle.stl_rows.proofs.TextCodeLemmas.{code_and_extra_bytes-small}

code_keeps_lines_seven_bit : (s : TextCode) (ls : List (List ℕ))
    → HasSevenBits s
    → AllByRecursion AreSevenBitCodes ls
    → AllByRecursion AreSevenBitCodes (lines_with_code s ls)
code_keeps_lines_seven_bit s ls l h = grind (arith, nat_tests)

pub text_lines_are_seven_bit : (national : National) (at skip : ℕ) (bytes : List ℕ)
    → AllByRecursion AreSevenBitCodes
    (lines_of_codes (text_codes_after_skip national at skip bytes))
text_lines_are_seven_bit national at skip [] = (tt, tt)
text_lines_are_seven_bit national at (suc skip) (b ∷ bytes) = text_lines_are_seven_bit national
    (at + 1) skip bytes
text_lines_are_seven_bit national at zero (b ∷ bytes) =
    let s = code_and_extra_bytes national b bytes in
    code_keeps_lines_seven_bit s.0
    (lines_of_codes (text_codes_after_skip national (at + 1) s.1 bytes))
    (code_and_extra_bytes-small national b bytes) (text_lines_are_seven_bit national (at + 1) s.1
    bytes)

append_stays_seven_bit : (xs ys : List ℕ) → AreSevenBitCodes xs → AreSevenBitCodes ys →
    AreSevenBitCodes
    (xs ++ ys)
append_stays_seven_bit [] ys h k = k
append_stays_seven_bit (x ∷ xs) ys h k = (h.0, append_stays_seven_bit xs ys h.1 k)

take_stays_seven_bit : (n : ℕ) (xs : List ℕ) → AreSevenBitCodes xs → AreSevenBitCodes (take n xs)
take_stays_seven_bit zero xs h = tt
take_stays_seven_bit (suc n) [] h = tt
take_stays_seven_bit (suc n) (x ∷ xs) h = (h.0, take_stays_seven_bit n xs h.1)

drop_stays_seven_bit : (n : ℕ) (xs : List ℕ) → AreSevenBitCodes xs → AreSevenBitCodes (drop n xs)
drop_stays_seven_bit zero xs h = h
drop_stays_seven_bit (suc n) [] h = tt
drop_stays_seven_bit (suc n) (x ∷ xs) h = drop_stays_seven_bit n xs h.1

attribute_code_is_seven_bit : (a : Attribute) → attribute_code a < 128
unfolding attribute_code
attribute_code_is_seven_bit a = grind (arith, nat_tests)

attribute_codes_are_seven_bit : (places : List (Option Attribute)) → AreSevenBitCodes
    (codes_of_places places)
attribute_codes_are_seven_bit [] = tt
attribute_codes_are_seven_bit (None ∷ places) = attribute_codes_are_seven_bit places
attribute_codes_are_seven_bit
    (Some a ∷ places) = (attribute_code_is_seven_bit a, attribute_codes_are_seven_bit places)

whitened_codes_are_seven_bit : (items : LayoutItems) (codes : List ℕ) → AreSevenBitCodes codes
    → AreSevenBitCodes (codes_with_colour items codes)
whitened_codes_are_seven_bit items codes h = grind (
  arith,
  nat_tests,
  append_stays_seven_bit codes
      (0x07 ∷ []) h,
)

ending_codes_are_seven_bit : (items : LayoutItems) (n : ℕ) → AreSevenBitCodes
    (codes_to_append items n)
ending_codes_are_seven_bit items n = grind (
  arith,
  nat_tests,
  attribute_codes_are_seven_bit
      items.after,
  take_stays_seven_bit,
)

headed_line_is_seven_bit : (items : LayoutItems) (cells : List ℕ) → AreSevenBitCodes cells →
    AreSevenBitCodes
    (line_with_before_codes items cells)
unfolding line_with_before_codes
headed_line_is_seven_bit items cells h =
    grind (
      arith,
      nat_tests,
      append_stays_seven_bit,
      attribute_codes_are_seven_bit,
      whitened_codes_are_seven_bit,
      take_stays_seven_bit,
      drop_stays_seven_bit,
    )

framed_line_is_seven_bit : (items : LayoutItems) (cells : List ℕ) → AreSevenBitCodes cells →
    AreSevenBitCodes
    (line_with_layout_codes items cells)
unfolding line_with_layout_codes
framed_line_is_seven_bit items [] h = tt
framed_line_is_seven_bit items (c ∷ cells) h =
    append_stays_seven_bit (line_with_before_codes items (c ∷ cells)) _ (headed_line_is_seven_bit
    items (c ∷ cells) h)
    (ending_codes_are_seven_bit items (length (line_with_before_codes items (c ∷ cells))))

trimmed_line_is_seven_bit : (cells : List ℕ) → AreSevenBitCodes cells → AreSevenBitCodes
    (trimmed cells)
unfolding trimmed
trimmed_line_is_seven_bit cells h = take_stays_seven_bit _ _ (drop_stays_seven_bit _ cells h)

pub prepared_line_is_seven_bit : (items : LayoutItems) (cells : List ℕ) → AreSevenBitCodes cells
    → AreSevenBitCodes (prepared_by_layout items cells)
unfolding prepared_by_layout
prepared_line_is_seven_bit items cells h = grind (
  arith,
  nat_tests,
  framed_line_is_seven_bit,
  trimmed_line_is_seven_bit,
)

prepared_lines_are_seven_bit : (items : LayoutItems) (ls : List (List ℕ))
    → AllByRecursion AreSevenBitCodes ls
    → AllByRecursion AreSevenBitCodes (map (prepared_by_layout items) ls)
prepared_lines_are_seven_bit items [] h = tt
prepared_lines_are_seven_bit items (l ∷ ls) h = (
  prepared_line_is_seven_bit items l h.0,
  prepared_lines_are_seven_bit items ls h.1,
)

record IsRowOfCodes (codes : List ℕ) : Type 0 where
  columns : length codes ≡ 40
  small : AreSevenBitCodes codes

blank_row_has_codes : IsRowOfCodes blank_row
unfolding blank_row
blank_row_has_codes = record { columns = refl; small = grind (arith, nat_tests) }

row_from_line_has_codes : (start : ℕ) (line : List ℕ) → AreSevenBitCodes line → IsRowOfCodes
    (row_starting_at start line)
row_from_line_has_codes start line h = record {
  columns = row_has_40_columns start line;
  small = row_is_seven_bit start line h;
}

shown_row_has_codes : (items : LayoutItems) (jc row_shift row number depth : ℕ) (under : Bool)
    (lines : List (List ℕ))
    → AllByRecursion AreSevenBitCodes lines
    → IsRowOfCodes (shown_row items jc row_shift (placed_lines_from items number depth under lines)
    row)
shown_row_has_codes items jc row_shift row number depth under [] h = blank_row_has_codes
shown_row_has_codes items jc row_shift row number depth under (line ∷ lines) h =
    grind (
      arith,
      nat_tests,
      row_from_line_has_codes (start_column_by_layout items jc line) line h.0,
      shown_row_has_codes items jc row_shift row (number + 1) depth under lines h.1,
      shown_row_has_codes items jc row_shift row (number + 1) (depth + pitch items)
          (has_double_height line) lines h.1,
    )

placed_lines_make_page : (items : LayoutItems) (jc row_shift depth : ℕ) (ls : List (List ℕ))
    → AllByRecursion AreSevenBitCodes ls
    → IsPage (page_of_placed items jc row_shift (placed_lines_from items 0 depth false ls))
unfolding page_of_placed
placed_lines_make_page items jc row_shift depth ls h = record {
  rows = length-map-range_with_len shown 1 24;
  columns = λ r l. rw (get_or-map-range_with_len shown 1 24 r (1 + r) [] l refl)
      (each (1 + r)).columns;
  codes = λ r c.
      property_holds_at_index (λ n. n < 128) (get_or (map shown (range_with_len 1 24)) r []) c 0
      (lit< tt)
      (property_holds_at_index AreSevenBitCodes (map shown (range_with_len 1 24)) r [] tt
      (property_holds_on_map AreSevenBitCodes shown (range_with_len 1 24)
      (λ row. (each row).small)));
}
  where
    shown : ℕ → List ℕ
    shown = shown_row items jc row_shift (placed_lines_from items 0 depth false ls)

    each : (row : ℕ) → IsRowOfCodes (shown row)
    each row = shown_row_has_codes items jc row_shift row 0 depth false ls h

drawn_is_page : (drawing : Drawing) (t : SubtitleValue) (page : Rows)
    → drawn drawing t ≡ Ok page
    → IsPage page
unfolding drawn
drawn_is_page drawing t page e =
    let n = drawing.national in
    let items = items_of_layout drawing.layout in
    rw ((drawn_by-lines n items t page e).1)
    (placed_lines_make_page items t.jc (shift_of_subtitle n items t) _ (lines_by_layout n items
    t.text)
    (prepared_lines_are_seven_bit items
    _ (text_lines_are_seven_bit n 0 0 (text_after_strip items t.text))))

pub due_is_page : (drawing : Drawing) (ts : List SubtitleValue) (f : ℕ)
    → IsPage (due drawing ts f)
due_is_page drawing ts f = due_has_property IsPage drawing ts f blank_is_page
    (drawn_is_page drawing)
