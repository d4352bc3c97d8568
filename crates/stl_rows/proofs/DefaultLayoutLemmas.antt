-- The default layout draws a subtitle plainly: a line gets a box if it has cells but no start box.
use Rattle.std.proofs.Common.{◌≡◌, ℕ, ◌+◌, ◌≤◌, Bool, false, List, [], ◌∷◌, ◌++◌}
use Rattle.std.proofs.Common.{length, map, refl, ap, ◌∙◌, arith}
use Rattle.std.proofs.Common.{append_assoc, None, Some, Result}
use Rattle.std.proofs.lemmas.Bool.Decides.{nat_tests}
use Rattle.std.proofs.lemmas.List.{get_or-replicate, take-append-drop}
use Rattle.std.specs.List.{range_with_len}
use Rattle.ttx_page.specs.Page.{Rows}
use Rattle.stl_file.specs.Subtitle.{SubtitleValue}
use Rattle.stl_rows.specs.declared.fault.RowFault.{RowFault}
use Rattle.stl_rows.specs.declared.layout.Drawing.{Drawing}
use Rattle.stl_rows.specs.declared.layout.LayoutItems.{LayoutItems}
use Rattle.stl_rows.specs.declared.national.National.{National}
use Rattle.stl_rows.specs.declared.text_code.TextCode.{TextCode}
use Rattle.stl_rows.specs.DrawnPage.{drawn_by, first_depth}
use Rattle.stl_rows.specs.DrawnPage.{page_of_placed, placed_lines_from, placed_fault_kinds}
use Rattle.stl_rows.specs.DrawnPage.{placed_faults}
use Rattle.stl_rows.specs.DrawnPage.{LawOfDefaultLayout, drawn, placed_lines, shift_of_lines}
use Rattle.stl_rows.specs.DrawnPage.{shown_row}
use Rattle.stl_rows.specs.DrawnPage.{text_after_strip}
use Rattle.stl_rows.specs.Layout.{attribute_code, default_items, default_layout}
use Rattle.stl_rows.specs.Layout.{drawing_by}
use Rattle.stl_rows.specs.Line.{has_start_box_code, has_double_height, boxed_line, row_of}
use Rattle.stl_rows.specs.Line.{start_column}
use Rattle.stl_rows.specs.PlainPage.{line_fault_kinds, line_faults, line_in_row, page_of_lines}
use Rattle.stl_rows.specs.PlainPage.{drawn_plainly, value_unless_error}
use Rattle.stl_rows.specs.PreparedLine.{line_with_layout_codes, line_with_before_codes}
use Rattle.stl_rows.specs.PreparedLine.{prepared_by_layout, row_starting_at, start_column_by_layout}
use Rattle.stl_rows.specs.TextCode.{faults_of_codes}
use Rattle.stl_rows.proofs.DrawnPageLemmas.{row_of-none}
use Rattle.stl_rows.proofs.LaidOutLemmas.{no_line_above_first}

default_layout_strips_nothing : (text : List ℕ) → text_after_strip default_items text ≡ text
unfolding default_items
default_layout_strips_nothing [] = refl
default_layout_strips_nothing (b ∷ text) =
    grind (arith, nat_tests, get_or-replicate 32 b false false, default_layout_strips_nothing text)

-- The default layout adds a box to each line that has cells but no start box, and changes no other
-- line.
boxed_line-default : (cells : List ℕ) → prepared_by_layout default_items cells ≡ boxed_line cells
unfolding prepared_by_layout boxed_line line_with_layout_codes line_with_before_codes default_items
    attribute_code has_start_box_code
boxed_line-default [] = refl
boxed_line-default (c ∷ cs) = grind (arith, nat_tests, take-append-drop, append_assoc)

lines-default : (ls : List (List ℕ)) → map (prepared_by_layout default_items) ls ≡ map boxed_line ls
lines-default [] = refl
lines-default (l ∷ ls) = rw (boxed_line-default l, lines-default ls) refl

kinds-default : (number row : ℕ) (under : Bool) (line : List ℕ)
    → 1 ≤ row
    → placed_fault_kinds default_items 0 (record {
      number = number;
      depth = row;
      is_below_double_height = under;
      cells = line;
    })
    ≡ line_fault_kinds row under line
unfolding placed_fault_kinds line_fault_kinds default_items
kinds-default number row under line low = grind (arith, nat_tests)

faults-default : (number row : ℕ) (under : Bool) (ls : List (List ℕ))
    → 1 ≤ row
    → placed_faults default_items 0 (placed_lines_from default_items number row under ls)
    ≡ line_faults number row under ls
unfolding default_items
faults-default number row under [] low = grind (arith, nat_tests)
faults-default number row under (l ∷ ls) low =
    grind (
      arith,
      nat_tests,
      kinds-default,
      (faults-default (number + 1) (row + 1) (has_double_height l) ls (omega arith)),
    )

start-default : (jc : ℕ) (line : List ℕ)
    → start_column_by_layout default_items jc line ≡ start_column jc (length line)
unfolding start_column_by_layout default_items
start-default jc line = grind (arith, nat_tests)

row-default : (jc : ℕ) (line : List ℕ)
    → row_starting_at (start_column_by_layout default_items jc line) line ≡ row_of jc line
unfolding row_starting_at row_of
row-default jc line = rw (start-default jc line) refl

default-pack : default_items.pack ≡ false
unfolding default_items
default-pack = refl

default-double : default_items.double ≡ false
unfolding default_items
default-double = refl

shown-default : (jc number first row : ℕ) (under : Bool) (ls : List (List ℕ))
    → shown_row default_items jc 0 (placed_lines_from default_items number first under ls) row
    ≡ row_of jc (line_in_row first ls row)
shown-default jc number first row under [] = grind (arith, nat_tests, row_of-none)
shown-default jc number first row under (l ∷ ls) =
    grind (
      arith,
      nat_tests,
      default-pack,
      default-double,
      row_of-none,
      row-default,
      no_line_above_first,
      (shown-default jc (number + 1) (first + 1) row (has_double_height l) ls),
    )

page-default : (jc vp : ℕ) (ls : List (List ℕ))
    → page_of_placed default_items jc 0 (placed_lines_from default_items 0 vp false ls)
    ≡ page_of_lines jc vp ls
unfolding page_of_placed page_of_lines
page-default jc vp ls = λ i. map (λ row. shown-default jc 0 vp row false ls i) (range_with_len 1 24)

row_shift-default : (ls : List (List ℕ)) → shift_of_lines default_items ls ≡ 0
unfolding default_items
row_shift-default ls = refl

first-default : (vp : ℕ) → first_depth default_items vp ≡ vp
unfolding default_items
first-default vp = omega arith

faults-all : (vp : ℕ) (ls : List (List ℕ))
    → 1 ≤ vp
    → placed_faults default_items (shift_of_lines default_items ls) (placed_lines default_items vp
    ls)
    ≡ line_faults 0 vp false ls
faults-all vp ls low =
    ap (λ row_shift. placed_faults default_items row_shift (placed_lines default_items vp ls))
    (row_shift-default ls)
    ∙ ap (λ first. placed_faults default_items 0 (placed_lines_from default_items 0 first false ls))
    (first-default vp)
    ∙ faults-default 0 vp false ls low

page-all : (jc vp : ℕ) (ls : List (List ℕ))
    → page_of_placed default_items jc (shift_of_lines default_items ls)
    (placed_lines default_items vp ls)
    ≡ page_of_lines jc vp ls
page-all jc vp ls =
    ap (λ row_shift. page_of_placed default_items jc row_shift (placed_lines default_items vp ls))
    (row_shift-default ls)
    ∙ ap (λ first. page_of_placed default_items jc 0 (placed_lines_from default_items 0 first false
    ls))
    (first-default vp)
    ∙ page-default jc vp ls

drawn_from_codes : National → ℕ → ℕ → List (ℕ × TextCode) → List (List ℕ) → Result Rows RowFault
drawn_from_codes national jc vp codes ls =
    value_unless_error (faults_of_codes codes
    ++ placed_faults default_items (shift_of_lines default_items ls) (placed_lines default_items vp
    ls))
    (page_of_placed default_items jc (shift_of_lines default_items ls) (placed_lines default_items
    vp ls))

drawn_by-default : (national : National) (t : SubtitleValue)
    → 1 ≤ t.vp
    → drawn_by national default_items t ≡ drawn_plainly national t
unfolding drawn_by drawn_plainly drawn_from_codes
drawn_by-default national t low =
    grind (
      arith,
      nat_tests,
      drawn_from_codes,
      default_layout_strips_nothing,
      lines-default,
      faults-all,
      page-all,
    )

pub drawn-none : (drawing : Drawing) (t : SubtitleValue)
    → drawing.layout.items ≡ None
    → 1 ≤ t.vp
    → drawn drawing t ≡ drawn_plainly drawing.national t
unfolding drawn
drawn-none drawing t is low = rw is (drawn_by-default drawing.national t low)

pub drawn-some : (drawing : Drawing) (t : SubtitleValue) (items : LayoutItems)
    → drawing.layout.items ≡ Some items
    → drawn drawing t ≡ drawn_by drawing.national items t
unfolding drawn
drawn-some drawing t items is = rw is refl

pub default_layout_draws_plainly : LawOfDefaultLayout
default_layout_draws_plainly national t low = drawn-none (drawing_by national default_layout) t refl
    low
