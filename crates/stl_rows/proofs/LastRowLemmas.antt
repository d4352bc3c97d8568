-- Row 24 of each expected page is blank.
use Rattle.std.proofs.lemmas.Bool.Decides.{nat_tests}
use Rattle.std.proofs.Common.{arith}
use Rattle.std.proofs.Common.{◌≡◌, ℕ, List, [], Ok, refl}
use Rattle.ttx_page.specs.Page.{Rows, blank, blank_row, row_at}
use Rattle.stl_file.specs.Subtitle.{SubtitleValue}
use Rattle.stl_rows.specs.declared.layout.Drawing.{Drawing}
use Rattle.stl_rows.specs.declared.layout.LayoutItems.{LayoutItems}
use Rattle.stl_rows.specs.DrawnPage.{PlacedLine, drawn, page_of_placed, placed_faults}
use Rattle.stl_rows.specs.DuePage.{due}
use Rattle.stl_rows.proofs.DuePageLemmas.{due_has_property}
use Rattle.stl_rows.proofs.LaidOutLemmas.{drawn_by-lines, lines_of_subtitle, no_line_in_row_24}
use Rattle.stl_rows.proofs.LaidOutLemmas.{shift_of_subtitle}

placed_lines_avoid_row_24 : (items : LayoutItems) (jc row_shift : ℕ) (lines : List PlacedLine)
    → placed_faults items row_shift lines ≡ []
    → row_at (page_of_placed items jc row_shift lines) 24 ≡ blank_row
unfolding page_of_placed
placed_lines_avoid_row_24 items jc row_shift lines none = grind
    (arith, nat_tests, no_line_in_row_24)

blank_has_blank_row_24 : row_at blank 24 ≡ blank_row
unfolding blank
blank_has_blank_row_24 = refl

drawing_keeps_row_24_blank : (drawing : Drawing) (t : SubtitleValue) (page : Rows)
    → drawn drawing t ≡ Ok page
    → row_at page 24 ≡ blank_row
unfolding drawn
drawing_keeps_row_24_blank drawing t page e =
    grind (
      arith,
      nat_tests,
      drawn_by-lines,
      placed_lines_avoid_row_24,
      shift_of_subtitle,
      lines_of_subtitle,
    )

pub due_row_24_is_blank : (drawing : Drawing) (records : List SubtitleValue) (frame : ℕ)
    → row_at (due drawing records frame) 24 ≡ blank_row
due_row_24_is_blank drawing records frame =
    due_has_property (λ page. row_at page 24 ≡ blank_row) drawing records frame
    blank_has_blank_row_24
    (drawing_keeps_row_24_blank drawing)
