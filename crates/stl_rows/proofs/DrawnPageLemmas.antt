-- If a subtitle has no fault, drawing its lines one after another on the blank page gives the page
-- that shows the lines. Otherwise the subtitle's first fault is the result of drawing.
use Rattle.std.proofs.Common.{◌≡◌, ◌≢◌, ℕ, suc, ◌+◌, ◌-◌, ◌<◌, ◌≤◌, false, List, [], ◌∷◌, ◌++◌, Ok}
use Rattle.std.proofs.Common.{Err, length, map, get_or, refl, sym, ap, ◌∙◌, arith, inl, inr, rules}
use Rattle.std.proofs.Common.{get_or-set_other, length-append, append_assoc, append-nil}
use Rattle.std.proofs.lemmas.Bool.{cases_eq, cond_both, lt-ltb}
use Rattle.std.proofs.lemmas.Bool.Decides.{nat_tests}
use Rattle.std.proofs.lemmas.Grind.{get_or-set_at}
use Rattle.std.proofs.lemmas.List.{ext_get_or, get_or-append-add, get_or_append_left, get_or_past}
use Rattle.std.proofs.lemmas.List.{get_or_push, length-set}
use Rattle.std.proofs.lemmas.List.FromFn.{get_or-map-range_with_len, length-map-range_with_len}
use Rattle.std.specs.List.{range_with_len}
use Rattle.std.specs.Prelude.{IsOk, MatchOption, slice_set}
use Rattle.ttx_page.specs.Page.{Rows, blank, blank_row}
use Rattle.stl_file.specs.Subtitle.{SubtitleValue}
use Rattle.stl_rows.specs.declared.national.National.{National}
use Rattle.stl_rows.specs.PlainPage.{line_faults, line_in_row, lines, page_of_lines, drawn_plainly}
use Rattle.stl_rows.specs.PlainPage.{plain_drawing_faults}
use Rattle.stl_rows.specs.Line.{code_in_column, boxed_line, row_of, start_column}
use Rattle.stl_rows.specs.LineByLine.{FitsRow, draw_line}
use Rattle.stl_rows.specs.TextCode.{first_of, faults_of_codes, text_codes}
use Rattle.stl_rows.proofs.LineByLineLemmas.{preparing_never_shortens_line}
use Rattle.stl_rows.proofs.FaultlessLemmas.{IsOnPage, empty_append_has_empty_parts}
use Rattle.stl_rows.proofs.FaultlessLemmas.{faultless_lines_are_on_page}

code_in_column-none : (start k : ℕ) → 32 ≡ code_in_column start [] k
code_in_column-none start k = grind (arith, nat_tests)

pub row_of-none : (jc : ℕ) → blank_row ≡ row_of jc []
unfolding blank_row row_of
row_of-none jc = λ i. map (λ k. code_in_column-none (start_column jc 0) k i) (range_with_len 0 40)

no_lines_make_blank_page : (jc vp : ℕ) → blank ≡ page_of_lines jc vp []
unfolding blank page_of_lines
no_lines_make_blank_page jc vp = search (rules, cond_both, row_of-none)

get_or_push-none : (ls : List (List ℕ)) (k : ℕ) → get_or ls k [] ≡ get_or (ls ++ [] ∷ []) k []
get_or_push-none [] k = grind (arith, nat_tests)
get_or_push-none (l ∷ ls) k = grind (arith, nat_tests, get_or_push-none ls)

line_in_row-last : (vp row : ℕ) (done : List (List ℕ)) (line : List ℕ)
    → row ≡ vp + length done
    → line_in_row vp (done ++ line ∷ []) row ≡ line
line_in_row-last vp row done line e = grind (arith, nat_tests, get_or_push done line [] (row - vp))

line_in_row-other : (vp row : ℕ) (done : List (List ℕ)) (line : List ℕ)
    → row ≢ vp + length done
    → line_in_row vp (done ++ line ∷ []) row ≡ line_in_row vp done row
line_in_row-other vp row done line e = search (
  rules,
  length-append,
  get_or_append_left,
  get_or_past,
)

empty_line_prepares_to_empty : boxed_line [] ≡ []
unfolding boxed_line
empty_line_prepares_to_empty = refl

draw_line-page : (jc vp : ℕ) (done : List (List ℕ)) (cells : List ℕ)
    → FitsRow (vp + length done) cells
    → draw_line jc (vp + length done) cells (page_of_lines jc vp done)
    ≡ page_of_lines jc vp (done ++ boxed_line cells ∷ [])
unfolding page_of_lines
draw_line-page jc vp done [] fits = grind (
  arith,
  nat_tests,
  empty_line_prepares_to_empty,
  get_or_push-none,
)
draw_line-page jc vp done (c ∷ cs) fits =
    let line : List ℕ = boxed_line (c ∷ cs) in
    let at : ℕ = vp + length done - 1 in
    let old : ℕ → List ℕ = λ row. row_of jc (line_in_row vp done row) in
    let new : ℕ → List ℕ = λ row. row_of jc (line_in_row vp (done ++ line ∷ []) row) in
    let size = length-map-range_with_len old 1 24 in
    let long = length-set (map old (range_with_len 1 24)) at (row_of jc line) ∙ size in
    let first = fits.first in
    let low = fits.last (omega arith) in
    rw (lt-ltb 0 (suc (length cs)) (omega arith))
    (ext_get_or [] (slice_set (map old (range_with_len 1 24)) at (row_of jc line))
    (map new (range_with_len 1 24)) (long ∙ sym (length-map-range_with_len new 1 24)) (λ k h.
    let inside : k < 24 = omega (arith, h, long) in
    elim (cases_eq k at) [
      | inl same_row ↦
          get_or-set_at (map old (range_with_len 1 24)) at k (row_of jc line) [] same_row
          (omega (arith, size, first, low))
          ∙ ap (row_of jc) (sym
          (line_in_row-last vp (k + 1) done line (omega (arith, same_row, first))))
          ∙ sym (get_or-map-range_with_len new 1 24 k (k + 1) [] inside (omega arith))
      | inr other ↦
          get_or-set_other (map old (range_with_len 1 24)) at k (row_of jc line) [] other
          ∙ get_or-map-range_with_len old 1 24 k (k + 1) [] inside (omega arith)
          ∙ ap (row_of jc) (sym (line_in_row-other vp (k + 1) done line
          (λ e. other (omega (arith, e)))))
          ∙ sym (get_or-map-range_with_len new 1 24 k (k + 1) [] inside (omega arith))
    ]))

-- The page shows the lines `done`, and the lines `left` are still to be drawn.
pub record HasDrawnLines (jc vp row : ℕ) (page : Rows) (all left : List (List ℕ)) : Type 0 where
  pub done : List (List ℕ)
  pub shown : page ≡ page_of_lines jc vp done
  pub next : row ≡ vp + length done
  pub drawn_and_left_are_all : all ≡ done ++ left

pub is_drawn-start : {jc vp : ℕ} {all : List (List ℕ)} → HasDrawnLines jc vp vp blank all all
is_drawn-start {jc} {vp} = grind (arith, nat_tests, no_lines_make_blank_page)

-- If no line has a fault, the next line fits on the page.
pub is_drawn-faultless_lines_are_on_page : {jc vp row : ℕ} {page : Rows} {all left : List (List ℕ)}
    → HasDrawnLines jc vp row page all left
    → line_faults 0 vp false all ≡ []
    → IsOnPage row (get_or left 0 [])
is_drawn-faultless_lines_are_on_page {vp = vp} {row} {all = all} {left} h none =
    grind (arith, nat_tests, get_or-append-add, faultless_lines_are_on_page)

module _ {jc vp row : ℕ} {page : Rows} {all left : List (List ℕ)} (cells : List ℕ) (first : 1 ≤ vp)
    (h : HasDrawnLines jc vp row page all (boxed_line cells ∷ left))
    (none : line_faults 0 vp false all ≡ []) where
  pub is_drawn-fits : FitsRow row cells
  is_drawn-fits = grind (
    arith,
    nat_tests,
    is_drawn-faultless_lines_are_on_page h none,
    preparing_never_shortens_line cells,
  )

  pub is_drawn-next : HasDrawnLines jc vp (row + 1) (draw_line jc row cells page) all left
  is_drawn-next = search (rules, draw_line-page, is_drawn-fits, length-append, append_assoc)

pub is_drawn-end : {jc vp row : ℕ} {page : Rows} {all : List (List ℕ)}
    → HasDrawnLines jc vp row page all []
    → page_of_lines jc vp all ≡ page
is_drawn-end h = rw (h.drawn_and_left_are_all, append-nil) (sym h.shown)

drawn_subtitle_has_no_faults : (n : National) (t : SubtitleValue) → IsOk (drawn_plainly n t) →
    plain_drawing_faults n t ≡ []
unfolding drawn_plainly
drawn_subtitle_has_no_faults n t ok = grind (arith, nat_tests)

pub drawn_lines_have_no_faults : (n : National) (t : SubtitleValue)
    → IsOk (drawn_plainly n t)
    → line_faults 0 t.vp false (lines n t) ≡ []
drawn_lines_have_no_faults n t
    ok = (empty_append_has_empty_parts (faults_of_codes (text_codes n 0 t.text))
    _ (drawn_subtitle_has_no_faults n t ok)).1

pub drawn-page : (n : National) (t : SubtitleValue)
    → IsOk (drawn_plainly n t)
    → drawn_plainly n t ≡ Ok (page_of_lines t.jc t.vp (lines n t))
unfolding drawn_plainly
drawn-page n t ok = rw (drawn_subtitle_has_no_faults n t ok) refl

pub drawn-first : (n : National) (t : SubtitleValue)
    → MatchOption (first_of (plain_drawing_faults n t)) (IsOk (drawn_plainly n t))
    (λ f. drawn_plainly n t ≡ Err f)
unfolding drawn_plainly
drawn-first n t = grind (arith, nat_tests)
