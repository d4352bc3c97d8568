-- The first fault of a text is found while the text codes are read one by one. It depends only on
-- the rejected bytes, and on the row, number of cells, start box and double height of each line.
use Rattle.std.proofs.Common.{rules, ◌≡◌, ℕ, ◌+◌, Bool, true, false, cond, List, [], ◌∷◌, ◌++◌}
use Rattle.std.proofs.Common.{Option, None, length, refl, sym, ap, ◌∙◌, arith, length-append}
use Rattle.std.proofs.Common.{append-nil}
use Rattle.std.proofs.Math.Bool.{or-false}
use Rattle.std.proofs.lemmas.Bool.Decides.{nat_tests}
use Rattle.std.proofs.lemmas.List.Folds.{list_any-append}
use Rattle.std.specs.Option.{option_or}
use Rattle.stl_file.specs.Subtitle.{SubtitleValue}
use Rattle.stl_rows.specs.declared.fault.RowFault.{RowFault}
use Rattle.stl_rows.specs.declared.national.National.{National}
use Rattle.stl_rows.specs.declared.text_code.TextCode.{TextCode}
use Rattle.stl_rows.specs.declared.text_code.TextCode.TheVariants.{Cell, NoCell, NewLine, Refused}
use Rattle.stl_rows.specs.declared.text_faults.OpenLine.{OpenLine}
use Rattle.stl_rows.specs.PlainPage.{line_fault_kinds, line_faults, plain_drawing_faults}
use Rattle.stl_rows.specs.Line.{has_cells, has_start_box_code, has_double_height, boxed_line}
use Rattle.stl_rows.specs.LineByLine.{empty_line, next_empty_line, prepared_lines}
use Rattle.stl_rows.specs.LineByLine.{shape_fault_kinds, first_fault_of_codes}
use Rattle.stl_rows.specs.LineByLine.{first_fault_up_to_line}
use Rattle.stl_rows.specs.LineByLine.{with_cell}
use Rattle.stl_rows.specs.TextCode.{first_of, lines_of_codes, faults_of_codes, text_codes}
use Rattle.stl_rows.proofs.LineByLineLemmas.{code_joins_cells, line_end_closes_cells}

-- The state of the current line holds the number of its cells, and whether they contain a start box
-- and double height.
pub record HasShape (cells : List ℕ) (line : OpenLine) : Type 0 where
  pub count : length cells ≡ line.len
  pub box : has_start_box_code cells ≡ line.has_start_box_code
  pub is_double_eq : has_double_height cells ≡ line.has_double_height

shape-none : (number row : ℕ) (under : Bool) → HasShape [] (empty_line number row under)
unfolding has_start_box_code has_double_height
shape-none number row under = record { count = refl; box = refl; is_double_eq = refl }

shape-push : (cells : List ℕ) (code : ℕ) (line : OpenLine)
    → HasShape cells line
    → HasShape (cells ++ code ∷ []) (with_cell line code)
unfolding has_start_box_code has_double_height
shape-push cells code line h = grind (arith, nat_tests, length-append, list_any-append, or-false)

preparing_keeps_double_height : (cells : List ℕ) → has_double_height (boxed_line cells) ≡
    has_double_height cells
unfolding boxed_line has_double_height
preparing_keeps_double_height cells = grind (arith, nat_tests, list_any-append, or-false)

preparing_adds_box_codes : (c : ℕ) (cs : List ℕ)
    → length (boxed_line (c ∷ cs)) ≡ cond (has_start_box_code (c ∷ cs)) (length (c ∷ cs))
    (length (c ∷ cs) + 4)
unfolding boxed_line
preparing_adds_box_codes c cs = grind (arith, nat_tests, length-append)

prepared_line_has_cells : (c : ℕ) (cs : List ℕ) → has_cells (boxed_line (c ∷ cs)) ≡ true
unfolding boxed_line
prepared_line_has_cells c cs = grind (arith, nat_tests)

empty_line_has_shape_faults : (line : OpenLine)
    → HasShape [] line
    → line_fault_kinds line.row line.is_below_double_height (boxed_line []) ≡ shape_fault_kinds line
unfolding line_fault_kinds shape_fault_kinds boxed_line has_start_box_code has_double_height
empty_line_has_shape_faults line h = rw (← h.count, ← h.box, ← h.is_double_eq) refl

shape_decides_fault_kinds : (cells : List ℕ) (line : OpenLine)
    → HasShape cells line
    → line_fault_kinds line.row line.is_below_double_height (boxed_line cells) ≡ shape_fault_kinds
    line
unfolding line_fault_kinds shape_fault_kinds
shape_decides_fault_kinds [] line h = empty_line_has_shape_faults line h
shape_decides_fault_kinds (c ∷ cs) line h = search
    (rules, preparing_adds_box_codes, prepared_line_has_cells, preparing_keeps_double_height)

first_of-append : {A : Type 0} (xs ys : List A)
    → first_of (xs ++ ys) ≡ option_or (first_of xs) (first_of ys)
first_of-append xs ys = grind (arith, nat_tests)

option_or_assoc : {A : Type 0} (a b c : Option A)
    → option_or (option_or a b) c ≡ option_or a (option_or b c)
option_or_assoc a b c = grind (arith, nat_tests)

reported_fault_is_first : (before : Option RowFault) (cells : List ℕ) (line : OpenLine)
    (ls : List (List ℕ))
    → HasShape cells line
    → option_or (first_fault_up_to_line before line)
    (first_of (line_faults (line.number + 1) (line.row + 1) line.has_double_height ls))
    ≡ option_or before
    (first_of (line_faults line.number line.row line.is_below_double_height
    (boxed_line cells ∷ ls)))
reported_fault_is_first before cells line ls h =
    grind (
      arith,
      nat_tests,
      shape_decides_fault_kinds,
      preparing_keeps_double_height,
      first_of-append,
      option_or_assoc,
    )

-- The first fault of text codes is the fault of the first rejected byte. If no byte is rejected, it
-- is the fault found before these text codes, or else the first fault of the lines that are left.
abbrev IsReported : List (ℕ × TextCode) → Type 0
IsReported ss =
    (before : Option RowFault) (cells : List ℕ) (line : OpenLine)
    → HasShape cells line
    → first_fault_of_codes before line ss
    ≡ option_or (first_of (faults_of_codes ss)) (option_or before (first_of
    (line_faults line.number line.row line.is_below_double_height (prepared_lines cells ss))))

first_fault_of_codes-code : (at : ℕ) (s : TextCode) (ss : List (ℕ × TextCode)) → IsReported ss
    → IsReported
    ((at, s) ∷ ss)
first_fault_of_codes-code at (Cell code) ss after before cells line h = search (
  rules,
  code_joins_cells,
  shape-push,
)
first_fault_of_codes-code at NoCell ss after before cells line h = after before cells line h
first_fault_of_codes-code at NewLine ss after before cells line h =
    rw (line_end_closes_cells cells (lines_of_codes ss))
    (after (first_fault_up_to_line before line) [] (next_empty_line line) (shape-none _ _ _)
    ∙ ap (option_or (first_of (faults_of_codes ss)))
    (reported_fault_is_first before cells line (prepared_lines [] ss) h))
first_fault_of_codes-code at (Refused kind) ss after before cells line h = refl

first_fault_of_codes-is : (ss : List (ℕ × TextCode)) → IsReported ss
first_fault_of_codes-is [] before cells line h = grind (
  arith,
  nat_tests,
  line_end_closes_cells,
  shape_decides_fault_kinds,
  append-nil,
)
first_fault_of_codes-is (c ∷ ss) before cells line h =
    first_fault_of_codes-code c.0 c.1 ss (first_fault_of_codes-is ss) before cells
    line h

pub first_fault_of_codes-faults : (n : National) (t : SubtitleValue)
    → first_fault_of_codes None (empty_line 0 t.vp false) (text_codes n 0 t.text) ≡ first_of
    (plain_drawing_faults n t)
first_fault_of_codes-faults n t =
    first_fault_of_codes-is (text_codes n 0 t.text) None [] (empty_line 0 t.vp false)
    (shape-none 0 t.vp false)
    ∙ sym (first_of-append (faults_of_codes (text_codes n 0 t.text)) _)
