-- While the lines of a text are read, each cell is appended to the current line, and a new line or
-- the end of the text ends the current line.
use Rattle.std.proofs.Common.{◌≡◌, ℕ, zero, suc, ◌≤◌, List, ◌∷◌, ◌++◌, map, length, drop, refl, []}
use Rattle.std.proofs.Common.{ap, arith, length-append, ◌∙◌}
use Rattle.std.proofs.lemmas.Bool.Decides.{nat_tests}
use Rattle.std.proofs.lemmas.List.{at_drop_all}
use Rattle.std.specs.List.{onto_first}
use Rattle.ttx_page.specs.Page.{AreCodes, IsCode}
use Rattle.stl_rows.specs.declared.text_code.TextCode.{TextCode}
use Rattle.stl_rows.specs.declared.text_code.TextCode.TheVariants.{Cell, NewLine}
use Rattle.stl_rows.specs.Line.{boxed_line}
use Rattle.stl_rows.specs.LineByLine.{cells_onto_lines, prepared_lines}
use Rattle.stl_rows.specs.TextCode.{text_codes}
use Rattle.stl_rows.specs.declared.national.National.{National}

pub line_end_closes_cells : (cells : List ℕ) (lines : List (List ℕ))
    → cells_onto_lines cells ([] ∷ lines) ≡ cells ∷ lines
line_end_closes_cells [] lines = refl
line_end_closes_cells (c ∷ cells) lines = ap (onto_first c) (line_end_closes_cells cells lines)

pub code_joins_cells : (cells : List ℕ) (code : ℕ) (lines : List (List ℕ))
    → cells_onto_lines cells (onto_first code lines) ≡ cells_onto_lines (cells ++ code ∷ []) lines
code_joins_cells [] code lines = refl
code_joins_cells (c ∷ cells) code lines = ap (onto_first c) (code_joins_cells cells code lines)

pub prepared_lines-cell : (cells : List ℕ) {at code : ℕ} {s : TextCode}
    {ss rest : List (ℕ × TextCode)}
    → ss ≡ (at, s) ∷ rest
    → s ≡ Cell code
    → prepared_lines cells ss ≡ prepared_lines (cells ++ code ∷ []) rest
prepared_lines-cell cells {rest = rest} step is = grind (arith, nat_tests, code_joins_cells)

pub prepared_lines-line_end : (cells : List ℕ) {at : ℕ} {s : TextCode}
    {ss rest : List (ℕ × TextCode)}
    → ss ≡ (at, s) ∷ rest
    → s ≡ NewLine
    → prepared_lines cells ss ≡ boxed_line cells ∷ prepared_lines [] rest
prepared_lines-line_end cells {rest = rest} step is = grind
    (arith, nat_tests, line_end_closes_cells)

pub prepared_lines-end : (n : National) (cells : List ℕ) (at : ℕ) (text : List ℕ)
    → length text ≤ at
    → prepared_lines cells (text_codes n at (drop at text)) ≡ boxed_line cells ∷ []
prepared_lines-end n cells at text past =
    at_drop_all (λ bytes. prepared_lines cells (text_codes n at bytes)) text at past
    ∙ ap (map boxed_line) (line_end_closes_cells cells [])

pub preparing_never_shortens_line : (cells : List ℕ) → length cells ≤ length (boxed_line cells)
unfolding boxed_line
preparing_never_shortens_line cells = grind (arith, nat_tests, length-append)

pub appended_code_keeps_codes : (cells : List ℕ) (code : ℕ)
    → AreCodes cells
    → IsCode code
    → AreCodes (cells ++ code ∷ [])
appended_code_keeps_codes [] code h low v = grind (arith, nat_tests)
appended_code_keeps_codes (c ∷ cells) code h low zero = h 0
appended_code_keeps_codes (c ∷ cells) code h low (suc k) = appended_code_keeps_codes cells code
    (λ j. h (suc j)) low k
