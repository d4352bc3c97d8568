-- The words of an output line of `survey`.
use Rattle.std.specs.Prelude.{ℕ, List, [], ◌∷◌}
use Rattle.std.specs.Prelude.{decimal}
use Rattle.std.specs.List.{concat}
use Rattle.ts_survey.specs.Text.{AddsBytes}
use Rattle.ts_survey.specs.declared.text.Text.{Text}

-- These words were added to the text, one after another, unless the text is lost afterwards.
abbrev pub AddsTexts : Text → List (List ℕ) → Text → Type 0
AddsTexts old words new = AddsBytes old (concat words) new

-- A space and a number in decimal.
abbrev pub space_and_number : ℕ → List ℕ
space_and_number number = 0x20 ∷ decimal number

-- The end of a line of output.
abbrev pub line_end : List ℕ
line_end = 0x0A ∷ []
