use Rattle.std.proofs.Common.{List, ℕ, [], ◌∷◌, ◌++◌, refl, replicate}
use Rattle.ttx_page.proofs.PageLemmas.{code_test_is_correct}
use Rattle.tests.proofs.dropped_rows.shown_page.Goals as goal

-- The codes of row 22 with the text `Hi`.
abbrev codes : List ℕ
codes =
    replicate 16 0x20
    ++ (0x0D ∷ 0x0B ∷ 0x0B ∷ 0x48 ∷ 0x69 ∷ 0x0A ∷ 0x0A ∷ [])
    ++ replicate 17 0x20

pub set_row-requires-clause-codes : goal.set_row-requires-clause-codes
set_row-requires-clause-codes c = code_test_is_correct codes refl
