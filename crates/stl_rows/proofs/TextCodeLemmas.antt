-- One or two bytes of a text are one text code. If a text code has a cell, the cell is below 128.
-- The table of common bytes agrees with the definition of common bytes.
use Rattle.std.proofs.Common.{◌≡◌, ℕ, ◌+◌, ◌<◌, List, ◌∷◌, Option, Some, length, get_or, drop}
use Rattle.std.proofs.Common.{refl, arith, true, ◌==◌}
use Rattle.std.proofs.Common.{add-one, drop-cons}
use Rattle.std.proofs.lemmas.Bool.{agree_below_at}
use Rattle.std.proofs.lemmas.Bool.Decides.{nat_tests}
use Rattle.std.specs.Prelude.{IfSome}
use Rattle.ttx_page.specs.Page.{IsCode}
use Rattle.stl_rows.specs.declared.national.National.{National}
use Rattle.stl_rows.specs.declared.text_code.TextCode.TheVariants.{Cell}
use Rattle.stl_rows.specs.declared.text_code.TheConstants.{COMMON_BYTES}
use Rattle.stl_rows.specs.TextCode.{HasSevenBits, cell_of, cell_of_pair, code_and_extra_bytes}
use Rattle.stl_rows.specs.TextCode.{code_without_cell, first_of, is_common, text_codes}
use Rattle.stl_rows.proofs.SubSetLemmas.{cell_of_character-small}

drop_splits_at_element : (text : List ℕ) (at : ℕ) → at < length text
    → drop at text ≡ get_or text at 0 ∷ drop (at + 1) text
drop_splits_at_element text at h = rw (add-one, drop-cons text at 0) refl

-- Each of the 256 entries of the table of common bytes is computed and equals the definition.
pub common_table_matches_definition : (byte : ℕ) → byte < 0x100
    → (get_or COMMON_BYTES byte 0 == 1) ≡ is_common byte
unfolding is_common
common_table_matches_definition byte l = agree_below_at (λ b. get_or COMMON_BYTES b 0 == 1)
    is_common 0x100 byte refl l

pub text_codes-common : (n : National) (at : ℕ) (text : List ℕ) → at < length text
    → is_common (get_or text at 0) ≡ true
    → text_codes n at (drop at text)
    ≡ (at, Cell (get_or text at 0)) ∷ text_codes n (at + 1) (drop (at + 1) text)
unfolding cell_of cell_of_pair is_common
text_codes-common n at text h e = grind (arith, nat_tests, drop_splits_at_element)

pub text_codes-pair : (n : National) (at : ℕ) (text : List ℕ) (code : ℕ) → at + 1 < length text
    → Some code ≡ cell_of_pair n (get_or text at 0) (first_of (drop (at + 1) text))
    → text_codes n at (drop at text) ≡ (at, Cell code) ∷ text_codes n (at + 2) (drop (at + 2) text)
text_codes-pair n at text code h e =
    grind (arith, nat_tests, drop_splits_at_element text at, drop_splits_at_element text (at + 1))

pub other-small : (byte : ℕ) → HasSevenBits (code_without_cell byte)
unfolding code_without_cell
other-small byte = grind (arith, nat_tests)

pub cell_of-small : (n : National) (byte : ℕ) → IfSome (cell_of n byte) IsCode
unfolding cell_of is_common
cell_of-small n byte = grind (arith, nat_tests, cell_of_character-small)

pub cell_of_pair-small : (n : National) (byte : ℕ) (next : Option ℕ)
    → IfSome (cell_of_pair n byte next) IsCode
unfolding cell_of_pair
cell_of_pair-small n byte next = grind (arith, nat_tests, cell_of_character-small)

pub code_and_extra_bytes-small : (n : National) (b : ℕ) (bytes : List ℕ)
    → HasSevenBits (code_and_extra_bytes n b bytes).0
code_and_extra_bytes-small n b bytes =
    grind (
      arith,
      nat_tests,
      cell_of_pair-small n b (first_of bytes),
      cell_of-small n b,
      other-small,
    )
