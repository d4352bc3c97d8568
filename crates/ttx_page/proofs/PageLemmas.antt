-- The blank page has 24 rows of 40 codes, and pages with equal rows are equal.
use Rattle.std.proofs.Common.{rules, List, true, nat_lt, ltb-true, ◌≡◌, ℕ, ◌<◌, [], get_or}
use Rattle.std.proofs.Common.{replicate, arith, sym, ◌∙◌}
use Rattle.std.proofs.lemmas.Bool.Decides.{nat_tests}
use Rattle.std.proofs.lemmas.List.{get_or-replicate, get_or_past, length-replicate, ext_get_or}
use Rattle.std.proofs.lemmas.Bool.{cases_lt}
use Rattle.std.specs.List.{list_all}
use Rattle.std.proofs.lemmas.List.Sums.{AllPass-from_list_all}
use Rattle.ttx_page.specs.Page.{Rows, blank, blank_row, AreCodes, IsPage, space}

space_rows_have_codes : (n m r c : ℕ) → get_or (get_or (replicate n (replicate m space)) r []) c 0 <
    128
space_rows_have_codes n m r c = grind (
  arith,
  nat_tests,
  get_or-replicate,
  get_or_past,
  length-replicate,
)

pub blank_is_page : IsPage blank
unfolding blank blank_row
blank_is_page = search (rules, length-replicate, get_or-replicate, space_rows_have_codes)

pub equal_rows_give_equal_pages : (a b x y : Rows)
    → x ≡ a
    → y ≡ b
    → IsPage x
    → IsPage y
    → ((i : ℕ) → i < 24 → get_or x i [] ≡ get_or y i [])
    → a ≡ b
equal_rows_give_equal_pages a b x y e f p q h =
    sym e ∙ ext_get_or [] x y (p.rows ∙ sym q.rows) (λ k below. h k (omega (arith, p.rows))) ∙ f

pub code_test_is_correct : (codes : List ℕ)
    → list_all (λ c. nat_lt c 128) codes ≡ true
    → AreCodes codes
code_test_is_correct codes e k = search (
  rules,
  cases_lt,
  ltb-true,
  AllPass-from_list_all,
  get_or_past,
)
