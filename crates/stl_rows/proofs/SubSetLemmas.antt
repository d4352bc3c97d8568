-- The cells of all national characters are codes below 128, no two national options have the same
-- name, and a search for a name in the code's table finds the option of this name.
use Rattle.std.proofs.Common.{◌≡◌, ◌↔◌, ℕ, ◌<◌, List, [], ◌∷◌, Option, Some, find, map, option_map}
use Rattle.std.proofs.Common.{ap, refl, sym, ◌∙◌}
use Rattle.std.proofs.Common.{arith}
use Rattle.std.proofs.lemmas.Slice.Eq.{bytes_eq-Decides}
use Rattle.std.proofs.lemmas.Bool.Decides.{nat_tests}
use Rattle.std.specs.List.{AllByRecursion}
use Rattle.std.specs.Prelude.{IfSome}
use Rattle.std.specs.Str.{bytes_eq}
use Rattle.ttx_page.specs.Page.{IsCode}
use Rattle.stl_rows.specs.declared.national.National.{National}
use Rattle.stl_rows.specs.declared.sub_sets.NationalCharacter.{NationalCharacter}
use Rattle.stl_rows.specs.declared.sub_sets.SubSet.{SubSet}
use Rattle.stl_rows.specs.SubSets.{cell_of_character, named_option, options, sub_set}

abbrev HaveCodes : List NationalCharacter → Type 0
HaveCodes characters = AllByRecursion (λ (c : NationalCharacter). c.cell < 128) characters

cell_of_character-code : (characters : List NationalCharacter) (mark : Option ℕ) (byte : ℕ)
    → HaveCodes characters
    → IfSome (cell_of_character characters mark byte) IsCode
cell_of_character-code [] mark byte h = tt
cell_of_character-code (c ∷ characters) mark byte h =
    grind (arith, nat_tests, h.0, cell_of_character-code characters mark byte h.1)

have_codes : (n : National) → HaveCodes (sub_set n).characters
unfolding sub_set
have_codes n = grind (arith, nat_tests)

pub cell_of_character-small : (n : National) (mark : Option ℕ) (byte : ℕ)
    → IfSome (cell_of_character (sub_set n).characters mark byte) IsCode
cell_of_character-small n mark byte = cell_of_character-code (sub_set n).characters mark byte
    (have_codes n)

pub option_of_word : (n : National) → named_option (sub_set n).word ≡ Some n
unfolding named_option sub_set
option_of_word n = grind (arith, nat_tests)

found_option_has_word : (ns : List National) (n : National) (text : List ℕ)
    → find (λ m. bytes_eq (sub_set m).word text) ns ≡ Some n
    → (sub_set n).word ≡ text
found_option_has_word [] n text e = cc
found_option_has_word (m ∷ ns) n text e =
    grind (
      arith,
      nat_tests,
      bytes_eq-Decides (sub_set m).word text,
      found_option_has_word ns n
          text,
    )

pub option_is_named_by_word : (n : National) (text : List ℕ)
    → (named_option text ≡ Some n) ↔ (text ≡ (sub_set n).word)
unfolding named_option
option_is_named_by_word n text =
    (λ e. sym (found_option_has_word options n text e), λ is. rw is (option_of_word n))

-- The name in each row of a table is the name of the row's option.
abbrev pub HaveNames : List SubSet → Type 0
HaveNames rows = AllByRecursion (λ (r : SubSet). r.word.now ≡ (sub_set r.national).word) rows

-- If all rows of a table have their options' names, a search for a name finds the first option of
-- this name. (By induction: `grind` ends at its limit if it takes all rows as cases.)
pub option_of_found_row : (rows : List SubSet) (text : List ℕ)
    → HaveNames rows
    → option_map (λ (r : SubSet). r.national)
    (find (λ (r : SubSet). bytes_eq r.word.now text) rows)
    ≡ find (λ (n : National). bytes_eq (sub_set n).word text)
    (map (λ (r : SubSet). r.national) rows)
option_of_found_row [] text h = refl
option_of_found_row (r ∷ rows) text h =
    grind (arith, nat_tests, h.0, option_of_found_row rows text h.1)

-- `words_of` and `nationals_of` are the names and the options in a table's rows.
abbrev pub words_of : List SubSet → List (List ℕ)
words_of rows = map (λ (r : SubSet). r.word.now) rows

abbrev pub nationals_of : List SubSet → List National
nationals_of rows = map (λ (r : SubSet). r.national) rows

-- If the names in a table are those of its options, in this order, each row has its option's name.
have_names : (rows : List SubSet)
    → words_of rows ≡ map (λ (n : National). (sub_set n).word) (nationals_of rows)
    → HaveNames rows
have_names [] e = tt
have_names (r ∷ rows) e =
    let head : r.word.now ≡ (sub_set r.national).word = cc in
    let rest : words_of rows ≡ map (λ (n : National). (sub_set n).word) (nationals_of rows) = cc in
    (head, have_names rows rest)

-- If a table has all options in the order of the definition, each with its name, a search finds the
-- named option.
pub found_option_is_named : (rows : List SubSet) (text : List ℕ) (found : Option National)
    → found ≡ option_map (λ (r : SubSet). r.national)
    (find (λ (r : SubSet). bytes_eq r.word.now text) rows)
    → words_of rows ≡ map (λ (n : National). (sub_set n).word) (nationals_of rows)
    → nationals_of rows ≡ options
    → found ≡ named_option text
unfolding named_option
found_option_is_named rows text found is names all =
    is ∙ option_of_found_row rows text (have_names rows names)
    ∙ ap (λ (ns : List National). find (λ (n : National). bytes_eq (sub_set n).word text) ns) all
