-- In the default layout, English subtitles are drawn as their English pages, and a subtitle is
-- accepted exactly if its text can be drawn completely.
use Rattle.std.proofs.lemmas.Bool.Decides.{nat_tests}
use Rattle.std.proofs.lemmas.List.Elements.{All-cons, All-head, All-nil, All-tail}
use Rattle.std.proofs.Common.{◌≡◌, ◌≢◌, ◌⊎◌, ◌∙◌, ℕ, ◌+◌, ◌≤◌, Bool, true, false, List, [], ◌∷◌}
use Rattle.std.proofs.Common.{◌++◌, Option, Some, None, Result, Ok, refl, sym, ap, arith, inl, inr}
use Rattle.std.proofs.Common.{map, subst}
use Rattle.std.specs.Prelude.{◌==◌, ◌&&◌, nat_lt, length, All, IsOk, IsTrue, if◌then◌else◌}
use Rattle.std.specs.List.{cons_option, find}
use Rattle.std.specs.Result.{result_unwrap_or}
use Rattle.ttx_page.specs.Page.{Rows, blank}
use Rattle.stl_file.specs.Subtitle.{IsSubtitle, SubtitleValue}
use Rattle.stl_rows.specs.declared.fault.RowFault.{RowFault}
use Rattle.stl_rows.specs.declared.fault.RowFaultKind.{RowFaultKind}
use Rattle.stl_rows.specs.declared.fault.RowFaultKind.TheVariants.{DoubleRow, Hidden, PastBottom}
use Rattle.stl_rows.specs.declared.fault.RowFaultKind.TheVariants.{RowTooLong}
use Rattle.stl_rows.specs.declared.national.National.TheVariants.{English}
use Rattle.stl_rows.specs.DrawnPage.{drawn}
use Rattle.stl_rows.specs.DuePage.{drawn_or_blank, due, is_due}
use Rattle.stl_rows.specs.Line.{has_cells, has_double_height, boxed_line}
use Rattle.stl_rows.specs.PlainPage.{line_fault_kinds, line_faults, lines, fault_if}
use Rattle.stl_rows.specs.PlainPage.{page_of_lines, drawn_plainly, value_unless_error}
use Rattle.stl_rows.specs.SubSets.{cell_of_character, is_encoded_by, sub_set}
use Rattle.stl_rows.specs.TextCode.{cell_of, cell_of_pair, code_without_cell, text_codes_after_skip}
use Rattle.stl_rows.specs.TextCode.{fault_of, first_of, is_common, is_diacritical, is_style_code}
use Rattle.stl_rows.specs.TextCode.{is_within, lines_of_codes, new_line, fault_of_code}
use Rattle.stl_rows.specs.TextCode.{faults_of_codes, text_code, lines_with_code}
use Rattle.stl_rows.proofs.DefaultLayoutLemmas.{default_layout_draws_plainly}
use Rattle.stl_file.specs.declared.scope.Scope.{Scope}
use Rattle.stl_rows.specs.Layout.{default_layout, drawing_within}
use Rattle.stl_rows.specs.declared.layout.Drawing.{Drawing}
use Rattle.sub_headline.specs.Acceptance.{default_drawing}
use Rattle.sub_headline.specs.EnglishPage.{FitLines, FitsLine, IsHandledByte, IsDrawnCompletely}
use Rattle.sub_headline.specs.EnglishPage.{english_code}
use Rattle.sub_headline.specs.EnglishPage.{english_due_page}
use Rattle.sub_headline.specs.EnglishPage.{english_lines, english_page, page_or_blank, put}

-- If a table has no cell for a pair of bytes, it still has none after an entry for a single byte is
-- put in front of it.
single_byte_entry_adds_no_pair : (x : Bool) (a rest : Option ℕ) → rest ≡ None →
    (if x && false then a else rest) ≡ None
single_byte_entry_adds_no_pair true a rest e = e
single_byte_entry_adds_no_pair false a rest e = e

-- The national option English has no characters that are encoded as two bytes.
english_has_no_second_cell : (byte next : ℕ) → cell_of_character (sub_set English).characters
    (Some byte) next ≡ None
unfolding sub_set is_encoded_by
english_has_no_second_cell byte next =
    single_byte_entry_adds_no_pair (0xA3 == next) _ _
    (single_byte_entry_adds_no_pair (0x24 == next) _ _
    (single_byte_entry_adds_no_pair (0xA4 == next)
    _ _ (single_byte_entry_adds_no_pair (0x40 == next) _ _
    (single_byte_entry_adds_no_pair (0x23 == next) _ _ refl))))

choice_of_absent_is_absent : (x : Bool) (a : Option ℕ) → a ≡ None → (if x then a else None) ≡ None
choice_of_absent_is_absent true a e = e
choice_of_absent_is_absent false a e = refl

english_byte_has_no_pair : (byte : ℕ) (next : Option ℕ) → cell_of_pair English byte next ≡ None
unfolding cell_of_pair
english_byte_has_no_pair byte None = choice_of_absent_is_absent (is_diacritical byte) None refl
english_byte_has_no_pair byte (Some next) = choice_of_absent_is_absent (is_diacritical byte)
    _ (english_has_no_second_cell byte next)

-- If two tables have the same cell for a byte, they still do after the same entry for a single byte
-- is put in front of both.
same_entry_keeps_cells_equal : (x : Bool) (a p q : Option ℕ) → p ≡ q
    → (if x && true then a else p) ≡ (if x then a else q)
same_entry_keeps_cells_equal true a p q e = refl
same_entry_keeps_cells_equal false a p q e = e

cell_eq : (byte : ℕ) → cell_of English byte ≡ english_code byte
unfolding cell_of sub_set is_encoded_by english_code
cell_eq byte =
    ap (λ (o : Option ℕ). if is_common byte then Some byte else o)
    (same_entry_keeps_cells_equal (0xA3 == byte) _ _ _
    (same_entry_keeps_cells_equal (0x24 == byte) _ _ _
    (same_entry_keeps_cells_equal (0xA4 == byte) _ _ _
    (same_entry_keeps_cells_equal (0x40 == byte) _ _ _ (same_entry_keeps_cells_equal (0x23 == byte)
    _ _ _ refl)))))

first_code_precedes_others : (place byte : ℕ) (bytes : List ℕ)
    → text_codes_after_skip English place 0 (byte ∷ bytes)
    ≡ (place, text_code English byte) ∷ text_codes_after_skip English (place + 1) 0 bytes
first_code_precedes_others place byte bytes = rw (english_byte_has_no_pair byte (first_of bytes))
    refl

absent_cell_keeps_lines : (byte : ℕ) (lines : List (List ℕ))
    → lines_with_code (code_without_cell byte) lines ≡ put None byte lines
unfolding code_without_cell
absent_cell_keeps_lines byte lines = grind (arith, nat_tests)

cell_is_put_on_line : (cell : Option ℕ) (byte : ℕ) (lines : List (List ℕ))
    → cell_of English byte ≡ cell
    → lines_with_code (text_code English byte) lines ≡ put cell byte lines
cell_is_put_on_line (Some cell) byte lines e = rw e refl
cell_is_put_on_line None byte lines e = rw e (absent_cell_keeps_lines byte lines)

codes_give_english_lines : (place : ℕ) (text : List ℕ)
    → lines_of_codes (text_codes_after_skip English place 0 text) ≡ english_lines text
codes_give_english_lines place [] = refl
codes_give_english_lines place (byte ∷ bytes) =
    ap lines_of_codes (first_code_precedes_others place byte bytes)
    ∙ ap (lines_with_code (text_code English byte)) (codes_give_english_lines (place + 1) bytes)
    ∙ cell_is_put_on_line (english_code byte) byte (english_lines bytes) (cell_eq byte)

reading_gives_nothing : (byte place : ℕ)
    → fault_of_code place (code_without_cell byte) ≡ None
    → (is_style_code byte ≡ false)
    → (byte == new_line) ≡ false
    → ⊥
unfolding code_without_cell
reading_gives_nothing byte place e code end = grind (arith, nat_tests)

new_line_test_is_exact : (byte : ℕ) → (byte == new_line) ≡ true → byte ≡ new_line
new_line_test_is_exact byte e = grind (arith, nat_tests)

read_by : (is_none is_end : Bool) (byte place : ℕ)
    → is_style_code byte ≡ is_none
    → (byte == new_line) ≡ is_end
    → fault_of_code place (code_without_cell byte) ≡ None
    → (byte ≡ new_line) ⊎ (is_within 0x80 0x85 byte ≡ true)
read_by true is_end byte place none end e = inr none
read_by false true byte place none end e = inl (new_line_test_is_exact byte end)
read_by false false byte place none end e = absurd (reading_gives_nothing byte place e none end)

accepted_byte_is_handled : (cell : Option ℕ) (byte place : ℕ)
    → cell_of English byte ≡ cell
    → fault_of_code place (text_code English byte) ≡ None
    → (cell ≢ None) ⊎ (byte ≡ new_line) ⊎ (is_within 0x80 0x85 byte ≡ true)
accepted_byte_is_handled (Some cell) byte place is e = inl (λ none. cc)
accepted_byte_is_handled None byte place is e =
    inr (read_by (is_style_code byte) (byte == new_line) byte place refl refl (rw is at e))

absent_first_keeps_list : {X : Type 0} (o : Option X) (xs : List X)
    → cons_option o xs ≡ []
    → (o ≡ None) × (xs ≡ [])
absent_first_keeps_list None xs e = (refl, e)
absent_first_keeps_list (Some x) xs e = cc

accepted_text_is_handled : (place : ℕ) (text : List ℕ)
    → faults_of_codes (text_codes_after_skip English place 0 text) ≡ []
    → All IsHandledByte text
accepted_text_is_handled place [] e = All-nil IsHandledByte
accepted_text_is_handled place (byte ∷ bytes) e =
    let of =
    absent_first_keeps_list (fault_of_code place (text_code English byte))
    (faults_of_codes (text_codes_after_skip English (place + 1) 0 bytes))
    (sym (ap faults_of_codes (first_code_precedes_others place byte bytes)) ∙ e) in
    All-cons IsHandledByte byte bytes (accepted_byte_is_handled (english_code byte) byte place
    (cell_eq byte) of.0)
    (accepted_text_is_handled (place + 1) bytes of.1)

accepted_has_no_faults : {A E : Type 0} (es : List E) (value : A) → IsOk
    (value_unless_error es value) → es ≡ []
accepted_has_no_faults [] value ok = refl
accepted_has_no_faults (e ∷ es) value ok = cc

append_empty_parts : {A : Type 0} (xs ys : List A) → xs ++ ys ≡ [] → (xs ≡ []) × (ys ≡ [])
append_empty_parts [] ys e = (refl, e)
append_empty_parts (x ∷ xs) ys e = cc

mapping_to_empty_means_empty : {A B : Type 0} (f : A → B) (xs : List A) → map f xs ≡ [] → xs ≡ []
mapping_to_empty_means_empty f [] e = refl
mapping_to_empty_means_empty f (x ∷ xs) e = cc

absent_fault_has_false_condition : (b : Bool) (kind : RowFaultKind) → fault_if b kind ≡ [] → b ≡
    false
absent_fault_has_false_condition true kind e = cc
absent_fault_has_false_condition false kind e = refl

short_line_has_40_cells : (n : ℕ) → nat_lt 40 n ≡ false → n ≤ 40
short_line_has_40_cells n e = grind (arith, nat_tests)

line_is_above_row_24 : (line : List ℕ) (row : ℕ)
    → has_cells line && nat_lt 23 row ≡ false
    → line ≢ []
    → row ≤ 23
line_is_above_row_24 [] row e some = absurd (some refl)
line_is_above_row_24 (c ∷ cells) row e some = grind (arith, nat_tests)

double_line_not_in_row_23 : (is : Bool) (row : ℕ) → is && (row == 23) ≡ false → IsTrue is → row ≢ 23
double_line_not_in_row_23 true row e double at_23 = grind (arith, nat_tests)
double_line_not_in_row_23 false row e double at_23 = cc

covered_line_is_empty : (line : List ℕ) (under : Bool)
    → has_cells line && under ≡ false
    → IsTrue under
    → line ≡ []
covered_line_is_empty [] under e is = refl
covered_line_is_empty (c ∷ cells) true e is = cc
covered_line_is_empty (c ∷ cells) false e is = cc

accepted_line_fits : (row : ℕ) (under : Bool) (line : List ℕ)
    → line_fault_kinds row under line ≡ []
    → FitsLine row under line
unfolding line_fault_kinds
accepted_line_fits row under line e =
    let long = fault_if (nat_lt 40 (length line)) RowTooLong in
    let low = fault_if (has_cells line && nat_lt 23 row) PastBottom in
    let double = fault_if (has_double_height line && (row == 23)) DoubleRow in
    let three = append_empty_parts ((long ++ low) ++ double) (fault_if (has_cells line && under)
    Hidden)
    e in
    let two = append_empty_parts (long ++ low) double three.0 in
    let one = append_empty_parts long low two.0 in
    record {
      short = short_line_has_40_cells (length line) (absent_fault_has_false_condition
          (nat_lt 40 (length line)) RowTooLong one.0);
      high = line_is_above_row_24 line row
          (absent_fault_has_false_condition (has_cells line && nat_lt 23 row) PastBottom one.1);
      double_not_in_row_23 =
          double_line_not_in_row_23 (has_double_height line) row (absent_fault_has_false_condition
          (has_double_height line && (row == 23)) DoubleRow
          two.1);
      empty_below_double_height = covered_line_is_empty line under
          (absent_fault_has_false_condition (has_cells line && under) Hidden three.1);
    }

accepted_lines_fit : (number row : ℕ) (under : Bool) (ls : List (List ℕ))
    → line_faults number row under ls ≡ []
    → FitLines row under ls
accepted_lines_fit number row under [] e = tt
accepted_lines_fit number row under (line ∷ ls) e =
    let of = append_empty_parts _ _ e in (
      accepted_line_fits row under line (mapping_to_empty_means_empty _ _ of.0),
      accepted_lines_fit (number + 1) (row + 1) (has_double_height line) ls of.1,
    )

-- The subtitle is drawn as its English page, and its text is drawn completely.
pub record IsDrawnAsEnglish (t : SubtitleValue) : Type 0 where
  pub page : drawn default_drawing t ≡ Ok (english_page t)
  pub whole : IsDrawnCompletely t

default_drawing_is_plain : (t : SubtitleValue)
    → IsOk (drawn_plainly English t)
    → (drawn_plainly English t ≡ Ok (english_page t)) × IsDrawnCompletely t
unfolding drawn_plainly page_of_lines
default_drawing_is_plain t ok =
    let none = accepted_has_no_faults _ (page_of_lines t.jc t.vp (lines English t)) ok in (
      ap
          (λ (es : List RowFault).
          let r : Result Rows RowFault = value_unless_error es (page_of_lines t.jc t.vp
          (lines English t)) in r)
          none
          ∙ ap
          (λ (ls : List (List ℕ)).
          let r : Result Rows RowFault = Ok (page_of_lines t.jc t.vp (map boxed_line ls)) in r)
          (codes_give_english_lines 0 t.text),
      record {
        read = accepted_text_is_handled 0 t.text (append_empty_parts _ _ none).0;
        lines_fit_on_page =
            subst (λ (ls : List (List ℕ)). FitLines t.vp false (map boxed_line ls))
            (codes_give_english_lines 0 t.text)
            (accepted_lines_fit 0 t.vp false (lines English t) (append_empty_parts _ _ none).1);
      },
    )

pub accepted_subtitle_is_drawn : (t : SubtitleValue) → IsSubtitle t → IsOk (drawn default_drawing t)
    → IsDrawnAsEnglish t
accepted_subtitle_is_drawn t is ok =
    let plain = default_layout_draws_plainly English t is.vp.0 in
    let of = default_drawing_is_plain t (subst (λ (r : Result Rows RowFault). IsOk r) plain ok) in
    record { page = plain ∙ of.0; whole = of.1 }

pub accepted_subtitles_are_drawn : (ts : List SubtitleValue)
    → All IsSubtitle ts
    → All (λ t. IsOk (drawn default_drawing t)) ts
    → All IsDrawnAsEnglish ts
accepted_subtitles_are_drawn [] each ok = All-nil IsDrawnAsEnglish
accepted_subtitles_are_drawn (t ∷ ts) each ok =
    All-cons IsDrawnAsEnglish t ts
    (accepted_subtitle_is_drawn t (All-head IsSubtitle t ts each)
    (All-head (λ t. IsOk (drawn default_drawing t)) t ts ok))
    (accepted_subtitles_are_drawn ts (All-tail IsSubtitle t ts each)
    (All-tail (λ t. IsOk (drawn default_drawing t)) t ts ok))

expected_subtitle_by_test : (is : Bool) (t : SubtitleValue) (rest : Option SubtitleValue)
    → drawn default_drawing t ≡ Ok (english_page t)
    → drawn_or_blank default_drawing rest ≡ page_or_blank rest
    → drawn_or_blank default_drawing
    (let o : Option SubtitleValue = if is then Some t else rest in o)
    ≡ page_or_blank (if is then Some t else rest)
expected_subtitle_by_test true t rest e same = grind (arith, nat_tests)
expected_subtitle_by_test false t rest e same = same

equal_searches_find_subtitle : (ts : List SubtitleValue) (f : ℕ)
    → All IsDrawnAsEnglish ts
    → drawn_or_blank default_drawing (find (is_due f) ts) ≡ page_or_blank (find (is_due f) ts)
equal_searches_find_subtitle [] f each = refl
equal_searches_find_subtitle (t ∷ ts) f each =
    expected_subtitle_by_test (is_due f t) t (find (is_due f) ts) (All-head IsDrawnAsEnglish t ts
    each).page
    (equal_searches_find_subtitle ts f (All-tail IsDrawnAsEnglish t ts each))

pub due_eq : (ts : List SubtitleValue) (f : ℕ)
    → All IsDrawnAsEnglish ts
    → due default_drawing ts f ≡ english_due_page ts f
unfolding due
due_eq ts f each = equal_searches_find_subtitle ts f each

-- The drawing of English subtitles in the default layout, for a selected part of the file. The part
-- does not affect how a subtitle is drawn.
abbrev pub english_within : Scope → Drawing
english_within scope = drawing_within English default_layout scope

pub scope_does_not_change_drawing : (scope : Scope) (t : SubtitleValue)
    → drawn (english_within scope) t ≡ drawn default_drawing t
unfolding drawn
scope_does_not_change_drawing scope t = refl

scope_does_not_change_page : (scope : Scope) (o : Option SubtitleValue)
    → drawn_or_blank (english_within scope) o ≡ drawn_or_blank default_drawing o
scope_does_not_change_page scope None = refl
scope_does_not_change_page scope (Some t) =
    ap (λ (r : Result Rows RowFault). result_unwrap_or r blank) (scope_does_not_change_drawing scope
    t)

pub scope_does_not_change_due_page : (scope : Scope) (ts : List SubtitleValue) (f : ℕ)
    → All IsDrawnAsEnglish ts
    → due (english_within scope) ts f ≡ english_due_page ts f
unfolding due
scope_does_not_change_due_page scope ts f each = scope_does_not_change_page scope
    (find (is_due f) ts) ∙ due_eq ts f each

empty_lists_join_empty : {A : Type 0} (xs ys : List A) → xs ≡ [] → ys ≡ [] → xs ++ ys ≡ []
empty_lists_join_empty [] ys e f = f
empty_lists_join_empty (x ∷ xs) ys e f = cc

empty_first_gives_nothing : {X : Type 0} (o : Option X) (xs : List X) → o ≡ None → xs ≡ [] →
    cons_option o xs ≡ []
empty_first_gives_nothing None xs e f = f
empty_first_gives_nothing (Some x) xs e f = cc

new_line_is_accepted : (byte place : ℕ) → byte ≡ new_line → fault_of_code place
    (code_without_cell byte) ≡ None
unfolding code_without_cell
new_line_is_accepted byte place e =
    subst (λ (b : ℕ). fault_of_code place (code_without_cell b) ≡ None) (sym e) refl

byte_without_cell_is_accepted : (byte place : ℕ)
    → is_style_code byte ≡ true
    → fault_of_code place (code_without_cell byte) ≡ None
unfolding code_without_cell
byte_without_cell_is_accepted byte place e = grind (arith, nat_tests)

taken : (cell : Option ℕ) (byte place : ℕ)
    → cell_of English byte ≡ cell
    → (cell ≢ None) ⊎ (byte ≡ new_line) ⊎ (is_within 0x80 0x85 byte ≡ true)
    → fault_of_code place (text_code English byte) ≡ None
taken (Some cell) byte place is read = rw is refl
taken None byte place is (inl some) = absurd (some refl)
taken None byte place is (inr (inl end)) = rw is (new_line_is_accepted byte place end)
taken None byte place is (inr (inr within)) = rw is (byte_without_cell_is_accepted byte place
    within)

handled_text_is_accepted : (place : ℕ) (text : List ℕ)
    → All IsHandledByte text
    → faults_of_codes (text_codes_after_skip English place 0 text) ≡ []
handled_text_is_accepted place [] read = refl
handled_text_is_accepted place (byte ∷ bytes) read =
    ap faults_of_codes (first_code_precedes_others place byte bytes)
    ∙ empty_first_gives_nothing (fault_of_code place (text_code English byte))
    (faults_of_codes (text_codes_after_skip English (place + 1) 0 bytes))
    (taken (english_code byte) byte place (cell_eq byte) (All-head IsHandledByte byte bytes read))
    (handled_text_is_accepted (place + 1) bytes (All-tail IsHandledByte byte bytes read))

line_not_too_long : (n : ℕ) → n ≤ 40 → nat_lt 40 n ≡ false
line_not_too_long n le = grind (arith, nat_tests)

line_does_not_pass_row_23 : (line : List ℕ) (row : ℕ)
    → (line ≢ [] → row ≤ 23)
    → has_cells line && nat_lt 23 row ≡ false
line_does_not_pass_row_23 [] row high = refl
line_does_not_pass_row_23 (c ∷ cells) row high = let le = high (λ none. cc) in grind
    (arith, nat_tests)

not_double_in_row_23 : (is : Bool) (row : ℕ) → (IsTrue is → row ≢ 23) → is && (row == 23) ≡ false
not_double_in_row_23 true row double_not_in_row_23 = let not = double_not_in_row_23 refl in grind
    (arith, nat_tests)
not_double_in_row_23 false row double_not_in_row_23 = refl

line_is_not_covered : (line : List ℕ) (under : Bool)
    → (IsTrue under → line ≡ [])
    → has_cells line && under ≡ false
line_is_not_covered [] under seen = refl
line_is_not_covered (c ∷ cells) true seen = let none = seen refl in cc
line_is_not_covered (c ∷ cells) false seen = refl

false_condition_has_no_fault : (b : Bool) (kind : RowFaultKind) → b ≡ false → fault_if b kind ≡ []
false_condition_has_no_fault b kind e = ap (λ (b : Bool). fault_if b kind) e

fitting_line_has_no_fault : (row : ℕ) (under : Bool) (line : List ℕ)
    → FitsLine row under line
    → line_fault_kinds row under line ≡ []
unfolding line_fault_kinds
fitting_line_has_no_fault row under line lines_fit_on_page =
    empty_lists_join_empty _ _
    (empty_lists_join_empty _ _
    (empty_lists_join_empty
    _ _ (false_condition_has_no_fault _ RowTooLong (line_not_too_long (length line)
    lines_fit_on_page.short))
    (false_condition_has_no_fault _ PastBottom
    (line_does_not_pass_row_23 line row lines_fit_on_page.high)))
    (false_condition_has_no_fault _ DoubleRow (not_double_in_row_23 (has_double_height line) row
    lines_fit_on_page.double_not_in_row_23)))
    (false_condition_has_no_fault _ Hidden (line_is_not_covered line under
    lines_fit_on_page.empty_below_double_height))

fitting_lines_have_no_faults : (number row : ℕ) (under : Bool) (ls : List (List ℕ))
    → FitLines row under ls
    → line_faults number row under ls ≡ []
fitting_lines_have_no_faults number row under [] lines_fit_on_page = refl
fitting_lines_have_no_faults number row under (line ∷ ls) lines_fit_on_page =
    empty_lists_join_empty
    _ _ (ap (map (fault_of number))
    (fitting_line_has_no_fault row under line lines_fit_on_page.0))
    (fitting_lines_have_no_faults (number + 1) (row + 1) (has_double_height line) ls
    lines_fit_on_page.1)

no_faults_give_ok : {A E : Type 0} (es : List E) (value : A) → es ≡ [] → IsOk
    (value_unless_error es value)
no_faults_give_ok [] value none = refl
no_faults_give_ok (e ∷ es) value none = cc

complete_drawing_is_accepted : (t : SubtitleValue) → IsDrawnCompletely t → IsOk
    (drawn_plainly English t)
unfolding drawn_plainly page_of_lines
complete_drawing_is_accepted t whole =
    no_faults_give_ok _ (page_of_lines t.jc t.vp (lines English t))
    (empty_lists_join_empty (faults_of_codes (text_codes_after_skip English 0 0 t.text))
    (line_faults 0 t.vp false (lines English t)) (handled_text_is_accepted 0 t.text whole.read)
    (fitting_lines_have_no_faults 0 t.vp false (lines English t)
    (subst (λ (ls : List (List ℕ)). FitLines t.vp false (map boxed_line ls))
    (sym (codes_give_english_lines 0 t.text))
    whole.lines_fit_on_page)))

pub complete_subtitle_is_accepted : (t : SubtitleValue) → IsSubtitle t → IsDrawnCompletely t → IsOk
    (drawn default_drawing t)
complete_subtitle_is_accepted t is whole =
    subst (λ (r : Result Rows RowFault). IsOk r)
    (sym (default_layout_draws_plainly English t is.vp.0))
    (complete_drawing_is_accepted t whole)
