-- A packet breaks a rule for packets exactly if the checker's test for the rule is true; for
-- changed rows, if the earlier packets have no fault and the packet has no coding error.
use Rattle.std.proofs.Common.{◌≡◌, ℕ, zero, suc, ◌<◌, ◌≤◌, inl, inr, Bool, true, false, not}
use Rattle.std.proofs.Common.{◌&&◌, List, [], ◌∷◌, Option, Some, None, option_map, refl, sym, ◌∙◌}
use Rattle.std.proofs.Common.{◌↔◌, arith, length, get_or, subst, is_some, take, All, IsTrue, ◌++◌}
use Rattle.std.proofs.Common.{add-one, ap, cond, IsFalse, ◌⊎◌, ◌||◌}
use Rattle.std.specs.Bool.{Decides}
use Rattle.std.specs.List.{AllByRecursion, list_any}
use Rattle.std.proofs.lemmas.Bool.{cases_Bool, true≢false}
use Rattle.std.proofs.lemmas.Bool.Decides.{nat_tests, Decides-and, Decides-at, Decides-eqb}
use Rattle.std.proofs.lemmas.Bool.Decides.{Decides-like}
use Rattle.std.proofs.lemmas.List.Elements.{recursion_from_All}
use Rattle.std.proofs.lemmas.Option.{none-some, same_Some}
use Rattle.std.proofs.lemmas.List.{get_or_default, same_lists, length-drop, length-map, take_all}
use Rattle.std.proofs.lemmas.List.{take_more}
use Rattle.ttx_packet.specs.OneBit.{first_below}
use Rattle.ttx_packet.specs.PacketAddress.{HasExactAddress, IsPacket, PacketAddress, address}
use Rattle.ttx_packet.specs.PageHeader.{HasExactHeader, c4, c11, header}
use Rattle.ttx_packet.specs.PageId.{PageIdValue}
use Rattle.ttx_packet.specs.Parity.{is_odd}
use Rattle.ttx_packet.specs.RowPacket.{HasOddParityText, first_even_parity_column, text_byte}
use Rattle.ttx_packet.specs.declared.header.Header.{Header}
use Rattle.ttx_packet.proofs.OneBitLemmas.{first_below_satisfies_test}
use Rattle.ttx_page.specs.Differing.{differing_column_count, row_difference}
use Rattle.ttx_page.specs.Noise.{HasOddParityTextIfRow, AreEqualIfSameRow}
use Rattle.ttx_page.proofs.NoiseStepLemmas.{is_row_implies_row}
use Rattle.ttx_page.proofs.SpanListLemmas.{find_none}
use Rattle.ttx_page.proofs.TextSpan.{text_span-push}
use Rattle.ttx_page.specs.PacketKind.{begins_text, ends_page, is_row, is_page_row, is_this_page}
use Rattle.ttx_page.specs.PacketKind.{kind}
use Rattle.ttx_page.specs.Span.{is_open_after, text_span}
use Rattle.ttx_page.specs.declared.packet_kind.PacketKind.{PacketKind}
use Rattle.ttx_page.specs.declared.packet_kind.PacketKind.TheVariants.{Row, ThisPage}
use Rattle.ttx_page.proofs.DifferingLemmas.{zero_difference_equal_columns}
use Rattle.stl_rows.specs.declared.national.National.{National}
use Rattle.sub_rules.specs.Good.{IsCleanSpan, IsEnhancement}
use Rattle.sub_rules.specs.Kept.{HasSubtitleBits, HasAllowedHeader, IsRepeat}
use Rattle.sub_rules.specs.PacketRules.{AreClean, KeepsAllRules, KeepsRule, codes_of, first_header}
use Rattle.sub_rules.specs.PacketTests.{are_code_words, breaks, is_header_address}
use Rattle.sub_rules.specs.PacketTests.{is_enhancement_address}
use Rattle.sub_rules.specs.PacketTests.{has_different_mode, has_different_row, has_different_text}
use Rattle.sub_rules.specs.PacketTests.{first_packet_of_row, has_subtitle_bits, counts_as_repeat}
use Rattle.sub_rules.specs.PacketTests.{is_same_subcode, is_allowed_page_header, is_wrong_header}
use Rattle.sub_rules.specs.PacketTests.{erases_or_may_repeat}
use Rattle.sub_rules.specs.declared.packet_rule.PacketRule.{PacketRule}
use Rattle.sub_rules.specs.declared.packet_rule.PacketRule.TheVariants as rule
use Rattle.sub_rules.specs.declared.packet_rule.Watched.{Watched}
use Rattle.sub_laws.specs.BrokenPlaces.{IsComparable}
use Rattle.sub_laws.proofs.BrokenPlaceLemmas.{rule_keeping_packets_have_clean_spans}
use Rattle.sub_rules.proofs.TestLemmas.{no_first_below_fails_each, fails, holds}
use Rattle.sub_rules.proofs.TestLemmas.{national_option_test_is_exact}
use Rattle.sub_rules.proofs.CodesLemmas.{same_packet}
use Rattle.sub_rules.proofs.PacketLists.{Each-find, Each-join, Each-map, Each-none, Each-push}
use Rattle.sub_rules.proofs.PacketLists.{failed_row_test_excludes_row}
use Rattle.sub_rules.proofs.CodeWordLemmas.{address_test_is_exact, header_test_is_exact}

-- The test b fails if and only if the property P holds.
abbrev pub Refutes : Bool → Type 0 → Type 0
Refutes b P = Decides (not b) P

pub failed_test_refutes_property : {P : Type 0} (b : Bool) → Refutes b P → (b ≡ false) ↔ P
failed_test_refutes_property b h1 = grind (arith, nat_tests, true≢false)

pub coded_header_test_is_exact : (o : Option PacketAddress) (b : Bool) (P : Type 0) → Decides b P
    → Refutes (is_header_address o && not b) ((a : PacketAddress) → o ≡ Some a → a.packet_number ≡ 0
    → P)
coded_header_test_is_exact o b P d = grind (arith, nat_tests)

mode-none : (o : Option Bool) → has_different_mode o None ≡ false
mode-none o = grind (arith, nat_tests)

pub mode_test_is_exact : (this first : Option Header)
    → Refutes
    (has_different_mode (option_map (λ (h : Header). c11 h) first)
    (option_map (λ (h : Header). c11 h) this))
    ((h f : Header) → this ≡ Some h → first ≡ Some f → c11 h ≡ c11 f)
mode_test_is_exact this first = grind (arith, nat_tests, mode-none)

subtitle_bits_test_is_exact : (national : National) (h : Header)
    → Decides (has_subtitle_bits national h) (HasSubtitleBits national h)
subtitle_bits_test_is_exact national h = grind
    (arith, nat_tests, holds, fails, national_option_test_is_exact)

subcode_test_is_exact : (last : Option Header) (h : Header)
    → Decides (is_same_subcode last h)
    ((before : Header) → last ≡ Some before → h.subcode ≡ before.subcode)
subcode_test_is_exact last h = grind (arith, nat_tests, none-some, same_Some)

complete_page_test_is_exact : (asks opened : Bool) → Decides (not (asks && opened))
    (IsTrue asks → IsFalse opened)
complete_page_test_is_exact asks opened = grind (arith, nat_tests, true≢false)

repeat_test_is_exact : (complete : Bool) (page : PageIdValue) (before : List (List ℕ)) (h : Header)
    → Decides (counts_as_repeat complete page before h) (IsRepeat complete page before h)
repeat_test_is_exact complete page before h = grind (
  arith,
  nat_tests,
  subcode_test_is_exact,
  complete_page_test_is_exact,
)

erase_or_repeat_test_is_exact : (keeps erases repeats : Bool) (P : Type 0) → Decides repeats P
    → Decides (erases || (keeps && repeats))
    ((IsFalse keeps → IsTrue erases) × (IsTrue erases ⊎ P))
erase_or_repeat_test_is_exact keeps erases repeats P h1 = grind (arith, nat_tests)

header_is_allowed_page_header : (w : Watched) (before : List (List ℕ)) (h : Header)
    → Decides (is_allowed_page_header w before h)
    (((IsFalse w.keeps → IsTrue (c4 h))
    × (IsTrue (c4 h) ⊎ IsRepeat w.complete w.page before h))
    × HasSubtitleBits w.national h)
header_is_allowed_page_header w before h =
    Decides-and (erases_or_may_repeat w before h) (has_subtitle_bits w.national h)
    (erase_or_repeat_test_is_exact w.keeps (c4 h) (counts_as_repeat w.complete w.page before h)
    (IsRepeat w.complete w.page before h) (repeat_test_is_exact w.complete w.page before h))
    (subtitle_bits_test_is_exact w.national h)

page_headers_are_equal : (h k : Header) → ThisPage h ≡ ThisPage k → h ≡ k
page_headers_are_equal h k e = grind arith

double_negation_cancels : (b : Bool) → not (not b) ≡ b
double_negation_cancels b = grind (arith, nat_tests)

pub control_test_is_exact : (w : Watched) (before : List (List ℕ)) (p : List ℕ) (k : PacketKind)
    → kind w.page p ≡ k
    → Refutes (is_wrong_header w before k) (HasAllowedHeader w before p)
control_test_is_exact w before p (ThisPage h) is =
    Decides-at _ _ (double_negation_cancels (is_allowed_page_header w before h))
    (Decides-like _
    (λ requested. record {
      control = λ k e.
          subst (HasSubtitleBits w.national) (page_headers_are_equal h k (sym is ∙ e)) requested.1;
      erases = λ none k e.
          subst (λ x. IsTrue (c4 x)) (page_headers_are_equal h k (sym is ∙ e)) (requested.0.0 none);
      keeping = λ k e.
          subst (λ x. IsTrue (c4 x) ⊎ IsRepeat w.complete w.page before x)
          (page_headers_are_equal h k (sym is ∙ e)) requested.0.1;
    })
    (λ rule. ((λ none. rule.erases none h is, rule.keeping h is), rule.control h is))
    (header_is_allowed_page_header w before h))
control_test_is_exact w before p k is = (
  λ e. record { control = λ h this. cc; erases = λ none h this. cc; keeping = λ h this. cc },
  λ rule. refl,
)

pub parity_test_of_text_is_exact : (p : List ℕ) → Refutes (is_some (first_even_parity_column p))
    (HasOddParityText p)
unfolding first_even_parity_column
parity_test_of_text_is_exact p = go (first_below 40 (λ column. not (is_odd (text_byte p column))))
    refl
  where
    go : (o : Option ℕ) → first_below 40 (λ column. not (is_odd (text_byte p column))) ≡ o
        → Refutes (is_some o) (HasOddParityText p)
    go None e = (
      λ _ column l.
          let odd = no_first_below_fails_each 40 (λ column. not (is_odd (text_byte p column))) e
          column l in
          grind (arith, nat_tests),
      λ h. refl,
    )
    go (Some column) e = (
      λ f. absurd (true≢false (sym f)),
      λ h.
          let even = first_below_satisfies_test 40 (λ column. not (is_odd (text_byte p column)))
          column e in
          grind (arith, nat_tests),
    )

pub row_has_odd_parity : (p : List ℕ) (k : PacketKind)
    → Refutes (is_page_row k && is_some (first_even_parity_column p))
    ((row : ℕ) → k ≡ Row row → HasOddParityText p)
row_has_odd_parity p k = grind (arith, nat_tests, parity_test_of_text_is_exact)

pub packet_is_no_enhancement : (page : PageIdValue) (p : List ℕ) (o : Option PacketAddress) →
    address p ≡ o
    → Refutes (is_enhancement_address page o) (IsEnhancement page p → ⊥)
packet_is_no_enhancement page p o h1 = grind (arith, nat_tests, none-some, same_Some)

equal_lists_have_no_difference : (n : ℕ) (xs : List ℕ) → differing_column_count n xs xs ≡ 0
unfolding differing_column_count
equal_lists_have_no_difference zero xs = refl
equal_lists_have_no_difference (suc n) xs = let before = equal_lists_have_no_difference n xs
    in grind (arith, nat_tests)

codes_length : (p : List ℕ) → length p ≡ 42 → length (codes_of p) ≡ 40
codes_length p l = grind (arith, length-map, length-drop 2 p)

rows_have_equal_codes : (p q : List ℕ) → length p ≡ 42 → length q ≡ 42
    → row_difference (codes_of p) (codes_of q) ≡ 0 → codes_of p ≡ codes_of q
rows_have_equal_codes p q lp lq e =
    let one = codes_length p lp in
    let other = codes_length q lq in
    same_lists (codes_of p) (codes_of q) (one ∙ sym other)
    (λ k d l.
    get_or_default (codes_of p) k d 0 l
    ∙ zero_difference_equal_columns 40 (codes_of p) (codes_of q) e k (omega (arith, one))
    ∙ get_or_default (codes_of q) k 0 d (omega (arith, one, other)))

-- The packets, which are those since the page was erased, are clean, and each of them has 42 bytes
-- and correct address bytes.
pub record IsSoundSpan (w : Watched) (packets : List (List ℕ)) : Type 0 where
  pub clean : IsCleanSpan w.page packets
  pub whole : AllByRecursion (λ q. IsPacket q × HasExactAddress q) packets

abbrev IsSoundPacket : Watched → List (List ℕ) → List ℕ → Type 0
IsSoundPacket w packets q =
    (IsPacket q × HasExactAddress q) × HasOddParityTextIfRow w.page q
    × All (AreEqualIfSameRow w.page q) packets

each_packet_is_sound : (w : Watched) (packets : List (List ℕ)) → IsSoundSpan w packets
    → AllByRecursion (IsSoundPacket w packets) packets
each_packet_is_sound w packets s =
    Each-join (λ q. IsPacket q × HasExactAddress q)
    (λ q. HasOddParityTextIfRow w.page q × All (AreEqualIfSameRow w.page q) packets)
    (IsSoundPacket w packets)
    (λ q a b. (a, b.0, b.1)) packets s.whole
    (grind (arith, nat_tests, Each-join, recursion_from_All))

address-row : (w : Watched) (p : List ℕ) (row : ℕ) → kind w.page p ≡ Row row
    → address p ≡ Some (record { magazine = w.page.magazine; packet_number = row })
unfolding kind
address-row w p row e = grind (arith, nat_tests)

module _ (w : Watched) (packets : List (List ℕ)) (s : IsSoundSpan w packets) (p : List ℕ) (row : ℕ)
    (is_row_of : kind w.page p ≡ Row row) (whole : IsPacket p) (exact : HasExactAddress p)
    (odd : HasOddParityText p) where
  abbrev IsSameAsEachRow : Type 0
  IsSameAsEachRow = AllByRecursion (λ q. kind w.page q ≡ Row row → q ≡ p) packets

  found : (q : List ℕ) → kind w.page q ≡ Row row → IsSoundPacket w packets q
      → Refutes (has_different_text (Some q) (codes_of p)) (q ≡ p)
  found q k sound =
      grind (
        arith,
        nat_tests,
        Decides-eqb,
        same_packet,
        address-row,
        rows_have_equal_codes,
        equal_lists_have_no_difference,
      )

  pub row_change_test_is_exact : Refutes
      (has_different_text (first_packet_of_row w.page packets row) (codes_of p)) IsSameAsEachRow
  row_change_test_is_exact = elim
      (cases_Bool (list_any (λ q. is_row row (kind w.page q)) packets)) [
        | inl e ↦
            let q = Each-find (λ q. is_row row (kind w.page q)) (IsSoundPacket w packets) packets e
            (each_packet_is_sound w packets s) in
            let k = is_row_implies_row row (kind w.page q.0) q.2 in
            subst (λ o. Refutes (has_different_text o (codes_of p)) IsSameAsEachRow) (sym q.1)
            (Decides-like _
            (λ is. Each-map (AreEqualIfSameRow w.page q.0) (λ x. kind w.page x ≡ Row row → x ≡ p)
            (λ x same of. sym (same row k of) ∙ is) packets
            (recursion_from_All (AreEqualIfSameRow w.page q.0) packets q.3.2))
            (λ all. grind (arith, nat_tests, Each-find, same_Some, is_row_implies_row))
            (found q.0 k q.3))
        | inr e ↦
            subst (λ o. Refutes (has_different_text o (codes_of p)) IsSameAsEachRow)
            (sym (find_none (λ q. is_row row (kind w.page q)) packets e)) (
              λ _. Each-map (λ q. is_row row (kind w.page q) ≡ false)
                  (λ q. kind w.page q ≡ Row row → q ≡ p)
                  (λ q other of. absurd (failed_row_test_excludes_row row (kind w.page q) other of))
                  packets
                  (Each-none (λ q. is_row row (kind w.page q)) packets e),
              λ _. refl,
            )
      ]

Each-span : (keeps : Bool) (page : PageIdValue) (P : List ℕ → Type 0) (xs : List (List ℕ))
    → ((k : ℕ) → k < length xs → P (get_or xs k [])) → (n : ℕ) → n ≤ length xs
    → AllByRecursion P (text_span keeps (kind page) (take n xs))
Each-span keeps page P xs each zero l = tt
Each-span keeps page P xs each (suc n) l =
    let x : List ℕ = get_or xs n [] in
    let more : take (suc n) xs ≡ take n xs ++ x ∷ [] =
    ap (λ m. take m xs) (sym (add-one n)) ∙ take_more xs n [] (omega arith) in
    subst (λ ps. AllByRecursion P (text_span keeps (kind page) ps)) (sym more)
    (subst (AllByRecursion P) (sym (text_span-push (kind page) keeps (take n xs) x))
    (go (Each-span keeps page P xs each n (omega arith)) (begins_text keeps (kind page x))
    (is_open_after (kind page) (take n xs) && not (is_this_page (kind page x))
    && not (ends_page (kind page x)))))
  where
    go : AllByRecursion P (text_span keeps (kind page) (take n xs)) → (begins more : Bool)
        → AllByRecursion P (cond begins [] (cond more
        (text_span keeps (kind page) (take n xs) ++ get_or xs n [] ∷ [])
        (text_span keeps (kind page) (take n xs))))
    go h true more = tt
    go h false true = grind (arith, nat_tests, Each-push)
    go h false false = h

clean_packets_have_sound_span : (w : Watched) (packets : List (List ℕ)) → AreClean w packets
    → IsSoundSpan w (text_span w.keeps (kind w.page) packets)
clean_packets_have_sound_span w packets clean =
    subst (λ ps. IsSoundSpan w (text_span w.keeps (kind w.page) ps))
    (take_all (length packets) packets (omega arith)) (record {
      clean = rule_keeping_packets_have_clean_spans w packets (λ k l. (clean k l).1)
          (length packets);
      whole = Each-span w.keeps w.page (λ q. IsPacket q × HasExactAddress q) packets
          (λ k l. let is = clean k l in (is.0, is.1 rule.Address)) (length packets) (omega arith);
    })

module _ (w : Watched) (before : List (List ℕ)) (p : List ℕ) where
  opened : (b c : Bool) (P : Type 0) → (IsTrue b → Refutes c P) → Refutes (b && c) (IsTrue b → P)
  opened b c P h1 = grind (arith, nat_tests, true≢false)

  rows_are_the_same : (k : PacketKind) → kind w.page p ≡ k → IsComparable w before p
      → IsTrue (is_open_after (kind w.page) before)
      → Refutes (has_different_row w.page (text_span w.keeps (kind w.page) before) p k)
      ((row : ℕ) → k ≡ Row row
      → AllByRecursion (λ q. kind w.page q ≡ Row row → q ≡ p)
      (text_span w.keeps (kind w.page) before))
  rows_are_the_same k e is is_open = grind (
    arith,
    nat_tests,
    clean_packets_have_sound_span,
    row_change_test_is_exact,
  )

  pub rule_test_is_exact : (r : PacketRule) → (r ≡ rule.RowChanged → IsComparable w before p)
      → Refutes (breaks r w before p) (KeepsRule r w before p)
  unfolding breaks
  rule_test_is_exact rule.Address comparable = grind (arith, nat_tests, address_test_is_exact)
  rule_test_is_exact rule.HeaderCode comparable =
      coded_header_test_is_exact (address p) (are_code_words 2 8 p) (HasExactHeader p)
      (header_test_is_exact p)
  rule_test_is_exact rule.Mode comparable = mode_test_is_exact (header p) (first_header before)
  rule_test_is_exact rule.Control comparable = control_test_is_exact w before p (kind w.page p) refl
  rule_test_is_exact rule.Parity comparable =
      subst (λ b. Refutes b (KeepsRule rule.Parity w before p))
      (grind (arith, nat_tests))
      (opened (is_open_after (kind w.page) before)
      (is_page_row (kind w.page p) && is_some (first_even_parity_column p))
      ((row : ℕ) → kind w.page p ≡ Row row → HasOddParityText p) (λ t. row_has_odd_parity p
      (kind w.page p)))
  rule_test_is_exact rule.RowChanged comparable = grind
      (arith, nat_tests, opened, rows_are_the_same)
  rule_test_is_exact rule.Enhancement comparable = grind
      (arith, nat_tests, opened, packet_is_no_enhancement)

  pub clean_packet_keeps_all_rules : AreClean w before → IsPacket p
      → ((r : PacketRule) → breaks r w before p ≡ false) ↔ KeepsAllRules w before p
  clean_packet_keeps_all_rules clean whole = (
    λ none r.
        let kept : (r : PacketRule) → (r ≡ rule.RowChanged → ⊥) → KeepsRule r w before p =
        λ r other. (failed_test_refutes_property _ (rule_test_is_exact r (λ e. absurd (other e)))).0
        (none r) in
        (failed_test_refutes_property _ (rule_test_is_exact r (λ e. record {
          clean = clean;
          whole = whole;
          exact = kept rule.Address (λ e. cc);
          odd = kept rule.Parity (λ e. cc);
        }))).0 (none r),
    λ keeps r. (failed_test_refutes_property _ (rule_test_is_exact r (λ e. record {
      clean = clean;
      whole = whole;
      exact = keeps rule.Address;
      odd = keeps rule.Parity;
    }))).1 (keeps r),
  )
