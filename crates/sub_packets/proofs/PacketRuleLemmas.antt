-- Each kind of packet can break only some of the rules.
use Rattle.std.proofs.lemmas.Bool.Decides.{nat_tests}
use Rattle.std.proofs.lemmas.Bool.Decides.{same_from_decides}
use Rattle.std.proofs.Common.{◌≡◌, ℕ, Bool, true, false, not, ◌&&◌, ◌==◌, cond}
use Rattle.std.proofs.Common.{◌+◌, ◌*◌, List, Option, None, Some, drop, is_some, option_map}
use Rattle.std.proofs.Common.{refl, sym, ap, ◌∙◌, arith}
use Rattle.std.specs.Bool.{Decides}
use Rattle.ttx_packet.specs.PacketAddress.{HasExactAddress, address}
use Rattle.ttx_packet.specs.PageHeader.{HasExactHeader, c11, header}
use Rattle.ttx_packet.specs.RowPacket.{first_even_parity_column}
use Rattle.ttx_packet.specs.declared.header.Header.{Header}
use Rattle.ttx_page.specs.Differing.{row_difference}
use Rattle.ttx_page.specs.PacketKind.{kind}
use Rattle.ttx_page.specs.Span.{is_open_after, text_span}
use Rattle.ttx_page.specs.declared.packet_kind.PacketKind.TheVariants.{EndsPage, Other, Row}
use Rattle.ttx_page.specs.declared.packet_kind.PacketKind.TheVariants.{ThisPage}
use Rattle.sub_packets.specs.Listener.{row_or_blank, rule_set}
use Rattle.sub_rules.specs.PacketRules.{codes_of, first_header}
use Rattle.sub_rules.proofs.CodeWordLemmas.{address_test_is_exact, header_test_is_exact}
use Rattle.sub_rules.specs.PacketTests.{are_code_words, breaks, first_packet_of_row}
use Rattle.sub_rules.specs.PacketTests.{is_enhancement_address}
use Rattle.sub_rules.specs.PacketTests.{is_header_address, has_different_mode, has_different_text}
use Rattle.sub_rules.specs.PacketTests.{packet_rules}
use Rattle.sub_rules.specs.PacketTests.{is_same_subcode, is_allowed_page_header}
use Rattle.sub_rules.specs.declared.packet_rule.Watched.{Watched}

equal_decisions_have_equal_negations : {P : Type 0} (r s : Bool) → Decides r P → Decides s P → not r
    ≡ not s
equal_decisions_have_equal_negations r s d e = ap not (same_from_decides r s d e)

pub wrong_address_test_is_exact : (p : List ℕ) (r : Bool) → Decides r (HasExactAddress p)
    → not r ≡ not (are_code_words 0 2 p)
wrong_address_test_is_exact p r d = equal_decisions_have_equal_negations r (are_code_words 0 2 p) d
    (address_test_is_exact p)

pub wrong_header_test_is_exact : (p : List ℕ) (r : Bool) → Decides r (HasExactHeader p)
    → not r ≡ not (are_code_words 2 8 p)
wrong_header_test_is_exact p r d = equal_decisions_have_equal_negations r (are_code_words 2 8 p) d
    (header_test_is_exact p)

pub header_is_zero :
    (p : List ℕ) (h : Header) → header p ≡ Some h → is_header_address (address p) ≡ true
unfolding header
header_is_zero p h e = grind (arith, nat_tests)

pub known_subcode_test_is_exact : (o : Option Header) (h : Header) (subcode : ℕ)
    → Some subcode ≡ option_map (λ (x : Header). x.subcode) o
    → (h.subcode == subcode) ≡ is_same_subcode o h
known_subcode_test_is_exact o h subcode e = grind (arith, nat_tests)

pub unknown_subcode_passes_test : (o : Option Header) (h : Header)
    → None ≡ option_map (λ (x : Header). x.subcode) o
    → true ≡ is_same_subcode o h
unknown_subcode_passes_test o h e = grind (arith, nat_tests)

enhancement_is_other :
    (w : Watched) (p : List ℕ)
    → is_enhancement_address w.page (address p) ≡ true
    → kind w.page p ≡ Other
unfolding kind
enhancement_is_other w p e = grind (arith, nat_tests)

pub no_enhancement :
    (w : Watched) (p : List ℕ)
    → (kind w.page p ≡ Other → ⊥)
    → is_enhancement_address w.page (address p) ≡ false
no_enhancement w p other = grind (arith, nat_tests, enhancement_is_other)

other_text :
    (o : Option (List ℕ)) (codes : List ℕ)
    → has_different_text o codes ≡ (is_some o && not (row_difference (row_or_blank o) codes == 0))
other_text None codes = refl
other_text (Some q) codes = refl

module _ (w : Watched) (heard : List (List ℕ)) (p : List ℕ) where
  -- Of the rules from `Control` on, a header of the page can break only `Control`.
  pub page_header_breaks_control_rule_only : (h : Header) → kind w.page p ≡ ThisPage h
      → rule_set (λ r. breaks r w heard p) (drop 3 packet_rules)
      ≡ cond (not (is_allowed_page_header w heard h)) 1 0
  unfolding breaks rule_set packet_rules
  page_header_breaks_control_rule_only h k =
      let none = no_enhancement w p (λ e. let both = sym k ∙ e in cc) in
      rw (k, none) (grind (arith, nat_tests))

  -- A header that ends the page breaks none of the rules from `Control` on.
  pub closing_header_breaks_no_later_rule : kind w.page p ≡ EndsPage
      → rule_set (λ r. breaks r w heard p) (drop 3 packet_rules) ≡ 0
  unfolding breaks rule_set packet_rules
  closing_header_breaks_no_later_rule k =
      let none = no_enhancement w p (λ e. let both = sym k ∙ e in cc) in
      rw (k, none) (grind (arith, nat_tests))

  -- Of the rules from `Control` on, a packet that neither begins nor ends the page and is no row of
  -- it can break only `Enhancement`.
  pub other_packet_breaks_enhancement_rule_only : kind w.page p ≡ Other
      → rule_set (λ r. breaks r w heard p) (drop 3 packet_rules)
      ≡ 8 * cond (is_open_after (kind w.page) heard && is_enhancement_address w.page (address p)) 1
      0
  unfolding breaks rule_set packet_rules
  other_packet_breaks_enhancement_rule_only k = rw k (grind (arith, nat_tests))

  -- Of the rules from `Control` on, a row of the page can break only `Parity` and `RowChanged`, and
  -- breaks none if the page is not open.
  pub row_breaks_row_rules_only : (y : ℕ) (o : Option (List ℕ)) → kind w.page p ≡ Row y
      → o ≡ first_packet_of_row w.page (text_span w.keeps (kind w.page) heard) y
      → rule_set (λ r. breaks r w heard p) (drop 3 packet_rules)
      ≡ 2 * cond (is_open_after (kind w.page) heard && is_some (first_even_parity_column p)) 1 0
      + 4 * cond
      (is_open_after (kind w.page) heard && is_some o
      && not (row_difference (row_or_blank o) (codes_of p) == 0))
      1 0
  unfolding breaks rule_set packet_rules
  row_breaks_row_rules_only y o k e = grind (arith, nat_tests, no_enhancement, other_text)

pub rules_are :
    (w : Watched) (heard : List (List ℕ)) (p : List ℕ) (serial : Option Bool)
    → serial ≡ option_map (λ (h : Header). c11 h) (first_header heard)
    → rule_set (λ r. breaks r w heard p) packet_rules
    ≡ cond (not (are_code_words 0 2 p)) 1 0
    + 2 * (cond (is_header_address (address p) && not (are_code_words 2 8 p)) 1 0
    + 2 * (cond (has_different_mode serial (option_map (λ (h : Header). c11 h) (header p))) 1 0
    + 2 * rule_set (λ r. breaks r w heard p) (drop 3 packet_rules)))
unfolding breaks rule_set packet_rules
rules_are w heard p serial e = rw e refl
