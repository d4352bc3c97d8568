-- A packet that can be skipped breaks no rule and does not change the listener's state.
use Rattle.std.proofs.Common.{◌≡◌, ◌≢◌, ℕ, ◌&&◌, ◌==◌, Bool, true, false, List}
use Rattle.std.proofs.Common.{Option, Some, None, cond, drop, refl, sym, ◌∙◌, arith}
use Rattle.std.proofs.Common.{nat_le}
use Rattle.std.proofs.Common.{inl, inr}
use Rattle.std.proofs.lemmas.Bool.{cases_Bool, cond-false, cond-true}
use Rattle.std.proofs.lemmas.Bool.Decides.{nat_tests}
use Rattle.ttx_packet.specs.PacketAddress.{HasExactAddress, PacketAddress, address}
use Rattle.ttx_packet.specs.PageHeader.{HasExactHeader, c11, decoded_header, header}
use Rattle.ttx_packet.specs.declared.header.Header.{Header}
use Rattle.ttx_page.specs.PacketKind.{is_this_page, kind}
use Rattle.ttx_page.specs.Span.{text_span}
use Rattle.ttx_page.specs.declared.packet_kind.PacketKind.TheVariants.{EndsPage, Other, Row}
use Rattle.sub_packets.specs.Listener.{CanBeSkipped, Knows, can_skip_header, rule_set}
use Rattle.sub_packets.specs.declared.listener.Listener.{Listener}
use Rattle.sub_packets.proofs.ListenerLemmas.{other_packet_keeps_knowledge}
use Rattle.sub_packets.proofs.PacketRuleLemmas.{closing_header_breaks_no_later_rule}
use Rattle.sub_packets.proofs.PacketRuleLemmas.{other_packet_breaks_enhancement_rule_only}
use Rattle.sub_packets.proofs.PacketRuleLemmas.{row_breaks_row_rules_only, rules_are}
use Rattle.sub_rules.proofs.CodeWordLemmas.{address_test_is_exact, header_test_is_exact}
use Rattle.sub_rules.specs.PacketTests.{breaks, first_packet_of_row, has_different_mode}
use Rattle.sub_rules.specs.PacketTests.{packet_rules}

missing_mode_is_no_other_mode : (serial : Option Bool) → has_different_mode serial None ≡ false
missing_mode_is_no_other_mode None = refl
missing_mode_is_no_other_mode (Some true) = refl
missing_mode_is_no_other_mode (Some false) = refl

mode_is_the_same : (serial : Option Bool) (b : Bool) → serial ≡ Some b
    → has_different_mode serial (Some b) ≡ false
mode_is_the_same serial true e = rw e refl
mode_is_the_same serial false e = rw e refl

module _ (p : List ℕ) (s : Listener) (a : PacketAddress) (at : address p ≡ Some a) where
  pub other_packet_is_no_header : a.packet_number ≢ 0 → is_this_page (kind s.watched.page p) ≡ false
  unfolding kind
  other_packet_is_no_header some = grind (arith, nat_tests)

  pub skipped_header_is_of_another_page : (h : Header)
      → a.packet_number ≡ 0
      → decoded_header p ≡ Some h
      → can_skip_header a.magazine h s ≡ true
      → is_this_page (kind s.watched.page p) ≡ false
  unfolding kind header
  skipped_header_is_of_another_page h none says passes = grind (arith, nat_tests)

module _
    (heard : List (List ℕ)) (p : List ℕ) (s : Listener) (known : Knows heard s)
    (exact : HasExactAddress p) (a : PacketAddress) (at : address p ≡ Some a)
  where
    kind_of_packet_without_header : a.packet_number ≢ 0
        → (header p ≡ None)
        × (kind s.watched.page p
        ≡ cond (a.magazine == s.watched.page.magazine && nat_le a.packet_number 24)
        (Row a.packet_number) Other)
    unfolding kind header
    kind_of_packet_without_header some = grind (arith, nat_tests)

    module _ (some : a.packet_number ≢ 0)
        (closed : (s.is_open && a.magazine == s.watched.page.magazine) ≡ false) where
      plain_packet_breaks_no_later_rule : rule_set (λ r. breaks r s.watched heard p)
          (drop 3 packet_rules) ≡ 0
      plain_packet_breaks_no_later_rule =
          let is = (kind_of_packet_without_header some).1 in
          elim
          (cases_Bool (a.magazine == s.watched.page.magazine && nat_le a.packet_number 24)) [
            | inl row ↦
                let shut : s.is_open ≡ false = grind (arith, nat_tests) in
                rw (
                  row_breaks_row_rules_only s.watched heard p a.packet_number
                      (first_packet_of_row s.watched.page
                      (text_span s.watched.keeps (kind s.watched.page) heard) a.packet_number)
                      (is ∙ cond-true _ _ _ row) refl,
                  ← known.open_eq,
                  shut,
                ) refl
            | inr other ↦
                rw (
                  other_packet_breaks_enhancement_rule_only s.watched heard p
                      (is ∙ cond-false _ _ _ other),
                  ← known.open_eq,
                  at,
                ) (grind (arith, nat_tests))
          ]

      plain_packet_breaks_no_rule : rule_set (λ r. breaks r s.watched heard p) packet_rules ≡ 0
      plain_packet_breaks_no_rule =
          let is = kind_of_packet_without_header some in
          rules_are s.watched heard p s.serial known.serial_eq
          ∙ rw ((address_test_is_exact p).1 exact, at, is.0, missing_mode_is_no_other_mode s.serial)
          (grind (arith, nat_tests, plain_packet_breaks_no_later_rule))

      pub packet_of_other_page_is_skipped : CanBeSkipped heard p s
      packet_of_other_page_is_skipped =
          let is = kind_of_packet_without_header some in
          record {
            breaks_none = plain_packet_breaks_no_rule;
            knows =
                other_packet_keeps_knowledge heard p s None s.serial known (sym is.0)
                (grind (arith, nat_tests))
                (grind (arith, nat_tests)) s.is_open (grind (arith, nat_tests))
                (λ row low high opened. grind (arith, nat_tests));
          }

    -- The following lemmas are about a correctly coded page header that has the C11 of the first
    -- page header, is no header of the page, and does not end the page if the page is open.
    module _ (none : a.packet_number ≡ 0) (coded : HasExactHeader p) (h : Header)
        (says : decoded_header p ≡ Some h)
        (passes : can_skip_header a.magazine h s ≡ true) where
      header_eq : header p ≡ Some h
      unfolding header
      header_eq = grind (arith, nat_tests)

      header_kind :
          kind s.watched.page p
          ≡ cond (a.magazine == s.watched.page.magazine) EndsPage (cond (c11 h) EndsPage Other)
      unfolding kind
      header_kind = let says = header_eq in grind (arith, nat_tests)

      skipped_header_breaks_no_later_rule : rule_set (λ r. breaks r s.watched heard p)
          (drop 3 packet_rules) ≡ 0
      skipped_header_breaks_no_later_rule =
          let is = header_kind in
          let ends = closing_header_breaks_no_later_rule s.watched heard p in
          let other = other_packet_breaks_enhancement_rule_only s.watched heard p in
          grind (arith, nat_tests, known.open_eq)

      skipped_header_breaks_no_rule : rule_set (λ r. breaks r s.watched heard p) packet_rules ≡ 0
      skipped_header_breaks_no_rule =
          rules_are s.watched heard p s.serial known.serial_eq
          ∙ rw ((address_test_is_exact p).1 exact, (header_test_is_exact p).1 coded, at, header_eq)
          (grind (arith, nat_tests, skipped_header_breaks_no_later_rule, mode_is_the_same))

      pub header_of_other_page_is_skipped : CanBeSkipped heard p s
      header_of_other_page_is_skipped =
          let is = header_kind in
          record {
            breaks_none = skipped_header_breaks_no_rule;
            knows =
                other_packet_keeps_knowledge heard p s (Some h) s.serial known (sym header_eq)
                (grind (arith, nat_tests)) (grind (arith, nat_tests)) s.is_open
                (grind (arith, nat_tests))
                (λ row low high opened. grind (arith, nat_tests));
          }
