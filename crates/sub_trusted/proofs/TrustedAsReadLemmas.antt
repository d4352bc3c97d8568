-- If the packets that were read are on air in a range of frames that begins with a header that
-- erases the page, the sufficient conditions for trusted frames hold for the packets on air if they
-- hold for the packets that were read.
use Rattle.std.proofs.lemmas.Bool.Decides.{nat_tests}
use Rattle.std.proofs.Common.{◌≡◌, ℕ, zero, suc, ◌+◌, ◌-◌, ◌≤◌, Bool, true, List, []}
use Rattle.std.proofs.Common.{◌∷◌, ◌++◌, drop, find, option_map, unwrap_or, refl, sym, ap, ap₂, ◌∙◌}
use Rattle.std.proofs.Common.{subst, arith, false, le_trans}
use Rattle.std.specs.List.{list_any}
use Rattle.std.proofs.lemmas.List.Folds.{list_any-append}
use Rattle.ttx_packet.specs.PageId.{PageIdValue}
use Rattle.ttx_packet.specs.Parity.{character_code}
use Rattle.ttx_packet.specs.RowPacket.{text_byte}
use Rattle.ttx_page.proofs.LateStart.{span-later, unended-later}
use Rattle.ttx_page.proofs.SpanListLemmas.{holds-append_right}
use Rattle.ttx_page.proofs.TextSpan.{beginning_is_header}
use Rattle.ttx_page.specs.Page.{space}
use Rattle.ttx_page.specs.PacketKind.{begins_text, is_row, kind}
use Rattle.ttx_page.specs.Repeats.{SendsOnlyRowsOfText}
use Rattle.ttx_page.specs.Shown.{kept}
use Rattle.ttx_page.specs.Span.{from_text_beginning, has_text_beginning, has_page_header}
use Rattle.ttx_page.specs.Span.{is_open_after}
use Rattle.ttx_page.specs.Span.{has_no_page_end, span, text_span, while_open}
use Rattle.ttx_page.specs.declared.packet_kind.PacketKind.{PacketKind}
use Rattle.stl_rows.specs.Programme.{ProgrammeValue}
use Rattle.sub_plan.specs.Options.{OptionsValue}
use Rattle.sub_rules.specs.Good.{HoldsHeader}
use Rattle.sub_rules.specs.Kept.{has_row}
use Rattle.sub_rules.specs.Repeats.{IsDueWithin, IsCorrectPage, HasFinishedFrame}
use Rattle.sub_rules.specs.Transmission.{IsRising, Transmission, first_frame, on_air, on_air_until}
use Rattle.sub_rules.specs.Transmission.{packets_between, packets_of}
use Rattle.sub_laws.specs.OnScreen.{CompleteWithin}
use Rattle.sub_laws.specs.Repeats.{FinishesInTime, IsSoundStretchWithRepeats}
use Rattle.sub_laws.specs.ReportedRepeats.{IsSufficientWithRepeats}
use Rattle.sub_trusted.specs.TrustedFrames.{MatchesReadPackets}
use Rattle.sub_laws.proofs.TransmissionLemmas.{packets_between-split, packets_between-void}

module _ (keeps : Bool) (kind_of : List ℕ → PacketKind) where
  -- If a header among the packets `later` erases the page, the packets before `later` do not change
  -- the page's text.
  from-later : (before later : List (List ℕ))
      → has_text_beginning keeps kind_of later ≡ true
      → from_text_beginning keeps kind_of (before ++ later) ≡ from_text_beginning keeps kind_of
      later
  from-later [] later e = refl
  from-later (x ∷ before) later e =
      grind (arith, nat_tests, list_any-append, (from-later before later e))

-- The code in a column of a row: that of the row's first packet in the list, or a space if the list
-- has no packet of this row.
abbrev text_codes_of : PageIdValue → List (List ℕ) → ℕ → ℕ → ℕ
text_codes_of page spanned row column =
    unwrap_or
    (option_map (λ p. character_code (text_byte p column)) (find (λ p. is_row row (kind page p))
    spanned))
    space

module _ (t u : Transmission) (a b : ℕ) (rising : IsRising t) (is : MatchesReadPackets t u a b)
  where
    both_have_same_packets_up_to : (n : ℕ) → a + n ≤ b + 1 → packets_between t a (a + n) ≡
        packets_between u a (a + n)
    both_have_same_packets_up_to zero high =
        packets_between-void t a (a + 0) (omega arith)
        ∙ sym (packets_between-void u a (a + 0) (omega arith))
    both_have_same_packets_up_to (suc n) high =
        let next : a + n + 1 ≡ a + suc n = omega arith in
        subst (λ (e : ℕ). packets_between t a e ≡ packets_between u a e) next
        (packets_between-split t a (a + n) (a + n + 1) rising (omega arith) (omega arith)
        ∙ ap₂ ◌++◌ (both_have_same_packets_up_to n (omega arith))
        (sym (is.same (a + n) (omega arith) (omega arith)))
        ∙ sym (packets_between-split u a (a + n) (a + n + 1) is.rising (omega arith) (omega arith)))

    both_have_same_packets : (f : ℕ) → a ≤ f → f ≤ b → packets_between t a (f + 1) ≡
        packets_between u
        a
        (f + 1)
    both_have_same_packets f low high =
        let end : a + (f + 1 - a) ≡ f + 1 = omega arith in
        subst (λ (e : ℕ). packets_between t a e ≡ packets_between u a e) end
        (both_have_same_packets_up_to (f + 1 - a) (omega arith))

module _ (keeps : Bool) (programme : ProgrammeValue) (options : OptionsValue) (t u : Transmission)
    (a b : ℕ) (rising : IsRising t) (from : first_frame t ≤ a) (is : MatchesReadPackets t u a b)
    (begins : has_text_beginning keeps (kind options.page) (packets_of t a) ≡ true)
  where
    on_air_begins_early_enough : first_frame u ≤ a
    on_air_begins_early_enough = let first = is.first in omega arith

    pub beginning_is_on_air : a ≤ b → has_text_beginning keeps (kind options.page) (packets_of u a)
        ≡
        true
    beginning_is_on_air order = grind (arith, nat_tests)

    pub header_is_on_air : (f : ℕ) → a ≤ f → f ≤ b → HoldsHeader options.page t f
        → HoldsHeader options.page u f
    header_is_on_air f low high holds = grind (arith, nat_tests)

    pub on_air_begins_with_header : a ≤ b → HoldsHeader options.page u a
    on_air_begins_with_header order =
        beginning_is_header (kind options.page) keeps (packets_of u a) (beginning_is_on_air order)

    module _ (f : ℕ) (low : a ≤ f) (high : f ≤ b) where
      abbrev later_packets : List (List ℕ)
      later_packets = packets_between t a (f + 1)

      packets_read_split : on_air_until t f ≡ packets_between t (first_frame t) a ++
          later_packets
      packets_read_split = packets_between-split t (first_frame t) a (f + 1) rising from
          (omega arith)

      packets_on_air_split : on_air_until u f ≡ packets_between u (first_frame u) a ++
          later_packets
      packets_on_air_split =
          packets_between-split u (first_frame u) a (f + 1) is.rising on_air_begins_early_enough
          (omega arith)
          ∙ ap (λ (ps : List (List ℕ)). packets_between u (first_frame u) a ++ ps)
          (sym (both_have_same_packets t u a b rising is f low high))

      unfinished_begins_text : has_text_beginning keeps (kind options.page) later_packets ≡ true
      unfinished_begins_text =
          let split =
          packets_between-split t a (a + 1) (f + 1) rising (omega arith) (omega arith) in
          let both =
          list_any-append (λ p. begins_text keeps (kind options.page p)) (packets_of t a)
          (packets_between t (a + 1) (f + 1)) in
          ap (has_text_beginning keeps (kind options.page)) split ∙ both ∙ rw begins refl

      holds : has_page_header (kind options.page) later_packets ≡ true
      holds = beginning_is_header (kind options.page) keeps later_packets unfinished_begins_text

      same_text_is_on_air : text_span keeps (kind options.page) (on_air_until t f)
          ≡ text_span keeps (kind options.page) (on_air_until u f)
      same_text_is_on_air =
          ap (text_span keeps (kind options.page)) packets_read_split
          ∙ ap (while_open (kind options.page) false)
          (from-later keeps (kind options.page) (packets_between t (first_frame t) a)
          later_packets
          unfinished_begins_text
          ∙ sym
          (from-later keeps (kind options.page) (packets_between u (first_frame u) a)
          later_packets
          unfinished_begins_text))
          ∙ sym (ap (text_span keeps (kind options.page)) packets_on_air_split)

      same_codes_are_on_air : (row column : ℕ)
          → kept keeps options.page (on_air_until t f) row column
          ≡ kept keeps options.page (on_air_until u f) row column
      same_codes_are_on_air row column =
          ap (λ (ps : List (List ℕ)). text_codes_of options.page ps row column) same_text_is_on_air

      same_rows_are_on_air : (row : ℕ)
          → has_row options.page (on_air_until t f) row
          ≡ has_row options.page (on_air_until u f) row
      same_rows_are_on_air row =
          ap (list_any (λ packet. is_row row (kind options.page packet)))
          (ap (span (kind options.page)) packets_read_split
          ∙ span-later options.page (packets_between t (first_frame t) a) later_packets holds
          ∙ sym (span-later options.page (packets_between u (first_frame u) a) later_packets
          holds)
          ∙ sym (ap (span (kind options.page)) packets_on_air_split))

      page_is_correct_on_air : IsCorrectPage keeps programme options.page t f
          → IsCorrectPage keeps programme options.page u f
      page_is_correct_on_air whole row column named =
          let right = whole row column named in
          record {
            kept_eq = sym (same_codes_are_on_air row column) ∙ right.kept_eq;
            again = λ other. sym (same_rows_are_on_air row) ∙ right.again other;
          }

      page_is_unended_on_air : has_no_page_end (kind options.page) (on_air_until t f)
          ≡ has_no_page_end (kind options.page) (on_air_until u f)
      page_is_unended_on_air =
          ap (has_no_page_end (kind options.page)) packets_read_split
          ∙ unended-later options.page (packets_between t (first_frame t) a) later_packets holds
          ∙ sym (unended-later options.page (packets_between u (first_frame u) a) later_packets
          holds)
          ∙ sym (ap (has_no_page_end (kind options.page)) packets_on_air_split)

      on_air_packets_have_header : (v : Transmission) (before : List (List ℕ)) → on_air_until v f ≡
          before ++
          later_packets
          → has_page_header (kind options.page) (on_air_until v f) ≡ true
      on_air_packets_have_header v before at =
          ap (has_page_header (kind options.page)) at
          ∙ holds-append_right (kind options.page) before later_packets holds

      holds_header_in_t : has_page_header (kind options.page) (on_air_until t f) ≡ true
      holds_header_in_t = on_air_packets_have_header t (packets_between t (first_frame t) a)
          packets_read_split

      page_is_open_on_air : is_open_after (kind options.page) (on_air_until t f)
          ≡ is_open_after (kind options.page) (on_air_until u f)
      page_is_open_on_air =
          rw (
            holds_header_in_t,
            on_air_packets_have_header u (packets_between u (first_frame u) a)
                packets_on_air_split,
          )
          page_is_unended_on_air

    stretch_is_repeated_on_air : IsSoundStretchWithRepeats keeps t options a b
        → IsSoundStretchWithRepeats keeps u options a b
    stretch_is_repeated_on_air stretch = record {
      first = on_air_begins_early_enough;
      rising = is.rising;
      sends = λ f low high.
          subst
          (λ (ps : List (List ℕ)).
          SendsOnlyRowsOfText keeps options.page ps (kept keeps options.page (on_air_until u f)))
          (ap (drop 0) (both_have_same_packets t u a b rising is f low high))
          (subst
          (λ (ps : List (List ℕ)).
          SendsOnlyRowsOfText keeps options.page (on_air t a 0 f) (text_codes_of options.page ps))
          (same_text_is_on_air f low high) (stretch.sends f low high));
      repeats = λ start low high.
          let (f, after, before, found) = stretch.repeats start low high in
          (f, after, before, header_is_on_air f (omega arith) (omega arith) found);
    }

    code_is_expected_on_air : (f row column code : ℕ) → IsDueWithin programme t options f row column
        code
        → IsDueWithin programme u options f row column code
    code_is_expected_on_air f row column code h1 = grind (arith, nat_tests)

    pub repeats_are_sufficient_on_air : IsSufficientWithRepeats keeps programme t options a b
        → IsSufficientWithRepeats keeps programme u options a b
    repeats_are_sufficient_on_air enough = record {
      stretch = stretch_is_repeated_on_air enough.stretch;
      codes = λ f row column low high named.
          subst (IsDueWithin programme u options f row column) (same_codes_are_on_air f low high row
          column)
          (code_is_expected_on_air f row column (kept keeps options.page (on_air_until t f) row
          column)
          (enough.codes f row column low high named));
      whole = λ at_once f low high. page_is_correct_on_air f low high (enough.whole at_once f low
          high);
    }

    pub pages_are_complete_on_air : CompleteWithin t options a b → CompleteWithin u options a b
    pages_are_complete_on_air complete f low high receiver_state =
        sym (page_is_unended_on_air f low high) ∙ complete f low high (holds_header_in_t f low high)

    pub some_frame_finishes_on_air : (one to : ℕ) → a ≤ one → to ≤ b
        → HasFinishedFrame keeps programme t options one to
        → HasFinishedFrame keeps programme u options one to
    some_frame_finishes_on_air one to low high (f, after, before, finished) = (
      f,
      after,
      before,
      record {
        whole = page_is_correct_on_air f (le_trans low after) (le_trans before high) finished.whole;
        ended = λ asks.
            sym (page_is_open_on_air f (le_trans low after) (le_trans before high)) ∙ finished.ended
            asks;
      },
    )

    pub stretch_finishes_on_air : FinishesInTime keeps programme t options a b
        → FinishesInTime keeps programme u options a b
    stretch_finishes_on_air stretch_finishes_in_time = grind
        (arith, nat_tests, some_frame_finishes_on_air)
