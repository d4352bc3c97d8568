-- If a wrong cell is the first fault, receivers that start with a blank page that is not open,
-- receive each bit correctly, and keep the page at headers with C4 (erase page) clear have a wrong
-- code in this cell, or its row was not sent again.
use Rattle.std.proofs.lemmas.Bool.Decides.{nat_tests}
use Rattle.std.proofs.Common.{List, [], subst, ◌≡◌, ℕ, ◌-◌, ◌<◌, ◌≤◌, inl, inr, Bool, true}
use Rattle.std.proofs.Common.{false, Option, Some, None, length, take, drop, refl, sym, ap}
use Rattle.std.proofs.Common.{◌∙◌, arith, le_refl}
use Rattle.std.proofs.lemmas.Bool.{true≢false}
use Rattle.std.proofs.lemmas.List.Elements.{All-from_get_or}
use Rattle.std.proofs.lemmas.List.{length-take-le, take-append-drop, take-take, take_all}
use Rattle.ttx_packet.specs.PageHeader.{HasExactCodeWords}
use Rattle.ttx_page.specs.Noise.{ErasesPageIfHeader}
use Rattle.ttx_page.specs.Page.{IsCell, cell}
use Rattle.ttx_page.specs.PacketKind.{kind}
use Rattle.ttx_page.specs.Receiver.{Hears, State}
use Rattle.ttx_page.specs.Repeats.{IsFresh, SendsOnlyRowsOfText}
use Rattle.ttx_page.specs.Shown.{kept}
use Rattle.ttx_page.specs.Span.{has_text_beginning, has_page_header, text_span}
use Rattle.ttx_page.proofs.FaultFreeLaws.{law_of_kept_text}
use Rattle.ttx_page.proofs.RepeatLaws.{kept_text_is_shown_text}
use Rattle.ttx_page.proofs.TextSpan.{beginning-none_keeps}
use Rattle.stl_rows.specs.Programme.{ProgrammeValue}
use Rattle.sub_plan.specs.Options.{OptionsValue}
use Rattle.sub_plan.specs.Schedule.{due_page_in}
use Rattle.sub_rules.specs.Events.{broken_cell, is_late, is_undecided_within}
use Rattle.sub_rules.specs.FrameRules.{Criteria, IsCorrectCell, UnreadReason, criteria_of, frame_at}
use Rattle.sub_rules.specs.FrameRules.{packets_before, packets_of_frame}
use Rattle.sub_rules.specs.Kept.{IsRight}
use Rattle.sub_rules.specs.PacketRules.{KeepsAllRules}
use Rattle.sub_rules.specs.Repeats.{IsDueWithin}
use Rattle.sub_rules.specs.Transmission.{Transmission, on_air_until}
use Rattle.sub_rules.specs.WrongContent.{AreReadUpTo, IsWrongForEveryReceiver}
use Rattle.sub_rules.specs.declared.packet_rule.Watched.{Watched}
use Rattle.sub_rules.proofs.PrefixEventLemmas.{is_late-prefix}
use Rattle.sub_laws.specs.UnexpectedContent.{IsNotRightOnAir}
use Rattle.sub_laws.proofs.DelayLemmas.{law_of_right_cells}
use Rattle.sub_laws.proofs.DueCodeLemmas.{MayShow, unexpected_cell_shows_no_expected_code}
use Rattle.sub_laws.proofs.FrameByFrame.{IsReadTo}
use Rattle.sub_laws.proofs.BrokenPlaceLemmas.{rule_keeping_packets_have_clean_spans}
use Rattle.sub_laws.proofs.PrefixLemmas.{EachPacketAfterEarlier, RiseTo, before}
use Rattle.sub_laws.proofs.PrefixLemmas.{indexed_packets_hold_after_earlier, first-same}
use Rattle.sub_laws.proofs.PrefixLemmas.{frame_at-take, packets_on_air_are_a_prefix, packet_at}
use Rattle.sub_laws.proofs.PrefixLemmas.{prefix_ends_with_its_last_frame, prefix_rises}
use Rattle.sub_laws.proofs.PrefixLemmas.{prefix_is_rising}
use Rattle.sub_laws.proofs.RepeatLemmas.{clean_packets_have_shown_codes}
use Rattle.sub_laws.proofs.ActiveFaultsLemmas.{no_refusals_leave_all_decided, first_wrong}
use Rattle.sub_laws.proofs.ActiveFaultsLemmas.{unexpected_cell_of_decided_page}
use Rattle.sub_rules.specs.Good.{IsCleanSpan}
use Rattle.ttx_page.proofs.SpanListLemmas.{holds-append_left}
use Rattle.sub_rules.specs.declared.packet_rule.PacketRule.TheVariants as rule

module _ (w : Watched) (frames : Transmission) (n : ℕ) (fits : n ≤ length frames)
    (clean : (i k : ℕ) → i < n → k < length (packets_of_frame frames i)
    → KeepsAllRules w (before frames i k) (packet_at frames i k)) where
  each : EachPacketAfterEarlier (KeepsAllRules w) (packets_before frames n)
  each = indexed_packets_hold_after_earlier (KeepsAllRules w) frames n fits clean

  clean_span : IsCleanSpan w.page (text_span w.keeps (kind w.page) (packets_before frames n))
  clean_span =
      let sent : List (List ℕ) = packets_before frames n in
      subst (λ ps. IsCleanSpan w.page (text_span w.keeps (kind w.page) ps))
      (take_all (length sent) sent (omega arith))
      (rule_keeping_packets_have_clean_spans w sent each (length sent))

  sends :
      SendsOnlyRowsOfText w.keeps w.page (packets_before frames n)
      (kept w.keeps w.page (packets_before frames n))
  sends = record {
    exact =
        All-from_get_or HasExactCodeWords _ []
        (λ k l. (each k l rule.Address, each k l rule.HeaderCode));
    erases = λ none.
        All-from_get_or (ErasesPageIfHeader w.page) _ []
        (λ k l. (each k l rule.Control).erases none);
    odd = clean_span.odd;
    codes = clean_packets_have_shown_codes w.keeps w.page (packets_before frames n) clean_span;
  }

  all_hold :
      (old new : State)
      → Hears w.page old (packets_before frames n) new
      → IsFresh w.keeps false w.page (packets_before frames n) old
      → (row column : ℕ)
      → IsCell row column
      → cell new.page row column ≡ kept w.keeps w.page (packets_before frames n) row column
  all_hold old new hears fresh row column is =
      law_of_kept_text w.keeps w.page (packets_before frames n) old new sends hears fresh row column
      is

first_header-packets_before :
    (w : Watched) (frames : Transmission) (n : ℕ)
    → 0 < n
    → n ≤ length frames
    → has_page_header (kind w.page) (packets_of_frame frames 0) ≡ true
    → has_page_header (kind w.page) (packets_before frames n) ≡ true
first_header-packets_before w frames n some fits head =
    grind (arith, nat_tests, holds-append_left)

module _ (frames : Transmission) (n f : ℕ) (some : 0 < n) (fits : n ≤ length frames)
    (rising : RiseTo frames n) (up_to : frame_at frames (n - 1) ≤ f) where
  read_frames_are_on_air : on_air_until (take n frames) f ≡ packets_before frames n
  read_frames_are_on_air =
      grind (
        arith,
        nat_tests,
        length-take-le,
        frame_at-take,
        take-take,
        packets_on_air_are_a_prefix,
        prefix_rises,
      )

module _ (programme : ProgrammeValue) (options : OptionsValue) (unread : Option UnreadReason)
    (frames : Transmission) where
  abbrev g : Criteria
  g = criteria_of programme options unread

  abbrev code_at : ℕ → ℕ × ℕ → ℕ
  code_at n x = kept options.keeps options.page (packets_before frames n) x.0 x.1

  -- Cell x is wrong at the end of frame f. If the page is not overdue, x has a code other than a
  -- space that was not expected at frame f or in the `within` frames before it.
  record IsBroken (n f : ℕ) (x : ℕ × ℕ) : Type 0 where
    pub is_cell : IsCell x.0 x.1
    pub wrong : IsCorrectCell g frames n f x.0 x.1 → ⊥
    pub unexpected :
        is_late g frames n f ≡ false
        → MayShow options.keeps options.page (packets_before frames n) g.due (frame_at frames 0) f
        options.within x.0 x.1
        → ⊥

  broken_is : (n f : ℕ) (x : ℕ × ℕ) → broken_cell g frames n f ≡ Some x → IsBroken n f x
  broken_is n f x e = go (is_late g frames n f) refl
    where
      known : is_undecided_within g frames f ≡ false
      known = no_refusals_leave_all_decided (frame_at frames 0) f options.within

      go : (b : Bool) → is_late g frames n f ≡ b → IsBroken n f x
      go true late =
          let w = first_wrong g frames n f x (rw late at e) in
          record {
            is_cell = w.is_cell;
            wrong = w.broken;
            unexpected = λ not_late. absurd (true≢false (sym late ∙ not_late));
          }
      go false late =
          let found =
          unexpected_cell_shows_no_expected_code options.keeps options.page
          (packets_before frames n) g.due
          (frame_at frames 0) f options.within x
          (sym (unexpected_cell_of_decided_page g frames n f known) ∙ rw late at e) in
          record {
            is_cell = found.0;
            wrong = λ right.
                found.1 (inr (f, inr refl, le_refl f, omega arith, right.kept_eq));
            unexpected = λ not_late. found.1;
          }

  module _ (n f : ℕ) (r : IsReadTo g frames n f) (x : ℕ × ℕ)
      (broken : broken_cell g frames n f ≡ Some x) where
    abbrev read : Transmission
    read = take n frames

    abbrev broken_cell_facts : IsBroken n f x
    broken_cell_facts = broken_is n f x broken

    are_read : AreReadUpTo frames f read
    are_read = grind (arith, nat_tests, prefix_ends_with_its_last_frame, prefix_is_rising)

    packets_on_air_are_those_read : on_air_until read f ≡ packets_before frames n
    packets_on_air_are_those_read = read_frames_are_on_air frames n f r.some r.fits r.rises r.up_to

    fresh_receiver_shows_code : (old new : State)
        → Hears options.page old (on_air_until read f) new
        → IsFresh options.keeps false options.page (packets_before frames n) old
        → cell new.page x.0 x.1 ≡ code_at n x
    fresh_receiver_shows_code old new hears fresh =
        all_hold g.watched frames n r.fits (λ i k some l. r.packets i some k l) old new
        (subst (λ (ps : List (List ℕ)). Hears options.page old ps new) packets_on_air_are_those_read
        hears) fresh
        x.0 x.1
        broken_cell_facts.is_cell

    lateness_depends_on_read_frames : is_late (criteria_of programme options None) read
        (length read) f
        ≡ is_late g frames n f
    lateness_depends_on_read_frames =
        let size : length read ≡ n = length-take-le n frames r.fits in
        ap (λ (k : ℕ). is_late (criteria_of programme options None) read k f) size
        ∙ sym
        (is_late-prefix g None read (drop n frames) n f (omega (arith, size, r.some))
        (omega (arith, size)))
        ∙ ap (λ (fs : Transmission). is_late g fs n f) (take-append-drop n frames)

    code_due_within_may_show : IsDueWithin programme read options f x.0 x.1 (code_at n x)
        → MayShow options.keeps options.page (packets_before frames n) g.due (frame_at frames 0) f
        options.within x.0 x.1
    code_due_within_may_show h1 = grind (arith, nat_tests, first-same, frame_at-take)

    pub content_fault_differs_everywhere : IsNotRightOnAir programme options frames f x.0 x.1
    content_fault_differs_everywhere = record {
      read = read;
      are_read = are_read;
      header =
          ap (has_page_header (kind options.page)) packets_on_air_are_those_read
          ∙ first_header-packets_before g.watched frames n r.some r.fits r.header;
      differs = λ right.
          broken_cell_facts.wrong
          (subst
          (λ ps. IsRight options.keeps options.page ps (due_page_in programme f) x.0 x.1)
          packets_on_air_are_those_read
          right);
      holds = λ old new hears fresh.
          fresh_receiver_shows_code old new hears
          (subst (λ ps. IsFresh options.keeps false options.page ps old)
          packets_on_air_are_those_read fresh)
          ∙ ap (λ ps. kept options.keeps options.page ps x.0 x.1)
          (sym packets_on_air_are_those_read);
      unexpected = λ not_late due.
          broken_cell_facts.unexpected (sym lateness_depends_on_read_frames ∙ not_late)
          (code_due_within_may_show
          (subst
          (λ ps. IsDueWithin programme read options f x.0 x.1
          (kept options.keeps options.page ps x.0 x.1))
          packets_on_air_are_those_read due));
    }

module _ (programme : ProgrammeValue) (options : OptionsValue) (frames : Transmission)
    (f row column : ℕ) (none : options.keeps ≡ false)
    (different : IsNotRightOnAir programme options frames f row column) where
  abbrev sent : List (List ℕ)
  sent = on_air_until different.read f

  fresh : (old : State) → IsFresh options.keeps false options.page sent old
  fresh old =
      inr
      (inl
      (ap (λ k. has_text_beginning k (kind options.page) sent) none
      ∙ beginning-none_keeps (kind options.page) sent
      ∙ different.header))

  right : kept options.keeps options.page sent row column ≡ cell (due_page_in programme f) row
      column
      → IsRight options.keeps options.page sent (due_page_in programme f) row column
  right same =
      subst (λ k. IsRight k options.page sent (due_page_in programme f) row column) (sym none)
      ((law_of_right_cells options.page sent (due_page_in programme f) row column).1
      (sym (kept_text_is_shown_text options.page sent row column)
      ∙ ap (λ k. kept k options.page sent row column) (sym none)
      ∙ same))

  pub wrong_cell_is_wrong_for_every_receiver :
      IsWrongForEveryReceiver programme options frames f row column
  wrong_cell_is_wrong_for_every_receiver = record {
    read = different.read;
    are_read = different.are_read;
    wrong = λ old new unheard shut hears same.
        different.differs (right (sym (different.holds old new hears (fresh old)) ∙ same));
  }
