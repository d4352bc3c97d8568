-- The examples of screens are true: the state of each receiver is computed from its packets.
use Rattle.std.proofs.lemmas.Bool.Decides.{nat_tests}
use Rattle.std.proofs.Common.{◌≡◌, true, false, List, [], ◌∷◌, Option, Some, None, refl, sym, ap}
use Rattle.std.proofs.Common.{◌∙◌, subst, le_refl, true≢false, not, ℕ, ◌≤◌, arith, length, ◌++◌}
use Rattle.std.specs.Int.RustNames.{count_ones}
use Rattle.std.proofs.lemmas.Option.{none-some}
use lib.Count.{ones_in}
use Rattle.ttx_packet.specs.Hamming84.{decoded_nibble}
use Rattle.ttx_packet.specs.OneBit.{is_near}
use Rattle.ttx_packet.specs.PacketAddress.{address}
use Rattle.ttx_packet.specs.PageHeader.{header, decoded_header}
use Rattle.ttx_packet.specs.Parity.{is_odd}
use Rattle.ttx_page.specs.declared.packet_kind.PacketKind.TheVariants.{ThisPage, EndsPage, Row}
use Rattle.ttx_page.specs.Page.{Rows, blank, blank_row}
use Rattle.sub_rules.specs.PacketTests.{are_code_words, is_word_below}
use Rattle.sub_rules.specs.PacketTests.{breaks, broken_rules, packet_rules}
use Rattle.sub_rules.specs.Events.{end_rules, is_silent, order_events}
use Rattle.sub_rules.specs.Events.{gap_length, numbered_packet_events, broken_rule_events}
use Rattle.sub_rules.specs.Events.{first_header_events}
use Rattle.sub_rules.specs.Events.{is_late, is_pending, active_faults_at, active_faults_before}
use Rattle.sub_rules.specs.Events.{end_events}
use Rattle.sub_rules.specs.Events.{first_unfinished_in_frames, first_unfinished_in_gap}
use Rattle.sub_rules.specs.Events.{unfinished_run_start, was_undecided}
use Rattle.sub_rules.specs.Events.{first_wrong_cell_after}
use Rattle.sub_rules.specs.Events.{first_cell, is_gap, is_incomplete, latest_frame, closing_events}
use Rattle.ttx_packet.specs.RowPacket.{first_even_parity_column}
use Rattle.ttx_page.specs.PacketKind.{kind}
use Rattle.ttx_page.specs.Receiver.{State, Step, StepAt}
use Rattle.ttx_page.specs.Screen.{Display, ShowsAt}
use Rattle.ttx_page.specs.Span.{has_page_header, has_no_page_end}
use Rattle.ttx_page.proofs.NoiseLaws.{AreNear-themselves}
use Rattle.sub_plan.specs.Examples.{page_888}
use Rattle.sub_examples.specs.Examples.{english_header, row_22, time_filling_header, one_frame}
use Rattle.sub_examples.specs.Examples.{options_with_bound}
use Rattle.sub_examples.specs.Examples.{no_subtitles}
use Rattle.sub_rules.specs.Good.{Good}
use Rattle.stl_rows.specs.DuePage.{due}
use Rattle.stl_rows.specs.SubSets.{sub_set}
use Rattle.ttx_packet.specs.declared.header.Header.{Header}
use Rattle.sub_examples.specs.ScreenExamples.{display_before_header, ExampleOfEndedPage}
use Rattle.sub_examples.specs.ScreenExamples.{ExampleOfPageNotEnded}
use Rattle.sub_examples.specs.ScreenExamples.{ExampleOfRestartedPage, ExampleOfUnendedPage}
use Rattle.sub_rules.specs.Transmission.{Transmission}
use Rattle.sub_examples.proofs.ExampleLemmas.{good_by_events}
use Rattle.sub_rules.proofs.FrameEvents.{events, events_of_first_frames, frame_events, gap_events}

abbrev header_888_value : Header
header_888_value = record { page = 0x88; subcode = 0; control = record { 0 = 0x0D } }

english_header_is_page_888 : kind page_888 english_header ≡ ThisPage header_888_value
unfolding kind address header decoded_header decoded_nibble is_near
english_header_is_page_888 = refl

time_filling_header_ends_page : kind page_888 time_filling_header ≡ EndsPage
unfolding kind address header decoded_header decoded_nibble is_near
time_filling_header_ends_page = refl

packet_is_row_22 : kind page_888 row_22 ≡ Row 22
unfolding kind address header decoded_header decoded_nibble is_near
packet_is_row_22 = refl

abbrev state_on_blank_page : State
state_on_blank_page = record { heard = true; is_open = true; page = blank }

opens : (old : State) → Step page_888 old english_header state_on_blank_page
opens old = subst (λ k. StepAt k english_header old state_on_blank_page)
    (sym english_header_is_page_888) refl

opened :
    (old new : State) → Step page_888 old english_header new → new ≡ state_on_blank_page
opened old new step = subst (λ k. StepAt k english_header old new) english_header_is_page_888 step

closed :
    (old new : State) → Step page_888 old time_filling_header new → new.is_open ≡ false
closed old new step =
    ap (λ (s : State). s.is_open)
    (subst (λ k. StepAt k time_filling_header old new) time_filling_header_ends_page step)

left_open :
    (old new : State) → old ≡ state_on_blank_page → Step page_888 old row_22 new → new.is_open ≡
    true
left_open old new is step = grind (arith, nat_tests, state_on_blank_page, packet_is_row_22)

pub example_of_ended_page : ExampleOfEndedPage
example_of_ended_page old new run = grind (arith, nat_tests, opened, closed, not, Some)

pub example_of_page_not_ended : ExampleOfPageNotEnded
example_of_page_not_ended screen new run = grind (
  arith,
  nat_tests,
  opened,
  left_open,
  not,
  packet_is_row_22,
)

abbrev open_display_with : Option Rows → Display
open_display_with screen = record { receiver_state = state_on_blank_page; screen = screen }

first_header : ShowsAt page_888 (display_before_header None) english_header (open_display_with None)
first_header = grind (arith, nat_tests, true≢false)

second_header_shows_page : ShowsAt page_888 (open_display_with None) english_header
    (open_display_with (Some blank))
second_header_shows_page = grind (arith, nat_tests, true≢false, english_header_is_page_888)

second_header_may_wait : ShowsAt page_888 (open_display_with None) english_header
    (open_display_with None)
second_header_may_wait = grind (arith, nat_tests, true≢false)

pub example_of_restarted_page : ExampleOfRestartedPage
example_of_restarted_page = record {
  shown = open_display_with (Some blank);
  shows = (
    open_display_with None,
    (opens (display_before_header None).receiver_state, first_header),
    (open_display_with (Some blank), (opens state_on_blank_page, second_header_shows_page), refl),
  );
  shows_blank_page = refl;
  other = open_display_with None;
  waits = (
    open_display_with None,
    (opens (display_before_header None).receiver_state, first_header),
    (open_display_with None, (opens state_on_blank_page, second_header_may_wait), refl),
  );
  shows_no_page = refl;
}

abbrev header_without_end : Transmission
header_without_end = one_frame (english_header ∷ [])

no_end_is_good : Good no_subtitles header_without_end (options_with_bound 1)
unfolding events events_of_first_frames frame_events order_events gap_events gap_length
    numbered_packet_events broken_rule_events broken_rules packet_rules breaks first_header_events
    active_faults_at
    active_faults_before end_events end_rules is_late first_wrong_cell_after first_cell is_gap
    is_incomplete
    is_silent latest_frame was_undecided
    closing_events is_pending unfinished_run_start first_unfinished_in_gap
    first_unfinished_in_frames
    are_code_words is_word_below first_even_parity_column kind address
    header decoded_header decoded_nibble is_near is_odd count_ones ones_in
    due blank blank_row sub_set
no_end_is_good = good_by_events _ _ _ refl refl (omega arith) refl refl

holds : has_page_header (kind page_888) (english_header ∷ []) ≡ true
unfolding kind address header decoded_header decoded_nibble is_near
holds = refl

page_is_not_ended : has_no_page_end (kind page_888) (english_header ∷ []) ≡ true
unfolding kind address header decoded_header decoded_nibble is_near
page_is_not_ended = refl

pub example_of_unended_page : ExampleOfUnendedPage
example_of_unended_page = record {
  good = no_end_is_good;
  not_complete = λ complete.
      true≢false
      (sym page_is_not_ended ∙ complete 900000 (le_refl 900000) (le_refl 900000) holds);
  not_shown = λ shown.
      let sent : List (List ℕ) = english_header ∷ [] in
      let none : 0 ≤ length (sent ++ []) = omega arith in
      let due =
      shown 900000 0 900000 (true ∷ []) sent (display_before_header None) (open_display_with None)
      (record {
        listening =
            record {
              from = le_refl 900000;
              in_order = le_refl 900000;
              to = le_refl 900000;
              in_frame = none;
            };
        headers = ((λ e. absurd (true≢false e)), tt);
        near = AreNear-themselves sent;
      }) (
        open_display_with None,
        (opens (display_before_header None).receiver_state, first_header),
        refl,
      ) holds in
      none-some due.0 due.1;
}
