-- The transmission of the example is rejected, but some of its consecutive frames have no fault
-- that affects receivers.
use Rattle.std.proofs.lemmas.Bool.Decides.{nat_tests}
use Rattle.std.proofs.Common.{ℕ, inl, inr, List, [], ◌∷◌, None, false, refl, arith}
use Rattle.std.specs.Int.RustNames.{count_ones}
use lib.Count.{ones_in}
use Rattle.ttx_packet.specs.Hamming84.{decoded_nibble}
use Rattle.ttx_packet.specs.OneBit.{is_near}
use Rattle.ttx_packet.specs.PacketAddress.{address}
use Rattle.ttx_packet.specs.PageHeader.{header, decoded_header}
use Rattle.ttx_packet.specs.Parity.{is_odd}
use Rattle.ttx_page.specs.Page.{blank, blank_row}
use Rattle.sub_rules.specs.PacketTests.{are_code_words, breaks, is_word_below, packet_rules}
use Rattle.ttx_packet.specs.RowPacket.{first_even_parity_column}
use Rattle.ttx_page.specs.Differing.{differing_column_count}
use Rattle.sub_rules.specs.Events.{first_cell, is_gap, is_incomplete, is_late, active_faults_at}
use Rattle.sub_rules.specs.Events.{first_wrong_cell_after}
use Rattle.ttx_page.specs.PacketKind.{kind}
use Rattle.ttx_page.specs.Receiver.ReceiverClass.{Storing}
use Rattle.ttx_page.proofs.NoiseLaws.{all_arrive, full_arrival_loses_no_header}
use Rattle.stl_rows.specs.DrawnPage.{drawn, drawn_by, page_of_placed, placed_fault_kinds}
use Rattle.stl_rows.specs.DuePage.{due}
use Rattle.stl_rows.specs.Layout.{attribute_code, default_items}
use Rattle.stl_rows.specs.Line.{has_start_box_code, has_double_height}
use Rattle.stl_rows.specs.PreparedLine.{line_with_layout_codes, line_with_before_codes}
use Rattle.stl_rows.specs.PreparedLine.{prepared_by_layout, row_starting_at, start_column_by_layout}
use Rattle.stl_rows.specs.SubSets.{sub_set}
use Rattle.stl_rows.specs.TextCode.{cell_of, cell_of_pair, is_common}
use Rattle.sub_laws.specs.CleanStretch.{HasNoReceiverFault}
use Rattle.sub_examples.specs.Examples.{ExampleOfCleanFrames, time_filling_header}
use Rattle.sub_examples.specs.Examples.{transmission_damaged_first, options_with_bound}
use Rattle.sub_examples.specs.Examples.{english_header, later_subtitle, row_22}
use Rattle.sub_rules.specs.FrameRules.{criteria_of}
use Rattle.sub_rules.specs.Good.{Good}
use Rattle.sub_rules.specs.Transmission.{SentFrame}
use Rattle.sub_laws.proofs.ErasingHeaderLemmas.{law_of_unreported_stretch}
use Rattle.sub_laws.proofs.StretchLemmas.{law_of_stretch}
use Rattle.sub_examples.proofs.RobustTests.{listening, unreported_by_test}

refused : Good later_subtitle transmission_damaged_first (options_with_bound 1) → ⊥
unfolding kind address header decoded_header decoded_nibble is_near
refused good =
    let none : SentFrame = record { frame = 0; packets = [] } in
    let control = good.rules.control 0 none (omega arith) 0 [] (omega arith) in
    grind (arith, nat_tests, control _ refl)

clean : HasNoReceiverFault (criteria_of later_subtitle (options_with_bound 1) None)
    transmission_damaged_first 900001
    900002
unfolding are_code_words is_word_below first_even_parity_column breaks differing_column_count is_gap
    packet_rules active_faults_at is_late first_wrong_cell_after first_cell is_incomplete
    kind address header decoded_header decoded_nibble is_near is_odd count_ones ones_in due blank
    blank_row drawn drawn_by page_of_placed placed_fault_kinds prepared_by_layout
    line_with_layout_codes line_with_before_codes start_column_by_layout
    row_starting_at default_items attribute_code has_start_box_code has_double_height
    is_common cell_of cell_of_pair sub_set
clean = unreported_by_test _ _ _ _ (λ frame. refl) refl

pub example_of_clean_frames : ExampleOfCleanFrames
unfolding kind address header decoded_header decoded_nibble is_near is_odd count_ones ones_in due
    blank
    blank_row drawn drawn_by page_of_placed placed_fault_kinds prepared_by_layout
    line_with_layout_codes line_with_before_codes start_column_by_layout
    row_starting_at default_items attribute_code has_start_box_code has_double_height
    is_common cell_of cell_of_pair sub_set
example_of_clean_frames = record {
  refused = refused;
  clean = clean;
  receiver_state = λ got old new near hears.
      let sent : List (List ℕ) = english_header ∷ row_22 ∷ time_filling_header ∷ [] in
      let enough =
      law_of_unreported_stretch later_subtitle transmission_damaged_first (options_with_bound 1)
      None false
      (λ frame. false)
      900001
      900002 refl refl clean in
      let trusted = law_of_stretch later_subtitle transmission_damaged_first (options_with_bound 1)
      900001 900002
      enough.0 in
      let served =
      trusted.recovers Storing 900001 0 900001 (all_arrive sent) got old new
      (record {
        listening = listening transmission_damaged_first 900001 900002 900001 0 900001 refl;
        headers = full_arrival_loses_no_header sent;
        near = near;
      }) hears in
      elim (served.cells refl 22 19 (omega arith, omega arith, omega arith)) [
        | inl due ↦ inl due
        | inr hit ↦ inr hit.0
      ];
}
