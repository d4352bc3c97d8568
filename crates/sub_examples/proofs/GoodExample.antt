-- The example of a good transmission has no events, so it is good.
use Rattle.std.proofs.Common.{arith, refl}
use Rattle.std.specs.Int.RustNames.{count_ones}
use lib.Count.{ones_in}
use Rattle.ttx_packet.specs.Hamming84.{decoded_nibble}
use Rattle.ttx_packet.specs.OneBit.{is_near}
use Rattle.ttx_packet.specs.PacketAddress.{address}
use Rattle.ttx_packet.specs.PageHeader.{header, decoded_header}
use Rattle.ttx_packet.specs.Parity.{is_odd}
use Rattle.ttx_page.specs.Page.{blank, blank_row}
use Rattle.sub_rules.specs.PacketTests.{are_code_words, is_word_below}
use Rattle.sub_rules.specs.PacketTests.{breaks, broken_rules, packet_rules}
use Rattle.sub_rules.specs.Events.{end_rules, is_silent, order_events}
use Rattle.sub_rules.specs.Events.{gap_length, numbered_packet_events, broken_rule_events}
use Rattle.sub_rules.specs.Events.{first_header_events}
use Rattle.sub_rules.specs.Events.{is_late, is_pending, active_faults_at, active_faults_before}
use Rattle.sub_rules.specs.Events.{end_events}
use Rattle.sub_rules.specs.Events.{first_unfinished_in_frames, first_unfinished_in_gap}
use Rattle.sub_rules.specs.Events.{unfinished_run_start, was_undecided}
use Rattle.sub_rules.specs.Events.{first_wrong_cell_after}
use Rattle.sub_rules.specs.Events.{first_cell, is_gap, is_incomplete, latest_frame, closing_events}
use Rattle.ttx_packet.specs.RowPacket.{first_even_parity_column}
use Rattle.ttx_page.specs.PacketKind.{kind}
use Rattle.stl_rows.specs.DrawnPage.{drawn, drawn_by, page_of_placed, placed_fault_kinds}
use Rattle.stl_rows.specs.DuePage.{due}
use Rattle.stl_rows.specs.Layout.{attribute_code, default_items}
use Rattle.stl_rows.specs.Line.{has_start_box_code, has_double_height}
use Rattle.stl_rows.specs.PreparedLine.{line_with_layout_codes, line_with_before_codes}
use Rattle.stl_rows.specs.PreparedLine.{prepared_by_layout, row_starting_at, start_column_by_layout}
use Rattle.stl_rows.specs.SubSets.{sub_set}
use Rattle.stl_rows.specs.TextCode.{cell_of, cell_of_pair, is_common}
use Rattle.sub_examples.specs.Examples.{ExampleOfGoodTransmission}
use Rattle.sub_examples.proofs.ExampleLemmas.{good_by_events}
use Rattle.sub_rules.proofs.FrameEvents.{events, events_of_first_frames, frame_events, gap_events}

pub example_of_good_transmission : ExampleOfGoodTransmission
unfolding events events_of_first_frames frame_events order_events gap_events gap_length
    numbered_packet_events broken_rule_events broken_rules packet_rules breaks first_header_events
    active_faults_at
    active_faults_before end_events end_rules is_late first_wrong_cell_after first_cell is_gap
    is_incomplete
    is_silent latest_frame was_undecided
    closing_events is_pending unfinished_run_start first_unfinished_in_gap
    first_unfinished_in_frames
    are_code_words is_word_below first_even_parity_column kind address
    header decoded_header decoded_nibble is_near is_odd count_ones ones_in due blank
    blank_row drawn drawn_by page_of_placed placed_fault_kinds prepared_by_layout
    line_with_layout_codes line_with_before_codes start_column_by_layout
    row_starting_at default_items attribute_code has_start_box_code has_double_height
    is_common cell_of cell_of_pair sub_set
example_of_good_transmission = good_by_events _ _ _ refl refl (omega arith) refl refl
