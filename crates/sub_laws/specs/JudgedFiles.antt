-- Laws of the reliable subtitles of a file, whose other subtitles may be unreliable or outside the
-- requested range.
use Rattle.std.specs.Prelude.{◌≡◌, ℕ, true, List, ◌++◌, length, None, Option}
use Rattle.std.specs.List.{AllByRecursion, concat}
use Rattle.stl_file.specs.Gsi.{gsi_size}
use Rattle.stl_file.specs.Reader.{findings_within_scope}
use Rattle.stl_file.specs.SubtitleBlocks.{IsBlock}
use Rattle.stl_file.specs.KeptBlocks.{has_no_ending_fault, scope_blocks}
use Rattle.stl_rows.specs.declared.layout.Drawing.{Drawing}
use Rattle.stl_rows.specs.Judged.{JudgedValue, has_unreliable_subtitle, reliable_subtitles_of}
use Rattle.stl_rows.specs.Judged.{can_judge}
use Rattle.stl_rows.specs.Loading.{full_day_drawing}
use Rattle.sub_plan.specs.Options.{OptionsValue}
use Rattle.sub_rules.specs.FrameRules.{UnreadReason, criteria_of_judged, is_due_undecided}
use Rattle.sub_rules.specs.PesPacketEvents.{all_events_of_pes_packets}
use Rattle.sub_rules.specs.PesPackets.{PesPacket}

-- A range of a subtitle file has the same reliable subtitles as the file without the blocks of the
-- subtitles outside the range, if no fault ends the reading of the file. A transmission can be
-- checked against both or against neither.
abbrev pub LawOfJudgedParts : Type 0
LawOfJudgedParts =
    (drawing : Drawing) (gsi : List ℕ) (blocks : List (List ℕ))
    → length gsi ≡ gsi_size
    → AllByRecursion IsBlock blocks
    → has_no_ending_fault (findings_within_scope drawing.scope (gsi ++ concat blocks)) ≡ true
    → (reliable_subtitles_of drawing (gsi ++ concat blocks) ≡ reliable_subtitles_of
    (full_day_drawing drawing) (gsi ++ concat (scope_blocks drawing.scope None blocks)))
    × (can_judge drawing (gsi ++ concat blocks)
    ≡ can_judge (full_day_drawing drawing)
    (gsi ++ concat (scope_blocks drawing.scope None blocks)))

-- If two subtitle files have the same reliable subtitles, drawn in the same way, the same frames
-- with an unknown expected page, and unreliable subtitles both or neither, a PES file has the same
-- events for both. So neither the text nor the times of unreliable subtitles matter otherwise.
abbrev pub LawOfEqualReports : Type 0
LawOfEqualReports =
    (one other : JudgedValue) (options : OptionsValue) (unread : Option UnreadReason)
    → (pes_packets : List PesPacket)
    → one.programme ≡ other.programme
    → has_unreliable_subtitle one ≡ has_unreliable_subtitle other
    → ((frame : ℕ) → is_due_undecided one frame ≡ is_due_undecided other frame)
    → all_events_of_pes_packets (criteria_of_judged one options unread) pes_packets
    ≡ all_events_of_pes_packets (criteria_of_judged other options unread) pes_packets
