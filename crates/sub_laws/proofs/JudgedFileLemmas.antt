-- If only a range of a subtitle file is requested, a transmission is compared with the same
-- subtitles as without the other blocks.
use Rattle.std.proofs.Math.Path.{fun_ext}
use Rattle.std.proofs.Common.{◌≡◌, ℕ, Bool, false, true, ◌&&◌, ◌++◌, Option, Some, None}
use Rattle.std.proofs.Common.{option_map, refl, sym, ap, ◌∙◌}
use Rattle.std.specs.List.{concat}
use Rattle.stl_file.specs.Reader.{findings_within_scope}
use Rattle.stl_file.specs.Reading.{Findings, breaks, finds, no_more, refuses}
use Rattle.stl_file.specs.Subtitle.{SubtitleValue}
use Rattle.stl_file.specs.KeptBlocks.{LawOfScope, whole_day_scope, scope_blocks}
use Rattle.stl_file.specs.KeptBlocks.{has_no_ending_fault}
use Rattle.stl_file.specs.KeptBlocks.{unnumbered}
use Rattle.stl_rows.specs.declared.layout.Drawing.{Drawing}
use Rattle.stl_rows.specs.DrawnPage.{drawn}
use Rattle.stl_rows.specs.Judged.{ReliableSubtitles, are_in_order, has_any_subtitle}
use Rattle.stl_rows.specs.Judged.{has_unreliable_subtitle}
use Rattle.stl_rows.specs.Judged.{is_followed_in_order, judged_after, reliable_subtitles_of}
use Rattle.stl_rows.specs.Loading.{full_day_drawing}
use Rattle.stl_rows.specs.Programme.{ProgrammeValue, times_of}
use Rattle.sub_rules.specs.FrameRules.{is_due_undecided}
use Rattle.sub_rules.specs.PesPacketEvents.{all_events_of_pes_packets}
use Rattle.sub_laws.specs.CleanStretch.{criteria_if_unreliable}
use Rattle.sub_laws.specs.JudgedFiles.{LawOfEqualReports, LawOfJudgedParts}

-- Whether a file was read to its end does not depend on block numbers.
reading_ignores_block_numbers : (left : Findings) → has_no_ending_fault left ≡ has_no_ending_fault
    (unnumbered left)
reading_ignores_block_numbers no_more = refl
reading_ignores_block_numbers (breaks f block) = refl
reading_ignores_block_numbers (refuses f block left) = reading_ignores_block_numbers left
reading_ignores_block_numbers (finds t block left) = reading_ignores_block_numbers left

-- Whether the next subtitle is in order does not depend on block numbers.
order_ignores_block_numbers : (last : SubtitleValue) (left : Findings)
    → is_followed_in_order (times_of last) left
    ≡ is_followed_in_order (times_of last) (unnumbered left)
order_ignores_block_numbers last no_more = refl
order_ignores_block_numbers last (breaks f block) = refl
order_ignores_block_numbers last (refuses f block left) = order_ignores_block_numbers last left
order_ignores_block_numbers last (finds t block left) = refl

-- The reliable subtitles after a given subtitle, or from the first subtitle on.
abbrev following : Drawing → Option SubtitleValue → Bool → Findings → ReliableSubtitles
following drawing last other left = judged_after drawing (option_map times_of last) other left

judging_ignores_block_numbers : (drawing : Drawing) (last : Option SubtitleValue) (other : Bool)
    (left : Findings)
    → following drawing last other left ≡ following drawing last other (unnumbered left)
unfolding judged_after
judging_ignores_block_numbers drawing last other no_more = refl
judging_ignores_block_numbers drawing last other (breaks f block) = refl
judging_ignores_block_numbers drawing last other (refuses f block left) =
    judging_ignores_block_numbers drawing last true left
judging_ignores_block_numbers drawing last other (finds t block left) =
    rw (
      order_ignores_block_numbers t left,
      judging_ignores_block_numbers drawing (Some t) false left,
      judging_ignores_block_numbers drawing (Some t) true left,
    ) refl

-- The page of a subtitle does not depend on the requested range of the file.
drawing_ignores_the_day : (drawing : Drawing) (t : SubtitleValue)
    → drawn drawing t ≡ drawn (full_day_drawing drawing) t
unfolding drawn
drawing_ignores_the_day drawing t = refl

judging_ignores_the_day : (drawing : Drawing) (last : Option SubtitleValue) (other : Bool)
    (left : Findings)
    → following drawing last other left ≡ following (full_day_drawing drawing) last other left
unfolding judged_after
judging_ignores_the_day drawing last other no_more = refl
judging_ignores_the_day drawing last other (breaks f block) = refl
judging_ignores_the_day drawing last other (refuses f block left) = judging_ignores_the_day drawing
    last true left
judging_ignores_the_day drawing last other (finds t block left) =
    rw (
      drawing_ignores_the_day drawing t,
      judging_ignores_the_day drawing (Some t) false left,
      judging_ignores_the_day drawing (Some t) true left,
    ) refl

module _ (drawing : Drawing) (one other : Findings) (same : unnumbered one ≡ unnumbered other) where
  equal_findings_are_judged_the_same : following drawing None false one ≡ following
      (full_day_drawing drawing) None false other
  equal_findings_are_judged_the_same =
      judging_ignores_block_numbers drawing None false one
      ∙ ap (following drawing None false) same
      ∙ sym (judging_ignores_block_numbers drawing None false other)
      ∙ judging_ignores_the_day drawing None false other

  equal_findings_are_read_the_same : has_no_ending_fault one ≡ has_no_ending_fault other
  equal_findings_are_read_the_same = reading_ignores_block_numbers one ∙ ap has_no_ending_fault same
      ∙ sym (reading_ignores_block_numbers other)

  judges_same :
      (has_no_ending_fault one && has_any_subtitle (following drawing None false one).judged
      && are_in_order (following drawing None false one).judged)
      ≡ (has_no_ending_fault other && has_any_subtitle (following (full_day_drawing drawing) None
      false other).judged
      && are_in_order (following (full_day_drawing drawing) None false other).judged)
  judges_same =
      ap
      (λ (whole : Bool). whole && has_any_subtitle (following drawing None false one).judged
      && are_in_order (following drawing None false one).judged)
      equal_findings_are_read_the_same
      ∙ ap
      (λ (all : ReliableSubtitles).
      has_no_ending_fault other && has_any_subtitle all.judged && are_in_order all.judged)
      equal_findings_are_judged_the_same

pub judging_needs_used_blocks_only : LawOfScope → LawOfJudgedParts
unfolding reliable_subtitles_of
judging_needs_used_blocks_only law drawing gsi blocks size each read =
    let part : Findings = findings_within_scope drawing.scope (gsi ++ concat blocks) in
    let rest : Findings =
    findings_within_scope (whole_day_scope drawing.scope)
    (gsi ++ concat (scope_blocks drawing.scope None blocks)) in
    let same = law drawing.scope gsi blocks size each read in
    (equal_findings_are_judged_the_same drawing part rest same, judges_same drawing part rest same)

-- If two subtitle files have the same reliable subtitles, drawn in the same way, the same frames
-- with an unknown expected page, and unreliable subtitles both or neither, a PES file has the same
-- events for both.
pub law_of_equal_reports : LawOfEqualReports
law_of_equal_reports one other options unread pes_packets programme any_unreliable undecided =
    ap
    (λ (p : ProgrammeValue).
    all_events_of_pes_packets (criteria_if_unreliable p options unread (has_unreliable_subtitle one)
    (is_due_undecided one))
    pes_packets)
    programme
    ∙ ap
    (λ (b : Bool).
    all_events_of_pes_packets (criteria_if_unreliable other.programme options unread b
    (is_due_undecided one))
    pes_packets)
    any_unreliable
    ∙ ap
    (λ (u : ℕ → Bool).
    all_events_of_pes_packets
    (criteria_if_unreliable other.programme options unread (has_unreliable_subtitle other) u)
    pes_packets)
    (fun_ext undecided)
