-- If `within` is not 0, the page is finished at the end of at least one of the frames that an event
-- reports as trusted.
use Rattle.std.proofs.Common.{◌≡◌, ℕ, ◌-◌, ◌<◌, ◌≤◌, ◌==◌, inl, inr, false, None, length, drop}
use Rattle.std.proofs.Common.{Bool, Option, sym, ap, ◌∙◌, arith}
use Rattle.std.proofs.lemmas.Bool.{cases_lt}
use Rattle.std.proofs.lemmas.List.{take-append-drop}
use Rattle.stl_rows.specs.Programme.{ProgrammeValue}
use Rattle.sub_plan.specs.Options.{OptionsValue}
use Rattle.sub_rules.specs.Events.{active_faults_at, is_undecided_within, unfinished_run_start}
use Rattle.sub_rules.specs.FrameRules.{Criteria, UnreadReason}
use Rattle.sub_rules.specs.Repeats.{HasFinishedFrame}
use Rattle.sub_rules.specs.Transmission.{Transmission}
use Rattle.sub_rules.proofs.PrefixEventLemmas.{unfinished_run_start-prefix}
use Rattle.sub_laws.specs.CleanStretch.{IsEnd, criteria_if_unreliable}
use Rattle.sub_trusted.specs.TrustedFrames.{rising_part}
use Rattle.sub_trusted.proofs.TrackerStateLemmas.{IsTrustedCorrect}
use Rattle.sub_laws.proofs.FinishedLemmas.{finished_end_is_finished_page}
use Rattle.sub_laws.proofs.FinishedLemmas.{absent_run_means_finished_end}
use Rattle.sub_laws.proofs.PrefixLemmas.{RiseTo, frame_at-take, prefix_rises}
use Rattle.sub_laws.proofs.ActiveFaultsLemmas.{decided_range_includes_frame}
use Rattle.sub_trusted.proofs.TrustedFrameLemmas.{rising_count_is_the_greatest}
use Rattle.sub_trusted.proofs.TrustedFrameLemmas.{rising_part_ends_at_count}
use Rattle.sub_trusted.proofs.TrustedFrameLemmas.{rising_part_has_rising_count, rising_part_rises}
use Rattle.sub_trusted.proofs.TrustedFrameLemmas.{rising_frame_count}
use Rattle.sub_trusted.proofs.TrustedFrameLemmas.{rising_count_is_at_most_length}
use Rattle.sub_trusted.proofs.TrustedFrameLemmas.{unreported}

module _ (programme : ProgrammeValue) (options : OptionsValue) (unread : Option UnreadReason)
    (any_unreliable : Bool) (undecided : ℕ → Bool) (frames : Transmission) (from to : ℕ)
    (may : IsTrustedCorrect
    (criteria_if_unreliable programme options unread any_unreliable undecided)
    frames
    from to)
  where
    abbrev g : Criteria
    g = criteria_if_unreliable programme options unread any_unreliable undecided

    abbrev part : Transmission
    part = rising_part frames

    part_has_rising_count : length part ≡ rising_frame_count frames
    part_has_rising_count = rising_part_has_rising_count frames

    up : RiseTo part (length part)
    up = prefix_rises frames (rising_frame_count frames) (rising_count_is_at_most_length frames)
        (rising_part_rises frames)

    few : may.whole.n ≤ rising_frame_count frames
    few =
        rising_count_is_the_greatest frames (length frames) may.whole.n (may.whole.end).1
        may.whole.rises

    correct_end_is_in_part : IsEnd part may.whole.n may.w
    correct_end_is_in_part =
        let end = may.whole.end in
        let long = part_has_rising_count in
        let l = few in
        let some = end.0 in (
          some,
          omega arith,
          elim end.2 [
            | inl own ↦
                inl
                (own ∙ sym (frame_at-take frames (rising_frame_count frames) (may.whole.n - 1)
                (omega arith)))
            | inr (there, later, earlier) ↦
                let stretch = (unreported g frames from to may.stays).stretch in
                let last = rising_part_ends_at_count frames (omega arith) in
                let high = may.high in
                let top = stretch.to in
                let more : may.whole.n < rising_frame_count frames =
                elim (cases_lt may.whole.n (rising_frame_count frames)) [
                  | inl less ↦ less
                  | inr all ↦
                      let after = earlier (rising_frame_count frames - 1) (omega arith) in absurd
                      (omega arith)
                ] in
                inr (
                  omega arith,
                  (let at = frame_at-take frames (rising_frame_count frames) may.whole.n more
                      in omega arith),
                  λ i below.
                      let at = frame_at-take frames (rising_frame_count frames) i (omega arith) in
                      let before = earlier i below in
                      omega arith,
                )
          ],
        )

    absent_run_means_finished_frame : (g.within == 0) ≡ false → unfinished_run_start g part
        may.whole.n may.w
        ≡
        None
    absent_run_means_finished_frame some =
        let seen = may.whole.finished in
        sym
        (unfinished_run_start-prefix g g.unread part (drop (rising_frame_count frames) frames)
        may.whole.n may.w
        (omega (arith, few, part_has_rising_count)))
        ∙ ap (λ (fs : Transmission). unfinished_run_start g fs may.whole.n may.w)
        (take-append-drop (rising_frame_count frames) frames)
        ∙ rw some at seen

    known : is_undecided_within g part may.w ≡ false
    unfolding active_faults_at
    known =
        (unreported g frames from to may.stays).undecided may.whole.n may.w correct_end_is_in_part
        may.whole.low
        may.high

    pub stretch_end_is_finished : (g.within == 0) ≡ false
        → HasFinishedFrame options.keeps programme part options from to
    stretch_end_is_finished some = (
      may.w,
      may.whole.low,
      may.high,
      finished_end_is_finished_page programme options unread any_unreliable undecided part up
          may.whole.n may.w
          correct_end_is_in_part
          (decided_range_includes_frame g part may.whole.n may.w known)
          (absent_run_means_finished_end programme options unread any_unreliable undecided part up
          may.whole.n
          may.w
          correct_end_is_in_part
          (absent_run_means_finished_frame some)),
    )
