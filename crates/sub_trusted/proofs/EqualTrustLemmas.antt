-- Frames that are trusted although subtitles were rejected are also trusted for all criteria that
-- agree on the known expected pages, if a check by these criteria has any event. If `within` is not
-- 0, this holds up to each frame with a finished page.
use Rattle.std.proofs.lemmas.Bool.Decides.{nat_tests}
use Rattle.std.proofs.Common.{◌≡◌, ◌≢◌, ℕ, ◌-◌, ◌<◌, ◌≤◌, inl, inr, true}
use Rattle.std.proofs.Common.{List, [], Contains, Option, Some, length, refl, ap, ◌∙◌}
use Rattle.std.proofs.Common.{arith}
use Rattle.ttx_page.specs.Page.{Rows}
use Rattle.ttx_page.specs.PacketKind.{kind}
use Rattle.ttx_page.specs.Span.{has_text_beginning}
use Rattle.sub_rules.specs.Events.{end_rules, no_active_faults, active_faults_at}
use Rattle.sub_rules.specs.FrameRules.{Criteria, UnreadReason, frame_at}
use Rattle.sub_rules.specs.PesPacketEvents.{all_events_of_pes_packets, sent_by_pes_packets}
use Rattle.sub_rules.specs.PesPackets.{PesPacket}
use Rattle.sub_rules.specs.Transmission.{Transmission}
use Rattle.sub_rules.specs.Trusted.{has_no_active_faults}
use Rattle.sub_rules.specs.declared.event.Event.TheVariants.{Trusted}
use Rattle.sub_rules.specs.declared.active_faults.ActiveFaults.{ActiveFaults}
use Rattle.sub_rules.proofs.EndRuleLemmas.{no_active_faults_is_unique}
use Rattle.sub_laws.specs.CleanStretch.{IsEnd, HasNoReceiverFault}
use Rattle.sub_laws.proofs.FrameByFrame.{IsFaultFree}
use Rattle.sub_laws.proofs.GoodLemmas.{rising_frames_rise_at_each_index}
use Rattle.sub_laws.proofs.PrefixLemmas.{RiseTo, frame_at-take, packets-take}
use Rattle.sub_laws.proofs.PrefixLemmas.{rising_frames_are_ordered}
use Rattle.sub_laws.proofs.ActiveFaultsLemmas.{decided_range_includes_frame}
use Rattle.sub_trusted.specs.EqualTrust.{AreTrusted, IsFinishedAt}
use Rattle.sub_trusted.specs.TrustedFrames.{BeginsText, MayBeReportedAsTrusted, rising_part}
use Rattle.sub_trusted.proofs.EqualLateLemmas.{HasSameCriteria, end_is_fault_free_in_both}
use Rattle.sub_trusted.proofs.EqualLateLemmas.{criteria_with_known_pages}
use Rattle.sub_trusted.proofs.EqualLateLemmas.{known_page_is_unfinished_in_both}
use Rattle.sub_trusted.proofs.AllTrustedLemmas.{law_of_all_trusted}
use Rattle.sub_trusted.proofs.TrustedFrameLemmas.{rising_count_is_the_greatest}
use Rattle.sub_trusted.proofs.TrustedFrameLemmas.{rising_part_ends_at_count}
use Rattle.sub_trusted.proofs.TrustedFrameLemmas.{rising_part_has_rising_count, rising_part_rises}
use Rattle.sub_trusted.proofs.TrustedFrameLemmas.{run_begins_in_part, next_rising_frame_is_counted}
use Rattle.sub_trusted.proofs.TrustedFrameLemmas.{rising_frame_count}
use Rattle.sub_trusted.proofs.TrustedFrameLemmas.{rising_count_is_at_most_length}
use Rattle.sub_trusted.proofs.TrustedFrameLemmas.{stretch_has_no_active_fault}
use Rattle.sub_trusted.proofs.TrustedFrameLemmas.{unreported}
use Rattle.sub_trusted.proofs.TrackerStateLemmas.{IsTrustedBetween}
use Rattle.sub_trusted.proofs.TrustedSkippedLemmas.{skipped_packets_are_outside_stretch}
use Rattle.sub_trusted.proofs.TrustedPesPacketLemmas.{all_events_trust_good_stretches}
use Rattle.sub_trusted.proofs.TrustedPesPacketLemmas.{trusted_bound}
use Rattle.sub_trusted.proofs.TrustedRunLemmas.{RunLastsTo}

no_active_faults_has_none : has_no_active_faults no_active_faults ≡ true
unfolding end_rules
no_active_faults_has_none = refl

module _ (g : Criteria) (due : ℕ → Rows) (ending : ℕ → Option ℕ) (first_tci last_tco : Option ℕ)
    (same_criteria : HasSameCriteria g due ending) (pes_packets : List PesPacket) (from to : ℕ)
    (reported : Contains (all_events_of_pes_packets g pes_packets) (Trusted from to)) where
  abbrev h : Criteria
  h = criteria_with_known_pages g due ending first_tci last_tco

  abbrev frames : Transmission
  frames = sent_by_pes_packets g pes_packets

  abbrev part : Transmission
  part = rising_part frames

  may : IsTrustedBetween g frames 0 (trusted_bound g frames) from to
  may = grind (arith, nat_tests, trusted_bound, all_events_trust_good_stretches)

  stays : RunLastsTo g frames from to
  stays = may.stretch_is_trusted_correct.stays

  fault_free : HasNoReceiverFault g part from to
  fault_free = unreported g frames from to stays

  up : RiseTo part (length part)
  up = rising_frames_rise_at_each_index part fault_free.rising

  some : 0 < rising_frame_count frames
  some = let low = run_begins_in_part g frames from to stays in omega arith

  still : (n f : ℕ) → IsEnd part n f → from ≤ f → f ≤ to → IsFaultFree h part n f
  unfolding active_faults_at
  still n f end low high =
      end_is_fault_free_in_both g due ending first_tci last_tco same_criteria part up n f
      (fault_free.undecided n f end low high) end
      (no_active_faults_is_unique _ (stretch_has_no_active_fault g frames from to stays n f end low
      high))

  run_ends_before_falling_frame : rising_frame_count frames < length frames → to < frame_at frames
      (rising_frame_count frames - 1)
  run_ends_before_falling_frame more =
      let fits = rising_count_is_the_greatest frames (length frames) stays.n stays.within
      stays.run.rises in
      let below = stays.run.below in
      elim (stays.next (omega arith)) [
        | inl (rise, low) ↦
            let later = next_rising_frame_is_counted frames stays.n (omega arith) stays.run.rises
            rise in
            let order =
            rising_frames_are_ordered frames (rising_frame_count frames) (rising_part_rises frames)
            stays.n (rising_frame_count frames - 1)
            (omega arith) (omega arith) in
            omega arith
        | inr low ↦
            let order =
            rising_frames_are_ordered frames (rising_frame_count frames) (rising_part_rises frames)
            (stays.n - 1) (rising_frame_count frames - 1)
            (omega arith) (omega arith) in
            omega arith
      ]

  run_ends_before_unread_bytes : (u : UnreadReason) → g.unread ≡ Some u → to < frame_at frames
      (rising_frame_count frames - 1)
  run_ends_before_unread_bytes u is =
      grind (
        arith,
        nat_tests,
        rising_frame_count,
        run_ends_before_falling_frame,
        rising_count_is_at_most_length,
        rising_part_rises,
        trusted_bound,
        may,
      )

  module _ (b : ℕ) (low : from ≤ b) (high : b ≤ to)
      (whole : 0 < g.within → IsFinishedAt g pes_packets b) where
    finished : 0 < g.within → IsFinishedAt h pes_packets b
    unfolding active_faults_at
    finished h1 = grind (
      arith,
      nat_tests,
      decided_range_includes_frame,
      fault_free,
      known_page_is_unfinished_in_both,
    )

    can : MayBeReportedAsTrusted h pes_packets from b
    unfolding active_faults_at
    can =
        let last = rising_part_ends_at_count frames some in
        let size = rising_part_has_rising_count frames in
        record {
          unreported = record {
            stretch = record {
              not_empty = fault_free.stretch.not_empty;
              from = fault_free.stretch.from;
              in_order = low;
              to = let top = fault_free.stretch.to in omega arith;
            };
            rising = fault_free.rising;
            packets = λ r needed i k l m after before.
                fault_free.packets r needed i k l m after (omega arith);
            content = λ n f end after before.
                ap (λ (s : ActiveFaults). s.content) (still n f end after (omega arith));
            gap = λ n f end after before.
                ap (λ (s : ActiveFaults). s.gap) (still n f end after (omega arith));
            undecided = λ n f end after before.
                ap (λ (s : ActiveFaults). s.undecided) (still n f end after (omega arith));
          };
          fault_free = λ n f end after before.
              ap has_no_active_faults (still n f end after (omega arith)) ∙
              no_active_faults_has_none;
          finished = finished;
          skipped = λ earlier later u is more few.
              elim (skipped_packets_are_outside_stretch g pes_packets from to reported earlier later
              u is more few) [
                | inl before ↦ inl before
                | inr after ↦ inr (omega arith)
              ];
          run_ends_before_falling_frame = λ more. let past = run_ends_before_falling_frame
              (omega arith) in omega arith;
          run_ends_before_unread_bytes = λ u is. let past = run_ends_before_unread_bytes u is
              in omega arith;
        }

    pub stretch_is_trusted_in_both : all_events_of_pes_packets h pes_packets ≢ [] → AreTrusted h
        pes_packets from b
    stretch_is_trusted_in_both something =
        let j : ℕ = stays.run.j in
        let inside : j < rising_frame_count frames = run_begins_in_part g frames from to stays in
        let size = rising_part_has_rising_count frames in
        let at = frame_at-take frames (rising_frame_count frames) j inside in
        let own = stays.run.at in
        let ps = packets-take frames (rising_frame_count frames) j inside in
        let header : BeginsText h part j =
        ap (has_text_beginning g.watched.keeps (kind g.watched.page)) ps ∙ stays.run.header in
        let (first, last, start, end, c) =
        law_of_all_trusted h pes_packets from b j can (omega arith) (omega arith) (omega arith)
        header
        (inl something) in
        (first, last, omega arith, end, c)
