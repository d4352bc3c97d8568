-- If any event is reported for a PES file, or the subtitle file has unreliable subtitles, each
-- range of frames that could be trusted is reported as trusted, from its first header that erases
-- the page on.
use Rattle.std.proofs.lemmas.Bool.Decides.{nat_tests}
use Rattle.std.proofs.Common.{◌≡◌, ◌≢◌, ℕ, ◌<◌, ◌≤◌, ◌⊎◌, inl, inr, Bool, true}
use Rattle.std.proofs.Common.{false, ◌||◌, not, List, [], ◌∷◌, ◌++◌, Contains}
use Rattle.std.proofs.Common.{length, refl, sym, ap, ◌∙◌, subst, arith}
use Rattle.std.proofs.lemmas.Bool.{or_parts, or_right}
use Rattle.std.proofs.lemmas.List.Elements.{Contains-append_left}
use Rattle.ttx_page.specs.PacketKind.{kind}
use Rattle.ttx_page.specs.Span.{has_text_beginning}
use Rattle.sub_rules.specs.FrameRules.{Criteria, UnreadReason, end_frame}
use Rattle.sub_rules.specs.PesPacketEvents.{announced_events, all_events_of_pes_packets}
use Rattle.sub_rules.specs.PesPacketEvents.{closing_events_of_pes_packets, run_ending_events}
use Rattle.sub_rules.specs.PesPacketEvents.{no_run, skipped_run_after_events, sent_by_pes_packets}
use Rattle.sub_rules.specs.PesPacketEvents.{steps_of_closing}
use Rattle.sub_rules.specs.PesPacketEvents.{steps_of_each, steps_of_pending_end}
use Rattle.sub_rules.specs.PesPacketEvents.{ungrouped_events_of_pes_packets}
use Rattle.sub_rules.specs.PesPackets.{PesPacket, frames_of, joined_after, sent_after}
use Rattle.sub_rules.specs.PesPackets.PesPacket.{Skipped, Sent}
use Rattle.sub_rules.specs.Transmission.{Transmission}
use Rattle.sub_rules.specs.declared.event.Event.{Event}
use Rattle.sub_rules.specs.declared.event.Event.TheVariants.{Trusted}
use Rattle.sub_rules.proofs.TrustedLemmas.{history_after, events_reported_after-append}
use Rattle.sub_trusted.specs.TrustedFrames.{MayBeReportedAsTrusted, IsAnythingReported}
use Rattle.sub_trusted.specs.TrustedFrames.{LawOfAllTrusted}
use Rattle.sub_trusted.proofs.InvalidationLemmas.{contains-announced}
use Rattle.sub_trusted.proofs.AllTrustedStretchLemmas.{Fits, fits}
use Rattle.sub_trusted.proofs.AllTrustedLeadLemmas.{IsReported, LeadsToReportOfRun}
use Rattle.sub_trusted.proofs.AllTrustedLeadLemmas.{report_is_in_left_events}
use Rattle.sub_trusted.proofs.AllTrustedLeadLemmas.{report_is_in_right_events}
use Rattle.sub_laws.proofs.PrefixLemmas.{frame_at-take, last-same, packets-take}
use Rattle.sub_trusted.proofs.AllTrustedEndingLemmas.{closing_reported}
use Rattle.sub_trusted.proofs.AllTrustedKeptLemmas.{top}
use Rattle.sub_trusted.proofs.AllTrustedPesPacketLemmas.{IsOutsideStretch, FollowsAfterFrames}
use Rattle.sub_trusted.proofs.AllTrustedPesPacketLemmas.{packet_steps_lead_to_report}
use Rattle.sub_laws.proofs.PesPacketWalkLemmas.{EachSkippedPacket}
use Rattle.sub_trusted.proofs.TrustedFrameLemmas.{rising_part_has_rising_count, rising_frame_count}
use Rattle.sub_laws.proofs.UnreportedLemmas.{steps_before_closing_do_not_close, silent}
use Rattle.std.specs.List.{list_any}
use Rattle.sub_rules.specs.Trusted.{CheckStep, back_frame_of, is_emitted, last_packet_frame, run_of}
use Rattle.sub_rules.specs.Trusted.{first_unfinished_of}
use Rattle.sub_rules.specs.Trusted.{reports_no_event, events_reported_after}
use Rattle.sub_rules.specs.Trusted.{events_reported_at_step, first_finished_of}

no_events_announce_nothing : (reported : List Event) → reported ≡ []
    → announced_events no_run reported ++ run_ending_events (skipped_run_after_events no_run
    reported) ≡ []
unfolding announced_events skipped_run_after_events
no_events_announce_nothing reported none = grind (arith, nat_tests)

-- If no event was reported before the end of the file, none follows, and all subtitles are
-- reliable, no trusted frames are reported at the end.
silent_closing_reports_nothing : (g : Criteria) (frames : Transmission) (pes n : ℕ)
    (t : List CheckStep)
    → (list_any is_emitted t
    || (g.any_unreliable || not (reports_no_event (closing_events_of_pes_packets g frames pes n))))
    ≡
    false
    → events_reported_after t (steps_of_closing g frames pes n) ≡ []
unfolding events_reported_after events_reported_at_step run_of first_finished_of last_packet_frame
    first_unfinished_of
    back_frame_of
silent_closing_reports_nothing g frames pes n t e = grind (arith, nat_tests)

module _ (g : Criteria) (pes_packets : List PesPacket) (a b i : ℕ)
    (can : MayBeReportedAsTrusted g pes_packets a b)
    (fit : Fits g (sent_by_pes_packets g pes_packets) a b i) where
  abbrev frames : Transmission
  frames = sent_by_pes_packets g pes_packets

  skipped_packets_are_outside : (sent : Transmission) (ahead : List PesPacket)
      → ((earlier later : List PesPacket) (u : UnreadReason)
      → ahead ≡ earlier ++ Skipped u ∷ later
      → 0 < length (joined_after g.within sent (frames_of earlier))
      → length (joined_after g.within sent (frames_of earlier)) ≤ rising_frame_count frames
      → (end_frame (joined_after g.within sent (frames_of earlier)) < a)
      ⊎ (b < end_frame (joined_after g.within sent (frames_of earlier))))
      → EachSkippedPacket g.within (IsOutsideStretch g frames a b i fit) sent ahead
  unfolding frames_of joined_after
  skipped_packets_are_outside sent [] h = tt
  skipped_packets_are_outside sent (Sent s ∷ ahead) h =
      skipped_packets_are_outside (sent_after g.within sent s) ahead
      (λ earlier later u e.
      h (Sent s ∷ earlier) later u (ap (λ (l : List PesPacket). Sent s ∷ l) e))
  skipped_packets_are_outside sent (Skipped u ∷ ahead) h = (
    h [] ahead u refl,
    skipped_packets_are_outside sent ahead
        (λ earlier later v e.
        h (Skipped u ∷ earlier) later v (ap (λ (l : List PesPacket). Skipped u ∷ l) e)),
  )

  all_skipped_packets_are_outside : EachSkippedPacket g.within (IsOutsideStretch g frames a b i fit)
      [] pes_packets
  all_skipped_packets_are_outside = grind (
    arith,
    nat_tests,
    skipped_packets_are_outside,
    rising_part_has_rising_count,
    last-same,
  )

  abbrev ReportsTrustedStretch : List Event → Type 0
  ReportsTrustedStretch es = IsReported (top g frames a b i fit) b es

  abbrev steps : List CheckStep
  steps = steps_of_each g [] 0 pes_packets ++ steps_of_pending_end g frames

  abbrev close : List CheckStep
  close = steps_of_closing g frames (length pes_packets) (length frames)

  goes : LeadsToReportOfRun (top g frames a b i fit) b (FollowsAfterFrames g frames a b i fit
      (length frames))
      [] steps
  goes = packet_steps_lead_to_report g frames a b i fit pes_packets refl
      all_skipped_packets_are_outside

  -- Trusted frames may be reported at the end of the file: an event was reported before, another
  -- event is reported there, or the subtitle file has unreliable subtitles.
  abbrev reports : List CheckStep → Bool
  reports t =
      list_any is_emitted t
      || (g.any_unreliable
      || not (reports_no_event (closing_events_of_pes_packets g frames (length pes_packets)
      (length frames))))

  any_report_is_a_report : (t : List CheckStep) → history_after [] steps ≡ t → events_reported_after
      [] (steps ++ close)
      ≢ []
      → reports t ≡ true
  any_report_is_a_report t after something =
      grind (
        arith,
        nat_tests,
        or_parts,
        silent,
        steps_before_closing_do_not_close,
        history_after,
        silent_closing_reports_nothing,
        events_reported_after-append,
      )

  all_steps_report_stretch : reports (history_after [] steps) ≡ true → ReportsTrustedStretch
      (events_reported_after [] (steps ++ close))
  all_steps_report_stretch anything =
      subst ReportsTrustedStretch (sym (events_reported_after-append [] steps close))
      (leading_steps_report_stretch goes)
    where
      leading_steps_report_stretch : LeadsToReportOfRun (top g frames a b i fit) b
          (FollowsAfterFrames g frames a b i fit (length frames)) [] steps
          → ReportsTrustedStretch (events_reported_after [] steps ++ events_reported_after
          (history_after [] steps) close)
      leading_steps_report_stretch (inl reported) =
          report_is_in_left_events (top g frames a b i fit) b (events_reported_after [] steps)
          (events_reported_after (history_after [] steps) close) reported
      leading_steps_report_stretch (inr past) =
          report_is_in_right_events (top g frames a b i fit) b (events_reported_after [] steps)
          (events_reported_after (history_after [] steps) close)
          (closing_reported g frames a b i fit (length pes_packets) (history_after [] steps) past
          anything)

  any_event_is_a_report : IsAnythingReported g pes_packets → reports (history_after [] steps) ≡ true
  unfolding all_events_of_pes_packets ungrouped_events_of_pes_packets
  any_event_is_a_report (inl something) =
      any_report_is_a_report (history_after [] steps) refl
      (λ none. something
      (no_events_announce_nothing (ungrouped_events_of_pes_packets g pes_packets) none))
  any_event_is_a_report (inr any_unreliable) =
      or_right (list_any is_emitted (history_after [] steps))
      _
      (rw any_unreliable refl)

  pub all_events_report_stretch : IsAnythingReported g pes_packets → ReportsTrustedStretch
      (all_events_of_pes_packets g pes_packets)
  unfolding all_events_of_pes_packets ungrouped_events_of_pes_packets
  all_events_report_stretch anything =
      let reported : List Event = ungrouped_events_of_pes_packets g pes_packets in
      let same : reported ≡ events_reported_after [] (steps ++ close) = refl in
      let (from, to, low, high, c) = all_steps_report_stretch (any_event_is_a_report anything) in (
        from,
        to,
        low,
        high,
        Contains-append_left (announced_events no_run reported) _ _
            (contains-announced no_run reported from to
            (subst (λ (l : List Event). Contains l (Trusted from to)) (sym same) c)),
      )

pub law_of_all_trusted : LawOfAllTrusted
law_of_all_trusted g pes_packets a b i can there low high header anything =
    let frames : Transmission = sent_by_pes_packets g pes_packets in
    let inside : i < rising_frame_count frames =
    let all = rising_part_has_rising_count (sent_by_pes_packets g pes_packets) in omega arith in
    let at = frame_at-take frames (rising_frame_count frames) i inside in
    let ps = packets-take frames (rising_frame_count frames) i inside in
    let holds = ap (has_text_beginning g.watched.keeps (kind g.watched.page)) (sym ps) ∙ header in
    let fit : Fits g frames a b i =
    fits g pes_packets a b can i inside (omega arith) (omega arith) holds in
    subst (λ (f : ℕ). (from : ℕ)
    × (to : ℕ)
    × (from ≤ f)
    × (b ≤ to)
    × Contains (all_events_of_pes_packets g pes_packets) (Trusted from to)) (sym at)
    (all_events_report_stretch g pes_packets a b i can fit anything)
