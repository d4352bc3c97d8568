-- The trusted frames that are reported for a list of PES packets belong to a run of fault-free
-- frames and, if `within` is not 0, the page is finished at the end of at least one of them.
use Rattle.std.proofs.lemmas.Bool.Decides.{nat_tests}
use Rattle.std.proofs.Common.{◌≡◌, ℕ, suc, ◌+◌, ◌≤◌, Bool, true, false, not, ◌||◌}
use Rattle.std.proofs.Common.{List, [], ◌∷◌, ◌++◌, length, map, Option, Some, is_some, refl, sym}
use Rattle.std.proofs.Common.{subst, arith, append-nil, unwrap_or, if◌then◌else◌}
use Rattle.std.proofs.lemmas.List.Elements.{All-append, All-cons, All-nil}
use Rattle.std.proofs.lemmas.Option.{none-some}
use Rattle.sub_rules.specs.Events.{closing_events}
use Rattle.sub_rules.specs.FrameRules.{Criteria, end_frame, packets_of_frame}
use Rattle.sub_rules.specs.PesPacketEvents.{announced_events, all_events_of_pes_packets}
use Rattle.sub_rules.specs.PesPacketEvents.{closing_events_of_pes_packets, no_run}
use Rattle.sub_rules.specs.PesPacketEvents.{skipped_run_after_events, sent_by_pes_packets}
use Rattle.sub_rules.specs.PesPacketEvents.{steps_of_closing}
use Rattle.sub_rules.specs.PesPacketEvents.{steps_of_each, steps_of_pending_end}
use Rattle.sub_rules.specs.PesPacketEvents.{ungrouped_events_of_pes_packets}
use Rattle.sub_rules.specs.PesPackets.{PesPacket, frames_of, joined_after, sent_after}
use Rattle.sub_rules.specs.PesPackets.PesPacket.{Skipped, Sent}
use Rattle.sub_rules.specs.Transmission.{Transmission}
use Rattle.sub_rules.specs.Trusted.CheckStep.{AtPes, Closes, Emits}
use Rattle.sub_rules.specs.declared.event.Event.{Event}
use Rattle.sub_rules.proofs.AnyReportedLemmas.{closing_events_have_no_other_number}
use Rattle.sub_rules.proofs.TrustedLemmas.{history_after, events_reported_after-append}
use Rattle.sub_trusted.proofs.TrackerStateLemmas.{HasEndedFrames, IsTrustedBetween}
use Rattle.sub_trusted.proofs.TrackerStateLemmas.{IsTrustedCorrect, HasBegunNextFrame}
use Rattle.sub_trusted.proofs.TrackerStateLemmas.{ended_frames_ignore_packet_number}
use Rattle.sub_trusted.proofs.TrackerStateLemmas.{begun_frame_ignores_packet_number}
use Rattle.sub_trusted.proofs.TrackerStateLemmas.{tracked_run_passes_before_frame}
use Rattle.sub_trusted.proofs.TrackerStateLemmas.{run_needs_rising_frames}
use Rattle.sub_trusted.proofs.TrustedEndingLemmas.{ending}
use Rattle.sub_trusted.proofs.TrustedStepLemmas.{IsTrustedBeforeEnd, arrival}
use Rattle.sub_trusted.proofs.TrustedStepLemmas.{more_packets_report_good_stretches, skipped}
use Rattle.sub_trusted.proofs.TrustedStepLemmas.{skipped_packet_reports_good_stretches}
use Rattle.sub_trusted.proofs.InvalidationLemmas.{HoldsForEachTrusted, HoldsIfTrusted}
use Rattle.sub_trusted.proofs.InvalidationLemmas.{each-announced}
use Rattle.sub_trusted.proofs.InvalidationLemmas.{each-ended}
use Rattle.sub_trusted.proofs.InvalidationLemmas.{each-own, each-weaker}
use Rattle.sub_laws.proofs.GrowingFrameLemmas.{long, growing_never_gets_shorter}
use Rattle.sub_laws.proofs.PesPacketWalkLemmas.{EachSkippedPacket, Sends, Steps, each_pes_packet}
use Rattle.sub_laws.proofs.PesPacketWalkLemmas.{pending_end_reaches_closed_state}
use Rattle.sub_trusted.proofs.EmittedStepLemmas.{Goes, Goes-append, Goes-nil, Goes-pes, Goes-emits}
use Rattle.sub_trusted.proofs.EmittedStepLemmas.{trusted_frames_have_property, has_risen}
use Rattle.sub_trusted.proofs.EmittedStepLemmas.{steps_with_packet_number}
use Rattle.std.specs.Prelude.{⊤}
use Rattle.sub_rules.specs.Trusted.{CheckStep, back_frame_of, first_untrusted_at_close, is_emitted}
use Rattle.sub_rules.specs.Trusted.{last_packet_frame}
use Rattle.sub_rules.specs.Trusted.{late_run_start}
use Rattle.sub_rules.specs.Trusted.{run_of, first_unfinished_of, stays_fault_free}
use Rattle.sub_rules.specs.Trusted.{reports_order_fault, reports_no_event}
use Rattle.sub_rules.specs.Trusted.{events_reported_after, events_reported_at_step, trusted}
use Rattle.sub_rules.specs.Trusted.{first_finished_of}
use Rattle.std.specs.List.{list_any}

-- The first frame that is not trusted at the end of a file is at most this frame: the last frame,
-- if unread bytes follow, otherwise the frame after the last.
abbrev pub trusted_bound : Criteria → Transmission → ℕ
trusted_bound g frames =
    if is_some g.unread then end_frame frames else end_frame frames + 1

late_low_bound : (left : Bool) (last : ℕ)
    → (last ≤ (if left then last else last + 1)) × ((if left then last else last + 1) ≤ last + 1)
late_low_bound left last = grind (arith, nat_tests)

module _ (g : Criteria) (frames : Transmission) (base : ℕ) where
  abbrev P : ℕ → ℕ → Type 0
  P = IsTrustedBeforeEnd g frames base

  steps :
      Steps (List CheckStep) steps_with_packet_number g frames (Goes P)
      (HasEndedFrames g frames base)
      (HasBegunNextFrame g frames base)
      (λ sent. ⊤)
  steps = record {
    at_ended = ended_frames_ignore_packet_number g frames base;
    at_open = begun_frame_ignores_packet_number g frames base;
    arrival = arrival g frames base;
    more = λ n packets more rest t there whole opens.
        more_packets_report_good_stretches g frames base n packets more t there opens;
    ending = ending g frames base;
    skipped_packet_reports_good_stretches = λ sent pes u t is requested closed.
        skipped_packet_reports_good_stretches g frames base (length sent) pes u t
        (growing_never_gets_shorter sent frames is) closed;
    skipped_open = λ sent n pes u t is size requested opens.
        skipped g frames base n pes (packets_of_frame sent n) u t (long g sent frames is n size)
        opens;
  }

  skipped_packets_need_nothing : (sent : Transmission) (pes_packets : List PesPacket)
      → EachSkippedPacket g.within (λ l. ⊤) sent pes_packets
  skipped_packets_need_nothing sent [] = tt
  skipped_packets_need_nothing sent (Sent s ∷ pes_packets) = skipped_packets_need_nothing
      (sent_after g.within sent s)
      pes_packets
  skipped_packets_need_nothing sent (Skipped u ∷ pes_packets) = (
    tt,
    skipped_packets_need_nothing
        sent pes_packets,
  )

  -- After the frames `sent`, the steps t have ended all frames or, if `within` is not 0, all frames
  -- but the last one.
  abbrev pub HasSentFrames : Transmission → List CheckStep → Type 0
  HasSentFrames sent t =
      Sends (List CheckStep) steps_with_packet_number g frames (Goes P)
      (HasEndedFrames g frames base)
      (HasBegunNextFrame g frames base)
      (λ l. ⊤) sent t

  pub each_passes : (sent : Transmission) (pes : ℕ) (t : List CheckStep)
      (pes_packets : List PesPacket)
      → joined_after g.within sent (frames_of pes_packets) ≡ frames
      → HasSentFrames sent t
      → Goes P (HasSentFrames frames) t (steps_of_each g sent pes pes_packets)
  each_passes sent pes t pes_packets all sends =
      each_pes_packet (List CheckStep) steps_with_packet_number g frames (Goes P)
      (HasEndedFrames g frames base)
      (HasBegunNextFrame g frames base)
      (λ l. ⊤) (Goes-nil P) (Goes-pes P) (Goes-append P) steps sent pes t pes_packets all
      (skipped_packets_need_nothing sent pes_packets) sends

  -- The frames belong to a run of fault-free frames, and the page was finished at the end of one of
  -- them or `within` is 0. They are after the first `base` frames of the transmission. If all frame
  -- numbers increase, they end with the last frame or earlier, or before the last frame if unread
  -- bytes follow.
  abbrev pub IsTrustedAtClose : ℕ → ℕ → Type 0
  IsTrustedAtClose = IsTrustedBetween g frames base (trusted_bound g frames)

  no_trusted_frames_in_closing_events : (pes n : ℕ) → length frames ≡ n
      → HoldsForEachTrusted IsTrustedAtClose (closing_events_of_pes_packets g frames pes n)
  unfolding closing_events_of_pes_packets
  no_trusted_frames_in_closing_events pes n all =
      let own = each-own IsTrustedAtClose n (closing_events g frames n)
      (closing_events_have_no_other_number g frames n all) in
      grind (arith, nat_tests, All-nil, All-cons)

  end_is_at_most_last : (first_unfinished back : Option ℕ) (left : Bool) (last : ℕ)
      → ((r : ℕ) → first_unfinished ≡ Some r → r ≤ last)
      → ((r : ℕ) → back ≡ Some r → r ≤ last)
      → unwrap_or first_unfinished (if left then unwrap_or back last else suc last)
      ≤ (if left then last else last + 1)
  end_is_at_most_last first_unfinished back left last h k = grind (arith, nat_tests)

  closing : (pes : ℕ) (t : List CheckStep) → HasEndedFrames g frames base (length frames) t
      → HoldsForEachTrusted IsTrustedAtClose
      (events_reported_after t (steps_of_closing g frames pes (length frames)))
  unfolding events_reported_after events_reported_at_step run_of first_finished_of last_packet_frame
      first_unfinished_of
      late_run_start back_frame_of stays_fault_free
      reports_order_fault
  closing pes t closed =
      let n : ℕ = length frames in
      let es : List Event = closing_events_of_pes_packets g frames pes n in
      let more : Bool = g.any_unreliable || not (reports_no_event es) in
      let t0 : List CheckStep = AtPes pes ∷ t in
      let t1 : List CheckStep = Closes (is_some g.unread) more ∷ t0 in
      All-append (HoldsIfTrusted IsTrustedAtClose)
      (events_reported_at_step t0 (Closes (is_some g.unread) more))
      (events_reported_after t1 (map Emits es)) (last (list_any is_emitted t || more))
      (Goes-emits IsTrustedAtClose (λ u. List CheckStep) t1 es (no_trusted_frames_in_closing_events
      pes n refl)
      (λ x from w invalidation run whole l. absurd (none-some from run))
      (λ u emitted. u)).each
    where
      low : (from : ℕ) → run_of t ≡ Some from
          → first_untrusted_at_close t (is_some g.unread) ≤ trusted_bound g frames
      low from run =
          let below = (closed.keeps.run from run).below in
          let at = closed.last (omega arith) in
          let top =
          end_is_at_most_last (first_unfinished_of t) (back_frame_of t) (is_some g.unread)
          (last_packet_frame t)
          (λ r is. let low = closed.first_unfinished r from run is in omega arith)
          (λ r is.
          let rises = run_needs_rising_frames (has_risen t) (run_of t) from closed.keeps.falls run
          in
          let low = (closed.back rises r is).1 in
          omega arith) in
          subst
          (λ (f : ℕ). first_untrusted_at_close t (is_some g.unread) ≤ (if is_some g.unread then f
          else f + 1))
          at top

      last : (b : Bool) → HoldsForEachTrusted IsTrustedAtClose
          (if b then trusted (run_of t) (first_finished_of t) (first_untrusted_at_close t
          (is_some g.unread))
          else [])
      last false = All-nil (HoldsIfTrusted IsTrustedAtClose)
      last true =
          trusted_frames_have_property IsTrustedAtClose (run_of t) (first_finished_of t)
          (first_untrusted_at_close t (is_some g.unread))
          (λ from w run whole l.
          let high = low from run in
          let few = late_low_bound (is_some g.unread) (end_frame frames) in
          tracked_run_passes_before_frame g frames base (trusted_bound g frames) (length frames)
          (end_frame frames + 1) (first_untrusted_at_close t (is_some g.unread)) t closed.keeps
          (record {
            within = omega arith;
            low = omega arith;
            next = λ more. absurd (omega arith);
            last = λ all. high;
          }) few.0 few.1 from w run whole l)

  pub all_steps_trust_good_stretches : (sent : Transmission) (pes count : ℕ) (t : List CheckStep)
      (pes_packets : List PesPacket)
      → joined_after g.within sent (frames_of pes_packets) ≡ frames
      → HasSentFrames sent t
      → HoldsForEachTrusted IsTrustedAtClose
      (events_reported_after t
      (steps_of_each g sent pes pes_packets
      ++ steps_of_pending_end g frames
      ++ steps_of_closing g frames count (length frames)))
  all_steps_trust_good_stretches sent pes count t pes_packets all sends =
      let check_steps : List CheckStep = steps_of_each g sent pes pes_packets in
      let n : ℕ = length frames in
      let close : List CheckStep = steps_of_closing g frames count n in
      let goes =
      Goes-append P (HasSentFrames frames) (HasEndedFrames g frames base n) t check_steps
      (steps_of_pending_end g frames)
      (each_passes sent pes t pes_packets all sends)
      (λ u so.
      pending_end_reaches_closed_state (List CheckStep) steps_with_packet_number g frames (Goes P)
      (HasEndedFrames g frames base)
      (HasBegunNextFrame g frames base)
      (λ l. ⊤) (Goes-nil P) (Goes-pes P) (Goes-append P) steps frames [] u
      (sym (append-nil frames)) so) in
      let first : List CheckStep = check_steps ++ steps_of_pending_end g frames in
      subst (HoldsForEachTrusted IsTrustedAtClose)
      (sym (events_reported_after-append t first close))
      (All-append (HoldsIfTrusted IsTrustedAtClose) (events_reported_after t first)
      (events_reported_after (history_after t first)
      close)
      (each-weaker P IsTrustedAtClose (events_reported_after t first)
      (λ from to p. record {
        stretch_is_trusted_correct = p.stretch_is_trusted_correct;
        above = p.above;
        early = λ rises.
            let low = p.early rises in
            let few = late_low_bound (is_some g.unread) (end_frame frames) in
            omega arith;
      }) goes.each)
      (closing count (history_after t first) goes.after))

module _ (g : Criteria) (frames : Transmission) where
  pub start : HasEndedFrames g frames 0 0 []
  unfolding run_of first_finished_of last_packet_frame first_unfinished_of late_run_start
      back_frame_of
      stays_fault_free
  start = grind (arith, nat_tests)

  reported_stretches_are_good : (pes_packets : List PesPacket) → sent_by_pes_packets g pes_packets ≡
      frames
      → HoldsForEachTrusted (IsTrustedAtClose g frames 0)
      (ungrouped_events_of_pes_packets g pes_packets)
  unfolding ungrouped_events_of_pes_packets
  reported_stretches_are_good pes_packets all = grind
      (arith, nat_tests, all_steps_trust_good_stretches, start)

  pub all_events_trust_good_stretches : (pes_packets : List PesPacket) → sent_by_pes_packets g
      pes_packets ≡ frames
      → HoldsForEachTrusted (IsTrustedAtClose g frames 0) (all_events_of_pes_packets g pes_packets)
  unfolding all_events_of_pes_packets
  all_events_trust_good_stretches pes_packets all =
      let reported : List Event = ungrouped_events_of_pes_packets g pes_packets in
      All-append (HoldsIfTrusted (IsTrustedAtClose g frames 0)) (announced_events no_run reported) _
      (each-announced (IsTrustedAtClose g frames 0) no_run reported (reported_stretches_are_good
      pes_packets all))
      (each-ended (IsTrustedAtClose g frames 0) (skipped_run_after_events no_run reported))

  pub all_trusted_stretches_are_correct : (pes_packets : List PesPacket) → sent_by_pes_packets g
      pes_packets ≡ frames
      → HoldsForEachTrusted (IsTrustedCorrect g frames) (all_events_of_pes_packets g pes_packets)
  all_trusted_stretches_are_correct pes_packets all = grind (
    arith,
    nat_tests,
    each-weaker,
    all_events_trust_good_stretches,
  )
