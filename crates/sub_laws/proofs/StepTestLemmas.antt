-- If a test is false for the steps of each frame and of each skipped PES packet, it is false for
-- all steps.
use Rattle.std.proofs.lemmas.Bool.Decides.{nat_tests}
use Rattle.std.proofs.Common.{◌≡◌, ℕ, zero, suc, ◌+◌, ◌==◌, Bool, true, false, List, [], ◌∷◌, ◌++◌}
use Rattle.std.proofs.Common.{length, map, Option, None, Some, refl, ◌∙◌, arith, if◌then◌else◌}
use Rattle.std.proofs.Common.{slice_index_or, take, unwrap_or}
use Rattle.std.proofs.lemmas.Bool.{or_parts}
use Rattle.std.proofs.lemmas.Option.{same_Some}
use Rattle.std.proofs.lemmas.List.Folds.{list_any-append}
use Rattle.std.specs.List.{list_any}
use Rattle.std.specs.Prelude.{⊤}
use Rattle.sub_rules.specs.Events.{end_events}
use Rattle.sub_rules.specs.Events.{first_header_events, first_reported_fault, latest_frame}
use Rattle.sub_rules.specs.Events.{order_events, packet_fault, numbered_packet_events}
use Rattle.sub_rules.specs.Fault.{fault_with_pes_number}
use Rattle.sub_rules.specs.Events.{broken_rule_events}
use Rattle.sub_rules.specs.Events.{unread_fault}
use Rattle.sub_rules.specs.FrameRules.{Criteria, end_frame}
use Rattle.sub_rules.specs.PacketTests.{broken_rules}
use Rattle.sub_rules.specs.PesPacketEvents.{sent_by_pes_packets, steps_at_end, steps_before}
use Rattle.sub_rules.specs.PesPacketEvents.{steps_of_arrival, steps_of_each, steps_of_ending}
use Rattle.sub_rules.specs.PesPacketEvents.{steps_of_gap, steps_of_more, steps_of_next}
use Rattle.sub_rules.specs.PesPacketEvents.{steps_of_packets, steps_of_sent, steps_of_pending_end}
use Rattle.sub_rules.specs.PesPackets.{PesPacket, sent_after}
use Rattle.sub_rules.specs.PesPackets.PesPacket.{Skipped, Sent}
use Rattle.sub_rules.specs.Transmission.{SentFrame, Transmission}
use Rattle.sub_rules.specs.Trusted.CheckStep.{AtEnd, AtPes, Begins, Ends, GoesBack, Emits}
use Rattle.sub_rules.specs.declared.event.Event.{Event}
use Rattle.sub_rules.specs.declared.event.Event.TheVariants.{Reported}
use Rattle.sub_rules.specs.declared.fault.CheckFault.{CheckFault}
use Rattle.sub_rules.specs.declared.packet_rule.PacketRule.{PacketRule}
use Rattle.sub_rules.specs.declared.packet_rule.Watched.{Watched}
use Rattle.sub_rules.specs.Trusted.{CheckStep, with_pes_number, back_frame_of, run_of}
use Rattle.sub_rules.specs.Trusted.{events_reported_after, events_reported_at_step}
use Rattle.sub_rules.specs.Trusted.{trusted, trusted_up_to, first_finished_of}
use Rattle.sub_rules.specs.declared.active_faults.ActiveFaults.{ActiveFaults}

module _ (test : CheckStep → Bool) where
  abbrev on : Event → Bool
  on e = test (Emits e)

  pub record NoStepMatches (ms : List CheckStep) : Type 0 where
    pub none : list_any test ms ≡ false

  no_steps_match_nothing : NoStepMatches []
  no_steps_match_nothing = record { none = refl }

  pub appended_steps_match_nothing : {xs ys : List CheckStep} → NoStepMatches xs → NoStepMatches ys
      → NoStepMatches (xs ++ ys)
  appended_steps_match_nothing h1 h2 = grind (arith, nat_tests, list_any-append)

  one_step_matches_nothing : (m : CheckStep) → test m ≡ false → NoStepMatches (m ∷ [])
  one_step_matches_nothing m e = record { none = rw e refl }

  pub emitted_events_match_nothing : (es : List Event) → list_any on es ≡ false → NoStepMatches
      (map Emits es)
  emitted_events_match_nothing es none = record { none = same es ∙ none }
    where
      same : (es : List Event) → list_any test (map Emits es) ≡ list_any on es
      same [] = refl
      same (e ∷ es) = rw (same es) refl

  abbrev pub SkippedPacketsMatchNothing : ℕ → List PesPacket → Type 0
  SkippedPacketsMatchNothing pes [] = ⊤
  SkippedPacketsMatchNothing pes (Sent s ∷ pes_packets) = SkippedPacketsMatchNothing (suc pes)
      pes_packets
  SkippedPacketsMatchNothing pes (Skipped u ∷ pes_packets) =
      (on (Reported (unread_fault pes (Some u))) ≡ false) × SkippedPacketsMatchNothing (suc pes)
      pes_packets

  -- The test is false for every step that a frame may have.
  pub record FrameStepsMatchNothing (g : Criteria) : Type 0 where
    pub with_pes_number : (n : ℕ) → test (AtPes n) ≡ false
    pub begins : (f : ℕ) → test (Begins f) ≡ false
    pub at_end : (f : ℕ) (first_unfinished : Option ℕ) (late : Bool) → test
        (AtEnd f first_unfinished late) ≡ false
    pub going_back_matches_nothing : (first_unfinished : Option ℕ) → test
        (GoesBack first_unfinished) ≡ false
    pub ends : (f : ℕ) (has_beginning none : Bool) → test (Ends f has_beginning none) ≡ false
    pub of_end :
        (old : ActiveFaults) (before : ℕ) (new : ActiveFaults) (f : ℕ)
        → list_any on (end_events old before new f) ≡ false
    pub of_rule : (r : PacketRule) (frame k : ℕ) → on (Reported (packet_fault r frame k)) ≡ false
    pub order_events_match_nothing : (frames : Transmission) (i : ℕ) → list_any on
        (order_events g frames i) ≡ false
    pub header_events_match_nothing :
        (frames : Transmission) (i : ℕ)
        → list_any on (first_header_events g frames i) ≡ false

  module _ (g : Criteria) (fine : FrameStepsMatchNothing g) where
    back_steps_match_nothing : (first_unfinished : Option ℕ) → NoStepMatches
        (steps_before g first_unfinished)
    back_steps_match_nothing first_unfinished = grind (
      arith,
      nat_tests,
      one_step_matches_nothing,
      no_steps_match_nothing,
    )

    end_steps_match_nothing : (frames : Transmission) (i n f : ℕ) → NoStepMatches
        (steps_at_end g frames i n f)
    end_steps_match_nothing frames i n f =
        grind (
          arith,
          nat_tests,
          appended_steps_match_nothing,
          back_steps_match_nothing,
          emitted_events_match_nothing,
          no_steps_match_nothing,
          one_step_matches_nothing,
        )

    gap_steps_match_nothing : (frames : Transmission) (i n : ℕ) → NoStepMatches
        (steps_of_gap g frames i n)
    unfolding steps_of_gap
    gap_steps_match_nothing frames i zero = no_steps_match_nothing
    gap_steps_match_nothing frames i (suc n) =
        appended_steps_match_nothing (gap_steps_match_nothing frames i n) (end_steps_match_nothing
        frames i i (latest_frame frames i + suc n))

    arrival_steps_match_nothing : (frames : Transmission) (i : ℕ) → NoStepMatches
        (steps_of_arrival g frames i)
    arrival_steps_match_nothing frames i =
        grind (
          arith,
          nat_tests,
          appended_steps_match_nothing,
          emitted_events_match_nothing,
          gap_steps_match_nothing,
          one_step_matches_nothing,
          back_steps_match_nothing,
        )

    packet_events_match_nothing : (w : Watched) (frame from : ℕ) (before packets : List (List ℕ))
        (n : ℕ)
        → list_any on (numbered_packet_events w frame from before packets n) ≡ false
    unfolding numbered_packet_events broken_rule_events
    packet_events_match_nothing w frame from before packets zero = refl
    packet_events_match_nothing w frame from before packets (suc n) =
        let one = rules frame (from + n)
        (broken_rules w (before ++ take n packets) (slice_index_or packets n [])) in
        let rest = packet_events_match_nothing w frame from before packets n in
        list_any-append on (numbered_packet_events w frame from before packets n) _ ∙ rw (rest, one)
        refl
      where
        rules : (frame k : ℕ) (rs : List PacketRule)
            → list_any on (map (λ (r : PacketRule). Reported (packet_fault r frame k)) rs) ≡ false
        rules frame k [] = refl
        rules frame k (r ∷ rs) = rw (fine.of_rule r frame k) (rules frame k rs)

    ending_steps_match_nothing : (frames : Transmission) (i : ℕ) → NoStepMatches
        (steps_of_ending g frames i)
    ending_steps_match_nothing frames i =
        grind (
          arith,
          nat_tests,
          appended_steps_match_nothing,
          emitted_events_match_nothing,
          end_steps_match_nothing,
          one_step_matches_nothing,
        )

    pending_steps_match_nothing : (sent : Transmission) → NoStepMatches
        (steps_of_pending_end g sent)
    unfolding steps_of_pending_end
    pending_steps_match_nothing [] = no_steps_match_nothing
    pending_steps_match_nothing (s ∷ sent) = go (g.within == 0)
      where
        go : (b : Bool) → NoStepMatches (if b then [] else steps_of_ending g (s ∷ sent)
            (length sent))
        go true = no_steps_match_nothing
        go false = ending_steps_match_nothing (s ∷ sent) (length sent)

    packet_steps_match_nothing : (frames : Transmission) (i : ℕ) → NoStepMatches
        (steps_of_packets g frames i)
    packet_steps_match_nothing frames i = grind (
      arith,
      nat_tests,
      emitted_events_match_nothing,
      packet_events_match_nothing,
    )

    added_packet_steps_match_nothing : (sent : Transmission) (packets : List (List ℕ))
        → NoStepMatches (steps_of_more g sent packets)
    added_packet_steps_match_nothing sent packets =
        emitted_events_match_nothing _ (packet_events_match_nothing g.watched (end_frame sent)
        _ _ packets (length packets))

    next_frame_steps_match_nothing : (sent : Transmission) (s : SentFrame) → NoStepMatches
        (steps_of_next g sent s)
    next_frame_steps_match_nothing sent s =
        appended_steps_match_nothing
        (appended_steps_match_nothing (arrival_steps_match_nothing (sent ++ s ∷ []) (length sent))
        (packet_steps_match_nothing (sent ++ s ∷ []) (length sent))) (go (g.within == 0))
      where
        go : (b : Bool)
            → NoStepMatches (if b then steps_of_ending g (sent ++ s ∷ []) (length sent) else [])
        go true = ending_steps_match_nothing (sent ++ s ∷ []) (length sent)
        go false = no_steps_match_nothing

    sent_packet_steps_match_nothing : (sent : Transmission) (pes : ℕ) (s : SentFrame)
        → NoStepMatches (steps_of_sent g sent pes s)
    unfolding steps_of_sent
    sent_packet_steps_match_nothing sent pes s =
        grind (
          arith,
          nat_tests,
          appended_steps_match_nothing,
          one_step_matches_nothing,
          added_packet_steps_match_nothing,
          pending_steps_match_nothing,
          next_frame_steps_match_nothing,
        )

    pub each_passes : (sent : Transmission) (pes : ℕ) (pes_packets : List PesPacket) →
        SkippedPacketsMatchNothing
        pes pes_packets
        → NoStepMatches (steps_of_each g sent pes pes_packets)
    unfolding steps_of_each
    each_passes sent pes [] skipped = no_steps_match_nothing
    each_passes sent pes (Sent s ∷ pes_packets) skipped =
        appended_steps_match_nothing (sent_packet_steps_match_nothing sent pes s)
        (each_passes (sent_after g.within sent s) (suc pes) pes_packets skipped)
    each_passes sent pes (Skipped u ∷ pes_packets) skipped =
        appended_steps_match_nothing
        (one_step_matches_nothing (AtPes pes) (fine.with_pes_number pes))
        (appended_steps_match_nothing
        (one_step_matches_nothing (Emits (Reported (unread_fault pes (Some u)))) skipped.0)
        (each_passes sent (suc pes) pes_packets skipped.1))

    pub steps_before_closing_match_nothing : (pes_packets : List PesPacket) →
        ((pes : ℕ) → SkippedPacketsMatchNothing pes pes_packets)
        → NoStepMatches (steps_of_each g [] 0 pes_packets ++ steps_of_pending_end g
        (sent_by_pes_packets g pes_packets))
    steps_before_closing_match_nothing pes_packets skipped =
        appended_steps_match_nothing (each_passes [] 0 pes_packets (skipped 0))
        (pending_steps_match_nothing (sent_by_pes_packets g pes_packets))

-- The lemmas of this module assume that a fault that does not pass the test `bad` does not pass it
-- with any other PES packet number either.
module _ (bad : CheckFault → Bool)
    (anywhere : (pes : ℕ) (f : CheckFault) → bad f ≡ false → bad (fault_with_pes_number pes f) ≡
    false) where
  -- The event is a fault that passes the test `bad`.
  abbrev pub reports_bad_fault : Event → Bool
  reports_bad_fault (Reported f) = bad f
  reports_bad_fault e = false

  abbrev pub emits_bad_fault : CheckStep → Bool
  emits_bad_fault (Emits e) = reports_bad_fault e
  emits_bad_fault m = false

  both_none : (xs ys : List Event) → list_any reports_bad_fault xs ≡ false → list_any
      reports_bad_fault ys ≡
      false
      → list_any reports_bad_fault (xs ++ ys) ≡ false
  both_none xs ys h1 h2 = let both = list_any-append reports_bad_fault xs ys in grind
      (arith, nat_tests)

  trusted_frames_report_nothing_bad : (run whole : Option ℕ) (f : ℕ) → list_any reports_bad_fault
      (trusted run whole f) ≡ false
  trusted_frames_report_nothing_bad run whole f = grind (arith, nat_tests)

  frames_up_to_report_nothing_bad : (t : List CheckStep) (d : Option ℕ) → list_any reports_bad_fault
      (trusted_up_to t d) ≡
      false
  frames_up_to_report_nothing_bad t None = refl
  frames_up_to_report_nothing_bad t (Some f) = trusted_frames_report_nothing_bad (run_of t)
      (first_finished_of t) (unwrap_or (back_frame_of t) f)

  numbered_event_is_not_bad : (pes : ℕ) (e : Event) → reports_bad_fault e ≡ false →
      reports_bad_fault (with_pes_number pes e) ≡ false
  unfolding with_pes_number
  numbered_event_is_not_bad pes (Reported f) fine = anywhere pes f fine
  numbered_event_is_not_bad pes e fine = refl

  step_reports_nothing_bad : (m : CheckStep) (t : List CheckStep) → emits_bad_fault m ≡ false
      → list_any reports_bad_fault (events_reported_at_step t m) ≡ false
  unfolding events_reported_at_step
  step_reports_nothing_bad m t h1 = grind (
    arith,
    nat_tests,
    numbered_event_is_not_bad,
    both_none,
    frames_up_to_report_nothing_bad,
    trusted_frames_report_nothing_bad,
  )

  pub steps_report_nothing_bad : (t : List CheckStep) (ms : List CheckStep) → list_any
      emits_bad_fault ms ≡ false
      → list_any reports_bad_fault (events_reported_after t ms) ≡ false
  unfolding events_reported_after
  steps_report_nothing_bad t [] fine = refl
  steps_report_nothing_bad t (m ∷ ms) fine =
      let parts = or_parts (emits_bad_fault m) (list_any emits_bad_fault ms) fine in
      both_none (events_reported_at_step t m) _ (step_reports_nothing_bad m t parts.0)
      (steps_report_nothing_bad (m ∷ t) ms parts.1)

  pub first_fault_is_not_bad : (es : List Event) (f : CheckFault) → list_any reports_bad_fault es ≡
      false
      → first_reported_fault es ≡ Some f
      → bad f ≡ false
  first_fault_is_not_bad [] f fine e = cc
  first_fault_is_not_bad (Reported x ∷ es) f fine e = grind (arith, nat_tests, or_parts, same_Some)
  first_fault_is_not_bad (x ∷ es) f fine e = grind
      (arith, nat_tests, (first_fault_is_not_bad es f fine e))
