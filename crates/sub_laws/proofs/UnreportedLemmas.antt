-- A PES file has no fault if and only if no PES packet is skipped and its frames have no fault. If
-- all subtitles are reliable, the same holds for events.
use Rattle.std.proofs.lemmas.Bool.Decides.{nat_tests}
use Rattle.std.proofs.Common.{◌≡◌, ◌↔◌, ℕ, suc, Bool, true, false, not, ◌||◌, List, [], ◌∷◌, ◌++◌}
use Rattle.std.proofs.Common.{length}
use Rattle.std.proofs.Common.{map, Option, None, refl, sym, ap, ◌∙◌, arith}
use Rattle.std.proofs.lemmas.Bool.{true≢false}
use Rattle.std.specs.List.{list_any}
use Rattle.std.specs.Option.{option_or}
use Rattle.sub_rules.specs.Events.{end_events, first_header_events, first_reported_fault}
use Rattle.sub_rules.specs.Events.{order_events}
use Rattle.sub_rules.specs.FrameRules.{Criteria}
use Rattle.sub_rules.specs.PesPacketEvents.{announced_events, all_events_of_pes_packets, announced}
use Rattle.sub_rules.specs.PesPacketEvents.{closing_events_of_pes_packets}
use Rattle.sub_rules.specs.PesPacketEvents.{run_ending_events, continues_skipped_run, no_run}
use Rattle.sub_rules.specs.PesPacketEvents.{skipped_run_after_events}
use Rattle.sub_rules.specs.PesPacketEvents.{sent_by_pes_packets}
use Rattle.sub_rules.specs.PesPacketEvents.{steps_of_closing, steps_of_each, steps_of_pes_packets}
use Rattle.sub_rules.specs.PesPacketEvents.{steps_of_sent, steps_of_pending_end}
use Rattle.sub_rules.specs.PesPacketEvents.{ungrouped_events_of_pes_packets}
use Rattle.sub_rules.specs.PesPackets.{PesPacket, frames_of, sent_after}
use Rattle.sub_rules.specs.PesPackets.PesPacket.{Skipped, Sent}
use Rattle.sub_rules.specs.Transmission.{Transmission}
use Rattle.sub_rules.specs.Trusted.CheckStep.{AtPes, Closes, Emits}
use Rattle.sub_rules.specs.declared.event.Event.{Event}
use Rattle.sub_rules.specs.declared.event.Event.TheVariants.{Reported}
use Rattle.sub_rules.specs.declared.fault.CheckFault.{CheckFault}
use Rattle.sub_laws.proofs.StepTestLemmas.{SkippedPacketsMatchNothing, NoStepMatches}
use Rattle.sub_laws.proofs.StepTestLemmas.{steps_before_closing_match_nothing}
use Rattle.sub_rules.proofs.StepEventLemmas.{first_fault_of_append, events_emitted_from_packet}
use Rattle.sub_rules.proofs.StepEventLemmas.{reported_and_emitted_faults_agree}
use Rattle.sub_rules.proofs.PesPacketEventLemmas.{announced_events_keep_first_fault}
use Rattle.sub_rules.proofs.TrustedLemmas.{history_after, events_reported_after-append}
use Rattle.sub_laws.proofs.EmittedLemmas.{all_steps_emit_all_events, emitted_events}
use Rattle.sub_laws.proofs.EmittedLemmas.{emitted_events-append}
use Rattle.sub_laws.proofs.EmittedLemmas.{emitted_events-emits}
use Rattle.sub_rules.specs.Trusted.{CheckStep, with_pes_number, invalidated_by, is_emitted, run_of}
use Rattle.sub_rules.specs.Trusted.{reports_no_event}
use Rattle.sub_rules.specs.Trusted.{events_reported_after, events_reported_at_step, trusted_up_to}
use Rattle.sub_rules.proofs.FrameEvents.{events}

both_none : (a b : Option CheckFault) → (option_or a b ≡ None) ↔ ((a ≡ None) × (b ≡ None))
both_none a b = grind (arith, nat_tests)

appending_reports_no_fault : (xs ys : List Event)
    → (first_reported_fault (xs ++ ys) ≡ None) ↔
    ((first_reported_fault xs ≡ None) × (first_reported_fault ys ≡ None))
appending_reports_no_fault xs ys = grind (arith, nat_tests, first_fault_of_append, both_none)

-- The events of a list of steps have a fault if and only if they have one after their PES packet
-- numbers are set.
emitted_faults_agree : (pes : ℕ) (ms : List CheckStep)
    → (first_reported_fault (events_emitted_from_packet pes ms) ≡ None) ↔
    (first_reported_fault (emitted_events ms) ≡ None)
unfolding with_pes_number
emitted_faults_agree pes [] = (λ e. e, λ e. e)
emitted_faults_agree pes (Emits (Reported f) ∷ ms) = (λ e. cc, λ e. cc)
emitted_faults_agree pes (Emits e ∷ ms) = emitted_faults_agree pes ms
emitted_faults_agree pes (AtPes next ∷ ms) = emitted_faults_agree next ms
emitted_faults_agree pes (m ∷ ms) = emitted_faults_agree pes ms

pub reported_and_emitted_have_no_fault : (t ms : List CheckStep)
    → (first_reported_fault (events_reported_after t ms) ≡ None) ↔
    (first_reported_fault (emitted_events ms) ≡ None)
reported_and_emitted_have_no_fault t ms = grind
    (arith, nat_tests, reported_and_emitted_faults_agree, emitted_faults_agree)

append_empty : (xs ys : List Event) → xs ++ ys ≡ [] → (xs ≡ []) × (ys ≡ [])
append_empty [] ys e = (refl, e)
append_empty (x ∷ xs) ys e = cc

append_with_event_is_not_empty : (xs ys : List Event) (e : Event) → xs ++ e ∷ [] ++ ys ≡ [] → ⊥
append_with_event_is_not_empty [] ys e none = cc
append_with_event_is_not_empty (x ∷ xs) ys e none = cc

nothing_reported_means_nothing_emitted : (t ms : List CheckStep) → events_reported_after t ms ≡ [] →
    emitted_events ms ≡ []
unfolding events_reported_after events_reported_at_step
nothing_reported_means_nothing_emitted t [] e = refl
nothing_reported_means_nothing_emitted t (Emits x ∷ ms) e = absurd (append_with_event_is_not_empty
    (trusted_up_to t (invalidated_by t x)) _ _ e)
nothing_reported_means_nothing_emitted t (Closes are_left more ∷ ms) e =
    nothing_reported_means_nothing_emitted (Closes are_left more ∷ t) ms (append_empty _ _ e).1
nothing_reported_means_nothing_emitted t (m ∷ ms) e = nothing_reported_means_nothing_emitted (m ∷ t)
    ms e

abbrev is_closing_step : CheckStep → Bool
is_closing_step (Closes are_left more) = true
is_closing_step m = false

empty_steps_report_nothing : (t ms : List CheckStep) → list_any is_emitted t ≡ false
    → list_any is_closing_step ms ≡ false
    → emitted_events ms ≡ []
    → (events_reported_after t ms ≡ []) × (list_any is_emitted (history_after t ms) ≡ false)
unfolding events_reported_after events_reported_at_step history_after
empty_steps_report_nothing t [] reported still none = (refl, reported)
empty_steps_report_nothing t (Emits x ∷ ms) reported still none = cc
empty_steps_report_nothing t (Closes are_left more ∷ ms) reported still none = cc
empty_steps_report_nothing t (m ∷ ms) reported still none = empty_steps_report_nothing (m ∷ t) ms
    reported still none

-- If the file does not end in the steps `ms`, and neither they nor the steps `t` before them emit
-- an event, no event is reported for `ms`.
pub silent : (t ms : List CheckStep) → list_any is_closing_step ms ≡ false
    → list_any is_emitted (history_after t ms) ≡ false
    → (list_any is_emitted t ≡ false) × (events_reported_after t ms ≡ [])
unfolding events_reported_after events_reported_at_step history_after
silent t [] still none = (none, refl)
silent t (Emits x ∷ ms) still none =
    absurd (true≢false (silent (Emits x ∷ t) ms still none).0)
silent t (Closes are_left more ∷ ms) still none = cc
silent t (m ∷ ms) still none = silent (m ∷ t) ms still none

empty_closing_reports_nothing : (t : List CheckStep) (pes : ℕ) (are_left any_unreliable : Bool)
    (es : List Event)
    → any_unreliable ≡ false
    → es ≡ []
    → list_any is_emitted t ≡ false
    → events_reported_after t
    (AtPes pes ∷ Closes are_left (any_unreliable || not (reports_no_event es)) ∷ map
    Emits es)
    ≡ []
unfolding events_reported_after events_reported_at_step run_of
empty_closing_reports_nothing t pes are_left any_unreliable [] alone none reported = rw
    (alone, reported) refl
empty_closing_reports_nothing t pes are_left any_unreliable (e ∷ es) alone none reported = cc

module _ (g : Criteria) where
  pub steps_before_closing_do_not_close : (pes_packets : List PesPacket)
      → NoStepMatches is_closing_step
      (steps_of_each g [] 0 pes_packets ++ steps_of_pending_end g
      (sent_by_pes_packets g pes_packets))
  steps_before_closing_do_not_close pes_packets =
      steps_before_closing_match_nothing is_closing_step g (record {
        with_pes_number = λ n. refl;
        begins = λ f. refl;
        at_end = λ f first_unfinished late. refl;
        going_back_matches_nothing = λ first_unfinished. refl;
        ends = λ f has_beginning none. refl;
        of_end = λ old before new f. events_never_close (end_events old before new f);
        of_rule = λ r frame k. refl;
        order_events_match_nothing = λ frames k. events_never_close (order_events g frames k);
        header_events_match_nothing = λ frames k. events_never_close (first_header_events g frames
            k);
      }) pes_packets (λ pes. skipped_packets_never_close pes_packets pes)
    where
      events_never_close : (es : List Event) → list_any (λ e. is_closing_step (Emits e)) es ≡ false
      events_never_close [] = refl
      events_never_close (e ∷ es) = events_never_close es

      skipped_packets_never_close : (pes_packets : List PesPacket) (pes : ℕ) →
          SkippedPacketsMatchNothing is_closing_step pes pes_packets
      skipped_packets_never_close [] pes = tt
      skipped_packets_never_close (Sent s ∷ pes_packets) pes = skipped_packets_never_close
          pes_packets (suc pes)
      skipped_packets_never_close (Skipped u ∷ pes_packets) pes = (
        refl,
        skipped_packets_never_close
            pes_packets (suc pes),
      )

  emitted_events_are_two_parts : (pes_packets : List PesPacket)
      → emitted_events (steps_of_pes_packets g pes_packets)
      ≡ emitted_events (steps_of_each g [] 0 pes_packets ++ steps_of_pending_end g
      (sent_by_pes_packets g pes_packets))
      ++ closing_events_of_pes_packets g (sent_by_pes_packets g pes_packets) (length pes_packets)
      (length (sent_by_pes_packets g pes_packets))
  emitted_events_are_two_parts pes_packets = grind (
    arith,
    nat_tests,
    emitted_events-append,
    emitted_events,
    emitted_events-emits,
  )

  reported_none : (pes_packets : List PesPacket) → g.any_unreliable ≡ false
      → (ungrouped_events_of_pes_packets g pes_packets ≡ []) ↔
      (emitted_events (steps_of_pes_packets g pes_packets)
      ≡ [])
  unfolding ungrouped_events_of_pes_packets
  reported_none pes_packets alone = (
    nothing_reported_means_nothing_emitted [] (steps_of_pes_packets g pes_packets),
    fault_free,
  )
    where
      fault_free : emitted_events (steps_of_pes_packets g pes_packets) ≡ []
          → events_reported_after [] (steps_of_pes_packets g pes_packets) ≡ []
      fault_free none =
          let frames = sent_by_pes_packets g pes_packets in
          let before = steps_of_each g [] 0 pes_packets ++ steps_of_pending_end g frames in
          let closing = closing_events_of_pes_packets g frames (length pes_packets) (length frames)
          in
          let parts = append_empty (emitted_events before) closing
          (sym (emitted_events_are_two_parts pes_packets) ∙ none)
          in
          let so_far =
          empty_steps_report_nothing [] before refl
          (steps_before_closing_do_not_close pes_packets).none parts.0 in
          events_reported_after-append [] before
          (steps_of_closing g frames (length pes_packets) (length frames))
          ∙ rw so_far.0
          (empty_closing_reports_nothing (history_after [] before) (length pes_packets)
          _ g.any_unreliable closing
          alone parts.1
          so_far.1)

single_event_is_announced : (e : Event) → announced no_run e ≡ e ∷ []
unfolding announced continues_skipped_run
single_event_is_announced (Reported f) = refl
single_event_is_announced e = refl

announcing_nothing_means_no_event : (es : List Event)
    → (announced_events no_run es ++ run_ending_events (skipped_run_after_events no_run es) ≡ []) ↔
    (es ≡ [])
unfolding announced_events skipped_run_after_events
announcing_nothing_means_no_event [] = grind (arith, nat_tests)
announcing_nothing_means_no_event (e ∷ es) = grind
    (arith, nat_tests, append_empty, single_event_is_announced)

module _ (g : Criteria) where
  pub each_sent : (sent : Transmission) (pes : ℕ) (pes_packets : List PesPacket)
      → first_reported_fault (emitted_events (steps_of_each g sent pes pes_packets)) ≡ None
      → length (frames_of pes_packets) ≡ length pes_packets
  unfolding steps_of_each frames_of
  each_sent sent pes [] none = refl
  each_sent sent pes (Sent s ∷ pes_packets) none =
      let parts =
      (appending_reports_no_fault (emitted_events (steps_of_sent g sent pes s)) _).0
      (ap first_reported_fault (sym (emitted_events-append (steps_of_sent g sent pes s) _)) ∙ none)
      in
      ap suc (each_sent (sent_after g.within sent s) (suc pes) pes_packets parts.1)
  each_sent sent pes (Skipped u ∷ pes_packets) none = cc

  unfaulted_packets_are_all_sent : (pes_packets : List PesPacket) → first_reported_fault
      (emitted_events (steps_of_pes_packets g pes_packets)) ≡ None
      → length (frames_of pes_packets) ≡ length pes_packets
  unfaulted_packets_are_all_sent pes_packets none =
      grind (
        arith,
        nat_tests,
        appending_reports_no_fault,
        emitted_events,
        emitted_events_are_two_parts,
        emitted_events-append,
        each_sent,
      )

  -- If all subtitles are reliable, PES packets have no events if and only if none is skipped and
  -- their frames have no events.
  pub no_event_means_all_sent : (pes_packets : List PesPacket) → g.any_unreliable ≡ false
      → (all_events_of_pes_packets g pes_packets ≡ [])
      ↔ ((length (frames_of pes_packets) ≡ length pes_packets) ×
      (events g (sent_by_pes_packets g pes_packets) ≡ []))
  unfolding all_events_of_pes_packets
  no_event_means_all_sent pes_packets alone =
      grind (
        arith,
        nat_tests,
        reported_none,
        announcing_nothing_means_no_event,
        unfaulted_packets_are_all_sent,
        all_steps_emit_all_events,
      )

  -- PES packets have no fault if and only if none is skipped and their frames have no fault.
  pub no_fault_means_all_sent : (pes_packets : List PesPacket)
      → (first_reported_fault (all_events_of_pes_packets g pes_packets) ≡ None)
      ↔ ((length (frames_of pes_packets) ≡ length pes_packets)
      × (first_reported_fault (events g (sent_by_pes_packets g pes_packets)) ≡ None))
  unfolding all_events_of_pes_packets ungrouped_events_of_pes_packets
  no_fault_means_all_sent pes_packets = grind (
    arith,
    nat_tests,
    announced_events_keep_first_fault,
    reported_and_emitted_have_no_fault,
    unfaulted_packets_are_all_sent,
    all_steps_emit_all_events,
  )
