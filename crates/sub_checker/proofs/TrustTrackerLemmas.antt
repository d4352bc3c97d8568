-- The trusted frames that the tracker computes step by step are those of the rules.
use Rattle.std.proofs.lemmas.Bool.Decides.{nat_tests}
use Rattle.std.proofs.Common.{◌≡◌, arith, List, [], ◌∷◌, ◌++◌, refl, sym, ap, ◌∙◌}
use Rattle.std.proofs.Common.{append_assoc, is_some, not, true}
use Rattle.std.specs.List.{list_any}
use Rattle.sub_rules.specs.Trusted.{CheckStep, back_frame_of, invalidated_by, is_emitted}
use Rattle.sub_rules.specs.Trusted.{last_packet_frame}
use Rattle.sub_rules.specs.Trusted.{late_run_start}
use Rattle.sub_rules.specs.Trusted.{current_pes, run_of, first_unfinished_of, stays_fault_free}
use Rattle.sub_rules.specs.Trusted.{reports_order_fault, events_reported_after}
use Rattle.sub_rules.specs.Trusted.{events_reported_at_step, first_finished_of}
use Rattle.sub_rules.specs.Trusted.CheckStep.{Closes, Emits}
use Rattle.sub_rules.specs.declared.event.Event.{Event}
use Rattle.sub_rules.specs.declared.event.Event.TheVariants.{Reported}
use Rattle.sub_checker.specs.TrustTracker.{after_step, invalidated, is_order_fault}
use Rattle.sub_checker.specs.TrustTracker.{overdue_run_start}
use Rattle.sub_checker.specs.TrustTracker.{new_tracker}
use Rattle.sub_checker.specs.TrustTracker.{events_of_steps, events_of_step, tracker_after}
use Rattle.sub_checker.specs.declared.trust_tracker.TrustTracker.{TrustTracker}

pub tracker_after-append : (t : TrustTracker) (xs ys : List CheckStep)
    → tracker_after t (xs ++ ys) ≡ tracker_after (tracker_after t xs) ys
unfolding tracker_after
tracker_after-append t [] ys = refl
tracker_after-append t (x ∷ xs) ys = tracker_after-append (after_step x t) xs ys

pub events_of_steps-append : (t : TrustTracker) (xs ys : List CheckStep)
    → events_of_steps t (xs ++ ys) ≡ events_of_steps t xs ++ events_of_steps (tracker_after t xs) ys
unfolding events_of_steps tracker_after
events_of_steps-append t [] ys = refl
events_of_steps-append t (x ∷ xs) ys =
    ap (λ (l : List Event). events_of_step x t ++ l) (events_of_steps-append (after_step x t) xs ys)
    ∙ sym (append_assoc (events_of_step x t) _ _)

record TrackerMatches (past : List CheckStep) (t : TrustTracker) : Type 0 where
  pes_eq : t.pes ≡ current_pes past
  last_is : t.last ≡ last_packet_frame past
  rising_flag_is_exact : t.rises ≡ not (list_any reports_order_fault past)
  clean_flags_agree : t.is_clean ≡ stays_fault_free past
  first_unfinished_eq : t.first_unfinished ≡ first_unfinished_of past
  late_eq : overdue_run_start t ≡ late_run_start past
  back_frames_agree : t.back ≡ back_frame_of past
  reports_agree : t.reported ≡ list_any is_emitted past
  run_start_is_exact : t.run ≡ run_of past
  first_finished_frame_is_exact : is_some t.run ≡ true → t.first_finished ≡ first_finished_of past

order_fault_test_is_exact : (e : Event) → reports_order_fault (Emits e) ≡ is_order_fault e
unfolding reports_order_fault is_order_fault
order_fault_test_is_exact e = grind (arith, nat_tests)

invalidated_frame_is_exact : (past : List CheckStep) (e : Event)
    → invalidated_by past e ≡ invalidated (last_packet_frame past) (late_run_start past) e
unfolding invalidated_by invalidated
invalidated_frame_is_exact past (Reported f) = refl
invalidated_frame_is_exact past e = refl

starts : TrackerMatches [] new_tracker
unfolding current_pes last_packet_frame stays_fault_free first_unfinished_of late_run_start
    back_frame_of run_of
starts = grind (arith, nat_tests)

keeps : (m : CheckStep) (past : List CheckStep) (t : TrustTracker) → TrackerMatches past t
    → TrackerMatches (m ∷ past) (after_step m t)
unfolding after_step current_pes last_packet_frame stays_fault_free first_unfinished_of
    late_run_start
    back_frame_of
    run_of first_finished_of
    reports_order_fault
keeps m past t k = grind (arith, nat_tests, invalidated_frame_is_exact, order_fault_test_is_exact)

tracker_reports_expected_events : (m : CheckStep) (past : List CheckStep) (t : TrustTracker) →
    TrackerMatches past t
    → events_reported_at_step past m ≡ events_of_step m t
unfolding events_reported_at_step events_of_step
tracker_reports_expected_events (Emits e) past t k = let now = invalidated_frame_is_exact past e
    in grind (arith, nat_tests)
tracker_reports_expected_events (Closes are_left more) past t k = grind (arith, nat_tests)
tracker_reports_expected_events m past t k = refl

tracker_reports_all_expected_events : (ms past : List CheckStep) (t : TrustTracker) → TrackerMatches
    past t → events_reported_after past ms
    ≡ events_of_steps t ms
unfolding events_reported_after events_of_steps
tracker_reports_all_expected_events [] past t k = refl
tracker_reports_all_expected_events (m ∷ ms) past t k =
    rw (
      tracker_reports_expected_events m past t k,
      tracker_reports_all_expected_events ms
          (m ∷ past) (after_step m t) (keeps m past t k),
    ) refl

pub reports_agree : (ms : List CheckStep) → events_reported_after [] ms ≡ events_of_steps
    new_tracker ms
reports_agree ms = tracker_reports_all_expected_events ms [] new_tracker starts
