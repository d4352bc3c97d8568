-- After the steps of all PES packets, each range of frames that could be trusted was reported as
-- trusted from a header that erases the page on, or can still be reported at the end of the file.
use Rattle.std.proofs.Common.{◌≡◌, ℕ, ◌+◌, ◌-◌, ◌<◌, ◌≤◌, ◌⊎◌, inl, inr, List, [], ◌∷◌, ◌++◌}
use Rattle.std.proofs.Common.{length, refl, sym, subst, arith, append-nil}
use Rattle.sub_rules.specs.FrameRules.{Criteria, end_frame, frame_at, packets_of_frame}
use Rattle.sub_rules.specs.PesPacketEvents.{steps_of_each, steps_of_pending_end}
use Rattle.sub_rules.specs.PesPackets.{PesPacket, frames_of, joined_after}
use Rattle.sub_rules.specs.Transmission.{Transmission}
use Rattle.sub_rules.specs.Trusted.CheckStep.{AtPes}
use Rattle.sub_trusted.proofs.TrackerStateLemmas.{ended_frames_ignore_packet_number}
use Rattle.sub_trusted.proofs.TrackerStateLemmas.{begun_frame_ignores_packet_number}
use Rattle.sub_trusted.proofs.AllTrustedStretchLemmas.{Fits}
use Rattle.sub_laws.proofs.GrowingFrameLemmas.{end_eq, long, growing_never_gets_shorter}
use Rattle.sub_laws.proofs.PesPacketWalkLemmas.{EachSkippedPacket, Sends, Steps, each_pes_packet}
use Rattle.sub_laws.proofs.PesPacketWalkLemmas.{pending_end_reaches_closed_state}
use Rattle.sub_trusted.proofs.AllTrustedLeadLemmas.{LeadsToReportOfRun, LeadsToReportOfRun-append}
use Rattle.sub_trusted.proofs.AllTrustedLeadLemmas.{LeadsToReportOfRun-cons, LeadsToReportOfRun-nil}
use Rattle.sub_trusted.proofs.EmittedStepLemmas.{steps_with_packet_number}
use Rattle.sub_trusted.proofs.AllTrustedEndingLemmas.{ending_steps_lead_to_next_frame}
use Rattle.sub_trusted.proofs.AllTrustedKeptLemmas.{FollowsRange, top}
use Rattle.sub_trusted.proofs.AllTrustedStepLemmas.{FollowsInOpenFrame, FollowsAfterFrameEnds}
use Rattle.sub_trusted.proofs.AllTrustedStepLemmas.{arrival_steps_lead_to_open_frame}
use Rattle.sub_trusted.proofs.AllTrustedStepLemmas.{more_packets_lead_to_open_frame}
use Rattle.sub_trusted.proofs.AllTrustedStepLemmas.{skipped_packet_leads_to_open_frame}
use Rattle.sub_trusted.proofs.AllTrustedStepLemmas.{skipped_packet_leads_to_next_frame}
use Rattle.sub_trusted.proofs.TrustedFrameLemmas.{rising_frame_count}
use Rattle.sub_rules.specs.Trusted.{CheckStep, back_frame_of, last_packet_frame, late_run_start}
use Rattle.sub_rules.specs.Trusted.{run_of}
use Rattle.sub_rules.specs.Trusted.{first_unfinished_of}
use Rattle.sub_rules.specs.Trusted.{stays_fault_free, reports_order_fault, first_finished_of}
use Rattle.std.proofs.lemmas.Bool.Decides.{nat_tests}

module _ (g : Criteria) (frames : Transmission) (a b i : ℕ)
    (fits : Fits g frames a b i) where
  abbrev LeadsToReport : (List CheckStep → Type 0) → List CheckStep → List CheckStep → Type 0
  LeadsToReport S t ms = LeadsToReportOfRun (top g frames a b i fits) b S t ms

  abbrev pub FollowsAfterFrames : ℕ → List CheckStep → Type 0
  FollowsAfterFrames n t = FollowsAfterFrameEnds g frames a b i fits n t

  abbrev HasReceivedPackets : ℕ → List (List ℕ) → List CheckStep → Type 0
  HasReceivedPackets n packets t = FollowsInOpenFrame g frames a b i fits n packets t

  -- If some frames (`sent`) were sent before a skipped PES packet, and no number of these frames is
  -- out of order, the last of them is before frame a or after frame b.
  abbrev pub IsOutsideStretch : Transmission → Type 0
  IsOutsideStretch sent =
      0 < length sent
      → length sent ≤ rising_frame_count frames
      → (end_frame sent < a) ⊎ (b < end_frame sent)

  following_ignores_packet_number : (n p pes : ℕ) (t : List CheckStep) → FollowsRange g frames a b i
      fits n p t
      → FollowsRange g frames a b i fits n p (AtPes pes ∷ t)
  unfolding run_of first_finished_of first_unfinished_of back_frame_of reports_order_fault
  following_ignores_packet_number n p pes t follows = grind (arith, nat_tests)

  position_ignores_packet_number : (n pes : ℕ) (t : List CheckStep) → FollowsAfterFrames n t →
      FollowsAfterFrames n (AtPes pes ∷ t)
  position_ignores_packet_number n pes t (closed, follows) =
      let p : ℕ = frame_at frames (n - 1) + 1 in (
        ended_frames_ignore_packet_number g frames 0 n pes t closed,
        following_ignores_packet_number
            n p pes t follows,
      )

  open_frame_ignores_packet_number : (n pes : ℕ) (packets : List (List ℕ)) (t : List CheckStep) →
      HasReceivedPackets n packets t
      → HasReceivedPackets n packets (AtPes pes ∷ t)
  unfolding stays_fault_free back_frame_of
  open_frame_ignores_packet_number n pes packets t (opens, sending) = (
    begun_frame_ignores_packet_number g frames 0 n pes packets t opens,
    record {
      follows = following_ignores_packet_number n (frame_at frames n) pes t sending.follows;
      clean = sending.clean;
      back = sending.back;
    },
  )

  steps :
      Steps (List CheckStep) steps_with_packet_number g frames
      (LeadsToReportOfRun (top g frames a b i fits) b) FollowsAfterFrames HasReceivedPackets
      IsOutsideStretch
  steps = record {
    at_ended = position_ignores_packet_number;
    at_open = open_frame_ignores_packet_number;
    arrival = arrival_steps_lead_to_open_frame g frames a b i fits;
    more = more_packets_lead_to_open_frame g frames a b i fits;
    ending = ending_steps_lead_to_next_frame g frames a b i fits;
    skipped_packet_reports_good_stretches = λ sent pes u t is all_skipped_packets_are_outside past.
        skipped_packet_leads_to_next_frame g frames a b i fits (length sent) pes u t
        (growing_never_gets_shorter sent frames is)
        (λ some few.
        subst (λ (f : ℕ). (f < a) ⊎ (b < f))
        (end_eq g sent frames is (length sent - 1) (omega arith)) (all_skipped_packets_are_outside
        some few)) past;
    skipped_open = λ sent n pes u t is size all_skipped_packets_are_outside open_here.
        skipped_packet_leads_to_open_frame g frames a b i fits n pes (packets_of_frame sent n) u t
        (long g sent frames is n size)
        (λ in_it.
        subst (λ (f : ℕ). (f < a) ⊎ (b < f)) (end_eq g sent frames is n size)
        (all_skipped_packets_are_outside (omega arith) (omega arith))) open_here;
  }

  starts : FollowsAfterFrames 0 []
  unfolding run_of first_finished_of last_packet_frame first_unfinished_of late_run_start
      back_frame_of
      stays_fault_free
  starts = grind (arith, nat_tests)

  pub packet_steps_lead_to_report : (pes_packets : List PesPacket)
      → joined_after g.within [] (frames_of pes_packets) ≡ frames
      → EachSkippedPacket g.within IsOutsideStretch [] pes_packets
      → LeadsToReport (FollowsAfterFrames (length frames)) []
      (steps_of_each g [] 0 pes_packets ++ steps_of_pending_end g frames)
  packet_steps_lead_to_report pes_packets all all_skipped_packets_are_outside =
      let T : (List CheckStep → Type 0) → List CheckStep → List CheckStep → Type 0 =
      LeadsToReportOfRun (top g frames a b i fits) b in
      LeadsToReportOfRun-append (top g frames a b i fits) b
      (Sends (List CheckStep) steps_with_packet_number g frames T FollowsAfterFrames
      HasReceivedPackets IsOutsideStretch frames)
      (FollowsAfterFrames (length frames))
      [] (steps_of_each g [] 0 pes_packets) (steps_of_pending_end g frames)
      (each_pes_packet (List CheckStep) steps_with_packet_number g frames T FollowsAfterFrames
      HasReceivedPackets IsOutsideStretch
      (LeadsToReportOfRun-nil (top g frames a b i fits) b) with_pes_number
      (LeadsToReportOfRun-append (top g frames a b i fits) b)
      steps [] 0 [] pes_packets all all_skipped_packets_are_outside (inl (inr refl, starts)))
      (λ u so.
      pending_end_reaches_closed_state (List CheckStep) steps_with_packet_number g frames T
      FollowsAfterFrames HasReceivedPackets IsOutsideStretch
      (LeadsToReportOfRun-nil (top g frames a b i fits) b) with_pes_number
      (LeadsToReportOfRun-append (top g frames a b i fits) b)
      steps frames [] u (sym (append-nil frames)) so)
    where
      with_pes_number : (S : List CheckStep → Type 0) (t : List CheckStep) (pes : ℕ)
          (ms : List CheckStep)
          → LeadsToReport S (steps_with_packet_number pes t) ms
          → LeadsToReport S t (AtPes pes ∷ ms)
      with_pes_number S t pes ms rest = LeadsToReportOfRun-cons (top g frames a b i fits) b S t
          (AtPes pes) ms rest
