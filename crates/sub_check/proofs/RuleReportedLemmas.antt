-- Each fault that is reported for a PES file is a broken rule.
use Rattle.std.proofs.lemmas.Bool.Decides.{nat_tests}
use Rattle.std.proofs.Common.{◌≡◌, ℕ, zero, suc, Bool, true, false, not, List, [], ◌∷◌, length}
use Rattle.std.proofs.Common.{subst, take, map, Option, Some, None, refl, sym, ap, ◌∙◌, arith}
use Rattle.std.proofs.lemmas.List.Folds.{list_any-append}
use Rattle.std.specs.List.{AllByRecursion, list_any}
use Rattle.ttx_pes.specs.declared.fault.PesFault.{PesFault}
use Rattle.stl_rows.specs.Programme.{ProgrammeValue}
use Rattle.sub_plan.specs.FrameTime.{clock_of}
use Rattle.sub_plan.specs.Options.{OptionsValue}
use Rattle.sub_rules.specs.Events.{closing_events, end_events, fault_ending_events}
use Rattle.sub_rules.specs.Events.{first_header_events, first_reported_fault, no_active_faults}
use Rattle.sub_rules.specs.Events.{order_events}
use Rattle.sub_rules.specs.Events.{packet_fault, unread_or_late_events, active_faults_at}
use Rattle.sub_rules.specs.Events.{unread_fault}
use Rattle.sub_rules.specs.Fault.{fault_with_pes_number}
use Rattle.sub_rules.specs.FrameRules.{Criteria, UnreadReason, criteria_of, end_frame}
use Rattle.sub_rules.specs.FrameRules.UnreadReason.{BadPacket, NoFrame}
use Rattle.sub_rules.specs.PesPacketEvents.{all_events_of_pes_packets}
use Rattle.sub_rules.specs.PesPacketEvents.{closing_events_of_pes_packets}
use Rattle.sub_rules.specs.PesPacketEvents.{sent_by_pes_packets}
use Rattle.sub_rules.specs.PesPacketEvents.{steps_of_each, steps_of_pes_packets}
use Rattle.sub_rules.specs.PesPacketEvents.{ungrouped_events_of_pes_packets}
use Rattle.sub_rules.specs.PesPacketEvents.{unread_fault_events}
use Rattle.sub_rules.specs.PesPackets.{PesPacket, PesPacketFileValue, pes_packet_file_of}
use Rattle.sub_rules.specs.PesPackets.PesPacket.{Skipped, Sent}
use Rattle.sub_rules.specs.Transmission.{Transmission}
use Rattle.sub_rules.specs.Trusted.CheckStep.{AtPes, Closes, Emits}
use Rattle.sub_rules.specs.declared.event.Event.{Event}
use Rattle.sub_rules.specs.declared.event.Event.TheVariants.{Reported}
use Rattle.sub_rules.specs.declared.fault.CheckFault.{CheckFault}
use Rattle.sub_rules.specs.declared.packet_rule.PacketRule.{PacketRule}
use Rattle.sub_rules.proofs.EndRuleLemmas.{end_events_fail_test}
use Rattle.sub_rules.proofs.PesPacketEventLemmas.{announced_events_keep_first_fault}
use Rattle.sub_rules.proofs.PesPacketEventLemmas.{announcing_keeps_first_fault}
use Rattle.sub_laws.proofs.StepTestLemmas.{FrameStepsMatchNothing, SkippedPacketsMatchNothing}
use Rattle.sub_laws.proofs.StepTestLemmas.{NoStepMatches, steps_before_closing_match_nothing}
use Rattle.sub_laws.proofs.StepTestLemmas.{appended_steps_match_nothing}
use Rattle.sub_laws.proofs.StepTestLemmas.{each_passes, first_fault_is_not_bad, emits_bad_fault}
use Rattle.sub_laws.proofs.StepTestLemmas.{emitted_events_match_nothing}
use Rattle.sub_laws.proofs.StepTestLemmas.{reports_bad_fault}
use Rattle.sub_laws.proofs.StepTestLemmas.{steps_report_nothing_bad}
use Rattle.sub_laws.proofs.ReadFileLemmas.{ArePesPacketsSound, IsCausedByBytes, IsSoundPesPacket}
use Rattle.sub_laws.proofs.ReadFileLemmas.{file_pes_packets_sound}
use Rattle.sub_check.specs.CheckedFiles.{all_events_of, events_of_first_pes_packets}
use Rattle.sub_check.specs.FirstReported.{is_pes_file_fault}
use Rattle.sub_rules.specs.PesPacketEvents.{events_of_pes_packets}
use Rattle.sub_rules.specs.Trusted.{events_reported_after}
use Rattle.sub_rules.specs.declared.active_faults.ActiveFaults.{ActiveFaults}

abbrev is_not_rule_fault : CheckFault → Bool
is_not_rule_fault f = not (is_pes_file_fault f)

placing_keeps_rule_fault : (pes : ℕ) (f : CheckFault) → is_not_rule_fault f ≡ false →
    is_not_rule_fault (fault_with_pes_number pes f) ≡ false
placing_keeps_rule_fault pes f own = grind (arith, nat_tests)

abbrev is_not_rule_event : Event → Bool
is_not_rule_event e = reports_bad_fault is_not_rule_fault placing_keeps_rule_fault e

end_events_are_rule_faults : (old : ActiveFaults) (before : ℕ) (new : ActiveFaults) (f : ℕ)
    → list_any is_not_rule_event (end_events old before new f) ≡ false
end_events_are_rule_faults old before new f =
    end_events_fail_test is_not_rule_event (λ rule f cell. grind arith) (λ rule f. refl) old before
    new f

packet_rule_is_rule_fault : (r : PacketRule) (frame k : ℕ) → is_not_rule_event
    (Reported (packet_fault r frame k)) ≡ false
packet_rule_is_rule_fault r frame k = grind (arith, nat_tests)

order_events_are_rule_faults : (g : Criteria) (frames : Transmission) (i : ℕ)
    → list_any is_not_rule_event (order_events g frames i) ≡ false
unfolding order_events
order_events_are_rule_faults g frames i = grind (arith, nat_tests)

header_events_are_rule_faults : (g : Criteria) (frames : Transmission) (i : ℕ)
    → list_any is_not_rule_event (first_header_events g frames i) ≡ false
unfolding first_header_events
header_events_are_rule_faults g frames i = grind (arith, nat_tests)

frame_events_are_rule_faults : (g : Criteria) → FrameStepsMatchNothing
    (emits_bad_fault is_not_rule_fault placing_keeps_rule_fault) g
frame_events_are_rule_faults g = record {
  with_pes_number = λ n. refl;
  begins = λ f. refl;
  at_end = λ f first_unfinished late. refl;
  going_back_matches_nothing = λ first_unfinished. refl;
  ends = λ f has_beginning none. refl;
  of_end = end_events_are_rule_faults;
  of_rule = packet_rule_is_rule_fault;
  order_events_match_nothing = order_events_are_rule_faults g;
  header_events_match_nothing = header_events_are_rule_faults g;
}

unread_events_are_rule_faults : (pes : ℕ) (u : UnreadReason) → ((f : PesFault) → u ≡ BadPacket f →
    IsCausedByBytes f)
    → is_not_rule_event (Reported (unread_fault pes (Some u))) ≡ false
unread_events_are_rule_faults pes (BadPacket f) own =
    let fine = own f refl in
    let source = fine.no_source in
    let sink = fine.no_sink in
    grind (arith, nat_tests)
unread_events_are_rule_faults pes NoFrame own = refl

skipped_packets_are_rule_faults : (pes : ℕ) (pes_packets : List PesPacket) → AllByRecursion
    IsSoundPesPacket pes_packets
    → SkippedPacketsMatchNothing (emits_bad_fault is_not_rule_fault placing_keeps_rule_fault) pes
    pes_packets
skipped_packets_are_rule_faults pes [] sound = tt
skipped_packets_are_rule_faults pes (Sent s ∷ pes_packets) sound = skipped_packets_are_rule_faults
    (suc pes) pes_packets sound.1
skipped_packets_are_rule_faults pes (Skipped (BadPacket f) ∷ pes_packets) sound = (
  unread_events_are_rule_faults pes (BadPacket f) (λ x e. let same : f ≡ x = cc in subst
      IsCausedByBytes same sound.0),
  skipped_packets_are_rule_faults (suc pes) pes_packets sound.1,
)
skipped_packets_are_rule_faults pes (Skipped NoFrame ∷ pes_packets) sound = (
  refl,
  skipped_packets_are_rule_faults (suc pes) pes_packets
      sound.1,
)

first_packets_are_sound : (n : ℕ) (pes_packets : List PesPacket) → AllByRecursion IsSoundPesPacket
    pes_packets
    → AllByRecursion IsSoundPesPacket (take n pes_packets)
first_packets_are_sound zero pes_packets sound = tt
first_packets_are_sound (suc n) [] sound = tt
first_packets_are_sound (suc n) (p ∷ pes_packets) sound = (
  sound.0,
  first_packets_are_sound n
      pes_packets sound.1,
)

module _ (g : Criteria) (left : (f : PesFault) → g.unread ≡ Some (BadPacket f) → IsCausedByBytes f)
  where
    left_bytes_are_rule_fault : (pes : ℕ) (o : Option UnreadReason) → g.unread ≡ o
        → is_not_rule_event (Reported (unread_fault pes o)) ≡ false
    left_bytes_are_rule_fault pes None is = refl
    left_bytes_are_rule_fault pes (Some u) is =
        unread_events_are_rule_faults pes u
        (λ f e. left f (is ∙ ap (λ (x : UnreadReason). Some x) e))

    rest_events_are_rule_faults : (frames : Transmission) (o : Option UnreadReason) → g.unread ≡ o
        → list_any is_not_rule_event (unread_or_late_events g frames o) ≡ false
    rest_events_are_rule_faults frames None is = grind (arith, nat_tests)
    rest_events_are_rule_faults frames (Some u) is = rw (left_bytes_are_rule_fault (length frames)
        (Some u) is) refl

    closing_events_are_rule_faults : (frames : Transmission) (n : ℕ)
        → list_any is_not_rule_event (closing_events g frames n) ≡ false
    unfolding closing_events
    closing_events_are_rule_faults frames zero = rw (left_bytes_are_rule_fault 0 g.unread refl) refl
    closing_events_are_rule_faults frames (suc n) =
        let last = active_faults_at g frames (suc n) (end_frame frames) in
        list_any-append is_not_rule_event (fault_ending_events last (end_frame frames))
        (unread_or_late_events g frames g.unread)
        ∙ rw (
          end_events_are_rule_faults last (end_frame frames) no_active_faults (end_frame frames),
          rest_events_are_rule_faults frames g.unread refl,
        ) refl

    reported_unread_is_rule_fault : (pes : ℕ) (o : Option UnreadReason) → g.unread ≡ o
        → list_any is_not_rule_event (unread_fault_events pes o) ≡ false
    reported_unread_is_rule_fault pes None is = refl
    reported_unread_is_rule_fault pes (Some u) is = rw (left_bytes_are_rule_fault pes (Some u) is)
        refl

    all_closing_are_rule_faults : (frames : Transmission) (pes n : ℕ)
        → list_any is_not_rule_event (closing_events_of_pes_packets g frames pes n) ≡ false
    unfolding closing_events_of_pes_packets
    all_closing_are_rule_faults frames zero zero = closing_events_are_rule_faults frames 0
    all_closing_are_rule_faults frames zero (suc n) = closing_events_are_rule_faults frames (suc n)
    all_closing_are_rule_faults frames (suc pes) zero = reported_unread_is_rule_fault (suc pes)
        g.unread refl
    all_closing_are_rule_faults frames (suc pes) (suc n) = closing_events_are_rule_faults frames
        (suc n)

    packet_events_are_rule_faults : (pes_packets : List PesPacket) → AllByRecursion IsSoundPesPacket
        pes_packets
        → list_any is_not_rule_event (ungrouped_events_of_pes_packets g pes_packets) ≡ false
    unfolding ungrouped_events_of_pes_packets
    packet_events_are_rule_faults pes_packets sound =
        let frames = sent_by_pes_packets g pes_packets in
        let closing = closing_events_of_pes_packets g frames (length pes_packets) (length frames) in
        steps_report_nothing_bad is_not_rule_fault placing_keeps_rule_fault []
        (steps_of_pes_packets g pes_packets)
        (appended_steps_match_nothing (emits_bad_fault is_not_rule_fault placing_keeps_rule_fault)
        (steps_before_closing_match_nothing
        (emits_bad_fault is_not_rule_fault placing_keeps_rule_fault) g
        (frame_events_are_rule_faults g) pes_packets
        (λ pes. skipped_packets_are_rule_faults pes pes_packets sound))
        (closes (length pes_packets) _ _ closing
        (all_closing_are_rule_faults frames (length pes_packets) (length frames)))).none
      where
        closes : (pes : ℕ) (are_left more : Bool) (es : List Event) → list_any
            is_not_rule_event es ≡
            false
            → NoStepMatches (emits_bad_fault is_not_rule_fault placing_keeps_rule_fault)
            (AtPes pes ∷ Closes are_left more ∷ map Emits es)
        closes pes are_left more es own =
            record {
              none = (emitted_events_match_nothing (emits_bad_fault is_not_rule_fault
                  placing_keeps_rule_fault) es own).none;
            }

other_fault_breaks_rule : (f : CheckFault) → is_not_rule_fault f ≡ false
    → is_pes_file_fault f ≡ true
other_fault_breaks_rule f e = grind (arith, nat_tests)

module _ (programme : ProgrammeValue) (options : OptionsValue) (bytes : List ℕ) where
  abbrev file : PesPacketFileValue
  file = pes_packet_file_of (clock_of options) bytes

  sound : ArePesPacketsSound file
  sound = file_pes_packets_sound (clock_of options) 0 bytes

  pub first_reported_breaks_rule : (f : CheckFault)
      → first_reported_fault (all_events_of programme options bytes) ≡ Some f
      → is_pes_file_fault f ≡ true
  unfolding all_events_of_pes_packets
  first_reported_breaks_rule f is =
      let g = criteria_of programme options file.unread in
      other_fault_breaks_rule f
      (first_fault_is_not_bad is_not_rule_fault placing_keeps_rule_fault
      (ungrouped_events_of_pes_packets g file.pes_packets) f
      (packet_events_are_rule_faults g sound.fault file.pes_packets sound.each)
      (sym (announced_events_keep_first_fault (ungrouped_events_of_pes_packets g file.pes_packets))
      ∙ is))

  pub first_in_prefix_breaks_rule : (n : ℕ) (f : CheckFault)
      → first_reported_fault (events_of_first_pes_packets programme options bytes n) ≡ Some f
      → is_pes_file_fault f ≡ true
  unfolding events_of_pes_packets
  first_in_prefix_breaks_rule n f is =
      let g = criteria_of programme options file.unread in
      let done = take n file.pes_packets in
      let steps = steps_of_each g [] 0 done in
      other_fault_breaks_rule f
      (first_fault_is_not_bad is_not_rule_fault placing_keeps_rule_fault (events_reported_after []
      steps) f
      (steps_report_nothing_bad is_not_rule_fault placing_keeps_rule_fault [] steps
      (each_passes (emits_bad_fault is_not_rule_fault placing_keeps_rule_fault) g
      (frame_events_are_rule_faults g) [] 0 done
      (skipped_packets_are_rule_faults 0 done (first_packets_are_sound n file.pes_packets
      sound.each))).none)
      (sym (announcing_keeps_first_fault (events_reported_after [] steps)) ∙ is))
