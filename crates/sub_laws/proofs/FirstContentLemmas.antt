-- If a wrong cell is the first fault of a PES file, it is also the first fault of the frames before
-- the first skipped PES packet.
use Rattle.std.proofs.lemmas.Bool.Decides.{nat_tests}
use Rattle.std.proofs.Common.{◌≡◌, ℕ, suc, ◌⊎◌, inl, inr, List, [], ◌∷◌, ◌++◌, length, Option, Some}
use Rattle.std.proofs.Common.{None, refl, sym, ap, ◌∙◌, arith, append_assoc}
use Rattle.std.proofs.lemmas.Option.{same_Some}
use Rattle.sub_rules.specs.Events.{first_reported_fault}
use Rattle.sub_rules.specs.Fault.{fault_with_pes_number}
use Rattle.sub_rules.specs.FrameRules.{Criteria, UnreadReason}
use Rattle.sub_rules.specs.FrameRules.UnreadReason.{BadPacket, NoFrame}
use Rattle.sub_rules.specs.PesPacketEvents.{all_events_of_pes_packets, sent_by_pes_packets}
use Rattle.sub_rules.specs.PesPacketEvents.{steps_of_closing}
use Rattle.sub_rules.specs.PesPacketEvents.{steps_of_each, steps_of_pes_packets, steps_of_sent}
use Rattle.sub_rules.specs.PesPacketEvents.{steps_of_pending_end, ungrouped_events_of_pes_packets}
use Rattle.sub_rules.specs.PesPackets.{PesPacket, frames_of, joined, read_until_skipped, sent_after}
use Rattle.sub_rules.specs.PesPackets.PesPacket.{Skipped, Sent}
use Rattle.sub_rules.specs.Transmission.{SentFrame, Transmission}
use Rattle.sub_rules.specs.Trusted.CheckStep.{AtPes, Emits}
use Rattle.sub_rules.specs.declared.event.Event.{Event}
use Rattle.sub_rules.specs.declared.event.Event.TheVariants.{Reported}
use Rattle.sub_rules.specs.declared.fault.CheckFault.{CheckFault}
use Rattle.sub_rules.specs.declared.fault.CheckFault.TheVariants as fault
use Rattle.sub_rules.proofs.StepEventLemmas.{first_fault_of_append, events_emitted_from_packet}
use Rattle.sub_rules.proofs.StepEventLemmas.{reported_and_emitted_faults_agree}
use Rattle.sub_rules.proofs.PesPacketEventLemmas.{announced_events_keep_first_fault}
use Rattle.sub_laws.proofs.EmittedLemmas.{all_steps_emit_all_events, emitted_events}
use Rattle.sub_laws.proofs.EmittedLemmas.{emitted_events-append}
use Rattle.sub_rules.specs.Trusted.{CheckStep, with_pes_number, current_pes}
use Rattle.sub_rules.proofs.FrameEvents.{events}

-- The PES packets before the first skipped PES packet; all PES packets if none is skipped.
prefix : List PesPacket → List PesPacket
prefix [] = []
prefix (Sent s ∷ pes_packets) = Sent s ∷ prefix pes_packets
prefix (Skipped u ∷ pes_packets) = []

prefix_has_only_sent_packets : (pes_packets : List PesPacket) → length
    (frames_of (prefix pes_packets)) ≡ length
    (prefix pes_packets)
unfolding prefix frames_of
prefix_has_only_sent_packets [] = refl
prefix_has_only_sent_packets (Sent s ∷ pes_packets) = ap suc (prefix_has_only_sent_packets
    pes_packets)
prefix_has_only_sent_packets (Skipped u ∷ pes_packets) = refl

prefix_has_frames_read_until_skipped : (pes_packets : List PesPacket) (unread : Option UnreadReason)
    → frames_of (prefix pes_packets) ≡ (read_until_skipped pes_packets unread).frames
unfolding prefix frames_of read_until_skipped
prefix_has_frames_read_until_skipped [] unread = refl
prefix_has_frames_read_until_skipped (Sent s ∷ pes_packets) unread =
    ap (λ (fs : Transmission). s ∷ fs) (prefix_has_frames_read_until_skipped pes_packets unread)
prefix_has_frames_read_until_skipped (Skipped u ∷ pes_packets) unread = refl

module _ (frame row column : ℕ) where
  abbrev IsFirst : List Event → Type 0
  IsFirst es = first_reported_fault es ≡ Some (fault.Content frame row column)

  first_content_is_in_one_part : (xs ys : List Event) → IsFirst (xs ++ ys)
      → IsFirst xs ⊎ ((first_reported_fault xs ≡ None) × IsFirst ys)
  first_content_is_in_one_part xs ys e = grind (arith, nat_tests, first_fault_of_append)

  first_content_stays_with_more_events : (xs ys : List Event) → IsFirst xs → IsFirst (xs ++ ys)
  first_content_stays_with_more_events xs ys e = first_fault_of_append xs ys ∙ rw e refl

  first_content_after_no_fault : (xs ys : List Event) → first_reported_fault xs ≡ None → IsFirst ys
      → IsFirst (xs ++ ys)
  first_content_after_no_fault xs ys none e = first_fault_of_append xs ys ∙ rw (none, e) refl

  -- A fault that is a wrong cell after its PES packet number was set was the same wrong cell
  -- before.
  content_fault_has_no_pes_number : (pes : ℕ) (f : CheckFault)
      → fault_with_pes_number pes f ≡ fault.Content frame row column
      → f ≡ fault.Content frame row column
  content_fault_has_no_pes_number pes f e = grind (arith, nat_tests)

  first_content_is_emitted : (pes : ℕ) (ms : List CheckStep) → IsFirst (events_emitted_from_packet
      pes ms) → IsFirst
      (emitted_events ms)
  unfolding with_pes_number
  first_content_is_emitted pes [] e = e
  first_content_is_emitted pes (Emits (Reported f) ∷ ms) e =
      ap (λ (x : CheckFault). Some x) (content_fault_has_no_pes_number pes f (same_Some _ _ e))
  first_content_is_emitted pes (Emits x ∷ ms) e = first_content_is_emitted pes ms e
  first_content_is_emitted pes (AtPes next ∷ ms) e = first_content_is_emitted next ms e
  first_content_is_emitted pes (m ∷ ms) e = first_content_is_emitted pes ms e

  module _ (g : Criteria) where
    module _ (sent : Transmission) (pes : ℕ) (s : SentFrame) (pes_packets : List PesPacket)
        (rest : List Event) where
      abbrev next : Transmission
      next = sent_after g.within sent s

      abbrev own : List Event
      own = emitted_events (steps_of_sent g sent pes s)

      abbrev later : List CheckStep
      later = steps_of_each g next (suc pes) pes_packets

      abbrev fewer : List CheckStep
      fewer = steps_of_each g next (suc pes) (prefix pes_packets)

      abbrev IsFirstOfLater : Type 0
      IsFirstOfLater = (prefix pes_packets ≡ pes_packets) ⊎ IsFirst (emitted_events fewer)

      abbrev IsReported : Type 0
      IsReported =
          (Sent s ∷ prefix pes_packets ≡ Sent s ∷ pes_packets)
          ⊎ IsFirst (emitted_events (steps_of_sent g sent pes s ++ fewer))

      later_content_is_reported : first_reported_fault own ≡ None → IsFirstOfLater → IsReported
      later_content_is_reported none (inl same) = inl (ap (λ (ps : List PesPacket). Sent s ∷ ps)
          same)
      later_content_is_reported none (inr first) =
          inr
          (ap first_reported_fault (emitted_events-append (steps_of_sent g sent pes s) fewer)
          ∙ first_content_after_no_fault own (emitted_events fewer) none first)

      content_of_either_part_is_reported : (IsFirst (emitted_events later ++ rest) → IsFirstOfLater)
          → IsFirst own ⊎ ((first_reported_fault own ≡ None) × IsFirst
          (emitted_events later ++ rest))
          → IsReported
      content_of_either_part_is_reported ih (inl first) =
          inr
          (ap first_reported_fault (emitted_events-append (steps_of_sent g sent pes s) fewer)
          ∙ first_content_stays_with_more_events own (emitted_events fewer) first)
      content_of_either_part_is_reported ih (inr (none, first)) = later_content_is_reported none
          (ih first)

      content_after_sent_packet_is_reported : (IsFirst (emitted_events later ++ rest) →
          IsFirstOfLater)
          → IsFirst (emitted_events (steps_of_sent g sent pes s ++ later) ++ rest)
          → IsReported
      content_after_sent_packet_is_reported ih e =
          content_of_either_part_is_reported ih
          (first_content_is_in_one_part own (emitted_events later ++ rest)
          (ap first_reported_fault
          (sym
          (ap (λ (es : List Event). es ++ rest) (emitted_events-append (steps_of_sent g sent pes s)
          later)
          ∙ append_assoc own (emitted_events later) rest))
          ∙ e))

    -- If a wrong cell is the first fault, either no PES packet is skipped, or the wrong cell is the
    -- first fault of the PES packets before the first skipped one.
    content_in_prefix_is_reported : (sent : Transmission) (pes : ℕ) (pes_packets : List PesPacket)
        (rest : List Event)
        → IsFirst (emitted_events (steps_of_each g sent pes pes_packets) ++ rest)
        → (prefix pes_packets ≡ pes_packets) ⊎ IsFirst
        (emitted_events (steps_of_each g sent pes (prefix pes_packets)))
    unfolding prefix steps_of_each
    content_in_prefix_is_reported sent pes [] rest e = inl refl
    content_in_prefix_is_reported sent pes (Skipped (BadPacket f) ∷ pes_packets) rest e = cc
    content_in_prefix_is_reported sent pes (Skipped NoFrame ∷ pes_packets) rest e = cc
    content_in_prefix_is_reported sent pes (Sent s ∷ pes_packets) rest e =
        content_after_sent_packet_is_reported sent pes s pes_packets rest
        (content_in_prefix_is_reported (sent_after g.within sent s) (suc pes) pes_packets rest) e

    abbrev events_of_each_pes_packet : List PesPacket → List Event
    events_of_each_pes_packet pes_packets =
        let frames = sent_by_pes_packets g pes_packets in
        emitted_events (steps_of_pending_end g frames)
        ++ emitted_events (steps_of_closing g frames (length pes_packets) (length frames))

    emitted_events_are_of_packets : (pes_packets : List PesPacket)
        → emitted_events (steps_of_pes_packets g pes_packets)
        ≡ emitted_events (steps_of_each g [] 0 pes_packets) ++ events_of_each_pes_packet pes_packets
    emitted_events_are_of_packets pes_packets = grind (
      arith,
      nat_tests,
      emitted_events-append,
      emitted_events,
      append_assoc,
    )

    pub first_content_fault_is_in_prefix : (pes_packets : List PesPacket) → IsFirst
        (all_events_of_pes_packets g pes_packets)
        → IsFirst (events g (joined g.within (read_until_skipped pes_packets g.unread).frames))
    unfolding all_events_of_pes_packets ungrouped_events_of_pes_packets current_pes
    first_content_fault_is_in_prefix pes_packets e =
        ap first_reported_fault
        (ap (λ (fs : Transmission). events g (joined g.within fs))
        (sym (prefix_has_frames_read_until_skipped pes_packets g.unread))
        ∙ sym (all_steps_emit_all_events g (prefix pes_packets) (prefix_has_only_sent_packets
        pes_packets)))
        ∙ content_is_emitted_by_prefix
        (content_in_prefix_is_reported [] 0 pes_packets (events_of_each_pes_packet pes_packets)
        (ap first_reported_fault (sym (emitted_events_are_of_packets pes_packets)) ∙ reported))
      where
        reported : IsFirst (emitted_events (steps_of_pes_packets g pes_packets))
        reported =
            let steps = steps_of_pes_packets g pes_packets in
            first_content_is_emitted 0 steps
            (sym (announced_events_keep_first_fault (ungrouped_events_of_pes_packets g pes_packets)
            ∙ reported_and_emitted_faults_agree []
            steps) ∙ e)

        content_is_emitted_by_prefix : (prefix pes_packets ≡ pes_packets) ⊎ IsFirst
            (emitted_events (steps_of_each g [] 0 (prefix pes_packets)))
            → IsFirst (emitted_events (steps_of_pes_packets g (prefix pes_packets)))
        content_is_emitted_by_prefix (inl same) =
            ap (λ (ps : List PesPacket). first_reported_fault
            (emitted_events (steps_of_pes_packets g ps))) same
            ∙ reported
        content_is_emitted_by_prefix (inr first) =
            ap first_reported_fault (emitted_events_are_of_packets (prefix pes_packets))
            ∙ first_content_stays_with_more_events
            (emitted_events (steps_of_each g [] 0 (prefix pes_packets)))
            (events_of_each_pes_packet (prefix pes_packets))
            first
