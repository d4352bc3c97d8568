-- If no PES packet of a file is skipped, the events of its steps are the events of its frames.
use Rattle.std.proofs.lemmas.Bool.Decides.{nat_tests}
use Rattle.std.proofs.Common.{◌≡◌, ℕ, zero, suc, ◌+◌, ◌<◌, ◌≤◌, List}
use Rattle.std.proofs.Common.{[], ◌∷◌, ◌++◌, length, map, refl, sym, ap, ap₂, ◌∙◌, subst, arith}
use Rattle.std.proofs.Common.{append_assoc, inl, inr, length-append}
use Rattle.std.proofs.lemmas.List.{append-nil}
use Rattle.sub_rules.specs.Events.{closing_events, events_at_end}
use Rattle.sub_rules.specs.Events.{first_header_events, gap_length}
use Rattle.sub_rules.specs.Events.{latest_frame, order_events, packet_events}
use Rattle.sub_rules.specs.Events.{numbered_packet_events}
use Rattle.sub_rules.specs.FrameRules.{Criteria, frame_at, packets_before}
use Rattle.sub_rules.specs.PesPacketEvents.{closing_events_of_pes_packets, sent_by_pes_packets}
use Rattle.sub_rules.specs.PesPacketEvents.{steps_at_end}
use Rattle.sub_rules.specs.PesPacketEvents.{steps_of_arrival, steps_of_each, steps_of_ending}
use Rattle.sub_rules.specs.PesPacketEvents.{steps_of_gap, steps_of_pes_packets}
use Rattle.sub_rules.specs.PesPacketEvents.{steps_of_pending_end}
use Rattle.sub_rules.specs.PesPackets.{PesPacket, frames_of, joined_after, sent_after}
use Rattle.sub_rules.specs.PesPackets.PesPacket.{Skipped, Sent}
use Rattle.sub_rules.specs.Transmission.{SentFrame, Transmission}
use Rattle.sub_rules.specs.Trusted.CheckStep.{Emits}
use Rattle.sub_rules.specs.declared.event.Event.{Event}
use Rattle.sub_rules.proofs.JoinedLemmas.{numbered_packet_events-append, with_packets-length}
use Rattle.sub_laws.proofs.GrowingFrameLemmas.{continued_frame_is_delayed}
use Rattle.sub_laws.proofs.PesPacketWalkLemmas.{EachSkippedPacket, Sends, Steps, each_pes_packet}
use Rattle.sub_laws.proofs.PesPacketWalkLemmas.{pending_end_reaches_closed_state}
use Rattle.sub_rules.specs.Trusted.{CheckStep}
use Rattle.sub_rules.proofs.FrameEvents.{events, events_of_first_frames, frame_events, gap_events}

abbrev pub emitted_events : List CheckStep → List Event
emitted_events [] = []
emitted_events (Emits e ∷ ms) = e ∷ emitted_events ms
emitted_events (m ∷ ms) = emitted_events ms

pub emitted_events-append : (xs ys : List CheckStep) → emitted_events (xs ++ ys) ≡ emitted_events xs
    ++ emitted_events ys
emitted_events-append [] ys = refl
emitted_events-append (Emits e ∷ xs) ys = ap (λ (es : List Event). e ∷ es) (emitted_events-append xs
    ys)
emitted_events-append (m ∷ xs) ys = emitted_events-append xs ys

pub emitted_events-emits : (es : List Event) → emitted_events (map Emits es) ≡ es
emitted_events-emits [] = refl
emitted_events-emits (e ∷ es) = ap (λ (xs : List Event). e ∷ xs) (emitted_events-emits es)

module _ (g : Criteria) where
  end_steps_emit_end_events_only : (frames : Transmission) (i n f : ℕ)
      → emitted_events (steps_at_end g frames i n f) ≡ events_at_end g frames i n f
  end_steps_emit_end_events_only frames i n f = grind (arith, nat_tests, emitted_events-emits)

  gap_steps_emit_gap_events_only : (frames : Transmission) (i n : ℕ)
      → emitted_events (steps_of_gap g frames i n) ≡ gap_events g frames i n
  unfolding steps_of_gap gap_events
  gap_steps_emit_gap_events_only frames i zero = refl
  gap_steps_emit_gap_events_only frames i (suc n) =
      emitted_events-append (steps_of_gap g frames i n) _
      ∙ rw (
        gap_steps_emit_gap_events_only frames i n,
        end_steps_emit_end_events_only frames i i
            (latest_frame frames i + suc n),
      ) refl

  arrival_steps_emit_order_and_gap : (frames : Transmission) (i : ℕ)
      → emitted_events (steps_of_arrival g frames i)
      ≡ order_events g frames i ++ gap_events g frames i (gap_length frames i)
  arrival_steps_emit_order_and_gap frames i = grind (
    arith,
    nat_tests,
    emitted_events-append,
    append-nil,
    emitted_events-emits,
    gap_steps_emit_gap_events_only,
  )

  abbrev ending : Transmission → ℕ → List Event
  ending frames i =
      first_header_events g frames i ++ events_at_end g frames i (suc i) (frame_at frames i)

  ending_steps_emit_ending_events : (frames : Transmission) (i : ℕ)
      → emitted_events (steps_of_ending g frames i) ≡ ending frames i
  ending_steps_emit_ending_events frames i = grind (
    arith,
    nat_tests,
    emitted_events-append,
    append-nil,
    emitted_events-emits,
    end_steps_emit_end_events_only,
  )

  sent_frames_are_at_most_packets : (pes_packets : List PesPacket) → length (frames_of pes_packets)
      ≤ length pes_packets
  unfolding frames_of
  sent_frames_are_at_most_packets [] = omega arith
  sent_frames_are_at_most_packets
      (Sent s ∷ pes_packets) = let rest = sent_frames_are_at_most_packets pes_packets in omega arith
  sent_frames_are_at_most_packets
      (Skipped u ∷ pes_packets) = let rest = sent_frames_are_at_most_packets pes_packets in omega
      arith

  sent_some : (sent : Transmission) (s : SentFrame) → 0 < length (sent_after g.within sent s)
  sent_some sent s = grind (
    arith,
    nat_tests,
    continued_frame_is_delayed,
    with_packets-length,
    length-append,
  )

  joining_keeps_a_frame : (sent frames : Transmission) → 0 < length sent
      → 0 < length (joined_after g.within sent frames)
  unfolding joined_after
  joining_keeps_a_frame sent [] some = some
  joining_keeps_a_frame sent (s ∷ frames) some =
      joining_keeps_a_frame (sent_after g.within sent s) frames (sent_some sent s)

  closing_events_of_sent_packets : (pes_packets : List PesPacket) → length (frames_of pes_packets) ≡
      length pes_packets
      → closing_events_of_pes_packets g (sent_by_pes_packets g pes_packets) (length pes_packets)
      (length (sent_by_pes_packets g pes_packets))
      ≡ closing_events g (sent_by_pes_packets g pes_packets)
      (length (sent_by_pes_packets g pes_packets))
  unfolding closing_events_of_pes_packets frames_of joined_after
  closing_events_of_sent_packets [] all = refl
  closing_events_of_sent_packets (Sent s ∷ pes_packets) all = grind
      (arith, nat_tests, joining_keeps_a_frame, sent_some)
  closing_events_of_sent_packets (Skipped u ∷ pes_packets) all = grind
      (arith, nat_tests, sent_frames_are_at_most_packets)

module _ (g : Criteria) (frames : Transmission) where
  -- The events of the first n frames of the transmission, and those of frame n before its packets.
  abbrev arrived : ℕ → List Event
  arrived n =
      events_of_first_frames g frames n
      ++ (order_events g frames n ++ gap_events g frames n (gap_length frames n))

  -- The events of the first n frames of the transmission, and those of the given packets of frame
  -- n.
  abbrev begun : ℕ → List (List ℕ) → List Event
  begun n packets =
      arrived n
      ++ packet_events g.watched (frame_at frames n) (packets_before frames n) packets
      (length packets)

  -- The events so far are those of the first n frames of the transmission.
  abbrev Ended : ℕ → List Event → Type 0
  Ended n so_far = so_far ≡ events_of_first_frames g frames n

  abbrev HasBegunFrame : ℕ → List (List ℕ) → List Event → Type 0
  HasBegunFrame n packets so_far = so_far ≡ begun n packets

  abbrev EmitsAfter : (List Event → Type 0) → List Event → List CheckStep → Type 0
  EmitsAfter S so_far ms = S (so_far ++ emitted_events ms)

  abbrev same : ℕ → List Event → List Event
  same pes so_far = so_far

  abbrev NoneSkipped : Transmission → Type 0
  NoneSkipped sent = ⊥

  emits-nil : (S : List Event → Type 0) (so_far : List Event) → S so_far → EmitsAfter S so_far []
  emits-nil S so_far so = subst S (sym (append-nil so_far)) so

  emits-append : (S U : List Event → Type 0) (so_far : List Event) (xs ys : List CheckStep)
      → EmitsAfter S so_far xs
      → ((es : List Event) → S es → EmitsAfter U es ys)
      → EmitsAfter U so_far (xs ++ ys)
  emits-append S U so_far xs ys one rest = grind
      (arith, nat_tests, append_assoc, emitted_events-append)

  steps : Steps (List Event) same g frames EmitsAfter Ended HasBegunFrame NoneSkipped
  unfolding numbered_packet_events events_of_first_frames frame_events
  steps = record {
    at_ended = λ n pes so_far is. is;
    at_open = λ n pes packets so_far is. is;
    arrival = λ n so_far there is.
        ap₂ ◌++◌ is (arrival_steps_emit_order_and_gap g frames n)
        ∙ sym (append-nil (arrived n));
    more = λ n packets more rest so_far there whole is.
        let from : 0 + length packets ≡ length packets = omega arith in
        let all =
        numbered_packet_events-append g.watched (frame_at frames n) 0 (packets_before frames n)
        packets
        more
        in
        ap₂ ◌++◌ is (emitted_events-emits _)
        ∙ append_assoc (arrived n) _ _
        ∙ ap (λ (es : List Event). arrived n ++ es) (sym (rw from at all));
    ending = λ n so_far there is.
        ap₂ ◌++◌ is (ending_steps_emit_ending_events g frames n)
        ∙ grind (arith, append_assoc);
    skipped_packet_reports_good_stretches = λ sent pes u so_far is none closed. absurd none;
    skipped_open = λ sent n pes u so_far is size none opens. absurd none;
  }

  all_sent_means_none_skipped : (sent : Transmission) (pes_packets : List PesPacket)
      → length (frames_of pes_packets) ≡ length pes_packets
      → EachSkippedPacket g.within NoneSkipped sent pes_packets
  unfolding frames_of
  all_sent_means_none_skipped sent [] all = tt
  all_sent_means_none_skipped sent (Sent s ∷ pes_packets) all =
      all_sent_means_none_skipped (sent_after g.within sent s) pes_packets (omega (arith, all))
  all_sent_means_none_skipped sent (Skipped u ∷ pes_packets) all =
      let few = sent_frames_are_at_most_packets g pes_packets in absurd (omega (arith, all))

  steps_before_closing_emit_events : (pes_packets : List PesPacket) → length (frames_of pes_packets)
      ≡ length
      pes_packets
      → sent_by_pes_packets g pes_packets ≡ frames
      → emitted_events (steps_of_each g [] 0 pes_packets ++ steps_of_pending_end g frames)
      ≡ events_of_first_frames g frames (length frames)
  unfolding events_of_first_frames
  steps_before_closing_emit_events pes_packets all is =
      emits-append (Sends (List Event) same g frames EmitsAfter Ended HasBegunFrame NoneSkipped
      frames)
      (Ended (length frames)) [] (steps_of_each g [] 0 pes_packets) (steps_of_pending_end g frames)
      (each_pes_packet (List Event) same g frames EmitsAfter Ended HasBegunFrame NoneSkipped
      emits-nil
      (λ S so_far pes ms so. so) emits-append steps [] 0 [] pes_packets is
      (all_sent_means_none_skipped [] pes_packets all)
      (inl (inr refl, refl)))
      (λ so_far so.
      pending_end_reaches_closed_state (List Event) same g frames EmitsAfter Ended HasBegunFrame
      NoneSkipped emits-nil
      (λ S so_far pes ms so. so) emits-append steps frames [] so_far (sym (append-nil frames)) so)

module _ (g : Criteria) where
  pub all_steps_emit_all_events : (pes_packets : List PesPacket) → length (frames_of pes_packets) ≡
      length
      pes_packets
      → emitted_events (steps_of_pes_packets g pes_packets) ≡ events g
      (sent_by_pes_packets g pes_packets)
  unfolding events
  all_steps_emit_all_events pes_packets all =
      grind (
        arith,
        nat_tests,
        emitted_events-append,
        steps_before_closing_emit_events,
        emitted_events-emits,
        closing_events_of_sent_packets,
      )
