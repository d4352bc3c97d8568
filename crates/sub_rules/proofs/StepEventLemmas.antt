-- The events in a list of steps have the same first fault as the reports of these steps.
use Rattle.std.proofs.lemmas.Bool.Decides.{nat_tests}
use Rattle.std.proofs.Common.{◌≡◌, ℕ, zero, suc, ◌+◌, ◌==◌, Bool, true, false, List, [], ◌∷◌}
use Rattle.std.proofs.Common.{◌++◌, length, map, Option, None, Some, refl, sym, ap, ◌∙◌, subst}
use Rattle.std.proofs.Common.{arith, append_assoc, if◌then◌else◌, unwrap_or}
use Rattle.std.proofs.lemmas.Bool.{true≢false}
use Rattle.std.proofs.lemmas.List.{map-append}
use Rattle.std.specs.Option.{option_or}
use Rattle.sub_rules.specs.Events.{events_at_end, first_header_events, first_reported_fault}
use Rattle.sub_rules.specs.Events.{gap_length, is_late, latest_frame, order_events}
use Rattle.sub_rules.specs.Events.{packet_events, first_unfinished_before, active_faults_at}
use Rattle.sub_rules.specs.Events.{unfinished_run_start}
use Rattle.sub_rules.specs.FrameRules.{Criteria, frame_at, packets_before, packets_of_frame}
use Rattle.sub_rules.specs.PesPacketEvents.{needs_back_steps, steps_at_end, steps_before}
use Rattle.sub_rules.specs.PesPacketEvents.{steps_of_arrival}
use Rattle.sub_rules.specs.PesPacketEvents.{steps_of_ending, steps_of_gap, steps_of_more}
use Rattle.sub_rules.specs.PesPacketEvents.{steps_of_next}
use Rattle.sub_rules.specs.PesPacketEvents.{steps_of_packets, steps_of_sent, steps_of_pending_end}
use Rattle.sub_rules.specs.PesPackets.{continues_with}
use Rattle.sub_rules.specs.Transmission.{SentFrame, Transmission}
use Rattle.sub_rules.specs.Trusted.CheckStep.{AtEnd, AtPes, Begins, Closes, Ends, GoesBack, Emits}
use Rattle.sub_rules.specs.declared.event.Event.{Event}
use Rattle.sub_rules.specs.declared.event.Event.TheVariants.{Reported}
use Rattle.ttx_page.specs.PacketKind.{kind}
use Rattle.ttx_page.specs.Span.{has_text_beginning}
use Rattle.sub_rules.proofs.AnyReportedLemmas.{frame_events_have_no_other_number}
use Rattle.sub_rules.proofs.AnyReportedLemmas.{at_pes_keeps_numbered_events}
use Rattle.sub_rules.proofs.JoinedLemmas.{continues-none}
use Rattle.sub_rules.specs.Trusted.{CheckStep, with_pes_number, back_frame_of, current_pes, run_of}
use Rattle.sub_rules.specs.Trusted.{has_no_active_faults}
use Rattle.sub_rules.specs.Trusted.{events_reported_after, events_reported_at_step, trusted}
use Rattle.sub_rules.specs.Trusted.{trusted_up_to}
use Rattle.sub_rules.specs.Trusted.{first_finished_of}
use Rattle.sub_rules.proofs.FrameEvents.{frame_events, gap_events}

pub first_fault_of_append : (xs ys : List Event)
    → first_reported_fault (xs ++ ys) ≡ option_or (first_reported_fault xs)
    (first_reported_fault ys)
first_fault_of_append [] ys = refl
first_fault_of_append (Reported f ∷ xs) ys = refl
first_fault_of_append (e ∷ xs) ys = first_fault_of_append xs ys

-- `events_emitted_from_packet` gives the events in a list of steps, with PES packet numbers. Events
-- before the first `AtPes` step have the number `pes`.
abbrev pub events_emitted_from_packet : ℕ → List CheckStep → List Event
events_emitted_from_packet pes [] = []
events_emitted_from_packet pes (AtPes next ∷ ms) = events_emitted_from_packet next ms
events_emitted_from_packet pes (Emits e ∷ ms) = with_pes_number pes e ∷ events_emitted_from_packet
    pes ms
events_emitted_from_packet pes (m ∷ ms) = events_emitted_from_packet pes ms

closing_run_reports_no_fault : (b : Bool) (run whole : Option ℕ) (f : ℕ)
    → first_reported_fault (if b then trusted run whole f else []) ≡ None
closing_run_reports_no_fault b run whole f = grind (arith, nat_tests)

trusted_frames_report_no_fault : (t : List CheckStep) (d : Option ℕ) → first_reported_fault
    (trusted_up_to t d) ≡ None
trusted_frames_report_no_fault t None = refl
trusted_frames_report_no_fault t (Some f) = closing_run_reports_no_fault true (run_of t)
    (first_finished_of t)
    (unwrap_or (back_frame_of t) f)

first_fault_after_trusted_frames : (trusts rest emitted : List Event) (e : Event) →
    first_reported_fault trusts ≡ None
    → first_reported_fault rest ≡ first_reported_fault emitted
    → first_reported_fault ((trusts ++ e ∷ []) ++ rest) ≡ first_reported_fault (e ∷ emitted)
first_fault_after_trusted_frames trusts rest emitted e none same = grind
    (arith, nat_tests, first_fault_of_append)

first_fault_ignores_trusted_frames : (trusts rest emitted : List Event) → first_reported_fault
    trusts ≡ None
    → first_reported_fault rest ≡ first_reported_fault emitted
    → first_reported_fault (trusts ++ rest) ≡ first_reported_fault emitted
first_fault_ignores_trusted_frames trusts rest emitted none same =
    let reported = first_fault_of_append trusts rest in grind (arith, nat_tests)

pub reported_and_emitted_faults_agree : (t ms : List CheckStep)
    → first_reported_fault (events_reported_after t ms) ≡ first_reported_fault
    (events_emitted_from_packet (current_pes t) ms)
unfolding events_reported_after events_reported_at_step current_pes
reported_and_emitted_faults_agree t [] = grind (arith, nat_tests)
reported_and_emitted_faults_agree t (Emits e ∷ ms) =
    grind (
      arith,
      nat_tests,
      first_fault_after_trusted_frames,
      trusted_frames_report_no_fault,
      (reported_and_emitted_faults_agree (Emits e ∷ t) ms),
    )
reported_and_emitted_faults_agree t (Closes are_left more ∷ ms) =
    grind (
      arith,
      nat_tests,
      first_fault_ignores_trusted_frames,
      closing_run_reports_no_fault,
      (reported_and_emitted_faults_agree (Closes are_left more ∷ t) ms),
    )
reported_and_emitted_faults_agree t (m ∷ ms) = grind
    (arith, nat_tests, (reported_and_emitted_faults_agree (m ∷ t) ms))

pub emits_steps_emit_numbered_events : (pes : ℕ) (es : List Event) → events_emitted_from_packet pes
    (map Emits es) ≡ map (with_pes_number pes)
    es
emits_steps_emit_numbered_events pes [] = refl
emits_steps_emit_numbered_events pes (e ∷ es) = ap (λ (l : List Event). with_pes_number pes e ∷ l)
    (emits_steps_emit_numbered_events pes es)

module _ (pes : ℕ) where
  abbrev EmitExactly : List CheckStep → List Event → Type 0
  EmitExactly ms es =
      (more : List CheckStep) → events_emitted_from_packet pes (ms ++ more) ≡ map
      (with_pes_number pes) es ++ events_emitted_from_packet pes
      more

  emits_steps_emit_their_events : (es : List Event) → EmitExactly (map Emits es) es
  emits_steps_emit_their_events [] more = refl
  emits_steps_emit_their_events (e ∷ es) more = ap (λ (l : List Event). with_pes_number pes e ∷ l)
      (emits_steps_emit_their_events es more)

  silent_tail_emits_nothing : (ms tail : List CheckStep) (es : List Event)
      → ((more : List CheckStep) → events_emitted_from_packet pes (tail ++ more) ≡
      events_emitted_from_packet pes more)
      → EmitExactly ms es
      → EmitExactly (ms ++ tail) es
  silent_tail_emits_nothing ms tail es h1 h2 = grind (arith, nat_tests, append_assoc)

  emitted_events_append : (xs ys : List CheckStep) (es fs : List Event) → EmitExactly xs es →
      EmitExactly ys fs
      → EmitExactly (xs ++ ys) (es ++ fs)
  emitted_events_append xs ys es fs h1 h2 = grind (arith, nat_tests, append_assoc, map-append)

  module _ (g : Criteria) (frames : Transmission) where
    end_steps_emit_end_events : (i n f : ℕ)
        → EmitExactly (steps_at_end g frames i n f) (events_at_end g frames i n f)
    end_steps_emit_end_events i n f = go (needs_back_steps g) (g.within == 0)
      where
        go : (back b : Bool)
            → EmitExactly ((if back then GoesBack (first_unfinished_before g frames i f) ∷ []
            else [])
            ++ (if b
            then []
            else AtEnd f (unfinished_run_start g frames n f) (is_late g frames n f) ∷ [])
            ++ map Emits (events_at_end g frames i n f)) (events_at_end g frames i n f)
        go true true = emits_steps_emit_their_events (events_at_end g frames i n f)
        go true false = emits_steps_emit_their_events (events_at_end g frames i n f)
        go false true = emits_steps_emit_their_events (events_at_end g frames i n f)
        go false false = emits_steps_emit_their_events (events_at_end g frames i n f)

    gap_steps_emit_gap_events : (i n : ℕ) → EmitExactly (steps_of_gap g frames i n)
        (gap_events g frames i n)
    unfolding steps_of_gap gap_events
    gap_steps_emit_gap_events i zero = λ more. refl
    gap_steps_emit_gap_events i (suc n) =
        emitted_events_append (steps_of_gap g frames i n)
        (steps_at_end g frames i i (latest_frame frames i + suc n))
        (gap_events g frames i n) (events_at_end g frames i i (latest_frame frames i + suc n))
        (gap_steps_emit_gap_events i n)
        (end_steps_emit_end_events i i (latest_frame frames i + suc n))

    arrival_steps_emit_their_events : (i : ℕ)
        → EmitExactly (steps_of_arrival g frames i)
        (order_events g frames i ++ gap_events g frames i (gap_length frames i))
    arrival_steps_emit_their_events i =
        let order = order_events g frames i in
        let gap = gap_events g frames i (gap_length frames i) in
        silent_tail_emits_nothing (map Emits order ++ steps_of_gap g frames i (gap_length frames i))
        (Begins (frame_at frames i) ∷ steps_before g (first_unfinished_before g frames i
        (frame_at frames i)))
        (order ++ gap) (go (needs_back_steps g))
        (emitted_events_append (map Emits order) (steps_of_gap g frames i (gap_length frames i))
        order gap
        (emits_steps_emit_their_events order) (gap_steps_emit_gap_events i (gap_length frames i)))
      where
        go : (back : Bool) (more : List CheckStep)
            → events_emitted_from_packet pes ((Begins (frame_at frames i)
            ∷ (if back then GoesBack (first_unfinished_before g frames i (frame_at frames i)) ∷ []
            else []))
            ++ more) ≡ events_emitted_from_packet pes more
        go true more = refl
        go false more = refl

    ending_steps_emit_their_events : (i : ℕ)
        → EmitExactly (steps_of_ending g frames i)
        (first_header_events g frames i ++ events_at_end g frames i (suc i) (frame_at frames i))
    ending_steps_emit_their_events i =
        let header = first_header_events g frames i in
        let end = events_at_end g frames i (suc i) (frame_at frames i) in
        let steps = steps_at_end g frames i (suc i) (frame_at frames i) in
        silent_tail_emits_nothing (map Emits header ++ steps)
        (Ends (frame_at frames i)
        (has_text_beginning g.watched.keeps (kind g.watched.page) (packets_of_frame frames i))
        (has_no_active_faults (active_faults_at g frames (suc i) (frame_at frames i))) ∷ [])
        (header ++ end)
        (λ more. refl)
        (emitted_events_append (map Emits header) steps header end (emits_steps_emit_their_events
        header)
        (end_steps_emit_end_events i (suc i) (frame_at frames i)))

    frame_steps_emit_frame_events : (i : ℕ)
        → EmitExactly (steps_of_arrival g frames i ++ steps_of_packets g frames i
        ++ steps_of_ending g frames i) (frame_events g frames i)
    unfolding frame_events
    frame_steps_emit_frame_events i =
        let order = order_events g frames i in
        let gap = gap_events g frames i (gap_length frames i) in
        let packets =
        packet_events g.watched (frame_at frames i) (packets_before frames i)
        (packets_of_frame frames i) (length (packets_of_frame frames i)) in
        let header = first_header_events g frames i in
        let end = events_at_end g frames i (suc i) (frame_at frames i) in
        subst
        (EmitExactly (steps_of_arrival g frames i ++ steps_of_packets g frames i
        ++ steps_of_ending g frames i))
        (sym (append_assoc (order ++ gap ++ packets) header end))
        (emitted_events_append (steps_of_arrival g frames i ++ steps_of_packets g frames i)
        (steps_of_ending g frames i) (order ++ gap ++ packets) (header ++ end)
        (emitted_events_append (steps_of_arrival g frames i) (steps_of_packets g frames i)
        (order ++ gap)
        packets (arrival_steps_emit_their_events i) (emits_steps_emit_their_events packets))
        (ending_steps_emit_their_events i))

module _ (g : Criteria) (at_once : g.within ≡ 0) where
  within_is_zero : (g.within == 0) ≡ true
  within_is_zero = grind (arith, nat_tests)

  pub no_delay_leaves_no_pending_end : (sent : Transmission) → steps_of_pending_end g sent ≡ []
  unfolding steps_of_pending_end
  no_delay_leaves_no_pending_end [] = refl
  no_delay_leaves_no_pending_end (s ∷ sent) = rw within_is_zero refl

  pub sent_frame_emits_frame_events : (sent : Transmission) (s : SentFrame) (n pes : ℕ)
      (more : List CheckStep)
      → length sent ≡ n
      → events_emitted_from_packet pes (steps_of_sent g sent n s ++ more)
      ≡ frame_events g (sent ++ s ∷ []) n ++ events_emitted_from_packet n more
  unfolding steps_of_sent
  sent_frame_emits_frame_events sent s n pes more size = go (continues_with g.within sent s) refl
    where
      no_packet_continues_frame : continues_with g.within sent s ≡ false
      no_packet_continues_frame = ap (λ (w : ℕ). continues_with w sent s) at_once ∙ continues-none
          sent s

      next : events_emitted_from_packet n (steps_of_next g sent s ++ more)
          ≡ frame_events g (sent ++ s ∷ []) n ++ events_emitted_from_packet n more
      next =
          let frames : Transmission = sent ++ s ∷ [] in
          subst
          (λ (i : ℕ). events_emitted_from_packet n
          ((steps_of_arrival g frames i ++ steps_of_packets g frames i
          ++ (if g.within == 0 then steps_of_ending g frames i else [])) ++ more)
          ≡ frame_events g frames n ++ events_emitted_from_packet n more) (sym size)
          (subst
          (λ (c : Bool). events_emitted_from_packet n
          ((steps_of_arrival g frames n ++ steps_of_packets g frames n
          ++ (if c then steps_of_ending g frames n else [])) ++ more)
          ≡ frame_events g frames n ++ events_emitted_from_packet n more) (sym within_is_zero)
          (frame_steps_emit_frame_events n g frames n more
          ∙ ap (λ (l : List Event). l ++ events_emitted_from_packet n more)
          (at_pes_keeps_numbered_events n (frame_events g frames n)
          (frame_events_have_no_other_number g frames n))))

      go : (same : Bool) → continues_with g.within sent s ≡ same
          → events_emitted_from_packet pes ((if same
          then AtPes n ∷ steps_of_more g sent s.packets
          else steps_of_pending_end g sent ++ AtPes n ∷ steps_of_next g sent s) ++ more)
          ≡ frame_events g (sent ++ s ∷ []) n ++ events_emitted_from_packet n more
      go true e = absurd (true≢false (sym e ∙ no_packet_continues_frame))
      go false e =
          ap (λ (ms : List CheckStep). events_emitted_from_packet pes
          ((ms ++ AtPes n ∷ steps_of_next g sent s) ++ more))
          (no_delay_leaves_no_pending_end sent)
          ∙ next
