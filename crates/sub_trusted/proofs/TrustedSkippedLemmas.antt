-- A skipped PES packet invalidates the last frame before it, so it does not come directly after a
-- trusted frame.
use Rattle.std.proofs.lemmas.Bool.Decides.{nat_tests}
use Rattle.std.proofs.Common.{◌≡◌, ℕ, suc, ◌+◌, ◌-◌, ◌<◌, ◌≤◌, ◌⊎◌, inl, inr, Bool, true, false}
use Rattle.std.proofs.Common.{◌==◌}
use Rattle.std.proofs.Common.{List, [], ◌∷◌, ◌++◌, Contains, length, map, None, Some, is_some, refl}
use Rattle.std.proofs.Common.{sym, ap, ◌∙◌, subst, arith, le_refl, append_assoc}
use Rattle.std.proofs.lemmas.Bool.{true≢false}
use Rattle.std.proofs.lemmas.List.Elements.{All-append, All-cons, All-nil}
use Rattle.std.proofs.lemmas.Option.{none-some, same_Some}
use Rattle.sub_rules.specs.Events.{unread_fault}
use Rattle.sub_rules.specs.FrameRules.{Criteria, UnreadReason, end_frame, frame_at}
use Rattle.sub_rules.specs.PesPacketEvents.{announced_events, all_events_of_pes_packets}
use Rattle.sub_rules.specs.PesPacketEvents.{needs_back_steps, no_run}
use Rattle.sub_rules.specs.PesPacketEvents.{skipped_run_after_events, sent_by_pes_packets}
use Rattle.sub_rules.specs.PesPacketEvents.{steps_of_closing}
use Rattle.sub_rules.specs.PesPacketEvents.{steps_of_each, steps_of_pes_packets}
use Rattle.sub_rules.specs.PesPacketEvents.{steps_of_pending_end}
use Rattle.sub_rules.specs.PesPacketEvents.{ungrouped_events_of_pes_packets}
use Rattle.sub_rules.specs.PesPackets.{PesPacket, frames_of, joined_after}
use Rattle.sub_rules.specs.PesPackets.PesPacket.{Skipped}
use Rattle.sub_rules.specs.Transmission.{Transmission}
use Rattle.sub_rules.specs.Trusted.CheckStep.{AtPes, Emits}
use Rattle.sub_rules.specs.declared.event.Event.{Event}
use Rattle.sub_rules.specs.declared.event.Event.TheVariants.{Reported, Trusted}
use Rattle.sub_rules.proofs.JoinedLemmas.{frames_of-append, joined_after-append}
use Rattle.sub_rules.proofs.JoinedLemmas.{steps_of_each-append}
use Rattle.sub_rules.proofs.TrustedLemmas.{history_after, events_reported_after-append}
use Rattle.sub_trusted.specs.TrustedFrames.{IsSkippedOutside}
use Rattle.sub_trusted.proofs.TrustedPesPacketLemmas.{IsTrustedAtClose, HasSentFrames}
use Rattle.sub_trusted.proofs.TrustedPesPacketLemmas.{all_steps_trust_good_stretches, each_passes}
use Rattle.sub_trusted.proofs.TrustedPesPacketLemmas.{start}
use Rattle.sub_trusted.proofs.TrackerStateLemmas.{Keeps, SeesNoLateness, run_needs_rising_frames}
use Rattle.sub_trusted.proofs.TrustedStepLemmas.{IsTrustedBeforeEnd}
use Rattle.sub_trusted.proofs.InvalidationLemmas.{HoldsForEachTrusted, HoldsIfTrusted}
use Rattle.sub_trusted.proofs.InvalidationLemmas.{each-announced}
use Rattle.sub_trusted.proofs.InvalidationLemmas.{each-ended}
use Rattle.sub_trusted.proofs.InvalidationLemmas.{each-weaker}
use Rattle.sub_laws.proofs.GrowingFrameLemmas.{GrowsTo, frame_eq, grows}
use Rattle.sub_trusted.proofs.LateInvalidationLemmas.{skipped_packet_invalidates_last_packet}
use Rattle.sub_laws.proofs.PrefixLemmas.{RiseTo, last-same}
use Rattle.sub_trusted.proofs.EmittedStepLemmas.{Goes, Goes-emits, frame_going_back_is_bounded}
use Rattle.sub_trusted.proofs.EmittedStepLemmas.{frame_after_going_back}
use Rattle.sub_trusted.proofs.EmittedStepLemmas.{first_invalidated_frame, has_risen}
use Rattle.sub_trusted.proofs.EmittedStepLemmas.{emits_steps_emit_events}
use Rattle.sub_trusted.proofs.TrustedFrameLemmas.{rising_part_has_rising_count, rising_part_rises}
use Rattle.sub_rules.specs.Trusted.{CheckStep, back_frame_of, last_packet_frame, late_run_start}
use Rattle.sub_rules.specs.Trusted.{run_of}
use Rattle.sub_rules.specs.Trusted.{first_unfinished_of}
use Rattle.sub_rules.specs.Trusted.{stays_fault_free, reports_order_fault, events_reported_after}
use Rattle.sub_rules.specs.Trusted.{events_reported_at_step, first_finished_of}

before_all : (g : Criteria) (earlier later : List PesPacket) (u : UnreadReason)
    → joined_after g.within (sent_by_pes_packets g earlier) (frames_of later)
    ≡ sent_by_pes_packets g (earlier ++ Skipped u ∷ later)
unfolding frames_of
before_all g earlier later u = grind (arith, nat_tests, frames_of-append, joined_after-append)

module _ (g : Criteria) (earlier : List PesPacket) (u : UnreadReason) (later : List PesPacket)
    (some : 0 < length (sent_by_pes_packets g earlier))
    (rises : RiseTo (sent_by_pes_packets g earlier) (length (sent_by_pes_packets g earlier)))
  where
    abbrev sent : Transmission
    sent = sent_by_pes_packets g earlier

    abbrev n : ℕ
    n = length sent

    abbrev all : List PesPacket
    all = earlier ++ Skipped u ∷ later

    abbrev frames : Transmission
    frames = sent_by_pes_packets g all

    -- The last frame before the skipped PES packet is not one of the frames `from` to `to`.
    abbrev IsOutsideStretch : ℕ → ℕ → Type 0
    IsOutsideStretch from to = (end_frame sent < from) ⊎ (to < end_frame sent)

    same : (i : ℕ) → i < n → frame_at frames i ≡ frame_at sent i
    same i under =
        let grown : GrowsTo sent frames =
        subst (GrowsTo sent) (before_all g earlier later u) (grows g.within sent (frames_of later))
        in
        frame_eq g sent frames grown (n - 1) (omega arith) i (omega arith)

    abbrev first : List CheckStep
    first = steps_of_each g [] 0 earlier

    abbrev t : List CheckStep
    t = history_after [] first

    before : Goes (IsTrustedBeforeEnd g sent 0) (HasSentFrames g sent 0 sent) [] first
    before = each_passes g sent 0 [] 0 [] earlier refl (inl (inr refl, start g sent))

    last_is : last_packet_frame t ≡ end_frame sent
    last_is = grind (arith, nat_tests, before)

    undelayed_tracker_sees_no_lateness : (g.within == 0) ≡ true → SeesNoLateness t
    undelayed_tracker_sees_no_lateness e = grind (arith, nat_tests, before)

    plain : needs_back_steps g ≡ false → back_frame_of t ≡ None
    plain e = elim before.after [
      | inl (ended, closed) ↦ closed.keeps.plain e
      | inr (later, k, size, opens) ↦ opens.keeps.plain e
    ]

    back_frame_is_by_end : has_risen t ≡ true → (r : ℕ) → back_frame_of t ≡ Some r → r ≤ end_frame
        sent
    back_frame_is_by_end rises r is = grind (arith, nat_tests, before)

    run_has_risen : (from : ℕ) → run_of t ≡ Some from → has_risen t ≡ true
    run_has_risen from is = grind (arith, nat_tests, before, run_needs_rising_frames, has_risen)

    abbrev pes : ℕ
    pes = length earlier

    abbrev es : List Event
    es = Reported (unread_fault pes (Some u)) ∷ []

    abbrev now : List CheckStep
    now = AtPes pes ∷ t

    abbrev v : List CheckStep
    v = history_after now (map Emits es)

    last_packet_frame_eq : last_packet_frame now ≡ end_frame sent
    unfolding last_packet_frame
    last_packet_frame_eq = last_is

    invalidation : first_invalidated_frame now es ≡ Some (last_packet_frame now)
    invalidation = skipped_packet_invalidates_last_packet now pes u

    -- A skipped PES packet ends the current run.
    skipped_packet_ends_run : run_of v ≡ None
    skipped_packet_ends_run = let so = emits_steps_emit_events now es in rw invalidation at
        so.run_eq

    no_run_is_left : (from : ℕ) → run_of v ≡ Some from → ⊥
    no_run_is_left from is = none-some from (sym skipped_packet_ends_run ∙ is)

    skipped_packet_is_a_fault : stays_fault_free v ≡ false
    skipped_packet_is_a_fault =
        let so = emits_steps_emit_events now es in
        let is = so.clean_flags_agree in
        let ends_it = invalidation in
        grind (arith, nat_tests)

    frames_had_risen_before : has_risen v ≡ true → has_risen t ≡ true
    unfolding reports_order_fault
    frames_had_risen_before e = let so = emits_steps_emit_events now es in let is = so.rises_is
        in grind (arith, nat_tests)

    back_frame_is_unchanged : back_frame_of v ≡ back_frame_of t
    unfolding back_frame_of
    back_frame_is_unchanged = (emits_steps_emit_events now es).back_frames_agree

    keeps : (k x : ℕ) → Keeps g frames n k x v
    unfolding run_of first_finished_of last_packet_frame first_unfinished_of late_run_start
        stays_fault_free
        reports_order_fault
    keeps k x = record {
      run = λ from is. absurd (no_run_is_left from is);
      ends = λ from is. absurd (no_run_is_left from is);
      whole = λ from w is whole. absurd (no_run_is_left from is);
      above = λ from is. absurd (no_run_is_left from is);
      falls = λ e. skipped_packet_ends_run;
      at_once = λ e.
          let so = emits_steps_emit_events now es in
          let before = undelayed_tracker_sees_no_lateness e in
          record {
            first_unfinished = so.first_unfinished_eq ∙ before.first_unfinished;
            late = so.late_eq ∙ before.late;
            whole = λ there. absurd (true≢false (sym there ∙ ap is_some skipped_packet_ends_run));
          };
      plain = λ e. back_frame_is_unchanged ∙ plain e;
    }

    sends : HasSentFrames g frames n sent v
    sends = go (g.within == 0) refl
      where
        last_packet_is_in_last_frame : last_packet_frame v ≡ frame_at frames (n - 1)
        last_packet_is_in_last_frame =
            let so = emits_steps_emit_events now es in
            so.last_is ∙ last_packet_frame_eq ∙ sym (same (n - 1) (omega arith))

        up : (i : ℕ) → 0 < i → i < n → frame_at frames (i - 1) < frame_at frames i
        up i positive under =
            let own = same i under in
            let last = same (i - 1) (omega arith) in
            let rise = rises i positive under in
            omega arith

        back : has_risen v ≡ true → (r : ℕ) → back_frame_of v ≡ Some r → r ≤ frame_at frames (n - 1)
        back rises r is =
            let high = back_frame_is_by_end (frames_had_risen_before rises) r
            (sym back_frame_is_unchanged ∙ is) in
            let own = same (n - 1) (omega arith) in
            omega arith

        go : (b : Bool) → (g.within == 0) ≡ b → HasSentFrames g frames n sent v
        go true e = inl (
          inl e,
          record {
            keeps = keeps n (frame_at frames (n - 1) + 1);
            base_at_most = le_refl n;
            last = λ below. last_packet_is_in_last_frame;
            rises = λ so. up;
            first_unfinished = λ r from is so. absurd (no_run_is_left from is);
            back = λ rises r is. (some, back rises r is);
          },
        )
        go false e = inr (
          e,
          n - 1,
          omega arith,
          record {
            keeps = keeps (n - 1) (frame_at frames (n - 1));
            base_at_most = omega arith;
            last = last_packet_is_in_last_frame;
            rises = λ so i positive under. up i positive (omega arith);
            clean = λ clean. absurd (true≢false (sym clean ∙ skipped_packet_is_a_fault));
            fresh = λ clean. absurd (true≢false (sym clean ∙ skipped_packet_is_a_fault));
            back = back;
          },
        )

    ended : HoldsForEachTrusted IsOutsideStretch (events_reported_after now (map Emits es))
    unfolding run_of back_frame_of
    ended =
        (Goes-emits IsOutsideStretch (λ z. List CheckStep) now es
        (All-cons (HoldsIfTrusted IsOutsideStretch) (Reported (unread_fault pes (Some u))) []
        tt (All-nil (HoldsIfTrusted IsOutsideStretch)))
        (λ x from w invalidated run whole under.
        let at : last_packet_frame now ≡ x = same_Some (last_packet_frame now) x
        (sym invalidation ∙ invalidated)
        in
        let last = last_packet_frame_eq in
        let low : frame_after_going_back now x ≤ end_frame sent =
        frame_going_back_is_bounded now x (end_frame sent) (omega arith)
        (λ r is. back_frame_is_by_end (run_has_risen from run) r is) in
        inr (omega arith)) (λ z so. z)).each

    pub trusted_stretches_exclude_skipped : HoldsForEachTrusted IsOutsideStretch
        (all_events_of_pes_packets g all)
    unfolding all_events_of_pes_packets ungrouped_events_of_pes_packets steps_of_each
        events_reported_after events_reported_at_step
    trusted_stretches_exclude_skipped =
        let rest : List CheckStep =
        steps_of_each g sent (suc pes) later
        ++ steps_of_pending_end g frames
        ++ steps_of_closing g frames (length all) (length frames) in
        let own : List CheckStep = AtPes pes ∷ map Emits es in
        let parts : steps_of_pes_packets g all ≡ first ++ (own ++ rest) =
        ap (λ (ms : List CheckStep). ms
        ++ steps_of_pending_end g frames
        ++ steps_of_closing g frames (length all) (length frames))
        (steps_of_each-append g [] 0 pes earlier (Skipped u ∷ later) (omega arith))
        ∙ joined first (own ++ steps_of_each g sent (suc pes) later) (steps_of_pending_end g frames)
        (steps_of_closing g frames (length all) (length frames)) in
        let reported : HoldsForEachTrusted IsOutsideStretch
        (ungrouped_events_of_pes_packets g all) =
        subst (HoldsForEachTrusted IsOutsideStretch)
        (sym
        (ap (events_reported_after []) parts
        ∙ events_reported_after-append [] first (own ++ rest)
        ∙ ap (λ (l : List Event). events_reported_after [] first ++ l)
        (events_reported_after-append now (map Emits es) rest)))
        (All-append (HoldsIfTrusted IsOutsideStretch) (events_reported_after [] first) _
        (each-weaker (IsTrustedBeforeEnd g sent 0) IsOutsideStretch (events_reported_after [] first)
        (λ from to passes. inr (passes.early rises)) before.each)
        (All-append (HoldsIfTrusted IsOutsideStretch) (events_reported_after now (map Emits es))
        (events_reported_after v rest)
        ended
        (each-weaker (IsTrustedAtClose g frames n) IsOutsideStretch (events_reported_after v rest)
        (λ from to passes.
        let above = passes.above (n - 1) (omega arith) in
        let own = same (n - 1) (omega arith) in
        inl (omega arith))
        (all_steps_trust_good_stretches g frames n sent (suc pes) (length all) v later
        (before_all g earlier later u)
        sends)))) in
        All-append (HoldsIfTrusted IsOutsideStretch)
        (announced_events no_run (ungrouped_events_of_pes_packets g all)) _
        (each-announced IsOutsideStretch no_run (ungrouped_events_of_pes_packets g all) reported)
        (each-ended IsOutsideStretch
        (skipped_run_after_events no_run (ungrouped_events_of_pes_packets g all)))
      where
        joined : (ks ls ms ns : List CheckStep) → ks ++ ls ++ ms ++ ns ≡ ks ++ (ls ++ ms ++ ns)
        joined ks ls ms ns =
            ap (λ (l : List CheckStep). l ++ ns) (append_assoc ks ls ms)
            ∙ append_assoc ks (ls ++ ms) ns

pub skipped_packets_are_outside_stretch : (g : Criteria) (pes_packets : List PesPacket)
    (from to : ℕ)
    → Contains (all_events_of_pes_packets g pes_packets) (Trusted from to)
    → IsSkippedOutside g pes_packets from to
skipped_packets_are_outside_stretch g pes_packets from to reported earlier later u is some few =
    let sent : Transmission = sent_by_pes_packets g earlier in
    let frames : Transmission = sent_by_pes_packets g pes_packets in
    let grown : GrowsTo sent frames =
    subst (GrowsTo sent)
    (before_all g earlier later u ∙ ap (sent_by_pes_packets g) (sym is))
    (grows g.within sent (frames_of later)) in
    let size : length sent ≡ suc (length sent - 1) = omega arith in
    let all = rising_part_has_rising_count frames in
    let rises : RiseTo sent (length sent) = (λ i positive under.
    let up = rising_part_rises frames i positive (omega arith) in
    let own = frame_eq g sent frames grown (length sent - 1) size i (omega arith) in
    let last = frame_eq g sent frames grown (length sent - 1) size (i - 1) (omega arith) in
    omega arith) in
    grind (arith, nat_tests, last-same, trusted_stretches_exclude_skipped)
