-- The trusted frames that are reported at the end of a frame belong to a run of fault-free frames
-- and, if `within` is not 0, the page is finished at the end of at least one of them.
use Rattle.std.proofs.lemmas.Bool.Decides.{nat_tests}
use Rattle.std.proofs.Common.{◌≡◌, ℕ, suc, ◌-◌, ◌<◌, ◌≤◌, ◌⊎◌, inl, inr, Bool, true, false, ◌&&◌}
use Rattle.std.proofs.Common.{List, [], ◌∷◌, ◌++◌, length, map, Option, Some, None, is_some, refl}
use Rattle.std.proofs.Common.{sym, ap, ◌∙◌, subst, arith, if◌then◌else◌, is_none}
use Rattle.std.specs.Option.{option_or}
use Rattle.std.proofs.lemmas.Bool.{true≢false}
use Rattle.std.proofs.lemmas.Option.{none-some}
use Rattle.ttx_page.specs.PacketKind.{kind}
use Rattle.ttx_page.specs.Span.{has_text_beginning}
use Rattle.sub_rules.specs.Events.{events_at_end, first_header_events, latest_frame}
use Rattle.sub_rules.specs.Events.{active_faults_at}
use Rattle.sub_rules.specs.FrameRules.{Criteria, end_frame, frame_at, packets_of_frame}
use Rattle.sub_rules.specs.PesPacketEvents.{steps_at_end, steps_of_ending}
use Rattle.sub_rules.specs.Transmission.{Transmission}
use Rattle.sub_rules.specs.Trusted.CheckStep.{Ends, Emits}
use Rattle.sub_rules.specs.declared.event.Event.{Event}
use Rattle.sub_trusted.proofs.TrackerStateLemmas.{HasEndedFrames, IsAfterFrames, IsCorrectFrom}
use Rattle.sub_trusted.proofs.TrackerStateLemmas.{HasBegunNextFrame}
use Rattle.sub_trusted.proofs.TrackerStateLemmas.{IsFaultFreeFrame}
use Rattle.sub_trusted.proofs.TrackerStateLemmas.{run_may_end_in_frame}
use Rattle.sub_trusted.proofs.TrackerStateLemmas.{begun_frame_continues_after_events}
use Rattle.sub_trusted.proofs.TrackerStateLemmas.{fault_free_frame_extends_run}
use Rattle.sub_trusted.proofs.TrackerStateLemmas.{fault_free_header_begins_run}
use Rattle.sub_trusted.proofs.TrackerStateLemmas.{run_starts_by_last_frame}
use Rattle.sub_trusted.proofs.TrackerStateLemmas.{run_continues_or_begins}
use Rattle.sub_trusted.proofs.TrackerStateLemmas.{run_needs_rising_frames}
use Rattle.sub_trusted.proofs.TrackerStateLemmas.{tracked_run_has_its_facts}
use Rattle.sub_trusted.proofs.TrackerStateLemmas.{finished_frame_gives_correct_frame}
use Rattle.sub_trusted.proofs.LateInvalidationLemmas.{first_unfinished_before_at_most}
use Rattle.sub_trusted.proofs.LateInvalidationLemmas.{header_fault_invalidates_nothing}
use Rattle.sub_trusted.proofs.LateInvalidationLemmas.{no_trusted_frames_in_header_events}
use Rattle.sub_trusted.proofs.LateInvalidationLemmas.{seen_run_start_is_bounded}
use Rattle.sub_trusted.proofs.LateInvalidationLemmas.{seen_run_start}
use Rattle.sub_laws.proofs.PrefixLemmas.{before, rising_frames_are_ordered}
use Rattle.sub_laws.proofs.RisingEndLemmas.{latest_at}
use Rattle.sub_trusted.proofs.EmittedStepLemmas.{Goes-append, Goes-cons, Goes-nil, Goes-emits}
use Rattle.sub_trusted.proofs.TrustedRunLemmas.{IsRun}
use Rattle.sub_trusted.proofs.FrameEndStateLemmas.{HasEndInRun}
use Rattle.sub_trusted.proofs.TrustedStepLemmas.{IsTrustedBeforeEnd, ReportsGoodStretches}
use Rattle.sub_trusted.proofs.TrustedStepLemmas.{end_steps_report_good_stretches}
use Rattle.sub_trusted.proofs.TrustedStepLemmas.{tracking_continues_after_end}
use Rattle.sub_trusted.proofs.EmittedStepLemmas.{has_risen}
use Rattle.sub_rules.specs.Trusted.{CheckStep, back_frame_of, last_packet_frame, late_run_start}
use Rattle.sub_rules.specs.Trusted.{run_of}
use Rattle.sub_rules.specs.Trusted.{first_unfinished_of}
use Rattle.sub_rules.specs.Trusted.{has_no_active_faults, stays_fault_free, reports_order_fault}
use Rattle.sub_rules.specs.Trusted.{events_reported_at_step, frame_if_finished}
use Rattle.sub_rules.specs.Trusted.{first_finished_of}

-- The first frame of the run at whose end the page was finished, if any, is the current frame f, or
-- was found before in the same run.
correct_frame_is_new_or_kept : (run whole first_unfinished : Option ℕ) (f w : ℕ)
    → option_or (if is_none run then None else whole) (frame_if_finished f first_unfinished) ≡ Some
    w
    → ((first_unfinished ≡ None) × (f ≡ w)) ⊎ ((whole ≡ Some w) × (is_some run ≡ true))
correct_frame_is_new_or_kept run whole first_unfinished f w e = grind (arith, nat_tests)

module _ (g : Criteria) (frames : Transmission) (base : ℕ) where
  -- All packets of frame n were sent, and its end was checked.
  record IsAfterEndStep (n : ℕ) (t : List CheckStep) : Type 0 where
    opens : HasBegunNextFrame g frames base n (packets_of_frame frames n) t
    first_unfinished_eq : first_unfinished_of t ≡ seen_run_start g frames (suc n)
        (frame_at frames n)
    first_unfinished : has_risen t ≡ true → (r : ℕ) → first_unfinished_of t ≡ Some r → r ≤ frame_at
        frames n

  abbrev has : ℕ → Bool
  has n = has_text_beginning g.watched.keeps (kind g.watched.page) (packets_of_frame frames n)

  abbrev fault_free : ℕ → Bool
  fault_free n = has_no_active_faults (active_faults_at g frames (suc n) (frame_at frames n))

  abbrev step : ℕ → CheckStep
  step n = Ends (frame_at frames n) (has n) (fault_free n)

  ended : (n : ℕ) (t : List CheckStep) → n < length frames → IsAfterEndStep n t
      → HasEndedFrames g frames base (suc n) (step n ∷ t)
  unfolding run_of first_finished_of last_packet_frame first_unfinished_of late_run_start
      back_frame_of
      stays_fault_free
      reports_order_fault
  ended n t there ending = record {
    keeps = record {
      run = run_continues_after_end;
      ends = λ from is m e end few low high. (run_continues_after_end from is).ends m e end few low
          high;
      whole = correct_frame_is_known_after_end;
      above = run_is_after_base_frames;
      falls = λ e. falling_frames_have_no_run e (stays_fault_free t) refl;
      at_once = λ e.
          let none = ending.opens.keeps.at_once e in
          record {
            first_unfinished = none.first_unfinished;
            late = none.late;
            whole = λ there.
                finished_frame_gives_correct_frame
                (if is_none (run_of t) then None else first_finished_of t)
                (first_unfinished_of t)
                (frame_at frames n) none.first_unfinished;
          };
      plain = ending.opens.keeps.plain;
    };
    base_at_most = ending.opens.base_at_most;
    last = λ some. ending.opens.last ∙ ap (frame_at frames) (omega arith);
    rises = ending.opens.rises;
    first_unfinished = λ r from is e.
        let (clean, none, was) = kept from is in
        let low = ending.first_unfinished (ending.opens.clean clean).0 r e in
        let back : frame_at frames n ≡ frame_at frames (suc n - 1) =
        ap (frame_at frames) (omega arith) in
        omega arith;
    back = λ e r is.
        let low = ending.opens.back e r is in
        let back : frame_at frames n ≡ frame_at frames (suc n - 1) =
        ap (frame_at frames) (omega arith) in
        (omega arith, omega arith);
  }
    where
      kept : (from : ℕ) → run_of (step n ∷ t) ≡ Some from
          → (stays_fault_free t ≡ true) × (fault_free n ≡ true)
          × ((run_of t ≡ Some from)
          ⊎ ((run_of t ≡ None) × (has n ≡ true) × (frame_at frames n ≡ from)))
      kept from is =
          run_continues_or_begins (stays_fault_free t) (fault_free n) (run_of t) (has n)
          (frame_at frames n) from
          is

      clean_frame_is_fault_free : stays_fault_free t ≡ true → fault_free n ≡ true → IsFaultFreeFrame
          g frames n
      clean_frame_is_fault_free clean none =
          let both = ending.opens.clean clean in
          record { rises = ending.opens.rises both.0; kept = both.1; none = none }

      run_continues_after_end : (from : ℕ) → run_of (step n ∷ t) ≡ Some from → IsRun g frames
          (suc n) from
      run_continues_after_end from is =
          let (clean, none, was) = kept from is in
          elim was [
            | inl before ↦
                fault_free_frame_extends_run g frames n from (clean_frame_is_fault_free clean none)
                (ending.opens.keeps.run from
                before)
                (ending.opens.keeps.ends from before)
            | inr (no_run_is_left, header, here) ↦
                subst (IsRun g frames (suc n)) here (fault_free_header_begins_run g frames n
                (clean_frame_is_fault_free clean none)
                header)
          ]

      correct_frame_is_known_after_end : (from w : ℕ) → run_of (step n ∷ t) ≡ Some from
          → first_finished_of (step n ∷ t) ≡ Some w
          → IsCorrectFrom g frames from w
      correct_frame_is_known_after_end from w is whole =
          let (clean, none, was) = kept from is in
          let low = run_starts_by_last_frame g frames (suc n) from (run_continues_after_end from is)
          in
          let back : frame_at frames (suc n - 1) ≡ frame_at frames n =
          ap (frame_at frames) (omega arith) in
          elim (correct_frame_is_new_or_kept (run_of t) (first_finished_of t)
          (first_unfinished_of t)
          (frame_at frames n) w whole) [
            | inl (first_unfinished, here) ↦
                subst (IsCorrectFrom g frames from) here (record {
                  low = omega arith;
                  n = suc n;
                  end = (omega arith, omega arith, inl (sym back));
                  rises = ending.opens.rises (ending.opens.clean clean).0;
                  finished = sym ending.first_unfinished_eq ∙ first_unfinished;
                })
            | inr (earlier, some_run) ↦ elim was [
              | inl before ↦ ending.opens.keeps.whole from w before earlier
              | inr (no_run_is_left, header, here) ↦ absurd
                  (true≢false (sym some_run ∙ ap is_some no_run_is_left))
            ]
          ]

      run_is_after_base_frames : (from : ℕ) → run_of (step n ∷ t) ≡ Some from → IsAfterFrames g
          frames base from
      run_is_after_base_frames from is i under =
          let (clean, none, was) = kept from is in
          let rises = ending.opens.rises (ending.opens.clean clean).0 in
          let low = ending.opens.fresh clean in
          let before = rising_frames_are_ordered frames (suc n) rises i (n - 1) (omega arith)
          (omega arith) in
          let own = rises n (omega arith) (omega arith) in
          elim was [
            | inl earlier ↦ ending.opens.keeps.above from earlier i under
            | inr (no_run_is_left, header, here) ↦ omega arith
          ]

      falling_frames_have_no_run : has_risen t ≡ false → (clean : Bool) → stays_fault_free t ≡ clean
          → (if clean && fault_free n then option_or (run_of t)
          (if has n then Some (frame_at frames n)
          else None) else None) ≡ None
      falling_frames_have_no_run falls false is = refl
      falling_frames_have_no_run falls true is = absurd
          (true≢false (sym (ending.opens.clean is).0 ∙ falls))

  pub ending : (n : ℕ) (t : List CheckStep) → n < length frames
      → HasBegunNextFrame g frames base n (packets_of_frame frames n) t
      → ReportsGoodStretches g frames base (HasEndedFrames g frames base (suc n)) t
      (steps_of_ending g frames n)
  unfolding events_reported_at_step
  ending n t there opens =
      let f : ℕ = frame_at frames n in
      let packets : List (List ℕ) = packets_of_frame frames n in
      let last : CheckStep = step n in
      Goes-append (IsTrustedBeforeEnd g frames base) (IsAfterEndStep n)
      (HasEndedFrames g frames base (suc n)) t
      (map Emits (first_header_events g frames n) ++ steps_at_end g frames n (suc n) f) (last ∷ [])
      (Goes-append (IsTrustedBeforeEnd g frames base) (HasBegunNextFrame g frames base n packets)
      (IsAfterEndStep n) t
      (map Emits (first_header_events g frames n)) (steps_at_end g frames n (suc n) f)
      (header opens)
      (λ u so. end_steps_reach_end_state u so))
      (λ v so.
      Goes-cons (IsTrustedBeforeEnd g frames base) (HasEndedFrames g frames base (suc n)) v last []
      refl
      (Goes-nil (IsTrustedBeforeEnd g frames base) (HasEndedFrames g frames base (suc n)) (last ∷ v)
      (ended n v there so)))
    where
      header : HasBegunNextFrame g frames base n (packets_of_frame frames n) t
          → ReportsGoodStretches g frames base
          (HasBegunNextFrame g frames base n (packets_of_frame frames n)) t
          (map Emits (first_header_events g frames n))
      header opens =
          let es : List Event = first_header_events g frames n in
          let none = header_fault_invalidates_nothing t g frames n in
          Goes-emits (IsTrustedBeforeEnd g frames base)
          (HasBegunNextFrame g frames base n (packets_of_frame frames n)) t es
          (no_trusted_frames_in_header_events (IsTrustedBeforeEnd g frames base) g frames n)
          (λ x from w invalidation run whole l. absurd (none-some x (sym none ∙ invalidation)))
          (λ u emitted.
          begun_frame_continues_after_events g frames base n (packets_of_frame frames n)
          (packets_of_frame frames n) t u
          es
          opens emitted (λ fault_free kept. kept))

      top : (u : List CheckStep) → HasBegunNextFrame g frames base n (packets_of_frame frames n) u →
          has_risen u
          ≡ true
          → latest_frame frames (suc n) ≤ frame_at frames n
      top u so rises =
          let last = latest_at frames (suc n) (so.rises rises) (omega arith) in
          let back : frame_at frames (suc n - 1) ≡ frame_at frames n =
          ap (frame_at frames) (omega arith) in
          omega arith

      below : (u : List CheckStep) → HasBegunNextFrame g frames base n (packets_of_frame frames n) u
          → has_risen u ≡ true
          → 0 < n
          → latest_frame frames n < frame_at frames n
      below u so rises some =
          let rise = so.rises rises in
          let up = rise n some (omega arith) in
          let last = latest_at frames n (λ i a b. rise i a (omega arith)) some in
          omega arith

      end_steps_reach_end_state : (u : List CheckStep) → HasBegunNextFrame g frames base n
          (packets_of_frame frames n) u
          → ReportsGoodStretches g frames base (IsAfterEndStep n) u (steps_at_end g frames n (suc n)
          (frame_at frames n))
      end_steps_reach_end_state u so =
          let f : ℕ = frame_at frames n in
          let es : List Event = events_at_end g frames n (suc n) f in
          let low : (from : ℕ) → run_of u ≡ Some from → HasEndInRun g frames (suc n) f from =
          (λ from is.
          let h = tracked_run_has_its_facts g frames base n f from u so.keeps so.rises is in
          let first = run_starts_by_last_frame g frames n from (so.keeps.run from is) in
          let up = h.up in
          let back : frame_at frames n ≡ frame_at frames (suc n - 1) =
          ap (frame_at frames) (omega arith) in
          (omega arith, (omega arith, omega arith, inl back), h.rises)) in
          end_steps_report_good_stretches g frames base n (suc n) f u (IsAfterEndStep n)
          (λ from is. top u so (run_needs_rising_frames (has_risen u) (run_of u) from so.keeps.falls
          is)) so.keeps
          low
          (λ from is. run_may_end_in_frame g frames base n (packets_of_frame frames n) u there so
          from is
          (end_frame frames))
          (λ from is some. below u so (run_needs_rising_frames (has_risen u) (run_of u) from
          so.keeps.falls is)
          some)
          (λ now v looks backs emitted.
          let so_now : HasBegunNextFrame g frames base n (packets_of_frame frames n) now =
          record {
            keeps = tracking_continues_after_end g frames base n f (suc n) f u now looks so.keeps
                low;
            base_at_most = so.base_at_most;
            last = looks.last_is ∙ so.last;
            rises = λ e. so.rises (sym looks.rises_is ∙ e);
            clean = λ e.
                let both = so.clean (sym looks.clean_flags_agree ∙ e) in
                (looks.rises_is ∙ both.0, both.1);
            fresh = λ e. so.fresh (sym looks.clean_flags_agree ∙ e);
            back = λ e r is.
                (first_unfinished_before_at_most g frames n f r (backs r is)
                (below u so (sym looks.rises_is ∙ e))).1;
          } in
          record {
            opens =
                begun_frame_continues_after_events g frames base n (packets_of_frame frames n)
                (packets_of_frame frames
                n)
                now v es so_now emitted (λ fault_free kept. kept);
            first_unfinished_eq = emitted.first_unfinished_eq ∙
                looks.first_unfinished_eq;
            first_unfinished = λ rises r is.
                let rises_is = emitted.rises_is in
                let looked = looks.rises_is in
                let was : has_risen u ≡ true = grind (arith, nat_tests) in
                seen_run_start_is_bounded g frames (suc n) f r
                (sym looks.first_unfinished_eq ∙ sym emitted.first_unfinished_eq ∙
                is)
                (top u so was);
          })
