-- The faults and steps that the checker computes at the end of a frame are those of the rules.
use Rattle.std.proofs.lemmas.Bool.Decides.{nat_tests}
use Rattle.std.proofs.Common.{◌≡◌, ℕ, zero, suc, ◌+◌, ◌-◌, ◌<◌, ◌≤◌, Bool, false, ◌||◌}
use Rattle.std.proofs.Common.{cond, List, [], ◌∷◌, ◌++◌, map, Option, Some, None, refl, sym}
use Rattle.std.proofs.Common.{ap, ap₂, ◌∙◌, arith, ◌==◌}
use Rattle.std.proofs.lemmas.List.{append-nil}
use Rattle.ttx_page.specs.Page.{Rows}
use Rattle.sub_plan.specs.Schedule.{due_page_in}
use Rattle.sub_checker.specs.Checker.{CheckerValue, checker_after_end, back_steps}
use Rattle.sub_checker.specs.Checker.{current_wrong_cell, end_steps}
use Rattle.sub_checker.specs.Checker.{is_overdue_at, is_due_page_undecided, is_currently_unfinished}
use Rattle.sub_checker.specs.Checker.{must_be_correct_now}
use Rattle.sub_checker.specs.Checker.{IsFaultFreeEnd, current_run_start, active_faults_of}
use Rattle.sub_checker.specs.Checker.{is_currently_undecided, current_unexpected_cell}
use Rattle.sub_packets.specs.StoredPage.{is_kept_page_incomplete}
use Rattle.sub_packets.proofs.StoredPageLemmas.{incomplete_heard}
use Rattle.sub_packets.proofs.StoredPageLemmas.{unexpected_kept_is_that_after_packets, wrong_heard}
use Rattle.sub_checker.specs.CheckedFrames.{HasStarted, AgreesWithPackets}
use Rattle.sub_rules.specs.Events.{previous_end_frame, end_events, end_rules, events_at_end}
use Rattle.sub_rules.specs.Events.{is_silent}
use Rattle.sub_rules.specs.Events.{gap_length, no_active_faults, is_silent_for, is_incomplete}
use Rattle.sub_rules.specs.Events.{is_late}
use Rattle.sub_rules.specs.Events.{is_overdue, is_unfinished, latest_frame, first_unfinished_before}
use Rattle.sub_rules.specs.Events.{first_unfinished_in_frames}
use Rattle.sub_rules.specs.Events.{first_unfinished_in_gap, active_faults_at, active_faults_before}
use Rattle.sub_rules.specs.Events.{is_undecided_within}
use Rattle.sub_rules.specs.Events.{unexpected_cell, extended_unfinished_run, unfinished_run_start}
use Rattle.sub_rules.specs.Events.{first_wrong_cell_after}
use Rattle.sub_rules.specs.Events.{wrong_cell}
use Rattle.sub_rules.specs.FrameRules.{Criteria, frame_at, packets_before}
use Rattle.sub_rules.specs.PesPacketEvents.{steps_at_end, steps_before}
use Rattle.sub_rules.specs.Transmission.{Transmission}
use Rattle.sub_rules.specs.Trusted.{CheckStep}
use Rattle.sub_rules.specs.Trusted.CheckStep.{AtEnd, Emits}
use Rattle.sub_rules.specs.declared.event.Event.{Event}
use Rattle.sub_rules.proofs.EndRuleLemmas.{first_end_events_ignore_previous_frame}
use Rattle.sub_rules.specs.declared.active_faults.ActiveFaults.{ActiveFaults}

pub gap_on :
    (g : Criteria) (frames : Transmission) (n f : ℕ)
    → 0 < n
    → latest_frame frames n < f
    → unfinished_run_start g frames n f
    ≡ extended_unfinished_run (first_unfinished_before g frames n f) (is_unfinished g frames n f) f
unfolding unfinished_run_start first_unfinished_before first_unfinished_in_gap
gap_on g frames n f some later = grind (arith, nat_tests)

pub run_start_at_last_frame : (g : Criteria) (frames : Transmission) (n : ℕ)
    → unfinished_run_start g frames (suc n) (frame_at frames n) ≡ first_unfinished_in_frames g
    frames
    (suc n)
unfolding unfinished_run_start first_unfinished_in_gap latest_frame
run_start_at_last_frame g frames n =
    let none : frame_at frames n - latest_frame frames (suc n) ≡ 0 = grind (arith, nat_tests) in
    ap (first_unfinished_in_gap g frames (suc n) (first_unfinished_in_frames g frames (suc n))) none

run_start_before_last_frame : (g : Criteria) (frames : Transmission) (n : ℕ)
    → first_unfinished_in_gap g frames n (first_unfinished_in_frames g frames n)
    (gap_length frames n)
    ≡ first_unfinished_before g frames n (frame_at frames n)
unfolding first_unfinished_before unfinished_run_start first_unfinished_in_gap
    first_unfinished_in_frames gap_length
run_start_before_last_frame g frames zero = refl
run_start_before_last_frame g frames (suc n) =
    ap (first_unfinished_in_gap g frames (suc n) (first_unfinished_in_frames g frames (suc n)))
    (omega arith)

pub run_start_at_next_frame : (g : Criteria) (frames : Transmission) (n : ℕ)
    → unfinished_run_start g frames (suc n) (frame_at frames n)
    ≡ extended_unfinished_run (first_unfinished_before g frames n (frame_at frames n))
    (is_unfinished g frames (suc n) (frame_at frames n)) (frame_at frames n)
unfolding first_unfinished_in_frames
run_start_at_next_frame g frames n = grind (
  arith,
  nat_tests,
  run_start_at_last_frame,
  run_start_before_last_frame,
)

pub run_start_before_gap : (g : Criteria) (frames : Transmission) (n f : ℕ)
    → f ≤ latest_frame frames n + 1
    → first_unfinished_before g frames n f ≡ first_unfinished_in_frames g frames n
unfolding first_unfinished_before unfinished_run_start first_unfinished_in_gap
    first_unfinished_in_frames
run_start_before_gap g frames n f low = grind (arith, nat_tests)

pub run_start_before_next_gap_frame : (g : Criteria) (frames : Transmission) (n f e : ℕ)
    → 0 < n
    → e ≡ f + 1
    → first_unfinished_before g frames n e ≡ unfinished_run_start g frames n f
unfolding first_unfinished_before
run_start_before_next_gap_frame g frames zero f e some is = absurd (omega arith)
run_start_before_next_gap_frame g frames (suc n) f e some is =
    ap (unfinished_run_start g frames (suc n)) (omega (arith, is))

pub previous_end_is_last_frame : (frames : Transmission) (n f : ℕ) → f ≤ latest_frame frames n + 1
    → previous_end_frame frames n f ≡ frame_at frames (n - 1)
previous_end_is_last_frame frames n f l = grind (arith, nat_tests)

pub previous_end_is_frame_before : (frames : Transmission) (n f : ℕ) → latest_frame frames n < f
    → previous_end_frame frames n (f + 1) ≡ f
previous_end_is_frame_before frames n f l = grind (arith, nat_tests)

end_events_agree :
    (g : Criteria) (frames : Transmission) (i n f : ℕ) (old new : ActiveFaults) (last : ℕ)
    → old ≡ active_faults_before g frames i f
    → (0 < i → last ≡ previous_end_frame frames i f)
    → new ≡ active_faults_at g frames n f
    → end_events old last new f ≡ events_at_end g frames i n f
unfolding active_faults_before
end_events_agree g frames zero n f old new last is at now = rw (is, now)
    (first_end_events_ignore_previous_frame _ _ _ _)
end_events_agree g frames (suc i) n f old new last is at now = rw (is, now, at (omega arith)) refl

-- After the first PES packet, the frames of silence are counted from the latest frame with a PES
-- packet.
silence_is_counted_from_latest_frame : (g : Criteria) (frames : Transmission) (n f : ℕ) → 0 < n
    → is_silent g frames n f ≡ is_silent_for g.pace (latest_frame frames n) f
unfolding is_silent
silence_is_counted_from_latest_frame g frames zero f some = absurd (omega arith)
silence_is_counted_from_latest_frame g frames (suc n) f some = refl

pub overdue_test_is_exact : (g : Criteria) (c : CheckerValue) (first : ℕ) (first_unfinished : Option
    ℕ) (f : ℕ)
    (last : List (List ℕ)) (frames : Transmission) (n : ℕ)
    → AgreesWithPackets g frames n last c
    → is_overdue g first first_unfinished f ≡ is_overdue_at c.programme c.within first
    first_unfinished f
overdue_test_is_exact g c first None f last frames n known = refl
overdue_test_is_exact g c first (Some s) f last frames n known =
    ap (λ (t : Criteria). is_overdue t first (Some s) f) known.criteria_are

pub back_steps_agree :
    (g : Criteria) (frames : Transmission) (i n f : ℕ) (last : List (List ℕ)) (c : CheckerValue)
    → AgreesWithPackets g frames n last c
    → (0 < g.within → c.first_unfinished ≡ first_unfinished_before g frames i f)
    → back_steps c ≡ steps_before g (first_unfinished_before g frames i f)
back_steps_agree g frames i n f last c known first_unfinished = grind (arith, nat_tests)

pub undelayed_checker_never_goes_back : (c : CheckerValue) → c.within ≡ 0 → back_steps c ≡ []
undelayed_checker_never_goes_back c each = grind (arith, nat_tests)

lateness_tests_agree_if_delayed : (w : ℕ) (a b : Bool) → (0 < w → a ≡ b) → (w == 0 || a) ≡
    (w == 0 || b)
lateness_tests_agree_if_delayed w a b same = grind (arith, nat_tests)

module _ (g : Criteria) (frames : Transmission) (i n f : ℕ) (last : List (List ℕ))
    (c : CheckerValue)
    (known : AgreesWithPackets g frames n last c) (begun : HasStarted g frames n c)
    (at : c.frame ≡ f)
    (due : c.listener.comparison.due ≡ due_page_in c.programme c.frame)
    (no_faults_before : c.active_faults ≡ active_faults_before g frames i f)
    (before : 0 < i → c.last ≡ previous_end_frame frames i f)
    (first_unfinished : 0 < g.within → c.first_unfinished ≡ first_unfinished_before g frames i f)
    (on : unfinished_run_start g frames n f
    ≡ extended_unfinished_run (first_unfinished_before g frames i f) (is_unfinished g frames n f) f)
    (some : 0 < n) (latest_is : c.latest_frame ≡ latest_frame frames n)
  where
    abbrev so_far : List (List ℕ)
    so_far = packets_before frames n

    within_eq : g.within ≡ c.within
    within_eq = ap (λ (t : Criteria). t.within) known.criteria_are

    wrong_eq : current_wrong_cell c ≡ wrong_cell g frames n f
    wrong_eq =
        ap (λ (o : Option (ℕ × ℕ)). cond (is_due_page_undecided c c.frame) None o)
        (wrong_heard so_far c.listener known.knows.knows)
        ∙ ap (λ (d : Rows). cond (is_due_page_undecided c c.frame) None
        (first_wrong_cell_after c.listener.watched.keeps c.listener.watched.page so_far d)) due
        ∙ ap (λ (k : ℕ). cond (is_due_page_undecided c k) None
        (first_wrong_cell_after c.listener.watched.keeps c.listener.watched.page so_far
        (due_page_in c.programme k))) at
        ∙ ap (λ (t : Criteria). wrong_cell t frames n f) (sym known.criteria_are)

    incomplete_test_is_exact : is_kept_page_incomplete c.listener ≡ is_incomplete g frames n
    unfolding is_incomplete
    incomplete_test_is_exact =
        incomplete_heard so_far c.listener known.knows.knows
        ∙ ap (λ (t : Criteria). is_incomplete t frames n) (sym known.criteria_are)

    unfinished_test_is_exact : is_currently_unfinished c ≡ is_unfinished g frames n f
    unfinished_test_is_exact = rw (wrong_eq, incomplete_test_is_exact) refl

    first_unfinished_eq : 0 < g.within → current_run_start c ≡ unfinished_run_start g frames n f
    first_unfinished_eq l = rw (first_unfinished l, unfinished_test_is_exact, at) (sym on)

    late_eq : must_be_correct_now c ≡ is_late g frames n f
    unfolding is_late
    late_eq =
        lateness_tests_agree_if_delayed c.within _ _
        (λ l.
        ap (λ (s : Option ℕ). is_overdue_at c.programme c.within c.first s c.frame)
        (first_unfinished_eq (rw within_eq l))
        ∙ rw (begun.first_is, at) (sym (overdue_test_is_exact g c (frame_at frames 0)
        (unfinished_run_start g frames n f) f last frames n known)))
        ∙ ap (λ (w : ℕ). w == 0
        || is_overdue g (frame_at frames 0) (unfinished_run_start g frames n f) f) (sym within_eq)

    undecided_test_is_exact : is_currently_undecided c ≡ is_undecided_within g frames f
    undecided_test_is_exact =
        rw (begun.first_is, at)
        (ap (λ (t : Criteria). is_undecided_within t frames f) (sym known.criteria_are))

    unexpected_cell_is_exact : current_unexpected_cell c ≡ unexpected_cell g frames n f
    unexpected_cell_is_exact =
        ap (λ (o : Option (ℕ × ℕ)). cond (is_currently_undecided c) None o)
        (unexpected_kept_is_that_after_packets so_far c.listener known.knows.knows
        (due_page_in c.programme) c.first c.frame
        c.within)
        ∙ rw (begun.first_is, at)
        (ap (λ (t : Criteria). unexpected_cell t frames n f) (sym known.criteria_are))

    silence_test_is_exact : is_silent_for c.pace c.latest_frame c.frame ≡ is_silent g frames n f
    silence_test_is_exact =
        rw (latest_is, at)
        (ap (λ (t : Criteria). is_silent_for t.pace (latest_frame frames n) f)
        (sym known.criteria_are)
        ∙ sym (silence_is_counted_from_latest_frame g frames n f some))

    pub active_faults_of_checker_are_exact : active_faults_of c ≡ active_faults_at g frames n f
    unfolding active_faults_at
    active_faults_of_checker_are_exact =
        rw (
          silence_test_is_exact,
          late_eq,
          wrong_eq,
          unexpected_cell_is_exact,
          undecided_test_is_exact,
          incomplete_test_is_exact,
          begun.gap_eq f,
          at,
        ) refl

    pub checker_end_steps_are_exact : end_steps c ≡ steps_at_end g frames i n f
    checker_end_steps_are_exact =
        ap₂ (λ (back ms : List CheckStep). back ++ ms ++ map Emits (end_events c.active_faults
        c.last
        (active_faults_of c) c.frame))
        (back_steps_agree g frames i n f last c known first_unfinished)
        firsts
        ∙ ap (λ (es : List Event). steps_before g (first_unfinished_before g frames i f)
        ++ (cond (g.within == 0) []
        (AtEnd f (unfinished_run_start g frames n f) (is_late g frames n f) ∷ [])) ++ map Emits es)
        (ap (end_events c.active_faults c.last (active_faults_of c)) at
        ∙ end_events_agree g frames i n f c.active_faults (active_faults_of c) c.last
        no_faults_before before active_faults_of_checker_are_exact)
      where
        by : (w : ℕ) → (0 < w → current_run_start c ≡ unfinished_run_start g frames n f)
            → cond (w == 0) [] (AtEnd c.frame (current_run_start c) (must_be_correct_now c) ∷ [])
            ≡ cond (w == 0) []
            (AtEnd f (unfinished_run_start g frames n f) (is_late g frames n f) ∷ [])
        by zero same = refl
        by (suc w) same = rw (late_eq, same (omega arith), at) refl

        firsts : cond (c.within == 0) []
            (AtEnd c.frame (current_run_start c) (must_be_correct_now c) ∷ [])
            ≡ cond (g.within == 0) []
            (AtEnd f (unfinished_run_start g frames n f) (is_late g frames n f) ∷ [])
        firsts =
            by c.within (λ l. first_unfinished_eq (rw within_eq l))
            ∙ ap (λ (w : ℕ). cond (w == 0) []
            (AtEnd f (unfinished_run_start g frames n f) (is_late g frames n f) ∷ []))
            (sym within_eq)

    pub run_start_after_end_is_exact : 0 < g.within → (checker_after_end c).first_unfinished ≡
        unfinished_run_start g
        frames n f
    run_start_after_end_is_exact l = by c.within (rw (sym within_eq) l)
      where
        by : (w : ℕ) → 0 < w
            → cond (w == 0) c.first_unfinished (current_run_start c) ≡ unfinished_run_start g
            frames
            n f
        by zero m = absurd (omega arith)
        by (suc w) m =
            let not_each : (suc w == 0) ≡ false = grind (arith, nat_tests) in
            rw not_each (first_unfinished_eq l)

pub undelayed_end_steps : (d c : CheckerValue) (s : ActiveFaults)
    → d ≡ c
    → c.within ≡ 0
    → s ≡ active_faults_of c
    → end_steps c
    ≡ map Emits (end_events d.active_faults d.last s d.frame)
undelayed_end_steps d c s same each is = grind (arith, nat_tests, undelayed_checker_never_goes_back)

pub delayed_end_steps : (d c : CheckerValue) (s : ActiveFaults)
    (first_unfinished : Option ℕ) (late : Bool)
    → d ≡ c
    → 0 < c.within
    → s ≡ active_faults_of c
    → first_unfinished ≡ current_run_start c
    → late ≡ must_be_correct_now c
    → end_steps c
    ≡ (back_steps d ++ AtEnd d.frame first_unfinished late ∷ [])
    ++ map Emits (end_events d.active_faults d.last s d.frame)
delayed_end_steps d c s first_unfinished late same some is first_unfinished_eq late_eq = grind
    (arith, nat_tests)

fault_free_ends_report_nothing : (old new : ActiveFaults) (before f : ℕ)
    → old ≡ no_active_faults
    → new ≡ no_active_faults
    → end_events old before new f ≡ []
unfolding end_events end_rules
fault_free_ends_report_nothing old new before f none none_now = rw (none, none_now) refl

pub undelayed_clean_end_has_no_steps : (v c : CheckerValue) → v ≡ c → v.within ≡ 0 → IsFaultFreeEnd
    c → end_steps c ≡
    []
undelayed_clean_end_has_no_steps v c same each fault_free =
    let no_faults_before = fault_free.no_faults_before in
    let no_faults_now = fault_free.no_faults_now in
    grind (arith, nat_tests, fault_free_ends_report_nothing)

pub delayed_clean_end_steps : (v c : CheckerValue) → v ≡ c → 0 < v.within → IsFaultFreeEnd c
    → end_steps c ≡ back_steps (record v { last = v.frame }) ++ AtEnd v.frame None false ∷ []
delayed_clean_end_steps v c same some fault_free =
    let no_faults_before = fault_free.no_faults_before in
    let no_faults_now = fault_free.no_faults_now in
    let first_unfinished = fault_free.first_unfinished in
    grind (arith, nat_tests, fault_free_ends_report_nothing, append-nil)
