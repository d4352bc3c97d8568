-- The events at the end of the file that the checker computes from its state are those of the
-- rules.
use Rattle.std.proofs.lemmas.Bool.Decides.{nat_tests}
use Rattle.std.proofs.Common.{◌≡◌, ℕ, zero, suc, ◌<◌, Bool, true, false, ◌&&◌, ◌||◌, not}
use Rattle.std.proofs.Common.{cond, is_some, List, [], ◌∷◌, ◌++◌, length, Option, Some, None, refl}
use Rattle.std.proofs.Common.{sym, subst, ap, ap₂, ◌∙◌, arith, flat_map, ◌==◌, map}
use Rattle.std.specs.List.{list_any}
use Rattle.stl_rows.specs.Programme.{last_tco}
use Rattle.sub_checker.specs.Checker.{CheckerValue, is_overdue_at, is_currently_pending}
use Rattle.sub_checker.specs.CheckedFrames.{AfterEnd}
use Rattle.sub_io.specs.Reporting.{Reports}
use Rattle.sub_checker.specs.FusedAudience.{ReportsUnlessStopped}
use Rattle.sub_checker.specs.Relay.{ReporterRelays, relay_after, relayed_events}
use Rattle.sub_checker.specs.declared.reporter.Reporter.{Reporter}
use Rattle.sub_checker.specs.LastEvents.{closing_events_of_checker, ending_fault, fault_events}
use Rattle.sub_checker.specs.LastEvents.{last_fault}
use Rattle.sub_checker.specs.LastEvents.{last_fault_after}
use Rattle.sub_checker.specs.TrustTracker.{after_step, invalidated, is_order_fault, events_of_steps}
use Rattle.sub_checker.specs.TrustTracker.{events_of_step}
use Rattle.sub_checker.specs.TrustTracker.{tracker_after}
use Rattle.sub_checker.specs.declared.trust_tracker.TrustTracker.{TrustTracker}
use Rattle.sub_rules.specs.Events.{place_of_broken_rule, closing_events, end_events, end_rules}
use Rattle.sub_rules.specs.Events.{fault_ending_events}
use Rattle.sub_rules.specs.Events.{is_late, is_overdue, is_pending, ends_too_early, late_events}
use Rattle.sub_rules.specs.Events.{no_active_faults, unread_or_late_events, rule_events}
use Rattle.sub_rules.specs.Events.{active_faults_at}
use Rattle.sub_rules.specs.Events.{unfinished_run_start, unread_fault}
use Rattle.sub_rules.specs.FrameRules.{Criteria, UnreadReason, end_frame, frame_at}
use Rattle.sub_rules.specs.PesPacketEvents.{closing_events_of_pes_packets}
use Rattle.sub_rules.specs.Transmission.{Transmission}
use Rattle.sub_rules.specs.Trusted.{with_pes_number, has_no_active_faults, reports_no_event}
use Rattle.sub_rules.specs.Trusted.CheckStep.{Closes, Emits}
use Rattle.sub_rules.specs.declared.end_rule.EndRule.{EndRule}
use Rattle.sub_rules.specs.declared.event.Event.{Event}
use Rattle.sub_rules.specs.declared.event.Event.TheVariants.{Reported}
use Rattle.sub_rules.specs.declared.fault.CheckFault.{CheckFault}
use Rattle.sub_rules.specs.declared.fault.CheckFault.TheVariants as fault
use Rattle.sub_rules.specs.declared.active_faults.ActiveFaults.{ActiveFaults}
use Rattle.sub_rules.proofs.EndRuleLemmas.{no_active_faults_break_no_rule}
use Rattle.sub_rules.proofs.TrustedLemmas.{reports_no_event-two}
use Rattle.sub_checker.proofs.FrameEndLemmas.{overdue_test_is_exact, run_start_at_last_frame}

pending_tests_agree_if_delayed : (w : ℕ) (s t : Option ℕ) (a b : Bool)
    → (0 < w → s ≡ t)
    → (0 < w → a ≡ b)
    → (not (w == 0) && is_some s && not a) ≡ (is_some t && not (w == 0 || b))
pending_tests_agree_if_delayed w s t a b same late = grind (arith, nat_tests)

module _ (g : Criteria) (frames : Transmission) (n : ℕ) (last : List (List ℕ)) (c : CheckerValue)
    (all : length frames ≡ suc n) (follows : AfterEnd g frames (suc n) last c)
  where
    end_eq : end_frame frames ≡ frame_at frames n
    end_eq = ap (frame_at frames) (omega (arith, all))

    last_is : c.last ≡ frame_at frames n
    last_is = follows.last_is (omega arith) ∙ ap (frame_at frames) (omega arith)

    first_unfinished_eq : 0 < g.within → c.first_unfinished ≡ unfinished_run_start g frames (suc n)
        (frame_at frames n)
    first_unfinished_eq l = follows.first_unfinished_eq l ∙ sym (run_start_at_last_frame g frames n)

    within_eq : g.within ≡ c.within
    within_eq = ap (λ (t : Criteria). t.within) follows.known.criteria_are

    -- The page is unfinished at frame e but may still become finished: `within` (w) is not 0, and
    -- the page is not overdue.
    abbrev is_end_pending : ℕ → ℕ → ℕ → Bool
    is_end_pending w k e =
        is_some (unfinished_run_start g frames k e)
        && not (w == 0 || is_overdue g (frame_at frames 0) (unfinished_run_start g frames k e) e)

    last_overdue_test_is_exact : 0 < c.within
        → is_overdue_at c.programme c.within c.first c.first_unfinished c.last
        ≡ is_overdue g (frame_at frames 0)
        (unfinished_run_start g frames (suc n) (frame_at frames n))
        (frame_at frames n)
    last_overdue_test_is_exact l =
        rw ((follows.begun (omega arith)).first_is, last_is, first_unfinished_eq (rw within_eq l))
        (sym (overdue_test_is_exact g c (frame_at frames 0)
        (unfinished_run_start g frames (suc n) (frame_at frames n)) (frame_at frames n) last frames
        (suc n) follows.known))

    pub pending_test_is_exact : is_currently_pending c ≡ is_pending g frames
    unfolding is_pending is_late
    pending_test_is_exact =
        pending_tests_agree_if_delayed c.within c.first_unfinished
        (unfinished_run_start g frames (suc n) (frame_at frames n))
        (is_overdue_at c.programme c.within c.first c.first_unfinished c.last)
        (is_overdue g (frame_at frames 0)
        (unfinished_run_start g frames (suc n) (frame_at frames n))
        (frame_at frames n))
        (λ l. first_unfinished_eq (rw within_eq l)) last_overdue_test_is_exact
        ∙ ap (λ (w : ℕ). is_end_pending w (suc n) (frame_at frames n)) (sym within_eq)
        ∙ ap (λ (k : ℕ). is_end_pending g.within k (frame_at frames n)) (sym all)
        ∙ ap (is_end_pending g.within (length frames)) (sym end_eq)

    pub late_events_are_last_fault_events : (pes : ℕ) → late_events g frames ≡ fault_events
        (last_fault pes None c)
    late_events_are_last_fault_events pes = by (ends_too_early g.last_tco (end_frame frames) ||
        is_pending g frames) late_eq
      where
        late_eq : (ends_too_early (last_tco c.programme.records) c.last || is_currently_pending c)
            ≡ (ends_too_early g.last_tco (end_frame frames) || is_pending g frames)
        late_eq =
            rw (pending_test_is_exact, last_is, end_eq)
            (ap (λ (t : Criteria). ends_too_early t.last_tco (frame_at frames n) || is_pending g
            frames)
            (sym follows.known.criteria_are))

        by : (b : Bool)
            → (ends_too_early (last_tco c.programme.records) c.last || is_currently_pending c) ≡ b
            → cond b (Reported (fault.Late (end_frame frames)) ∷ []) []
            ≡ fault_events (last_fault pes None c)
        by true is = rw (follows.number, is, last_is, end_eq) refl
        by false is = rw (follows.number, is) refl

    pub endings_eq :
        fault_ending_events (active_faults_at g frames (suc n) (end_frame frames))
        (end_frame frames)
        ≡ fault_ending_events c.active_faults c.last
    endings_eq =
        let active_faults_of : c.active_faults ≡ active_faults_at g frames (suc n)
        (frame_at frames n) =
        follows.active_faults_eq (omega arith)
        ∙ ap (λ (k : ℕ). active_faults_at g frames (suc n) (frame_at frames k)) (omega arith) in
        rw (active_faults_of, last_is, end_eq) refl

-- The two lists of events have the same reports and the same effect on the trusted frames. They may
-- differ in PES packet numbers, which the tracker replaces.
pub record AreSameReports (es fs : List Event) : Type 0 where
  pub both_report_nothing : reports_no_event es ≡ reports_no_event fs
  pub emitted_reports_agree : (t : TrustTracker) → events_of_steps t (map Emits es) ≡
      events_of_steps t
      (map Emits fs)
  pub trackers_agree : (t : TrustTracker) → tracker_after t (map Emits es) ≡ tracker_after t
      (map Emits fs)

equal_events_have_same_reports : (es fs : List Event) → es ≡ fs → AreSameReports es fs
equal_events_have_same_reports es fs is =
    rw is (record {
      both_report_nothing = refl;
      emitted_reports_agree = λ t. refl;
      trackers_agree = λ t. refl;
    })

module _ (k n : ℕ) (u : UnreadReason) where
  -- The events of the list are followed by the fault of the unread bytes, which names PES packet i.
  abbrev with_unread_fault : List Event → ℕ → List Event
  with_unread_fault es i = es ++ Reported (unread_fault i (Some u)) ∷ []

  unread_fault_number_changes_no_emptiness : (es : List Event) → reports_no_event
      (with_unread_fault es k) ≡ reports_no_event (with_unread_fault es n)
  unread_fault_number_changes_no_emptiness [] = refl
  unread_fault_number_changes_no_emptiness (e ∷ es) = refl

  unread_fault_number_changes_no_report : (es : List Event) (t : TrustTracker)
      → events_of_steps t (map Emits (with_unread_fault es k)) ≡ events_of_steps t
      (map Emits (with_unread_fault es n))
  unfolding events_of_steps events_of_step invalidated with_pes_number
  unread_fault_number_changes_no_report [] t = grind (arith, nat_tests)
  unread_fault_number_changes_no_report (e ∷ es) t = grind
      (arith, nat_tests, (unread_fault_number_changes_no_report es (after_step (Emits e) t)))

  unread_fault_number_changes_no_tracker : (es : List Event) (t : TrustTracker)
      → tracker_after t (map Emits (with_unread_fault es k)) ≡ tracker_after t
      (map Emits (with_unread_fault es n))
  unfolding tracker_after after_step invalidated is_order_fault
  unread_fault_number_changes_no_tracker [] t = grind (arith, nat_tests)
  unread_fault_number_changes_no_tracker (e ∷ es) t = grind
      (arith, nat_tests, (unread_fault_number_changes_no_tracker es))

  unread_fault_numbers_report_the_same : (es : List Event) → AreSameReports (with_unread_fault es k)
      (with_unread_fault es n)
  unread_fault_numbers_report_the_same es = grind (
    arith,
    nat_tests,
    unread_fault_number_changes_no_emptiness,
    unread_fault_number_changes_no_report,
    unread_fault_number_changes_no_tracker,
  )

no_active_fault_ends_nothing : (f : ℕ) → fault_ending_events no_active_faults f ≡ []
unfolding end_events end_rules
no_active_fault_ends_nothing f = refl

pub closing_events_agree :
    (g : Criteria) (list : Transmission) (pes : ℕ) (last : List (List ℕ)) (c : CheckerValue)
    (given : Option CheckFault)
    → AfterEnd g list (length list) last c
    → given ≡ ending_fault pes g.unread
    → AreSameReports (closing_events_of_pes_packets g list pes (length list))
    (closing_events_of_checker pes given c)
unfolding closing_events_of_pes_packets closing_events
closing_events_agree g list pes last c given follows is = rw is (go (length list) refl follows)
  where
    empty_file_reports_last_fault : (pes : ℕ) (late : Bool) (u : Option UnreadReason) → g.unread ≡ u
        → closing_events_of_pes_packets g list pes 0
        ≡ fault_events (last_fault_after (ending_fault pes u) 0 pes late c.last)
    empty_file_reports_last_fault zero late None is = rw is refl
    empty_file_reports_last_fault zero late (Some u) is = rw is refl
    empty_file_reports_last_fault (suc pes) late None is = rw is refl
    empty_file_reports_last_fault (suc pes) late (Some u) is = rw is refl

    sent : (pes n : ℕ)
        → closing_events_of_pes_packets g list pes (suc n)
        ≡ fault_ending_events (active_faults_at g list (suc n) (end_frame list)) (end_frame list)
        ++ unread_or_late_events g list g.unread
    sent zero n = refl
    sent (suc pes) n = refl

    by : (n : ℕ) → length list ≡ suc n → AfterEnd g list (suc n) last c → (u : Option UnreadReason)
        → AreSameReports (fault_ending_events c.active_faults c.last ++ unread_or_late_events g list
        u)
        (closing_events_of_checker pes (ending_fault pes u) c)
    by n all here None =
        equal_events_have_same_reports _ _
        (ap (λ (es : List Event). fault_ending_events c.active_faults c.last ++ es)
        (late_events_are_last_fault_events g list n last c all here pes))
    by n all here (Some u) = unread_fault_numbers_report_the_same (length list) pes u
        (fault_ending_events c.active_faults c.last)

    go : (n : ℕ) → length list ≡ n → AfterEnd g list n last c
        → AreSameReports (closing_events_of_pes_packets g list pes n)
        (closing_events_of_checker pes (ending_fault pes g.unread) c)
    go zero all here =
        equal_events_have_same_reports _ _
        (rw (here.none refl, here.number, no_active_fault_ends_nothing c.last)
        (empty_file_reports_last_fault pes _ g.unread refl))
    go (suc n) all here =
        subst (λ (es : List Event). AreSameReports es
        (closing_events_of_checker pes (ending_fault pes g.unread)
        c))
        (sym (sent pes n
        ∙ ap (λ (es : List Event). es ++ unread_or_late_events g list g.unread)
        (endings_eq g list n last c all here)))
        (by n all here g.unread)

-- If two lists of events have the same reports, a reporter passes both lists to the device in the
-- same way.
pub same_reports_are_relayed_alike : {D : Type 0} {d : _} {IsReported : D → Event → D → Type 0}
    {a b : Reporter D d}
    (es fs : List Event) → AreSameReports es fs
    → ReporterRelays IsReported a (map Emits fs) b
    → ReporterRelays IsReported a (map Emits es) b
unfolding relayed_events relay_after
same_reports_are_relayed_alike {IsReported = IsReported} {a = a} {b = b} es fs alike relays =
    let reported : relayed_events a.relay (map Emits es) ≡ relayed_events a.relay (map Emits fs) =
    rw (alike.emitted_reports_agree a.relay.tracker) refl in
    let kept : relay_after a.relay (map Emits es) ≡ relay_after a.relay (map Emits fs) =
    rw (alike.emitted_reports_agree a.relay.tracker, alike.trackers_agree a.relay.tracker) refl in
    record {
      reported = subst (Reports (ReportsUnlessStopped IsReported) a.fused b.fused) (sym reported)
          relays.reported;
      kept = relays.kept ∙ sym kept;
    }

ending_faults_reports_nothing_if_none : (s : ActiveFaults) (f : ℕ) → reports_no_event
    (end_events s f no_active_faults f) ≡
    has_no_active_faults s
unfolding end_events
ending_faults_reports_nothing_if_none s f = go end_rules
  where
    one : (rule : EndRule) (o : Option (ℕ × ℕ))
        → reports_no_event (rule_events rule o f None f) ≡ not (is_some o)
    one rule None = refl
    one rule (Some cell) = refl

    go : (rules : List EndRule)
        → reports_no_event
        (flat_map
        (λ rule. rule_events rule (place_of_broken_rule rule s) f (place_of_broken_rule rule
        no_active_faults) f) rules)
        ≡ not (list_any (λ rule. is_some (place_of_broken_rule rule s)) rules)
    go [] = refl
    go (rule ∷ rules) =
        let here = one rule (place_of_broken_rule rule s) in
        let rest = go rules in
        let parts =
        reports_no_event-two (rule_events rule (place_of_broken_rule rule s) f None f)
        (flat_map (λ r. rule_events r (place_of_broken_rule r s) f
        (place_of_broken_rule r no_active_faults) f) rules) in
        rw (no_active_faults_break_no_rule rule) grind (arith, nat_tests)

pub closing_reports_if_fault_is_left : (pes : ℕ) (given : Option CheckFault) (c : CheckerValue)
    → (is_some (last_fault pes given c) || not (has_no_active_faults c.active_faults))
    ≡ not (reports_no_event (closing_events_of_checker pes given c))
closing_reports_if_fault_is_left pes given c = grind (
  arith,
  nat_tests,
  reports_no_event-two,
  ending_faults_reports_nothing_if_none,
)

-- The checker's last step at the end of the file has the same two values as the last step by the
-- rules: whether a fault ended reading, and whether a subtitle is unreliable or an event is
-- reported at the end of the file.
pub closing_steps_agree :
    (g : Criteria) (list : Transmission) (pes : ℕ) (last : List (List ℕ)) (c : CheckerValue)
    (given : Option CheckFault) (left more : Bool)
    → AfterEnd g list (length list) last c
    → given ≡ ending_fault pes g.unread
    → left ≡ is_some given
    → more ≡ (c.any_unreliable || not (reports_no_event (closing_events_of_checker pes given c)))
    → Closes left more
    ≡ Closes (is_some g.unread)
    (g.any_unreliable || not
    (reports_no_event (closing_events_of_pes_packets g list pes (length list))))
closing_steps_agree g list pes last c given left more follows is left_eq more_eq =
    ap₂ Closes (left_eq ∙ ap is_some is ∙ some g.unread)
    (more_eq
    ∙ ap₂ (λ (a b : Bool). a || not b)
    (sym (ap (λ (t : Criteria). t.any_unreliable) follows.known.criteria_are))
    (sym (closing_events_agree g list pes last c given follows is).both_report_nothing))
  where
    some : (u : Option UnreadReason) → is_some (ending_fault pes u) ≡ is_some u
    some None = refl
    some (Some u) = refl

pub closing_events_are_endings_and_fault : (pes : ℕ) (given reported : Option CheckFault)
    (v c : CheckerValue)
    (none : ActiveFaults)
    → v ≡ c
    → none ≡ no_active_faults
    → reported ≡ last_fault pes given c
    → closing_events_of_checker pes given c
    ≡ end_events v.active_faults v.last none v.last ++ fault_events reported
closing_events_are_endings_and_fault pes given reported v c none same is last = rw (is, last, same)
    refl
