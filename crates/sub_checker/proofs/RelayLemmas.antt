-- If a reporter passes the events of a list to the device one by one, it passes the events of the
-- entire list.
use Rattle.std.proofs.lemmas.Bool.Decides.{nat_tests}
use Rattle.std.proofs.Common.{arith}
use Rattle.std.proofs.Common.{◌≡◌, List, [], ◌∷◌, ◌++◌, Bool, true, false, map}
use Rattle.std.proofs.Common.{refl, sym, ap, ◌∙◌, subst, Option}
use Rattle.std.proofs.lemmas.Bool.{true≢false}
use Rattle.std.proofs.lemmas.List.{append-nil}
use Rattle.sub_io.specs.Reporting.{Reports, ReportsInOrder, first_as_list}
use Rattle.sub_io.proofs.ReportingLemmas.{Reports-none, Reports-trans}
use Rattle.sub_rules.specs.PesPacketEvents.{announced_events, announced, skipped_run_after}
use Rattle.sub_rules.specs.PesPacketEvents.{skipped_run_after_events}
use Rattle.sub_rules.specs.Trusted.{CheckStep, with_pes_number}
use Rattle.sub_rules.specs.Trusted.CheckStep.{Closes, Emits}
use Rattle.sub_rules.specs.declared.event.Event.{Event}
use Rattle.sub_rules.specs.PesPacketEvents.{SkippedRun}
use Rattle.sub_checker.specs.declared.trust_tracker.TrustTracker.{TrustTracker}
use Rattle.sub_rules.proofs.PesPacketEventLemmas.{announced_events-append, skipped_run_after-append}
use Rattle.sub_checker.specs.FusedAudience.{ReportsUnlessStopped}
use Rattle.sub_checker.specs.StoredSkippedRun.{skipped_run_of, stored_run}
use Rattle.sub_checker.specs.Relay.{IsRelayed, ReporterRelays, at_step, relay_after, relayed_events}
use Rattle.sub_checker.specs.declared.skipped_run.StoredSkippedRun.{StoredSkippedRun}
use Rattle.sub_checker.specs.declared.reporter.Relay.{Relay}
use Rattle.sub_checker.specs.declared.reporter.Reporter.{Reporter}
use Rattle.sub_checker.proofs.TrustTrackerLemmas.{events_of_steps-append, tracker_after-append}
use Rattle.sub_checker.specs.TrustTracker.{after_step, invalidated, overdue_run_start}
use Rattle.sub_checker.specs.TrustTracker.{events_of_steps, events_of_step}
use Rattle.sub_checker.specs.TrustTracker.{tracker_after, trusted_events_before}

pub after-append : (p : Relay) (xs ys : List CheckStep)
    → relay_after p (xs ++ ys) ≡ relay_after (relay_after p xs) ys
unfolding relay_after
after-append p xs ys =
    grind (arith, nat_tests, events_of_steps-append, tracker_after-append, skipped_run_after-append)

pub skipped-append : (p : Relay) (xs ys : List CheckStep)
    → relayed_events p (xs ++ ys) ≡ relayed_events p xs ++ relayed_events (relay_after p xs) ys
unfolding relayed_events relay_after
skipped-append p xs ys =
    ap (announced_events (skipped_run_of p.run)) (events_of_steps-append p.tracker xs ys)
    ∙ announced_events-append (skipped_run_of p.run) (events_of_steps p.tracker xs) _

pub after-none : (p : Relay) → relay_after p [] ≡ p
unfolding relay_after tracker_after events_of_steps skipped_run_after_events
after-none p = refl

pub skipped-none : (p : Relay) → relayed_events p [] ≡ []
unfolding relayed_events events_of_steps announced_events
skipped-none p = refl

module _ {D : Type 0} {g : _} (IsReported : D → Event → D → Type 0) where
  pub relays-none : (s : Reporter D g) → ReporterRelays IsReported s [] s
  relays-none s = record {
    reported =
        subst (Reports (ReportsUnlessStopped IsReported) s.fused s.fused)
        (sym (skipped-none s.relay)) (Reports-none s.fused);
    kept = sym (after-none s.relay);
  }

  pub relays-trans : (a b c : Reporter D g) (xs ys : List CheckStep)
      → ReporterRelays IsReported a xs b
      → ReporterRelays IsReported b ys c
      → ReporterRelays IsReported a (xs ++ ys) c
  relays-trans a b c xs ys first second = record {
    reported =
        subst (Reports (ReportsUnlessStopped IsReported) a.fused c.fused)
        (sym (skipped-append a.relay xs ys))
        (Reports-trans _ _ _ _ _ first.reported
        (subst
        (λ (p : Relay). Reports (ReportsUnlessStopped IsReported) b.fused c.fused
        (relayed_events p ys))
        first.kept second.reported));
    kept =
        second.kept
        ∙ ap (λ (p : Relay). relay_after p ys) first.kept
        ∙ sym (after-append a.relay xs ys);
  }

one_step_is_relayed : (p : Relay) (m : CheckStep)
    → relayed_events p (m ∷ []) ≡ announced_events (skipped_run_of p.run)
    (events_of_step m p.tracker)
unfolding relayed_events events_of_steps
one_step_is_relayed p m = ap (announced_events (skipped_run_of p.run))
    (append-nil (events_of_step m p.tracker))

relay_state_after_one_step : (p : Relay) (m : CheckStep)
    → relay_after p (m ∷ []) ≡ record {
      tracker = after_step m p.tracker;
      run = stored_run (skipped_run_after_events (skipped_run_of p.run)
          (events_of_step m p.tracker));
    }
unfolding relay_after events_of_steps tracker_after
relay_state_after_one_step p m = grind (arith, nat_tests, append-nil)

pub reporting_one_step_relays_it : {D : Type 0} {g : _} (IsReported : D → Event → D → Type 0)
    (s t : Reporter D g)
    (m : CheckStep) (es : List Event)
    → es ≡ events_of_step m s.relay.tracker
    → t.relay.tracker ≡ after_step m s.relay.tracker
    → Reports (ReportsUnlessStopped IsReported) s.fused t.fused
    (announced_events (skipped_run_of s.relay.run) es)
    → t.relay.run ≡ stored_run (skipped_run_after_events (skipped_run_of s.relay.run) es)
    → ReporterRelays IsReported s (m ∷ []) t
reporting_one_step_relays_it IsReported s t m es is tracker reported run = grind (
  arith,
  nat_tests,
  one_step_is_relayed,
  relay_state_after_one_step,
)

pub announcing_appends_one_event : (run : SkippedRun) (mid : StoredSkippedRun) (xs : List Event)
    (e : Event)
    → mid ≡ stored_run (skipped_run_after_events run xs)
    → announced_events run (xs ++ e ∷ []) ≡ announced_events run xs ++ announced
    (skipped_run_of mid) e
unfolding announced_events
announcing_appends_one_event run mid xs e is = grind (
  arith,
  nat_tests,
  announced_events-append,
  append-nil,
)

pub skipped_run_is_kept_after_event : (run : SkippedRun) (mid : StoredSkippedRun) (xs : List Event)
    (e : Event)
    → mid ≡ stored_run (skipped_run_after_events run xs)
    → stored_run (skipped_run_after (skipped_run_of mid) e) ≡ stored_run (skipped_run_after_events
    run (xs ++ e ∷ []))
unfolding skipped_run_after_events
skipped_run_is_kept_after_event run mid xs e is =
    ap (λ (r : StoredSkippedRun). stored_run (skipped_run_after (skipped_run_of r) e)) is
    ∙ sym (ap stored_run (skipped_run_after-append run xs (e ∷ [])))

pub emitted_event_reports_trusted_frames : (t u : TrustTracker) (e named : Event)
    (first : Option Event)
    → first_as_list first ≡ trusted_events_before t.run t.first_finished t.back
    (invalidated t.last (overdue_run_start t) e)
    → u ≡ after_step (Emits e) t
    → named ≡ with_pes_number u.pes e
    → first_as_list first ++ named ∷ [] ≡ events_of_step (Emits e) t
unfolding events_of_step after_step
emitted_event_reports_trusted_frames t u e named first before kept is = rw (before, is, kept) refl

pub silent : {D : Type 0} {g : _} (IsReported : D → Event → D → Type 0) (s t : Reporter D g)
    (m : CheckStep)
    → t ≡ at_step m s
    → events_of_step m s.relay.tracker ≡ []
    → ReporterRelays IsReported s (m ∷ []) t
unfolding announced_events skipped_run_after_events
silent IsReported s t m is none =
    let no = Reports-none {IsReported = ReportsUnlessStopped IsReported} s.fused in
    grind (arith, nat_tests, one_step_is_relayed, relay_state_after_one_step)

module _ {D : Type 0} {g : _} (IsReported : D → Event → D → Type 0) where
  one_by_one : (old new : Reporter D g) (es : List Event)
      → ReportsInOrder (IsRelayed IsReported) old new es
      → ReporterRelays IsReported old (map Emits es) new
  one_by_one old new [] same =
      subst (λ (s : Reporter D g). ReporterRelays IsReported old [] s) (sym same)
      (relays-none IsReported old)
  one_by_one old new (e ∷ es) (mid, first, rest) =
      relays-trans IsReported old mid new (Emits e ∷ []) (map Emits es) first
      (one_by_one mid new es rest)

  pub reported_events_are_relayed : (old new : Reporter D g) (es : List Event)
      → Reports (IsRelayed IsReported) old new es
      → ReporterRelays IsReported old (map Emits es) new
  reported_events_are_relayed old new es reported = one_by_one old new es reported.one_by_one

abbrev pub may_report : CheckStep → Bool
may_report (Emits e) = true
may_report (Closes left more) = true
may_report m = false

pub silent_step_reports_nothing : (m : CheckStep) (t : TrustTracker) → may_report m ≡ false →
    events_of_step m t ≡ []
unfolding events_of_step
silent_step_reports_nothing (Emits e) t none = absurd (true≢false none)
silent_step_reports_nothing (Closes left more) t none = absurd (true≢false none)
silent_step_reports_nothing m t none = refl
