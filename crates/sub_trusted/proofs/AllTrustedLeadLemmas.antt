-- If each of two lists of steps reports a range of frames as trusted or leaves a state with a given
-- property, so do both lists, one after the other.
use Rattle.std.proofs.lemmas.Bool.Decides.{nat_tests}
use Rattle.std.proofs.Common.{◌≡◌, ℕ, ◌-◌, ◌<◌, ◌≤◌, ◌⊎◌, inl, inr, List, [], ◌∷◌, ◌++◌, map}
use Rattle.std.proofs.Common.{Contains, Option, Some, None, refl, sym, subst, arith, ◌∙◌}
use Rattle.std.proofs.lemmas.Bool.{lt-ltb}
use Rattle.std.proofs.lemmas.List.Elements.{Contains-append_left, Contains-append_right}
use Rattle.std.proofs.lemmas.Option.{none-some}
use Rattle.std.specs.Option.{option_or}
use Rattle.sub_rules.specs.Trusted.CheckStep.{Emits}
use Rattle.sub_rules.specs.declared.event.Event.{Event}
use Rattle.sub_rules.specs.declared.event.Event.TheVariants.{Trusted}
use Rattle.sub_rules.proofs.TrustedLemmas.{history_after, history_after-append}
use Rattle.sub_rules.proofs.TrustedLemmas.{events_reported_after-append}
use Rattle.sub_trusted.proofs.EmittedStepLemmas.{frame_after_going_back}
use Rattle.sub_trusted.proofs.EmittedStepLemmas.{emitted_event_keeps_invalidation}
use Rattle.sub_trusted.proofs.EmittedStepLemmas.{first_invalidated_frame, kept}
use Rattle.sub_rules.specs.Trusted.{CheckStep, with_pes_number, back_frame_of, invalidated_by}
use Rattle.sub_rules.specs.Trusted.{current_pes, run_of}
use Rattle.sub_rules.specs.Trusted.{events_reported_after, events_reported_at_step, trusted}
use Rattle.sub_rules.specs.Trusted.{trusted_up_to}
use Rattle.sub_rules.specs.Trusted.{first_finished_of}

-- If frame w of a run is the first at whose end the page was finished, and w is before frame x, the
-- run's frames before x are reported as trusted.
pub trusted_frames_contain_run : (run whole : Option ℕ) (x from w : ℕ) → run ≡ Some from → whole ≡
    Some w → w < x
    → Contains (trusted run whole x) (Trusted from (x - 1))
trusted_frames_contain_run run whole x from w run_eq first_finished_eq l =
    rw (run_eq, first_finished_eq, lt-ltb w x l) (0, omega arith, refl)

trusted_frames_up_to_contain_run : (t : List CheckStep) (d : Option ℕ) (x from w : ℕ) → d ≡ Some x →
    run_of t ≡ Some from
    → first_finished_of t ≡ Some w
    → w < frame_after_going_back t x
    → Contains (trusted_up_to t d) (Trusted from (frame_after_going_back t x - 1))
trusted_frames_up_to_contain_run t d x from w is run whole l =
    rw is (trusted_frames_contain_run (run_of t) (first_finished_of t) (frame_after_going_back t x)
    from w run whole l)

absent_first_option_gives_second : (d rest : Option ℕ) (x : ℕ) → d ≡ None → option_or d rest ≡ Some
    x → rest ≡ Some x
absent_first_option_gives_second d rest x none e = grind (arith, nat_tests)

present_first_option_is_taken : (d rest : Option ℕ) (x y : ℕ) → d ≡ Some y → option_or d rest ≡ Some
    x → d ≡ Some x
present_first_option_is_taken d rest x y some e = grind (arith, nat_tests)

pub valid_run_stays : (run d : Option ℕ) (from : ℕ) → d ≡ None → run ≡ Some from → kept run d ≡ Some
    from
valid_run_stays run d from none is = grind (arith, nat_tests)

pub emitted_events_report_run : (t : List CheckStep) (es : List Event) (x from w : ℕ) →
    first_invalidated_frame t es
    ≡ Some x
    → run_of t ≡ Some from
    → first_finished_of t ≡ Some w
    → w < frame_after_going_back t x
    → Contains (events_reported_after t (map Emits es))
    (Trusted from (frame_after_going_back t x - 1))
unfolding events_reported_after events_reported_at_step run_of first_finished_of back_frame_of
emitted_events_report_run t [] x from w is run whole l = absurd (none-some x is)
emitted_events_report_run t (e ∷ es) x from w is run whole l =
    go
    (λ none.
    emitted_events_report_run (Emits e ∷ t) es x from w
    (emitted_event_keeps_invalidation t e es ∙ absent_first_option_gives_second (invalidated_by t e)
    (first_invalidated_frame t es) x none is)
    (valid_run_stays (run_of t) (invalidated_by t e) from none run) whole l) (invalidated_by t e)
    refl
  where
    rest : List Event
    rest = events_reported_after (Emits e ∷ t) (map Emits es)

    go : (invalidated_by t e ≡ None → Contains rest (Trusted from (frame_after_going_back t x - 1)))
        → (d : Option ℕ)
        → invalidated_by t e ≡ d
        → Contains (events_reported_at_step t (Emits e) ++ rest)
        (Trusted from (frame_after_going_back t x - 1))
    go later None none =
        Contains-append_right (events_reported_at_step t (Emits e)) rest
        (Trusted from (frame_after_going_back t x - 1))
        (later none)
    go later (Some y) some =
        Contains-append_left (events_reported_at_step t (Emits e)) rest
        (Trusted from (frame_after_going_back t x - 1))
        (Contains-append_left (trusted_up_to t (invalidated_by t e))
        (with_pes_number (current_pes t) e ∷ [])
        (Trusted from (frame_after_going_back t x - 1))
        (trusted_frames_up_to_contain_run t (invalidated_by t e) x from w
        (present_first_option_is_taken (invalidated_by t e) (first_invalidated_frame t es) x y some
        is) run whole l))

module _ (top b : ℕ) where
  -- One event reports that the frames from `top` or earlier to b or later are trusted.
  abbrev pub IsReported : List Event → Type 0
  IsReported es = (from : ℕ) × (to : ℕ) × (from ≤ top) × (b ≤ to) × Contains es (Trusted from to)

  -- The steps report the frames `top` to b as trusted, or leave a state with the property S.
  abbrev pub LeadsToReportOfRun : (List CheckStep → Type 0) → List CheckStep → List CheckStep → Type
      0
  LeadsToReportOfRun S t ms = IsReported (events_reported_after t ms) ⊎ S (history_after t ms)

  pub report_is_in_left_events : (xs ys : List Event) → IsReported xs → IsReported (xs ++ ys)
  report_is_in_left_events xs ys (from, to, low, high, c) =
      (from, to, low, high, Contains-append_left xs ys (Trusted from to) c)

  pub report_is_in_right_events : (xs ys : List Event) → IsReported ys → IsReported (xs ++ ys)
  report_is_in_right_events xs ys (from, to, low, high, c) =
      (from, to, low, high, Contains-append_right xs ys (Trusted from to) c)

  pub LeadsToReportOfRun-nil : (S : List CheckStep → Type 0) (t : List CheckStep) → S t →
      LeadsToReportOfRun S t []
  unfolding history_after
  LeadsToReportOfRun-nil S t s = inr s

  pub LeadsToReportOfRun-cons : (S : List CheckStep → Type 0) (t : List CheckStep) (m : CheckStep)
      (ms : List CheckStep)
      → LeadsToReportOfRun S (m ∷ t) ms
      → LeadsToReportOfRun S t (m ∷ ms)
  unfolding events_reported_after history_after
  LeadsToReportOfRun-cons S t m ms h1 = grind (arith, nat_tests, report_is_in_right_events)

  pub LeadsToReportOfRun-append : (S U : List CheckStep → Type 0) (t : List CheckStep)
      (xs ys : List CheckStep)
      → LeadsToReportOfRun S t xs
      → ((u : List CheckStep) → S u → LeadsToReportOfRun U u ys)
      → LeadsToReportOfRun U t (xs ++ ys)
  LeadsToReportOfRun-append S U t xs ys (inl reported) rest =
      inl
      (subst IsReported (sym (events_reported_after-append t xs ys))
      (report_is_in_left_events (events_reported_after t xs)
      (events_reported_after (history_after t xs) ys) reported))
  LeadsToReportOfRun-append S U t xs ys (inr s) rest = elim (rest (history_after t xs) s) [
    | inl reported ↦
        inl
        (subst IsReported (sym (events_reported_after-append t xs ys))
        (report_is_in_right_events (events_reported_after t xs)
        (events_reported_after (history_after t xs) ys) reported))
    | inr u ↦ inr (subst U (sym (history_after-append t xs ys)) u)
  ]

  pub LeadsToReportOfRun-both : (A S : List CheckStep → Type 0) (t : List CheckStep)
      (ms : List CheckStep)
      → A (history_after t ms)
      → LeadsToReportOfRun S t ms
      → LeadsToReportOfRun (λ u. A u × S u) t ms
  LeadsToReportOfRun-both A S t ms is (inl reported) = inl reported
  LeadsToReportOfRun-both A S t ms is (inr s) = inr (is, s)
