-- If all trusted frames that two lists of steps report have a property, so do those that the joined
-- list reports.
use Rattle.std.proofs.lemmas.Bool.Decides.{nat_tests}
use Rattle.std.proofs.Common.{◌≡◌, ℕ, ◌-◌, ◌<◌, ◌&&◌, Bool, false, not, List, [], ◌∷◌, ◌++◌}
use Rattle.std.proofs.Common.{if◌then◌else◌, map, Option, Some, None, is_none, refl, sym}
use Rattle.std.proofs.Common.{subst, arith, ◌≤◌, unwrap_or}
use Rattle.std.proofs.lemmas.Bool.{ltb-true}
use Rattle.std.proofs.lemmas.List.Elements.{All-append, All-cons, All-head, All-nil, All-tail}
use Rattle.std.specs.List.{list_any}
use Rattle.sub_rules.specs.Trusted.CheckStep.{AtPes, Emits}
use Rattle.sub_rules.specs.declared.event.Event.{Event}
use Rattle.sub_rules.specs.declared.event.Event.TheVariants.{Reported, Trusted}
use Rattle.sub_rules.proofs.TrustedLemmas.{history_after, history_after-append}
use Rattle.sub_rules.proofs.TrustedLemmas.{events_reported_after-append}
use Rattle.sub_trusted.proofs.InvalidationLemmas.{HoldsForEachTrusted, HoldsIfTrusted}
use Rattle.sub_laws.proofs.FirstFoundLemmas.{first_match}
use Rattle.sub_rules.specs.Trusted.{CheckStep, with_pes_number, back_frame_of, invalidated_by}
use Rattle.sub_rules.specs.Trusted.{last_packet_frame}
use Rattle.sub_rules.specs.Trusted.{late_run_start}
use Rattle.sub_rules.specs.Trusted.{current_pes, run_of, first_unfinished_of, stays_fault_free}
use Rattle.sub_rules.specs.Trusted.{reports_order_fault, events_reported_after}
use Rattle.sub_rules.specs.Trusted.{events_reported_at_step, trusted, trusted_up_to}
use Rattle.sub_rules.specs.Trusted.{first_finished_of}

-- No step so far reports that frame numbers do not increase.
abbrev pub has_risen : List CheckStep → Bool
has_risen t = not (list_any reports_order_fault t)

-- The frame that the events invalidate; `None` if they invalidate no frame. If several events
-- invalidate a frame, the first of these events counts.
abbrev pub first_invalidated_frame : List CheckStep → List Event → Option ℕ
first_invalidated_frame t es = first_match (invalidated_by t) es

-- The first frame that is no longer trusted if frame x is invalidated: the frame of the last
-- `GoesBack` step or, without such a frame, x.
abbrev pub frame_after_going_back : List CheckStep → ℕ → ℕ
frame_after_going_back t x = unwrap_or (back_frame_of t) x

pub frame_going_back_is_bounded : (t : List CheckStep) (x b : ℕ) → x ≤ b
    → ((r : ℕ) → back_frame_of t ≡ Some r → r ≤ b)
    → frame_after_going_back t x ≤ b
frame_going_back_is_bounded t x b low h = grind (arith, nat_tests)

pub frame_going_back_stays_after : (t : List CheckStep) (x b : ℕ) → b < x
    → ((r : ℕ) → back_frame_of t ≡ Some r → b < r)
    → b < frame_after_going_back t x
frame_going_back_stays_after t x b past h = grind (arith, nat_tests)

-- The first frame of the current run after some events; `None` if there was no run before them, or
-- if they invalidate a frame d.
abbrev pub kept : Option ℕ → Option ℕ → Option ℕ
kept run d = if is_none d then run else None

-- The event reports that frame numbers do not increase.
unfoldable pub is_order_fault : Event → Bool
is_order_fault e = reports_order_fault (Emits e)

-- The values that decide about trusted frames after the steps `u` are those after the steps `t` and
-- then the events `es`.
pub record AreEmitted (t u : List CheckStep) (es : List Event) : Type 0 where
  pub run_eq : run_of u ≡ kept (run_of t) (first_invalidated_frame t es)
  pub first_finished_eq : first_finished_of u ≡ first_finished_of t
  pub last_is : last_packet_frame u ≡ last_packet_frame t
  pub first_unfinished_eq : first_unfinished_of u ≡ first_unfinished_of t
  pub late_eq : late_run_start u ≡ late_run_start t
  pub back_frames_agree : back_frame_of u ≡ back_frame_of t
  pub rises_is : has_risen u ≡ (has_risen t && not (list_any is_order_fault es))
  pub clean_flags_agree : stays_fault_free u ≡
      (stays_fault_free t && is_none (first_invalidated_frame t es))

emitted_event_keeps_invalidated_frame : (t : List CheckStep) (e x : Event) → invalidated_by
    (Emits e ∷ t) x ≡
    invalidated_by t x
unfolding invalidated_by last_packet_frame late_run_start
emitted_event_keeps_invalidated_frame t e (Reported f) = refl
emitted_event_keeps_invalidated_frame t e x = refl

pub emitted_event_keeps_invalidation : (t : List CheckStep) (e : Event) (es : List Event)
    → first_invalidated_frame (Emits e ∷ t) es ≡ first_invalidated_frame t es
emitted_event_keeps_invalidation t e [] = refl
emitted_event_keeps_invalidation t e (x ∷ es) = rw (
  emitted_event_keeps_invalidated_frame t e x,
  emitted_event_keeps_invalidation t e es,
) refl

pub emits_steps_emit_events : (t : List CheckStep) (es : List Event) → AreEmitted t
    (history_after t (map Emits es)) es
unfolding history_after run_of first_finished_of last_packet_frame first_unfinished_of
    late_run_start back_frame_of
    stays_fault_free is_order_fault
emits_steps_emit_events t [] = grind (arith, nat_tests)
emits_steps_emit_events t (e ∷ es) = grind (
  arith,
  nat_tests,
  emitted_event_keeps_invalidation,
  (emits_steps_emit_events (Emits e ∷ t) es),
)

-- If a run of trusted frames continues after some events, it existed before them, and they
-- invalidate no frame.
pub kept_run_was_valid : (run d : Option ℕ) (from : ℕ) → kept run d ≡ Some from
    → (run ≡ Some from) × (d ≡ None)
kept_run_was_valid run d from e = grind (arith, nat_tests)

-- An event that reports a frame number out of order invalidates a frame.
valid_event_is_no_order_fault : (t : List CheckStep) (e : Event) → invalidated_by t e ≡ None →
    is_order_fault e ≡
    false
unfolding is_order_fault reports_order_fault invalidated_by
valid_event_is_no_order_fault t e is = grind (arith, nat_tests)

pub valid_events_have_no_order_fault : (t : List CheckStep) (es : List Event) →
    first_invalidated_frame t es ≡ None
    → list_any is_order_fault es ≡ false
valid_events_have_no_order_fault t [] none = refl
valid_events_have_no_order_fault t (e ∷ es) none = grind
    (arith, nat_tests, valid_event_is_no_order_fault, (valid_events_have_no_order_fault t es))

-- The steps `t` and after them the step that sets the PES packet number `pes` (the latest step is
-- first in the list).
abbrev pub steps_with_packet_number : ℕ → List CheckStep → List CheckStep
steps_with_packet_number pes t = AtPes pes ∷ t

module _ (P : ℕ → ℕ → Type 0) where
  numbering_keeps_trusted_property : (pes : ℕ) (e : Event) → HoldsIfTrusted P e → HoldsIfTrusted P
      (with_pes_number pes e)
  unfolding with_pes_number
  numbering_keeps_trusted_property pes (Trusted from to) p = p
  numbering_keeps_trusted_property pes e p = tt

  -- If P holds for the frames from a run's first header to frame x - 1, it holds for the trusted
  -- frames that are reported when the run ends before frame x.
  pub trusted_frames_have_property : (run whole : Option ℕ) (x : ℕ)
      → ((from w : ℕ) → run ≡ Some from → whole ≡ Some w → w < x → P from (x - 1))
      → HoldsForEachTrusted P (trusted run whole x)
  trusted_frames_have_property run whole x h1 = grind (arith, nat_tests, ltb-true)

  -- If the trusted frames in the events `es`, and those of the run before the first frame that is
  -- no longer trusted, have the property P, so do all trusted frames that the steps for `es`
  -- report.
  emitted_events_have_property : (t : List CheckStep) (es : List Event) → HoldsForEachTrusted P es
      → ((x from w : ℕ)
      → first_invalidated_frame t es ≡ Some x
      → run_of t ≡ Some from
      → first_finished_of t ≡ Some w
      → w < frame_after_going_back t x
      → P from (frame_after_going_back t x - 1))
      → HoldsForEachTrusted P (events_reported_after t (map Emits es))
  unfolding events_reported_after events_reported_at_step run_of first_finished_of back_frame_of
  emitted_events_have_property t [] each h = All-nil (HoldsIfTrusted P)
  emitted_events_have_property t (e ∷ es) each h =
      let d : Option ℕ = invalidated_by t e in
      let now : List Event = trusted_up_to t d in
      All-append (HoldsIfTrusted P) (now ++ with_pes_number (current_pes t) e ∷ []) _
      (All-append (HoldsIfTrusted P) now (with_pes_number (current_pes t) e ∷ [])
      (before (invalidated_by t e) refl)
      (All-cons (HoldsIfTrusted P) (with_pes_number (current_pes t) e) []
      (numbering_keeps_trusted_property (current_pes t) e (All-head (HoldsIfTrusted P) e es each))
      (All-nil (HoldsIfTrusted P))))
      (emitted_events_have_property (Emits e ∷ t) es (All-tail (HoldsIfTrusted P) e es each)
      (λ x from w is run whole l.
      let all = h x from w in
      let same = emitted_event_keeps_invalidation t e es in
      grind (arith, nat_tests)))
    where
      before : (d : Option ℕ) → invalidated_by t e ≡ d
          → HoldsForEachTrusted P (trusted_up_to t d)
      before None is = All-nil (HoldsIfTrusted P)
      before (Some x) is =
          trusted_frames_have_property (run_of t) (first_finished_of t) (frame_after_going_back t x)
          (λ from w run whole l. let all = h x from w in grind arith)

  -- The trusted frames that the steps report have the property P, and the state afterwards has the
  -- property S.
  pub record Goes (S : List CheckStep → Type 0) (t : List CheckStep) (ms : List CheckStep) : Type
      0 where
    pub each : HoldsForEachTrusted P (events_reported_after t ms)
    pub after : S (history_after t ms)

  pub Goes-nil : (S : List CheckStep → Type 0) (t : List CheckStep) → S t → Goes S t []
  unfolding events_reported_after history_after
  Goes-nil S t s = record { each = All-nil (HoldsIfTrusted P); after = s }

  pub Goes-cons : (S : List CheckStep → Type 0) (t : List CheckStep) (m : CheckStep)
      (ms : List CheckStep)
      → events_reported_at_step t m ≡ []
      → Goes S (m ∷ t) ms
      → Goes S t (m ∷ ms)
  unfolding events_reported_after history_after
  Goes-cons S t m ms none rest = record { each = rw none rest.each; after = rest.after }

  pub Goes-pes : (S : List CheckStep → Type 0) (t : List CheckStep) (pes : ℕ) (ms : List CheckStep)
      → Goes S (steps_with_packet_number pes t) ms
      → Goes S t (AtPes pes ∷ ms)
  unfolding events_reported_at_step
  Goes-pes S t pes ms rest = Goes-cons S t (AtPes pes) ms refl rest

  pub Goes-append : (S U : List CheckStep → Type 0) (t : List CheckStep) (xs ys : List CheckStep)
      → Goes S t xs
      → ((u : List CheckStep) → S u → Goes U u ys)
      → Goes U t (xs ++ ys)
  Goes-append S U t xs ys one rest =
      let next : Goes U (history_after t xs) ys = rest (history_after t xs) one.after in
      record {
        each = subst (HoldsForEachTrusted P) (sym (events_reported_after-append t xs ys))
            (All-append (HoldsIfTrusted P) (events_reported_after t xs)
            (events_reported_after (history_after t xs) ys)
            one.each
            next.each);
        after = subst U (sym (history_after-append t xs ys)) next.after;
      }

  pub Goes-emits : (S : List CheckStep → Type 0) (t : List CheckStep) (es : List Event)
      → HoldsForEachTrusted P es
      → ((x from w : ℕ)
      → first_invalidated_frame t es ≡ Some x
      → run_of t ≡ Some from
      → first_finished_of t ≡ Some w
      → w < frame_after_going_back t x
      → P from (frame_after_going_back t x - 1))
      → ((u : List CheckStep) → AreEmitted t u es → S u)
      → Goes S t (map Emits es)
  Goes-emits S t es each h after = grind (
    arith,
    nat_tests,
    emitted_events_have_property,
    history_after,
    emits_steps_emit_events,
  )
