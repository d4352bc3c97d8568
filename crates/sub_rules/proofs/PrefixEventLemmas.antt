-- The events, active faults and steps of a frame depend only on the frames up to it.
use Rattle.std.proofs.lemmas.Bool.Decides.{nat_tests}
use Rattle.std.proofs.Common.{◌≡◌, ℕ, zero, suc, ◌-◌, ◌<◌, ◌≤◌, ◌++◌}
use Rattle.std.proofs.Common.{length, get_or, Option, refl, arith}
use Rattle.std.proofs.lemmas.List.{get_or_append_left, length-map, map-append}
use lib.Seq.{take-append-le}
use Rattle.sub_rules.specs.Events.{previous_end_frame, events_at_end, is_silent}
use Rattle.sub_rules.specs.Events.{first_header_events, gap_length}
use Rattle.sub_rules.specs.Events.{is_gap, is_incomplete, is_late, is_unfinished, latest_frame}
use Rattle.sub_rules.specs.Events.{order_events, first_unfinished_before}
use Rattle.sub_rules.specs.Events.{first_unfinished_in_frames, first_unfinished_in_gap}
use Rattle.sub_rules.specs.Events.{active_faults_at, active_faults_before, unfinished_run_start}
use Rattle.sub_rules.specs.FrameRules.{Criteria, UnreadReason, frame_at, packets_before}
use Rattle.sub_rules.specs.FrameRules.{packets_of_frame}
use Rattle.sub_rules.specs.PesPacketEvents.{steps_at_end, steps_of_arrival, steps_of_ending}
use Rattle.sub_rules.specs.PesPacketEvents.{steps_of_gap}
use Rattle.sub_rules.specs.Transmission.{Transmission}
use Rattle.sub_rules.proofs.FrameEvents.{frame_events, gap_events}

module _ (g : Criteria) (u : Option UnreadReason) (done more : Transmission) where
  abbrev h : Criteria
  h = record g { unread = u }

  abbrev all : Transmission
  all = done ++ more

  pub frame_at-prefix : (k : ℕ) → k < length done → frame_at all k ≡ frame_at done k
  frame_at-prefix k l =
      grind (arith, nat_tests, get_or, map-append, get_or_append_left, length-map)

  pub packets_of_frame-prefix : (k : ℕ) → k < length done
      → packets_of_frame all k ≡ packets_of_frame done k
  packets_of_frame-prefix k l =
      grind (arith, nat_tests, get_or, map-append, get_or_append_left, length-map)

  pub packets_before-prefix : (n : ℕ) → n ≤ length done
      → packets_before all n ≡ packets_before done n
  packets_before-prefix n l = rw (take-append-le n done more l) refl

  pub latest_frame-prefix : (k : ℕ) → k ≤ length done → latest_frame all k ≡ latest_frame done k
  unfolding latest_frame
  latest_frame-prefix zero l = refl
  latest_frame-prefix (suc k) l =
      rw (latest_frame-prefix k (omega arith), frame_at-prefix k (omega arith)) refl

  pub gap_length-prefix : (i : ℕ) → i < length done → gap_length all i ≡ gap_length done i
  unfolding gap_length
  gap_length-prefix i h1 = grind (arith, nat_tests, frame_at-prefix, latest_frame-prefix)

  is_unfinished_depends_on_prefix : (n f : ℕ) → n ≤ length done → is_unfinished g all n f ≡
      is_unfinished h done n f
  unfolding is_incomplete
  is_unfinished_depends_on_prefix n f l = rw (take-append-le n done more l) refl

  gap_run_start_depends_on_prefix : (n : ℕ) (first_unfinished : Option ℕ) (k : ℕ) → n ≤ length done
      → first_unfinished_in_gap g all n first_unfinished k ≡ first_unfinished_in_gap h done n
      first_unfinished k
  unfolding first_unfinished_in_gap
  gap_run_start_depends_on_prefix n first_unfinished zero l = grind (arith, nat_tests)
  gap_run_start_depends_on_prefix n first_unfinished (suc k) l =
      grind (
        arith,
        nat_tests,
        is_unfinished_depends_on_prefix,
        latest_frame-prefix,
        (gap_run_start_depends_on_prefix n
            first_unfinished k l),
      )

  run_start_depends_on_prefix : (n : ℕ) → n ≤ length done → first_unfinished_in_frames g all n ≡
      first_unfinished_in_frames h done n
  unfolding first_unfinished_in_frames
  run_start_depends_on_prefix zero l = refl
  run_start_depends_on_prefix (suc i) l =
      rw (
        gap_run_start_depends_on_prefix i (first_unfinished_in_frames g all i) (gap_length all i)
            (omega arith),
        run_start_depends_on_prefix i (omega arith),
        gap_length-prefix i l,
        is_unfinished_depends_on_prefix (suc i) (frame_at all i) l,
        frame_at-prefix i l,
      ) refl

  pub unfinished_run_start-prefix : (n f : ℕ) → n ≤ length done
      → unfinished_run_start g all n f ≡ unfinished_run_start h done n f
  unfolding unfinished_run_start
  unfinished_run_start-prefix n f l =
      grind (
        arith,
        nat_tests,
        gap_run_start_depends_on_prefix,
        run_start_depends_on_prefix,
        latest_frame-prefix,
      )

  pub first_unfinished_before-prefix : (n f : ℕ) → n ≤ length done
      → first_unfinished_before g all n f ≡ first_unfinished_before h done n f
  unfolding first_unfinished_before
  first_unfinished_before-prefix zero f l = refl
  first_unfinished_before-prefix (suc n) f l = unfinished_run_start-prefix (suc n) (f - 1) l

  pub is_late-prefix : (n f : ℕ) → 0 < length done → n ≤ length done
      → is_late g all n f ≡ is_late h done n f
  unfolding is_late
  is_late-prefix n f some l = rw (unfinished_run_start-prefix n f l, frame_at-prefix 0 some) refl

  is_silent-prefix : (n f : ℕ) → n ≤ length done → is_silent g all n f ≡ is_silent h done n f
  unfolding is_silent
  is_silent-prefix zero f l = refl
  is_silent-prefix (suc n) f l = rw (latest_frame-prefix (suc n) l) refl

  pub active_faults_at-prefix : (n f : ℕ) → 0 < length done → n ≤ length done
      → active_faults_at g all n f ≡ active_faults_at h done n f
  unfolding active_faults_at is_gap is_incomplete
  active_faults_at-prefix n f some l =
      rw (
        is_late-prefix n f some l,
        take-append-le n done more l,
        frame_at-prefix 0 some,
        is_silent-prefix n f l,
      ) refl

  previous_end_is_the_same : (i f : ℕ) → 0 < length done → i ≤ length done
      → previous_end_frame all i f ≡ previous_end_frame done i f
  previous_end_is_the_same i f some l = rw (
    latest_frame-prefix i l,
    frame_at-prefix (i - 1)
        (omega arith),
  ) refl

  previous_faults_are_the_same : (i f : ℕ) → 0 < length done → i ≤ length done
      → active_faults_before g all i f ≡ active_faults_before h done i f
  unfolding active_faults_before
  previous_faults_are_the_same i f h1 h2 = grind (
    arith,
    nat_tests,
    previous_end_is_the_same,
    active_faults_at-prefix,
  )

  pub events_at_end-prefix : (i n f : ℕ) → 0 < length done → i ≤ length done → n ≤ length done
      → events_at_end g all i n f ≡ events_at_end h done i n f
  events_at_end-prefix i n f some l m =
      grind (
        arith,
        nat_tests,
        previous_faults_are_the_same,
        previous_end_is_the_same,
        active_faults_at-prefix,
      )

  pub gap_events-prefix : (i n : ℕ) → 0 < length done → i ≤ length done
      → gap_events g all i n ≡ gap_events h done i n
  unfolding gap_events
  gap_events-prefix i zero some l = refl
  gap_events-prefix i (suc n) some l =
      grind (
        arith,
        nat_tests,
        events_at_end-prefix,
        latest_frame-prefix,
        gap_events-prefix i n some
            l,
      )

  pub order_events-prefix : (i : ℕ) → i < length done
      → order_events g all i ≡ order_events h done i
  unfolding order_events
  order_events-prefix i h1 = grind (arith, nat_tests, frame_at-prefix)

  pub first_header_events-prefix : (i : ℕ) → i < length done
      → first_header_events g all i ≡ first_header_events h done i
  unfolding first_header_events
  first_header_events-prefix i h1 =
      grind (arith, nat_tests, packets_of_frame-prefix, frame_at-prefix)

  pub frame_events-prefix : (i : ℕ) → i < length done
      → frame_events g all i ≡ frame_events h done i
  unfolding frame_events
  frame_events-prefix i l =
      let some : 0 < length done = omega arith in
      rw (
        order_events-prefix i l,
        gap_length-prefix i l,
        gap_events-prefix i (gap_length done i) some (omega arith),
        frame_at-prefix i l,
        packets_of_frame-prefix i l,
        take-append-le i done more (omega arith),
        first_header_events-prefix i l,
        events_at_end-prefix i (suc i) (frame_at done i) some (omega arith) (omega arith),
      ) refl

  pub steps_at_end-prefix : (i n f : ℕ) → 0 < length done → i ≤ length done → n ≤ length done
      → steps_at_end g all i n f ≡ steps_at_end h done i n f
  steps_at_end-prefix i n f some l m =
      grind (
        arith,
        nat_tests,
        first_unfinished_before-prefix,
        unfinished_run_start-prefix,
        is_late-prefix,
        events_at_end-prefix,
      )

  pub steps_of_gap-prefix : (i n : ℕ) → 0 < length done → i ≤ length done
      → steps_of_gap g all i n ≡ steps_of_gap h done i n
  unfolding steps_of_gap
  steps_of_gap-prefix i zero some l = grind (arith, nat_tests)
  steps_of_gap-prefix i (suc n) some l =
      grind (
        arith,
        nat_tests,
        steps_at_end-prefix,
        latest_frame-prefix,
        (steps_of_gap-prefix i n
            some l),
      )

  pub steps_of_arrival-prefix : (i : ℕ) → i < length done
      → steps_of_arrival g all i ≡ steps_of_arrival h done i
  steps_of_arrival-prefix i l =
      grind (
        arith,
        nat_tests,
        order_events-prefix,
        gap_length-prefix,
        steps_of_gap-prefix,
        frame_at-prefix,
        first_unfinished_before-prefix,
      )

  pub steps_of_ending-prefix : (i : ℕ) → i < length done
      → steps_of_ending g all i ≡ steps_of_ending h done i
  steps_of_ending-prefix i l =
      grind (
        arith,
        nat_tests,
        first_header_events-prefix,
        frame_at-prefix,
        steps_at_end-prefix,
        packets_of_frame-prefix,
        active_faults_at-prefix,
      )
