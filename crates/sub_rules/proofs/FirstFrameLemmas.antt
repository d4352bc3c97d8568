-- If two transmissions have the same frame numbers, and the same packets in the first n frames,
-- then the active faults, and the events and steps at the ends of these frames, are equal. So more
-- packets of the last frame do not change the events before its end.
use Rattle.std.proofs.Common.{◌≡◌, ℕ, zero, suc, ◌+◌, ◌-◌, ◌≤◌, map, take}
use Rattle.std.proofs.Common.{Option, refl, sym, ap, ◌∙◌, arith, take-take}
use Rattle.sub_rules.specs.Events.{previous_end_frame, events_at_end, gap_length, is_gap, is_silent}
use Rattle.sub_rules.specs.Events.{is_incomplete, is_late, is_unfinished, latest_frame}
use Rattle.sub_rules.specs.Events.{order_events}
use Rattle.sub_rules.specs.Events.{first_unfinished_before, first_unfinished_in_frames}
use Rattle.sub_rules.specs.Events.{first_unfinished_in_gap, active_faults_at}
use Rattle.sub_rules.specs.Events.{active_faults_before, unfinished_run_start}
use Rattle.sub_rules.specs.FrameRules.{Criteria, frame_at}
use Rattle.sub_rules.specs.PesPacketEvents.{steps_at_end, steps_of_arrival, steps_of_gap}
use Rattle.sub_rules.specs.Transmission.{SentFrame, Transmission}

module _ (g : Criteria) (xs ys : Transmission) (n : ℕ)
    (numbers : map (λ (s : SentFrame). s.frame) xs ≡ map (λ (s : SentFrame). s.frame) ys)
    (first : take n xs ≡ take n ys)
  where
    pub frame_at-same : (k : ℕ) → frame_at xs k ≡ frame_at ys k
    frame_at-same k = rw numbers refl

    pub latest_frame-same : (k : ℕ) → latest_frame xs k ≡ latest_frame ys k
    unfolding latest_frame
    latest_frame-same zero = refl
    latest_frame-same (suc k) = rw (latest_frame-same k, frame_at-same k) refl

    pub gap_length-same : (i : ℕ) → gap_length xs i ≡ gap_length ys i
    unfolding gap_length
    gap_length-same zero = refl
    gap_length-same (suc i) = rw (latest_frame-same (suc i), frame_at-same (suc i)) refl

    pub order_events-same : (i : ℕ) → order_events g xs i ≡ order_events g ys i
    unfolding order_events
    order_events-same zero = rw (frame_at-same 0) refl
    order_events-same (suc i) = rw (frame_at-same i, frame_at-same (suc i)) refl

    end_before_depends_on_prefix : (i f : ℕ) → previous_end_frame xs i f ≡ previous_end_frame ys i f
    end_before_depends_on_prefix i f = rw (latest_frame-same i, frame_at-same (i - 1)) refl

    equal_prefixes_have_equal_frames : (k : ℕ) → k ≤ n → take k xs ≡ take k ys
    equal_prefixes_have_equal_frames k l = sym (take-take k n xs l) ∙ ap (take k) first ∙ take-take
        k n ys l

    is_unfinished_depends_on_prefix : (k f : ℕ) → k ≤ n → is_unfinished g xs k f ≡ is_unfinished g
        ys k f
    unfolding is_incomplete
    is_unfinished_depends_on_prefix k f l = rw (equal_prefixes_have_equal_frames k l) refl

    gap_run_start_depends_on_prefix : (k : ℕ) (first_unfinished : Option ℕ) (m : ℕ) → k ≤ n
        → first_unfinished_in_gap g xs k first_unfinished m ≡ first_unfinished_in_gap g ys k
        first_unfinished m
    unfolding first_unfinished_in_gap
    gap_run_start_depends_on_prefix k first_unfinished zero l = refl
    gap_run_start_depends_on_prefix k first_unfinished (suc m) l =
        rw (
          gap_run_start_depends_on_prefix k first_unfinished m l,
          is_unfinished_depends_on_prefix k (latest_frame xs k + suc m) l,
          latest_frame-same k,
        ) refl

    run_start_depends_on_prefix : (k : ℕ) → k ≤ n → first_unfinished_in_frames g xs k ≡
        first_unfinished_in_frames g ys k
    unfolding first_unfinished_in_frames
    run_start_depends_on_prefix zero l = refl
    run_start_depends_on_prefix (suc i) l =
        rw (
          gap_run_start_depends_on_prefix i (first_unfinished_in_frames g xs i) (gap_length xs i)
              (omega arith),
          run_start_depends_on_prefix i (omega arith),
          gap_length-same i,
          is_unfinished_depends_on_prefix (suc i) (frame_at xs i) l,
          frame_at-same i,
        ) refl

    pub unfinished_run_start-same : (k f : ℕ) → k ≤ n
        → unfinished_run_start g xs k f ≡ unfinished_run_start g ys k f
    unfolding unfinished_run_start
    unfinished_run_start-same k f l =
        rw (
          gap_run_start_depends_on_prefix k (first_unfinished_in_frames g xs k)
              (f - latest_frame xs k) l,
          run_start_depends_on_prefix k l,
          latest_frame-same k,
        ) refl

    pub first_unfinished_before-same : (k f : ℕ) → k ≤ n → first_unfinished_before g xs k f ≡
        first_unfinished_before g ys k f
    unfolding first_unfinished_before
    first_unfinished_before-same zero f l = refl
    first_unfinished_before-same (suc k) f l = unfinished_run_start-same (suc k) (f - 1) l

    pub is_late-same : (k f : ℕ) → k ≤ n → is_late g xs k f ≡ is_late g ys k f
    unfolding is_late
    is_late-same k f l = rw (unfinished_run_start-same k f l, frame_at-same 0) refl

    is_silent-same : (k f : ℕ) → is_silent g xs k f ≡ is_silent g ys k f
    unfolding is_silent
    is_silent-same zero f = refl
    is_silent-same (suc k) f = rw (latest_frame-same (suc k)) refl

    pub active_faults_at-same : (k f : ℕ) → k ≤ n → active_faults_at g xs k f ≡ active_faults_at g
        ys k f
    unfolding active_faults_at is_gap is_incomplete
    active_faults_at-same k f l =
        rw (
          is_late-same k f l,
          equal_prefixes_have_equal_frames k l,
          frame_at-same 0,
          is_silent-same k f,
        ) refl

    pub active_faults_before-same : (i f : ℕ) → i ≤ n
        → active_faults_before g xs i f ≡ active_faults_before g ys i f
    unfolding active_faults_before
    active_faults_before-same zero f l = refl
    active_faults_before-same (suc i) f l =
        ap (active_faults_at g xs (suc i)) (end_before_depends_on_prefix (suc i) f)
        ∙ active_faults_at-same (suc i) (previous_end_frame ys (suc i) f) l

    pub events_at_end-same : (i k f : ℕ) → i ≤ n → k ≤ n
        → events_at_end g xs i k f ≡ events_at_end g ys i k f
    events_at_end-same i k f l m =
        rw (
          active_faults_before-same i f l,
          end_before_depends_on_prefix i f,
          active_faults_at-same
              k f m,
        ) refl

    pub steps_at_end-same : (i k f : ℕ) → i ≤ n → k ≤ n
        → steps_at_end g xs i k f ≡ steps_at_end g ys i k f
    steps_at_end-same i k f l m =
        rw (
          first_unfinished_before-same i f l,
          unfinished_run_start-same k f m,
          is_late-same k f m,
          events_at_end-same i k f l m,
        ) refl

    pub steps_of_gap-same : (i m : ℕ) → i ≤ n → steps_of_gap g xs i m ≡ steps_of_gap g ys i m
    unfolding steps_of_gap
    steps_of_gap-same i zero l = refl
    steps_of_gap-same i (suc m) l =
        rw (
          steps_of_gap-same i m l,
          steps_at_end-same i i (latest_frame xs i + suc m) l l,
          latest_frame-same i,
        ) refl

    pub steps_of_arrival-same : (i : ℕ) → i ≤ n
        → steps_of_arrival g xs i ≡ steps_of_arrival g ys i
    steps_of_arrival-same i l =
        rw (
          order_events-same i,
          gap_length-same i,
          steps_of_gap-same i (gap_length ys i) l,
          frame_at-same i,
          first_unfinished_before-same i (frame_at ys i) l,
        ) refl
