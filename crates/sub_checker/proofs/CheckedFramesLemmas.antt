-- When the checker reaches the first frame, a frame without a PES packet, or a later frame, its
-- state agrees with the rules. The state does not depend on frames after that frame.
use Rattle.std.proofs.lemmas.Bool.Decides.{nat_tests}
use Rattle.std.proofs.Common.{◌≡◌, ℕ, zero, suc, ◌+◌, ◌-◌, ◌<◌, ◌≤◌, Bool, false, nat_le, cond}
use Rattle.std.proofs.Common.{List, [], ◌∷◌, ◌++◌, length, map, Option, None, refl, sym, ap, ◌∙◌}
use Rattle.std.proofs.Common.{subst, arith, ◌⊎◌, inl, inr}
use Rattle.std.proofs.lemmas.Bool.{cases_lt, true≢false}
use Rattle.std.proofs.lemmas.List.{append-nil}
use Rattle.stl_rows.specs.Programme.{first_tci}
use Rattle.sub_plan.specs.Schedule.{due_page_in}
use Rattle.sub_checker.specs.Checker.{CheckerValue, checker_after_end, checker_at_first, at_frame}
use Rattle.sub_checker.specs.Checker.{checker_at_next}
use Rattle.sub_checker.specs.Checker.{end_steps, no_counts, active_faults_of}
use Rattle.sub_checker.specs.declared.counts.Counts.{Counts}
use Rattle.sub_checker.specs.CheckedFrames.{AfterEnd, BeforeEnd, BeforePackets, BetweenPesPackets}
use Rattle.sub_checker.specs.CheckedFrames.{HasStarted, AgreesWithPackets, criteria_of_checker}
use Rattle.sub_checker.specs.CheckedFrames.{steps_to_next_frame}
use Rattle.sub_packets.specs.Listener.{KnowsLast}
use Rattle.sub_rules.specs.Events.{previous_end_frame, gap_length, is_early, is_gap, latest_frame}
use Rattle.sub_rules.specs.Events.{no_active_faults, order_events, first_unfinished_before}
use Rattle.sub_rules.specs.Events.{first_unfinished_in_frames}
use Rattle.sub_rules.specs.Events.{active_faults_at, active_faults_before, unfinished_run_start}
use Rattle.sub_rules.specs.FrameRules.{Criteria, frame_at}
use Rattle.sub_rules.specs.PesPacketEvents.{steps_at_end, steps_of_gap}
use Rattle.sub_rules.specs.Transmission.{Transmission}
use Rattle.sub_rules.specs.Trusted.CheckStep.{Emits}
use Rattle.sub_rules.specs.declared.event.Event.TheVariants.{Reported}
use Rattle.sub_rules.specs.declared.fault.CheckFault.TheVariants as fault
use Rattle.sub_rules.proofs.EndLemmas.{active_faults_before_eq}
use Rattle.sub_rules.proofs.PrefixEventLemmas.{frame_at-prefix, latest_frame-prefix}
use Rattle.sub_rules.proofs.PrefixEventLemmas.{packets_before-prefix, active_faults_at-prefix}
use Rattle.sub_rules.proofs.PrefixEventLemmas.{unfinished_run_start-prefix}
use Rattle.sub_checker.proofs.FrameEndLemmas.{previous_end_is_frame_before}
use Rattle.sub_checker.proofs.FrameEndLemmas.{previous_end_is_last_frame, gap_on}
use Rattle.sub_checker.proofs.FrameEndLemmas.{run_start_after_end_is_exact}
use Rattle.sub_checker.proofs.FrameEndLemmas.{run_start_before_next_gap_frame}
use Rattle.sub_checker.proofs.FrameEndLemmas.{run_start_at_last_frame}
use Rattle.sub_checker.proofs.FrameEndLemmas.{run_start_before_gap}
use Rattle.sub_checker.proofs.FrameEndLemmas.{active_faults_of_checker_are_exact}
use Rattle.sub_checker.proofs.FrameEndLemmas.{checker_end_steps_are_exact}

pub AfterEnd-none :
    (g : Criteria) (frames : Transmission) (last : List (List ℕ)) (c : CheckerValue)
    → g ≡ criteria_of_checker c g.unread
    → KnowsLast [] last c.listener
    → c.counts.headers ≡ 0
    → c.counts.frames ≡ 0
    → c.first_unfinished ≡ None
    → c.active_faults ≡ no_active_faults
    → AfterEnd g frames 0 last c
unfolding first_unfinished_in_frames
AfterEnd-none g frames last c criteria knows none sent first_unfinished no_faults_before = grind
    (arith, nat_tests)

pub BetweenPesPackets-none :
    (g : Criteria) (last : List (List ℕ)) (c : CheckerValue)
    → g ≡ criteria_of_checker c g.unread
    → KnowsLast [] last c.listener
    → c.counts ≡ no_counts
    → c.first_unfinished ≡ None
    → c.active_faults ≡ no_active_faults
    → BetweenPesPackets g [] last c
BetweenPesPackets-none g last c criteria knows counts first_unfinished no_faults_before =
    let shut : c.counts.is_open ≡ false = ap (λ (n : Counts). n.is_open) counts in
    record {
      closed = λ _.
          AfterEnd-none g [] last c criteria knows (ap (λ (n : Counts). n.headers) counts)
          (ap (λ (n : Counts). n.frames) counts) first_unfinished no_faults_before;
      none = λ _ _. refl;
      some = λ e. absurd (true≢false (sym e ∙ shut));
      within = λ e. absurd (true≢false (sym e ∙ shut));
      opens = λ e. absurd (true≢false (sym e ∙ shut));
    }

moving_frame_keeps_memory : (g : Criteria) (frames : Transmission) (n f : ℕ) (last : List (List ℕ))
    (c : CheckerValue)
    → AgreesWithPackets g frames n last c → AgreesWithPackets g frames n last (at_frame f c)
moving_frame_keeps_memory g frames n f last c known = grind arith

pub arrives_first :
    (g : Criteria) (frames : Transmission) (f : ℕ) (last : List (List ℕ)) (c : CheckerValue)
    → AfterEnd g frames 0 last c
    → frame_at frames 0 ≡ f
    → BeforePackets g frames 0 last (checker_at_first f c)
unfolding is_gap latest_frame active_faults_before first_unfinished_before
    first_unfinished_in_frames
arrives_first g frames f last c follows is = grind (arith, nat_tests, moving_frame_keeps_memory)

pub first_reaching :
    (g : Criteria) (frames : Transmission) (f : ℕ) (last : List (List ℕ)) (c : CheckerValue)
    (out : Option ℕ) (reported : Bool)
    → AfterEnd g frames 0 last c
    → frame_at frames 0 ≡ f
    → out ≡ first_tci c.programme.records
    → reported ≡ is_early out f
    → steps_to_next_frame g frames 0 ≡ map Emits (cond reported (Reported (fault.Early f) ∷ []) [])
unfolding order_events steps_of_gap gap_length
first_reaching g frames f last c out reported follows is from e = grind
    (arith, nat_tests, append-nil)

pub follows_pending :
    (g : Criteria) (frames : Transmission) (n f : ℕ) (last : List (List ℕ)) (c : CheckerValue)
    → AfterEnd g frames n last c
    → 0 < n
    → f ≤ c.latest_frame + 1
    → BeforeEnd g frames n f last c
follows_pending g frames n f last c follows some l =
    grind (
      arith,
      nat_tests,
      previous_end_is_last_frame,
      active_faults_before_eq,
      run_start_before_gap,
    )

pending_lower :
    (g : Criteria) (frames : Transmission) (n f e : ℕ) (last : List (List ℕ)) (c : CheckerValue)
    → BeforeEnd g frames n f last c
    → 0 < n
    → f ≤ latest_frame frames n + 1
    → e ≤ latest_frame frames n + 1
    → BeforeEnd g frames n e last c
pending_lower g frames n f e last c has_pending some l m =
    grind (
      arith,
      nat_tests,
      previous_end_is_last_frame,
      active_faults_before_eq,
      run_start_before_gap,
    )

module _ (g : Criteria) (frames : Transmission) (n f : ℕ) (last : List (List ℕ))
    (v b : CheckerValue)
    (has_pending : BeforeEnd g frames n f last v) (some : 0 < n) (later : latest_frame frames n < f)
    (moved : b ≡ at_frame f v) (known : v.latest_frame ≡ latest_frame frames n)
    (due : b.listener.comparison.due ≡ due_page_in b.programme b.frame)
  where
    next_checker_remembers_frames : AgreesWithPackets g frames n last b
    next_checker_remembers_frames =
        subst (AgreesWithPackets g frames n last) (sym moved)
        (moving_frame_keeps_memory g frames n f last v has_pending.known)

    next_checker_is_at_frame : b.frame ≡ f
    next_checker_is_at_frame = ap (λ (c : CheckerValue). c.frame) moved

    next_checker_has_latest_frame : b.latest_frame ≡ latest_frame frames n
    next_checker_has_latest_frame = ap (λ (c : CheckerValue). c.latest_frame) moved ∙ known

    next_checker_has_started : HasStarted g frames n b
    next_checker_has_started = grind (arith, nat_tests)

    next_checker_has_previous_faults : b.active_faults ≡ active_faults_before g frames n f
    next_checker_has_previous_faults = ap (λ (c : CheckerValue). c.active_faults) moved ∙
        has_pending.active_faults_eq

    next_checker_has_previous_end : 0 < n → b.last ≡ previous_end_frame frames n f
    next_checker_has_previous_end l = ap (λ (c : CheckerValue). c.last) moved ∙ has_pending.last_is
        l

    next_checker_has_run_start : 0 < g.within → b.first_unfinished ≡ first_unfinished_before g
        frames n
        f
    next_checker_has_run_start l = ap (λ (c : CheckerValue). c.first_unfinished) moved ∙
        has_pending.first_unfinished_eq l

    pub gap_end_steps_are_exact : end_steps b ≡ steps_at_end g frames n n f
    gap_end_steps_are_exact =
        checker_end_steps_are_exact g frames n n f last b next_checker_remembers_frames
        next_checker_has_started next_checker_is_at_frame due next_checker_has_previous_faults
        next_checker_has_previous_end next_checker_has_run_start (gap_on g frames n f some later)
        some next_checker_has_latest_frame

    next_checker_faults_are_exact : active_faults_of b ≡ active_faults_at g frames n f
    next_checker_faults_are_exact =
        active_faults_of_checker_are_exact g frames n n f last b next_checker_remembers_frames
        next_checker_has_started next_checker_is_at_frame due
        next_checker_has_previous_faults
        next_checker_has_previous_end next_checker_has_run_start (gap_on g frames n f some later)
        some next_checker_has_latest_frame

    checker_run_start_is_exact : 0 < g.within
        → (checker_after_end b).first_unfinished ≡ unfinished_run_start g frames n f
    checker_run_start_is_exact =
        run_start_after_end_is_exact g frames n n f last b next_checker_remembers_frames
        next_checker_has_started next_checker_is_at_frame due
        next_checker_has_previous_faults
        next_checker_has_previous_end next_checker_has_run_start (gap_on g frames n f some later)
        some next_checker_has_latest_frame

    next_checker_counts_frames : b.counts.frames ≡ n
    next_checker_counts_frames = ap (λ (c : CheckerValue). c.counts.frames) moved ∙
        has_pending.number

    pub gap_frame_leaves_next_end_pending : (e : ℕ) → e ≡ f + 1
        → BeforeEnd g frames n e last (checker_after_end b)
    gap_frame_leaves_next_end_pending e is = record {
      known = assumption next_checker_remembers_frames;
      begun = record {
        first_is = next_checker_has_started.first_is;
        gap_eq = next_checker_has_started.gap_eq;
      };
      active_faults_eq = grind (
        arith,
        nat_tests,
        next_checker_faults_are_exact,
        previous_end_is_frame_before,
        active_faults_before_eq,
      );
      last_is = λ l. grind (
        arith,
        nat_tests,
        previous_end_is_frame_before,
        next_checker_is_at_frame,
      );
      first_unfinished_eq = λ l. checker_run_start_is_exact l ∙ sym (run_start_before_next_gap_frame
          g frames n f e
          some is);
      number = next_checker_counts_frames;
    }

pub gap_more :
    (g : Criteria) (frames : Transmission) (n f e : ℕ)
    → latest_frame frames n < f
    → e ≡ f + 1
    → steps_of_gap g frames n (e - (latest_frame frames n + 1))
    ≡ steps_of_gap g frames n (f - (latest_frame frames n + 1)) ++ steps_at_end g frames n n f
unfolding steps_of_gap
gap_more g frames n f e later is = grind (arith, nat_tests)

pub empty_gap_has_no_steps : (g : Criteria) (frames : Transmission) (n latest_is : ℕ)
    → latest_is ≡ latest_frame frames n
    → steps_of_gap g frames n (latest_is + 1 - (latest_frame frames n + 1)) ≡ []
unfolding steps_of_gap
empty_gap_has_no_steps g frames n latest_is is =
    let none : latest_is + 1 - (latest_frame frames n + 1) ≡ 0 = omega (arith, is) in rw none refl

pub gap_ended :
    (g : Criteria) (frames : Transmission) (n f to known : ℕ) (last : List (List ℕ))
    (c : CheckerValue)
    → BeforeEnd g frames n f last c
    → 0 < n
    → known ≡ latest_frame frames n
    → known < f
    → to ≤ f
    → (known + 1 < f → f ≤ to)
    → (to - (latest_frame frames n + 1) ≡ f - (latest_frame frames n + 1)) × BeforeEnd g frames n to
    last c
gap_ended g frames n f to known last c has_pending some is later done at_most_to =
    by (cases_lt (known + 1) f)
  where
    by : (known + 1 < f) ⊎ (f ≤ known + 1)
        → (to - (latest_frame frames n + 1) ≡ f - (latest_frame frames n + 1)) × BeforeEnd g frames
        n to last c
    by (inl l) =
        let same : f ≡ to = omega (arith, at_most_to l, done) in (
          ap (λ (k : ℕ). k - (latest_frame frames n + 1)) (sym same),
          subst (λ (k : ℕ). BeforeEnd g frames n k last c) same has_pending,
        )
    by (inr l) = (
      omega (arith, is, l, done),
      pending_lower g frames n f to last c has_pending some (omega (arith, is, l))
          (omega (arith, is, l, done)),
    )

pub arrives_next :
    (g : Criteria) (frames : Transmission) (n f : ℕ) (last : List (List ℕ)) (c : CheckerValue)
    → BeforeEnd g frames n f last c
    → frame_at frames n ≡ f
    → c.latest_frame ≡ latest_frame frames n
    → BeforePackets g frames n last (checker_at_next f c)
unfolding latest_frame
arrives_next g frames n f last c has_pending is latest_is = grind
    (arith, nat_tests, moving_frame_keeps_memory)

pub order_are :
    (g : Criteria) (frames : Transmission) (n f last pes : ℕ) (reported : Bool)
    → 0 < n
    → frame_at frames n ≡ f
    → last ≡ frame_at frames (n - 1)
    → pes ≡ n
    → reported ≡ nat_le f last
    → order_events g frames n ≡ cond reported (Reported (fault.Order pes) ∷ []) []
unfolding order_events
order_are g frames zero f last pes reported some is at number late = absurd (omega arith)
order_are g frames (suc n) f last pes reported some is at number late = grind (arith, nat_tests)

gap_test_depends_on_prefix : (g : Criteria) (done more : Transmission) (f : ℕ) → 0 < length done
    → is_gap g (done ++ more) (length done) f ≡ is_gap g done (length done) f
unfolding is_gap active_faults_at
gap_test_depends_on_prefix g done more f some =
    ap (λ s. s.gap) (active_faults_at-prefix g g.unread done more (length done) f some
    (omega arith))

frames_run_start_needs_prefix : (g : Criteria) (done more : Transmission) (n : ℕ) → n ≤ length done
    → first_unfinished_in_frames g (done ++ more) n ≡ first_unfinished_in_frames g done n
unfolding first_unfinished_in_frames
frames_run_start_needs_prefix g done more zero l = refl
frames_run_start_needs_prefix g done more (suc i) l =
    sym (run_start_at_last_frame g (done ++ more) i)
    ∙ ap (unfinished_run_start g (done ++ more) (suc i))
    (frame_at-prefix g g.unread done more i (omega arith))
    ∙ unfinished_run_start-prefix g g.unread done more (suc i) (frame_at done i) l
    ∙ run_start_at_last_frame g done i

pub AfterEnd-prefix : (g : Criteria) (done more : Transmission) (last : List (List ℕ))
    (c : CheckerValue)
    → AfterEnd g done (length done) last c
    → AfterEnd g (done ++ more) (length done) last c
AfterEnd-prefix g done more last c follows =
    let n = length done in
    let packets = packets_before-prefix g g.unread done more n (omega arith) in
    record {
      known = record {
        criteria_are = follows.known.criteria_are;
        knows = rw packets follows.known.knows;
        count = rw packets follows.known.count;
      };
      none = follows.none;
      begun = λ l.
          let begun = follows.begun l in
          record {
            first_is = begun.first_is ∙ sym (frame_at-prefix g g.unread done more 0 l);
            gap_eq = λ f. gap_test_depends_on_prefix g done more f l ∙ begun.gap_eq f;
          };
      latest_is = λ l.
          follows.latest_is l ∙ sym (latest_frame-prefix g g.unread done more n (omega arith));
      active_faults_eq = λ l.
          follows.active_faults_eq l
          ∙ sym (active_faults_at-prefix g g.unread done more n _ l (omega arith)
          ∙ ap (active_faults_at g done n)
          (frame_at-prefix g g.unread done more (n - 1) (omega arith)));
      last_is = λ l.
          follows.last_is l ∙ sym (frame_at-prefix g g.unread done more (n - 1) (omega arith));
      first_unfinished_eq = λ l. follows.first_unfinished_eq l ∙ sym (frames_run_start_needs_prefix
          g done
          more n (omega arith));
      number = follows.number;
    }
