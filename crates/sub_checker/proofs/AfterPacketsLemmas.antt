-- The checker's state agrees with the rules after the packets of a frame and at the end of the
-- frame.
use Rattle.std.proofs.lemmas.Bool.Decides.{nat_tests}
use Rattle.std.proofs.Common.{◌≡◌, ℕ, zero, suc, ◌+◌, ◌<◌, Bool, ◌&&◌, ◌||◌, not, nat_le, nat_lt}
use Rattle.std.proofs.Common.{cond, List, [], ◌∷◌, ◌++◌, length, map, take, refl, sym, ap, ◌∙◌}
use Rattle.std.proofs.Common.{arith, ◌==◌}
use Rattle.std.proofs.lemmas.List.{get_or-map}
use Rattle.std.proofs.lemmas.List.Folds.{list_any_more}
use Rattle.std.specs.List.{list_any}
use Rattle.sub_plan.specs.Schedule.{due_page_in}
use Rattle.ttx_page.specs.PacketKind.{kind}
use Rattle.ttx_page.specs.Span.{has_text_beginning, has_page_header}
use Rattle.sub_checker.specs.Checker.{CheckerValue, HasHeard, checker_after_end}
use Rattle.sub_checker.specs.Checker.{checker_after_headers, end_steps}
use Rattle.sub_checker.specs.Checker.{next_repeat_deadline, active_faults_of}
use Rattle.sub_checker.specs.CheckedFrames.{AfterEnd, AfterPackets, BeforePackets}
use Rattle.sub_checker.specs.CheckedFrames.{AgreesWithPackets}
use Rattle.sub_rules.specs.Events.{has_recent_header, first_header_events, is_gap}
use Rattle.sub_rules.specs.Events.{numbered_packet_events}
use Rattle.sub_rules.specs.Events.{first_unfinished_in_frames, active_faults_at}
use Rattle.sub_rules.specs.FrameRules.{Criteria, frame_at, packets_before, packets_of_frame}
use Rattle.sub_rules.specs.PacketRules.{header_count}
use Rattle.sub_rules.specs.PesPacketEvents.{steps_at_end, steps_of_packets}
use Rattle.sub_rules.specs.Transmission.{SentFrame, Transmission}
use Rattle.sub_rules.specs.declared.packet_rule.Watched.{Watched}
use Rattle.sub_rules.specs.Trusted.{has_no_active_faults}
use Rattle.sub_rules.specs.Trusted.CheckStep.{Ends, Emits}
use Rattle.sub_rules.specs.declared.event.Event.TheVariants.{Reported}
use Rattle.sub_rules.specs.declared.fault.CheckFault.TheVariants as fault
use Rattle.sub_rules.proofs.FrameLists.{packets_before_appends_next_frame}
use Rattle.sub_rules.proofs.PacketLists.{header_count-append, holds-count}
use Rattle.sub_checker.proofs.FrameEndLemmas.{run_start_at_next_frame, run_start_after_end_is_exact}
use Rattle.sub_checker.proofs.FrameEndLemmas.{run_start_at_last_frame}
use Rattle.sub_checker.proofs.FrameEndLemmas.{active_faults_of_checker_are_exact}
use Rattle.sub_checker.proofs.FrameEndLemmas.{checker_end_steps_are_exact}

pub packets_are :
    (g : Criteria) (frames : Transmission) (n : ℕ) (last ps : List (List ℕ)) (c : CheckerValue)
    → BeforePackets g frames n last c
    → packets_of_frame frames n ≡ ps
    → steps_of_packets g frames n
    ≡ map Emits (numbered_packet_events c.listener.watched c.frame 0 (packets_before frames n) ps
    (length ps))
packets_are g frames n last ps c arrives are =
    let watched = ap (λ (t : Criteria). t.watched) arrives.has_pending.known.criteria_are in
    rw (sym watched, arrives.frame_eq, sym are) refl

pub repeat_deadline_test_is_updated : (due before has : Bool) (late frame every f : ℕ)
    → (due && not before) ≡ nat_le late (f + 1)
    → (due && not (before || (has && nat_lt f (frame + every))))
    ≡ nat_le (next_repeat_deadline has frame every late) (f + 1)
repeat_deadline_test_is_updated due before has late frame every f is = grind (arith, nat_tests)

module _ (g : Criteria) (frames : Transmission) (n : ℕ) (last ps : List (List ℕ))
    (c d : CheckerValue)
    (arrives : BeforePackets g frames n last c) (there : n < length frames)
    (are : packets_of_frame frames n ≡ ps)
    (hears : HasHeard 0 (packets_before frames n) ps c d)
  where
    joined : packets_before frames n ++ ps ≡ packets_before frames (suc n)
    joined =
        let next : n + 1 ≡ suc n = omega arith in
        ap (λ (l : List (List ℕ)). packets_before frames n ++ l) (sym are)
        ∙ sym (packets_before_appends_next_frame frames n there)
        ∙ ap (packets_before frames) next

    has_header : has_page_header (kind g.watched.page) ps ≡ nat_lt 0 hears.headers
    has_header =
        let watched = ap (λ (t : Criteria). t.watched) arrives.has_pending.known.criteria_are in
        let count = hears.count in
        grind (arith, holds-count)

    abbrev here : CheckerValue
    here = checker_after_headers hears.headers (record c { listener = hears.listener })

    checker_remembers_next_frame : AgreesWithPackets g frames (suc n) ps here
    checker_remembers_next_frame =
        let known = arrives.has_pending.known in
        let knows = hears.knows in
        let count = hears.count in
        let watched = hears.watched in
        grind (arith, nat_tests, joined, header_count-append)

    recent_header_test_is_updated : (f : ℕ)
        → list_any (has_recent_header g f) (take (suc n) frames)
        ≡ (list_any (has_recent_header g f) (take n frames)
        || (nat_lt 0 hears.headers && nat_lt f (c.frame + c.every)))
    recent_header_test_is_updated f =
        let none : SentFrame = record { frame = 0; packets = [] } in
        let next : suc n ≡ n + 1 = omega arith in
        let number = get_or-map (λ (x : SentFrame). x.frame) frames n none 0 there in
        let packets = get_or-map (λ (x : SentFrame). x.packets) frames n none [] there in
        let at = arrives.frame_eq in
        let every = ap (λ (t : Criteria). t.every) arrives.has_pending.known.criteria_are in
        ap (λ (k : ℕ). list_any (has_recent_header g f) (take k frames)) next
        ∙ list_any_more (has_recent_header g f) frames n none there
        ∙ ap (λ (b : Bool). list_any (has_recent_header g f) (take n frames) || b)
        (grind (arith, nat_tests, has_header))

    gap_test_follows_deadline : (f : ℕ) → is_gap g frames (suc n) f ≡ nat_le here.repeat_deadline
        (f + 1)
    unfolding is_gap
    gap_test_follows_deadline f =
        rw (recent_header_test_is_updated f)
        (repeat_deadline_test_is_updated (nat_le (frame_at frames 0 + g.every) (f + 1))
        (list_any (has_recent_header g f) (take n frames)) (nat_lt 0 hears.headers)
        c.repeat_deadline c.frame c.every f
        (arrives.has_pending.begun.gap_eq f))

    pub state_after_packets : (e : CheckerValue) → e ≡ record here {
      counts = record here.counts { frames = suc n };
    } → AfterPackets g frames n ps e
    state_after_packets e is =
        rw is (record {
          known = assumption checker_remembers_next_frame;
          begun = record {
            first_is = arrives.has_pending.begun.first_is;
            gap_eq = gap_test_follows_deadline;
          };
          active_faults_eq = arrives.has_pending.active_faults_eq;
          last_is = arrives.has_pending.last_is;
          first_unfinished_eq = arrives.has_pending.first_unfinished_eq;
          number = refl;
          frame_eq = arrives.frame_eq;
          latest_is = arrives.latest_is;
          begins =
              hears.begins
              ∙ ap (λ (w : Watched). has_text_beginning w.keeps (kind w.page) ps)
              (sym (ap (λ (t : Criteria). t.watched) arrives.has_pending.known.criteria_are))
              ∙ ap (has_text_beginning g.watched.keeps (kind g.watched.page)) (sym are);
        })

module _ (g : Criteria) (frames : Transmission) (n : ℕ) (last : List (List ℕ)) (c : CheckerValue)
    (is : AfterPackets g frames n last c)
  where
    pub header_count_grows_with_header : (before : ℕ) → n < length frames
        → before ≡ header_count g.watched.page (packets_before frames n)
        → nat_lt before c.counts.headers
        ≡ has_page_header (kind g.watched.page) (packets_of_frame frames n)
    header_count_grows_with_header before there at =
        let next : suc n ≡ n + 1 = omega arith in
        let more : packets_before frames (suc n)
        ≡ packets_before frames n ++ packets_of_frame frames n =
        ap (packets_before frames) next ∙ packets_before_appends_next_frame frames n there in
        let count = is.known.count in
        grind (arith, nat_tests, header_count-append, holds-count)

    pub first_header_events_are_exact : (has lacks_row : Bool)
        → has ≡ has_page_header (kind g.watched.page) (packets_of_frame frames n)
        → lacks_row ≡ ((c.counts.frames == 1) && not has)
        → first_header_events g frames n
        ≡ cond lacks_row (Reported (fault.NoFirstHeader c.frame) ∷ []) []
    unfolding first_header_events
    first_header_events_are_exact has lacks_row holds e =
        let number = is.number in
        let at = is.frame_eq in
        go n number at holds
      where
        go : (k : ℕ) → c.counts.frames ≡ suc k → c.frame ≡ frame_at frames k
            → has ≡ has_page_header (kind g.watched.page) (packets_of_frame frames k)
            → first_header_events g frames k
            ≡ cond lacks_row (Reported (fault.NoFirstHeader c.frame) ∷ []) []
        go zero number at holds = grind (arith, nat_tests)
        go (suc k) number at holds = grind (arith, nat_tests)

    module _ (due : c.listener.comparison.due ≡ due_page_in c.programme c.frame) where
      pub checker_ending_steps_are_exact : end_steps c ≡ steps_at_end g frames n (suc n)
          (frame_at frames n)
      checker_ending_steps_are_exact =
          checker_end_steps_are_exact g frames n (suc n) (frame_at frames n) last c is.known
          is.begun is.frame_eq due
          is.active_faults_eq is.last_is is.first_unfinished_eq (run_start_at_next_frame g frames n)
          (omega arith)
          is.latest_is

      checker_faults_are_frame_faults : active_faults_of c
          ≡ active_faults_at g frames (suc n) (frame_at frames n)
      checker_faults_are_frame_faults =
          active_faults_of_checker_are_exact g frames n (suc n) (frame_at frames n) last c is.known
          is.begun
          is.frame_eq due
          is.active_faults_eq is.last_is is.first_unfinished_eq (run_start_at_next_frame g frames n)
          (omega arith)
          is.latest_is

      pub final_step_matches_frame : (f : ℕ) (begins none : Bool) (d : CheckerValue)
          → d ≡ checker_after_end c
          → f ≡ d.frame
          → begins
          ≡ has_text_beginning g.watched.keeps (kind g.watched.page) (packets_of_frame frames n)
          → none ≡ has_no_active_faults d.active_faults
          → Ends f begins none
          ≡ Ends (frame_at frames n)
          (has_text_beginning g.watched.keeps (kind g.watched.page) (packets_of_frame frames n))
          (has_no_active_faults (active_faults_at g frames (suc n) (frame_at frames n)))
      final_step_matches_frame f begins none d end at holds no_faults_now =
          let no_faults_before = ap (λ (v : CheckerValue). has_no_active_faults v.active_faults) end
          ∙ ap has_no_active_faults checker_faults_are_frame_faults in
          rw (
            at ∙ ap (λ (v : CheckerValue). v.frame) end ∙ is.frame_eq,
            holds,
            no_faults_now ∙
                no_faults_before,
          ) refl

      checker_run_start_is_exact : 0 < g.within → (checker_after_end c).first_unfinished ≡
          first_unfinished_in_frames g frames (suc n)
      checker_run_start_is_exact l =
          run_start_after_end_is_exact g frames n (suc n) (frame_at frames n) last c is.known
          is.begun
          is.frame_eq due
          is.active_faults_eq is.last_is is.first_unfinished_eq (run_start_at_next_frame g frames n)
          (omega arith)
          is.latest_is l
          ∙ run_start_at_last_frame g frames n

      pub checker_follows_next_frame : AfterEnd g frames (suc n) last (checker_after_end c)
      checker_follows_next_frame = record {
        known = assumption is.known;
        none = λ e. absurd (omega (arith, e));
        begun = λ l. record { first_is = is.begun.first_is; gap_eq = is.begun.gap_eq };
        latest_is = λ l. is.latest_is;
        active_faults_eq = λ l. checker_faults_are_frame_faults ∙ ap (λ (k : ℕ). active_faults_at g
            frames
            (suc n)
            (frame_at frames k)) (omega arith);
        last_is = λ l. is.frame_eq ∙ ap (frame_at frames) (omega arith);
        first_unfinished_eq = checker_run_start_is_exact;
        number = is.number;
      }
