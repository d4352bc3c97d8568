-- If `within` is 0, the first fault of a PES file is the same whether reading continues after
-- skipped packets or stops at the first one.
use Rattle.std.proofs.Common.{◌≡◌, ℕ, suc, ◌+◌, List, [], ◌∷◌, ◌++◌, length, map, Option, Some}
use Rattle.std.proofs.Common.{None, refl, sym, ap, ◌∙◌, arith, append_assoc, length-append}
use Rattle.std.proofs.Common.{flat_map}
use Rattle.std.proofs.lemmas.Bool.Decides.{nat_tests}
use Rattle.std.proofs.lemmas.List.{append-nil}
use Rattle.std.specs.Option.{option_or}
use Rattle.sub_rules.specs.Events.{place_of_broken_rule, closing_events, end_events, end_rules}
use Rattle.sub_rules.specs.Events.{fault_ending_events, first_reported_fault, no_active_faults}
use Rattle.sub_rules.specs.Events.{rule_events}
use Rattle.sub_rules.specs.Events.{unread_fault}
use Rattle.sub_rules.specs.Fault.{fault_with_pes_number}
use Rattle.sub_rules.specs.FrameRules.{Criteria, UnreadReason}
use Rattle.sub_rules.specs.PesPacketEvents.{LawOfFirstReported, announced_events}
use Rattle.sub_rules.specs.PesPacketEvents.{all_events_of_pes_packets}
use Rattle.sub_rules.specs.PesPacketEvents.{announced}
use Rattle.sub_rules.specs.PesPacketEvents.{closing_events_of_pes_packets, run_ending_events}
use Rattle.sub_rules.specs.PesPacketEvents.{continues_skipped_run, no_run}
use Rattle.sub_rules.specs.PesPacketEvents.{skipped_run_after}
use Rattle.sub_rules.specs.PesPacketEvents.{skipped_run_after_events, steps_of_closing}
use Rattle.sub_rules.specs.PesPacketEvents.{steps_of_each}
use Rattle.sub_rules.specs.PesPacketEvents.{steps_of_pes_packets, steps_of_sent}
use Rattle.sub_rules.specs.PesPacketEvents.{steps_of_pending_end}
use Rattle.sub_rules.specs.PesPacketEvents.{ungrouped_events_of_pes_packets, until_skipped}
use Rattle.sub_rules.specs.PesPackets.{PesPacket, frames_of, read_until_skipped, sent_after}
use Rattle.sub_rules.specs.PesPackets.PesPacket.{Skipped, Sent}
use Rattle.sub_rules.specs.Transmission.{Transmission}
use Rattle.sub_rules.specs.declared.end_rule.EndRule.{EndRule}
use Rattle.sub_rules.specs.declared.event.Event.{Event}
use Rattle.sub_rules.specs.declared.event.Event.TheVariants.{Reported}
use Rattle.sub_rules.specs.PesPacketEvents.{SkippedRun}
use Rattle.sub_rules.proofs.PrefixEventLemmas.{frame_events-prefix}
use Rattle.sub_rules.proofs.AnyReportedLemmas.{closing_events_have_no_other_number}
use Rattle.sub_rules.proofs.AnyReportedLemmas.{at_pes_keeps_numbered_events}
use Rattle.sub_rules.proofs.EndRuleLemmas.{no_active_faults_break_no_rule}
use Rattle.sub_rules.proofs.JoinedLemmas.{joined-within, sent_after-none}
use Rattle.sub_rules.proofs.StepEventLemmas.{first_fault_of_append, no_delay_leaves_no_pending_end}
use Rattle.sub_rules.proofs.StepEventLemmas.{events_emitted_from_packet}
use Rattle.sub_rules.proofs.StepEventLemmas.{emits_steps_emit_numbered_events}
use Rattle.sub_rules.proofs.StepEventLemmas.{sent_frame_emits_frame_events}
use Rattle.sub_rules.proofs.StepEventLemmas.{reported_and_emitted_faults_agree}
use Rattle.sub_rules.proofs.PacketLists.{or-none}
use Rattle.sub_rules.specs.Trusted.{CheckStep, with_pes_number, current_pes, events_reported_after}
use Rattle.sub_rules.proofs.FrameEvents.{events, events_of_first_frames, frame_events}
use Rattle.sub_rules.specs.declared.active_faults.ActiveFaults.{ActiveFaults}

-- Grouping runs of skipped packets does not change the first fault.
pub announcing_keeps_first_fault : (es : List Event) → first_reported_fault (announced_events no_run
    es) ≡ first_reported_fault
    es
unfolding announced_events announced continues_skipped_run skipped_run_after
announcing_keeps_first_fault [] = refl
announcing_keeps_first_fault (Reported f ∷ es) = refl
announcing_keeps_first_fault (e ∷ es) = announcing_keeps_first_fault es

ending_run_reports_no_fault : (run : SkippedRun) → first_reported_fault (run_ending_events run) ≡
    None
ending_run_reports_no_fault run = grind (arith, nat_tests)

pub announced_events_keep_first_fault : (reported : List Event)
    → first_reported_fault
    (announced_events no_run reported ++ run_ending_events (skipped_run_after_events no_run
    reported))
    ≡ first_reported_fault reported
announced_events_keep_first_fault reported = grind (
  arith,
  nat_tests,
  first_fault_of_append,
  ending_run_reports_no_fault,
  or-none,
  announcing_keeps_first_fault,
)

-- The events that end the active faults at the end of a file report no fault.
endings_report_no_fault : (last : ActiveFaults) (f : ℕ) → first_reported_fault
    (fault_ending_events last f) ≡ None
unfolding end_events
endings_report_no_fault last f = go end_rules
  where
    ended : (rule : EndRule) (o : Option (ℕ × ℕ)) (rest : List Event)
        → first_reported_fault (rule_events rule o f None f ++ rest) ≡ first_reported_fault rest
    ended rule None rest = refl
    ended rule (Some cell) rest = refl

    go : (rules : List EndRule)
        → first_reported_fault
        (flat_map
        (λ rule. rule_events rule (place_of_broken_rule rule last) f (place_of_broken_rule rule
        no_active_faults) f)
        rules)
        ≡ None
    go [] = refl
    go (rule ∷ rules) =
        rw (no_active_faults_break_no_rule rule) (ended rule (place_of_broken_rule rule last) _ ∙ go
        rules)

unread_fault_is_reported_first : (g : Criteria) (frames : Transmission) (n : ℕ) (u : UnreadReason)
    → length frames ≡ n
    → g.unread ≡ Some u
    → first_reported_fault (closing_events g frames n) ≡ Some (unread_fault n (Some u))
unfolding closing_events
unread_fault_is_reported_first g frames n u h1 h2 = grind (
  arith,
  nat_tests,
  first_fault_of_append,
  endings_report_no_fault,
)

events_of_next_frames : Criteria → Transmission → ℕ → Transmission → List Event
events_of_next_frames g frames i [] = []
events_of_next_frames g frames i (s ∷ others) = frame_events g frames i ++ events_of_next_frames g
    frames (suc i)
    others

events_of_frames_append : (g : Criteria) (frames : Transmission) (i n : ℕ) (others : Transmission)
    → i + length others ≡ n
    → events_of_first_frames g frames n ≡ events_of_first_frames g frames i ++ events_of_next_frames
    g frames i others
unfolding events_of_next_frames events_of_first_frames
events_of_frames_append g frames i n [] e = grind (arith, nat_tests, append-nil)
events_of_frames_append g frames i n (s ∷ others) e =
    events_of_frames_append g frames (suc i) n others (omega arith)
    ∙ append_assoc (events_of_first_frames g frames i) (frame_events g frames i)
    (events_of_next_frames g frames (suc i) others)

unread_fault_keeps_pes_number : (n : ℕ) (u : UnreadReason)
    → fault_with_pes_number n (unread_fault n (Some u)) ≡ unread_fault n (Some u)
unread_fault_keeps_pes_number n u = grind (arith, nat_tests)

first_fault_ignores_later_packets : (g : Criteria) (at_once : g.within ≡ 0)
    (done all first : Transmission) (n pes : ℕ)
    (pes_packets : List PesPacket) (u : Option UnreadReason) (after : List CheckStep)
    → length done ≡ n
    → all ≡ done ++ frames_of pes_packets
    → first ≡ done ++ (read_until_skipped pes_packets g.unread).frames
    → u ≡ (read_until_skipped pes_packets g.unread).unread
    → (length (frames_of pes_packets) ≡ length pes_packets
    → (p : ℕ) → events_emitted_from_packet p after ≡ closing_events g all (length all))
    → first_reported_fault
    (events_emitted_from_packet pes (steps_of_each g done n pes_packets ++ after))
    ≡ first_reported_fault (events_of_next_frames (record g { unread = u }) first n
    (read_until_skipped pes_packets g.unread).frames
    ++ closing_events (record g { unread = u }) first (length first))
unfolding steps_of_each frames_of read_until_skipped events_of_next_frames with_pes_number
first_fault_ignores_later_packets g at_once done all first n pes [] u after size all_eq first_is
    u_is closing =
    ap first_reported_fault (closing refl pes) ∙ rw (all_eq, first_is, u_is) refl
first_fault_ignores_later_packets g at_once done all first n pes (Skipped v ∷ pes_packets) u after
    size all_eq first_is u_is
    closing =
    let long : length first ≡ n = ap length (first_is ∙ append-nil done) ∙ size in
    ap Some (unread_fault_keeps_pes_number n v)
    ∙ ap (λ (k : ℕ). Some (unread_fault k (Some v))) (sym long)
    ∙ sym (unread_fault_is_reported_first (record g { unread = u }) first (length first) v refl
    u_is)
first_fault_ignores_later_packets g at_once done all first n pes (Sent s ∷ pes_packets) u after size
    all_eq first_is u_is
    closing =
    let h : Criteria = record g { unread = u } in
    let next = done ++ s ∷ [] in
    let stop = read_until_skipped pes_packets g.unread in
    let longer : length next ≡ suc n = length-append done (s ∷ []) ∙ omega (arith, size) in
    let all_next : all ≡ next ++ frames_of pes_packets =
    all_eq ∙ sym (append_assoc done (s ∷ []) (frames_of pes_packets)) in
    let first_next : first ≡ next ++ stop.frames =
    first_is ∙ sym (append_assoc done (s ∷ []) stop.frames) in
    let same : frame_events g next n ≡ frame_events h first n =
    ap (λ (fs : Transmission). frame_events g fs n) (sym (append-nil next))
    ∙ frame_events-prefix g u next [] n (omega arith)
    ∙ sym (frame_events-prefix h u next stop.frames n (omega arith))
    ∙ ap (λ (fs : Transmission). frame_events h fs n) (sym first_next) in
    let continues : sent_after g.within done s ≡ next =
    ap (λ (w : ℕ). sent_after w done s) at_once ∙ sent_after-none done s in
    let here = steps_of_sent g done n s in
    let rest : List CheckStep = steps_of_each g next (suc n) pes_packets in
    let others : List Event = events_of_next_frames h first (suc n) stop.frames in
    let closed : List Event = closing_events h first (length first) in
    ap (λ (sent : Transmission). first_reported_fault (events_emitted_from_packet pes
    ((here ++ steps_of_each g sent (suc n) pes_packets) ++ after))) continues
    ∙ ap (λ (ms : List CheckStep). first_reported_fault (events_emitted_from_packet pes ms))
    (append_assoc here rest after)
    ∙ ap first_reported_fault (sent_frame_emits_frame_events g at_once done s n pes (rest ++ after)
    size)
    ∙ first_fault_of_append (frame_events g next n) (events_emitted_from_packet n (rest ++ after))
    ∙ ap (option_or (first_reported_fault (frame_events g next n)))
    (first_fault_ignores_later_packets g at_once next all first (suc n) n pes_packets u after longer
    all_next first_next u_is
    (λ e. closing (ap suc e)))
    ∙ sym (first_fault_of_append (frame_events g next n) (others ++ closed))
    ∙ ap (λ (es : List Event). first_reported_fault (es ++ (others ++ closed))) same
    ∙ ap first_reported_fault (sym (append_assoc (frame_events h first n) others closed))

closing_events_are_equal : (g : Criteria) (frames : Transmission) (n : ℕ) → length frames ≡ n
    → map (with_pes_number n) (closing_events_of_pes_packets g frames n n) ≡ closing_events g frames
    n
unfolding closing_events_of_pes_packets
closing_events_are_equal g frames n h1 =
    let same = at_pes_keeps_numbered_events n (closing_events g frames n)
    (closing_events_have_no_other_number g frames n h1) in
    grind (arith, nat_tests)

first_faults_agree : (g : Criteria) (pes_packets : List PesPacket) → g.within ≡ 0
    → first_reported_fault (all_events_of_pes_packets g pes_packets)
    ≡ first_reported_fault (events (until_skipped g pes_packets) (read_until_skipped pes_packets
    g.unread).frames)
unfolding all_events_of_pes_packets ungrouped_events_of_pes_packets events events_of_first_frames
    current_pes
first_faults_agree g pes_packets at_once =
    let frames = frames_of pes_packets in
    let stop = read_until_skipped pes_packets g.unread in
    let h : Criteria = until_skipped g pes_packets in
    let reported : List Event = events_reported_after [] (steps_of_pes_packets g pes_packets) in
    let each : List CheckStep = steps_of_each g [] 0 pes_packets in
    announced_events_keep_first_fault reported
    ∙ reported_and_emitted_faults_agree [] (steps_of_pes_packets g pes_packets)
    ∙ ap (λ (fs : Transmission). first_reported_fault (events_emitted_from_packet 0
    (each ++ steps_of_pending_end g fs ++ steps_of_closing g fs (length pes_packets) (length fs))))
    (joined-within g.within frames at_once)
    ∙ ap (λ (ms : List CheckStep). first_reported_fault (events_emitted_from_packet 0 ms))
    (append_assoc each (steps_of_pending_end g frames)
    (steps_of_closing g frames (length pes_packets) (length frames)))
    ∙ first_fault_ignores_later_packets g at_once [] frames stop.frames 0 0 pes_packets stop.unread
    (steps_of_pending_end g frames ++ steps_of_closing g frames (length pes_packets)
    (length frames)) refl
    refl refl refl closing_steps_emit_closing_events
    ∙ ap (λ (l : List Event). first_reported_fault (l ++ closing_events h stop.frames
    (length stop.frames)))
    (sym (events_of_frames_append h stop.frames 0 (length stop.frames) stop.frames (omega arith)))
  where
    closing_steps_emit_closing_events : length (frames_of pes_packets) ≡ length pes_packets →
        (p : ℕ)
        → events_emitted_from_packet p (steps_of_pending_end g (frames_of pes_packets)
        ++ steps_of_closing g (frames_of pes_packets) (length pes_packets)
        (length (frames_of pes_packets)))
        ≡ closing_events g (frames_of pes_packets) (length (frames_of pes_packets))
    closing_steps_emit_closing_events all p =
        let frames = frames_of pes_packets in
        ap (λ (ms : List CheckStep). events_emitted_from_packet p
        (ms ++ steps_of_closing g frames (length pes_packets) (length frames)))
        (no_delay_leaves_no_pending_end g at_once frames)
        ∙ emits_steps_emit_numbered_events (length pes_packets) (closing_events_of_pes_packets g
        frames (length pes_packets)
        (length frames))
        ∙ ap (λ (k : ℕ). map (with_pes_number k) (closing_events_of_pes_packets g frames k
        (length frames)))
        (sym all)
        ∙ closing_events_are_equal g frames (length frames) refl

reading_sent_frames_returns_all : (frames : Transmission) (unread : Option UnreadReason)
    → read_until_skipped (map Sent frames) unread ≡ record { frames = frames; unread = unread }
unfolding read_until_skipped
reading_sent_frames_returns_all [] unread = grind (arith, nat_tests)
reading_sent_frames_returns_all (s ∷ frames) unread = grind
    (arith, nat_tests, (reading_sent_frames_returns_all frames unread))

pub first_reported_fault_is_exact : LawOfFirstReported
first_reported_fault_is_exact = grind
    (arith, nat_tests, first_faults_agree, events, reading_sent_frames_returns_all)

pub skipped_run_after-append : (run : SkippedRun) (xs ys : List Event)
    → skipped_run_after_events run (xs ++ ys) ≡ skipped_run_after_events (skipped_run_after_events
    run xs) ys
unfolding skipped_run_after_events
skipped_run_after-append run [] ys = refl
skipped_run_after-append run (x ∷ xs) ys = skipped_run_after-append (skipped_run_after run x) xs ys

pub announced_events-append : (run : SkippedRun) (xs ys : List Event)
    → announced_events run (xs ++ ys)
    ≡ announced_events run xs ++ announced_events (skipped_run_after_events run xs) ys
unfolding announced_events skipped_run_after_events
announced_events-append run [] ys = refl
announced_events-append run (x ∷ xs) ys =
    grind (arith, nat_tests, append_assoc, announced_events-append (skipped_run_after run x) xs ys)
