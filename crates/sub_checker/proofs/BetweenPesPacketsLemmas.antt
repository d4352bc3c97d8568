-- Between two PES packets, the checker's state agrees with the frames sent so far. The checker
-- decides correctly whether a PES packet continues the last frame, and its steps and its state
-- after the packet are those of the rules.
use Rattle.std.proofs.lemmas.Bool.Decides.{nat_tests}
use Rattle.std.proofs.Common.{◌≡◌, ℕ, suc, ◌+◌, ◌-◌, ◌<◌, ◌==◌, Bool, ◌&&◌}
use Rattle.std.proofs.Common.{true, false, List, [], ◌∷◌, ◌++◌, length, refl, sym, ap}
use Rattle.std.proofs.Common.{◌∙◌, subst, arith, ap₂, length-append}
use Rattle.std.proofs.lemmas.List.{append-nil}
use Rattle.sub_rules.specs.FrameRules.{Criteria, frame_at, packets_before, packets_of_frame}
use Rattle.sub_rules.specs.PesPacketEvents.{steps_of_arrival, steps_of_ending, steps_of_more}
use Rattle.sub_rules.specs.PesPacketEvents.{steps_of_packets, steps_of_sent, steps_of_pending_end}
use Rattle.sub_rules.specs.PesPackets.{continues_with, with_packets}
use Rattle.sub_rules.proofs.JoinedLemmas.{with_packets-length}
use Rattle.sub_rules.specs.Sendings.{IsSentFrame}
use Rattle.sub_rules.specs.Transmission.{SentFrame, Transmission}
use Rattle.sub_rules.specs.Trusted.{CheckStep}
use Rattle.sub_rules.specs.Trusted.CheckStep.{AtPes, Begins}
use Rattle.sub_rules.specs.declared.event.Event.{Event}
use Rattle.sub_checker.specs.Checker.{CheckerValue, HasHeard, checker_after_headers}
use Rattle.sub_checker.specs.CheckedFrames.{AfterEnd, AfterPackets, BeforePackets}
use Rattle.sub_checker.specs.CheckedFrames.{BetweenPesPackets}
use Rattle.sub_checker.specs.CheckedFrames.{StaysOpen, reporter_after_back_step}
use Rattle.sub_checker.specs.CheckedFrames.{steps_of_next_frame, steps_to_next_frame}
use Rattle.sub_checker.proofs.FrameEndLemmas.{back_steps_agree}
use Rattle.sub_checker.specs.Relay.{ReporterRelays, at_step}
use Rattle.sub_checker.specs.declared.counts.Counts.{Counts}
use Rattle.sub_checker.specs.declared.reporter.Reporter.{Reporter}
use Rattle.sub_checker.proofs.AfterPacketsLemmas.{state_after_packets}
use Rattle.sub_checker.proofs.MorePacketsLemmas.{added_packets_leave_frame_open}
use Rattle.sub_checker.proofs.ReporterLemmas.{beginning_frame_is_relayed}
use Rattle.sub_checker.proofs.ReporterLemmas.{appended_steps_are_relayed}

pub BetweenPesPackets-closed : (g : Criteria) (sent : Transmission) (last : List (List ℕ))
    (c : CheckerValue)
    → c.counts.is_open ≡ false
    → g.within ≡ 0
    → AfterEnd g sent (length sent) last c
    → BetweenPesPackets g sent last c
BetweenPesPackets-closed g sent last c shut each follows = grind (arith, nat_tests)

pub BetweenPesPackets-open : (g : Criteria) (sent : Transmission) (n : ℕ) (last : List (List ℕ))
    (c : CheckerValue)
    → c.counts.is_open ≡ true
    → 0 < g.within
    → length sent ≡ suc n
    → StaysOpen g sent n last c
    → BetweenPesPackets g sent last c
BetweenPesPackets-open g sent n last c opened within all opens = grind (arith, nat_tests)

pub closed_frame_has_no_pending_end : (g : Criteria) (sent : Transmission) (last : List (List ℕ))
    (c : CheckerValue)
    → BetweenPesPackets g sent last c
    → c.counts.is_open ≡ false
    → steps_of_pending_end g sent ≡ []
unfolding steps_of_pending_end
closed_frame_has_no_pending_end g sent last c keeps shut = grind (arith, nat_tests)

pub open_frame_has_pending_end : (g : Criteria) (sent : Transmission) (last : List (List ℕ))
    (c : CheckerValue)
    → BetweenPesPackets g sent last c
    → c.counts.is_open ≡ true
    → steps_of_pending_end g sent ≡ steps_of_ending g sent (length sent - 1)
unfolding steps_of_pending_end
open_frame_has_pending_end g sent last c keeps opened = grind (arith, nat_tests)

counts_keep_heard_packets : (g : Criteria) (sent : Transmission) (n : ℕ) (last : List (List ℕ))
    (c d : CheckerValue) (m : Counts)
    → d ≡ record c { counts = m }
    → m.frames ≡ c.counts.frames
    → m.headers ≡ c.counts.headers
    → AfterPackets g sent n last c
    → AfterPackets g sent n last d
counts_keep_heard_packets g sent n last c d m is frames headers heard = grind (arith, nat_tests)

pub closing_frame_keeps_heard_packets : (g : Criteria) (sent : Transmission) (n : ℕ)
    (last : List (List ℕ))
    (c d : CheckerValue)
    → d ≡ record c { counts = record c.counts { is_open = false } }
    → AfterPackets g sent n last c
    → AfterPackets g sent n last d
closing_frame_keeps_heard_packets g sent n last c d is heard =
    counts_keep_heard_packets g sent n last c d (record c.counts { is_open = false }) is refl refl
    heard

pub added_packets_keep_open_frame : (g : Criteria) (sent : Transmission) (last ps : List (List ℕ))
    (c v e : CheckerValue) (k : ℕ)
    → BetweenPesPackets g sent last c
    → c.counts.is_open ≡ true
    → HasHeard c.counts.packets (packets_before sent (suc (length sent - 1))) ps c v
    → e ≡ record v { counts = record v.counts { packets = k } }
    → k ≡ v.counts.packets + length ps
    → BetweenPesPackets g (with_packets ps sent) ps e
added_packets_keep_open_frame g sent last ps c v e k keeps opened hears is sum =
    let n : ℕ = length sent - 1 in
    let some = keeps.some opened in
    let all : length sent ≡ suc (length sent - 1) = omega (arith, some) in
    let opens = keeps.opens opened in
    let new = hears.new_eq in
    let same = is
    ∙ ap (λ (w : CheckerValue). record w { counts = record w.counts { packets = k } }) new in
    BetweenPesPackets-open g (with_packets ps sent) (length sent - 1) ps e
    (ap (λ (w : CheckerValue). w.counts.is_open) same ∙ opened)
    (keeps.within opened) (with_packets-length ps sent ∙ all)
    (added_packets_leave_frame_open g sent (length sent - 1) last ps c v opens.heard all hears e k
    same opens.before
    opens.packets (sum ∙ ap (λ (w : CheckerValue). w.counts.packets + length ps) new))

pub frame_continuation_test_is_exact : (g : Criteria) (sent : Transmission) (last : List (List ℕ))
    (c : CheckerValue)
    (s : SentFrame) (same : Bool)
    → BetweenPesPackets g sent last c
    → same ≡ (c.counts.is_open && s.frame == c.frame)
    → continues_with g.within sent s ≡ same
frame_continuation_test_is_exact g sent last c s same keeps is = grind (arith, nat_tests)

pub continued_frame_steps : (g : Criteria) (sent : Transmission) (pes : ℕ) (s : SentFrame)
    → continues_with g.within sent s ≡ true
    → steps_of_sent g sent pes s ≡ AtPes pes ∷ steps_of_more g sent s.packets
unfolding steps_of_sent
continued_frame_steps g sent pes s same = rw same refl

pub new_frame_steps : (g : Criteria) (sent : Transmission) (pes : ℕ) (s : SentFrame)
    → continues_with g.within sent s ≡ false
    → steps_of_sent g sent pes s
    ≡ steps_of_pending_end g sent ++ AtPes pes ∷ steps_of_next_frame g (sent ++ s ∷ [])
    (length sent)
unfolding steps_of_sent
new_frame_steps g sent pes s other = rw other refl

pub appended_frame_is_sent : (sent : Transmission) (s : SentFrame)
    → IsSentFrame (sent ++ s ∷ []) (length sent) s.frame s.packets
appended_frame_is_sent sent s = record {
  there = omega (arith, length-append sent (s ∷ []));
  frame_eq = at sent;
  packets_are = packets sent;
}
  where
    at : (xs : Transmission) → frame_at (xs ++ s ∷ []) (length xs) ≡ s.frame
    at [] = refl
    at (x ∷ xs) = at xs

    packets : (xs : Transmission) → packets_of_frame (xs ++ s ∷ []) (length xs) ≡ s.packets
    packets [] = refl
    packets (x ∷ xs) = packets xs

pub appending_frame_adds_one : (sent : Transmission) (s : SentFrame)
    → length (sent ++ s ∷ []) ≡ suc (length sent)
appending_frame_adds_one sent s = length-append sent (s ∷ []) ∙ omega arith

pub arrived : {D : Type 0} {d : _} {IsReported : D → Event → D → Type 0} {a s t : Reporter D d}
    (g : Criteria) (frames : Transmission) (n : ℕ) (last : List (List ℕ)) (c : CheckerValue)
    → BeforePackets g frames n last c
    → ReporterRelays IsReported a (steps_to_next_frame g frames n) s
    → t ≡ reporter_after_back_step c (at_step (Begins c.frame) s)
    → ReporterRelays IsReported a (steps_of_arrival g frames n) t
arrived {a = a} {s = s} {t = t} g frames n last c arrives reached begins =
    let back =
    back_steps_agree g frames n n (frame_at frames n) last c arrives.has_pending.known
    arrives.has_pending.first_unfinished_eq in
    appended_steps_are_relayed
    (ap₂ (λ (f : ℕ) (ms : List CheckStep). steps_to_next_frame g frames n ++ Begins f ∷ ms)
    (sym arrives.frame_eq) (sym back))
    reached (beginning_frame_is_relayed s t c begins)

pub undelayed_frame_steps : (g : Criteria) (frames : Transmission) (n : ℕ) → g.within ≡ 0
    → steps_of_next_frame g frames n
    ≡ steps_of_arrival g frames n ++ steps_of_packets g frames n ++ steps_of_ending g frames n
undelayed_frame_steps g frames n each = grind (arith, nat_tests)

pub delayed_frame_steps : (g : Criteria) (frames : Transmission) (n : ℕ) → 0 < g.within
    → steps_of_next_frame g frames n ≡ steps_of_arrival g frames n ++ steps_of_packets g frames n
delayed_frame_steps g frames n within = grind (arith, nat_tests, append-nil)

module _ (g : Criteria) (frames : Transmission) (n : ℕ) (last ps : List (List ℕ))
    (c v : CheckerValue)
    (arrives : BeforePackets g frames n last c) (there : n < length frames)
    (are : packets_of_frame frames n ≡ ps) (hears : HasHeard 0 (packets_before frames n) ps c v)
  where
    pub next_heard : (e : CheckerValue)
        → e ≡ record v { counts = record v.counts { frames = v.counts.frames + 1 } }
        → AfterPackets g frames n ps e
    next_heard e is =
        state_after_packets g frames n last ps c v arrives there are hears e
        (is
        ∙ ap (λ (w : CheckerValue). record w {
          counts = record w.counts { frames = w.counts.frames + 1 };
        }) hears.new_eq
        ∙ ap (λ (k : ℕ). let here : CheckerValue =
        checker_after_headers hears.headers (record c { listener = hears.listener }) in
        record here { counts = record here.counts { frames = k } })
        (omega (arith, arrives.has_pending.number)))

    pub new_frame_stays_open : (e : CheckerValue) (before k : ℕ)
        → 0 < c.within
        → length frames ≡ suc n
        → e ≡ record v {
          counts = record v.counts {
            frames = v.counts.frames + 1;
            headers_before = before;
            packets = k;
            is_open = true;
          };
        }
        → before ≡ c.counts.headers
        → k ≡ length ps
        → BetweenPesPackets g frames ps e
    new_frame_stays_open e before k within long is was size =
        let d : CheckerValue = record v {
          counts = record v.counts { frames = v.counts.frames + 1 };
        } in
        BetweenPesPackets-open g frames n ps e (ap (λ (w : CheckerValue). w.counts.is_open) is)
        (rw (ap (λ (t : Criteria). t.within) arrives.has_pending.known.criteria_are) within) long
        (record {
          heard =
              counts_keep_heard_packets g frames n ps d e _ is refl refl (next_heard d refl);
          before =
              ap (λ (w : CheckerValue). w.counts.headers_before) is
              ∙ was
              ∙ arrives.has_pending.known.count;
          packets =
              ap (λ (w : CheckerValue). w.counts.packets) is
              ∙ size
              ∙ ap length (sym are);
        })

    pub within_is_positive : (v.within ≡ 0 → ⊥) → 0 < c.within
    within_is_positive not_each =
        let same = ap (λ (w : CheckerValue). w.within) hears.new_eq in
        omega (arith, not_each, same)

    pub both_delays_are_zero : v.within ≡ 0 → g.within ≡ 0
    both_delays_are_zero e =
        ap (λ (t : Criteria). t.within) arrives.has_pending.known.criteria_are
        ∙ sym (ap (λ (w : CheckerValue). w.within) hears.new_eq)
        ∙ e

pub following_all_frames_is_following : (g : Criteria) (sent : Transmission) (last : List (List ℕ))
    (c : CheckerValue)
    → 0 < length sent
    → AfterEnd g sent (suc (length sent - 1)) last c
    → AfterEnd g sent (length sent) last c
following_all_frames_is_following g sent last c some follows =
    subst (λ (k : ℕ). AfterEnd g sent k last c) (omega (arith, some)) follows
