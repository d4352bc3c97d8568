-- If a PES packet continues the last frame, the checker's steps and its state afterwards are those
-- of the rules.
use Rattle.std.proofs.lemmas.Bool.Decides.{nat_tests}
use Rattle.std.proofs.Common.{◌≡◌, ℕ, suc, ◌+◌, ◌-◌, ◌<◌, Bool, ◌&&◌, ◌||◌, nat_le}
use Rattle.std.proofs.Common.{nat_lt, List, [], ◌∷◌, ◌++◌, length, map, take, refl, sym, ap, ◌∙◌}
use Rattle.std.proofs.Common.{arith}
use Rattle.std.proofs.Common.{ap₂, length-append}
use Rattle.std.proofs.lemmas.List.{get_or-map}
use Rattle.std.proofs.lemmas.List.Folds.{list_any-append, list_any_more}
use Rattle.std.specs.List.{list_any}
use Rattle.ttx_page.specs.PacketKind.{begins_text, is_this_page, kind}
use Rattle.ttx_page.specs.Span.{has_text_beginning, has_page_header}
use Rattle.sub_checker.specs.Checker.{CheckerValue, HasHeard, checker_after_headers}
use Rattle.sub_checker.specs.CheckedFrames.{AfterPackets, AgreesWithPackets, StaysOpen}
use Rattle.sub_rules.specs.Events.{has_recent_header, previous_end_frame, is_gap, latest_frame}
use Rattle.sub_rules.specs.Events.{numbered_packet_events}
use Rattle.sub_rules.specs.Events.{first_unfinished_before, active_faults_before}
use Rattle.sub_rules.specs.FrameRules.{Criteria, frame_at, packets_before, packets_of_frame}
use Rattle.sub_rules.specs.PacketRules.{header_count}
use Rattle.sub_rules.specs.PesPacketEvents.{steps_of_more}
use Rattle.sub_rules.specs.PesPackets.{with_packets}
use Rattle.sub_rules.specs.Transmission.{SentFrame, Transmission}
use Rattle.sub_rules.specs.declared.packet_rule.Watched.{Watched}
use Rattle.sub_rules.specs.Trusted.CheckStep.{Emits}
use Rattle.sub_rules.proofs.FirstFrameLemmas.{latest_frame-same, first_unfinished_before-same}
use Rattle.sub_rules.proofs.FirstFrameLemmas.{active_faults_before-same}
use Rattle.sub_rules.proofs.JoinedLemmas.{with_packets-all, with_packets-before}
use Rattle.sub_rules.proofs.JoinedLemmas.{with_packets-frame_at, with_packets-frames}
use Rattle.sub_rules.proofs.JoinedLemmas.{with_packets-last, with_packets-length}
use Rattle.sub_rules.proofs.JoinedLemmas.{with_packets-take}
use Rattle.sub_rules.proofs.PacketLists.{header_count-append, holds-count}
use Rattle.sub_checker.proofs.AfterPacketsLemmas.{repeat_deadline_test_is_updated}

pub packet_steps_agree :
    (g : Criteria) (sent : Transmission) (n : ℕ) (last ps : List (List ℕ)) (c : CheckerValue)
    → StaysOpen g sent n last c
    → length sent ≡ suc n
    → steps_of_more g sent ps
    ≡ map Emits (numbered_packet_events c.listener.watched c.frame c.counts.packets
    (packets_before sent (suc n)) ps (length ps))
packet_steps_agree g sent n last ps c opens all = grind (arith, nat_tests)

nonempty_beginning_test_is_exact : (w : Watched) (ps : List (List ℕ))
    → (nat_lt 0 (length ps) && has_text_beginning w.keeps (kind w.page) ps)
    ≡ has_text_beginning w.keeps (kind w.page) ps
nonempty_beginning_test_is_exact w [] = refl
nonempty_beginning_test_is_exact w (p ∷ ps) = grind (arith, nat_tests)

headers_regrouped : (a b h l : Bool) → (a || ((b || h) && l)) ≡ ((a || (b && l)) || (h && l))
headers_regrouped a b h l = grind (arith, nat_tests)

module _ (g : Criteria) (sent : Transmission) (n : ℕ) (last ps : List (List ℕ)) (c d : CheckerValue)
    (is : AfterPackets g sent n last c) (all : length sent ≡ suc n)
    (hears : HasHeard c.counts.packets (packets_before sent (suc n)) ps c d)
  where
    abbrev transmission_with_added_packets : Transmission
    transmission_with_added_packets = with_packets ps sent

    same : take n transmission_with_added_packets ≡ take n sent
    same = with_packets-take ps sent n (omega (arith, all))

    numbers : map (λ (s : SentFrame). s.frame) transmission_with_added_packets ≡ map
        (λ (s : SentFrame). s.frame) sent
    numbers = with_packets-frames ps sent

    at : (k : ℕ) → frame_at transmission_with_added_packets k ≡ frame_at sent k
    at k = with_packets-frame_at ps sent k

    latest_is : (k : ℕ) → latest_frame transmission_with_added_packets k ≡ latest_frame sent k
    latest_is = latest_frame-same g transmission_with_added_packets sent n numbers same

    previous_end_is_the_same : (f : ℕ) → previous_end_frame transmission_with_added_packets n f ≡
        previous_end_frame sent n f
    previous_end_is_the_same f = rw (latest_is n, at (n - 1)) refl

    run_start_ignores_added_packets : (f : ℕ) → first_unfinished_before g
        transmission_with_added_packets n f ≡
        first_unfinished_before g
        sent n f
    run_start_ignores_added_packets f = first_unfinished_before-same g
        transmission_with_added_packets sent n numbers same n f
        (omega arith)

    long : length transmission_with_added_packets ≡ suc n
    long = with_packets-length ps sent ∙ all

    whole : packets_before transmission_with_added_packets (suc n) ≡ packets_before sent (suc n) ++
        ps
    whole =
        ap (packets_before transmission_with_added_packets) (sym all)
        ∙ with_packets-all ps sent (omega (arith, all))
        ∙ ap (λ (k : ℕ). packets_before sent k ++ ps) all

    own : packets_of_frame transmission_with_added_packets n ≡ packets_of_frame sent n ++ ps
    own = with_packets-last ps sent n (sym all)

    has_header : has_page_header (kind g.watched.page)
        (packets_of_frame transmission_with_added_packets n)
        ≡ (has_page_header (kind g.watched.page) (packets_of_frame sent n) || nat_lt 0
        hears.headers)
    has_header =
        let watched = ap (λ (t : Criteria). t.watched) is.known.criteria_are in
        ap (has_page_header (kind g.watched.page)) own
        ∙ list_any-append (λ (p : List ℕ). is_this_page (kind g.watched.page p))
        (packets_of_frame sent n) ps
        ∙ ap (λ (b : Bool). has_page_header (kind g.watched.page) (packets_of_frame sent n) || b)
        (holds-count g.watched.page ps
        ∙ ap (λ (w : Watched). nat_lt 0 (header_count w.page ps)) watched
        ∙ ap (nat_lt 0) (sym hears.count))

    abbrev here : CheckerValue
    here = checker_after_headers hears.headers (record c { listener = hears.listener })

    checker_remembers_next_frame : AgreesWithPackets g transmission_with_added_packets (suc n) ps
        here
    checker_remembers_next_frame =
        let known = is.known in
        let knows = hears.knows in
        let count = hears.count in
        let watched = hears.watched in
        grind (arith, nat_tests, whole, header_count-append)

    recent_header_test_of_next_frame : (f : ℕ) (xs : Transmission) → n < length xs
        → list_any (has_recent_header g f) (take (suc n) xs)
        ≡ (list_any (has_recent_header g f) (take n xs)
        || (has_page_header (kind g.watched.page) (packets_of_frame xs n)
        && nat_lt f (frame_at xs n + g.every)))
    recent_header_test_of_next_frame f xs there =
        let none : SentFrame = record { frame = 0; packets = [] } in
        let next : suc n ≡ n + 1 = omega arith in
        let number = get_or-map (λ (x : SentFrame). x.frame) xs n none 0 there in
        let packets = get_or-map (λ (x : SentFrame). x.packets) xs n none [] there in
        ap (λ (k : ℕ). list_any (has_recent_header g f) (take k xs)) next
        ∙ list_any_more (has_recent_header g f) xs n none there
        ∙ ap (λ (b : Bool). list_any (has_recent_header g f) (take n xs) || b)
        (grind (arith, nat_tests))

    recent_header_test_is_updated : (f : ℕ)
        → list_any (has_recent_header g f) (take (suc n) transmission_with_added_packets)
        ≡ (list_any (has_recent_header g f) (take (suc n) sent)
        || (nat_lt 0 hears.headers && nat_lt f (c.frame + c.every)))
    recent_header_test_is_updated f =
        let every = ap (λ (t : Criteria). t.every) is.known.criteria_are in
        rw (
          recent_header_test_of_next_frame f transmission_with_added_packets (omega (arith, long)),
          recent_header_test_of_next_frame f sent (omega (arith, all)),
          same,
          has_header,
          at n,
          is.frame_eq,
          sym every,
        ) (headers_regrouped (list_any (has_recent_header g f) (take n sent))
        (has_page_header (kind g.watched.page) (packets_of_frame sent n)) (nat_lt 0 hears.headers)
        (nat_lt f (frame_at sent n + g.every)))

    gap_test_follows_deadline : (f : ℕ) → is_gap g transmission_with_added_packets (suc n) f ≡
        nat_le here.repeat_deadline (f + 1)
    unfolding is_gap
    gap_test_follows_deadline f =
        rw (recent_header_test_is_updated f, at 0)
        (repeat_deadline_test_is_updated (nat_le (frame_at sent 0 + g.every) (f + 1))
        (list_any (has_recent_header g f) (take (suc n) sent)) (nat_lt 0 hears.headers)
        c.repeat_deadline c.frame
        c.every f (is.begun.gap_eq f))

    added_packets_are_heard : (e : CheckerValue) (k : ℕ)
        → e ≡ record here { counts = record here.counts { packets = k } }
        → c.counts.packets ≡ length (packets_of_frame sent n)
        → AfterPackets g transmission_with_added_packets n ps e
    added_packets_are_heard e k e_is packets =
        rw e_is (record {
          known = assumption checker_remembers_next_frame;
          begun = record {
            first_is = is.begun.first_is ∙ sym (at 0);
            gap_eq = gap_test_follows_deadline;
          };
          active_faults_eq =
              is.active_faults_eq
              ∙ sym (active_faults_before-same g transmission_with_added_packets sent n numbers same
              n _ (omega arith)
              ∙ ap (active_faults_before g sent n) (at n));
          last_is = λ l. is.last_is l ∙ sym
              (previous_end_is_the_same _ ∙ ap (previous_end_frame sent n) (at n));
          first_unfinished_eq = λ l. is.first_unfinished_eq l ∙ sym (run_start_ignores_added_packets
              _ ∙ ap
              (first_unfinished_before g sent n) (at n));
          number = is.number;
          frame_eq = is.frame_eq ∙ sym (at n);
          latest_is = is.latest_is ∙ sym (latest_is (suc n));
          begins =
              hears.begins
              ∙ ap₂ (λ m b. (nat_lt 0 m && b)
              || has_text_beginning c.listener.watched.keeps (kind c.listener.watched.page) ps)
              packets
              is.begins
              ∙ rw (nonempty_beginning_test_is_exact g.watched (packets_of_frame sent n))
              (ap (λ (w : Watched). has_text_beginning g.watched.keeps (kind g.watched.page)
              (packets_of_frame sent n) || has_text_beginning w.keeps (kind w.page) ps)
              (sym (ap (λ (t : Criteria). t.watched) is.known.criteria_are)))
              ∙ sym (ap (has_text_beginning g.watched.keeps (kind g.watched.page)) own
              ∙ list_any-append
              (λ (p : List ℕ). begins_text g.watched.keeps (kind g.watched.page p))
              (packets_of_frame sent n) ps);
        })

    pub added_packets_leave_frame_open : (e : CheckerValue) (k : ℕ)
        → e ≡ record here { counts = record here.counts { packets = k } }
        → c.counts.headers_before ≡ header_count g.watched.page (packets_before sent n)
        → c.counts.packets ≡ length (packets_of_frame sent n)
        → k ≡ c.counts.packets + length ps
        → StaysOpen g transmission_with_added_packets n ps e
    added_packets_leave_frame_open e k e_is before packets sum = record {
      heard = added_packets_are_heard e k e_is packets;
      before =
          ap (λ (v : CheckerValue). v.counts.headers_before) e_is
          ∙ before
          ∙ ap (header_count g.watched.page)
          (sym (with_packets-before ps sent n (omega (arith, all))));
      packets =
          ap (λ (v : CheckerValue). v.counts.packets) e_is
          ∙ sum
          ∙ ap (λ (m : ℕ). m + length ps) packets
          ∙ sym (ap length own ∙ length-append (packets_of_frame sent n) ps);
    }
