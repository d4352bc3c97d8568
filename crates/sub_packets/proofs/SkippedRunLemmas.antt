-- Several consecutive packets that can always be skipped have no events, add no header of the page,
-- and do not change the listener's state.
use Rattle.std.proofs.lemmas.Bool.Decides.{nat_tests}
use Rattle.std.proofs.lemmas.Bool.{cases_lt}
use Rattle.std.proofs.lemmas.List.{take_more}
use Rattle.std.proofs.Common.{◌≡◌, ℕ, zero, suc, ◌+◌, ◌-◌, ◌<◌, ◌≤◌, List, [], ◌∷◌, ◌++◌}
use Rattle.std.proofs.Common.{ap, false, length, subst, sym}
use Rattle.std.proofs.Common.{get_or, take, refl, ◌∙◌, arith, append_assoc, inl, inr}
use Rattle.ttx_page.specs.PacketKind.{is_this_page, kind}
use Rattle.ttx_page.specs.Span.{has_text_beginning}
use Rattle.sub_packets.proofs.KeptLemmas.{beginning-more, other_packet_begins_no_text}
use Rattle.sub_packets.specs.Listener.{BreakNoRule, CanAlwaysBeSkipped, Knows, rule_set}
use Rattle.sub_rules.specs.PacketTests.{breaks, packet_rules}
use Rattle.sub_packets.specs.declared.listener.Listener.{Listener}
use Rattle.sub_packets.proofs.PacketEventLemmas.{clean_packet_keeps_run_clean}
use Rattle.sub_packets.proofs.PacketEventLemmas.{numbered_packet_events-skipped}
use Rattle.sub_rules.specs.Events.{numbered_packet_events}
use Rattle.sub_rules.specs.PacketRules.{header_count}
use Rattle.sub_rules.specs.declared.packet_rule.Watched.{Watched}
use Rattle.sub_rules.proofs.PacketLists.{header_count-push}

-- Packets `start` to n - 1 of `ps` have no events, and break no rule if the packets before them
-- break none. The listener's state agrees with the first n packets of `ps`, received after `heard`.
pub record SkippedRunHolds
    (w : Watched) (frame from : ℕ) (heard ps : List (List ℕ)) (s : Listener) (start n : ℕ) : Type 0
  where
    pub knows : Knows (heard ++ take n ps) s
    pub reported : numbered_packet_events w frame from heard ps n ≡ numbered_packet_events w frame
        from heard ps
        start
    pub clean : BreakNoRule w heard ps start → BreakNoRule w heard ps n

pub skipped_packet_extends_run : (a b : ℕ) (ps : List (List ℕ)) (s : Listener)
    → CanAlwaysBeSkipped (get_or ps a []) s
    → ((k : ℕ) → a + 1 ≤ k → k < b → CanAlwaysBeSkipped (get_or ps k []) s)
    → (k : ℕ) → a ≤ k → k < b → CanAlwaysBeSkipped (get_or ps k []) s
skipped_packet_extends_run a b ps s first later k low high =
    elim (cases_lt a k) [
      | inl after ↦ later k (omega arith) high
      | inr here ↦ let same : k ≡ a = omega arith in rw same first
    ]

module _ (w : Watched) (ps : List (List ℕ)) (s : Listener) (same : s.watched ≡ w) (a : ℕ) where
  skipped_run_adds_no_header : (n : ℕ) → n + a ≤ length ps
      → ((k : ℕ) → a ≤ k → k < n + a → CanAlwaysBeSkipped (get_or ps k []) s)
      → header_count w.page (take (n + a) ps) ≡ header_count w.page (take a ps)
  skipped_run_adds_no_header zero l passes =
      let none : 0 + a ≡ a = omega arith in ap (λ k. header_count w.page (take k ps)) none
  skipped_run_adds_no_header (suc n) l passes =
      let p = get_or ps (n + a) [] in
      let before = skipped_run_adds_no_header n (omega arith) (λ k low high. passes k low
      (omega arith)) in
      let none : is_this_page (kind w.page p) ≡ false =
      rw (← same) ((passes (n + a) (omega arith) (omega arith)).no_header) in
      let next : n + a + 1 ≡ suc n + a = omega arith in
      let step : header_count w.page (take (n + a + 1) ps) ≡ header_count w.page (take a ps) =
      rw (
        take_more ps (n + a) [] (omega arith),
        header_count-push w.page (take (n + a) ps) p,
        none,
      )
      (grind (arith, nat_tests)) in
      ap (λ k. header_count w.page (take k ps)) (sym next) ∙ step

  skipped_run_adds_no_beginning : (n : ℕ) → n + a ≤ length ps
      → ((k : ℕ) → a ≤ k → k < n + a → CanAlwaysBeSkipped (get_or ps k []) s)
      → has_text_beginning w.keeps (kind w.page) (take (n + a) ps)
      ≡ has_text_beginning w.keeps (kind w.page) (take a ps)
  skipped_run_adds_no_beginning zero l passes =
      let none : 0 + a ≡ a = omega arith in
      ap (λ k. has_text_beginning w.keeps (kind w.page) (take k ps)) none
  skipped_run_adds_no_beginning (suc n) l passes =
      let p = get_or ps (n + a) [] in
      let before = skipped_run_adds_no_beginning n (omega arith) (λ k low high. passes k low
      (omega arith)) in
      let none : is_this_page (kind w.page p) ≡ false =
      rw (← same) ((passes (n + a) (omega arith) (omega arith)).no_header) in
      let next : n + a + 1 ≡ suc n + a = omega arith in
      let step : has_text_beginning w.keeps (kind w.page) (take (n + a + 1) ps)
      ≡ has_text_beginning w.keeps (kind w.page) (take a ps) =
      rw (
        take_more ps (n + a) [] (omega arith),
        beginning-more w (take (n + a) ps) p,
        other_packet_begins_no_text w.keeps (kind w.page p) none,
      )
      (grind (arith, nat_tests)) in
      ap (λ k. has_text_beginning w.keeps (kind w.page) (take k ps)) (sym next) ∙ step

  module _ (frame from : ℕ) (heard : List (List ℕ)) where
    skipping_one_packet_extends_run : (k : ℕ) → k < length ps
        → CanAlwaysBeSkipped (get_or ps k []) s
        → SkippedRunHolds w frame from heard ps s a k
        → SkippedRunHolds w frame from heard ps s a (k + 1)
    skipping_one_packet_extends_run k l passes before =
        let p = get_or ps k [] in
        let one = passes.skipped (heard ++ take k ps) before.knows in
        let breaks_none : rule_set (λ r. breaks r w (heard ++ take k ps) p) packet_rules ≡ 0 =
        rw (← same) one.breaks_none in
        record {
          knows =
              rw (take_more ps k [] l, ← append_assoc heard (take k ps) (p ∷ [])) one.knows;
          reported = numbered_packet_events-skipped w frame from heard ps k breaks_none ∙
              before.reported;
          clean =
              λ clean. clean_packet_keeps_run_clean w frame from heard ps k p refl
              (before.clean clean)
              breaks_none;
        }

    skipping_each_packet_skips_the_run : (n : ℕ) → n + a ≤ length ps
        → ((k : ℕ) → a ≤ k → k < n + a → CanAlwaysBeSkipped (get_or ps k []) s)
        → Knows (heard ++ take a ps) s
        → SkippedRunHolds w frame from heard ps s a (n + a)
    skipping_each_packet_skips_the_run zero l passes known =
        let none : a ≡ 0 + a = omega arith in
        subst (SkippedRunHolds w frame from heard ps s a) none
        (record { knows = known; reported = refl; clean = λ clean. clean })
    skipping_each_packet_skips_the_run (suc n) l passes known =
        let before =
        skipping_each_packet_skips_the_run n (omega arith) (λ k low high. passes k low
        (omega arith)) known in
        let next : n + a + 1 ≡ suc n + a = omega arith in
        subst (SkippedRunHolds w frame from heard ps s a) next
        (skipping_one_packet_extends_run (n + a) (omega arith) (passes (n + a) (omega arith)
        (omega arith)) before)

  module _ (b : ℕ) (low : a ≤ b) (high : b ≤ length ps)
      (passes : (k : ℕ) → a ≤ k → k < b → CanAlwaysBeSkipped (get_or ps k []) s) where
    pub skipped_run_keeps_header_count : header_count w.page (take b ps) ≡ header_count w.page
        (take a ps)
    skipped_run_keeps_header_count =
        let to : b - a + a ≡ b = omega arith in
        subst (λ k. header_count w.page (take k ps) ≡ header_count w.page (take a ps)) to
        (skipped_run_adds_no_header (b - a) (omega arith) (λ k l h. passes k l (omega arith)))

    pub no_beginning_skipped :
        has_text_beginning w.keeps (kind w.page) (take b ps)
        ≡ has_text_beginning w.keeps (kind w.page) (take a ps)
    no_beginning_skipped =
        let to : b - a + a ≡ b = omega arith in
        subst (λ k. has_text_beginning w.keeps (kind w.page) (take k ps)
        ≡ has_text_beginning w.keeps (kind w.page) (take a ps)) to
        (skipped_run_adds_no_beginning (b - a) (omega arith) (λ k l h. passes k l (omega arith)))

    pub skipped_run_changes_nothing : (frame from : ℕ) (heard : List (List ℕ)) → Knows
        (heard ++ take a ps) s
        → SkippedRunHolds w frame from heard ps s a b
    skipped_run_changes_nothing frame from heard known =
        let to : b - a + a ≡ b = omega arith in
        subst (SkippedRunHolds w frame from heard ps s a) to
        (skipping_each_packet_skips_the_run frame from heard (b - a) (omega arith)
        (λ k l h. passes k l (omega arith))
        known)
