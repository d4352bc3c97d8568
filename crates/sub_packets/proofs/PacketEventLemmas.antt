-- A packet that can be skipped adds no event, and packets that break no rule have no events.
use Rattle.std.proofs.lemmas.Bool.Decides.{nat_tests}
use Rattle.std.proofs.Common.{◌≡◌, ℕ, zero, suc, ◌+◌, List, [], ◌++◌, map, take}
use Rattle.std.proofs.Common.{◌∙◌, append-nil, arith, get_or, refl}
use Rattle.std.specs.List.{filter}
use Rattle.std.proofs.lemmas.Bool.{cases_eq}
use Rattle.sub_io.specs.Reporting.{Reports}
use Rattle.sub_io.proofs.ReportingLemmas.{Reports-trans}
use Rattle.sub_packets.proofs.RuleSetLemmas.{empty_rule_set_filters_nothing}
use Rattle.sub_rules.specs.Events.{packet_fault, numbered_packet_events, broken_rule_events}
use Rattle.sub_packets.specs.Listener.{BreakNoRule, rule_set}
use Rattle.sub_rules.specs.PacketTests.{broken_rules, breaks, packet_rules}
use Rattle.sub_rules.specs.declared.event.Event.{Event}
use Rattle.sub_rules.specs.declared.event.Event.TheVariants.{Reported}
use Rattle.sub_rules.specs.declared.packet_rule.PacketRule.{PacketRule}
use Rattle.sub_rules.specs.declared.packet_rule.Watched.{Watched}

abbrev reported_by : Watched → ℕ → ℕ → List (List ℕ) → List ℕ → List Event
reported_by w frame k before p =
    map (λ (r : PacketRule). Reported (packet_fault r frame k))
    (filter (λ r. breaks r w before p) packet_rules)

reported_by-is :
    (w : Watched) (frame k : ℕ) (before : List (List ℕ)) (p : List ℕ)
    → broken_rule_events w frame k before p ≡ reported_by w frame k before p
unfolding broken_rule_events broken_rules
reported_by-is w frame k before p = refl

module _ (w : Watched) (frame from : ℕ) (before ps : List (List ℕ)) where
  numbered_packet_events-more : (k : ℕ) (p : List ℕ) → get_or ps k [] ≡ p
      → numbered_packet_events w frame from before ps (k + 1)
      ≡ numbered_packet_events w frame from before ps k ++ reported_by w frame (from + k)
      (before ++ take k ps) p
  unfolding numbered_packet_events
  numbered_packet_events-more k p e = grind (arith, nat_tests, reported_by-is)

  pub numbered_packet_events-skipped : (k : ℕ)
      → rule_set (λ r. breaks r w (before ++ take k ps) (get_or ps k [])) packet_rules ≡ 0
      → numbered_packet_events w frame from before ps (k + 1) ≡ numbered_packet_events w frame from
      before ps k
  numbered_packet_events-skipped k empty =
      numbered_packet_events-more k (get_or ps k []) refl
      ∙ rw (empty_rule_set_filters_nothing (λ r. breaks r w (before ++ take k ps) (get_or ps k []))
      packet_rules empty)
      (append-nil (numbered_packet_events w frame from before ps k))

  pub numbered_packet_events-none : (n : ℕ) → BreakNoRule w before ps n
      → numbered_packet_events w frame from before ps n ≡ []
  unfolding numbered_packet_events broken_rule_events
  numbered_packet_events-none zero clean = refl
  numbered_packet_events-none (suc k) clean =
      rw (numbered_packet_events-none k (λ j l. clean j (omega arith)), clean k (omega arith)) refl

  module _ (k : ℕ) (p : List ℕ) {D : Type 0} {IsReported : D → Event → D → Type 0} (a b c : D)
      (at : get_or ps k [] ≡ p)
      (reported : Reports IsReported a b (numbered_packet_events w frame from before ps k)) where
    pub next_packet_events_append : Reports IsReported b c (reported_by w frame (from + k)
        (before ++ take k ps)
        p)
        → Reports IsReported a c (numbered_packet_events w frame from before ps (k + 1))
    next_packet_events_append more =
        rw (numbered_packet_events-more k p at) (Reports-trans a b c _ _ reported more)

  pub clean_packet_keeps_run_clean : (k : ℕ) (p : List ℕ) → get_or ps k [] ≡ p → BreakNoRule w
      before ps k
      → rule_set (λ r. breaks r w (before ++ take k ps) p) packet_rules ≡ 0
      → BreakNoRule w before ps (k + 1)
  unfolding broken_rules
  clean_packet_keeps_run_clean k p at clean empty j l = grind (
    arith,
    nat_tests,
    cases_eq,
    empty_rule_set_filters_nothing,
  )
