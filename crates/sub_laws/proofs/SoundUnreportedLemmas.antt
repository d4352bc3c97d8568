-- A range of frames without faults that affect receivers meets the conditions for recovery, apart
-- from the text.
use Rattle.std.proofs.lemmas.Bool.Decides.{nat_tests}
use Rattle.std.proofs.Common.{◌≡◌, ℕ, ◌+◌, ◌-◌, ◌<◌, ◌≤◌, ◌⊎◌, inl, inr, List, [], length}
use Rattle.std.proofs.Common.{slice_index, slice_index_or, Option, refl, sym, ap, ◌∙◌}
use Rattle.std.proofs.Common.{Bool, true, false, not, Some, find, IsTrue, arith, le_refl}
use Rattle.std.proofs.lemmas.Bool.{cases_eq}
use Rattle.ttx_page.specs.PacketKind.{is_row, kind}
use Rattle.ttx_page.specs.Span.{is_open_after, text_span}
use Rattle.ttx_page.specs.declared.packet_kind.PacketKind.TheVariants.{Row}
use Rattle.ttx_page.specs.Repeats.{MayFollow}
use Rattle.stl_rows.specs.Programme.{ProgrammeValue}
use Rattle.sub_plan.specs.Options.{OptionsValue}
use Rattle.sub_rules.specs.Events.{is_gap, active_faults_at}
use Rattle.sub_rules.specs.FrameRules.{Criteria, HasHeader, UnreadReason, frame_at}
use Rattle.sub_rules.specs.FrameRules.{packets_of_frame, watched_of}
use Rattle.sub_rules.specs.Good.{HoldsHeader}
use Rattle.sub_rules.specs.PacketRules.{KeepsRule, codes_of}
use Rattle.sub_rules.specs.PacketTests.{breaks}
use Rattle.sub_rules.specs.Transmission.{Transmission, first_frame}
use Rattle.sub_rules.specs.declared.packet_rule.PacketRule.{PacketRule}
use Rattle.sub_rules.specs.declared.packet_rule.PacketRule.TheVariants as rule
use Rattle.sub_laws.specs.CleanStretch.{HoldsAtPackets, IsEnd, HasNoReceiverFault}
use Rattle.sub_laws.specs.CleanStretch.{criteria_if_unreliable, is_needed_by_receivers}
use Rattle.sub_laws.specs.Repeats.{IsSoundStretchWithRepeats}
use Rattle.sub_rules.proofs.CodesLemmas.{code_of_column}
use Rattle.ttx_page.proofs.DifferingLemmas.{zero_difference_equal_columns}
use Rattle.sub_laws.proofs.BrokenRuleLemmas.{failed_test_refutes_property, rule_test_is_exact}
use Rattle.sub_laws.proofs.GoodLemmas.{header_at_index_is_in_frame}
use Rattle.sub_laws.proofs.GoodLemmas.{rising_frames_rise_at_each_index}
use Rattle.sub_laws.proofs.PrefixLemmas.{before, first-same, packet_at, rising_frames_are_ordered}
use Rattle.sub_laws.proofs.FollowedStretchLemmas as stretches
use Rattle.sub_laws.proofs.SoundStretchLemmas.{first_true_makes_second_false}
use Rattle.sub_laws.proofs.ActiveFaultsLemmas.{gap_test_is_exact}

not_false_is_true : (b : Bool) → not b ≡ false → b ≡ true
not_false_is_true b h1 = grind (arith, nat_tests)

module _ (programme : ProgrammeValue) (transmission : Transmission) (options : OptionsValue)
    (unread : Option UnreadReason) (any_unreliable : Bool) (undecided : ℕ → Bool) (a b : ℕ)
    (unreported :
    HasNoReceiverFault (criteria_if_unreliable programme options unread any_unreliable undecided)
    transmission a
    b) where
  abbrev g : Criteria
  g = criteria_if_unreliable programme options unread any_unreliable undecided

  kept : (r : PacketRule) → IsTrue (is_needed_by_receivers r) → (r ≡ rule.RowChanged → ⊥)
      → HoldsAtPackets (KeepsRule r g.watched) transmission a b
  kept r needed other i k l m low high =
      (failed_test_refutes_property
      _ (rule_test_is_exact g.watched _ _ r (λ e. absurd (other e)))).0
      (unreported.packets r needed i k l m low high)

  -- While the page is open, a row has the codes of its first packet since the page was erased.
  rows_have_equal_codes : HoldsAtPackets
      (λ heard p. IsTrue (is_open_after (kind options.page) heard)
      → (row : ℕ) (first : List ℕ)
      → kind options.page p ≡ Row row
      → find (λ q. is_row row (kind options.page q))
      (text_span options.keeps (kind options.page) heard)
      ≡ Some first
      → (column : ℕ)
      → column < 40
      → slice_index (codes_of first) column ≡ slice_index (codes_of p) column) transmission a b
  unfolding breaks
  rows_have_equal_codes i k l m low high up row first is found column below =
      let equal = unreported.packets rule.RowChanged refl i k l m low high in
      grind (
        arith,
        nat_tests,
        first_true_makes_second_false,
        zero_difference_equal_columns,
        not_false_is_true,
      )

  fit :
      (i k : ℕ)
      → i < length transmission
      → k < length (packets_of_frame transmission i)
      → a ≤ frame_at transmission i
      → frame_at transmission i ≤ b
      → MayFollow options.keeps options.page (before transmission i k)
      (packet_at transmission i k)
  fit i k l m low high = record {
    exact = (
      kept rule.Address refl (λ is. cc) i k l m low high,
      kept rule.HeaderCode refl (λ is. cc) i k l m low high,
    );
    erases = (kept rule.Control refl (λ is. cc) i k l m low high).erases;
    odd = λ up row is. kept rule.Parity refl (λ is. cc) i k l m low high up row is;
    same = λ up row column first is found below.
        sym (code_of_column first column)
        ∙ rows_have_equal_codes i k l m low high up row first is found column below
        ∙ code_of_column (slice_index_or (packets_of_frame transmission i) k []) column;
  }

  unreported_end_is_no_gap : (n f : ℕ) → IsEnd transmission n f → a ≤ f → f ≤ b → is_gap g
      transmission n f ≡ false
  unfolding active_faults_at
  unreported_end_is_no_gap n f end low high = unreported.gap n f end low high

  covered :
      (f : ℕ)
      → a ≤ f
      → f ≤ b
      → (f + 1 < first_frame transmission + options.every)
      ⊎ ((j : ℕ)
      × (j < length transmission)
      × (frame_at transmission j ≤ f)
      × (f < frame_at transmission j + options.every)
      × HasHeader g transmission j)
  covered f low high =
      let first = first-same transmission in
      let (n, end, on, before) =
      stretches.frame_has_an_end transmission a b unreported.stretch unreported.rising f low high in
      elim ((gap_test_is_exact g transmission n f end.1).0
      (ap not (unreported_end_is_no_gap n f end low high))) [
        | inl early ↦ inl (omega arith)
        | inr (j, l, late, has) ↦
            let rises =
            rising_frames_are_ordered transmission (length transmission)
            (rising_frames_rise_at_each_index transmission unreported.rising)
            j
            (n - 1) (omega arith)
            (omega (arith, end.0, end.1)) in
            inr (j, omega (arith, end.1), omega arith, late, has)
      ]

  pub unreported_stretch_is_repeated :
      IsSoundStretchWithRepeats options.keeps transmission options a b
  unreported_stretch_is_repeated =
      stretches.law_of_followed_stretch options.keeps transmission options a b (record {
        stretch = unreported.stretch;
        rising = unreported.rising;
        packets = fit;
        repeats = repeats;
      })
    where
      repeats :
          (start : ℕ)
          → a ≤ start
          → start + options.every ≤ b + 1
          → (f : ℕ)
          × (start ≤ f)
          × (f < start + options.every)
          × HoldsHeader options.page transmission f
      repeats start low high =
          let from = unreported.stretch.from in
          elim (cases_eq options.every 0) [
            | inl none ↦
                grind (
                  arith,
                  nat_tests,
                  covered a (le_refl a) unreported.stretch.in_order,
                  le_refl
                      a,
                )
            | inr every ↦
                elim (covered (start + options.every - 1) (omega arith) (omega arith)) [
                  | inl early ↦ absurd (omega arith)
                  | inr (j, l, before, late, has) ↦ (
                    frame_at transmission j,
                    omega arith,
                    omega arith,
                    header_at_index_is_in_frame (watched_of programme options) transmission j
                        (frame_at transmission j) l refl has,
                  )
                ]
          ]
