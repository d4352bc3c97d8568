-- A frame is finished if and only if the checker's test for an unfinished page fails.
use Rattle.std.proofs.lemmas.Bool.Decides.{nat_tests}
use Rattle.std.proofs.Common.{◌≡◌, ℕ, ◌+◌, ◌-◌, ◌<◌, ◌≤◌, Bool}
use Rattle.std.proofs.Common.{false, not, ◌==◌, Option, None}
use Rattle.std.proofs.Common.{is_some, length, refl, sym, ap, ◌∙◌, subst, arith}
use Rattle.std.proofs.Common.{IsFalse}
use Rattle.std.proofs.lemmas.Bool.{or_parts}
use Rattle.ttx_page.specs.PacketKind.{kind}
use Rattle.ttx_page.specs.Span.{is_open_after}
use Rattle.stl_rows.specs.Programme.{ProgrammeValue}
use Rattle.sub_plan.specs.Options.{OptionsValue}
use Rattle.sub_plan.specs.Schedule.{due_page_in}
use Rattle.sub_rules.specs.Events.{is_incomplete, is_late, is_overdue}
use Rattle.sub_rules.specs.Events.{is_unfinished, unfinished_run_start}
use Rattle.sub_rules.specs.Events.{wrong_cell}
use Rattle.sub_rules.specs.FrameRules.{Criteria, UnreadReason, end_frame, frame_at}
use Rattle.sub_rules.specs.Kept.{IsRight}
use Rattle.sub_rules.specs.Repeats.{IsFinishedFrame}
use Rattle.sub_rules.specs.Transmission.{Transmission}
use Rattle.sub_laws.specs.CleanStretch.{IsEnd, criteria_if_unreliable}
use Rattle.sub_laws.proofs.BrokenPlaceLemmas.{not_not}
use Rattle.sub_laws.proofs.PrefixLemmas.{RiseTo, frame_has_its_end, end_is_at_least_first}
use Rattle.sub_laws.proofs.PrefixLemmas.{end_is_on_air}
use Rattle.sub_laws.proofs.ActiveFaultsLemmas.{incomplete_test_is_exact_for_page}
use Rattle.sub_laws.proofs.ActiveFaultsLemmas.{due_page_has_no_wrong_cell}
use Rattle.sub_laws.proofs.ActiveFaultsLemmas.{no_wrong_cell_shows_due_page}
use Rattle.sub_laws.proofs.UnfinishedLemmas.{finished_frame_starts_no_run, first_unfinished_at}
use Rattle.sub_laws.proofs.UnfinishedLemmas.{run_start_at_end_is_exact}
use Rattle.sub_laws.proofs.UnfinishedLemmas.{absent_run_means_finished_frame}
use Rattle.sub_laws.proofs.UnfinishedLemmas.{unfinished_at}
use Rattle.sub_laws.proofs.UnfinishedLemmas.{unfinished_test_is_exact}

pub absent_option_equals_none : {A : Type 0} (o : Option A) → is_some o ≡ false → o ≡ None
absent_option_equals_none o e = grind (arith, nat_tests)

module _ (programme : ProgrammeValue) (options : OptionsValue) (unread : Option UnreadReason)
    (any_unreliable : Bool) (undecided : ℕ → Bool) (t : Transmission)
    (rises : RiseTo t (length t)) where
  abbrev g : Criteria
  g = criteria_if_unreliable programme options unread any_unreliable undecided

  abbrev first : ℕ
  first = frame_at t 0

  abbrev un : ℕ → Bool
  un = unfinished_at g t rises

  pub finished_end_is_finished_page : (n f : ℕ) → IsEnd t n f → undecided f ≡ false
      → is_unfinished g t n f ≡ false
      → IsFinishedFrame options.keeps programme t options f
  finished_end_is_finished_page n f end known e =
      let on = end_is_on_air t rises n f end in
      let parts = or_parts (is_some (wrong_cell g t n f)) (is_incomplete g t n) e in
      let shut = (incomplete_test_is_exact_for_page g t n f).0 (ap not parts.1) in
      record {
        whole = λ row column named.
            subst
            (λ ps. IsRight options.keeps options.page ps (due_page_in programme f) row column)
            (sym on)
            (no_wrong_cell_shows_due_page g t n f (absent_option_equals_none _ parts.0) known row
            column named);
        ended = λ asks.
            subst (λ ps. IsFalse (is_open_after (kind options.page) ps)) (sym on) (shut asks);
      }

  pub finished_page_is_finished_end : (n f : ℕ) → IsEnd t n f → IsFinishedFrame options.keeps
      programme t options f
      → is_unfinished g t n f ≡ false
  finished_page_is_finished_end n f end finished =
      let on = end_is_on_air t rises n f end in
      let wrong : wrong_cell g t n f ≡ None =
      due_page_has_no_wrong_cell g t n f
      (λ row column named.
      subst (λ ps. IsRight options.keeps options.page ps (due_page_in programme f) row column) on
      (finished.whole row column named)) in
      let shut : is_incomplete g t n ≡ false =
      not_not _
      ((incomplete_test_is_exact_for_page g t n f).1
      (λ asks.
      subst (λ ps. IsFalse (is_open_after (kind options.page) ps)) on (finished.ended asks))) in
      rw (wrong, shut) refl

  pub frame_end : (f : ℕ) → 0 < length t → first ≤ f → f ≤ end_frame t → (n : ℕ) × IsEnd t n f
  frame_end f some low high =
      let (n, end, on, from) = frame_has_its_end t rises f some low high in (n, end)

  pub finished_frame_has_finished_page : (f : ℕ) → 0 < length t → first ≤ f → f ≤ end_frame t →
      undecided f ≡ false
      → un f ≡ false
      → IsFinishedFrame options.keeps programme t options f
  finished_frame_has_finished_page f some low high known e =
      let (n, end) = frame_end f some low high in
      finished_end_is_finished_page n f end known (unfinished_test_is_exact g t rises n f end ∙ e)

  pub finished_page_ends_frame_finished : (f : ℕ) → 0 < length t → first ≤ f → f ≤ end_frame t
      → IsFinishedFrame options.keeps programme t options f
      → un f ≡ false
  finished_page_ends_frame_finished f some low high finished =
      let (n, end) = frame_end f some low high in
      sym (unfinished_test_is_exact g t rises n f end) ∙ finished_page_is_finished_end n f end
      finished

  pub first_unfinished_eq : (n f : ℕ) → IsEnd t n f
      → unfinished_run_start g t n f ≡ first_unfinished_at un first (f - first)
  first_unfinished_eq n f end =
      let low = end_is_at_least_first t rises n f end in
      run_start_at_end_is_exact g t rises (f - first) n f end (omega arith)

  pub finished_end_starts_no_run : (n f : ℕ) → IsEnd t n f → is_unfinished g t n f ≡ false
      → unfinished_run_start g t n f ≡ None
  finished_end_starts_no_run n f end e =
      let low = end_is_at_least_first t rises n f end in
      let at : f ≡ first + (f - first) = omega arith in
      first_unfinished_eq n f end
      ∙ finished_frame_starts_no_run un first (f - first)
      (ap un (sym at) ∙ sym (unfinished_test_is_exact g t rises n f end) ∙ e)

  pub absent_run_means_finished_end : (n f : ℕ) → IsEnd t n f → unfinished_run_start g t n f ≡ None
      → is_unfinished g t n f ≡ false
  absent_run_means_finished_end n f end e =
      let low = end_is_at_least_first t rises n f end in
      let at : f ≡ first + (f - first) = omega arith in
      unfinished_test_is_exact g t rises n f end
      ∙ ap un at
      ∙ absent_run_means_finished_frame un first (f - first) (sym (first_unfinished_eq n f end) ∙ e)

  -- If the page is not overdue, an unfinished page is a fault if and only if `within` is 0.
  pub late_eq : (n f : ℕ) → is_overdue g first (unfinished_run_start g t n f) f ≡ false
      → is_late g t n f ≡ (options.within == 0)
  unfolding is_late
  late_eq n f e = grind (arith, nat_tests)
