-- If `within` is 0, the repeat bound is not 0, each header must have C4 (erase page) set, all
-- packets have 42 bytes and the entire file was read, a transmission is good, with complete pages
-- if required, if and only if it has no faults.
use Rattle.std.proofs.lemmas.Bool.Decides.{nat_tests}
use Rattle.std.proofs.Common.{◌≡◌, ℕ, ◌<◌, ◌≤◌, false, Option, None, length, refl, sym, ap}
use Rattle.std.proofs.Common.{◌∙◌, subst, arith, IsTrue, IsFalse, ◌&&◌}
use Rattle.stl_rows.specs.Programme.{ProgrammeValue}
use Rattle.sub_plan.specs.Options.{OptionsValue}
use Rattle.sub_plan.specs.Schedule.{due_page_in}
use Rattle.ttx_page.specs.Page.{IsCell}
use Rattle.ttx_page.specs.Shown.{shown}
use Rattle.sub_rules.specs.Events.{broken_cell, is_incomplete, is_late, is_pending}
use Rattle.sub_rules.specs.FrameRules.{Criteria, IsCompleteIfRequired, UnreadReason, criteria_of}
use Rattle.sub_rules.specs.FrameRules.{packets_before}
use Rattle.sub_rules.specs.Good.{Good}
use Rattle.sub_rules.specs.Kept.{IsRight}
use Rattle.sub_rules.specs.Repeats.{KeepsRulesWithRepeats}
use Rattle.sub_rules.specs.Transmission.{EachPacket, Transmission, first_frame, last_frame}
use Rattle.sub_rules.specs.Transmission.{on_air_until}
use Rattle.sub_rules.specs.declared.end_rule.EndRule.{EndRule}
use Rattle.sub_rules.specs.declared.end_rule.EndRule.TheVariants.{Content, Incomplete}
use Rattle.sub_laws.specs.BrokenPlaces.{IsKept}
use Rattle.sub_laws.specs.CleanStretch.{IsEnd}
use Rattle.sub_laws.specs.OnScreen.{Complete}
use Rattle.sub_laws.proofs.DelayLemmas.{law_of_right_cells}
use Rattle.sub_laws.proofs.FrameByFrame.{MeetsRequirements}
use Rattle.sub_laws.proofs.GoodLemmas.{rising_frames_rise_at_each_index}
use Rattle.sub_laws.proofs.BrokenPlaceLemmas.{Rules-from_holds, frame_has_an_end, holds-from_rules}
use Rattle.sub_laws.proofs.BrokenPlaceLemmas.{fault_free_at}
use Rattle.sub_laws.proofs.PrefixLemmas.{RiseTo, end_is_at_least_first, end_is_on_air}
use Rattle.sub_laws.proofs.PrefixLemmas.{end_is_at_most_last, first-same}
use Rattle.sub_laws.proofs.PrefixLemmas.{last-same}
use Rattle.sub_laws.proofs.RepeatLemmas.{rules_by, rules_of}
use Rattle.sub_laws.proofs.ActiveFaultsLemmas.{all_arrive, undelayed_fault_is_always_late}
use Rattle.sub_laws.proofs.ActiveFaultsLemmas.{broken_is, undelayed_incomplete_is_late}
use Rattle.sub_laws.proofs.ActiveFaultsLemmas.{incomplete_test_is_exact_for_page}
use Rattle.sub_laws.proofs.ActiveFaultsLemmas.{due_page_has_no_wrong_cell}

module _ (programme : ProgrammeValue) (options : OptionsValue) (unread : Option UnreadReason)
    (t : Transmission) (repeat_bound_is_not_zero : 0 < options.every)
    (h : MeetsRequirements (criteria_of programme options unread) t) (at_once : options.within ≡ 0)
  where
    rules_hold_at_each_end : (n f : ℕ) → IsEnd t n f → (rule : EndRule)
        → IsKept rule (criteria_of programme options unread) t n f
    rules_hold_at_each_end n f h1 rule = grind (arith, nat_tests, all_arrive, fault_free_at)

    cells_are_right_in_each_frame : (f row column : ℕ) → first_frame t ≤ f → f ≤ last_frame t →
        IsCell row column
        → IsRight options.keeps options.page (on_air_until t f) (due_page_in programme f) row column
    cells_are_right_in_each_frame f row column low high is =
        let (n, end, on, from) = frame_has_an_end programme options unread t
        repeat_bound_is_not_zero h f low high in
        subst (λ xs. IsRight options.keeps options.page xs (due_page_in programme f) row column)
        (sym on) (rules_hold_at_each_end n f end Content refl row column is)

    pub Good-from_holds : options.keeps ≡ false
        → EachPacket (λ packet. length packet ≡ 42) t
        → Good programme t options
    Good-from_holds none sizes = record {
      rules =
          rules_of programme t options
          (subst (λ k. KeepsRulesWithRepeats k programme t options) none
          (Rules-from_holds programme options unread t repeat_bound_is_not_zero h sizes));
      content = λ f row column low high is.
          (law_of_right_cells options.page (on_air_until t f) (due_page_in programme f) row
          column).0
          (subst
          (λ k. IsRight k options.page (on_air_until t f) (due_page_in programme f) row column) none
          (cells_are_right_in_each_frame f row column low high is));
    }

    pub Complete-from_holds : IsTrue options.asks_complete → Complete t options
    Complete-from_holds asks f low high holds =
        let (n, end, on, from) = frame_has_an_end programme options unread t
        repeat_bound_is_not_zero h f low high in
        let ended = rules_hold_at_each_end n f end Incomplete asks in
        grind (arith, nat_tests)

pub no_delay_leaves_nothing_pending : (g : Criteria) (frames : Transmission) → g.within ≡ 0 →
    is_pending g frames
    ≡ false
unfolding is_pending
no_delay_leaves_nothing_pending g frames at_once = grind
    (arith, nat_tests, undelayed_fault_is_always_late)

module _ (programme : ProgrammeValue) (options : OptionsValue) (t : Transmission)
    (at_once : options.within ≡ 0) (none : options.keeps ≡ false) (good : Good programme t options)
    (complete : IsTrue options.asks_complete → Complete t options) where
  abbrev g : Criteria
  g = criteria_of programme options None

  in_order : RiseTo t (length t)
  in_order = rising_frames_rise_at_each_index t good.rules.rising

  from : (n f : ℕ) → IsEnd t n f → first_frame t ≤ f
  from n f end = omega (arith, first-same t, end_is_at_least_first t in_order n f end)

  to : (n f : ℕ) → IsEnd t n f → f ≤ last_frame t
  to n f end = omega (arith, last-same t, end_is_at_most_last t in_order n f end)

  right : (n f : ℕ) → IsEnd t n f → broken_cell g t n f ≡ None
  right n f end =
      broken_is g t n f at_once
      ∙ due_page_has_no_wrong_cell g t n f
      (λ row column is.
      subst (λ k. IsRight k options.page (packets_before t n) (due_page_in programme f) row column)
      (sym none)
      ((law_of_right_cells options.page (packets_before t n) (due_page_in programme f) row column).1
      (ap (λ ps. shown options.page ps row column)
      (sym (end_is_on_air t in_order n f end))
      ∙ good.content f row column (from n f end) (to n f end) is)))

  ended : (n f : ℕ) → IsEnd t n f → IsFalse (is_late g t n f && is_incomplete g t n)
  ended n f end =
      let on = end_is_on_air t in_order n f end in
      let shut : IsCompleteIfRequired g t n =
      λ asks. let whole = complete asks f (from n f end) (to n f end) in grind arith in
      let is = undelayed_incomplete_is_late g t n f at_once in
      let decided = (incomplete_test_is_exact_for_page g t n f).1 shut in
      grind (arith, nat_tests)

  pub holds-from_good : MeetsRequirements g t
  holds-from_good =
      holds-from_rules programme options t
      (subst (λ k. KeepsRulesWithRepeats k programme t options) (sym none)
      (rules_by programme t options good.rules))
      (λ n f end. (right n f end, ended n f end))
      (no_delay_leaves_nothing_pending g t at_once)
