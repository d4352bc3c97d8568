-- If the subtitles are valid, the repeat bound is not 0 and all packets have 42 bytes, a
-- transmission has no events if and only if it is good under the options and the entire file was
-- read.
use Rattle.std.proofs.lemmas.Bool.Decides.{nat_tests}
use Rattle.std.proofs.Common.{◌≡◌, ℕ, ◌+◌, ◌-◌, ◌<◌, ◌≤◌, ◌⊎◌, inl, inr, Bool, true, false, ◌&&◌}
use Rattle.std.proofs.Common.{◌||◌, ◌==◌, nat_le, nat_lt, Option, Some, None, is_some, length}
use Rattle.std.proofs.Common.{get_or, refl, sym, ◌∙◌, subst, arith, le_refl, IsFalse}
use Rattle.std.proofs.lemmas.Bool.{cases_eq, cases_lt, or_parts}
use Rattle.ttx_packet.specs.PacketAddress.{IsPacket}
use Rattle.ttx_page.specs.Shown.{kept}
use Rattle.stl_file.specs.Subtitle.{SubtitleValue}
use Rattle.stl_rows.specs.Programme.{IsProgramme, ProgrammeValue}
use Rattle.sub_plan.specs.Options.{OptionsValue}
use Rattle.sub_rules.specs.Events.{broken_cell, is_gap, is_incomplete, is_late, is_missed}
use Rattle.sub_rules.specs.Events.{is_overdue, is_pending, is_silent, is_unfinished}
use Rattle.sub_rules.specs.Events.{first_unexpected_cell_after}
use Rattle.sub_rules.specs.Events.{unfinished_run_start}
use Rattle.sub_rules.specs.Events.{is_undecided_within, wrong_cell}
use Rattle.sub_rules.specs.FrameRules.{Criteria, UnreadReason, criteria_of, end_frame, frame_at}
use Rattle.sub_rules.specs.FrameRules.{packets_before}
use Rattle.sub_rules.specs.Repeats.{GoodWithRepeats, IsDueWithin, IsFinishedFrame}
use Rattle.sub_rules.specs.Repeats.{KeepsRulesWithRepeats}
use Rattle.sub_rules.specs.Repeats.{HasFinishedFrame}
use Rattle.sub_rules.specs.Transmission.{EachPacket, Transmission, first_frame, last_frame}
use Rattle.sub_laws.specs.CleanStretch.{IsEnd}
use Rattle.sub_laws.proofs.DueCodeLemmas.{MayShow, tci_of_ending_has_subtitle}
use Rattle.sub_laws.proofs.DueCodeLemmas.{expected_codes_are_not_unexpected}
use Rattle.sub_laws.proofs.ReportedLemmas.{no_event_means_requirements_met, packets_have_42_bytes}
use Rattle.sub_laws.proofs.FrameByFrame.{MeetsRequirements}
use Rattle.sub_laws.proofs.GoodLemmas.{rising_frames_rise_at_each_index}
use Rattle.sub_laws.proofs.GoodWithRepeatsLemmas.{begins_in, ends_in}
use Rattle.sub_laws.proofs.BrokenPlaceLemmas.{Rules-from_holds, holds-from_rules, fault_free_at}
use Rattle.sub_laws.proofs.BrokenPlaceLemmas.{rising}
use Rattle.sub_laws.proofs.PrefixLemmas.{RiseTo, end_is_at_least_first, end_is_on_air}
use Rattle.sub_laws.proofs.PrefixLemmas.{end_is_at_most_last, first-same}
use Rattle.sub_laws.proofs.PrefixLemmas.{last-same}
use Rattle.sub_laws.proofs.ActiveFaultsLemmas.{no_refusals_leave_all_decided}
use Rattle.sub_laws.proofs.ActiveFaultsLemmas.{fault_free_means_no_active_fault}
use Rattle.sub_laws.proofs.ActiveFaultsLemmas.{unexpected_cell_of_decided_page}
use Rattle.sub_laws.proofs.SufficientDelayLemmas.{MeetsRequirementsAtEnds, again, calm, codes}
use Rattle.sub_laws.proofs.SufficientDelayLemmas.{subtitle}
use Rattle.sub_laws.proofs.UnfinishedLemmas.{run_starts_after_finished}
use Rattle.sub_laws.proofs.UnfinishedLemmas.{run_start_is_first_unfinished}
use Rattle.sub_laws.proofs.UnfinishedLemmas.{unfinished_at}
use Rattle.sub_laws.proofs.FinishedLemmas.{finished_page_ends_frame_finished}
use Rattle.sub_laws.proofs.FinishedLemmas.{finished_end_is_finished_page, late_eq}
use Rattle.sub_laws.proofs.FinishedLemmas.{finished_end_starts_no_run}
use Rattle.sub_laws.proofs.FinishedLemmas.{absent_option_equals_none}
use Rattle.sub_laws.proofs.FinishedLemmas.{finished_page_is_finished_end, first_unfinished_eq}
use Rattle.sub_laws.proofs.FinishedLemmas.{absent_run_means_finished_end}
use Rattle.std.proofs.Common.{◌↔◌, []}
use Rattle.sub_rules.proofs.FrameEvents.{events}

abbrev never : ℕ → Bool
never frame = false

module _ (programme : ProgrammeValue) (options : OptionsValue) (unread : Option UnreadReason)
    (t : Transmission) (every : 0 < options.every)
    (is : IsProgramme programme.drawing programme.records)
    (h : MeetsRequirements (criteria_of programme options unread) t) where
  abbrev criteria : Criteria
  criteria = criteria_of programme options unread

  abbrev up : RiseTo t (length t)
  up = rising programme options unread t every h

  parts : (n f : ℕ) → IsEnd t n f
      → (broken_cell criteria t n f ≡ None)
      × (is_gap criteria t n f ≡ false)
      × ((is_late criteria t n f && is_incomplete criteria t n) ≡ false)
      × (is_silent criteria t n f ≡ false)
      × (is_undecided_within criteria t f ≡ false)
  parts n f end =
      (fault_free_means_no_active_fault criteria t n f).0 (fault_free_at programme options unread t
      every h n f end)

  receiver_state : MeetsRequirementsAtEnds criteria t (first_frame t) (last_frame t)
  receiver_state = record {
    still = record {
      up = up;
      some = h.some;
      from = let first = first-same t in omega arith;
      to = let last = last-same t in omega arith;
      parts = λ n f end low high. let all = parts n f end in (all.0, all.4);
    };
    shut = λ n f end low high. (parts n f end).2;
  }

  subtitle_is_finished_in_time : KeepsRulesWithRepeats options.keeps programme t options
      → (k : ℕ) (d : SubtitleValue) → k < length programme.records
      → (s : SubtitleValue)
      → s ≡ get_or programme.records k d
      → HasFinishedFrame options.keeps programme t options s.tci (s.tco - 1)
  subtitle_is_finished_in_time keeps k d l s same =
      let begins : first_frame t ≤ s.tci =
      subst (λ (x : SubtitleValue). first_frame t ≤ x.tci) (sym same)
      (begins_in programme t is keeps.starts keeps.lasts k d l) in
      let ends : s.tco ≤ last_frame t =
      subst (λ (x : SubtitleValue). x.tco ≤ last_frame t) (sym same)
      (ends_in programme t is keeps.starts keeps.lasts k d l) in
      subtitle programme options unread false never t (first_frame t) (last_frame t) receiver_state
      is k d l s
      same begins (omega arith)

  ends : IsFinishedFrame options.keeps programme t options (last_frame t)
  unfolding is_pending
  ends =
      let end : IsEnd t (length t) (end_frame t) = (h.some, le_refl (length t), inl refl) in
      subst (IsFinishedFrame options.keeps programme t options) (sym (last-same t))
      (finished_end_is_finished_page programme options unread false never t up (length t)
      (end_frame t) end refl
      (last end))
    where
      last : IsEnd t (length t) (end_frame t)
          → is_unfinished criteria t (length t) (end_frame t) ≡ false
      last end = go (is_late criteria t (length t) (end_frame t)) refl
        where
          pending_parts : is_late criteria t (length t) (end_frame t) ≡ false
              → is_some (unfinished_run_start criteria t (length t) (end_frame t)) ≡ false
          pending_parts is = let whole = h.whole in grind (arith, nat_tests)

          go : (b : Bool) → is_late criteria t (length t) (end_frame t) ≡ b
              → is_unfinished criteria t (length t) (end_frame t) ≡ false
          go true is =
              let first = first-same t in
              let last = last-same t in
              let low = end_is_at_least_first t up (length t) (end_frame t) end in
              calm programme options unread false never t (first_frame t) (last_frame t)
              receiver_state
              (length t) (end_frame t) end (omega arith) (omega arith) is
          go false is =
              absent_run_means_finished_end programme options unread false never t up (length t)
              (end_frame t)
              end
              (absent_option_equals_none _ (pending_parts is))

  -- A transmission without faults is good under the options.
  pub Within-from_holds : EachPacket IsPacket t → GoodWithRepeats options.keeps programme t options
  Within-from_holds whole =
      let keeps = Rules-from_holds programme options unread t every h (packets_have_42_bytes t
      whole) in
      record {
        rules = keeps;
        codes =
            codes programme options unread false never t (first_frame t) (last_frame t)
            receiver_state.still;
        again = again programme options unread false never t (first_frame t) (last_frame t)
            receiver_state;
        subtitles = λ k d l. subtitle_is_finished_in_time keeps k d l (get_or programme.records k d)
            refl;
        ends = ends;
      }

module _ (programme : ProgrammeValue) (options : OptionsValue) (t : Transmission)
    (is : IsProgramme programme.drawing programme.records)
    (good : GoodWithRepeats options.keeps programme t options) where
  abbrev requested : Criteria
  requested = criteria_of programme options None

  abbrev from : ℕ
  from = frame_at t 0

  abbrev order : RiseTo t (length t)
  order = rising_frames_rise_at_each_index t good.rules.rising

  -- The run of frames with an unfinished page at the end of frame f begins after each finished
  -- frame up to f.
  run_starts_after_finished_frame : (n f r e : ℕ) → IsEnd t n f → unfinished_run_start requested t n
      f ≡ Some
      r
      → from ≤ e
      → e ≤ f
      → IsFinishedFrame options.keeps programme t options e
      → e < r
  run_starts_after_finished_frame n f r e end first_unfinished low high finished =
      let bottom = end_is_at_least_first t order n f end in
      let top = end_is_at_most_last t order n f end in
      run_starts_after_finished (unfinished_at requested t order) from (f - from) r e
      (sym (first_unfinished_eq programme options None false never t order n f end) ∙
      first_unfinished)
      (finished_page_ends_frame_finished programme options None false never t order e
      good.rules.not_empty low
      (omega arith) finished)
      (omega arith)

  run_starts_in_transmission : (n f r : ℕ) → IsEnd t n f → unfinished_run_start requested t n f ≡
      Some r
      →
      from ≤ r
  run_starts_in_transmission n f r end first_unfinished =
      (run_start_is_first_unfinished (unfinished_at requested t order) from (f - from) r
      (sym (first_unfinished_eq programme options None false never t order n f end) ∙
      first_unfinished)).low

  run_is_within_delay : (n f r : ℕ) → IsEnd t n f → unfinished_run_start requested t n f ≡ Some r
      → f < r + options.within
  run_is_within_delay n f r end first_unfinished = elim (cases_lt f (r + options.within)) [
    | inl before ↦ before
    | inr after ↦
        let first = first-same t in
        let last = last-same t in
        let top = end_is_at_most_last t order n f end in
        let begins = run_starts_in_transmission n f r end first_unfinished in
        let (e, low, high, finished) =
        good.again (f - options.within) (omega arith) (omega arith) in
        let later = run_starts_after_finished_frame n f r e end first_unfinished (omega arith)
        (omega arith)
        finished in
        absurd (omega arith)
  ]

  no_subtitle_is_missed : (n f r : ℕ) → IsEnd t n f → unfinished_run_start requested t n f ≡ Some r
      → is_missed (requested.ending (f + 1)) from r ≡ false
  no_subtitle_is_missed n f r end first_unfinished = go (requested.ending (f + 1)) refl
    where
      later_run_misses_no_subtitle : (tci : ℕ) → tci < r → from ≤ tci
          → (nat_le r tci || ((r == from) && nat_lt tci from)) ≡ false
      later_run_misses_no_subtitle tci l m = grind (arith, nat_tests)

      go : (o : Option ℕ) → requested.ending (f + 1) ≡ o → is_missed o from r ≡ false
      go None found = refl
      go (Some tci) found =
          let (s, member, out, at) =
          tci_of_ending_has_subtitle programme.drawing programme.records is (f + 1) tci found in
          let same : get_or programme.records member.0 s ≡ s = member.2 in
          let (e, low, high, finished) =
          rw same at (good.subtitles member.0 s member.1) in
          let begins : first_frame t ≤ s.tci =
          rw same at
          (begins_in programme t is good.rules.starts good.rules.lasts member.0 s member.1) in
          let first = first-same t in
          let later = run_starts_after_finished_frame n f r e end first_unfinished (omega arith)
          (omega arith) finished in
          later_run_misses_no_subtitle tci (omega arith) (omega arith)

  in_time : (n f : ℕ) → IsEnd t n f
      → is_overdue requested from (unfinished_run_start requested t n f) f ≡ false
  in_time n f end = go (unfinished_run_start requested t n f) refl
    where
      run_within_delay_is_not_overdue : (r : ℕ) → f < r + options.within → (b : Bool) → b ≡ false
          → (nat_le (r + options.within) f || b) ≡ false
      run_within_delay_is_not_overdue r l b none = grind (arith, nat_tests)

      go : (o : Option ℕ) → unfinished_run_start requested t n f ≡ o → is_overdue requested from o f
          ≡
          false
      go None first_unfinished = refl
      go (Some r) first_unfinished =
          run_within_delay_is_not_overdue r (run_is_within_delay n f r end first_unfinished)
          (is_missed (requested.ending (f + 1)) from r)
          (no_subtitle_is_missed n f r end first_unfinished)

  at_once : (n f : ℕ) → IsEnd t n f → options.within ≡ 0
      → is_unfinished requested t n f ≡ false
  at_once n f end none =
      let first = first-same t in
      let last = last-same t in
      let low = end_is_at_least_first t order n f end in
      let high = end_is_at_most_last t order n f end in
      let (e, from, to, finished) = good.again f (omega arith) (omega arith) in
      let same : e ≡ f = omega arith in
      finished_page_is_finished_end programme options None false never t order n f end
      (subst (IsFinishedFrame options.keeps programme t options) same finished)

  still : (n f : ℕ) → IsEnd t n f
      → (broken_cell requested t n f ≡ None)
      × IsFalse (is_late requested t n f && is_incomplete requested t n)
  still n f end = no_fault_for_either_delay (cases_eq options.within 0)
    where
      known : is_undecided_within requested t f ≡ false
      known = no_refusals_leave_all_decided from f options.within

      late : is_late requested t n f ≡ (options.within == 0)
      late = late_eq programme options None false never t order n f (in_time n f end)

      code_due_within_may_show : (row column : ℕ)
          → IsDueWithin programme t options f row column
          (kept options.keeps options.page (packets_before t n) row column)
          → MayShow options.keeps options.page (packets_before t n) requested.due from f
          options.within
          row column
      code_due_within_may_show row column (inl blank) = inl blank
      code_due_within_may_show row column (inr (e, low, to, near, same)) =
          inr (e, inl (omega (arith, first-same t)), to, near, same)

      no_fault_for_either_delay : (options.within ≡ 0) ⊎ (options.within ≡ 0 → ⊥)
          → (broken_cell requested t n f ≡ None)
          × IsFalse (is_late requested t n f && is_incomplete requested t n)
      no_fault_for_either_delay (inl none) =
          let within_is_zero : (options.within == 0) ≡ true = grind (arith, nat_tests) in
          let finished = at_once n f end none in
          let parts =
          or_parts (is_some (wrong_cell requested t n f)) (is_incomplete requested t n) finished in
          let wrong = absent_option_equals_none (wrong_cell requested t n f) parts.0 in
          (rw (late, within_is_zero) wrong, rw (late, within_is_zero) parts.1)
      no_fault_for_either_delay (inr some) =
          let within_is_zero : (options.within == 0) ≡ false = grind (arith, nat_tests) in
          let first = first-same t in
          let last = last-same t in
          let low = end_is_at_least_first t order n f end in
          let high = end_is_at_most_last t order n f end in
          let on = end_is_on_air t order n f end in
          let unexpected :
          first_unexpected_cell_after options.keeps options.page (packets_before t n) requested.due
          from f
          options.within ≡ None =
          expected_codes_are_not_unexpected options.keeps options.page (packets_before t n)
          requested.due from f
          options.within
          (λ row column named.
          code_due_within_may_show row column
          (subst
          (λ ps. IsDueWithin programme t options f row column
          (kept options.keeps options.page ps row column))
          on (good.codes f row column (omega arith) (omega arith) named))) in (
            rw (late, within_is_zero) (unexpected_cell_of_decided_page requested t n f known ∙
                unexpected),
            rw (late, within_is_zero)
                refl,
          )

  nothing_is_pending : is_pending requested t ≡ false
  unfolding is_pending
  nothing_is_pending =
      let end : IsEnd t (length t) (end_frame t) =
      (good.rules.not_empty, le_refl (length t), inl refl) in
      let finished =
      finished_page_is_finished_end programme options None false never t order (length t)
      (end_frame t) end
      (subst (IsFinishedFrame options.keeps programme t options) (last-same t) good.ends) in
      let none = finished_end_starts_no_run programme options None false never t order (length t)
      (end_frame t) end
      finished in
      rw none refl

  -- A transmission that is good under the options has no faults.
  pub holds-from_within : MeetsRequirements requested t
  holds-from_within = holds-from_rules programme options t good.rules still nothing_is_pending

pub met_requirements_report_nothing : (programme : ProgrammeValue) (options : OptionsValue)
    (unread : Option UnreadReason) (frames : Transmission)
    → IsProgramme programme.drawing programme.records
    → 0 < options.every
    → EachPacket IsPacket frames
    → (events (criteria_of programme options unread) frames ≡ [])
    ↔ (GoodWithRepeats options.keeps programme frames options × (unread ≡ None))
met_requirements_report_nothing programme options unread frames is every whole =
    grind (arith, nat_tests, no_event_means_requirements_met, Within-from_holds, holds-from_within)
