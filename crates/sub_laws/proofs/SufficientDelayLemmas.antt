-- If no fault is active at any frame end of a range, each cell has a space or a code that was
-- expected and, if the subtitles are valid, the frames of the range are finished in time.
use Rattle.std.proofs.lemmas.Bool.Decides.{nat_tests}
use Rattle.std.proofs.Common.{◌≡◌, ℕ, ◌+◌, ◌-◌, ◌<◌, ◌≤◌, inr, Bool, true, false, ◌&&◌}
use Rattle.std.proofs.Common.{◌||◌, ◌==◌, nat_le, nat_lt, None, Option, Some, get_or, length, refl}
use Rattle.std.proofs.Common.{sym, ap, ◌∙◌, subst, arith, le_refl, Contains}
use Rattle.std.proofs.lemmas.Bool.{or_parts}
use Rattle.std.proofs.lemmas.List.Elements.{Contains-get_or}
use Rattle.ttx_page.specs.Page.{IsCell}
use Rattle.ttx_page.specs.Shown.{kept}
use Rattle.stl_file.specs.Subtitle.{SubtitleValue}
use Rattle.stl_rows.specs.Programme.{IsProgramme, ProgrammeValue}
use Rattle.sub_plan.specs.Options.{OptionsValue}
use Rattle.sub_plan.specs.Schedule.{due_page_in}
use Rattle.sub_rules.specs.Events.{broken_cell, is_incomplete, is_late, is_missed, is_overdue}
use Rattle.sub_rules.specs.Events.{is_unfinished, active_faults_at, unfinished_run_start}
use Rattle.sub_rules.specs.Events.{is_undecided_within}
use Rattle.sub_rules.specs.FrameRules.{Criteria, UnreadReason, end_frame, frame_at, packets_before}
use Rattle.sub_rules.specs.Kept.{IsRight}
use Rattle.sub_rules.specs.Repeats.{FinishesRegularly, IsDueWithin, IsFinishedFrame, IsCorrectPage}
use Rattle.sub_rules.specs.Repeats.{KeepsDueCodes, HasFinishedFrame}
use Rattle.sub_rules.specs.Transmission.{Transmission, on_air_until}
use Rattle.sub_laws.specs.CleanStretch.{IsEnd, HasNoReceiverFault, HasNoOpenEnd}
use Rattle.sub_laws.specs.CleanStretch.{criteria_if_unreliable}
use Rattle.sub_laws.specs.Repeats.{FinishesInTime}
use Rattle.sub_laws.specs.ReportedRepeats.{IsSufficientWithRepeats, LawOfUnreportedRepeats}
use Rattle.sub_laws.proofs.DueCodeLemmas.{ending_eq, no_unexpected_cell_shows_expected_codes}
use Rattle.sub_laws.proofs.FinishedLemmas.{finished_frame_has_finished_page, frame_end}
use Rattle.sub_laws.proofs.FinishedLemmas.{finished_end_starts_no_run}
use Rattle.sub_laws.proofs.FinishedLemmas.{first_unfinished_eq}
use Rattle.sub_laws.proofs.GoodLemmas.{rising_frames_rise_at_each_index}
use Rattle.sub_laws.proofs.PrefixLemmas.{RiseTo, end_is_on_air, first-same, last-same}
use Rattle.sub_laws.proofs.SoundUnreportedLemmas.{unreported_stretch_is_repeated}
use Rattle.sub_laws.proofs.ActiveFaultsLemmas.{undelayed_fault_is_always_late}
use Rattle.sub_laws.proofs.ActiveFaultsLemmas.{decided_range_includes_frame}
use Rattle.sub_laws.proofs.ActiveFaultsLemmas.{no_wrong_cell_shows_due_page}
use Rattle.sub_laws.proofs.ActiveFaultsLemmas.{unexpected_cell_of_decided_page}
use Rattle.sub_laws.proofs.UnfinishedLemmas.{later_run_start_leaves_finished_frame}
use Rattle.sub_laws.proofs.UnfinishedLemmas.{run_start_is_first_unfinished, unfinished_at}

-- The frames from a to b lie within the transmission, whose frame numbers increase. At the end of
-- each of them, no cell has a fault, and the expected page is known for this frame and the `within`
-- frames of the transmission before it.
pub record IsFaultFreeBetween (g : Criteria) (t : Transmission) (a b : ℕ) : Type 0 where
  pub up : RiseTo t (length t)
  pub some : 0 < length t
  pub from : frame_at t 0 ≤ a
  pub to : b ≤ end_frame t
  pub parts :
      (n f : ℕ)
      → IsEnd t n f
      → a ≤ f
      → f ≤ b
      → (broken_cell g t n f ≡ None) × (is_undecided_within g t f ≡ false)

-- At each frame end from a to b, no cell has a fault, and the fault `Incomplete` is not active.
-- Frame numbers increase.
pub record MeetsRequirementsAtEnds (g : Criteria) (t : Transmission) (a b : ℕ) : Type 0 where
  pub still : IsFaultFreeBetween g t a b
  pub shut :
      (n f : ℕ)
      → IsEnd t n f
      → a ≤ f
      → f ≤ b
      → (is_late g t n f && is_incomplete g t n) ≡ false

module _ (programme : ProgrammeValue) (options : OptionsValue) (unread : Option UnreadReason)
    (any_unreliable : Bool) (undecided : ℕ → Bool) (t : Transmission) (a b : ℕ)
    (still : IsFaultFreeBetween (criteria_if_unreliable programme options unread any_unreliable
    undecided) t a b)
  where
    abbrev requested : Criteria
    requested = criteria_if_unreliable programme options unread any_unreliable undecided

    pub known : (n f : ℕ) → IsEnd t n f → a ≤ f → f ≤ b → undecided f ≡ false
    known n f end low high = decided_range_includes_frame requested t n f (still.parts n f end low
        high).1

    each_frame_has_end : (f : ℕ) → a ≤ f → f ≤ b
        → (n : ℕ) × IsEnd t n f × (on_air_until t f ≡ packets_before t n)
    each_frame_has_end f low high =
        let first = still.from in
        let last = still.to in
        let (n, end) =
        frame_end programme options unread any_unreliable undecided t still.up f still.some
        (omega arith)
        (omega arith) in
        (n, end, end_is_on_air t still.up n f end)

    late_end_has_right_cells : (n f : ℕ) → IsEnd t n f → a ≤ f → f ≤ b → is_late requested t n f ≡
        true
        → (row column : ℕ)
        → IsCell row column
        → IsRight options.keeps options.page (packets_before t n) (due_page_in programme f) row
        column
    late_end_has_right_cells n f end low high late row column named =
        no_wrong_cell_shows_due_page requested t n f (rw late at (still.parts n f end low high).0)
        (known n f end low high) row column named

    early_end_has_expected_codes : (n f : ℕ) → IsEnd t n f → a ≤ f → f ≤ b → is_late requested t n f
        ≡ false
        → (row column : ℕ)
        → IsCell row column
        → IsDueWithin programme t options f row column
        (kept options.keeps options.page (packets_before t n) row column)
    early_end_has_expected_codes n f end low high not_late row column named =
        grind (
          arith,
          nat_tests,
          no_unexpected_cell_shows_expected_codes,
          unexpected_cell_of_decided_page,
          first-same,
        )

    -- At the end of each frame from a to b, each cell has a space, or a code that was expected at
    -- that frame or at one of the `within` frames before.
    pub codes : KeepsDueCodes options.keeps programme t options a b
    codes f row column low high named =
        let (n, end, on) = each_frame_has_end f low high in
        subst
        (λ ps. IsDueWithin programme t options f row column
        (kept options.keeps options.page ps row column))
        (sym on) (go n end (is_late requested t n f) refl)
      where
        go : (n : ℕ) → IsEnd t n f → (late : Bool) → is_late requested t n f ≡ late
            → IsDueWithin programme t options f row column
            (kept options.keeps options.page (packets_before t n) row column)
        go n end true late =
            inr (
              f,
              omega (arith, low, still.from, first-same t),
              le_refl f,
              omega arith,
              (late_end_has_right_cells n f end low high late row column named).kept_eq,
            )
        go n end false not_late =
            early_end_has_expected_codes n f end low high not_late row column named

    pub same_at_once : options.within ≡ 0 → (f : ℕ) → a ≤ f → f ≤ b
        → IsCorrectPage options.keeps programme options.page t f
    same_at_once none f low high row column named =
        let (n, end, on) = each_frame_has_end f low high in
        subst (λ ps. IsRight options.keeps options.page ps (due_page_in programme f) row column)
        (sym on)
        (late_end_has_right_cells n f end low high (undelayed_fault_is_always_late requested t n f
        none) row column named)

module _ (programme : ProgrammeValue) (options : OptionsValue) (unread : Option UnreadReason)
    (any_unreliable : Bool) (undecided : ℕ → Bool) (t : Transmission) (a b : ℕ)
    (holds : MeetsRequirementsAtEnds (criteria_if_unreliable programme options unread any_unreliable
    undecided) t a b)
  where
    abbrev criteria : Criteria
    criteria = criteria_if_unreliable programme options unread any_unreliable undecided

    abbrev start : ℕ
    start = frame_at t 0

    abbrev up : RiseTo t (length t)
    up = holds.still.up

    due_known_at_end : (n f : ℕ) → IsEnd t n f → a ≤ f → f ≤ b → undecided f ≡ false
    due_known_at_end = known programme options unread any_unreliable undecided t a b holds.still

    pub calm : (n f : ℕ) → IsEnd t n f → a ≤ f → f ≤ b → is_late criteria t n f ≡ true
        → is_unfinished criteria t n f ≡ false
    calm n f end low high late = grind (arith, nat_tests)

    end_is_not_overdue : (n f : ℕ) → IsEnd t n f → a ≤ f → f ≤ b
        → is_overdue criteria start (unfinished_run_start criteria t n f) f ≡ false
    unfolding is_late
    end_is_not_overdue n f end low high = grind (arith, nat_tests, finished_end_starts_no_run, calm)

    run_is_within_delay_and_unmissed : (n f r : ℕ) → IsEnd t n f → a ≤ f → f ≤ b →
        unfinished_run_start criteria t n f ≡ Some r
        → (f < r + options.within) × (is_missed (criteria.ending (f + 1)) start r ≡ false)
    run_is_within_delay_and_unmissed n f r end low high e =
        let both =
        or_parts (nat_le (r + options.within) f) (is_missed (criteria.ending (f + 1)) start r)
        (rw e at (end_is_not_overdue n f end low high)) in
        (before both.0, both.1)
      where
        before : nat_le (r + options.within) f ≡ false → f < r + options.within
        before e = grind (arith, nat_tests)

    ended : (e : ℕ) → a ≤ e → e ≤ b → unfinished_at criteria t up e ≡ false
        → IsFinishedFrame options.keeps programme t options e
    ended e low high finished =
        let first = holds.still.from in
        let last = holds.still.to in
        let (n, end) =
        frame_end programme options unread any_unreliable undecided t up e holds.still.some
        (omega arith)
        (omega arith) in
        finished_frame_has_finished_page programme options unread any_unreliable undecided t up e
        holds.still.some
        (omega arith)
        (omega arith) (due_known_at_end n e end low high) finished

    some_frame_is_finished : (from f : ℕ) → a ≤ from → from ≤ f → f ≤ b
        → ((n r : ℕ)
        → IsEnd t n f
        → unfinished_run_start criteria t n f ≡ Some r
        → start ≤ r
        → r ≤ from
        → ⊥)
        → HasFinishedFrame options.keeps programme t options from f
    some_frame_is_finished from f low below high late =
        let first = holds.still.from in
        let last = holds.still.to in
        let (n, end) =
        frame_end programme options unread any_unreliable undecided t up f holds.still.some
        (omega arith)
        (omega arith) in
        let k : ℕ = f - start in
        let at : start + k ≡ f = omega arith in
        let first_unfinished =
        first_unfinished_eq programme options unread any_unreliable undecided t
        up n f end in
        let (e, after, before, finished) =
        later_run_start_leaves_finished_frame (unfinished_at criteria t up) start from k
        (omega arith) (omega arith)
        (λ r is l.
        late n r end (first_unfinished ∙ is)
        (run_start_is_first_unfinished (unfinished_at criteria t up) start k r is).low l) in (
          e,
          after,
          omega arith,
          ended e (omega arith) (omega arith) finished,
        )

    pub again : FinishesRegularly options.keeps programme t options a b
    again from low high =
        some_frame_is_finished from (from + options.within) low (omega arith) high
        (λ n r end is begins l.
        let run_is_within_delay = (run_is_within_delay_and_unmissed n (from + options.within) r end
        (omega arith) high is).0 in
        omega arith)

    module _ (is : IsProgramme programme.drawing programme.records) where
      ends_at : (k : ℕ) (d : SubtitleValue) → k < length programme.records
          → (s : SubtitleValue)
          → s ≡ get_or programme.records k d
          → (s.tci < s.tco) × (criteria.ending (s.tco - 1 + 1) ≡ Some s.tci)
      ends_at k d l s same =
          let times : s.tci < s.tco =
          subst (λ (x : SubtitleValue). x.tci < x.tco) (sym same) (is.each k d l).times in
          let member : Contains programme.records s =
          subst (Contains programme.records) (sym same) (Contains-get_or programme.records k d l) in
          let next : s.tco ≡ s.tco - 1 + 1 = omega arith in (
            times,
            ap criteria.ending (sym next)
                ∙ ending_eq programme.drawing programme.records is s member,
          )

      pub subtitle : (k : ℕ) (d : SubtitleValue) → k < length programme.records
          → (s : SubtitleValue)
          → s ≡ get_or programme.records k d
          → a ≤ s.tci
          → s.tco ≤ b + 1
          → HasFinishedFrame options.keeps programme t options s.tci (s.tco - 1)
      subtitle k d l s same low high =
          let (times, found) = ends_at k d l s same in
          some_frame_is_finished s.tci (s.tco - 1) low (omega arith) (omega arith)
          (λ n r end first_unfinished begins l.
          let not_missed = (run_is_within_delay_and_unmissed n (s.tco - 1) r end (omega arith)
          (omega arith)
          first_unfinished).1 in
          run_begun_by_tci_misses_subtitle r s.tci l (rw found at not_missed))
        where
          run_begun_by_tci_misses_subtitle : (r tci : ℕ) → r ≤ tci
              → (nat_le r tci || ((r == start) && nat_lt tci start)) ≡ false
              → ⊥
          run_begun_by_tci_misses_subtitle r tci l e = grind (arith, nat_tests)

      begun : (k : ℕ) (d : SubtitleValue) → k < length programme.records
          → (s : SubtitleValue)
          → s ≡ get_or programme.records k d
          → a ≡ start
          → s.tci < a
          → a < s.tco
          → s.tco ≤ b + 1
          → HasFinishedFrame options.keeps programme t options a (s.tco - 1)
      begun k d l s same at before after high =
          let (times, found) = ends_at k d l s same in
          some_frame_is_finished a (s.tco - 1) (omega arith) (omega arith) (omega arith)
          (λ n r end first_unfinished begins l.
          let not_missed = (run_is_within_delay_and_unmissed n (s.tco - 1) r end (omega arith)
          (omega arith)
          first_unfinished).1 in
          run_from_start_misses_begun_subtitle r s.tci (omega arith) (omega arith)
          (rw found at not_missed))
        where
          run_from_start_misses_begun_subtitle : (r tci : ℕ) → r ≡ start → tci < start
              → (nat_le r tci || ((r == start) && nat_lt tci start)) ≡ false
              → ⊥
          run_from_start_misses_begun_subtitle r tci same l e = grind (arith, nat_tests)

      pub stretch_finishes_in_time : FinishesInTime options.keeps programme t options a b
      stretch_finishes_in_time = record {
        again = again;
        subtitles = λ k d l. subtitle k d l (get_or programme.records k d) refl;
        begun = λ at k d l.
            begun k d l (get_or programme.records k d) refl (at ∙ first-same t);
      }

module _ (programme : ProgrammeValue) (options : OptionsValue) (unread : Option UnreadReason)
    (any_unreliable : Bool) (undecided : ℕ → Bool) (t : Transmission) (a b : ℕ)
    (unreported : HasNoReceiverFault (criteria_if_unreliable programme options unread any_unreliable
    undecided) t a
    b)
  where
    unreported_stretch_is_fault_free : IsFaultFreeBetween (criteria_if_unreliable programme options
        unread any_unreliable undecided) t a
        b
    unfolding active_faults_at
    unreported_stretch_is_fault_free = record {
      up = rising_frames_rise_at_each_index t unreported.rising;
      some = unreported.stretch.not_empty;
      from = let first = first-same t in omega (arith, unreported.stretch.from);
      to = let last = last-same t in omega (arith, unreported.stretch.to);
      parts = λ n f end low high.
          (unreported.content n f end low high, unreported.undecided n f end low high);
    }

    pub unreported_repeats_are_sufficient :
        IsSufficientWithRepeats options.keeps programme t options a b
    unreported_repeats_are_sufficient = record {
      stretch = unreported_stretch_is_repeated programme t options unread any_unreliable undecided a
          b
          unreported;
      codes = codes programme options unread any_unreliable undecided t a b
          unreported_stretch_is_fault_free;
      whole = same_at_once programme options unread any_unreliable undecided t a b
          unreported_stretch_is_fault_free;
    }

    module _ (closed : HasNoOpenEnd (criteria_if_unreliable programme options unread any_unreliable
        undecided) t a
        b)
      where
        unreported_stretch_meets_requirements : MeetsRequirementsAtEnds
            (criteria_if_unreliable programme options unread any_unreliable
            undecided)
            t a b
        unfolding active_faults_at
        unreported_stretch_meets_requirements = record {
          still = unreported_stretch_is_fault_free;
          shut = closed;
        }

        pub unreported_stretch_finishes_in_time : IsProgramme programme.drawing programme.records
            → FinishesInTime options.keeps programme t options a b
        unreported_stretch_finishes_in_time is =
            stretch_finishes_in_time programme options unread any_unreliable undecided t a b
            unreported_stretch_meets_requirements is

pub law_of_unreported_repeats : LawOfUnreportedRepeats
law_of_unreported_repeats programme transmission options unread any_unreliable undecided a b
    unreported = (
      unreported_repeats_are_sufficient programme options unread any_unreliable undecided
          transmission
          a b unreported,
      λ is closed.
          unreported_stretch_finishes_in_time programme options unread any_unreliable undecided
          transmission a
          b unreported
          closed
          is,
    )
