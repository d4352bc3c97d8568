-- In a transmission that is good under the options, receivers recover in all frames, and the
-- expected page is on their screens at each frame end with a correct page that has ended.
use Rattle.std.proofs.lemmas.Bool.Decides.{nat_tests}
use Rattle.std.proofs.Common.{◌≡◌, ℕ, ◌-◌, ◌<◌, ◌≤◌, inl, inr, Bool, true, false}
use Rattle.std.proofs.Common.{length, get_or, option_map, IsTrue, ap, subst, arith}
use Rattle.std.proofs.Common.{le_refl}
use Rattle.std.proofs.lemmas.Bool.{cases_lt}
use Rattle.std.proofs.lemmas.Option.{slice_get-get_or}
use Rattle.std.specs.Prelude.{IfSome}
use Rattle.ttx_page.specs.PacketKind.{kind}
use Rattle.ttx_page.specs.Span.{has_no_page_end}
use Rattle.stl_file.specs.Subtitle.{SubtitleValue}
use Rattle.stl_rows.specs.Programme.{IsProgramme, ProgrammeValue, first_tci, last_tco}
use Rattle.sub_plan.specs.Options.{OptionsValue}
use Rattle.sub_plan.specs.Schedule.{due_page_in}
use Rattle.sub_rules.specs.Good.{Good}
use Rattle.sub_rules.specs.Repeats.{GoodWithRepeats, IsFinishedFrame}
use Rattle.sub_rules.specs.Transmission.{IsRising, Transmission, first_frame, last_frame}
use Rattle.sub_rules.specs.Transmission.{on_air_until}
use Rattle.sub_laws.specs.WithoutDelay.{LawOfNoDelay}
use Rattle.sub_laws.specs.OnScreen.{Complete}
use Rattle.sub_laws.specs.Planned.{planned}
use Rattle.sub_laws.specs.Repeats.{LawOfGoodWithRepeats, LawOfPlanRepeats}
use Rattle.sub_laws.proofs.DelayLemmas.{ended_of_complete, finished_at_once}
use Rattle.sub_laws.proofs.DelayLemmas.{law_of_repeated_stretch, law_of_right_cells}
use Rattle.sub_laws.proofs.GoodLemmas.{rising_frames_rise_at_each_index}
use Rattle.sub_laws.proofs.PlanLemmas.{law_of_complete_plan, law_of_plan}
use Rattle.sub_laws.proofs.PrefixLemmas.{first-same, last-same, rising_frames_are_ordered}
use Rattle.sub_laws.proofs.RepeatLemmas.{law_of_may_keep, repeated_stretch, rules_by, rules_of}
use Rattle.sub_laws.proofs.SoundStretchLemmas.{first_true_makes_second_false}

module _ (programme : ProgrammeValue) (transmission : Transmission)
    (is : IsProgramme programme.drawing programme.records)
    (starts : IfSome (first_tci programme.records) (λ tci. first_frame transmission ≤ tci))
    (lasts : IfSome (last_tco programme.records) (λ tco. tco ≤ last_frame transmission))
    (k : ℕ) (d : SubtitleValue) (within : k < length programme.records) where
  abbrev t : SubtitleValue
  t = get_or programme.records k d

  pub subtitle_has_frames : t.tci < t.tco
  subtitle_has_frames = (is.each k d within).times

  pub begins_in : first_frame transmission ≤ t.tci
  begins_in =
      let first : first_frame transmission ≤ (get_or programme.records 0 d).tci =
      subst (λ x. IfSome x (λ tci. first_frame transmission ≤ tci))
      (ap (option_map (λ (s : SubtitleValue). s.tci))
      (slice_get-get_or programme.records 0 d (omega arith))) starts in
      elim (cases_lt 0 k) [
        | inl later ↦
            let order = is.in_order 0 k d later within in
            let times = (is.each 0 d (omega arith)).times in
            omega (arith, first, order, times)
        | inr same ↦ grind (arith, nat_tests)
      ]

  pub ends_in : t.tco ≤ last_frame transmission
  ends_in =
      let n : ℕ = length programme.records - 1 in
      let last : (get_or programme.records n d).tco ≤ last_frame transmission =
      subst (λ x. IfSome x (λ tco. tco ≤ last_frame transmission))
      (ap (option_map (λ (s : SubtitleValue). s.tco))
      (slice_get-get_or programme.records n d (omega arith))) lasts in
      grind (arith, nat_tests, (cases_lt k n))

first_to_last :
    (transmission : Transmission)
    → 0 < length transmission
    → IsRising transmission
    → first_frame transmission ≤ last_frame transmission
first_to_last transmission some rising =
    omega (
      arith,
      first-same transmission,
      last-same transmission,
      rising_frames_are_ordered transmission (length transmission) (rising_frames_rise_at_each_index
          transmission rising) 0
          (length transmission - 1) (omega arith) (omega (arith, some)),
    )

pub law_of_good_with_repeats : LawOfGoodWithRepeats
law_of_good_with_repeats keeps programme transmission options good =
    let law =
    law_of_repeated_stretch keeps programme transmission options (first_frame transmission)
    (last_frame transmission)
    (repeated_stretch keeps programme transmission options good.rules) good.codes in (
      law.0,
      λ is.
          law.1
          (record {
            again = good.again;
            subtitles = λ k d within low high. good.subtitles k d within;
            begun = λ from k d within before.
                let begins =
                begins_in programme transmission is good.rules.starts good.rules.lasts k d within in
                absurd (omega arith);
          }),
    )

module _ (programme : ProgrammeValue) (transmission : Transmission) (options : OptionsValue) where
  module _ (is : IsProgramme programme.drawing programme.records)
      (good : Good programme transmission options)
      (complete : IsTrue options.asks_complete → Complete transmission options) where
    -- Each frame of a good transmission is finished if the pages of the transmission are complete,
    -- or complete pages are not required.
    finished :
        (f : ℕ)
        → first_frame transmission ≤ f
        → f ≤ last_frame transmission
        → IsFinishedFrame false programme transmission options f
    finished f low high = record {
      whole = λ row column named.
          (law_of_right_cells options.page (on_air_until transmission f) (due_page_in programme f)
          row
          column).1
          (good.content f row column low high named);
      ended = λ asks.
          ended_of_complete transmission options (first_frame transmission)
          (last_frame transmission) f (complete asks) low high;
    }

    -- A good transmission of valid subtitles is also good with any `within`, if its pages are
    -- complete or complete pages are not required.
    pub good_transmission_is_good_with_any_delay : GoodWithRepeats false programme transmission
        options
    good_transmission_is_good_with_any_delay = record {
      rules = rules_by programme transmission options good.rules;
      codes = λ f row column low high named.
          inr (
            f,
            low,
            le_refl f,
            omega arith,
            ((finished f low high).whole row column named).kept_eq,
          );
      again = λ f low high. (f, le_refl f, omega arith, finished f low (omega (arith, high)));
      subtitles = λ k d within.
          let t : SubtitleValue = get_or programme.records k d in
          let some =
          subtitle_has_frames programme transmission is good.rules.starts good.rules.lasts k d
          within in
          let begins =
          begins_in programme transmission is good.rules.starts good.rules.lasts k d within in
          let ends =
          ends_in programme transmission is good.rules.starts good.rules.lasts k d within in (
            t.tci,
            le_refl t.tci,
            omega (arith, some),
            finished t.tci begins (omega (arith, some, ends)),
          );
      ends =
          finished (last_frame transmission)
          (first_to_last transmission good.rules.not_empty good.rules.rising)
          (le_refl (last_frame transmission));
    }

  -- If `within` is 0 and each header must have C4 (erase page) set, `GoodWithRepeats` implies
  -- `Good` and, if complete pages are required, complete pages.
  good_at_once :
      options.within ≡ 0
      → GoodWithRepeats false programme transmission options
      → Good programme transmission options
      × (IsTrue options.asks_complete → Complete transmission options)
  good_at_once none good = (
    record {
      rules = rules_of programme transmission options good.rules;
      content = λ f row column low high named.
          (law_of_right_cells options.page (on_air_until transmission f) (due_page_in programme f)
          row
          column).0
          ((at f low high).whole row column named);
    },
    λ asks f low high holds.
        first_true_makes_second_false
        _ (has_no_page_end (kind options.page) (on_air_until transmission f))
        ((at f low high).ended asks) holds,
  )
    where
      at :
          (f : ℕ)
          → first_frame transmission ≤ f
          → f ≤ last_frame transmission
          → IsFinishedFrame false programme transmission options f
      at f low high =
          finished_at_once false programme transmission options (first_frame transmission)
          (last_frame transmission) none good.again f low high

pub law_of_no_delay : LawOfNoDelay
law_of_no_delay programme transmission options is none = (
  good_at_once programme transmission options none,
  λ good. good_transmission_is_good_with_any_delay programme transmission options is good.0 good.1,
)

pub law_of_plan_repeats : LawOfPlanRepeats
law_of_plan_repeats keeps programme options serial is some ok slow = go keeps
  where
    good : GoodWithRepeats false programme (planned programme options serial) options
    good =
        good_transmission_is_good_with_any_delay programme _ options is
        (law_of_plan programme options serial is some ok slow)
        (λ asks. law_of_complete_plan programme options serial is some ok)

    go : (b : Bool) → GoodWithRepeats b programme (planned programme options serial) options
    go false = good
    go true = law_of_may_keep programme (planned programme options serial) options good
