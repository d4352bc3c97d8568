-- If a programme has a subtitle, its first TCI and its last TCO are frames of the day.
use Rattle.std.proofs.Common.{◌≡◌, ℕ, ◌+◌, ◌-◌, ◌<◌, ◌≤◌, List, [], ◌∷◌, Option, Some, None, length}
use Rattle.std.proofs.Common.{get_or, refl, ◌∙◌, arith, All}
use Rattle.std.proofs.lemmas.Bool.Decides.{nat_tests}
use Rattle.std.proofs.lemmas.List.Elements.{All-nil, All-filter, All-weaker}
use Rattle.std.proofs.lemmas.Option.{slice_get-get_or, same_Some}
use Rattle.std.specs.List.{range_with_len}
use Rattle.ttx_page.specs.Page.{Rows}
use Rattle.stl_file.specs.Subtitle.{SubtitleValue}
use Rattle.stl_rows.specs.declared.layout.Drawing.{Drawing}
use Rattle.stl_rows.specs.Programme.{first_tci, last_tco, IsProgramme, ProgrammeValue}
use Rattle.stl_file.specs.TimeCode.{day}
use Rattle.sub_plan.specs.Schedule.{due_page_in, is_sending, plan_frames, sendings}
use Rattle.sub_plan.specs.Schedule.{sendings_between}
use Rattle.sub_plan.specs.Schedule.{sendings_from}
use Rattle.sub_plan.specs.Laws.{LawOfDay}
use Rattle.sub_plan.proofs.ScheduleBases.{property_holds_on_range}

pub no_first_tci_means_empty : (ts : List SubtitleValue) → None ≡ first_tci ts → ts ≡ []
no_first_tci_means_empty [] h = refl
no_first_tci_means_empty (t ∷ ts) h = cc

last_subtitle_has_last_tco : (t : SubtitleValue) (ts : List SubtitleValue)
    → last_tco (t ∷ ts) ≡ Some ((get_or (t ∷ ts) (length (t ∷ ts) - 1) t).tco)
last_subtitle_has_last_tco t ts = grind (arith, nat_tests, slice_get-get_or)

pub no_last_tco_means_empty : (ts : List SubtitleValue) (a : ℕ) → Some a ≡ first_tci ts → None ≡
    last_tco ts
    → ts ≡ []
no_last_tco_means_empty [] a h k = refl
no_last_tco_means_empty (t ∷ ts) a h k = let e = last_subtitle_has_last_tco t ts in cc

-- The first frame of a schedule is before its last frame, which is a frame of the day.
pub record IsSpan (a b : ℕ) : Type 0 where
  pub rises : a < b
  pub in_day : b < day

pub span-rises : (drawing : Drawing) (ts : List SubtitleValue) (a b : ℕ) → IsProgramme drawing ts
    → Some a ≡ first_tci ts → Some b ≡ last_tco ts → IsSpan a b
span-rises drawing [] a b ok h k = cc
span-rises drawing (t ∷ ts) a b ok h k =
    let n : ℕ = length (t ∷ ts) - 1 in
    let last : SubtitleValue = get_or (t ∷ ts) n t in
    let f : b ≡ last.tco = same_Some b last.tco (k ∙ last_subtitle_has_last_tco t ts) in
    let each_last = ok.each n t (omega arith) in
    let each_first = ok.each 0 t (omega arith) in
    record {
      rises =
          let order = ok.in_order 0 n t in
          let times = each_last.times in
          let own = each_first.times in
          grind arith;
      in_day = omega (arith, f, each_last.in_day);
    }

pub plan_frames-is : (programme : ProgrammeValue) (every a b : ℕ)
    → Some a ≡ first_tci programme.records → Some b ≡ last_tco programme.records
    → sendings (due_page_in programme) every a b ≡ plan_frames programme every
plan_frames-is programme every a b h k = rw (← h, ← k) refl

within : (due : ℕ → Rows) (every first last : ℕ) → first ≤ last
    → All (λ f. f ≤ last) (sendings due every first last)
unfolding sendings_from
within due every first last order =
    All-filter (is_sending due every first last) (λ f. f ≤ last)
    (range_with_len first (last + 1 - first))
    (property_holds_on_range (λ f. f ≤ last) first (last + 1 - first) (λ j b c. omega arith))

sendings_stay_within_day : (programme : ProgrammeValue) (every : ℕ) (a b : Option ℕ)
    → a ≡ first_tci programme.records → b ≡ last_tco programme.records
    → IsProgramme programme.drawing programme.records
    → All (λ frame. frame < day) (sendings_between (due_page_in programme) every a b)
sendings_stay_within_day programme every None b h k ok = All-nil (λ frame. frame < day)
sendings_stay_within_day programme every (Some a) None h k ok = All-nil (λ frame. frame < day)
sendings_stay_within_day programme every (Some a) (Some b) h k ok =
    let s = span-rises programme.drawing programme.records a b ok h k in
    grind (arith, nat_tests, All-weaker, within)

pub law_of_day : LawOfDay
law_of_day programme every ok = grind (arith, nat_tests, sendings_stay_within_day)
