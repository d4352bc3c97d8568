-- Up to the next cue, the expected page is known in all frames or unknown in all of them. So the
-- checker can compute the first frame from which on the expected page is known.
use Rattle.std.proofs.lemmas.Bool.Decides.{nat_tests}
use Rattle.std.proofs.Common.{◌≡◌, ℕ, zero, suc, ◌+◌, ◌-◌, ◌<◌, ◌≤◌, ◌⊎◌, Bool, true, false, ◌&&◌}
use Rattle.std.proofs.Common.{List, [], ◌∷◌, Option, Some, None, refl, sym, ap, ◌∙◌, arith}
use Rattle.std.proofs.Common.{inl, inr, nat_lt, subst}
use Rattle.std.proofs.lemmas.Bool.{cases_lt}
use Rattle.stl_file.specs.Subtitle.{SubtitleValue}
use Rattle.stl_file.specs.TimeCode.{day}
use Rattle.stl_rows.specs.DuePage.{IsEdge, ReportsNextEdge}
use Rattle.stl_rows.specs.Judged.{JudgedValue, has_unreliable_subtitle, is_undecided_from}
use Rattle.stl_rows.specs.Judged.{is_undecided_in}
use Rattle.stl_rows.specs.Judged.{judged_subtitles_with_bits}
use Rattle.sub_rules.specs.Events.{was_undecided}
use Rattle.sub_rules.specs.FrameRules.{is_due_undecided}
use Rattle.sub_checker.specs.Checker.{IsKnownFrom, is_before}

-- No cue comes after frame f and up to frame g.
abbrev NoPageChange : List SubtitleValue → ℕ → ℕ → Type 0
NoPageChange ts f g = (e : ℕ) → IsEdge ts e → f < e → e ≤ g → ⊥

no_change_holds_for_later_subtitles : (t : SubtitleValue) (ts : List SubtitleValue) (f g : ℕ) →
    NoPageChange (t ∷ ts) f g
    → NoPageChange ts f g
no_change_holds_for_later_subtitles t ts f g none e edge = none e (
  suc edge.0,
  edge.1,
  omega
      (arith, edge.2),
  edge.3,
  edge.4,
)

undecided_from_is_constant : (ts : List SubtitleValue) (bits : List Bool) (other : Bool)
    (start f g : ℕ)
    → f ≤ g
    → (f < start → start ≤ g → ⊥)
    → NoPageChange ts f g
    → is_undecided_from start (judged_subtitles_with_bits ts bits) other f
    ≡ is_undecided_from start (judged_subtitles_with_bits ts bits) other g
undecided_from_is_constant [] bits other start f g le still none = grind (arith, nat_tests)
undecided_from_is_constant (t ∷ ts) [] other start f g le still none =
    let begins = none t.tci (0, t, omega arith, refl, inl refl) in
    let ends = none t.tco (0, t, omega arith, refl, inr refl) in
    let rest = undecided_from_is_constant ts [] other t.tco f g le ends
    (no_change_holds_for_later_subtitles t ts f g none) in
    grind (arith, nat_tests)
undecided_from_is_constant (t ∷ ts) (bit ∷ bits) other start f g le still none =
    let begins = none t.tci (0, t, omega arith, refl, inl refl) in
    let ends = none t.tco (0, t, omega arith, refl, inr refl) in
    let rest = undecided_from_is_constant ts bits other t.tco f g le ends
    (no_change_holds_for_later_subtitles t ts f g none) in
    grind (arith, nat_tests)

pub undecided_is_constant_between_changes : (j : JudgedValue) (f g : ℕ)
    → f ≤ g
    → NoPageChange j.programme.records f g
    → is_undecided_in j f ≡ is_undecided_in j g
unfolding is_undecided_in
undecided_is_constant_between_changes j f g le none =
    undecided_from_is_constant j.programme.records j.after_unreliable_bits j.is_before_unreliable 0
    f g le
    (λ low. absurd (omega (arith, low))) none

earlier : (e f : ℕ) (edge : Option ℕ) → e ≤ f → is_before f edge ≡ true → is_before e edge ≡ true
earlier e f None le before = refl
earlier e f (Some next) le before = grind (arith, nat_tests)

undecided_is_constant_until_edge : (j : JudgedValue) (frame f : ℕ) (edge : Option ℕ)
    → ReportsNextEdge j.programme.records frame edge
    → frame ≤ f
    → is_before f edge ≡ true
    → is_undecided_in j f ≡ is_undecided_in j frame
undecided_is_constant_until_edge j frame f None reports low before =
    sym (undecided_is_constant_between_changes j frame f low
    (λ e edge after until. let l = reports e edge in omega (arith, l, after)))
undecided_is_constant_until_edge j frame f (Some next) reports low before =
    let l : f < next = grind (arith, nat_tests) in
    sym (undecided_is_constant_between_changes j frame f low
    (λ e edge after until. let m = reports.least e edge after in omega (arith, l, m, until)))

module _ (undecided : ℕ → Bool) (first f : ℕ) where
  pub was-none : (n : ℕ)
      → undecided f ≡ false
      → ((e : ℕ) → first ≤ e → f ≤ e + n → e ≤ f → undecided e ≡ false)
      → was_undecided undecided first f n ≡ false
  unfolding was_undecided
  was-none zero here none = grind (arith, nat_tests)
  was-none (suc n) here none = grind (arith, nat_tests, (was-none n here))

  pub was-some : (n e : ℕ)
      → (first ≤ e) ⊎ (e ≡ f)
      → f ≤ e + n
      → e ≤ f
      → undecided e ≡ true
      → was_undecided undecided first f n ≡ true
  unfolding was_undecided
  was-some zero e low reach until is =
      let here : e ≡ f = omega (arith, reach, until) in subst (λ k. undecided k ≡ true) here is
  was-some (suc n) e low reach until is =
      by (cases_lt (e + n) f) (λ l. was-some n e low l until is)
    where
      by : (e + n < f) ⊎ (f ≤ e + n)
          → (f ≤ e + n → was_undecided undecided first f n ≡ true)
          → was_undecided undecided first f (suc n) ≡ true
      by (inl l) rest =
          let there : f - suc n ≡ e = omega (arith, l, reach) in
          let far : first + suc n ≤ f = at low in
          let test = subst (λ k. undecided k ≡ true) (sym there) is in
          grind (arith, nat_tests)
        where
          at : (first ≤ e) ⊎ (e ≡ f) → first + suc n ≤ f
          at (inl m) = omega (arith, l, m, reach)
          at (inr same) = absurd (omega (arith, l, same))
      by (inr l) rest = let nearer = rest l in grind (arith, nat_tests)

  -- If n is 0, the expected page was unknown in frame f or in one of the n frames before exactly if
  -- the expected page of frame f is unknown.
  pub was-once : (n : ℕ) → n ≡ 0 → was_undecided undecided first f n ≡ undecided f
  unfolding was_undecided
  was-once n none = rw none refl

  pub was-here : (n : ℕ) → was_undecided undecided first f n ≡ false → undecided f ≡ false
  unfolding was_undecided
  was-here zero none = none
  was-here (suc n) none = let rest = was-here n in grind (arith, nat_tests)

no_number_is_below_zero : (f : ℕ) → nat_lt f 0 ≡ false
no_number_is_below_zero f = grind (arith, nat_tests)

module _ (j : JudgedValue) (first within frame : ℕ) (edge : Option ℕ)
    (reports : ReportsNextEdge j.programme.records frame edge) where
  pub due_known_without_refusals : has_unreliable_subtitle j ≡ false
      → IsKnownFrom (is_due_undecided j) first within frame edge 0
  due_known_without_refusals h1 = grind (arith, nat_tests, no_number_is_below_zero, was-none)

  module _ (is : has_unreliable_subtitle j ≡ true) where
    any_unreliable_eq : (e : ℕ) → is_due_undecided j e ≡ is_undecided_in j e
    any_unreliable_eq e = ap (λ b. b && is_undecided_in j e) is

    pub due_unknown_after_day : (k : ℕ)
        → day ≤ k
        → is_undecided_in j frame ≡ true
        → IsKnownFrom (is_due_undecided j) first within frame edge k
    due_unknown_after_day k high here f low small before =
        let there = was-some (is_due_undecided j) first f within f (inr refl) (omega arith)
        (omega arith) (any_unreliable_eq f ∙ undecided_is_constant_until_edge j frame f edge reports
        low before ∙ here) in
        rw there (grind (arith, nat_tests))

    pub due_known_up_to_last : (last : ℕ)
        → first ≤ last
        → last < frame
        → is_undecided_in j last ≡ true
        → ((f : ℕ) → last < f → f ≤ frame → is_undecided_in j f ≡ false)
        → IsKnownFrom (is_due_undecided j) first within frame edge (last + within + 1)
    due_known_up_to_last last some less here none f low small before = by (cases_lt (last + within)
        f)
      where
        first_unfinished : (e : ℕ) → last < e → e ≤ f → is_due_undecided j e ≡ false
        first_unfinished e after until = any_unreliable_eq e ∙ go (cases_lt e frame)
          where
            go : (e < frame) ⊎ (frame ≤ e) → is_undecided_in j e ≡ false
            go (inl l) = none e after (omega arith)
            go (inr l) =
                undecided_is_constant_until_edge j frame e edge reports l
                (earlier e f edge until before)
                ∙ none frame less (omega arith)

        by : (last + within < f) ⊎ (f ≤ last + within)
            → nat_lt f (last + within + 1) ≡ was_undecided (is_due_undecided j) first f within
        by (inl l) =
            rw (was-none (is_due_undecided j) first f within
            (first_unfinished f (omega arith) (omega arith))
            (λ e m reach until. first_unfinished e (omega (arith, l, reach)) until))
            (grind (arith, nat_tests))
        by (inr l) =
            rw (was-some (is_due_undecided j) first f within last (inl some) l (omega arith)
            (any_unreliable_eq last ∙ here))
            (grind (arith, nat_tests))

    pub unknown_page_is_never_known : (least : ℕ)
        → ((f : ℕ) → first ≤ f → frame ≤ f + within → least ≤ f)
        → is_undecided_in j frame ≡ false
        → ((f : ℕ) → least ≤ f → f ≤ frame → is_undecided_in j f ≡ false)
        → IsKnownFrom (is_due_undecided j) first within frame edge 0
    unknown_page_is_never_known least counts here none f low small before =
        no_number_is_below_zero f
        ∙ sym (was-none (is_due_undecided j) first f within (at f low (omega arith)) each)
      where
        at : (e : ℕ) → frame ≤ e → e ≤ f → is_due_undecided j e ≡ false
        at e l until =
            any_unreliable_eq e
            ∙ undecided_is_constant_until_edge j frame e edge reports l
            (earlier e f edge until before)
            ∙ here

        each : (e : ℕ) → first ≤ e → f ≤ e + within → e ≤ f → is_due_undecided j e ≡ false
        each e m reach until = go (cases_lt e frame)
          where
            go : (e < frame) ⊎ (frame ≤ e) → is_due_undecided j e ≡ false
            go (inl l) = any_unreliable_eq e ∙ none e (counts e m (omega arith)) (omega arith)
            go (inr l) = at e l until
