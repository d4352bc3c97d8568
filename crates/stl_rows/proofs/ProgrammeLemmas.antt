-- A programme followed by one more valid subtitle without faults is a programme.
use Rattle.std.proofs.Common.{◌≡◌, ℕ, ◌-◌, ◌<◌, ◌≤◌, List, [], ◌∷◌, ◌++◌, Result, ◌∙◌, ap, Some}
use Rattle.std.proofs.Common.{length, get_or, arith, length-append}
use Rattle.std.proofs.lemmas.Bool.{cases_lt}
use Rattle.std.proofs.lemmas.Bool.Decides.{nat_tests}
use Rattle.std.proofs.lemmas.List.{get_or_append_left, get_or_push}
use Rattle.std.proofs.lemmas.List.Elements.{All-nil, All-push}
use Rattle.std.proofs.lemmas.Option.{slice_get-get_or}
use Rattle.std.specs.Prelude.{All, IsOk}
use Rattle.ttx_page.specs.Page.{Rows}
use Rattle.stl_file.specs.Subtitle.{SubtitleValue, IsSubtitle}
use Rattle.stl_rows.specs.declared.fault.RowFault.{RowFault}
use Rattle.stl_rows.specs.declared.layout.Drawing.{Drawing}
use Rattle.stl_rows.specs.DrawnPage.{drawn}
use Rattle.stl_rows.specs.Programme.{AreInOrder, IsProgramme, faults_of_next_subtitle, last_element}
use Rattle.stl_rows.specs.Programme.{order_faults}
use Rattle.stl_rows.specs.Programme.{row_faults, times_before, times_of}
use Rattle.stl_rows.proofs.FaultlessLemmas.{empty_append_has_empty_parts}

pub draws_without_faults : (r : Result Rows RowFault) → row_faults r ≡ [] → IsOk r
draws_without_faults r h = grind arith

-- If a subtitle's times have no fault, its TCI is at or after the TCO of the previous subtitle.
tci_follows_last_tco : (last t : SubtitleValue)
    → order_faults (Some (times_of last)) (times_of t) ≡ []
    → last.tco ≤ t.tci
tci_follows_last_tco last t h = grind (arith, nat_tests)

earlier_tcos_are_before_tci : (ts : List SubtitleValue) (t : SubtitleValue) (i : ℕ)
    (d : SubtitleValue)
    → All IsSubtitle ts
    → AreInOrder ts
    → order_faults (times_before ts) (times_of t) ≡ []
    → i < length ts
    → (get_or ts i d).tco ≤ t.tci
earlier_tcos_are_before_tci ts t i d each in_order h inside =
    let at : ℕ = length ts - 1 in
    let times = (each at d (omega arith)).times in
    grind (arith, nat_tests, tci_follows_last_tco, slice_get-get_or)

in_order-push : (ts : List SubtitleValue) (t : SubtitleValue)
    → All IsSubtitle ts
    → AreInOrder ts
    → order_faults (times_before ts) (times_of t) ≡ []
    → AreInOrder (ts ++ t ∷ [])
in_order-push ts t each in_order h i j d below inside =
    grind (
      arith,
      nat_tests,
      length-append,
      get_or_append_left,
      cases_lt,
      get_or_push,
      earlier_tcos_are_before_tci,
    )

pub IsProgramme-push : (n : Drawing) (ts : List SubtitleValue) (t : SubtitleValue)
    → IsProgramme n ts
    → IsSubtitle t
    → faults_of_next_subtitle n (times_before ts) t ≡ []
    → IsProgramme n (ts ++ t ∷ [])
IsProgramme-push n ts t ok subtitle h =
    let parts =
    empty_append_has_empty_parts (order_faults (times_before ts) (times_of t))
    (row_faults (drawn n t)) h in
    record {
      each = All-push IsSubtitle ts t ok.each subtitle;
      in_order = in_order-push ts t ok.each ok.in_order parts.0;
      drawable = All-push (λ x. IsOk (drawn n x)) ts t ok.drawable (draws_without_faults (drawn n t)
          parts.1);
    }

pub last_element-push : {A : Type 0} (xs : List A) (x : A) → last_element (xs ++ x ∷ []) ≡ Some x
last_element-push xs x =
    let size = length-append xs (x ∷ []) in
    let at : ℕ = length (xs ++ x ∷ []) - 1 in
    slice_get-get_or (xs ++ x ∷ []) at x (omega (arith, size))
    ∙ ap Some (get_or_push xs x x at (omega (arith, size)))

pub IsProgramme-none : (n : Drawing) → IsProgramme n []
IsProgramme-none n = grind (arith, nat_tests, All-nil)
