-- The first subtitle whose TCO is after a frame decides the expected page and the next cue.
use Rattle.std.proofs.Common.{rules, ◌≡◌, ◌≢◌, ℕ, zero, suc, ◌+◌, ◌-◌, ◌<◌, ◌≤◌, Bool, true, false}
use Rattle.std.proofs.Common.{List, [], ◌∷◌, Option, Some, None, MatchOption, option_map, length}
use Rattle.std.proofs.Common.{Ok}
use Rattle.std.proofs.Common.{get_or, refl, sym, ap, ◌∙◌, arith, ◌⊎◌, inl, inr}
use Rattle.std.proofs.lemmas.Bool.{cases_lt}
use Rattle.std.proofs.lemmas.Bool.Decides.{nat_tests}
use Rattle.std.proofs.lemmas.List.{get_or_default, get_or_read}
use Rattle.std.proofs.lemmas.List.Elements.{All-contains, Contains-get_or}
use Rattle.std.proofs.lemmas.List.Recursion.{found_at, found_nowhere}
use Rattle.std.specs.List.{find}
use Rattle.std.specs.List.Sorted.{IsNonDecreasingBy}
use Rattle.std.specs.Prelude.{Contains}
use Rattle.ttx_page.specs.Page.{Rows, blank}
use Rattle.stl_file.specs.Subtitle.{SubtitleValue, IsSubtitle, empty_subtitle}
use Rattle.stl_rows.specs.declared.layout.Drawing.{Drawing}
use Rattle.stl_rows.specs.DrawnPage.{drawn}
use Rattle.stl_rows.specs.DuePage.{IsEdge, IsLastEdge, IsNextEdge, LawOfBlankPages}
use Rattle.stl_rows.specs.DuePage.{LawOfDueSubtitles, LawOfEdges, ReportsLastEdge, drawn_or_blank}
use Rattle.stl_rows.specs.DuePage.{due, ends_at, is_due, tci_of_subtitle_ending_at}
use Rattle.stl_rows.specs.Programme.{IsProgramme}

not_due_outside_times : (f : ℕ) (t : SubtitleValue) → (f < t.tci) ⊎ (t.tco ≤ f) → is_due f t ≡ false
not_due_outside_times f t h = grind (arith, nat_tests)

other_frame_ends_nothing : (f : ℕ) (t : SubtitleValue) → t.tco ≢ f → ends_at f t ≡ false
other_frame_ends_nothing f t h = grind (arith, nat_tests)

tco_frame_ends_subtitle : (f : ℕ) (t : SubtitleValue) → t.tco ≡ f → ends_at f t ≡ true
tco_frame_ends_subtitle f t h = grind (arith, nat_tests)

pub page_without_subtitle_is_blank : LawOfBlankPages
unfolding due
page_without_subtitle_is_blank n ts f none =
    ap (drawn_or_blank n)
    (found_nowhere (find (is_due f)) (is_due f) Some None refl (λ x xs. refl) ts empty_subtitle
    (λ k b. not_due_outside_times f (get_or ts k empty_subtitle) (none k empty_subtitle b)))

pub due_subtitle_is_drawn : LawOfDueSubtitles
unfolding due
due_subtitle_is_drawn n ts f t order member low high =
    ap (drawn_or_blank n)
    (found_at (find (is_due f)) (is_due f) Some None refl (λ x xs. refl) ts member.0 t member.1
    (λ k below. not_due_outside_times f (get_or ts k t)
    (inr (omega (arith, low, rw member.2 at (order k member.0 t below member.1)))))
    (rw member.2 (grind (arith, nat_tests)))
    ∙ ap Some member.2)

pub no_tco_means_none_ending : (ts : List SubtitleValue) (f : ℕ)
    → ((k : ℕ) (d : SubtitleValue) → k < length ts → (get_or ts k d).tco ≢ f)
    → None ≡ tci_of_subtitle_ending_at ts f
unfolding tci_of_subtitle_ending_at
no_tco_means_none_ending ts f none =
    sym (ap (option_map (λ (t : SubtitleValue). t.tci))
    (found_nowhere (find (ends_at f)) (ends_at f) Some None refl (λ x xs. refl) ts empty_subtitle
    (λ k b. other_frame_ends_nothing f (get_or ts k empty_subtitle) (none k empty_subtitle b))))

find_of_equal_tests : {X : Type 0} (p q : X → Bool) (xs : List X)
    → ((k : ℕ) (d : X) → k < length xs → p (get_or xs k d) ≡ q (get_or xs k d))
    → find p xs ≡ find q xs
find_of_equal_tests p q [] h = refl
find_of_equal_tests p q (x ∷ xs) h =
    let e : p x ≡ q x = h 0 x (omega arith) in
    let tail : find p xs ≡ find q xs = find_of_equal_tests p q xs
    (λ k d b. h (suc k) d (omega arith)) in
    rw (e, tail) refl

pub page_changes_only_at_edges : LawOfEdges
unfolding due
page_changes_only_at_edges n ts f first none = search (rules, find_of_equal_tests, get_or_default)

-- If the blank page and each drawn page have a property, each expected page has the property.
pub due_has_property : (P : Rows → Type 0) (n : Drawing) (ts : List SubtitleValue) (f : ℕ)
    → P blank
    → ((t : SubtitleValue) (page : Rows) → drawn n t ≡ Ok page → P page)
    → P (due n ts f)
unfolding due
due_has_property P n ts f none some = grind (arith, nat_tests)

pub record IsFirstEndingAfter (ts : List SubtitleValue) (f at : ℕ) : Type 0 where
  pub before : (k : ℕ) (d : SubtitleValue) → k < at → (get_or ts k d).tco ≤ f
  pub after : (k : ℕ) (d : SubtitleValue) → at ≤ k → k < length ts → f < (get_or ts k d).tco

module _ (n : Drawing) (ts : List SubtitleValue) (f at : ℕ) (t : SubtitleValue)
    (ok : IsProgramme n ts) (first : IsFirstEndingAfter ts f at) (inside : at < length ts)
    (is : t ≡ get_or ts at t) where
  subtitles_before_or_after : (x : SubtitleValue)
      → Contains ts x
      → (x.tco ≤ f) ⊎ ((x ≡ t) ⊎ (t.tco ≤ x.tci))
  subtitles_before_or_after x member =
      let own : t ≡ get_or ts at x = get_or_read ts at t inside is x in
      grind (arith, nat_tests, get_or_read)

  pub ends_after : f < t.tco
  ends_after = rw (← is) at (first.after at t (omega arith) inside)

  -- If the first subtitle whose TCO is after the frame also starts after the frame, no subtitle is
  -- expected at the frame.
  pub none-between : f < t.tci
      → (k : ℕ) (d : SubtitleValue)
      → k < length ts
      → (f < (get_or ts k d).tci) ⊎ ((get_or ts k d).tco ≤ f)
  none-between gap k d b =
      let cases = subtitles_before_or_after (get_or ts k d) (Contains-get_or ts k d b) in grind
      arith

  later_edges_follow_tci : (x : ℕ) → IsEdge ts x → f < x → (x ≡ t.tci) ⊎ (t.tco ≤ x)
  later_edges_follow_tci x edge after =
      let s : SubtitleValue = edge.1 in
      let member : Contains ts s = (edge.0, edge.2, edge.3) in
      let order : s.tci < s.tco = (All-contains IsSubtitle ts s ok.each member).times in
      grind (arith, subtitles_before_or_after s member, order, edge.4)

  -- If the first subtitle whose TCO is after the frame also starts after the frame, the next cue is
  -- the TCI of that subtitle.
  pub next_edge-tci : f < t.tci → IsNextEdge ts f t.tci
  next_edge-tci gap = record {
    is_edge = (at, t, inside, sym is, inl refl);
    after = gap;
    least = λ x edge after.
        omega (
          arith,
          later_edges_follow_tci x edge after,
          (All-contains IsSubtitle ts t ok.each (at, inside, sym is)).times,
        );
  }

  -- If the first subtitle whose TCO is after the frame has started by the frame, the next cue is
  -- the TCO of that subtitle.
  pub next_edge-tco : t.tci ≤ f → IsNextEdge ts f t.tco
  next_edge-tco low = record {
    is_edge = (at, t, inside, sym is, inr refl);
    after = ends_after;
    least = λ x edge after. omega (arith, later_edges_follow_tci x edge after, low, after);
  }

  -- If the first subtitle whose TCO is after a frame does not end at the next frame, no subtitle
  -- ends there.
  pub no_tco_means_none_ending-next : (g : ℕ) → f + 1 ≡ g → t.tco ≢ g → None ≡
      tci_of_subtitle_ending_at ts g
  no_tco_means_none_ending-next g next other = no_tco_means_none_ending ts g (λ k d b.
      let cases = subtitles_before_or_after (get_or ts k d) (Contains-get_or ts k d b) in
      let times = (ok.each k d b).times in
      let after = ends_after in
      grind arith)

  -- If the first subtitle whose TCO is after a frame ends at the next frame,
  -- `tci_of_subtitle_ending_at` returns its TCI.
  pub ends-next : (g : ℕ) → f + 1 ≡ g → t.tco ≡ g → Some t.tci ≡ tci_of_subtitle_ending_at ts g
  unfolding tci_of_subtitle_ending_at
  ends-next g next own =
      sym (ap (option_map (λ (s : SubtitleValue). s.tci))
      (found_at (find (ends_at g)) (ends_at g) Some None refl (λ x xs. refl) ts at t inside
      (λ k below. other_frame_ends_nothing g (get_or ts k t)
      (omega (arith, first.before k t below)))
      (rw (← is) (tco_frame_ends_subtitle g t own))
      ∙ ap Some (sym is)))

module _ (n : Drawing) (ts : List SubtitleValue) (f at : ℕ) (ok : IsProgramme n ts) where
  -- A cue is the TCI or the TCO of a subtitle, and the subtitle's TCI is before its TCO.
  edge_is_tci_or_tco : (x : ℕ) (edge : IsEdge ts x)
      → (edge.1.tci < edge.1.tco) × ((x ≡ edge.1.tci) ⊎ (x ≡ edge.1.tco))
  edge_is_tci_or_tco x edge =
      ((All-contains IsSubtitle ts edge.1 ok.each (edge.0, edge.2, edge.3)).times, edge.4)

  pub last_edge-tci : (t : SubtitleValue) → IsFirstEndingAfter ts f at → at < length ts
      → t ≡ get_or ts at t → t.tci ≤ f → IsLastEdge ts f t.tci
  last_edge-tci t first inside is low = record {
    is_edge = (at, t, inside, sym is, inl refl);
    until = low;
    greatest = λ x edge until. greatest x edge until;
  }
    where
      greatest : (x : ℕ) → IsEdge ts x → x ≤ f → x ≤ t.tci
      greatest x edge until =
          let times = edge_is_tci_or_tco x edge in
          let own : edge.0 ≡ at → t ≡ edge.1 = grind (arith, get_or_read) in
          let same = get_or_read ts at t inside is edge.1 in
          let there = edge.3 in
          let before : edge.0 < at → edge.1.tco ≤ t.tci =
          λ l. let order = ok.in_order edge.0 at edge.1 l inside in grind arith in
          let after : at < edge.0 → f < edge.1.tci = grind (arith, get_or_read) in
          grind (arith, nat_tests, cases_lt)

  -- If the first subtitle whose TCO is after a frame starts after the frame, so do all later
  -- subtitles.
  pub later_subtitles_start_after : (t : SubtitleValue) → IsFirstEndingAfter ts f at → at < length
      ts
      → t ≡ get_or ts at t → f < t.tci
      → (k : ℕ) (d : SubtitleValue)
      → at ≤ k → k < length ts → f < (get_or ts k d).tci
  later_subtitles_start_after t first inside is gap k d low high =
      let own : t ≡ get_or ts at d = get_or_read ts at t inside is d in
      let ends = first.after at d (omega arith) inside in
      let later = ok.in_order at k d in
      grind (arith, nat_tests, cases_lt)

  pub last_edge-gap : (o : Option ℕ) → at ≤ length ts
      → ((k : ℕ) (d : SubtitleValue) → k < at → (get_or ts k d).tco ≤ f)
      → ((k : ℕ) (d : SubtitleValue) → at ≤ k → k < length ts → f < (get_or ts k d).tci)
      → MatchOption o (at ≡ 0)
      (λ tco. (1 ≤ at) × ((d : SubtitleValue) → tco ≡ (get_or ts (at - 1) d).tco))
      → ReportsLastEdge ts f o
  last_edge-gap None high before after none = λ x edge.
      let times = edge_is_tci_or_tco x edge in
      let there = edge.3 in
      let later = after edge.0 edge.1 (omega (arith, none)) edge.2 in
      grind arith
  last_edge-gap (Some tco) high before after some =
      let last = get_or ts (at - 1) empty_subtitle in
      let inside : at - 1 < length ts = omega (arith, some.0, high) in
      let member = Contains-get_or ts (at - 1) empty_subtitle inside in
      record {
        is_edge = (member.0, last, member.1, member.2, inr (some.1 empty_subtitle));
        until = rw (some.1 empty_subtitle) (before (at - 1) empty_subtitle (omega (arith, some.0)));
        greatest = λ x edge until. greatest x edge until;
      }
    where
      greatest : (x : ℕ) → IsEdge ts x → x ≤ f → x ≤ tco
      greatest x edge until =
          let times = edge_is_tci_or_tco x edge in
          let there = edge.3 in
          let is = some.1 edge.1 in
          let own : edge.0 ≡ at - 1 → tco ≡ edge.1.tco = λ e. grind arith in
          let last = All-contains IsSubtitle ts (get_or ts (at - 1) edge.1) ok.each
          (Contains-get_or ts (at - 1) edge.1 (omega (arith, some.0, high))) in
          let ends = last.times in
          let earlier : edge.0 < at - 1 → edge.1.tco ≤ (get_or ts (at - 1) edge.1).tci =
          λ l.
          let order = ok.in_order edge.0 (at - 1) edge.1 l (omega (arith, some.0, high)) in
          grind arith in
          let later : at ≤ edge.0 → f < edge.1.tci =
          λ l. let following = after edge.0 edge.1 l edge.2 in grind arith in
          grind (arith, nat_tests, cases_lt)

-- If no cue is after the frame `f - j` and at or before the frame `f`, the expected page is the
-- same at both frames. Rules of the checker that look back at earlier frames need this lemma.
pub due_page_stays_without_edges : (n : Drawing) (ts : List SubtitleValue) (f j : ℕ)
    → j ≤ f
    → ((e : ℕ) → IsEdge ts e → f < e + j → e ≤ f → ⊥)
    → due n ts (f - j) ≡ due n ts f
due_page_stays_without_edges n ts f zero within none =
    let same_frame : f - 0 ≡ f = omega arith in rw same_frame refl
due_page_stays_without_edges n ts f (suc j) within none =
    let same_page : due n ts (f - j) ≡ due n ts (f - j - 1) =
    page_changes_only_at_edges n ts (f - j) (omega arith)
    (λ edge. none (f - j) edge (omega arith) (omega arith)) in
    let before =
    due_page_stays_without_edges n ts f j (omega arith) (λ e edge after until. none e edge
    (omega arith) until) in
    let same : f - suc j ≡ f - j - 1 = omega arith in
    rw same (sym same_page ∙ before)

-- The TCOs of a programme do not decrease, so a binary search finds the first TCO after a frame.
pub tcos_never_decrease : (n : Drawing) (ts : List SubtitleValue)
    → IsProgramme n ts
    → IsNonDecreasingBy (λ (t : SubtitleValue). t.tco) ts
tcos_never_decrease n ts ok i j d le inside = grind (arith, nat_tests, cases_lt)

-- If a subtitle of a programme has ended by a frame, all subtitles before it have ended too.
pub ended-until : (n : Drawing) (ts : List SubtitleValue) (f at : ℕ)
    → IsProgramme n ts
    → at < length ts
    → ((d : SubtitleValue) → (get_or ts (at - 1) d).tco ≤ f)
    → (k : ℕ) (d : SubtitleValue)
    → k < at
    → (get_or ts k d).tco ≤ f
ended-until n ts f at ok inside ended k d b =
    let up = tcos_never_decrease n ts ok k (at - 1) d (omega arith) (omega arith) in
    omega (arith, up, ended d)

pub left-from : (n : Drawing) (ts : List SubtitleValue) (f at : ℕ) (t : SubtitleValue)
    → IsProgramme n ts
    → at < length ts
    → t ≡ get_or ts at t
    → f < t.tco
    → (k : ℕ) (d : SubtitleValue)
    → at ≤ k
    → k < length ts
    → f < (get_or ts k d).tco
left-from n ts f at t ok inside is before_tco k d a b =
    let own : t ≡ get_or ts at d = get_or_read ts at t inside is d in
    let same = ap (λ (s : SubtitleValue). s.tco) own in
    let up = tcos_never_decrease n ts ok at k d a b in
    omega (arith, up, same, before_tco)
