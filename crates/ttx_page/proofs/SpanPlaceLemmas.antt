-- The last page transmission (span) has exactly the items between its bounds.
use Rattle.std.proofs.Common.{◌≡◌, ℕ, suc, ◌+◌, ◌-◌, ◌<◌, ◌≤◌, inl, inr, Bool, true, false, not}
use Rattle.std.proofs.Common.{List, [], ◌∷◌, length, drop, take, get_or, slice_range, HoldsAt}
use Rattle.std.proofs.Common.{IsTrue, All, refl, arith}
use Rattle.std.specs.List.{list_any, position_or_len}
use Rattle.std.proofs.lemmas.Bool.{cases_Bool, cases_eq}
use Rattle.std.proofs.lemmas.Bool.Decides.{nat_tests}
use Rattle.std.proofs.lemmas.List.{get_or-drop, length-drop}
use Rattle.std.proofs.lemmas.List.Folds.{list_any_at}
use Rattle.std.proofs.lemmas.List.Sums.{fails_before_first, passes_at_first, prefix_len-le-length}
use Rattle.std.proofs.lemmas.List.Sums.{take_while-cons}
use Rattle.ttx_page.specs.declared.packet_kind.PacketKind.{PacketKind}
use Rattle.ttx_page.specs.PacketKind.{is_this_page, ends_page}
use Rattle.ttx_page.specs.Span.{has_page_header, after_last_header, before_page_end, span, IsSpan}
use Rattle.ttx_page.specs.Span.{LawOfSpan}
use Rattle.ttx_page.proofs.SpanListLemmas.{after-none}

failed_test_finds_nothing : {A : Type 0} (test : A → Bool) (xs : List A)
    → list_any test xs ≡ false
    → All (λ x. test x ≡ false) xs
failed_test_finds_nothing test xs none k d below = grind (arith, nat_tests, list_any_at)

module _ {A : Type 0} (kind_of : A → PacketKind) where
  before-is : (xs : List A)
      → before_page_end kind_of xs ≡ take (position_or_len (λ x. ends_page (kind_of x)) xs) xs
  before-is [] = refl
  before-is (x ∷ xs) =
      let rest = before-is xs in
      let more = take_while-cons (λ y. not (ends_page (kind_of y))) x xs in
      grind (arith, nat_tests)

  abbrev IsLastHeader : List A → ℕ → Type 0
  IsLastHeader xs h =
      (h < length xs)
      × HoldsAt (λ x. IsTrue (is_this_page (kind_of x))) xs h
      × (has_page_header kind_of (drop (suc h) xs) ≡ false)
      × (after_last_header kind_of xs ≡ drop (suc h) xs)

  last_header : (xs : List A) → has_page_header kind_of xs ≡ true → (h : ℕ) × IsLastHeader xs h
  last_header [] e = grind arith
  last_header (x ∷ xs) e = elim (cases_Bool (has_page_header kind_of xs)) [
    | inl later ↦
        let last = last_header xs later in
        (suc last.0, (omega (arith, last.1.0), (λ d. last.1.1 d), last.1.2, rw later last.1.3))
    | inr none ↦ grind (arith, nat_tests)
  ]

  span-after : (xs : List A) (h : ℕ)
      → IsLastHeader xs h
      → (from to : ℕ) × IsSpan kind_of xs from to × (span kind_of xs ≡ slice_range xs from to)
  span-after xs h (below, here, none, after) = (
    suc h,
    suc h + n,
    record {
      order = (omega arith, omega arith, omega (arith, long, within));
      header = λ d. let e : suc h - 1 ≡ h = omega arith in rw e (here d);
      no_later_header = grind (arith, nat_tests, at, failed_test_finds_nothing, rest, long);
      no_earlier_end = grind (arith, nat_tests, at, fails_before_first, ends, rest);
      end = elim (cases_eq (suc h + n) (length xs)) [
        | inl e ↦ inl e
        | inr other ↦
            let inside : n < length rest = omega (arith, within, long, other) in
            inr (λ d. rw (← get_or-drop (suc h) xs n d) (passes_at_first ends rest d inside))
      ];
    },
    (let size : suc h + n - suc h ≡ n = omega arith in rw (after, size) (before-is rest)),
  )
    where
      ends : A → Bool
      ends x = ends_page (kind_of x)

      rest : List A
      rest = drop (suc h) xs

      n : ℕ
      n = position_or_len ends rest

      long : length rest ≡ length xs - suc h
      long = length-drop (suc h) xs

      within : n ≤ length rest
      within = prefix_len-le-length (λ x. not (ends x)) rest

      at : (k : ℕ) (d : A) → suc h ≤ k → get_or xs k d ≡ get_or rest (k - suc h) d
      at k d l = grind (arith, nat_tests, get_or-drop)

pub law_of_span : (A : Type 0) → LawOfSpan A
law_of_span A kind_of items =
    grind (
      arith,
      nat_tests,
      cases_Bool,
      last_header,
      span-after,
      failed_test_finds_nothing,
      after-none,
    )
