-- The distance of a frame from the last base at or before it decides whether the frame has a page
-- transmission; the last frame of a schedule always has one.
use Rattle.std.proofs.Common.{◌≡◌, ℕ, zero, suc, ◌+◌, ◌-◌, ◌%◌, ◌<◌, ◌≤◌, ◌==◌, Bool, true, false}
use Rattle.std.proofs.Common.{◌++◌, refl, sym, ap, ◌∙◌, arith, inl, inr, All, Decides}
use Rattle.std.proofs.Math.Bool.{or-true}
use Rattle.std.proofs.Math.Nat.{add-mod_right, mod-eq_of_lt}
use Rattle.std.proofs.lemmas.Bool.{cases_lt, false≢true, false_from_ne_true, or_left}
use Rattle.std.proofs.lemmas.Bool.Decides.{nat_tests, Decides-eqb, Decides-not, Decides-or}
use Rattle.std.proofs.lemmas.List.Elements.{All-cons, All-nil}
use Rattle.std.proofs.lemmas.Slice.Eq.{slice_eq-Decides}
use Rattle.std.specs.List.{range_with_len}
use Rattle.ttx_page.specs.Page.{Rows}
use Rattle.sub_plan.specs.Laws.{IsBase, IsLastBase, IsLastSending, LawOfEqualPages}
use Rattle.sub_plan.specs.Laws.{LawOfLastSending}
use Rattle.sub_plan.specs.Schedule.{base, is_base, is_same_page, is_sending}

pub range_splits_in_two : (a m n : ℕ) → range_with_len a (m + n) ≡ range_with_len a m
    ++ range_with_len (a + m) n
range_splits_in_two a zero n = grind (arith, nat_tests)
range_splits_in_two a (suc m) n =
    let e : suc m + n ≡ suc (m + n) = omega arith in
    grind (arith, nat_tests, range_splits_in_two (a + 1) m n)

pub property_holds_on_range : (P : ℕ → Type 0) (a n : ℕ) → ((j : ℕ) → a ≤ j → j < a + n → P j)
    → All P (range_with_len a n)
property_holds_on_range P a zero h = All-nil P
property_holds_on_range P a (suc n) h =
    All-cons P a (range_with_len (a + 1) n) (h a (omega arith) (omega arith))
    (property_holds_on_range P (a + 1) n (λ j b c. h j (omega arith) (omega arith)))

pub value_stays_without_changes : {X : Type 0} (value : ℕ → X) (s f : ℕ) → s ≤ f
    → ((k : ℕ) → s < k → k ≤ f → value k ≡ value (k - 1)) → value f ≡ value s
value_stays_without_changes value s zero low step = let e : zero ≡ s = omega arith in ap value e
value_stays_without_changes value s (suc f) low step =
    elim (cases_lt f s) [
      | inl here ↦ let e : suc f ≡ s = omega arith in ap value e
      | inr before ↦
          let back : suc f - 1 ≡ f = omega arith in
          step (suc f) (omega arith) (omega arith) ∙ ap value back
          ∙ value_stays_without_changes value s f before (λ k a c. step k a (omega arith))
    ]

record IsLastPassing (test : ℕ → Bool) (first f g : ℕ) : Type 0 where
  low : first ≤ g
  high : g ≤ f
  passes : test g ≡ true
  no_later_match : (k : ℕ) → g < k → k ≤ f → test k ≡ false

last_passing_exists : (test : ℕ → Bool) (first f : ℕ) → test first ≡ true → first ≤ f
    → (g : ℕ) × IsLastPassing test first f g
last_passing_exists test first f start low = go f (test f) refl low
  where
    go : (f : ℕ) (b : Bool) → test f ≡ b → first ≤ f → (g : ℕ) × IsLastPassing test first f g
    go f true h low = grind (arith, nat_tests)
    go zero false h low = let e : first ≡ zero = omega arith in cc
    go (suc f) false h low =
        elim (cases_lt f first) [
          | inl here ↦ let e : first ≡ suc f = omega arith in cc
          | inr before ↦
              let found = go f (test f) refl before in (
                found.0,
                record {
                  low = found.1.low;
                  high = omega (arith, found.1.high);
                  passes = found.1.passes;
                  no_later_match = grind (arith, nat_tests, cases_lt);
                },
              )
        ]

same_page-Decides : (a b : Rows) → Decides (is_same_page a b) (a ≡ b)
same_page-Decides a b = grind (arith, nat_tests, slice_eq-Decides, Decides-eqb)

is_base-Decides : (due : ℕ → Rows) (first f : ℕ) → Decides (is_base due first f)
    (IsBase due first f)
unfolding is_base
is_base-Decides due first f =
    grind (arith, nat_tests, Decides-or, Decides-eqb, Decides-not, same_page-Decides)

other_frame_is_no_base : (due : ℕ → Rows) (first f : ℕ) → (IsBase due first f → ⊥) → is_base due
    first f ≡ false
other_frame_is_no_base due first f none = grind (
  arith,
  nat_tests,
  false_from_ne_true,
  is_base-Decides,
)

due_page_stays_without_base : (due : ℕ → Rows) (first f : ℕ) → (IsBase due first f → ⊥)
    → due f ≡ due (f - 1)
due_page_stays_without_base due first f none =
    let same = same_page-Decides (due f) (due (f - 1)) in grind (arith, nat_tests)

base-at : (due : ℕ → Rows) (first b : ℕ) → IsBase due first b → base due first b ≡ b
unfolding base
base-at due first b h = grind (arith, nat_tests, is_base-Decides)

base-before : (due : ℕ → Rows) (first f : ℕ) → (IsBase due first f → ⊥)
    → base due first f ≡ base due first (f - 1)
unfolding base
base-before due first f none = grind (arith, nat_tests, other_frame_is_no_base)

base_stays_without_new_base : (due : ℕ → Rows) (first s f : ℕ) → s ≤ f
    → ((k : ℕ) → s < k → k ≤ f → IsBase due first k → ⊥) → base due first f ≡ base due first s
base_stays_without_new_base due first s f low none =
    value_stays_without_changes (base due first) s f low (λ k a c. base-before due first k
    (none k a c))

pub base-last : (due : ℕ → Rows) (first f b : ℕ) → IsLastBase due first f b → base due first f ≡ b
base-last due first f b last =
    base_stays_without_new_base due first b f last.high last.no_later_match ∙ base-at due first b
    last.is_base

pub base_is_last_base : (due : ℕ → Rows) (first f : ℕ) → first ≤ f
    → IsLastBase due first f (base due first f)
base_is_last_base due first f low =
    let found =
    last_passing_exists (is_base due first) first f ((is_base-Decides due first first).1 (inl refl))
    low in
    let last : IsLastBase due first f found.0 = record {
      low = found.1.low;
      high = found.1.high;
      is_base = (is_base-Decides due first found.0).0 found.1.passes;
      no_later_match = λ k a c b. false≢true
          (sym (found.1.no_later_match k a c) ∙ (is_base-Decides due first k).1 b);
    } in
    rw (base-last due first f found.0 last) last

pub aligned-start : (b every : ℕ) → 1 ≤ every → (b - b) % every ≡ 0
aligned-start b every some = let e : b - b ≡ 0 = omega arith in rw e (mod-eq_of_lt (omega arith))

-- If the distance of a frame from its last base is a multiple of `every`, the frame has a page
-- transmission.
sends : (due : ℕ → Rows) (every first last f b : ℕ) → base due first f ≡ b
    → (f - b) % every ≡ 0 → is_sending due every first last f ≡ true
unfolding is_sending
sends due every first last f b e whole = rw (e, whole) (or-true (f == last))

sends-base : (due : ℕ → Rows) (every first last f : ℕ) → 1 ≤ every → IsBase due first f
    → is_sending due every first last f ≡ true
sends-base due every first last f some is = grind (arith, nat_tests, sends, base-at, aligned-start)

pub sends-first : (due : ℕ → Rows) (every first last : ℕ) → 1 ≤ every
    → is_sending due every first last first ≡ true
sends-first due every first last some = sends-base due every first last first some (inl refl)

pub sends-last : (due : ℕ → Rows) (every first last : ℕ)
    → is_sending due every first last last ≡ true
unfolding is_sending
sends-last due every first last = or_left _ _ ((Decides-eqb last last).1 refl)

sends-again : (due : ℕ → Rows) (every first last s : ℕ) → first ≤ s → s < last
    → is_sending due every first last s ≡ true
    → ((k : ℕ) → s < k → k ≤ s + every → IsBase due first k → ⊥)
    → is_sending due every first last (s + every) ≡ true
unfolding is_sending
sends-again due every first last s low high sent none =
    let b : ℕ = base due first s in
    let e : s + every - b ≡ s - b + every = omega (arith, (base_is_last_base due first s low).high)
    in
    grind (arith, nat_tests, base_is_last_base, sends, base_stays_without_new_base, add-mod_right)

-- If `every` is positive, the last page transmission at or before a frame shows the page expected
-- at that frame.
pub last_sending_exists : (due : ℕ → Rows) (every first last f : ℕ) → 1 ≤ every → first ≤ f →
    (g : ℕ)
    × IsLastSending due every first last f g
last_sending_exists due every first last f some low =
    let found =
    last_passing_exists (is_sending due every first last) first f (sends-first due every first last
    some)
    low in
    let sent = found.1 in (
      found.0,
      record {
        low = sent.low;
        high = sent.high;
        sends = sent.passes;
        no_later_match = sent.no_later_match;
        same = sym (value_stays_without_changes due found.0 f sent.high
            (λ k a c. due_page_stays_without_base due first k (λ b.
            false≢true (sym (sent.no_later_match k a c) ∙ sends-base due every first last k some
            b))));
      },
    )

-- If `every` is positive, any `every` consecutive frames of a schedule contain a page transmission:
-- if the last transmission were before these frames, another would follow it among them.
pub every_gap_has_a_sending : (due : ℕ → Rows) (every first last g : ℕ)
    → 1 ≤ every
    → first ≤ g
    → g + every ≤ last + 1
    → (f : ℕ) × (g ≤ f) × (f < g + every) × (is_sending due every first last f ≡ true)
every_gap_has_a_sending due every first last g some low room =
    let found = last_sending_exists due every first last (g + every - 1) some (omega arith) in
    let s : ℕ = found.0 in
    let sent = found.1 in
    elim (cases_lt s g) [
      | inr late ↦ (s, late, omega (arith, sent.high), sent.sends)
      | inl early ↦
          absurd (false≢true (sym (sent.no_later_match (s + every) (omega arith) (omega arith))
          ∙ sends-again due every first last s sent.low (omega arith) sent.sends
          (λ k a c b. false≢true (sym (sent.no_later_match k a (omega arith))
          ∙ sends-base due every first last k some b))))
    ]

pub law_of_last_sending : LawOfLastSending
law_of_last_sending = last_sending_exists

pub law_of_equal_pages : LawOfEqualPages
law_of_equal_pages due first f after same = grind (arith, nat_tests, base-before)
