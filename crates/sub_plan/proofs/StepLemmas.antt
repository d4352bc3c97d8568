-- The page transmissions of a schedule are those from each base to the next and that of the last
-- frame, joined.
use Rattle.std.proofs.Common.{◌≡◌, ℕ, zero, suc, ◌+◌, ◌-◌, ◌%◌, ◌<◌, ◌≤◌, ◌==◌, Bool, false, []}
use Rattle.std.proofs.Common.{List, ◌∷◌, ◌++◌, refl, ap, ◌∙◌, arith, filter, eq-eqb, ne_eqb}
use Rattle.std.proofs.lemmas.Bool.Decides.{nat_tests}
use Rattle.std.proofs.Math.Nat.{add-mod_right, mod-eq_of_lt}
use Rattle.std.proofs.lemmas.List.Elements.{filter-append}
use Rattle.std.specs.List.{range_with_len}
use Rattle.ttx_page.specs.Page.{Rows}
use Rattle.sub_plan.specs.Laws.{IsBase, IsLastBase}
use Rattle.sub_plan.specs.Schedule.{is_sending, sendings_from}
use Rattle.sub_plan.specs.Steps.{steps}
use Rattle.sub_plan.proofs.ScheduleBases.{base-last, range_splits_in_two}

equal_tests_filter_equally : (p q : ℕ → Bool) (a n : ℕ) → ((j : ℕ) → a ≤ j → j < a + n → p j ≡ q j)
    → filter p (range_with_len a n) ≡ filter q (range_with_len a n)
equal_tests_filter_equally p q a zero h = refl
equal_tests_filter_equally p q a (suc n) h =
    let tail : filter p (range_with_len (a + 1) n) ≡ filter q (range_with_len (a + 1) n) =
    equal_tests_filter_equally p q (a + 1) n (λ j b c. h j (omega arith) (omega arith)) in
    grind (arith, nat_tests)

filter_skips_failing_prefix : (p : ℕ → Bool) (k a n : ℕ) → ((j : ℕ) → a ≤ j → j < a + k → p j ≡
    false)
    → filter p (range_with_len a n) ≡ filter p (range_with_len (a + k) (n - k))
filter_skips_failing_prefix p zero a n h = grind (arith, nat_tests)
filter_skips_failing_prefix p (suc k) a zero h = let f : 0 - suc k ≡ 0 = omega arith in rw f refl
filter_skips_failing_prefix p (suc k) a (suc n) h =
    let e : p a ≡ false = h a (omega arith) (omega arith) in
    let f : a + 1 + k ≡ a + suc k = omega arith in
    let g : suc n - suc k ≡ n - k = omega arith in
    rw (e, g)
    (rw f at (filter_skips_failing_prefix p k (a + 1) n (λ j b c. h j (omega arith) (omega arith))))

pub steps-none : (every from end : ℕ) → end ≤ from → steps every from end ≡ []
unfolding steps
steps-none every from end h = let e : end - from ≡ 0 = omega arith in rw e refl

pub steps-more : (every from end : ℕ) → 1 ≤ every → from < end
    → steps every from end ≡ from ∷ steps every (from + every) end
unfolding steps
steps-more every from end some inside =
    let test : ℕ → ℕ → Bool = λ b f. (f - b) % every == 0 in
    let n : ℕ = end - from - 1 in
    let e : end - from ≡ suc n = omega arith in
    let g : n - (every - 1) ≡ end - (from + every) = omega arith in
    let skip =
    filter_skips_failing_prefix (test from) (every - 1) (from + 1) n
    (λ j a c.
    let small : (j - from) % every ≡ j - from = mod-eq_of_lt (omega arith) in
    rw small (ne_eqb (j - from) 0 (λ e. absurd (omega arith)))) in
    let same =
    equal_tests_filter_equally (test from) (test (from + every)) (from + every)
    (end - (from + every))
    (λ j a c.
    let further : j - from ≡ j - (from + every) + every = omega arith in
    rw (further, add-mod_right (j - (from + every)) every) refl) in
    grind (arith, nat_tests)

-- The frames from the base b to before `end`, which is at most the last frame, have the same
-- expected page.
pub record IsIntervalOfOnePage (due : ℕ → Rows) (first b end last : ℕ) : Type 0 where
  pub low : first ≤ b
  pub some : b < end
  pub high : end ≤ last
  pub starts : IsBase due first b
  pub same : (f : ℕ) → b ≤ f → f < end → due f ≡ due b

base_is_last_base-in : (due : ℕ → Rows) (first b end last f : ℕ) → IsIntervalOfOnePage due first b
    end last → b ≤ f
    → f < end → IsLastBase due first f b
base_is_last_base-in due first b end last f s low high = grind (arith, nat_tests)

-- From a base (the first frame, or a frame where the expected page changes) until the page changes
-- again or the last frame is reached, a frame has a page transmission exactly if its distance from
-- the base is a multiple of `every`.
is_sending-in : (due : ℕ → Rows) (every first b end last f : ℕ) → IsIntervalOfOnePage due first b
    end last
    → b ≤ f → f < end → is_sending due every first last f ≡ ((f - b) % every == 0)
unfolding is_sending
is_sending-in due every first b end last f s low high =
    let e : (f == last) ≡ false = ne_eqb f last (λ same. absurd (omega (arith, s.high, same))) in
    rw (e, base-last due first f b (base_is_last_base-in due first b end last f s low high)) refl

-- The page transmissions from the base b on are those before the frame `end`, up to which the
-- expected page stays the same, followed by those from `end` on.
pub sendings-step : (due : ℕ → Rows) (every first b end last : ℕ) → IsIntervalOfOnePage due first b
    end last
    → sendings_from due every first last b ≡ steps every b end
    ++ sendings_from due every first last end
unfolding sendings_from steps
sendings-step due every first b end last s =
    let p : ℕ → Bool = is_sending due every first last in
    let n : last + 1 - b ≡ end - b + (last + 1 - end) = omega (arith, s.some, s.high) in
    let e : b + (end - b) ≡ end = omega (arith, s.some) in
    rw (n, range_splits_in_two b (end - b) (last + 1 - end), e)
    (filter-append p (range_with_len b (end - b)) (range_with_len end (last + 1 - end))
    ∙ ap (λ (xs : List ℕ). xs ++ filter p (range_with_len end (last + 1 - end)))
    (equal_tests_filter_equally p (λ f. (f - b) % every == 0) b (end - b)
    (λ j low high. is_sending-in due every first b end last j s low (omega (arith, s.some)))))

pub sendings-last : (due : ℕ → Rows) (every first last : ℕ)
    → sendings_from due every first last last ≡ last ∷ []
unfolding sendings_from is_sending
sendings-last due every first last = grind (arith, nat_tests, eq-eqb)
