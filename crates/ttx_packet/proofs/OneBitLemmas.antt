-- Two bytes that pass the test `is_near` differ in at most one bit.
use Rattle.std.proofs.Common.{◌≡◌, ℕ, zero, suc, ◌<◌, Bool, true, false, Some, None, refl, arith}
use Rattle.std.proofs.lemmas.Bool.Decides.{nat_tests}
use Rattle.ttx_packet.specs.OneBit.{IsNear, first_below, is_near}

pub first_below_satisfies_test : (n : ℕ) (test : ℕ → Bool) (x : ℕ) → first_below n test ≡ Some x
    → (x < n) × (test x ≡ true)
first_below_satisfies_test zero test x e = grind arith
first_below_satisfies_test (suc n) test x e = let below = first_below_satisfies_test n test x
    in grind (arith, nat_tests)

pub first_below-none : (n : ℕ) (test : ℕ → Bool) → ((k : ℕ) → k < n → test k ≡ false)
    → first_below n test ≡ None
first_below-none zero test none = refl
first_below-none (suc n) test none =
    rw (first_below-none n test (λ k l. none k (omega arith)), none n (omega arith)) refl

pub first_below-at : (n : ℕ) (test : ℕ → Bool) (x : ℕ)
    → x < n
    → test x ≡ true
    → ((k : ℕ) → k < x → test k ≡ false)
    → first_below n test ≡ Some x
first_below-at zero test x l e before = absurd (omega arith)
first_below-at (suc n) test x l e before =
    grind (arith, nat_tests, first_below-none x test before, first_below-at n test x)

pub is_near_implies_near : (c g : ℕ) → is_near c g ≡ true → IsNear c g
unfolding is_near
is_near_implies_near c g e = grind (arith, nat_tests)
