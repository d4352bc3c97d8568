-- Each test of truth values, numbers, lists, packets or frames is true if and only if the tested
-- property holds.
use Rattle.std.proofs.Common.{◌≡◌, ℕ, zero, suc, ◌<◌, ◌≤◌, Bool, true, false, not, ◌&&◌}
use Rattle.std.proofs.Common.{◌||◌, nat_le, List, Some, None, All, refl}
use Rattle.std.proofs.Common.{arith}
use Rattle.std.specs.Bool.{Decides}
use Rattle.std.specs.List.{list_all}
use Rattle.std.proofs.lemmas.Bool.{leb-true, le-leb}
use Rattle.std.proofs.lemmas.Bool.Decides.{Decides-by_and, Decides-below_and}
use Rattle.std.proofs.lemmas.Bool.Decides.{nat_tests}
use Rattle.ttx_packet.proofs.OneBitLemmas.{first_below_satisfies_test}
use Rattle.ttx_packet.specs.OneBit.{first_below}
use Rattle.stl_rows.specs.declared.national.NationalBits.{NationalBits}
use Rattle.sub_rules.specs.PacketTests.{is_same_bit, is_same_option}
use Rattle.sub_rules.specs.Transmission.{SentFrame, Transmission, EachPacket}

pub implied :
    {P Q : Type 0} (a b : Bool) → Decides a P → Decides b Q → Decides (not a || b) (P → Q)
implied a b p q = grind arith

pub bit_test_is_exact : (a b : Bool) → Decides (is_same_bit a b) (a ≡ b)
bit_test_is_exact a b = grind arith

pub national_option_test_is_exact : (a b : NationalBits) → Decides (is_same_option a b) (a ≡ b)
national_option_test_is_exact a b = grind arith

pub holds : (a : Bool) → Decides a (a ≡ true)
holds a = (λ e. e, λ e. e)

pub fails : (a : Bool) → Decides (not a) (a ≡ false)
fails a = grind arith

pub at_most : (a b : ℕ) → Decides (nat_le a b) (a ≤ b)
at_most a b = (leb-true a b, le-leb a b)

abbrev pub passes_all_below : (ℕ → Bool) → ℕ → Bool
passes_all_below test zero = true
passes_all_below test (suc n) = test n && passes_all_below test n

pub below :
    (test : ℕ → Bool) (P : ℕ → Type 0)
    → ((k : ℕ) → Decides (test k) (P k))
    → (n : ℕ)
    → Decides (passes_all_below test n) ((k : ℕ) → k < n → P k)
below test P each n = Decides-below_and test P (passes_all_below test) each refl (λ _. refl) n

pub passing_all_below_passes_each : (test : ℕ → Bool) (n : ℕ) → passes_all_below test n ≡ true →
    (k : ℕ) → k < n
    → test k ≡ true
passing_all_below_passes_each test n = (below test (λ k. test k ≡ true) (λ k. holds (test k)) n).0

pub no_first_below_fails_each : (n : ℕ) (test : ℕ → Bool) → first_below n test ≡ None
    → (k : ℕ) → k < n → test k ≡ false
no_first_below_fails_each zero test e k l = absurd (omega arith)
no_first_below_fails_each (suc n) test e k l = let before = no_first_below_fails_each n test
    in grind
    (arith, nat_tests)

pub first_below_is_least : (n : ℕ) (test : ℕ → Bool) (x : ℕ) → first_below n test ≡ Some x
    → (k : ℕ) → k < x → test k ≡ false
first_below_is_least zero test x e k l = grind arith
first_below_is_least (suc n) test x e k l =
    grind (
      arith,
      nat_tests,
      first_below_is_least n test x,
      no_first_below_fails_each n test,
      first_below_satisfies_test n
          test x,
    )

pub each_of :
    {A : Type 0} (test : A → Bool) (P : A → Type 0)
    → ((x : A) → Decides (test x) (P x))
    → (xs : List A)
    → Decides (list_all test xs) (All P xs)
each_of test P each xs = Decides-by_and test P (list_all test) each refl (λ _ _. refl) xs

abbrev pub each_packet_passes : (List ℕ → Bool) → Transmission → Bool
each_packet_passes test frames = list_all (λ (s : SentFrame). list_all test s.packets) frames

pub packets_decided :
    (test : List ℕ → Bool) (P : List ℕ → Type 0)
    → ((p : List ℕ) → Decides (test p) (P p))
    → (frames : Transmission)
    → Decides (each_packet_passes test frames) (EachPacket P frames)
packets_decided test P each frames =
    each_of (λ (s : SentFrame). list_all test s.packets) (λ (s : SentFrame). All P s.packets)
    (λ s. each_of test P each s.packets) frames
