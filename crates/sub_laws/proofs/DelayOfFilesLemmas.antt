-- If the origin is less than 2^33, and a PES file carries a transmission with some `within`, the
-- file carries the same transmission with any greater `within`.
use Rattle.std.proofs.lemmas.Bool.Decides.{nat_tests}
use Rattle.std.proofs.Common.{◌≡◌, ℕ, zero, suc, ◌^◌, ◌<◌, ◌≤◌, ◌==◌, false, List, [], ◌∷◌, Some}
use Rattle.std.proofs.Common.{refl, sym, ap, ◌∙◌, subst, arith}
use Rattle.std.specs.List.{AllZip}
use Rattle.ttx_pes.specs.PesGrammar.{PesValue}
use Rattle.sub_plan.specs.FrameTime.{clock}
use Rattle.sub_plan.proofs.ClockLemmas.{law_of_clock, law_of_exact_clock}
use Rattle.sub_rules.specs.PesFrames.{CarriesOnClock, IsReadAs}
use Rattle.sub_rules.specs.PesPackets.{joined, joined_after, sent_after}
use Rattle.sub_rules.specs.Transmission.{IsRising, SentFrame, Transmission}
use Rattle.sub_rules.proofs.JoinedLemmas.{joined-none}
use Rattle.sub_laws.specs.DelayOfFiles.{LawOfLongerDelayOfFiles}
use Rattle.sub_laws.proofs.JoinedRisingLemmas.{joined-rising}
use Rattle.sub_laws.proofs.RepeatLemmas.{law_of_longer_delay_with_repeats}

-- If the origin is less than 2^33, and a PTS belongs to a frame with some `within`, the PTS belongs
-- to the same frame with any greater `within`.
clock_longer :
    (within more origin pts frame : ℕ)
    → origin < 2 ^ 33
    → within ≤ more
    → clock within origin pts ≡ Some frame
    → clock more origin pts ≡ Some frame
unfolding clock
clock_longer zero zero origin pts frame low longer is = is
clock_longer zero (suc more) origin pts frame low longer is =
    let exact = (law_of_exact_clock origin pts frame).0 is in
    subst (λ (p : ℕ). clock (suc more) origin p ≡ Some frame) exact.1
    (law_of_clock (suc more) origin frame low exact.0)
clock_longer (suc within) zero origin pts frame low longer is = absurd (omega arith)
clock_longer (suc within) (suc more) origin pts frame low longer is = is

read_longer :
    (within more origin : ℕ)
    → origin < 2 ^ 33
    → within ≤ more
    → (values : List PesValue) (frames : Transmission)
    → AllZip (IsReadAs (clock within origin)) values frames
    → AllZip (IsReadAs (clock more origin)) values frames
read_longer within more origin low longer [] [] each = tt
read_longer within more origin low longer [] (s ∷ frames) each = elim each [ ]
read_longer within more origin low longer (v ∷ values) [] each = elim each [ ]
read_longer within more origin low longer (v ∷ values) (s ∷ frames) each = (
  record {
    frame = clock_longer within more origin v.pts s.frame low longer each.0.frame;
    packets = each.0.packets;
  },
  read_longer within more origin low longer values frames each.1,
)

-- A `within` of n + 1 frames is not 0.
positive_delay_is_not_zero : (n : ℕ) → (suc n == 0) ≡ false
positive_delay_is_not_zero n = grind (arith, nat_tests)

positive_delays_send_the_same : (within more : ℕ) (sent : Transmission) (s : SentFrame)
    → sent_after (suc within) sent s ≡ sent_after (suc more) sent s
positive_delays_send_the_same within more [] s = refl
positive_delays_send_the_same within more (first ∷ sent) s = rw (
  positive_delay_is_not_zero within,
  positive_delay_is_not_zero more,
) refl

positive_delays_join_the_same : (within more : ℕ) (sent frames : Transmission)
    → joined_after (suc within) sent frames ≡ joined_after (suc more) sent frames
unfolding joined_after
positive_delays_join_the_same within more sent [] = refl
positive_delays_join_the_same within more sent (s ∷ frames) =
    positive_delays_join_the_same within more (sent_after (suc within) sent s) frames
    ∙ ap (λ (x : Transmission). joined_after (suc more) x frames) (positive_delays_send_the_same
    within more sent s)

-- If PES packets give frames with increasing numbers with some `within`, they give the same frames
-- with any greater `within`.
joined_longer :
    (within more : ℕ) (sendings frames : Transmission)
    → within ≤ more
    → IsRising frames
    → frames ≡ joined within sendings
    → frames ≡ joined more sendings
joined_longer zero zero sendings frames longer rising are = are
joined_longer zero (suc more) sendings frames longer rising are =
    let each = are ∙ joined-none sendings in
    each ∙ sym (joined-rising (suc more) sendings (subst IsRising each rising))
joined_longer (suc within) zero sendings frames longer rising are = absurd (omega arith)
joined_longer (suc within) (suc more) sendings frames longer rising are =
    are ∙ positive_delays_join_the_same within more [] sendings

pub carries_longer :
    (within more origin : ℕ) (bytes : List ℕ) (frames : Transmission)
    → origin < 2 ^ 33
    → within ≤ more
    → CarriesOnClock (clock within origin) within bytes frames
    → CarriesOnClock (clock more origin) more bytes frames
carries_longer within more origin bytes frames low longer is = record {
  values = is.values;
  packets = is.packets;
  sendings = is.sendings;
  each = is.each;
  few = is.few;
  is_whole = is.is_whole;
  read = read_longer within more origin low longer is.values is.sendings is.read;
  are = joined_longer within more is.sendings frames longer is.rising is.are;
  rising = is.rising;
}

pub law_of_longer_delay_of_files : LawOfLongerDelayOfFiles
law_of_longer_delay_of_files
    keeps programme options more bytes transmission low longer carries good = (
      carries_longer options.within more options.origin bytes transmission low longer carries,
      law_of_longer_delay_with_repeats keeps programme transmission options more longer good,
    )
