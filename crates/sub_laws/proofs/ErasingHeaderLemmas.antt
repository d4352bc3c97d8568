-- If each header must have C4 (erase page) set and `within` is 0, the sufficient conditions for
-- repeats imply those of the main theorem.
use Rattle.std.proofs.lemmas.Bool.Decides.{nat_tests}
use Rattle.std.proofs.Common.{◌≡◌, ℕ, Bool, false, Option, IsTrue, subst, arith, refl}
use Rattle.stl_rows.specs.Programme.{ProgrammeValue}
use Rattle.sub_plan.specs.Options.{OptionsValue}
use Rattle.sub_plan.specs.Schedule.{due_page_in}
use Rattle.sub_rules.specs.FrameRules.{UnreadReason}
use Rattle.sub_rules.specs.Transmission.{Transmission, on_air_until}
use Rattle.sub_rules.specs.declared.end_rule.EndRule.TheVariants.{Incomplete}
use Rattle.sub_laws.specs.CleanStretch.{HasNoReceiverFault, LawOfUnreportedStretch, HasNoOpenEnd}
use Rattle.sub_laws.specs.CleanStretch.{criteria_if_unreliable}
use Rattle.sub_laws.specs.OnScreen.{CompleteWithin}
use Rattle.sub_laws.specs.Sufficient.{IsSufficient}
use Rattle.sub_laws.specs.ReportedRepeats.{IsSufficientWithRepeats}
use Rattle.sub_laws.proofs.DelayLemmas.{law_of_right_cells}
use Rattle.sub_laws.proofs.SoundStretchLemmas.{sound_of_repeated}
use Rattle.sub_laws.proofs.FollowedStretchLemmas.{frame_has_an_end}
use Rattle.sub_laws.proofs.ActiveFaultsLemmas.{active_faults_are_exact}
use Rattle.sub_laws.proofs.SufficientDelayLemmas.{unreported_repeats_are_sufficient}

pub sufficient_of :
    (programme : ProgrammeValue) (transmission : Transmission) (options : OptionsValue) (a b : ℕ)
    → options.keeps ≡ false
    → options.within ≡ 0
    → IsSufficientWithRepeats options.keeps programme transmission options a b
    → IsSufficient programme transmission options a b
sufficient_of programme transmission options a b none at_once enough =
    let of =
    subst (λ k. IsSufficientWithRepeats k programme transmission options a b) none enough in
    record {
      stretch = sound_of_repeated transmission options a b of.stretch;
      content = λ f row column low high named.
          (law_of_right_cells options.page (on_air_until transmission f) (due_page_in programme f)
          row
          column).0
          (of.whole at_once f low high row column named);
    }

-- If `within` is 0, complete pages are required, and no page is open at a frame end of a range
-- without faults that affect receivers, the pages of this range are complete.
pub complete_unreported :
    (programme : ProgrammeValue) (transmission : Transmission) (options : OptionsValue)
    → (unread : Option UnreadReason) (any_unreliable : Bool) (undecided : ℕ → Bool) (a b : ℕ)
    → options.within ≡ 0
    → HasNoReceiverFault (criteria_if_unreliable programme options unread any_unreliable undecided)
    transmission a b
    → IsTrue options.asks_complete
    → HasNoOpenEnd (criteria_if_unreliable programme options unread any_unreliable undecided)
    transmission a b
    → CompleteWithin transmission options a b
complete_unreported programme transmission options unread any_unreliable undecided a b at_once
    unreported asks
    closed f low high holds =
    let g = criteria_if_unreliable programme options unread any_unreliable undecided in
    let end = frame_has_an_end transmission a b unreported.stretch unreported.rising f low high in
    let shut =
    ((active_faults_are_exact g transmission end.0 f at_once end.1.1).rules Incomplete).0
    (rw (closed end.0 f end.1 low high) refl)
    asks in
    grind (arith, nat_tests)

pub law_of_unreported_stretch : LawOfUnreportedStretch
law_of_unreported_stretch programme transmission options unread any_unreliable undecided a b none
    at_once
    unreported
    = (
      sufficient_of programme transmission options a b none at_once
          (unreported_repeats_are_sufficient programme options unread any_unreliable undecided
          transmission a b
          unreported),
      complete_unreported programme transmission options unread any_unreliable undecided a b at_once
          unreported,
    )
