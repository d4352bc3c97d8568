-- If a range of frames meets the sufficient conditions, the guarantees hold for it. If the
-- guarantees hold for the range of all frames, they hold for the transmission.
use Rattle.std.proofs.Common.{ℕ, ◌≤◌, inr, Bool, false, List, sym, subst, arith, le_refl}
use Rattle.std.proofs.Common.{le_trans}
use Rattle.std.specs.Prelude.{All, IsTrue}
use Rattle.std.specs.List.{AllZip}
use Rattle.ttx_packet.specs.OneBit.{AreNear}
use Rattle.ttx_packet.specs.PageId.{PageIdValue}
use Rattle.ttx_page.proofs.NoiseLaws.{all_arrive, all_arrive_is_true, law_of_nothing_lost}
use Rattle.ttx_page.proofs.NoiseLaws.{full_arrival_loses_no_header}
use Rattle.ttx_page.specs.LostRows.{IsHitOrLost, arrivals_from_flags}
use Rattle.ttx_page.specs.Receiver.{ReceiverClass, State}
use Rattle.ttx_page.specs.Receiver.ReceiverClass.{Storing}
use Rattle.ttx_page.specs.Shown.{IsHit}
use Rattle.stl_rows.specs.Programme.{ProgrammeValue}
use Rattle.sub_plan.specs.Options.{OptionsValue}
use Rattle.sub_plan.specs.Schedule.{due_page_in}
use Rattle.sub_rules.specs.Repeats.{IsCorrectPage, KeepsDueCodes}
use Rattle.sub_rules.specs.Transmission.{Transmission, first_frame, last_frame, on_air}
use Rattle.sub_rules.specs.Transmission.{on_air_until}
use Rattle.sub_laws.specs.Laws.{LawOfLosslessReception}
use Rattle.sub_laws.specs.LostRows.{IsReceivedWithLosses, IsRobustWithLosses, RobustToLostRows}
use Rattle.sub_laws.specs.Recovery.{RecoversWithin}
use Rattle.sub_laws.specs.Repeats.{RecoversIfForgetful, ShownIfForgetful}
use Rattle.sub_laws.specs.Robust.{IsListening, IsServed, Robust}
use Rattle.sub_laws.specs.Stretch.{LawOfFullRecovery, LawOfFullStretch}
use Rattle.sub_laws.specs.Sufficient.{LawOfStretch}
use Rattle.sub_laws.proofs.DelayLemmas.{law_of_repeated_stretch, law_of_right_cells}
use Rattle.sub_laws.proofs.DelayLemmas.{recovers_at_once, shown_at_once}
use Rattle.sub_laws.proofs.SoundStretchLemmas.{sound_stretch_is_repeated}

pub law_of_stretch : LawOfStretch
law_of_stretch programme transmission options a b enough = record {
  recovers = λ class.
      recovers_at_once programme transmission options a b whole class (both class).0;
  shown = λ complete class.
      shown_at_once programme transmission options a b whole class (both class).1 complete;
}
  where
    whole :
        (f : ℕ) → a ≤ f → f ≤ b → IsCorrectPage false programme options.page transmission f
    whole f low high row column named =
        (law_of_right_cells options.page (on_air_until transmission f) (due_page_in programme f) row
        column).1
        (enough.content f row column low high named)

    codes : KeepsDueCodes false programme transmission options a b
    codes f row column low high named =
        inr (
          f,
          le_trans enough.stretch.first low,
          le_refl f,
          omega arith,
          (whole f low high row column named).kept_eq,
        )

    both : (class : ReceiverClass)
        → RecoversIfForgetful false false class programme transmission options a b
        × ShownIfForgetful false false class programme transmission options a b
    both =
        (law_of_repeated_stretch false programme transmission options a b
        (sound_stretch_is_repeated transmission options a b enough.stretch) codes).0 false

served_with_weaker_excuse :
    {programme : ProgrammeValue} {options : OptionsValue} {g f : ℕ} {sent : List (List ℕ)}
    {P Q : ℕ → ℕ → Type 0} {old new : State}
    → ((row column : ℕ) → P row column → Q row column)
    → IsServed programme options g f sent P old new
    → IsServed programme options g f sent Q old new
served_with_weaker_excuse excuse served = grind arith

received_all :
    (w : PageIdValue) (transmission : Transmission) (a b g j f : ℕ) (got : List (List ℕ))
    → IsListening transmission a b g j f
    → AllZip AreNear (on_air transmission g j f) got
    → IsReceivedWithLosses transmission a b g j f (all_arrive (on_air transmission g j f)) got
    × ((row column : ℕ)
    → IsHitOrLost w (on_air transmission g j f)
    (arrivals_from_flags (all_arrive (on_air transmission g j f)) got) row column
    → IsHit w (on_air transmission g j f) got row column)
received_all w transmission a b g j f got listening near =
    let sent : List (List ℕ) = on_air transmission g j f in
    let nothing =
    law_of_nothing_lost w sent (all_arrive sent) (all_arrive_is_true sent)
    (full_arrival_loses_no_header sent) in (
      record {
        listening = listening;
        headers = full_arrival_loses_no_header sent;
        near = subst (λ ps. AllZip AreNear ps got) (sym nothing.kept) near;
      },
      λ row column hit. (nothing.hits got near row column).0 hit,
    )

pub law_of_lossless_reception : LawOfLosslessReception
law_of_lossless_reception programme transmission options = (robust, kept)
  where
    robust :
        ((arrived : List Bool)
        → All IsTrue arrived
        → IsRobustWithLosses programme transmission options arrived)
        → Robust programme transmission options
    robust with_all g j f got old new listening near unheard shut hears =
        let sent : List (List ℕ) = on_air transmission g j f in
        let whole = received_all options.page transmission _ _ g j f got listening near in
        served_with_weaker_excuse whole.1
        (with_all (all_arrive sent) (all_arrive_is_true sent) g j f got old new whole.0 unheard shut
        hears)

    kept :
        Robust programme transmission options
        → (arrived : List Bool)
        → All IsTrue arrived
        → IsRobustWithLosses programme transmission options arrived
    kept robust arrived all g j f got old new is unheard shut hears =
        let sent : List (List ℕ) = on_air transmission g j f in
        let nothing = law_of_nothing_lost options.page sent arrived all is.headers in
        let near_sent : AllZip AreNear sent got =
        subst (λ ps. AllZip AreNear ps got) nothing.kept is.near in
        served_with_weaker_excuse (λ row column hit. (nothing.hits got near_sent row column).1 hit)
        (robust g j f got old new is.listening near_sent unheard shut hears)

module _ (programme : ProgrammeValue) (transmission : Transmission) (options : OptionsValue)
    (recovers :
    RecoversWithin Storing programme transmission options (first_frame transmission)
    (last_frame transmission)) where
  transmission_survives_lost_rows : RobustToLostRows programme transmission options
  transmission_survives_lost_rows arrived g j f got old new is unheard shut hears =
      recovers g j f arrived got old new is hears

  pub recovering_transmission_is_robust : Robust programme transmission options
  recovering_transmission_is_robust =
      (law_of_lossless_reception programme transmission options).0
      (λ arrived all. transmission_survives_lost_rows arrived)

pub law_of_full_recovery : LawOfFullRecovery
law_of_full_recovery programme transmission options recovers = (
  recovering_transmission_is_robust programme transmission options recovers,
  transmission_survives_lost_rows programme transmission options recovers,
)

pub law_of_full_stretch : LawOfFullStretch
law_of_full_stretch programme transmission options trusted = record {
  robust = recovering_transmission_is_robust programme transmission options
      (trusted.recovers Storing);
  transmission_survives_lost_rows = transmission_survives_lost_rows programme transmission options
      (trusted.recovers Storing);
  trusted = trusted;
}
