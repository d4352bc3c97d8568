-- The result of `check_files` agrees with the bytes of both files. They are accepted exactly if the
-- subtitle file gives a programme and the PES file has a good transmission of it.
use Rattle.std.proofs.lemmas.Bool.Decides.{nat_tests}
use Rattle.std.proofs.Common.{◌≡◌, ℕ, List, Result, Ok, Err, false, sym, ap, ◌∙◌, subst, arith}
use Rattle.std.specs.Prelude.{IsTrue}
use Rattle.sub_io.specs.Device.{failed}
use Rattle.stl_file.specs.Subtitle.{SubtitleValue}
use Rattle.stl_rows.specs.EveryFault.{faults}
use Rattle.stl_rows.specs.Loading.{LawOfLoading, IsErrorOfLoad, loaded_programme}
use Rattle.stl_rows.specs.Loading.{programme_unless_faulty}
use Rattle.stl_rows.specs.Programme.{ProgrammeValue}
use Rattle.stl_rows.specs.declared.fault.LoadFault.{LoadFault}
use Rattle.stl_rows.specs.declared.fault.LoadFaultKind.{LoadFaultKind}
use Rattle.stl_rows.specs.declared.layout.Drawing.{Drawing}
use Rattle.sub_plan.specs.FrameTime.{clock_of}
use Rattle.sub_plan.specs.Options.{OptionsValue}
use Rattle.sub_rules.specs.Fault.{is_failure, is_failure_kind, is_pes_read_failure}
use Rattle.sub_rules.specs.Fault.{is_subtitle_fault}
use Rattle.sub_rules.specs.Good.{Good}
use Rattle.sub_rules.specs.PesFrames.{Carries, CarriesOnClock}
use Rattle.sub_rules.specs.Repeats.{GoodWithRepeats}
use Rattle.sub_rules.specs.Transmission.{Transmission}
use Rattle.sub_rules.specs.declared.fault.CheckFault.{CheckFault}
use Rattle.sub_rules.specs.declared.fault.CheckFault.TheVariants as fault
use Rattle.sub_checker.specs.declared.accepted.Accepted.{Accepted}
use Rattle.sub_laws.specs.OnScreen.{Complete}
use Rattle.sub_laws.specs.Repeats.{HasPromisesWithRepeats}
use Rattle.sub_laws.specs.Stretch.{HasPromises}
use Rattle.sub_check.specs.CheckedFiles.{IsAccepted, IsAcceptedBy, IsResultOfCheckFiles}
use Rattle.sub_check.specs.CheckedFiles.{IsResultWithoutDelay}
use Rattle.sub_check.specs.CheckedFiles.{IsChecked, IsCheckedBy, FilesMean, FilesMeanWithin}

pub same_programme :
    (a b : ProgrammeValue) (r : Result ProgrammeValue LoadFault) → r ≡ Ok a → r ≡ Ok b → a ≡ b
same_programme a b r e f = let both = sym e ∙ f in cc

-- A result that reports neither a fault of the subtitle file nor a failed device does not report
-- that the PES file could not be read.
answer_after_loading :
    (answer : Result Accepted CheckFault)
    → failed is_subtitle_fault answer ≡ false
    → failed is_failure answer ≡ false
    → failed is_pes_read_failure answer ≡ false
answer_after_loading answer looked fine = grind (arith, nat_tests)

no_fault_keeps_programme : (faults : List LoadFault) (p q : ProgrammeValue) →
    programme_unless_faulty faults p ≡ Ok q → p ≡
    q
no_fault_keeps_programme faults p q h = grind (arith, nat_tests)

loading_keeps_drawing : (drawing : Drawing) (stl : List ℕ) (programme : ProgrammeValue)
    → loaded_programme drawing stl ≡ Ok programme
    → programme.drawing ≡ drawing
unfolding loaded_programme
loading_keeps_drawing drawing stl programme given =
    sym (ap (λ (p : ProgrammeValue). p.drawing) (no_fault_keeps_programme (faults drawing stl)
    _ programme given))

module _ (drawing : Drawing) (options : OptionsValue) (stl pes : List ℕ)
    (loading : LawOfLoading) where
  described_files_load : (subtitles : List SubtitleValue) (transmission : Transmission)
      → FilesMean drawing options.origin stl pes subtitles transmission
      → loaded_programme drawing stl ≡ Ok (record { drawing = drawing; records = subtitles })
  described_files_load subtitles transmission files_mean =
      (loading drawing stl subtitles).1
      (files_mean.gsi, files_mean.subtitle_file, files_mean.in_order, files_mean.drawable)

  described_files_load_within : (subtitles : List SubtitleValue) (transmission : Transmission)
      → FilesMeanWithin drawing options stl pes subtitles transmission
      → loaded_programme drawing stl ≡ Ok (record { drawing = drawing; records = subtitles })
  described_files_load_within subtitles transmission files_mean =
      (loading drawing stl subtitles).1
      (files_mean.gsi, files_mean.subtitle_file, files_mean.in_order, files_mean.drawable)

  pub accepted-described_files_load : IsAccepted drawing options stl pes
      → (programme : ProgrammeValue) × (loaded_programme drawing stl ≡ Ok programme)
  accepted-described_files_load is = (
    record { drawing = drawing; records = is.subtitles },
    described_files_load is.subtitles is.transmission is.files_mean,
  )

  pub accepted-loads_by : IsAcceptedBy drawing options stl pes
      → (programme : ProgrammeValue) × (loaded_programme drawing stl ≡ Ok programme)
  accepted-loads_by is = (
    record { drawing = drawing; records = is.subtitles },
    described_files_load_within is.subtitles is.transmission is.files_mean,
  )

  module _ (programme : ProgrammeValue) (given : loaded_programme drawing stl ≡ Ok programme) where
    loaded_programme_is_unique : (subtitles : List SubtitleValue)
        → loaded_programme drawing stl ≡ Ok (record { drawing = drawing; records = subtitles })
        → programme ≡ record { drawing = drawing; records = subtitles }
    loaded_programme_is_unique subtitles read = same_programme programme _ (loaded_programme drawing
        stl) given read

    of : programme ≡ record { drawing = drawing; records = programme.records }
    of =
        ap (λ n. let p : ProgrammeValue = record { drawing = n; records = programme.records } in p)
        (loading_keeps_drawing drawing stl programme given)

    pub good_transmission_is_accepted : (t : Transmission)
        × Carries options.origin pes t
        × Good programme t options
        × (IsTrue options.asks_complete → Complete t options)
        → IsAccepted drawing options stl pes
    good_transmission_is_accepted (t, carries, good, complete) =
        let file = (loading drawing stl programme.records).0 (given ∙ ap (λ p. Ok p) of) in
        record {
          subtitles = programme.records;
          transmission = t;
          files_mean = record {
            gsi = file.0;
            subtitle_file = file.1;
            in_order = file.2;
            drawable = file.3;
            carries = carries;
          };
          good = subst (λ (p : ProgrammeValue). Good p t options) of good;
          complete = complete;
        }

    pub accepted_transmission_is_good : IsAccepted drawing options stl pes
        → (t : Transmission)
        × Carries options.origin pes t
        × Good programme t options
        × (IsTrue options.asks_complete → Complete t options)
    accepted_transmission_is_good is =
        let same = loaded_programme_is_unique is.subtitles (described_files_load is.subtitles
        is.transmission is.files_mean) in (
          is.transmission,
          is.files_mean.carries,
          subst (λ (p : ProgrammeValue). Good p is.transmission options) (sym same) is.good,
          is.complete,
        )

    pub good_transmission_accepted_within : (t : Transmission)
        × CarriesOnClock (clock_of options) options.within pes t
        × GoodWithRepeats options.keeps programme t options
        → IsAcceptedBy drawing options stl pes
    good_transmission_accepted_within (t, carries, good) =
        let file = (loading drawing stl programme.records).0 (given ∙ ap (λ p. Ok p) of) in
        record {
          subtitles = programme.records;
          transmission = t;
          files_mean = record {
            gsi = file.0;
            subtitle_file = file.1;
            in_order = file.2;
            drawable = file.3;
            carries = carries;
          };
          good = subst (λ (p : ProgrammeValue). GoodWithRepeats options.keeps p t options) of good;
        }

    pub accepted_within_is_good : IsAcceptedBy drawing options stl pes
        → (t : Transmission)
        × CarriesOnClock (clock_of options) options.within pes t
        × GoodWithRepeats options.keeps programme t options
    accepted_within_is_good is =
        let same =
        loaded_programme_is_unique is.subtitles (described_files_load_within is.subtitles
        is.transmission is.files_mean) in (
          is.transmission,
          is.files_mean.carries,
          subst (λ (p : ProgrammeValue). GoodWithRepeats options.keeps p is.transmission options)
              (sym same)
              is.good,
        )

    module _ (answer : Result Accepted CheckFault)
        (looked : failed is_subtitle_fault answer ≡ false) where
      pub checked_files_are_accepted : IsChecked programme options pes answer
          → IsResultWithoutDelay drawing options stl pes answer
      checked_files_are_accepted checked = record {
        accepted = λ fine.
            let exactly = checked.accepted looked (answer_after_loading answer looked fine) in (
              λ ok. good_transmission_is_accepted (exactly.0 ok),
              λ is. exactly.1
                  (accepted_transmission_is_good is),
            );
        serves = λ subtitles t files_mean ok.
            let (promises, complete) = checked.serves t files_mean.carries ok in (
              subst (λ (p : ProgrammeValue). HasPromises p t options)
                  (loaded_programme_is_unique subtitles (described_files_load subtitles t
                  files_mean)) promises,
              complete,
            );
      }

      pub checked_files_accepted_within : IsCheckedBy programme options pes answer
          → IsResultOfCheckFiles drawing options stl pes answer
      checked_files_accepted_within checked = record {
        accepted = λ fine.
            let exactly = checked.accepted looked (answer_after_loading answer looked fine) in (
              λ ok. good_transmission_accepted_within (exactly.0 ok),
              λ is. exactly.1
                  (accepted_within_is_good is),
            );
        serves = λ subtitles t files_mean ok.
            subst (λ (p : ProgrammeValue). HasPromisesWithRepeats options.keeps p t options)
            (loaded_programme_is_unique subtitles (described_files_load_within subtitles t
            files_mean))
            (checked.serves t files_mean.carries ok).1;
      }

own_fault :
    (drawing : Drawing) (stl : List ℕ) (programme : ProgrammeValue) (block : ℕ)
    (kind : LoadFaultKind)
    → IsErrorOfLoad drawing stl block kind
    → is_failure_kind kind ≡ false
    → loaded_programme drawing stl ≡ Ok programme
    → ⊥
own_fault drawing stl programme block kind reported fine is = grind (arith, nat_tests)

module _ (drawing : Drawing) (options : OptionsValue) (stl pes : List ℕ) (f : LoadFault)
    (loading : LawOfLoading) (reported : IsErrorOfLoad drawing stl f.block f.kind) where
  pub faulty_subtitles_are_refused : IsResultWithoutDelay drawing options stl pes
      (Err (fault.Subtitles f))
  faulty_subtitles_are_refused = record {
    accepted = λ fine. (
      λ ok. cc,
      λ g.
          absurd (own_fault drawing stl _ f.block f.kind reported fine
          (accepted-described_files_load drawing options stl pes loading g).1),
    );
    serves = λ subtitles transmission files_mean ok. cc;
  }

  pub faulty_subtitles_refused_within : IsResultOfCheckFiles drawing options stl pes
      (Err (fault.Subtitles f))
  faulty_subtitles_refused_within = record {
    accepted = λ fine. (
      λ ok. cc,
      λ g.
          absurd (own_fault drawing stl _ f.block f.kind reported fine
          (accepted-loads_by drawing options stl pes loading g).1),
    );
    serves = λ subtitles transmission files_mean ok. cc;
  }
