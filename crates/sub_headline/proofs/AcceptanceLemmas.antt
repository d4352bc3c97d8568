-- If `within` is 0 and each header of the page has to erase the page, files are accepted exactly if
-- they contain subtitles and a good transmission of them, with complete pages if required.
use Rattle.std.proofs.Common.{◌≡◌, ℕ, Bool, List, [], ◌∷◌, sym, subst}
use Rattle.std.specs.Prelude.{All, IsFalse}
use Rattle.std.specs.List.{AllZip}
use Rattle.std.proofs.lemmas.List.Elements.{All-cons, All-nil}
use Rattle.stl_file.specs.Subtitle.{IsSubtitle, SubtitleValue}
use Rattle.stl_file.specs.SubtitleBlocks.{AreBlocksOf}
use Rattle.stl_file.proofs.SubtitleBlocksLemmas.{blocks_make_valid_subtitle}
use Rattle.stl_rows.specs.Programme.{IsProgramme, ProgrammeValue}
use Rattle.stl_rows.specs.declared.layout.Drawing.{Drawing}
use Rattle.sub_plan.specs.Options.{OptionsValue}
use Rattle.sub_rules.specs.Repeats.{GoodWithRepeats}
use Rattle.sub_rules.specs.Transmission.{Transmission}
use Rattle.sub_laws.proofs.GoodWithRepeatsLemmas.{law_of_no_delay}
use Rattle.sub_laws.proofs.PesFileLemmas.{law_of_exact_frames}
use Rattle.sub_check.specs.CheckedFiles.{IsAccepted, IsAcceptedBy, FilesMean, FilesMeanWithin}
use Rattle.sub_headline.specs.Acceptance.{LawOfPlainAcceptance}

pub all_subtitles_are_valid : (ts : List SubtitleValue) (gs : List (List (List ℕ)))
    → AllZip AreBlocksOf ts gs
    → All IsSubtitle ts
all_subtitles_are_valid [] gs e = All-nil IsSubtitle
all_subtitles_are_valid (t ∷ ts) [] e = λ k d h. absurd e
all_subtitles_are_valid (t ∷ ts) (g ∷ gs) e =
    All-cons IsSubtitle t ts (blocks_make_valid_subtitle t g e.0) (all_subtitles_are_valid ts gs
    e.1)

module _ (drawing : Drawing) (options : OptionsValue) (stl pes : List ℕ)
    (subtitles : List SubtitleValue) (t : Transmission) where
  pub programme_of :
      FilesMean drawing options.origin stl pes subtitles t
      → IsProgramme drawing subtitles
  programme_of files_mean = record {
    each = all_subtitles_are_valid subtitles _ files_mean.subtitle_file.rest.are_subtitle_blocks;
    in_order = files_mean.in_order;
    drawable = files_mean.drawable;
  }

  -- If `within` is 0, the subtitles and frames that two files contain by the clock of the options
  -- are also their contents with exact PTSs.
  exact_of :
      options.within ≡ 0
      → FilesMeanWithin drawing options stl pes subtitles t
      → FilesMean drawing options.origin stl pes subtitles t
  exact_of none files_mean = record {
    gsi = files_mean.gsi;
    subtitle_file = files_mean.subtitle_file;
    in_order = files_mean.in_order;
    drawable = files_mean.drawable;
    carries = (law_of_exact_frames options pes t none).0 files_mean.carries;
  }

  of_exact :
      options.within ≡ 0
      → FilesMean drawing options.origin stl pes subtitles t
      → FilesMeanWithin drawing options stl pes subtitles t
  of_exact none files_mean = record {
    gsi = files_mean.gsi;
    subtitle_file = files_mean.subtitle_file;
    in_order = files_mean.in_order;
    drawable = files_mean.drawable;
    carries = (law_of_exact_frames options pes t none).1 files_mean.carries;
  }

there :
    (drawing : Drawing) (options : OptionsValue) (stl pes : List ℕ)
    → IsFalse options.keeps
    → options.within ≡ 0
    → IsAcceptedBy drawing options stl pes
    → IsAccepted drawing options stl pes
there drawing options stl pes off none is =
    let programme : ProgrammeValue = record { drawing = drawing; records = is.subtitles } in
    let files_mean = exact_of drawing options stl pes is.subtitles is.transmission none
    is.files_mean in
    let good =
    (law_of_no_delay programme is.transmission options
    (programme_of drawing options stl pes is.subtitles is.transmission files_mean) none).0
    (subst (λ (k : Bool). GoodWithRepeats k programme is.transmission options) off is.good) in
    record {
      subtitles = is.subtitles;
      transmission = is.transmission;
      files_mean = files_mean;
      good = good.0;
      complete = good.1;
    }

back :
    (drawing : Drawing) (options : OptionsValue) (stl pes : List ℕ)
    → IsFalse options.keeps
    → options.within ≡ 0
    → IsAccepted drawing options stl pes
    → IsAcceptedBy drawing options stl pes
back drawing options stl pes off none is =
    let programme : ProgrammeValue = record { drawing = drawing; records = is.subtitles } in
    record {
      subtitles = is.subtitles;
      transmission = is.transmission;
      files_mean = of_exact drawing options stl pes is.subtitles is.transmission none is.files_mean;
      good =
          subst (λ (k : Bool). GoodWithRepeats k programme is.transmission options) (sym off)
          ((law_of_no_delay programme is.transmission options
          (programme_of drawing options stl pes is.subtitles is.transmission is.files_mean) none).1
          (is.good, is.complete));
    }

pub law_of_plain_acceptance : LawOfPlainAcceptance
law_of_plain_acceptance drawing options stl pes off none =
    (there drawing options stl pes off none, back drawing options stl pes off none)
