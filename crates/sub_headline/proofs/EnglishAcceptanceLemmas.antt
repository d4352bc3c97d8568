-- Files contain subtitles and a transmission exactly if they match the formats. If the subtitles
-- are drawn as their English pages, a transmission is good, with complete pages if they are
-- required, exactly if it is good by the rules for English.
use Rattle.std.proofs.Common.{◌≡◌, ◌∙◌, ℕ, Bool, false, List, Result, ap, subst, sym}
use Rattle.std.specs.Prelude.{All, IsFalse, IsOk, IsTrue}
use Rattle.ttx_packet.specs.declared.header.Header.{Header}
use Rattle.ttx_packet.specs.PageHeader.{c12, c13, c14}
use Rattle.ttx_page.specs.Page.{Rows, cell}
use Rattle.stl_file.specs.Subtitle.{IsSubtitle, SubtitleValue}
use Rattle.stl_rows.specs.declared.national.National.TheVariants.{English}
use Rattle.stl_rows.specs.declared.national.NationalBits.{NationalBits}
use Rattle.stl_rows.specs.SubSets.{sub_set}
use Rattle.sub_plan.specs.Options.{OptionsValue}
use Rattle.sub_plan.specs.Sending.{national_bits}
use Rattle.sub_laws.specs.OnScreen.{Complete}
use Rattle.sub_rules.specs.Good.{Good, IsSubtitleHeader}
use Rattle.sub_rules.specs.Transmission.{Transmission}
use Rattle.sub_check.specs.CheckedFiles.{IsAccepted, FilesMean}
use Rattle.sub_headline.specs.Acceptance.{LawOfEnglishAcceptance, default_drawing}
use Rattle.sub_headline.specs.PlainAcceptance.{IsEnglishGood, IsEnglishHeader}
use Rattle.sub_headline.specs.PlainAcceptance.{IsAcceptedInPlainTerms}
use Rattle.sub_headline.specs.PlainFiles.{AreReadFrom}
use Rattle.sub_headline.specs.PlainArguments.{default_options}
use Rattle.sub_headline.proofs.AcceptanceLemmas.{all_subtitles_are_valid, programme_of}
use Rattle.sub_headline.proofs.EnglishLemmas.{IsDrawnAsEnglish, accepted_subtitles_are_drawn}
use Rattle.sub_headline.proofs.EnglishLemmas.{due_eq, english_within}
use Rattle.sub_headline.proofs.EnglishLemmas.{complete_subtitle_is_accepted}
use Rattle.sub_headline.proofs.EnglishLemmas.{scope_does_not_change_drawing}
use Rattle.stl_file.specs.Scope.{whole}
use Rattle.stl_file.specs.declared.scope.Scope.{Scope}
use Rattle.stl_rows.specs.declared.fault.RowFault.{RowFault}

abbrev national_bits_of : Bool → Bool → Bool → NationalBits
national_bits_of a b c = record { c12 = a; c13 = b; c14 = c }

option_eq : (h : Header)
    → IsFalse (c12 h)
    → IsFalse (c13 h)
    → IsFalse (c14 h)
    → national_bits h ≡ national_bits_of false false false
option_eq h first second third =
    ap (λ (a : Bool). national_bits_of a (c13 h) (c14 h)) first
    ∙ ap (λ (b : Bool). national_bits_of false b (c14 h)) second
    ∙ ap (λ (c : Bool). national_bits_of false false c) third

subtitle_header_is_english : (h : Header) → IsSubtitleHeader English h → IsEnglishHeader h
unfolding sub_set
subtitle_header_is_english h is = record {
  erases = is.erases;
  no_newsflash = is.no_newsflash;
  subtitle = is.subtitle;
  suppressed = is.suppressed;
  displayed = is.displayed;
  c12_clear = ap (λ (bits : NationalBits). bits.c12) is.option;
  c13_clear = ap (λ (bits : NationalBits). bits.c13) is.option;
  c14_clear = ap (λ (bits : NationalBits). bits.c14) is.option;
}

english_header_is_subtitle_header : (h : Header) → IsEnglishHeader h → IsSubtitleHeader English h
unfolding sub_set
english_header_is_subtitle_header h is = record {
  erases = is.erases;
  no_newsflash = is.no_newsflash;
  subtitle = is.subtitle;
  suppressed = is.suppressed;
  displayed = is.displayed;
  option = option_eq h is.c12_clear is.c13_clear is.c14_clear;
}

module _ (options : OptionsValue) (subtitles : List SubtitleValue) (transmission : Transmission)
    (drawn : All IsDrawnAsEnglish subtitles) where
  english_of :
      Good (record { drawing = default_drawing; records = subtitles }) transmission options
      → (IsTrue options.asks_complete → Complete transmission options)
      → IsEnglishGood options subtitles transmission
  english_of good complete = record {
    not_empty = good.rules.not_empty;
    rising = good.rules.rising;
    whole = good.rules.whole;
    starts = good.rules.starts;
    lasts = good.rules.lasts;
    exact = good.rules.exact;
    serial = good.rules.serial;
    control = λ k d below n packet within h is.
        subtitle_header_is_english h (good.rules.control k d below n packet within h is);
    spans = good.rules.spans;
    opens = good.rules.opens;
    repeats = good.rules.repeats;
    content = λ f row column from to is_cell.
        good.content f row column from to is_cell
        ∙ ap (λ (due : Rows). cell due row column) (due_eq subtitles f drawn);
    paced = good.rules.paced;
    complete = complete;
  }

  good_of :
      IsEnglishGood options subtitles transmission
      → Good (record { drawing = default_drawing; records = subtitles }) transmission options
  good_of good = record {
    rules = record {
      not_empty = good.not_empty;
      rising = good.rising;
      whole = good.whole;
      starts = good.starts;
      lasts = good.lasts;
      exact = good.exact;
      serial = good.serial;
      control = λ k d below n packet within h is.
          english_header_is_subtitle_header h (good.control k d below n packet within h is);
      spans = good.spans;
      opens = good.opens;
      repeats = good.repeats;
      paced = good.paced;
    };
    content = λ f row column from to is_cell.
        good.content f row column from to is_cell
        ∙ ap (λ (due : Rows). cell due row column) (sym (due_eq subtitles f drawn));
  }

abbrev options_with_origin : ℕ → OptionsValue
options_with_origin origin = record default_options { origin = origin }

module _ (scope : Scope) (origin : ℕ) (stl pes : List ℕ) (subtitles : List SubtitleValue)
    (transmission : Transmission) where
  pub drawn_of :
      FilesMean (english_within scope) origin stl pes subtitles transmission
      → All IsDrawnAsEnglish subtitles
  drawn_of files_mean =
      let of =
      programme_of (english_within scope) (options_with_origin origin) stl pes subtitles
      transmission files_mean
      in
      accepted_subtitles_are_drawn subtitles of.each
      (λ k d below.
      subst (λ (r : Result Rows RowFault). IsOk r) (scope_does_not_change_drawing scope _)
      (of.drawable k d below))

  pub files_of_request :
      FilesMean (english_within scope) origin stl pes subtitles transmission
      → AreReadFrom scope origin stl pes subtitles transmission
  files_of_request files_mean = record {
    gsi = files_mean.gsi;
    subtitle_file = files_mean.subtitle_file;
    in_order = files_mean.in_order;
    texts = λ k d below. (drawn_of files_mean k d below).whole;
    carries = files_mean.carries;
  }

module _ (origin : ℕ) (stl pes : List ℕ) (subtitles : List SubtitleValue)
    (transmission : Transmission) where
  mean_of :
      AreReadFrom whole origin stl pes subtitles transmission
      → FilesMean default_drawing origin stl pes subtitles transmission
  mean_of files =
      let each : All IsSubtitle subtitles =
      all_subtitles_are_valid subtitles _ files.subtitle_file.rest.are_subtitle_blocks in
      record {
        gsi = files.gsi;
        subtitle_file = files.subtitle_file;
        in_order = files.in_order;
        drawable = λ k d below. complete_subtitle_is_accepted _ (each k d below)
            (files.texts k d below);
        carries = files.carries;
      }

there : (options : OptionsValue) (stl pes : List ℕ)
    → IsAccepted default_drawing options stl pes
    → IsAcceptedInPlainTerms options stl pes
there options stl pes is = record {
  subtitles = is.subtitles;
  transmission = is.transmission;
  files = files_of_request whole options.origin stl pes is.subtitles is.transmission is.files_mean;
  good =
      english_of options is.subtitles is.transmission
      (drawn_of whole options.origin stl pes is.subtitles is.transmission is.files_mean) is.good
      is.complete;
}

back : (options : OptionsValue) (stl pes : List ℕ)
    → IsAcceptedInPlainTerms options stl pes
    → IsAccepted default_drawing options stl pes
back options stl pes is =
    let files_mean = mean_of options.origin stl pes is.subtitles is.transmission is.files in
    record {
      subtitles = is.subtitles;
      transmission = is.transmission;
      files_mean = files_mean;
      good =
          good_of options is.subtitles is.transmission
          (drawn_of whole options.origin stl pes is.subtitles is.transmission files_mean) is.good;
      complete = is.good.complete;
    }

pub law_of_english_acceptance : LawOfEnglishAcceptance
law_of_english_acceptance options stl pes = (there options stl pes, back options stl pes)
