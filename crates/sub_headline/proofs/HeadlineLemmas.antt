-- A run of `check` on files in memory that does not end with exit code 2 ends with 0 exactly if the
-- bytes of both files are accepted.
use Rattle.std.proofs.Common.{◌≡◌, ◌≢◌, ◌↔◌, ◌⊎◌, ◌∙◌, ℕ, List, [], ◌∷◌, Option, Some, None, Ok}
use Rattle.std.proofs.Common.{Result}
use Rattle.std.proofs.Common.{Bool, ap, arith, codes, refl, subst, sym}
use Rattle.std.proofs.lemmas.Bool.Decides.{nat_tests}
use Rattle.std.specs.Prelude.{◌<◌, ◌^◌, IsFalse, IsTrue, map, option_map}
use Rattle.std.specs.List.{find, flat_map}
use Rattle.clap.specs.Words.{Text}
use Rattle.ttx_page.specs.Page.{Rows, cell, space}
use Rattle.ttx_page.specs.DroppedRows.{ExcusedBy}
use Rattle.ttx_page.specs.LostRows.{IsHitOrLost, arrivals_from_flags}
use Rattle.ttx_page.specs.Receiver.{ReceiverClass}
use Rattle.ttx_page.specs.Receiver.ReceiverClass.{Dropping, Storing}
use Rattle.mpeg_ts.specs.declared.packet_size.PacketSize.{PacketSize}
use Rattle.stl_file.specs.Scope.{whole}
use Rattle.stl_file.specs.Subtitle.{SubtitleValue}
use Rattle.stl_rows.specs.Programme.{ProgrammeValue}
use Rattle.stl_rows.specs.DrawnPage.{drawn}
use Rattle.stl_rows.specs.DuePage.{drawn_or_blank, due, is_due}
use Rattle.stl_rows.specs.Layout.{default_layout, drawing_by, drawing_within}
use Rattle.stl_file.specs.declared.scope.Scope.{Scope}
use Rattle.stl_rows.specs.declared.layout.Drawing.{Drawing}
use Rattle.stl_rows.specs.declared.layout.Layout.{Layout}
use Rattle.stl_rows.specs.declared.national.National.{National}
use Rattle.ttx_pes.specs.PesPacketRange.{PesPacketRangeValue}
use Rattle.sub_plan.specs.Options.{OptionsValue}
use Rattle.sub_request.specs.declared.pes_selection.TransportStream.{TransportStream}
use Rattle.stl_rows.specs.declared.national.National.TheVariants.{English}
use Rattle.sub_request.specs.declared.request.Request.{Request}
use Rattle.sub_request.specs.declared.request.Request.TheVariants as ask
use Rattle.sub_request.specs.declared.request.UsageFault.{UsageFault}
use Rattle.sub_files.specs.FileCalls.{CallsInOrder}
use Rattle.sub_files.specs.MemoryFiles.{IsMemoryCall, MemFilesValue, bytes_at}
use Rattle.sub_words.specs.Requests.{Requested, IsRequestOf, value_of_request}
use Rattle.sub_rules.specs.Transmission.{Transmission, on_air}
use Rattle.sub_laws.proofs.GoodWithRepeatsLemmas.{begins_in, ends_in}
use Rattle.sub_laws.proofs.RobustLemmas.{law_of_good}
use Rattle.sub_check.specs.CheckedFiles.{IsAccepted, IsAcceptedBy}
use Rattle.sub_listing.specs.Listing.{exit_code}
use Rattle.sub_listing.specs.declared.status.Status.{Status}
use Rattle.sub_listing.specs.declared.status.Status.TheVariants.{Done}
use Rattle.sub_answer.specs.FilesInMemory.{DecidesAccepted, memory_observations}
use Rattle.sub_answer.specs.Part.{bytes_in_range, carried_bytes_if_stream}
use Rattle.sub_answer.specs.Ending.{BufferHoldsOneLineOnly}
use Rattle.sub_answer.proofs.MemoryLemmas.{law_of_files_in_memory}
use Rattle.sub_headline.specs.Acceptance.{default_drawing}
use Rattle.sub_headline.specs.BothClasses.{EachReceiverOfClassGets}
use Rattle.sub_headline.specs.DrawnOptions.{CheckRecordingSettings, settings_of_options}
use Rattle.sub_headline.specs.DrawnOptions.{arguments_of_check_recording_option}
use Rattle.sub_headline.specs.DrawnOptions.CheckRecordingOption.{Of}
use Rattle.sub_headline.specs.EnglishPage.{english_due_page}
use Rattle.sub_headline.specs.EnglishScreen.{EachDecodedPageReads}
use Rattle.sub_headline.specs.Headline.{ServesOtherReceivers, LawOfHeadline, ForChosenOptions}
use Rattle.sub_headline.specs.Headline.{ForCheckRecordingOptions}
use Rattle.sub_headline.specs.Headline.{ForRecordingCheck}
use Rattle.sub_headline.specs.Headline.{ImpliesChosenHeadline}
use Rattle.sub_headline.specs.OnScreens.{EachDisplayShows}
use Rattle.sub_headline.specs.RecordingOptions.{RecordingOption, Reading, bytes_selected}
use Rattle.sub_headline.specs.RecordingOptions.{bytes_carried_in_pid}
use Rattle.sub_headline.specs.RecordingOptions.{pes_packets_in_range}
use Rattle.sub_headline.specs.RecordingOptions.{reading_of, arguments_of_recording_option}
use Rattle.sub_headline.specs.RecordingOptions.RecordingOption.{Any}
use Rattle.sub_headline.specs.PlainOptions.{CheckOption, options_of_check_options}
use Rattle.sub_headline.specs.PlainOptions.{arguments_of_check_option}
use Rattle.sub_headline.specs.PlainFiles.{AreReadFrom}
use Rattle.sub_headline.specs.PlainHeadline.{Headline}
use Rattle.sub_headline.specs.PlainReading.{frames_by_place, subtitles_by_place, subtitles_within}
use Rattle.sub_headline.specs.PlainArguments.{IsName}
use Rattle.sub_headline.specs.Run.{RunsProgram}
use Rattle.sub_headline.proofs.ChosenWordLemmas.{law_of_check_recording_arguments}
use Rattle.sub_headline.proofs.ChosenWordLemmas.{law_of_chosen_arguments}
use Rattle.sub_headline.proofs.ChosenWordLemmas.{law_of_recording_arguments, settings_of_parts}
use Rattle.sub_headline.proofs.ChosenWordLemmas.{options_allow_no_delay_or_keeping}
use Rattle.sub_headline.proofs.ChosenWordLemmas.{choices_keep_reading}
use Rattle.sub_headline.proofs.AcceptanceLemmas.{law_of_plain_acceptance, programme_of}
use Rattle.sub_headline.proofs.EnglishAcceptanceLemmas.{drawn_of, files_of_request}
use Rattle.sub_headline.proofs.EnglishAcceptanceLemmas.{law_of_english_acceptance}
use Rattle.sub_headline.proofs.EnglishLemmas.{scope_does_not_change_due_page, english_within}
use Rattle.sub_headline.proofs.FrameReadingLemmas.{bytes_give_transmission}
use Rattle.sub_headline.proofs.RunLemmas.{HasAnswered, answered, zero_code_means_done}
use Rattle.sub_headline.proofs.RunLemmas.{code_other_than_two_means_no_fault}
use Rattle.sub_headline.proofs.ScreenLemmas.{decoded_pages_have_expected_characters}
use Rattle.sub_headline.proofs.SubtitleReadingLemmas.{file_bytes_give_subtitles}
use Rattle.sub_headline.proofs.SubtitleReadingLemmas.{scope_of_file_gives_subtitles}

-- The request for a check of two files with options.
abbrev request_check_with :
    (stl pes : Text) → Option TransportStream → Option PesPacketRangeValue → OptionsValue → National
    → Layout → Scope → Bool → Requested
request_check_with stl pes stream range options national layout scope all =
    Requested.Check stl (record { name = pes; stream = stream; range = range }) options national
    layout
    scope all

record HasEqualCheckParts
    (stl0 name : Text) (stream0 : Option TransportStream) (range0 : Option PesPacketRangeValue)
    (options0 : OptionsValue) (national0 : National) (layout0 : Layout) (scope0 : Scope)
    (stl pes : Text) (stream : Option TransportStream) (range : Option PesPacketRangeValue)
    (options : OptionsValue) (national : National) (layout : Layout) (scope : Scope)
    : Type 0 where
  pub stl_eq : stl0 ≡ stl
  pub name_eq : name ≡ pes
  pub stream_eq : stream0 ≡ stream
  pub range_eq : range0 ≡ range
  pub options_are_equal : options0 ≡ options
  pub national_eq : national0 ≡ national
  pub layout_eq : layout0 ≡ layout
  pub scope_eq : scope0 ≡ scope

is_check_by :
    (stl0 name : Text) (stream0 : Option TransportStream) (range0 : Option PesPacketRangeValue)
    (options0 : OptionsValue) (national0 : National) (layout0 : Layout) (scope0 : Scope)
    (all0 : Bool) (stl pes : Text) (stream : Option TransportStream)
    (range : Option PesPacketRangeValue) (options : OptionsValue) (national : National)
    (layout : Layout) (scope : Scope) (all : Bool)
    → Requested.Check stl0 (record { name = name; stream = stream0; range = range0 }) options0
    national0
    layout0 scope0 all0
    ≡ request_check_with stl pes stream range options national layout scope all
    → HasEqualCheckParts stl0 name stream0 range0 options0 national0 layout0 scope0 stl pes stream
    range
    options national layout scope
is_check_by stl0 name stream0 range0 options0 national0 layout0 scope0 all0 stl pes stream range
    options national layout scope all e = grind (arith, nat_tests)

reports :
    (request : Request) (stl pes : Text) (stream : Option TransportStream)
    (range : Option PesPacketRangeValue) (options : OptionsValue) (national : National)
    (layout : Layout) (scope : Scope) (all : Bool) (file bytes read : List ℕ)
    (files : MemFilesValue) (status : Status)
    → value_of_request request ≡ request_check_with stl pes stream range options national layout
    scope all
    → bytes_at stl files ≡ Some file
    → bytes_at pes files ≡ Some bytes
    → bytes_in_range range (carried_bytes_if_stream stream (Some bytes)) ≡ Some read
    → DecidesAccepted request files status
    → (status ≡ Done) ↔ IsAcceptedBy (drawing_within national layout scope) options file read
reports
    (ask.Check stl0 pes0 options0 national0 layout0 scope0 all0) stl pes stream range options
    national layout scope all file bytes read files status requested stl_eq pes_eq read_is
    reported =
    let is =
    is_check_by stl0.now pes0.name.now pes0.stream pes0.range options0 national0 layout0 scope0
    all0 stl pes stream range options national layout scope all requested in
    let drawing_is =
    ap (λ n. drawing_within n layout0 scope0) is.national_eq
    ∙ ap (λ l. drawing_within national l scope0) is.layout_eq
    ∙ ap (λ s. drawing_within national layout s) is.scope_eq in
    subst (λ (d : Drawing). (status ≡ Done) ↔ IsAcceptedBy d options file read) drawing_is
    (subst
    (λ (o : OptionsValue).
    (status ≡ Done) ↔ IsAcceptedBy (drawing_within national0 layout0 scope0) o file read)
    is.options_are_equal
    (reported file bytes read (ap (λ n. bytes_at n files) is.stl_eq ∙ stl_eq)
    (ap (λ n. bytes_at n files) is.name_eq ∙ pes_eq)
    (ap (λ r. bytes_in_range r (carried_bytes_if_stream pes0.stream (Some bytes))) is.range_eq
    ∙ ap (λ s. bytes_in_range range (carried_bytes_if_stream s (Some bytes))) is.stream_eq
    ∙ read_is)))
reports ask.Help stl pes st ra o n y c all file bytes read files s e at_stl at_pes r
    reported = cc
reports ask.Version stl pes st ra o n y c all file bytes read files s e at_stl at_pes r
    reported = cc
reports (ask.Packet p) stl pes st ra o n y c all file bytes read files s e at_stl at_pes r
    reported =
    cc
reports (ask.Packets p) stl pes st ra o n y c all file bytes read files s e at_stl at_pes r
    reported =
    cc
reports (ask.Show p) stl pes st ra o n y c all file bytes read files s e at_stl at_pes r
    reported = cc
reports
    (ask.Normal a b) stl pes st ra o n y c all file bytes read files s e at_stl at_pes r
    reported =
    cc
reports
    (ask.Schedule a b d serial national layout scope) stl pes st ra o n y c all file bytes read
    files s e at_stl at_pes r reported = cc
reports
    (ask.Listen p l) stl pes st ra o n y c all file bytes read files s e at_stl at_pes r
    reported =
    cc
reports
    (ask.Extract a b d) stl pes st ra o n y c all file bytes read files s e at_stl at_pes r
    reported =
    cc
reports
    (ask.Survey a b) stl pes st ra o n y c all file bytes read files s e at_stl at_pes r
    reported =
    cc

given_arguments :
    (given : Result (List Text) UsageFault) (a b : List Text) → given ≡ Ok a → given ≡ Ok b → a ≡ b
given_arguments given a b one other = let e = sym one ∙ other in cc

module _ (scope : Scope) (options : OptionsValue) (stl pes : List ℕ)
    (is : IsAccepted (english_within scope) options stl pes) where
  files : AreReadFrom scope options.origin stl pes is.subtitles is.transmission
  files = files_of_request scope options.origin stl pes is.subtitles is.transmission is.files_mean

  each : (class : ReceiverClass)
      → EachReceiverOfClassGets class options.page options.every is.subtitles is.transmission
  each class = λ g j f arrived got old new is_got hears.
      let programme : ProgrammeValue =
      record { drawing = english_within scope; records = is.subtitles } in
      let good = law_of_good programme is.transmission options is.good in
      let served = good.trusted.recovers class g j f arrived got old new is_got hears in
      record {
        in_time = served.in_time;
        heard = served.heard;
        cells = λ header row column is_cell.
            subst
            (λ (due : Rows).
            (cell new.page row column ≡ cell due row column)
            ⊎ ((cell new.page row column ≡ space)
            × ExcusedBy class
            (IsHitOrLost options.page (on_air is.transmission g j f) (arrivals_from_flags arrived
            got))
            row column))
            (scope_does_not_change_due_page scope is.subtitles f
            (drawn_of scope options.origin stl pes is.subtitles is.transmission is.files_mean))
            (served.cells header row column is_cell);
      }

  complete : IsTrue options.asks_complete
      → EachDisplayShows options.page is.subtitles is.transmission
  complete asks = λ class g j f arrived got old new is_got shows header.
      let programme : ProgrammeValue =
      record { drawing = english_within scope; records = is.subtitles } in
      let good = law_of_good programme is.transmission options is.good in
      let (page, screen, holds) =
      good.trusted.shown (is.complete asks) class g j f arrived got old new is_got shows header in (
        page,
        screen,
        λ row column is_cell.
            subst
            (λ (due : Rows).
            (cell page row column ≡ cell due row column)
            ⊎ ((cell page row column ≡ space)
            × ExcusedBy class
            (IsHitOrLost options.page (on_air is.transmission g j f) (arrivals_from_flags arrived
            got))
            row column))
            (scope_does_not_change_due_page scope is.subtitles f
            (drawn_of scope options.origin stl pes is.subtitles is.transmission is.files_mean))
            (holds row column is_cell),
      )

  headline : Headline options.page options.every english_due_page is.subtitles is.transmission
  headline =
      let programme : ProgrammeValue =
      record { drawing = english_within scope; records = is.subtitles } in
      let of =
      programme_of (english_within scope) options stl pes is.subtitles is.transmission is.files_mean
      in
      let rules = is.good.rules in
      record {
        covers = λ k d below. (
          begins_in programme is.transmission of rules.starts rules.lasts k d below,
          ends_in programme is.transmission of rules.starts rules.lasts k d below,
        );
        receivers = each Storing;
      }

  read : options.origin < 2 ^ 33
      → (IsSo : List SubtitleValue → Transmission → Type 0)
      → IsSo is.subtitles is.transmission
      → IsSo (subtitles_within scope stl) (frames_by_place options.origin pes)
  read fits IsSo so =
      subst (λ (ts : List SubtitleValue). IsSo ts (frames_by_place options.origin pes))
      (sym (scope_of_file_gives_subtitles scope stl files.gsi is.subtitles files.subtitle_file))
      (subst (λ (t : Transmission). IsSo is.subtitles t)
      (sym (bytes_give_transmission options.origin pes is.transmission fits files.carries)) so)

  kept : options.origin < 2 ^ 33
      → ServesOtherReceivers options (subtitles_within scope stl) (frames_by_place options.origin
      pes)
  kept fits = record {
    dropping =
        read fits (EachReceiverOfClassGets Dropping options.page options.every) (each Dropping);
    decoded_characters =
        read fits (EachDecodedPageReads options.page)
        (decoded_pages_have_expected_characters options.page options.every is.subtitles
        is.transmission each);
    complete = λ asks. read fits (EachDisplayShows options.page) (complete asks);
  }

laws_hold_for_bytes : (options : OptionsValue) (stl pes : List ℕ)
    (is : IsAccepted default_drawing options stl pes)
    → options.origin < 2 ^ 33
    → (IsSo : List SubtitleValue → Transmission → Type 0)
    → IsSo is.subtitles is.transmission
    → IsSo (subtitles_by_place stl) (frames_by_place options.origin pes)
laws_hold_for_bytes options stl pes is fits IsSo so =
    let of = files whole options stl pes is in
    subst (λ (ts : List SubtitleValue). IsSo ts (frames_by_place options.origin pes))
    (sym (file_bytes_give_subtitles stl of.gsi is.subtitles of.subtitle_file))
    (subst (λ (t : Transmission). IsSo is.subtitles t)
    (sym (bytes_give_transmission options.origin pes is.transmission fits of.carries)) so)

-- The selected part of the subtitle file does not affect how a subtitle is drawn.
scope_keeps_drawn_page : (national : National) (layout : Layout) (scope : Scope)
    (o : Option SubtitleValue)
    → drawn_or_blank (drawing_within national layout scope) o
    ≡ drawn_or_blank (drawing_by national layout) o
unfolding drawn
scope_keeps_drawn_page national layout scope None = refl
scope_keeps_drawn_page national layout scope (Some t) = refl

scope_keeps_expected_page : (national : National) (layout : Layout) (scope : Scope)
    (ts : List SubtitleValue) (f : ℕ)
    → due (drawing_within national layout scope) ts f ≡ due (drawing_by national layout) ts f
unfolding due
scope_keeps_expected_page national layout scope ts f =
    scope_keeps_drawn_page national layout scope (find (is_due f) ts)

module _ (national : National) (layout : Layout) (scope : Scope) (options : OptionsValue)
    (stl pes : List ℕ)
    (is : IsAccepted (drawing_within national layout scope) options stl pes) where
  drawn_headline :
      Headline options.page options.every (due (drawing_by national layout)) is.subtitles
      is.transmission
  drawn_headline =
      let programme : ProgrammeValue =
      record { drawing = drawing_within national layout scope; records = is.subtitles } in
      let good = law_of_good programme is.transmission options is.good in
      let of =
      programme_of (drawing_within national layout scope) options stl pes is.subtitles
      is.transmission is.files_mean in
      let rules = is.good.rules in
      record {
        covers = λ k d below. (
          begins_in programme is.transmission of rules.starts rules.lasts k d below,
          ends_in programme is.transmission of rules.starts rules.lasts k d below,
        );
        receivers = λ g j f arrived got old new is_got hears.
            let served = good.trusted.recovers Storing g j f arrived got old new is_got hears in
            record {
              in_time = served.in_time;
              heard = served.heard;
              cells = λ header row column is_cell.
                  subst
                  (λ (due : Rows).
                  (cell new.page row column ≡ cell due row column)
                  ⊎ ((cell new.page row column ≡ space)
                  × IsHitOrLost options.page (on_air is.transmission g j f)
                  (arrivals_from_flags arrived got) row column))
                  (scope_keeps_expected_page national layout scope is.subtitles f)
                  (served.cells header row column is_cell);
            };
      }

  drawn_read :
      options.origin < 2 ^ 33
      → Headline options.page options.every (due (drawing_by national layout))
      (subtitles_within scope stl) (frames_by_place options.origin pes)
  drawn_read fits =
      let IsSo = Headline options.page options.every (due (drawing_by national layout)) in
      subst (λ (ts : List SubtitleValue). IsSo ts (frames_by_place options.origin pes))
      (sym (scope_of_file_gives_subtitles scope stl is.files_mean.gsi is.subtitles
      is.files_mean.subtitle_file))
      (subst (λ (t : Transmission). IsSo is.subtitles t)
      (sym (bytes_give_transmission options.origin pes is.transmission fits is.files_mean.carries))
      drawn_headline)

abbrev stream_of : Reading → Option TransportStream
stream_of r = option_map (λ pid. record { pid = pid; packet_size = r.size }) r.pid

range_of_known_bytes : (range : Option PesPacketRangeValue) (bytes : List ℕ)
    → bytes_in_range range (Some bytes) ≡ Some (pes_packets_in_range range bytes)
range_of_known_bytes None bytes = refl
range_of_known_bytes (Some range) bytes = refl

part_of_known_bytes : (pid : Option ℕ) (size : PacketSize) (range : Option PesPacketRangeValue)
    (bytes : List ℕ)
    → bytes_in_range range
    (carried_bytes_if_stream (option_map (λ pid. record { pid = pid; packet_size = size }) pid)
    (Some bytes))
    ≡ Some (pes_packets_in_range range (bytes_carried_in_pid pid size bytes))
part_of_known_bytes None size range bytes = range_of_known_bytes range bytes
part_of_known_bytes (Some pid) size range bytes = range_of_known_bytes range
    (bytes_carried_in_pid (Some pid) size bytes)

-- If the arguments are a request, it is a check of the given files and of the given part of the
-- recording. `within` is 0, and each header of the page has to erase the page.
record ArgumentsRequestCheck
    (arguments : List Text) (stl pes : Text) (stream : Option TransportStream)
    (range : Option PesPacketRangeValue) (options : OptionsValue) (national : National)
    (layout : Layout) (scope : Scope)
    : Type 0 where
  pub requested :
      (request : Request)
      → IsRequestOf arguments request
      → (all : Bool)
      × (value_of_request request ≡ request_check_with stl pes stream range options national layout
      scope all)
      × (options.origin < 2 ^ 33)
  pub none : options.within ≡ 0
  pub off : IsFalse options.keeps

-- The exit code of a run of `check` is 0 exactly if the bytes of both files are accepted. The
-- origin is less than 2^33, as each PTS is.
record ExitCodeDecides
    (drawing : Drawing) (options : OptionsValue) (file read : List ℕ) (code : ℕ)
    : Type 0 where
  pub fits : options.origin < 2 ^ 33
  pub reports : (code ≡ 0) ↔ IsAccepted drawing options file read

module _ {K : Type 0} (contents : K → Option (List ℕ)) (failure_count : K → ℕ)
    (IsPush : K → List ℕ → Option ℕ → K → Type 0) (output left : K)
    (before after : MemFilesValue) (given : Result (List Text) UsageFault) (code : ℕ)
    (runs : RunsProgram (CallsInOrder IsMemoryCall before after) memory_observations
    (λ was is. is ≡ was)
    given contents failure_count IsPush output left code) where
  module _ (arguments : List Text) (stl pes : Text) (stream : Option TransportStream)
      (range : Option PesPacketRangeValue) (options : OptionsValue) (national : National)
      (layout : Layout) (scope : Scope) (file bytes read : List ℕ)
      (requests_check : ArgumentsRequestCheck arguments stl pes stream range options national layout
      scope)
      (given_is : given ≡ Ok arguments)
      (stl_eq : bytes_at stl before ≡ Some file) (pes_eq : bytes_at pes before ≡ Some bytes)
      (read_is : bytes_in_range range (carried_bytes_if_stream stream (Some bytes)) ≡ Some read)
      (not_two : code ≢ 2) where
    run_answers_request : HasAnswered (CallsInOrder IsMemoryCall before after) memory_observations
        (λ was is. is ≡ was) given (BufferHoldsOneLineOnly contents failure_count IsPush) code
    run_answers_request = answered _ _ _ _ contents failure_count IsPush output left code runs
        not_two

    exit_code_decides_acceptance : ExitCodeDecides (drawing_within national layout scope) options
        file read code
    exit_code_decides_acceptance =
        let of = run_answers_request.answered in
        let (all, requested, fits) =
        requests_check.requested of.request
        (subst (λ arguments. IsRequestOf arguments of.request)
        (given_arguments given _ _ of.arguments_were_given given_is)
        of.requested) in
        let reported =
        law_of_files_in_memory _ of.request before after run_answers_request.old
        run_answers_request.new run_answers_request.status of.ends
        (code_other_than_two_means_no_fault run_answers_request.status
        (λ e. not_two (run_answers_request.code_eq ∙ e))) in
        let by =
        reports of.request stl pes stream range options national layout scope all file bytes read
        before run_answers_request.status requested stl_eq pes_eq read_is reported in
        let same =
        law_of_plain_acceptance (drawing_within national layout scope) options file read
        requests_check.off
        requests_check.none in
        record {
          fits = fits;
          reports = (
            λ none. same.0 (by.0 (zero_code_means_done run_answers_request.status
                (sym run_answers_request.code_eq ∙ none))),
            λ is. run_answers_request.code_eq ∙ ap exit_code (by.1 (same.1 is)),
          );
        }

  requests_check_parts :
      (program stl pes : Text) (parts : List RecordingOption)
      → IsName stl
      → IsName pes
      → ArgumentsRequestCheck
      (program ∷ codes "check" ∷ stl ∷ pes ∷ flat_map arguments_of_recording_option parts) stl
      pes
      (stream_of (reading_of parts)) (reading_of parts).range (reading_of parts).options English
      default_layout (reading_of parts).scope
  requests_check_parts program stl pes parts is_stl is_pes =
      let by = options_allow_no_delay_or_keeping (map Of parts) in
      let at = ap (λ (l : CheckRecordingSettings). l.reading.options)
      (settings_of_parts (settings_of_options [])
      parts) in
      record {
        requested = λ request.
            law_of_recording_arguments program stl pes parts request is_stl is_pes;
        none = ap (λ (o : OptionsValue). o.within) (sym at) ∙ by.0;
        off = ap (λ (o : OptionsValue). o.keeps) (sym at) ∙ by.1;
      }

  recording_run_decides_acceptance : ForRecordingCheck given before
      (λ r file bytes.
      code ≢ 2 → ExitCodeDecides (english_within r.scope) r.options file (bytes_selected r bytes)
      code)
  recording_run_decides_acceptance = λ program stl pes parts file bytes is_stl is_pes given_is
      stl_eq pes_eq not_two.
      let r = reading_of parts in
      exit_code_decides_acceptance _ stl pes (stream_of r) r.range r.options English default_layout
      r.scope file
      bytes
      (bytes_selected r bytes)
      (requests_check_parts program stl pes parts is_stl is_pes) given_is stl_eq pes_eq
      (part_of_known_bytes r.pid r.size r.range bytes) not_two

  drawn_run_decides_acceptance : ForCheckRecordingOptions given before
      (λ l file bytes.
      code ≢ 2
      → ExitCodeDecides (drawing_within l.national l.layout l.reading.scope) l.reading.options file
      (bytes_selected l.reading bytes) code)
  drawn_run_decides_acceptance = λ program stl pes choices file bytes is_stl is_pes
      given_is stl_eq
      pes_eq not_two.
      let l = settings_of_options choices in
      let r = l.reading in
      let by = options_allow_no_delay_or_keeping choices in
      exit_code_decides_acceptance
      (program ∷ codes "check" ∷ stl ∷ pes ∷ flat_map arguments_of_check_recording_option
      choices)
      stl pes
      (stream_of r) r.range r.options l.national l.layout r.scope file bytes
      (bytes_selected r bytes)
      (record {
        requested = λ request. law_of_check_recording_arguments program stl pes choices request
            is_stl is_pes;
        none = by.0;
        off = by.1;
      }) given_is stl_eq pes_eq (part_of_known_bytes r.pid r.size r.range bytes) not_two

  requests_check_chosen :
      (program stl pes : Text) (choices : List CheckOption)
      → IsName stl
      → IsName pes
      → ArgumentsRequestCheck
      (program ∷ codes "check" ∷ stl ∷ pes ∷ flat_map arguments_of_check_option choices)
      stl pes
      None None (options_of_check_options choices) English default_layout whole
  requests_check_chosen program stl pes choices is_stl is_pes =
      let by = options_allow_no_delay_or_keeping (map Of (map Any choices)) in
      let at =
      ap (λ (l : CheckRecordingSettings). l.reading.options)
      (settings_of_parts (settings_of_options []) (map Any choices))
      ∙ ap (λ (r : Reading). r.options) (choices_keep_reading (reading_of []) choices) in
      record {
        requested = λ request. law_of_chosen_arguments program stl pes choices request is_stl
            is_pes;
        none = ap (λ (o : OptionsValue). o.within) (sym at) ∙ by.0;
        off = ap (λ (o : OptionsValue). o.keeps) (sym at) ∙ by.1;
      }

  chosen_run_decides_acceptance : ForChosenOptions given before
      (λ o file bytes. code ≢ 2 → ExitCodeDecides default_drawing o file bytes code)
  chosen_run_decides_acceptance = λ program stl pes choices file bytes is_stl is_pes given_is stl_eq
      pes_eq
      not_two.
      exit_code_decides_acceptance _ stl pes None None (options_of_check_options choices) English
      default_layout whole file bytes
      bytes
      (requests_check_chosen program stl pes choices is_stl is_pes) given_is stl_eq pes_eq refl
      not_two

  accepted_transmission_is_good :
      (IsSo : OptionsValue → List ℕ → List ℕ → List SubtitleValue → Transmission → Type 0)
      → ((o : OptionsValue) (file bytes : List ℕ) (is : IsAccepted default_drawing o file bytes)
      → IsSo o file bytes is.subtitles is.transmission)
      → ForChosenOptions given before
      (λ o file bytes.
      code ≡ 0
      → IsSo o file bytes (subtitles_by_place file) (frames_by_place o.origin bytes))
  accepted_transmission_is_good IsSo so =
      λ program stl pes choices file bytes is_stl is_pes given_is stl_eq pes_eq none.
      let reported =
      chosen_run_decides_acceptance program stl pes choices file bytes is_stl is_pes given_is stl_eq
      pes_eq
      (λ two. absurd (omega (arith, none, two))) in
      let o = options_of_check_options choices in
      let is = reported.reports.0 none in
      laws_hold_for_bytes o file bytes is reported.fits (IsSo o file bytes) (so o file bytes is)

pub law_of_headline : {K : Type 0} (contents : K → Option (List ℕ)) (failure_count : K → ℕ)
    (IsPush : K → List ℕ → Option ℕ → K → Type 0)
    → LawOfHeadline contents failure_count IsPush
law_of_headline contents failure_count IsPush given before after output left code runs =
    let by =
    accepted_transmission_is_good contents failure_count IsPush output left before after given code
    runs in
    let chosen : ImpliesChosenHeadline given before code =
    by (λ o file bytes. Headline o.page o.every english_due_page)
    (λ o file bytes is. headline whole o file bytes is) in
    let reports =
    recording_run_decides_acceptance contents failure_count IsPush output left before after given
    code runs in
    let not_two = λ (none : code ≡ 0) (two : code ≡ 2). absurd (omega (arith, none, two)) in (
      λ program stl pes. chosen program stl pes [],
      chosen,
      by (λ o file bytes. EachReceiverOfClassGets Dropping o.page o.every)
          (λ o file bytes is. each whole o file bytes is Dropping),
      by (λ o file bytes. EachDecodedPageReads o.page)
          (λ o file bytes is.
          decoded_pages_have_expected_characters o.page o.every is.subtitles is.transmission
          (each whole o file bytes is)),
      by (λ o file bytes. AreReadFrom whole o.origin file bytes)
          (λ o file bytes is. files whole o file bytes is),
      by
          (λ o file bytes subtitles transmission.
          IsTrue o.asks_complete → EachDisplayShows o.page subtitles transmission)
          (λ o file bytes is. complete whole o file bytes is),
      λ program stl pes parts file bytes is_stl is_pes given_is stl_eq pes_eq none.
          let r = reading_of parts in
          let reported =
          reports program stl pes parts file bytes is_stl is_pes given_is stl_eq pes_eq
          (not_two none) in
          let is = reported.reports.0 none in
          read r.scope r.options file (bytes_selected r bytes) is reported.fits
          (Headline r.options.page r.options.every english_due_page)
          (headline r.scope r.options file (bytes_selected r bytes) is),
      λ program stl pes parts file bytes is_stl is_pes given_is stl_eq pes_eq none.
          let r = reading_of parts in
          let reported =
          reports program stl pes parts file bytes is_stl is_pes given_is stl_eq pes_eq
          (not_two none) in
          kept r.scope r.options file (bytes_selected r bytes) (reported.reports.0 none)
          reported.fits,
      λ program stl pes parts file bytes is_stl is_pes given_is stl_eq pes_eq none.
          let r = reading_of parts in
          let reported =
          reports program stl pes parts file bytes is_stl is_pes given_is stl_eq pes_eq
          (not_two none) in
          let is = reported.reports.0 none in
          read r.scope r.options file (bytes_selected r bytes) is reported.fits
          (AreReadFrom r.scope r.options.origin file (bytes_selected r bytes))
          (files r.scope r.options file (bytes_selected r bytes) is),
      λ program stl pes choices file bytes is_stl is_pes given_is stl_eq pes_eq none.
          let l = settings_of_options choices in
          let reported =
          drawn_run_decides_acceptance contents failure_count IsPush output left before after
          given code runs
          program
          stl pes choices file bytes is_stl is_pes given_is stl_eq pes_eq (not_two none) in
          drawn_read l.national l.layout l.reading.scope l.reading.options file
          (bytes_selected l.reading bytes)
          (reported.reports.0 none) reported.fits,
      λ program stl pes choices file bytes is_stl is_pes given_is stl_eq pes_eq not_two.
          let reported =
          chosen_run_decides_acceptance contents failure_count IsPush output left before after given
          code runs
          program stl pes choices file bytes is_stl is_pes given_is stl_eq pes_eq not_two in
          let same = law_of_english_acceptance (options_of_check_options choices) file bytes in
          (λ none. same.0 (reported.reports.0 none), λ is. reported.reports.1 (same.1 is)),
    )
