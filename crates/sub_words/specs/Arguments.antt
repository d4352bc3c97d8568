-- The values of a command's arguments, read from the matches of `clap`.
use Rattle.std.specs.Prelude.{ℕ, ◌^◌, ◌-◌, ◌==◌, Bool, true, false, ◌&&◌, List, [], ◌∷◌, Option}
use Rattle.std.specs.Prelude.{Some, None, Result, Ok, codes, length, nat_le, nat_lt, ok_or}
use Rattle.std.specs.Prelude.{option_and_then, option_map, slice_get, unwrap_or}
use Rattle.std.specs.Prelude.{if◌then◌else◌}
use Rattle.std.specs.Option.{option_map_or}
use Rattle.std.specs.Str.{bytes_eq}
use Rattle.clap.specs.Words.{Row, Text, all_of, first_of}
use Rattle.sub_io.specs.Reading.{◌>>=◌}
use Rattle.ttx_packet.specs.PageId.{PageIdValue, page_of_text}
use Rattle.ttx_pes.specs.PesPacketRange.{PesPacketRangeValue}
use Rattle.mpeg_ts.specs.declared.packet_size.PacketSize.{PacketSize}
use Rattle.stl_file.specs.TimeCode.{day}
use Rattle.stl_file.specs.declared.scope.Scope.{Scope}
use Rattle.stl_rows.specs.declared.layout.Layout.{Layout}
use Rattle.stl_rows.specs.declared.national.National.{National}
use Rattle.stl_rows.specs.Layout.{default_layout}
use Rattle.stl_rows.specs.LayoutText.{layout_of_text}
use Rattle.stl_rows.specs.SubSets.{named_option}
use Rattle.sub_plan.specs.Options.{OptionsValue}
use Rattle.sub_words.specs.PesTexts.{packet_size_of_text, pid_of_text, range_of_text}
use Rattle.sub_words.specs.Texts.{frame_of_text, list_after_texts, list_of_text, number_of_text}
use Rattle.mpeg_ts.specs.declared.survey_options.SurveyOptions.{SurveyOptions}
use Rattle.sub_request.specs.declared.pes_selection.TransportStream.{TransportStream}
use Rattle.sub_request.specs.declared.request.UsageFault.{UsageFault}
use Rattle.sub_request.specs.declared.request.UsageFault.TheVariants as fault

-- The text of an argument; its default if the user gave none; empty if it has no default either.
abbrev pub argument : Text → List Row → Text
argument id rows = unwrap_or (first_of id rows) []

-- The flag is set. `clap` stores the text `true` or `false` for a flag.
abbrev pub has_flag : Text → List Row → Bool
has_flag id rows = bytes_eq (argument id rows) (codes "true")

-- The number, if it is from `least` to `most`; otherwise `None`.
abbrev pub between : ℕ → ℕ → Option ℕ → Option ℕ
between least most None = None
between least most (Some n) = if nat_le least n && nat_le n most then Some n else None

-- The arguments `[--page P] [--origin T] [--complete]` as options with a repeat bound of 1 to
-- 2,160,000 frames (a day) and a PTS of 33 bits, or the first fault if the page is invalid, or a
-- number is missing, invalid or out of range. `asks_complete` is false for a command without this
-- flag.
abbrev pub options_of : Option ℕ → List Row → Result OptionsValue UsageFault
options_of every rows = do
  page ← ok_or (page_of_text (argument (codes "page") rows)) fault.BadPage
  every ← ok_or (between 1 day every) fault.Every
  origin ← ok_or (between 0 (2 ^ 33 - 1) (number_of_text (argument (codes "origin") rows)))
      fault.Origin
  let requested = has_flag (codes "complete") rows in
      Ok (record {
        page = page;
        every = every;
        origin = origin;
        asks_complete = requested;
        within = 0;
        pace = None;
        keeps = false;
      })

-- The argument `[--within N]` as an option: the page must be right within N frames. The fault is
-- `Within` unless N is a number (`number_of_text`) from 0 to 50.
abbrev pub with_within_value : OptionsValue → List Row → Result OptionsValue UsageFault
with_within_value options rows = do
  frames ← ok_or (between 0 50 (number_of_text (argument (codes "within") rows))) fault.Within
  Ok (record options { within = frames })

-- The argument `[--pace K]` as an option: the maximum distance of PES packets, in frames. The fault
-- is `Pace` unless K is a number (`number_of_text`) from 1 to 2,160,000. Without the argument the
-- options do not change.
abbrev pub options_with_pace : OptionsValue → List Row → Result OptionsValue UsageFault
options_with_pace options rows =
    option_map_or
    (λ text. do
      frames ← ok_or (between 1 day (number_of_text text)) fault.Pace
      Ok (record options { pace = Some frames }))
    (first_of (codes "pace") rows) (Ok options)

-- The argument `[--keeping]` as an option: if the flag is set, repeats may keep the page.
abbrev pub with_keeping_value : OptionsValue → List Row → OptionsValue
with_keeping_value options rows =
    if has_flag (codes "keeping") rows then record options { keeps = true } else options

-- The national option of the argument `[--option O]`, or the fault `BadOption`.
abbrev pub national_of : List Row → Result National UsageFault
national_of rows = ok_or (named_option (argument (codes "option") rows)) fault.BadOption

-- The layout of the argument `[--layout TEXT]`, or the fault `BadLayout`; the default layout
-- without the argument.
abbrev pub layout_of : List Row → Result Layout UsageFault
layout_of rows =
    ok_or (option_map_or layout_of_text (first_of (codes "layout") rows) (Some default_layout))
    fault.BadLayout

-- The value of an optional argument without a default: `Some None` if the user left the argument
-- out, `None` if its text is invalid.
abbrev pub parsed_if_present : {A : Type 0} → (Text → Option A) → Text → List Row → Option
    (Option A)
parsed_if_present parsed id rows =
    option_map_or (λ text. option_map Some (parsed text)) (first_of id rows) (Some None)

-- The arguments `[--from TIME] [--to TIME] [--open]` as a scope: the frames at which subtitles may
-- start, by default the whole day, and whether open subtitles are accepted. The fault is `BadTime`.
abbrev pub scope_of : List Row → Result Scope UsageFault
scope_of rows = do
  from ← ok_or (parsed_if_present frame_of_text (codes "from") rows) fault.BadTime
  to ← ok_or (parsed_if_present frame_of_text (codes "to") rows) fault.BadTime
  let takes_open = has_flag (codes "open") rows in
      Ok (record { takes_open = takes_open; from = unwrap_or from 0; to = unwrap_or to day })

-- The PID of the required argument `--pid P`, or the fault `Pid`.
abbrev pub required_pid_of : List Row → Result ℕ UsageFault
required_pid_of rows = ok_or (pid_of_text (argument (codes "pid") rows)) fault.Pid

-- The packet size of the argument `[--packet-size S]`, or the fault `PacketSize`.
abbrev pub packet_size_of : List Row → Result PacketSize UsageFault
packet_size_of rows =
    ok_or (packet_size_of_text (argument (codes "packet-size") rows)) fault.PacketSize

-- The arguments `[--pid P] [--packet-size S]` as a transport stream. Without a PID the file is no
-- transport stream, and a valid packet size has no effect; an invalid one is still a fault.
abbrev pub stream_of : List Row → Result (Option TransportStream) UsageFault
stream_of rows = do
  pid ← ok_or (parsed_if_present pid_of_text (codes "pid") rows) fault.Pid
  packet_size ← packet_size_of rows
  Ok (option_map (λ pid. record { pid = pid; packet_size = packet_size }) pid)

-- The two pages are the same.
abbrev pub is_same_page : PageIdValue → PageIdValue → Bool
is_same_page a b = (a.magazine == b.magazine) && (a.page == b.page)

-- The pages of a survey in eight places; `None` if there are more pages than places.
abbrev pub survey_pages : List PageIdValue → Option (List (Option PageIdValue))
survey_pages pages =
    if nat_lt 8 (length pages) then None
    else Some (slice_get pages 0 ∷ slice_get pages 1 ∷ slice_get pages 2 ∷ slice_get pages 3
    ∷ slice_get pages 4 ∷ slice_get pages 5 ∷ slice_get pages 6 ∷ slice_get pages 7 ∷ [])

-- The pages of the texts of `--page`; `None` if a text is no page, if a page is given twice, or if
-- there are more than eight pages.
abbrev pub survey_pages_of_texts : List Text → Option (List (Option PageIdValue))
survey_pages_of_texts texts =
    option_and_then survey_pages (list_after_texts page_of_text is_same_page [] texts)

-- The pages of the arguments `[--page P]..`, or of the option's default; `None` without both, if a
-- page is invalid or given twice, or if there are more than eight pages.
abbrev pub survey_pages_of : List Row → Option (List (Option PageIdValue))
survey_pages_of rows = option_and_then survey_pages_of_texts (all_of (codes "page") rows)

-- The arguments `[--pid P] [--packet-size S]` as the options of a survey of these pages, which
-- detects the packet size if the user gives none.
abbrev pub survey_options_of :
    List (Option PageIdValue) → List Row → Result SurveyOptions UsageFault
survey_options_of pages rows = do
  pid ← ok_or (parsed_if_present pid_of_text (codes "pid") rows) fault.Pid
  packet_size ← ok_or (parsed_if_present packet_size_of_text (codes "packet-size") rows)
      fault.PacketSize
  Ok (record { pages = pages; pid = pid; packet_size = packet_size })

-- The range of PES packets of the argument `[--pes I-J]`, if the user gives one; the fault `Range`
-- if it is invalid.
abbrev pub range_of_arguments : List Row → Result (Option PesPacketRangeValue) UsageFault
range_of_arguments rows = ok_or (parsed_if_present range_of_text (codes "pes") rows) fault.Range

-- The PES packets to read: the name of a file; the PID and packet size, if the file is a transport
-- stream; and the range of packets, if the user gives one.
pub record PesSelectionValue : Type 0 where
  pub name : Text
  pub stream : Option TransportStream
  pub range : Option PesPacketRangeValue

-- The arguments `RECORDING [--pid P] [--packet-size S] [--pes I-J]` as the PES packets to read.
unfoldable pub pes_selection_of : List Row → Result PesSelectionValue UsageFault
pes_selection_of rows = do
  stream ← stream_of rows
  range ← range_of_arguments rows
  Ok (record { name = argument (codes "recording") rows; stream = stream; range = range })

-- The items of an argument with a list; an empty list without the argument; `None` if the text is
-- no valid list.
abbrev pub parsed_list_of :
    {A : Type 0} → (Text → Option A) → (A → A → Bool) → Text → List Row → Option (List A)
parsed_list_of parsed same id rows = option_map_or (list_of_text parsed same) (first_of id rows)
    (Some [])
