-- Options that may follow `check STL RECORDING`, in any order, and the parts of both files that
-- they select.
use Rattle.std.specs.Prelude.{◌≡◌, ◌<◌, ◌^◌, ℕ, Bool, true, List, [], ◌∷◌, Option, Some, None}
use Rattle.std.specs.Prelude.{codes, fold}
use Rattle.std.specs.Prelude.{option_map}
use Rattle.std.specs.List.{flat_map}
use Rattle.clap.specs.Words.{Text}
use Rattle.mpeg_ts.specs.CarriedPackets.{carried_bytes}
use Rattle.mpeg_ts.specs.PacketSize.{bytes_of}
use Rattle.mpeg_ts.specs.declared.packet_size.PacketSize.{PacketSize}
use Rattle.mpeg_ts.specs.declared.packet_size.PacketSize.TheVariants as packet_size
use Rattle.ttx_pes.specs.PesPacketRange.{PesPacketRangeValue, range_bytes}
use Rattle.stl_file.specs.Scope.{whole}
use Rattle.stl_file.specs.declared.scope.Scope.{Scope}
use Rattle.stl_rows.specs.Layout.{default_layout}
use Rattle.stl_rows.specs.declared.national.National.TheVariants.{English}
use Rattle.sub_plan.specs.Options.{OptionsValue}
use Rattle.sub_request.specs.declared.request.Request.{Request}
use Rattle.sub_words.specs.Arguments.{PesSelectionValue}
use Rattle.sub_words.specs.PesTexts.{packet_size_of_text, pid_of_text, range_of_text}
use Rattle.sub_words.specs.Requests.{Requested, IsRequestOf, value_of_request}
use Rattle.sub_words.specs.Texts.{frame_of_text}
use Rattle.sub_headline.specs.PlainOptions.{CheckOption, with_check_option}
use Rattle.sub_headline.specs.PlainOptions.{arguments_of_check_option}
use Rattle.sub_headline.specs.PlainArguments.{IsName, default_options}

-- One option for a recording, with the text of its value and the meaning of that text: the PID or
-- the size of the transport packets, the range of PES packets, or the start or the end of the range
-- of frames in which subtitles begin; the flag for open subtitles; or an option for any files.
pub data RecordingOption : Type 0 where
  Pid : (text : Text) → (pid : ℕ) → pid_of_text text ≡ Some pid → RecordingOption
  Size : (text : Text) → (size : PacketSize) → packet_size_of_text text ≡ Some size →
      RecordingOption
  PesPackets : (text : Text) → (range : PesPacketRangeValue) → range_of_text text ≡ Some range →
      RecordingOption
  From : (text : Text) → (frame : ℕ) → IsName text → frame_of_text text ≡ Some frame →
      RecordingOption
  To : (text : Text) → (frame : ℕ) → IsName text → frame_of_text text ≡ Some frame → RecordingOption
  IncludeOpen : RecordingOption
  Any : CheckOption → RecordingOption

-- The command-line arguments for an option.
abbrev pub arguments_of_recording_option : RecordingOption → List Text
arguments_of_recording_option (Pid text pid is) = codes "--pid" ∷ text ∷ []
arguments_of_recording_option (Size text size is) = codes "--packet-size" ∷ text ∷ []
arguments_of_recording_option (PesPackets text range is) = codes "--pes" ∷ text ∷ []
arguments_of_recording_option (From text frame name is) = codes "--from" ∷ text ∷ []
arguments_of_recording_option (To text frame name is) = codes "--to" ∷ text ∷ []
arguments_of_recording_option IncludeOpen = codes "--open" ∷ []
arguments_of_recording_option (Any choice) = arguments_of_check_option choice

-- The settings for reading both files: the options; the PID, if the recording is a transport
-- stream, and the size of its transport packets; the range of PES packets, if it is limited; and
-- the part of the subtitle file.
pub record Reading : Type 0 where
  pub options : OptionsValue
  pub pid : Option ℕ
  pub size : PacketSize
  pub range : Option PesPacketRangeValue
  pub scope : Scope

-- The settings after one more option.
abbrev pub with_recording_option : Reading → RecordingOption → Reading
with_recording_option r (Pid text pid is) = record r { pid = Some pid }
with_recording_option r (Size text size is) = record r { size = size }
with_recording_option r (PesPackets text range is) = record r { range = Some range }
with_recording_option r (From text frame name is) = record r {
  scope = record { takes_open = r.scope.takes_open; from = frame; to = r.scope.to };
}
with_recording_option r (To text frame name is) = record r {
  scope = record { takes_open = r.scope.takes_open; from = r.scope.from; to = frame };
}
with_recording_option r IncludeOpen = record r {
  scope = record { takes_open = true; from = r.scope.from; to = r.scope.to };
}
with_recording_option r (Any choice) = record r { options = with_check_option r.options choice }

-- The settings for a list of options. By default, a complete PES file and a complete subtitle file
-- are read with the default options.
abbrev pub reading_of : List RecordingOption → Reading
reading_of parts =
    fold with_recording_option
    (record {
      options = default_options;
      pid = None;
      size = packet_size.Plain;
      range = None;
      scope = whole;
    })
    parts

-- The PES packets that the transport packets with a PID carry, with gap markers, as `carried_bytes`
-- specifies; or all bytes if no PID is given.
abbrev pub bytes_carried_in_pid : Option ℕ → PacketSize → List ℕ → List ℕ
bytes_carried_in_pid None size bytes = bytes
bytes_carried_in_pid (Some pid) size bytes = carried_bytes pid (bytes_of size) bytes

-- The bytes of a range of PES packets, as `range_bytes` specifies; or all bytes if no range is
-- given.
abbrev pub pes_packets_in_range : Option PesPacketRangeValue → List ℕ → List ℕ
pes_packets_in_range None bytes = bytes
pes_packets_in_range (Some range) bytes = range_bytes range bytes

-- The bytes of a recording that the settings select.
abbrev pub bytes_selected : Reading → List ℕ → List ℕ
bytes_selected r bytes = pes_packets_in_range r.range (bytes_carried_in_pid r.pid r.size bytes)

-- The selected PES packets of a recording with this name and the PID, packet size and range of
-- these settings.
abbrev pub requested_recording : Text → Reading → PesSelectionValue
requested_recording name r = record {
  name = name;
  stream = option_map (λ pid. record { pid = pid; packet_size = r.size }) r.pid;
  range = r.range;
}

-- If the arguments `check STL RECORDING` and these options are a request, it is a check of the two
-- files with the settings of the options, and the PTS of frame 0 is less than 2^33. STL and
-- RECORDING do not begin with `-`.
abbrev pub LawOfRecordingArguments : Type 0
LawOfRecordingArguments =
    (program stl recording : Text) (parts : List RecordingOption) (request : Request)
    → IsName stl
    → IsName recording
    → IsRequestOf (program ∷ codes "check" ∷ stl ∷ recording ∷ flat_map
    arguments_of_recording_option parts) request
    → (all : Bool)
    × (value_of_request request
    ≡ Requested.Check stl (requested_recording recording (reading_of parts))
    (reading_of parts).options
    English default_layout (reading_of parts).scope all)
    × ((reading_of parts).options.origin < 2 ^ 33)
