-- The line of a fault (not defined by a standard): the kind, which also determines the exit status;
-- the number and the name of the fault; and its place.
use Rattle.std.specs.Prelude.{ℕ, ◌%◌, List, [], ◌++◌, codes, decimal}
use Rattle.sub_io.specs.FaultCode.{FaultCodeValue}
use Rattle.stl_file.specs.TimeCode.{day}
use Rattle.sub_listing.specs.Lines.{number_in_file, time_text}
use Rattle.sub_listing.specs.declared.status.Status.{Status}
use Rattle.sub_listing.specs.declared.status.Status.TheVariants as status
use Rattle.sub_listing.specs.declared.fault_line.Kind.{Kind}
use Rattle.sub_listing.specs.declared.fault_line.Kind.TheVariants as kind
use Rattle.sub_listing.specs.declared.fault_line.FaultLine.{FaultLine}
use Rattle.sub_rules.specs.declared.fault_place.FaultPlace.{FaultPlace}
use Rattle.sub_rules.specs.declared.fault_place.FaultPlace.TheVariants as place

-- The line of a fault with this kind, code and place, if PES packets are counted from 0.
abbrev pub line_with : Kind → FaultCodeValue → FaultPlace → FaultLine
line_with k c p = record { kind = k; code = c; place = p; first = 0 }

-- The line of a fault, if PES packets are counted from the number `first`.
abbrev pub counted_from : ℕ → FaultLine → FaultLine
counted_from first t = record t { first = first }

-- The first word of a fault's line, `refused`, `fault` or `usage`, and a space.
abbrev pub kind_text : Kind → List ℕ
kind_text kind.Refused = codes "refused "
kind_text kind.Fault = codes "fault "
kind_text kind.Usage = codes "usage "

-- The time of a frame of the day, as `HH:MM:SS:FF`. The number is taken modulo the frames of a day.
abbrev pub frame_time_text : ℕ → List ℕ
frame_time_text frame = time_text (frame % day)

-- The text for a frame of the day in a fault's line.
abbrev pub frame_text : ℕ → List ℕ
frame_text frame = codes " frame " ++ frame_time_text frame

-- The text for a fault's place; no text for a fault without a place. PES packets are counted from
-- the number `first`.
abbrev pub place_text : ℕ → FaultPlace → List ℕ
place_text first place.Nowhere = []
place_text first (place.Pes pes) = codes " pes " ++ decimal (number_in_file first pes)
place_text first (place.Block block) = codes " block " ++ decimal block
place_text first (place.Text block at) =
    codes " block " ++ decimal block ++ codes " at " ++ decimal at
place_text first (place.Frame frame) = frame_text frame
place_text first (place.Packet frame packet) =
    frame_text frame ++ codes " packet " ++ decimal packet
place_text first (place.Cell frame row column) =
    frame_text frame ++ codes " row " ++ decimal row ++ codes " column " ++ decimal column

-- The text for a fault's number and name.
abbrev pub code_text : FaultCodeValue → List ℕ
code_text code = decimal code.number ++ codes " " ++ code.name

-- The complete line of a fault.
abbrev pub text_of_fault_line : FaultLine → List ℕ
text_of_fault_line t = kind_text t.kind ++ code_text t.code ++ place_text t.first t.place ++ codes
    "\n"

-- The exit status for a fault's line.
abbrev pub status_of : Kind → Status
status_of kind.Refused = status.Refused
status_of kind.Fault = status.Fault
status_of kind.Usage = status.Fault
