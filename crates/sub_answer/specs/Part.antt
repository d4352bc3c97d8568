-- The PES packets that a request reads of a file: all PES packets or a range of them, in a PES file
-- or in the transport packets of a PID (ISO/IEC 13818-1).
use Rattle.std.specs.Prelude.{◌≡◌, ℕ, List, Option, Some, None, option_map}
use Rattle.mpeg_ts.specs.CarriedPackets.{carried_bytes}
use Rattle.mpeg_ts.specs.PacketSize.{bytes_of}
use Rattle.ttx_pes.specs.PesPacketRange.{PesPacketRangeValue, first_index, range_bytes}
use Rattle.sub_request.specs.declared.pes_selection.TransportStream.{TransportStream}
use Rattle.sub_request.specs.declared.request.Request.{Request}
use Rattle.sub_request.specs.declared.request.Request.TheVariants as ask
use Rattle.sub_answer.specs.Answering.{InputCall}
use Rattle.sub_answer.specs.declared.part.Part.{Part}

-- All bytes of a file: no PID and no range is selected.
abbrev pub entire_file : Part
entire_file = record { stream = None; range = None }

-- The part of its PES file or recording that a request reads.
abbrev pub part_requested : Request → Part
part_requested (ask.Packets pes) = record { stream = pes.stream; range = pes.range }
part_requested (ask.Check stl pes options national layout scope all) =
    record { stream = pes.stream; range = pes.range }
part_requested (ask.Listen pes listening) = record { stream = pes.stream; range = pes.range }
part_requested (ask.Extract recording pes stream) = record { stream = Some stream; range = None }
part_requested _ = entire_file

-- The bytes that the selected transport packets carry, with gap markers, as `carried_bytes`
-- specifies; or the bytes of the file if no transport packets are selected. `None` if the bytes of
-- the file are not known.
abbrev pub carried_bytes_if_stream : Option TransportStream → Option (List ℕ) → Option (List ℕ)
carried_bytes_if_stream None known_bytes = known_bytes
carried_bytes_if_stream (Some s) known_bytes = option_map
    (carried_bytes s.pid (bytes_of s.packet_size)) known_bytes

-- The bytes of a range of PES packets (`range_bytes`), or all bytes if no range is selected.
abbrev pub bytes_in_range : Option PesPacketRangeValue → Option (List ℕ) → Option (List ℕ)
bytes_in_range None known_bytes = known_bytes
bytes_in_range (Some r) known_bytes = option_map (range_bytes r) known_bytes

-- The number of the first selected PES packet in the file or the stream or, if there is no such
-- packet, the number of PES packets with which the file or the stream begins. `None` if a range is
-- selected and the bytes are not known.
abbrev pub first_number_in_range : Option PesPacketRangeValue → Option (List ℕ) → Option ℕ
first_number_in_range None known_bytes = Some 0
first_number_in_range (Some r) known_bytes = option_map (first_index r) known_bytes

-- The input is the part `part` of the source `whole`, and the call leaves this source in the state
-- `left`. The source is given by the functions for its remaining bytes and its number of failed
-- calls.
pub record IsPartOf
    {D : Type 0} (part : Part) (remaining : D → Option (List ℕ)) (failure_count : D → ℕ)
    (whole left : D) (input : InputCall)
    : Type 0 where
  pub known :
      input.call.known
      ≡ bytes_in_range part.range (carried_bytes_if_stream part.stream (remaining whole))
  pub number :
      input.number.known
      ≡ first_number_in_range part.range (carried_bytes_if_stream part.stream (remaining whole))
  pub old_count : input.call.old_count ≡ failure_count whole
  pub new_count : input.call.new_count ≡ failure_count left
  -- If the part is the complete file, the input and the source have the same remaining bytes.
  pub left_eq : part ≡ entire_file → input.call.left ≡ remaining left

-- The input consists of all PES packets, or a range of the PES packets, of another input, and the
-- call leaves this other input in the state `new`. The other input is given by the functions for
-- the bytes of its remaining PES packets, the remaining bytes of its device, and its number of
-- failed calls.
pub record IsRangeOf
    {D : Type 0} (range : Option PesPacketRangeValue) (remaining left : D → Option (List ℕ))
    (failure_count : D → ℕ) (old new : D) (input : InputCall)
    : Type 0 where
  pub known : input.call.known ≡ bytes_in_range range (remaining old)
  pub number : input.number.known ≡ first_number_in_range range (remaining old)
  pub old_count : input.call.old_count ≡ failure_count old
  pub new_count : input.call.new_count ≡ failure_count new
  pub left_eq : range ≡ None → input.call.left ≡ left new
