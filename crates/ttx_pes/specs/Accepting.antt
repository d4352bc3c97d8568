-- How a reader reads a PES packet. Of these definitions, public contracts use only `ReadsValue`.
use Rattle.std.specs.Prelude.{◌≡◌, ℕ, zero, suc, ◌+◌, ◌*◌, ◌/◌, ◌%◌, ◌<◌, ◌≤◌, List, [], ◌∷◌}
use Rattle.std.specs.Prelude.{◌++◌, length, take, drop, slice_index, if◌then◌else◌, Bool, Option}
use Rattle.std.specs.Prelude.{◌≢◌, true, false, Err, IfErr, OnOk, Ok, Result}
use Rattle.std.specs.Io.KnownBytes.{Consumes, IsAtEnd}
use Rattle.sub_io.specs.Reading.{◌>>=◌}
use Rattle.ttx_pes.specs.declared.fault.PesFault.{PesFault}
use Rattle.ttx_pes.specs.DataUnit.{UnitValue, data_unit_size, is_teletext}
use Rattle.ttx_pes.specs.PesGrammar.{IsPesValue, PesValue, max_pes_packet_size, payload_size}
use Rattle.ttx_pes.specs.Reading.{is_format_fault, packet_at, units_at}
use Rattle.ttx_pes.specs.Reading.{value_at}
use Rattle.ttx_pes.specs.SentUnits.{EndWithinField, sent_units}

-- The consumed bytes, at least one, determine the result, whatever bytes can follow: a value of
-- exactly these bytes, or a fault.
pub record SettlesPacket
    (old new : Option (List ℕ)) (taken : List ℕ) (r : Result PesValue PesFault) : Type 0 where
  pub consumed : Consumes old new taken
  pub some : 0 < length taken
  pub answer : (rest : List ℕ) → (IsAtEnd new → rest ≡ [])
      → packet_at (taken ++ rest) ≡ (r >>= λ v. Ok (v, rest))

-- The data field (bytes 45 to the end of a PES packet) is empty, or its Teletext units are `units`.
abbrev pub DecodesToUnits : List ℕ → List UnitValue → Type 0
DecodesToUnits field units =
    0 < length field
    → units_at (length (drop 1 field) / data_unit_size) [] (drop 1 field) ≡ Ok units

-- The offset `at` of a data unit as a list of one element, or the empty list if the data unit
-- carries no Teletext packet.
abbrev pub teletext_place : ℕ → List ℕ → List ℕ
teletext_place at field = if is_teletext (slice_index field at) then at ∷ [] else []

-- The offsets of the Teletext units among the n data units from the offset `at` of a data field on.
unfoldable pub teletext_places : ℕ → ℕ → List ℕ → List ℕ
teletext_places zero at field = []
teletext_places (suc n) at field =
    teletext_place at field ++ teletext_places n (at + data_unit_size) field

-- The list `places` has the offsets of all Teletext units of a data field.
abbrev pub AreAllUnitPlaces : List ℕ → List ℕ → Type 0
AreAllUnitPlaces field places =
    places ≡ teletext_places (length (drop 1 field) / data_unit_size) 1 field

-- The data units at this offset of two data fields have the same header: its four bytes are
-- data_unit_id, data_unit_length, field_parity with line_offset, and framing_code.
pub record HasSameUnitHeader (a b : List ℕ) (at : ℕ) : Type 0 where
  pub id : slice_index a at ≡ slice_index b at
  pub size : slice_index a (at + 1) ≡ slice_index b (at + 1)
  pub line : slice_index a (at + 2) ≡ slice_index b (at + 2)
  pub framing_code_matches : slice_index a (at + 3) ≡ slice_index b (at + 3)

-- Each data unit that ends within the first data field has the same header in the second.
abbrev pub HaveSameUnitHeaders : List ℕ → List ℕ → Type 0
HaveSameUnitHeaders a b =
    (k : ℕ) → data_unit_size * k + 1 + data_unit_size ≤ length a
    → HasSameUnitHeader a b (data_unit_size * k + 1)

-- The number is the size of the data field, bytes 45 to the end, of a PES packet of n times 184
-- bytes, for some n from 1 on.
pub record IsDataFieldSize (count : ℕ) : Type 0 where
  pub long : 139 ≤ count
  pub whole : (count + 45) % payload_size ≡ 0

-- Parsed fields of the PES packet in a buffer: its PTS, the size of its data field in bytes, and
-- the offsets of its Teletext units.
pub record BufferedPacketValue : Type 0 where
  pub pts : ℕ
  pub count : ℕ
  pub places : List ℕ

-- The parsed fields for an empty buffer: PTS 0 and an empty data field.
abbrev pub no_buffered_packet : BufferedPacketValue
no_buffered_packet = record { pts = 0; count = 0; places = [] }

-- The data field of the PES packet in a buffer.
abbrev pub data_field_in_buffer : ℕ → List ℕ → List ℕ
data_field_in_buffer count room = take count (drop 45 room)

-- A PES packet with the data field `field` and the parsed fields `h` has this value: the PTS of
-- `h`, and the Teletext units that the data field has at the offsets in `h`.
abbrev pub buffered_frame : List ℕ → BufferedPacketValue → PesValue
buffered_frame field h = record { pts = h.pts; units = sent_units field h.places }

-- The parsed fields agree with this data field, which may be empty: they have its size and the
-- offsets of all its Teletext units. The units and the PTS fit in a `PesFrame`.
pub record ArePacketFields (field : List ℕ) (h : BufferedPacketValue) : Type 0 where
  pub count : length field ≡ h.count
  pub short : h.count + 45 ≤ max_pes_packet_size
  pub within : EndWithinField (length field) h.places
  pub units : DecodesToUnits field (sent_units field h.places)
  pub all : AreAllUnitPlaces field h.places
  pub value : IsPesValue (buffered_frame field h)

-- The PES packet, with this PTS, is valid and repeats the packet with this data field.
pub record IsRepeatedPacket (field : List ℕ) (h : BufferedPacketValue) (pes_packet : List ℕ)
    (pts : ℕ) :
    Type 0 where
  pub value : value_at (drop 6 pes_packet) ≡ Ok (buffered_frame field (record h { pts = pts }))
  pub field_is_after_header : drop 45 pes_packet ≡ field
  pub known : ArePacketFields field (record h { pts = pts })

-- The stored PES packet of a comparing reader: its contents and its data field, which is empty if
-- no packet is stored.
pub record FrameBufferValue : Type 0 where
  pub frame : PesValue
  pub data_field : List ℕ

-- The effect of storing a PES packet. A valid packet is stored, and the answer is true if its data
-- field equals the one stored before. An invalid packet has the fault in the answer.
pub record BuffersPesPacket
    (old : FrameBufferValue) (pes_packet : List ℕ) (answer : Result Bool PesFault)
    (new : FrameBufferValue)
    : Type 0 where
  pub value : OnOk answer (value_at (drop 6 pes_packet) ≡ Ok new.frame)
  pub field : OnOk answer (new.data_field ≡ drop 45 pes_packet)
  pub err : IfErr answer (λ fault. value_at (drop 6 pes_packet) ≡ Err fault)
  pub kind : IfErr answer (λ fault. is_format_fault fault ≡ true)
  pub same : answer ≡ Ok true → new.data_field ≡ old.data_field
  pub units : answer ≡ Ok true → new.frame.units ≡ old.frame.units
  pub other : answer ≡ Ok false → new.data_field ≢ old.data_field

-- The effect of parsing a PES packet into a `PesFrame`. An invalid packet has the fault in the
-- answer.
pub record ReadsValue
    (old : PesValue) (pes_packet : List ℕ) (answer : Result (Unit {0}) PesFault) (new : PesValue)
    : Type 0 where
  pub value : OnOk answer (value_at (drop 6 pes_packet) ≡ Ok new)
  pub err : IfErr answer (λ fault. value_at (drop 6 pes_packet) ≡ Err fault)
  pub kind : IfErr answer (λ fault. is_format_fault fault ≡ true)
