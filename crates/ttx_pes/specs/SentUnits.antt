-- The Teletext units at given offsets of a data field, which is bytes 45 (data_identifier) to the
-- end of a PES packet.
use Rattle.std.specs.Prelude.{ℕ, ◌+◌, ◌≤◌, All, Bool, true, false, List, take, drop, map}
use Rattle.std.specs.Prelude.{Option, Some, None, Result, Ok, Err}
use Rattle.ttx_pes.specs.declared.fault.PesFault.{PesFault}
use Rattle.ttx_pes.specs.DataUnit.{UnitValue, data_unit_size}
use Rattle.ttx_pes.specs.Reading.{unit_of}

-- The Teletext units at these offsets of a data field.
abbrev pub sent_units : List ℕ → List ℕ → List UnitValue
sent_units field places = map (λ at. unit_of (take data_unit_size (drop at field))) places

-- The Teletext packets of a list of units.
abbrev pub packets_of_units : List UnitValue → List (List ℕ)
packets_of_units units = map (λ (u : UnitValue). u.packet) units

-- The data units at these offsets end within `size` bytes.
abbrev pub EndWithinField : ℕ → List ℕ → Type 0
EndWithinField size places = All (λ at. at + data_unit_size ≤ size) places

-- The Teletext unit of a data unit if it carries one (`Ok true`), or its fault.
abbrev pub unit_if_teletext : List ℕ → Result Bool PesFault → Result (Option UnitValue) PesFault
unit_if_teletext b (Ok true) = Ok (Some (unit_of b))
unit_if_teletext b (Ok false) = Ok None
unit_if_teletext b (Err f) = Err f
