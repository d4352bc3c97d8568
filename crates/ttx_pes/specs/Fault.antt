-- Faults of PES packets: their codes in reports (not defined by a standard), device failures, and
-- faults after which reading can continue.
use Rattle.std.specs.Prelude.{Bool, true, false, codes}
use Rattle.sub_io.specs.FaultCode.{FaultCodeValue, fault_code}
use Rattle.ttx_pes.specs.declared.fault.PesFault.{PesFault}
use Rattle.ttx_pes.specs.declared.fault.PesFault.TheVariants as fault

-- The number and the name of a PES packet fault in reports (not defined by a standard).
abbrev pub pes_code : PesFault → FaultCodeValue
pes_code fault.Truncated = fault_code 30 (codes "Truncated")
pes_code fault.Start = fault_code 31 (codes "Start")
pes_code fault.Length = fault_code 32 (codes "Length")
pes_code fault.Flags = fault_code 33 (codes "Flags")
pes_code fault.NoTime = fault_code 34 (codes "NoTime")
pes_code fault.HeaderLength = fault_code 35 (codes "HeaderLength")
pes_code fault.Time = fault_code 36 (codes "Time")
pes_code fault.DataId = fault_code 37 (codes "DataId")
pes_code fault.UnitLength = fault_code 38 (codes "UnitLength")
pes_code fault.Framing = fault_code 39 (codes "Framing")
pes_code fault.LineOrder = fault_code 40 (codes "LineOrder")
pes_code fault.Read = fault_code 41 (codes "Read")
pes_code fault.Write = fault_code 42 (codes "Write")
pes_code fault.Ended = fault_code 43 (codes "Ended")
pes_code fault.TooMany = fault_code 44 (codes "TooMany")
pes_code fault.Lost = fault_code 45 (codes "Lost")

-- The fault is in the contents of a complete PES packet, so another packet may follow.
abbrev pub is_packet_content_fault : PesFault → Bool
is_packet_content_fault fault.Flags = true
is_packet_content_fault fault.NoTime = true
is_packet_content_fault fault.HeaderLength = true
is_packet_content_fault fault.Time = true
is_packet_content_fault fault.DataId = true
is_packet_content_fault fault.UnitLength = true
is_packet_content_fault fault.Framing = true
is_packet_content_fault fault.LineOrder = true
is_packet_content_fault fault.Lost = true
is_packet_content_fault _ = false

-- The fault is a failed read of the source.
abbrev pub is_read_fault : PesFault → Bool
is_read_fault fault.Read = true
is_read_fault _ = false

-- The fault is a failed write to the sink.
abbrev pub is_write_fault : PesFault → Bool
is_write_fault fault.Write = true
is_write_fault _ = false
