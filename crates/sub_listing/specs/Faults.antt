-- The line of each fault (not defined by a standard). The kind is `fault` for a failed device, for
-- a file that can't or must not be opened or created (`Open`), and for a lack of memory, `usage`
-- for invalid arguments, and `refused` for any other fault.
use Rattle.std.specs.Prelude.{ℕ, Bool, codes, if◌then◌else◌}
use Rattle.sub_io.specs.FaultCode.{FaultCodeValue, fault_code}
use Rattle.stl_file.specs.Fault.{is_file_read_failure, code_of_normal_fault, code_of_stl_fault}
use Rattle.stl_file.specs.declared.fault.NormalFault.TheVariants as normal
use Rattle.stl_file.specs.declared.fault.StlFault.{StlFault}
use Rattle.stl_file.specs.declared.fault.StlFault.TheVariants as stl
use Rattle.stl_rows.specs.declared.fault.LoadFaultKind.{LoadFaultKind}
use Rattle.sub_listing.specs.FaultLine.{line_with}
use Rattle.sub_listing.specs.declared.normal.InputFault.TheVariants as input
use Rattle.sub_listing.specs.declared.packet.PacketFault.{PacketFault}
use Rattle.sub_listing.specs.declared.packet.PacketFault.TheVariants as packet
use Rattle.sub_listing.specs.declared.fault_line.Kind.{Kind}
use Rattle.sub_listing.specs.declared.fault_line.Kind.TheVariants as kind
use Rattle.sub_listing.specs.declared.fault_line.FaultLine.{FaultLine}
use Rattle.sub_listing.specs.declared.writing.WriteFault.{WriteFault}
use Rattle.sub_listing.specs.declared.writing.WriteFault.TheVariants as write
use Rattle.sub_rules.specs.Fault.{code_of_check_fault, is_failure, place_of_fault}
use Rattle.sub_rules.specs.declared.fault.CheckFault.{CheckFault}
use Rattle.sub_rules.specs.declared.fault.CheckFault.TheVariants as check
use Rattle.sub_rules.specs.declared.fault_place.FaultPlace.TheVariants as place
use Rattle.sub_plan.specs.Fault.{is_plan_write_failure, code_of_plan_fault}
use Rattle.sub_request.specs.Fault.{code_of_usage_fault}
use Rattle.sub_request.specs.declared.request.UsageFault.{UsageFault}
use Rattle.sub_request.specs.declared.request.UsageFault.TheVariants as usage

-- ---- faults of files

-- The kind of a fault's line: `fault` if a device or memory failed, otherwise `refused`.
abbrev pub kind_of_failure : Bool → Kind
kind_of_failure fails = if fails then kind.Fault else kind.Refused

-- The line of a fault of a subtitle file, a PES file or a recording, which a check or another
-- command found.
abbrev pub check_line : CheckFault → FaultLine
check_line f = line_with (kind_of_failure (is_failure f)) (code_of_check_fault f) (place_of_fault f)

-- The line of a fault at a block that a command found while it loaded a subtitle file; block 0 is
-- the GSI block. For a fault in a text, the line also contains the position in the text.
abbrev pub load_line : LoadFaultKind → ℕ → FaultLine
load_line f block = check_line (check.Subtitles (record { kind = f; block = block }))

-- The line of a fault at a block that `show` or `normal` found in a subtitle file; block 0 is the
-- GSI block.
abbrev pub stl_line : StlFault → ℕ → FaultLine
stl_line f block = line_with (kind_of_failure (is_file_read_failure f)) (code_of_stl_fault f)
    (place.Block block)

-- ---- faults of one Teletext packet

-- The number and the name of a fault of a Teletext packet (not defined by a standard).
abbrev pub packet_code : PacketFault → FaultCodeValue
packet_code packet.BadAddress = fault_code 3 (codes "BadAddress")
packet_code packet.BadHeader = fault_code 4 (codes "BadHeader")

-- The line of a fault of a Teletext packet.
abbrev pub packet_line : PacketFault → FaultLine
packet_line f = line_with kind.Refused (packet_code f) place.Nowhere

-- ---- faults of arguments

-- The kind of a fault of the arguments: `fault` for `Open`, a file that can't or must not be opened
-- or created, and for a lack of memory; otherwise `usage`.
abbrev pub usage_kind : UsageFault → Kind
usage_kind usage.Open = kind.Fault
usage_kind usage.Memory = kind.Fault
usage_kind _ = kind.Usage

-- The line of a `UsageFault`: invalid arguments, a file that can't or must not be opened or
-- created, or a lack of memory.
abbrev pub usage_line : UsageFault → FaultLine
usage_line f = line_with (usage_kind f) (code_of_usage_fault f) place.Nowhere

-- ---- faults of a file that is written

-- The line of a fault of `schedule` or `normal`. The kind is `fault` for a failed device and for a
-- lack of memory, and otherwise `refused`.
abbrev pub write_line : WriteFault → FaultLine
write_line (write.Input (input.Read block)) = stl_line stl.Read block
write_line (write.Input input.Memory) = usage_line usage.Memory
write_line (write.Load f) = load_line f.kind f.block
write_line (write.Normal (normal.Refused f block)) = stl_line f block
write_line (write.Normal f) = line_with kind.Fault (code_of_normal_fault f) place.Nowhere
write_line (write.Plan f) = line_with (kind_of_failure (is_plan_write_failure f))
    (code_of_plan_fault f) place.Nowhere
