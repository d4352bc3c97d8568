-- Fault codes of a subtitle file, and the origin of each fault: the file's bytes, the source or
-- sink, or the reader's state.
use Rattle.std.specs.Prelude.{Bool, true, false, codes}
use Rattle.sub_io.specs.FaultCode.{FaultCodeValue, fault_code}
use Rattle.stl_file.specs.declared.fault.StlFault.{StlFault}
use Rattle.stl_file.specs.declared.fault.StlFault.TheVariants as fault
use Rattle.stl_file.specs.declared.fault.NormalFault.{NormalFault}
use Rattle.stl_file.specs.declared.fault.NormalFault.TheVariants.{Refused, Write}

-- The number and the name of a fault of reading a subtitle file.
abbrev pub code_of_stl_fault : StlFault → FaultCodeValue
code_of_stl_fault fault.Truncated = fault_code 10 (codes "Truncated")
code_of_stl_fault fault.Format = fault_code 11 (codes "Format")
code_of_stl_fault fault.Rate = fault_code 12 (codes "Rate")
code_of_stl_fault fault.Display = fault_code 13 (codes "Display")
code_of_stl_fault fault.Alphabet = fault_code 14 (codes "Alphabet")
code_of_stl_fault fault.Extension = fault_code 15 (codes "Extension")
code_of_stl_fault fault.Cumulative = fault_code 16 (codes "Cumulative")
code_of_stl_fault fault.CommentFlag = fault_code 17 (codes "CommentFlag")
code_of_stl_fault fault.Justify = fault_code 18 (codes "Justify")
code_of_stl_fault fault.Row = fault_code 19 (codes "Row")
code_of_stl_fault fault.Time = fault_code 20 (codes "Time")
code_of_stl_fault fault.EmptyTime = fault_code 21 (codes "EmptyTime")
code_of_stl_fault fault.Sequence = fault_code 22 (codes "Sequence")
code_of_stl_fault fault.TooLong = fault_code 23 (codes "TooLong")
code_of_stl_fault fault.Unfinished = fault_code 24 (codes "Unfinished")
code_of_stl_fault fault.TooManyBlocks = fault_code 25 (codes "TooManyBlocks")
code_of_stl_fault fault.Read = fault_code 26 (codes "Read")
code_of_stl_fault fault.Ended = fault_code 27 (codes "Ended")

-- The number and the name of an error of writing a normal form.
abbrev pub code_of_normal_fault : NormalFault → FaultCodeValue
code_of_normal_fault (Refused fault block) = code_of_stl_fault fault
code_of_normal_fault Write = fault_code 29 (codes "Write")

-- The fault is in the bytes of the file, not in the device or an earlier fault.
abbrev pub is_file_format_fault : StlFault → Bool
is_file_format_fault fault.Read = false
is_file_format_fault fault.Ended = false
is_file_format_fault _ = true

-- The fault means that the source failed.
abbrev pub is_file_read_failure : StlFault → Bool
is_file_read_failure fault.Read = true
is_file_read_failure _ = false

-- The error means that the sink failed.
abbrev pub is_normal_write_failure : NormalFault → Bool
is_normal_write_failure Write = true
is_normal_write_failure _ = false

-- The fault is in the fields of a TTI block, or in the block's position among the blocks of its
-- subtitle.
abbrev pub is_block_fault : StlFault → Bool
is_block_fault fault.Extension = true
is_block_fault fault.Cumulative = true
is_block_fault fault.CommentFlag = true
is_block_fault fault.Justify = true
is_block_fault fault.Row = true
is_block_fault fault.Time = true
is_block_fault fault.EmptyTime = true
is_block_fault fault.Sequence = true
is_block_fault fault.TooLong = true
is_block_fault _ = false

-- The fault is in CS, JC, VP, TCI or TCO of a subtitle's first block, so the end of the subtitle is
-- still known: its block with EBN FF.
abbrev pub is_first_block_fault : StlFault → Bool
is_first_block_fault fault.Cumulative = true
is_first_block_fault fault.Justify = true
is_first_block_fault fault.Row = true
is_first_block_fault fault.Time = true
is_first_block_fault fault.EmptyTime = true
is_first_block_fault _ = false

-- The fault means that the file ends too early: more bytes might make it valid.
abbrev pub is_cut : StlFault → Bool
is_cut fault.Truncated = true
is_cut fault.Unfinished = true
is_cut _ = false
