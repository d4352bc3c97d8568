-- Tests that the output file differs from the input file and from the file that receives standard
-- output (not defined by a standard).
use Rattle.std.specs.Prelude.{Bool, true, false, not, ◌&&◌, ◌==◌}
use Rattle.sub_files.specs.declared.distinct_files.LookupResult.{LookupResult}
use Rattle.sub_files.specs.declared.distinct_files.LookupResult.TheVariants.{At, NothingFound}

-- The lookup of a name, or of standard output, found a file.
abbrev pub is_file_found : LookupResult → Bool
is_file_found (At device inode) = true
is_file_found _ = false

-- The output file does not exist yet; or both files are known, and differ in device or inode.
abbrev pub differs_from_input : (input output : LookupResult) → Bool
differs_from_input input NothingFound = true
differs_from_input (At device inode) (At other_device other_inode) =
    not ((device == other_device) && (inode == other_inode))
differs_from_input input output = false

-- The output is not known to be the file that receives standard output: either of them was not
-- found or could not be looked up, or they differ in device or inode.
abbrev pub differs_from_standard_output : (standard_output output : LookupResult) → Bool
differs_from_standard_output (At device inode) (At output_device output_inode) =
    not ((device == output_device) && (inode == output_inode))
differs_from_standard_output standard_output output = true

-- It is known that creating the output does not empty the input file, and not known that it empties
-- the file that receives standard output.
abbrev pub may_create : (input standard_output output : LookupResult) → Bool
may_create input standard_output output =
    differs_from_input input output && differs_from_standard_output standard_output output
