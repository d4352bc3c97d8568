-- Files in memory, whose bytes are known to contracts: a model of a device that opens and creates
-- files.
use Rattle.std.specs.Prelude.{◌≡◌, ℕ, List, [], Option, Some, None, option_map}
use Rattle.std.specs.Prelude.{bytes_eq, if◌then◌else◌}
use Rattle.sub_io.specs.Memory.{MemSinkValue}
use Rattle.sub_files.specs.FileCalls.{FileCall}
use Rattle.sub_files.specs.FileCalls.FileCall.{Create, ReleaseInput, ReleaseOutput, LookUp}
use Rattle.sub_files.specs.FileCalls.FileCall.{LookUpStandardOutput, Open}
use Rattle.sub_files.specs.declared.distinct_files.LookupResult.{LookupResult}
use Rattle.sub_files.specs.declared.distinct_files.LookupResult.TheVariants.{At, NothingFound}
use Rattle.sub_files.specs.declared.memory.MemFile.{MemFile}

-- Two existing files, and the number of bytes that a created file can have; `None` if no file can
-- be created any more.
pub record MemFilesValue : Type 0 where
  pub first : MemFile
  pub second : MemFile
  pub room : Option ℕ

-- The bytes of the one of the two existing files that has this name; `None` if neither has it.
abbrev pub bytes_at : (name : List ℕ) → MemFilesValue → Option (List ℕ)
bytes_at name files =
    if bytes_eq files.first.name.now name then Some files.first.bytes.now
    else if bytes_eq files.second.name.now name then Some files.second.bytes.now
    else None

-- The lookup result for a file with these bytes, or for a missing file. All files in memory have
-- the same device and inode.
abbrev pub lookup_result_for_bytes : Option (List ℕ) → LookupResult
lookup_result_for_bytes (Some bytes) = At 0 0
lookup_result_for_bytes None = NothingFound

-- A created file without contents, which can have this many bytes.
abbrev pub empty_file_with_capacity : ℕ → MemSinkValue
empty_file_with_capacity room = record { bytes = []; room = room; failure_count = 0 }

-- The effect of each call on files in memory. An input file is the list of its bytes that are still
-- to be read, and an output file is the model of a sink in memory. At most one file is created.
abbrev pub IsMemoryCall : MemFilesValue → FileCall (List ℕ) MemSinkValue → MemFilesValue → Type 0
IsMemoryCall old (LookUp name found) new = (new ≡ old) ×
    (found ≡ lookup_result_for_bytes (bytes_at name old))
IsMemoryCall old (LookUpStandardOutput found) new = (new ≡ old) × (found ≡ NothingFound)
IsMemoryCall old (Open name file) new = (new ≡ old) × (file ≡ bytes_at name old)
IsMemoryCall old (Create name file) new =
    (new ≡ record old { room = None }) × (file ≡ option_map empty_file_with_capacity old.room)
IsMemoryCall old (ReleaseInput file) new = new ≡ old
IsMemoryCall old (ReleaseOutput file) new = new ≡ old
