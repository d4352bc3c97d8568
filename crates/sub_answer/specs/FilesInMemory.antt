-- The meaning of the exit status of `check` for files in memory.
use Rattle.std.specs.Prelude.{◌≡◌, ◌≢◌, ◌↔◌, ⊤, ℕ, List, Some, true}
use Rattle.sub_io.specs.Memory.{MemSinkValue}
use Rattle.stl_rows.specs.Layout.{drawing_within}
use Rattle.sub_request.specs.declared.request.Request.{Request}
use Rattle.sub_request.specs.declared.request.Request.TheVariants as ask
use Rattle.sub_files.specs.FileCalls.{CallsInOrder}
use Rattle.sub_files.specs.MemoryFiles.{IsMemoryCall, MemFilesValue, bytes_at}
use Rattle.sub_check.specs.CheckedFiles.{IsAcceptedBy}
use Rattle.sub_listing.specs.declared.status.Status.{Status}
use Rattle.sub_listing.specs.declared.status.Status.TheVariants.{Done, Fault}
use Rattle.sub_answer.specs.Ending.{BufferedSinkState, Ends, FileObservations, file_observations}
use Rattle.sub_answer.specs.Part.{bytes_in_range, carried_bytes_if_stream}

-- The functions that describe files in memory: all their bytes are known, and reading them never
-- fails.
abbrev pub memory_observations : FileObservations (List ℕ) MemSinkValue
memory_observations =
    file_observations (λ left. Some left) (λ left. 0) (λ file. Some file.bytes)
    (λ file. file.failure_count) (λ file. true)

-- The status of a check is `Done` exactly if the bytes of its subtitle file and the selected bytes
-- of its PES file are accepted.
abbrev pub DecidesAccepted : Request → MemFilesValue → Status → Type 0
DecidesAccepted (ask.Check stl pes options national layout scope all) files status =
    (subtitles bytes read : List ℕ)
    → bytes_at stl.now files ≡ Some subtitles
    → bytes_at pes.name.now files ≡ Some bytes
    → bytes_in_range pes.range (carried_bytes_if_stream pes.stream (Some bytes)) ≡ Some read
    → (status ≡ Done)
    ↔ IsAcceptedBy (drawing_within national layout scope) options subtitles read
DecidesAccepted _ files status = ⊤

-- If `open_and_answer` answered a `check` with files in memory, the status is `Done` exactly if
-- their selected bytes are accepted, unless the output failed or memory ran out. This is true for
-- any standard output. So the clauses about the bytes of files are not empty.
abbrev pub LawOfFilesInMemory : (BufferedSinkState → Type 0) → Type 0
LawOfFilesInMemory IsAlone =
    (request : Request) (before after : MemFilesValue) (old new : BufferedSinkState)
    (status : Status)
    → Ends (CallsInOrder IsMemoryCall before after) memory_observations (λ was is. is ≡ was) request
    IsAlone old new status
    → status ≢ Fault
    → DecidesAccepted request before status
