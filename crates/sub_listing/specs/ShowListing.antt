-- The output of `show` for a subtitle file.
use Rattle.std.specs.Io.KnownBytes.{Consumes}
use Rattle.std.specs.Prelude.{◌≡◌, ◌⊎◌, ℕ, ◌+◌, ◌<◌, List, codes, decimal, ◌++◌, length, Option}
use Rattle.std.specs.Prelude.{Bool, true, false, None, Some, ◌-◌, ◌≤◌}
use Rattle.stl_file.specs.Fault.{is_file_format_fault, is_file_read_failure}
use Rattle.stl_file.specs.Gsi.{IsGsi, gsi_size}
use Rattle.stl_file.specs.Reader.{FailsReading, Refuses, RefusesOpening, ConsumesSkippedBlocks}
use Rattle.stl_file.specs.Reader.{ReaderValue}
use Rattle.stl_file.specs.Reader.{ConsumesSubtitle, remaining_outcome, outcome_of_file}
use Rattle.stl_file.specs.Reading.{Outcome, ends, fails, gives}
use Rattle.stl_file.specs.Scope.{whole}
use Rattle.stl_file.specs.Tti.{max_blocks}
use Rattle.stl_file.specs.declared.fault.StlFault.{StlFault}
use Rattle.stl_file.specs.declared.progress.Progress.TheVariants.{Reading}
use Rattle.sub_listing.specs.Faults.{stl_line}
use Rattle.sub_listing.specs.Lines.{subtitle_line}
use Rattle.sub_listing.specs.Listing.{ListingRelation, Lists, Listing, done, followed}
use Rattle.sub_listing.specs.Listing.{fault_listing}

-- The outcome of reading the subtitles after the first `from` TTI blocks. At the end, only skipped
-- blocks remain. After a fault of the format, no subtitle file continues there with the bytes that
-- were read; if the file ended too early, no subtitle file ends there with them. If the source
-- failed, the fault names the block that was being read.
abbrev pub ReadsSubtitles : Bool → ℕ → Option (List ℕ) → Outcome → Option (List ℕ) → Type 0
ReadsSubtitles failed from known ends left =
    (failed ≡ false) × (to : ℕ) × ConsumesSkippedBlocks from to known left
ReadsSubtitles failed from known (fails f block) left =
    (is_file_read_failure f ≡ failed)
    × (failed ≡ true → FailsReading whole from block None known left)
    × (is_file_format_fault f ≡ true → Refuses from block known left f)
ReadsSubtitles failed from known (gives s block more) left =
    (following : Option (List ℕ)) × ConsumesSubtitle from block known following s
    × ReadsSubtitles failed block following more left

-- No GSI block of a file for Teletext was read: the source failed within the block, or no file for
-- Teletext begins with these bytes; for a file that ends too early, no such file consists of
-- exactly these bytes.
pub record ReadsWithoutGsi (failed : Bool) (known : Option (List ℕ)) (outcome : Outcome)
    (left : Option (List ℕ)) : Type 0 where
  pub fault : StlFault
  pub outcome_eq : outcome ≡ fails fault 0
  pub read : is_file_read_failure fault ≡ failed
  pub failure :
      failed ≡ true → (bytes : List ℕ) × (length bytes < gsi_size) × Consumes known left bytes
  pub refused : is_file_format_fault fault ≡ true → RefusesOpening known left fault

-- The outcome of reading a subtitle file: a GSI block and the subtitles after it, or a fault in the
-- GSI block.
abbrev pub ReadsFile : Bool → Option (List ℕ) → Outcome → Option (List ℕ) → Type 0
ReadsFile failed known outcome left =
    ReadsWithoutGsi failed known outcome left
    ⊎ ((following : Option (List ℕ)) × (gsi : List ℕ) × IsGsi gsi × Consumes known following gsi
    × ReadsSubtitles failed 0 following outcome left)

-- The output of `show` after `count` subtitles: the line of each further subtitle, and finally the
-- number of subtitles or the line of a fault.
abbrev pub subtitles_listing : ℕ → Outcome → Listing
subtitles_listing count ends = done (decimal count ++ codes " subtitles\n")
subtitles_listing count (fails f block) = fault_listing (stl_line f block)
subtitles_listing count (gives s block more) =
    followed (subtitle_line s) (subtitles_listing (count + 1) more)

-- The subtitles of a file are listed from its start.
abbrev pub ListsSubtitles : ListingRelation
ListsSubtitles = Lists (subtitles_listing 0) outcome_of_file ReadsFile

-- The remaining listing after `count` subtitles, given the reader, or `None` if the GSI block was
-- not read yet.
abbrev pub ListsFrom : Option ReaderValue → ℕ → ListingRelation
ListsFrom None count = Lists (subtitles_listing count) outcome_of_file ReadsFile
ListsFrom (Some r) count =
    Lists (subtitles_listing count) (remaining_outcome r) (λ failed. ReadsSubtitles failed r.block)

-- Either the reader has reported neither the end of the file nor a fault, and at most one subtitle
-- for each block; or neither the GSI block nor a subtitle was read yet.
abbrev pub IsReady : Option ReaderValue → ℕ → Type 0
IsReady None count = count ≡ 0
IsReady (Some r) count = (r.progress ≡ Reading) × (count ≤ r.block) × (r.block ≤ max_blocks)

-- The maximum number of blocks, with the GSI block, that the lister can still count. A block beyond
-- these is read, but not counted.
abbrev pub blocks_left : Option ReaderValue → ℕ
blocks_left None = max_blocks + 1
blocks_left (Some r) = max_blocks - r.block
