-- The state of a reader of a subtitle file, and the bytes that each call consumes.
use Rattle.std.specs.Prelude.{◌≡◌, ⊤, ℕ, ◌+◌, ◌-◌, ◌/◌, ◌≤◌, Bool, true, false, nat_lt}
use Rattle.std.specs.Prelude.{if◌then◌else◌, List, [], ◌∷◌, ◌++◌, length, take, drop, filter}
use Rattle.std.specs.Prelude.{Option, Some, None, Result, Ok, Err}
use Rattle.std.specs.Io.KnownBytes.{Consumes, IsAtEnd}
use Rattle.std.specs.List.{AllByRecursion, concat}
use Rattle.stl_file.specs.declared.fault.StlFault.{StlFault}
use Rattle.stl_file.specs.declared.fault.StlFault.TheVariants as fault
use Rattle.stl_file.specs.declared.progress.Progress.{Progress}
use Rattle.stl_file.specs.declared.progress.Progress.TheVariants.{Reading, AtEnd, Broken}
use Rattle.stl_file.specs.Fault.{is_cut, is_file_read_failure, is_file_format_fault}
use Rattle.stl_file.specs.Gsi.{gsi_size, checked_gsi}
use Rattle.stl_file.specs.Scope.{whole}
use Rattle.stl_file.specs.declared.scope.Scope.{Scope}
use Rattle.stl_file.specs.Tti.{max_blocks, is_unskipped_block}
use Rattle.stl_file.specs.Subtitle.{SubtitleValue}
use Rattle.stl_file.specs.SubtitleBlocks.{IsBlock, AreBlocksOf, AreSubtitleBlocks}
use Rattle.stl_file.specs.Reading.{StartedSubtitle, Findings, breaks, findings_from, finds, no_more}
use Rattle.stl_file.specs.Reading.{refuses}
use Rattle.stl_file.specs.Reading.{Outcome, ends, fails, gives, stopped}
use Rattle.stl_file.specs.File.{IsFileFor}

-- The state of a reader: the GSI block, the number of the last TTI block that was read or begun, or
-- at which the source failed (0 before the first), and the progress.
pub record ReaderValue : Type 0 where
  pub gsi : List ℕ
  pub block : ℕ
  pub progress : Progress

-- A reader counts at most 99,999 blocks. Only after a fault may its block number be 100,000.
abbrev pub HasValidBlockNumber : Progress → ℕ → Type 0
HasValidBlockNumber Broken block = block ≤ max_blocks + 1
HasValidBlockNumber _ block = block ≤ max_blocks

-- Converts a result of `next_into`, with its subtitle, to a result of `next`.
abbrev pub yielded_subtitle :
    Result Bool StlFault → SubtitleValue → Result (Option SubtitleValue) StlFault
yielded_subtitle (Ok true) s = Ok (Some s)
yielded_subtitle (Ok false) s = Ok None
yielded_subtitle (Err f) s = Err f

-- ---- the results of all later calls of a reader

-- The results for the bytes b after `block` TTI blocks, up to the first fault, if there is no
-- current subtitle.
abbrev pub outcome_from : ℕ → List ℕ → Outcome
outcome_from block b = stopped (findings_from whole block None b)

-- The results of all later calls, given the reader's progress, its block number and the bytes left.
abbrev pub outcome_by_progress : Progress → ℕ → List ℕ → Outcome
outcome_by_progress Reading block b = outcome_from block b
outcome_by_progress AtEnd block b = ends
outcome_by_progress Broken block b = fails fault.Ended block

-- The results of all later calls of the reader r, given the bytes left.
abbrev pub remaining_outcome : ReaderValue → List ℕ → Outcome
remaining_outcome r b = outcome_by_progress r.progress r.block b

-- The results of a call and of all later calls, given the call's result and the state after the
-- call.
abbrev pub outcome_after_call : ReaderValue → List ℕ → Result (Option SubtitleValue) StlFault →
    Outcome
outcome_after_call r rest (Err f) = fails f r.block
outcome_after_call r rest (Ok None) = ends
outcome_after_call r rest (Ok (Some s)) = gives s r.block (remaining_outcome r rest)

-- The call returns the first of the remaining results, with its block, and leaves the other
-- results.
pub record GivesNextResult
    (old : ReaderValue) (bytes : List ℕ) (new : ReaderValue) (now : Option (List ℕ))
    (result : Result (Option SubtitleValue) StlFault)
    : Type 0 where
  pub rest : List ℕ
  pub rest_eq : now ≡ Some rest
  pub outcome : remaining_outcome old bytes ≡ outcome_after_call new rest result

-- ---- the results within one call of a reader

-- The block to report for a fault, if the reader has counted `block` blocks. `TooManyBlocks` and
-- `Read` are reported for the next block; a truncated block is already counted.
abbrev pub block_of_fault : ℕ → StlFault → ℕ
block_of_fault block fault.TooManyBlocks = block + 1
block_of_fault block fault.Read = block + 1
block_of_fault block _ = block

-- The block to report for a result, if the reader has counted `block` blocks.
abbrev pub reported_block : ℕ → Result (Option SubtitleValue) StlFault → ℕ
reported_block block (Err f) = block_of_fault block f
reported_block block (Ok found) = block

-- If there are at least 128 bytes, the last 128 of them are not a skipped block.
abbrev pub LastIsUnskippedBlock : List ℕ → Type 0
LastIsUnskippedBlock bytes =
    (prefix last : List ℕ) → bytes ≡ prefix ++ last → IsBlock last → is_unskipped_block last ≡ true

-- ---- the bytes that a call of a reader consumes

-- The list of blocks has a last block, and the last block is not skipped: it is neither user data
-- nor a comment, except that a comment may have a reserved EBN.
abbrev pub EndsWithUnskippedBlock : List (List ℕ) → Type 0
EndsWithUnskippedBlock [] = ⊥
EndsWithUnskippedBlock (b ∷ []) = is_unskipped_block b ≡ true
EndsWithUnskippedBlock (b ∷ c ∷ bs) = EndsWithUnskippedBlock (c ∷ bs)

-- The bytes consumed are the blocks of the subtitle s, with the skipped blocks before and inside
-- them. The number of blocks read rises from `from` to `to`.
pub record ConsumesSubtitle (from to : ℕ) (old new : Option (List ℕ)) (s : SubtitleValue) : Type 0
  where
    pub blocks : List (List ℕ)
    pub counted : from + length blocks ≡ to
    pub each : AllByRecursion IsBlock blocks
    pub are_subtitle_blocks : AreBlocksOf s (filter is_unskipped_block blocks)
    pub ends : EndsWithUnskippedBlock blocks
    pub consumed : Consumes old new (concat blocks)

-- The bytes consumed are only skipped blocks, followed by the end of the file.
pub record ConsumesSkippedBlocks (from to : ℕ) (old new : Option (List ℕ)) : Type 0 where
  pub blocks : List (List ℕ)
  pub counted : from + length blocks ≡ to
  pub each : AllByRecursion IsBlock blocks
  pub skipped : filter is_unskipped_block blocks ≡ []
  pub consumed : Consumes old new (concat blocks)
  pub ended : IsAtEnd new

-- No subtitle file continues with the bytes consumed after `from` TTI blocks, where a subtitle may
-- begin. A fault of a truncated file (`is_cut`) means only that no file ends with these bytes at
-- this position. `to` is the block of the last byte consumed.
pub record Refuses (from to : ℕ) (old new : Option (List ℕ)) (f : StlFault) : Type 0 where
  pub bytes : List ℕ
  pub consumed : Consumes old new bytes
  pub block : to ≡ from + (length bytes + 127) / 128
  pub none :
      (more : List ℕ)
      → (is_cut f ≡ true → more ≡ [])
      → (bs : List (List ℕ))
      → (ts : List SubtitleValue)
      → AreSubtitleBlocks whole (max_blocks - from) bs ts
      → concat bs ≡ bytes ++ more
      → ⊥

-- The number of the block that contains byte n of a file, counted from 0. Block 0 is the GSI block.
abbrev pub block_of_byte : ℕ → ℕ
block_of_byte n = if nat_lt n gsi_size then 0 else (n - gsi_size) / 128 + 1

-- All results have at least this block number. The exception is `Unfinished`, a file that ends
-- within a subtitle: its block is the last complete block, which may be one less.
abbrev pub FindsFrom : ℕ → Findings → Type 0
FindsFrom block no_more = ⊤
FindsFrom block (breaks fault.Unfinished at) = block ≤ at + 1
FindsFrom block (breaks f at) = block ≤ at
FindsFrom block (finds s at more) = (block ≤ at) × FindsFrom block more
FindsFrom block (refuses f at more) = (block ≤ at) × FindsFrom block more

-- What is true if the source failed: `to` is the block of the first byte after the consumed bytes,
-- and whatever follows these bytes, the results have at least this block number, in the sense of
-- `FindsFrom`.
pub record FailsReading
    (scope : Scope) (from to : ℕ) (refused : Option StartedSubtitle) (old new : Option (List ℕ))
    : Type 0 where
  pub bytes : List ℕ
  pub consumed : Consumes old new bytes
  pub block : to ≡ from + length bytes / 128 + 1
  pub none : (more : List ℕ) → FindsFrom to (findings_from scope from refused (bytes ++ more))

-- The bytes that a call consumes, by the call's result. For a subtitle: its blocks, with the
-- skipped blocks before and inside them. For `None`: only skipped blocks, up to the end of the
-- file. For a fault of the format: bytes with which no file continues, or, for a truncated file,
-- ends. If the source failed, the failure was at block `to`. Before the call, `from` blocks were
-- read, and there was no current subtitle.
abbrev pub ConsumesByResult :
    ℕ → ℕ → Option (List ℕ) → Option (List ℕ) → Result (Option SubtitleValue) StlFault → Type 0
ConsumesByResult from to old new (Ok (Some s)) = ConsumesSubtitle from to old new s
ConsumesByResult from to old new (Ok None) = ConsumesSkippedBlocks from to old new
ConsumesByResult from to old new (Err f) =
    (is_file_format_fault f ≡ true → Refuses from to old new f)
    × (is_file_read_failure f ≡ true → FailsReading whole from to None old new)

-- The progress of a reader after a call, by the call's result.
abbrev pub progress_after_result : Progress → Result (Option SubtitleValue) StlFault → Progress
progress_after_result p (Err f) = Broken
progress_after_result p (Ok None) = AtEnd
progress_after_result p (Ok (Some s)) = p

-- ---- opening a file

-- The reader after the GSI block was read, or the fault of the GSI block.
abbrev pub reader_after_gsi : Result (List ℕ) StlFault → Result ReaderValue StlFault
reader_after_gsi (Err f) = Err f
reader_after_gsi (Ok g) = Ok (record { gsi = g; block = 0; progress = Reading })

-- The GSI block of a file's bytes, or the block's first fault.
unfoldable pub checked_gsi_of_file : Bool → List ℕ → Result (List ℕ) StlFault
checked_gsi_of_file takes_open s =
    if nat_lt (length s) gsi_size then Err fault.Truncated
    else checked_gsi takes_open (take gsi_size s)

-- The result of `open` for a file with the bytes s.
abbrev pub open_result : List ℕ → Result ReaderValue StlFault
open_result s = reader_after_gsi (checked_gsi_of_file false s)

-- No file within the scope begins with the bytes consumed. A fault of a truncated file (`is_cut`)
-- means only that no file consists of exactly these bytes.
pub record RefusesOpeningFor (scope : Scope) (old new : Option (List ℕ)) (f : StlFault) : Type 0
  where
    pub bytes : List ℕ
    pub consumed : Consumes old new bytes
    pub none :
        (more : List ℕ)
        → (is_cut f ≡ true → more ≡ [])
        → (g : List ℕ)
        → (ts : List SubtitleValue)
        → IsFileFor scope (bytes ++ more) g ts
        → ⊥

-- No file for Teletext begins with the bytes consumed. A fault of a truncated file means only that
-- no file for Teletext consists of exactly these bytes.
abbrev pub RefusesOpening : Option (List ℕ) → Option (List ℕ) → StlFault → Type 0
RefusesOpening old new f = RefusesOpeningFor whole old new f

-- ---- reading a whole subtitle file

-- The results of reading a whole file, given the result for its GSI block. A fault of the GSI block
-- is reported for block 0.
abbrev pub findings_after_opening : Scope → List ℕ → Result (List ℕ) StlFault → Findings
findings_after_opening scope b (Err f) = breaks f 0
findings_after_opening scope b (Ok g) = findings_from scope 0 None b

-- The results of reading the whole file s within the scope.
unfoldable pub findings_within_scope : Scope → List ℕ → Findings
findings_within_scope scope s =
    findings_after_opening scope (drop gsi_size s) (checked_gsi_of_file scope.takes_open s)

-- The results of reading the whole file s for Teletext.
abbrev pub findings_of_file : List ℕ → Findings
findings_of_file s = findings_within_scope whole s

-- The results of reading the whole file s, up to the first fault.
abbrev pub outcome_of_file : List ℕ → Outcome
outcome_of_file s = stopped (findings_of_file s)
