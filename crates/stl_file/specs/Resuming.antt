-- The state of a reader of a subtitle file that continues after a rejected subtitle, and the bytes
-- that each call consumes.
use Rattle.std.specs.Prelude.{◌≡◌, ⊤, ℕ, ◌+◌, ◌*◌, ◌/◌, ◌<◌, Bool, true, false, List, [], ◌++◌}
use Rattle.std.specs.Prelude.{length, if◌then◌else◌, Option, None, Result, Ok, Err, is_ok}
use Rattle.std.specs.Io.KnownBytes.{Consumes, IsAtEnd}
use Rattle.stl_file.specs.declared.fault.StlFault.{StlFault}
use Rattle.stl_file.specs.declared.progress.Progress.{Progress}
use Rattle.stl_file.specs.declared.progress.Progress.TheVariants.{Reading, AtEnd, Broken}
use Rattle.stl_file.specs.declared.resuming.Found.{Found}
use Rattle.stl_file.specs.declared.resuming.Found.TheVariants as found
use Rattle.stl_file.specs.Fault.{is_cut, is_first_block_fault}
use Rattle.stl_file.specs.Subtitle.{SubtitleValue}
use Rattle.stl_file.specs.Reading.{StartedSubtitle, Findings, breaks, findings_from, finds, no_more}
use Rattle.stl_file.specs.Reading.{refuses}
use Rattle.stl_file.specs.Reader.{LastIsUnskippedBlock, checked_gsi_of_file}
use Rattle.stl_file.specs.declared.scope.Scope.{Scope}

-- The state of a reader: the scope, the number of the last TTI block that was read or begun, or at
-- which the source failed (0 before the first), the progress, and, until reading ends, the rejected
-- subtitle whose later blocks may follow.
pub record ResumingValue : Type 0 where
  pub scope : Scope
  pub block : ℕ
  pub progress : Progress
  pub refused : Option StartedSubtitle

-- The reader after its GSI block was accepted, or the fault of the GSI block.
abbrev pub resuming_reader_after_gsi : Scope → Result (List ℕ) StlFault → Result ResumingValue
    StlFault
resuming_reader_after_gsi scope (Err f) = Err f
resuming_reader_after_gsi scope (Ok g) =
    Ok (record { scope = scope; block = 0; progress = Reading; refused = None })

-- The result of `open` for a file with the bytes s.
abbrev pub resuming_open_result : Scope → List ℕ → Result ResumingValue StlFault
resuming_open_result scope s = resuming_reader_after_gsi scope (checked_gsi_of_file scope.takes_open
    s)

-- The results of a call and of all later calls, given the call's result, its block number and
-- `rest`, the bytes left.
abbrev pub findings_after_call :
    Scope → ℕ → Option StartedSubtitle → List ℕ → SubtitleValue → Result Found StlFault → Findings
findings_after_call scope block refused rest s (Err f) = breaks f block
findings_after_call scope block refused rest s (Ok found.End) = no_more
findings_after_call scope block refused rest s (Ok found.Subtitle) =
    finds s block (findings_from scope block refused rest)
findings_after_call scope block refused rest s (Ok (found.Refused f)) =
    refuses f block (findings_from scope block refused rest)

-- The result of the call depends on the end of the file: more bytes might change it.
abbrev pub depends_on_end : Result Found StlFault → Bool
depends_on_end (Err f) = is_cut f
depends_on_end (Ok found.End) = true
depends_on_end (Ok _) = false

-- The bytes consumed after block `from` lead to the call's result at block `to`, whatever bytes
-- follow. If the result depends on the end of the file, no bytes follow. All blocks are complete,
-- except a block that ends reading; and a subtitle ends with a block that is not skipped.
pub record LeadsToResult (scope : Scope) (from to : ℕ) (refused next : Option StartedSubtitle)
    (old new : Option (List ℕ)) (s : SubtitleValue) (result : Result Found StlFault) : Type 0 where
  pub bytes : List ℕ
  pub consumed : Consumes old new bytes
  pub block : to ≡ from + (length bytes + 127) / 128
  pub whole : is_ok result ≡ true → 128 * from + length bytes ≡ 128 * to
  pub some : depends_on_end result ≡ false → 0 < length bytes
  pub findings :
      (more : List ℕ)
      → (depends_on_end result ≡ true → more ≡ [])
      → findings_from scope from refused (bytes ++ more)
      ≡ findings_after_call scope to next more s result
  pub ended : depends_on_end result ≡ true → IsAtEnd new
  pub kept : result ≡ Ok found.Subtitle → LastIsUnskippedBlock bytes

-- The progress of a reader after a call, by the call's result.
abbrev pub progress_after_finding : Result Found StlFault → Progress
progress_after_finding (Err f) = Broken
progress_after_finding (Ok found.End) = AtEnd
progress_after_finding (Ok _) = Reading

-- If a subtitle is rejected, the fault is in CS, JC, VP, TCI or TCO of its first block.
abbrev pub IsFirstBlockFaultIfRefused : Found → Type 0
IsFirstBlockFaultIfRefused (found.Refused f) = is_first_block_fault f ≡ true
IsFirstBlockFaultIfRefused _ = ⊤

-- The result of a call, after the reader has read blocks up to the last block of a subtitle, the
-- end of the file or a fault. A fault in CS, JC, VP, TCI or TCO of a subtitle's first block only
-- rejects the subtitle.
abbrev pub found_of : Result Bool StlFault → Result Found StlFault
found_of (Ok true) = Ok found.Subtitle
found_of (Ok false) = Ok found.End
found_of (Err f) = if is_first_block_fault f then Ok (found.Refused f) else Err f
