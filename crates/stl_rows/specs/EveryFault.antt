-- Every fault of a subtitle file, in order, and the reports of the faults to a receiver, which may
-- stop the reports.
use Rattle.std.specs.Prelude.{◌≡◌, ℕ, ◌<◌, ◌≤◌, ◌&&◌, nat_lt, not, Bool, true, false, List, []}
use Rattle.std.specs.Prelude.{◌∷◌, ◌++◌, length, map, take, Option, Some, None, Result, Ok, Err}
use Rattle.std.specs.Prelude.{◌⊎◌}
use Rattle.std.specs.List.{filter, list_all}
use Rattle.std.specs.Io.KnownBytes.{Consumes}
use Rattle.sub_io.specs.Reading.{IfKnown}
use Rattle.sub_io.specs.Reporting.{Reports, ReportsSome}
use Rattle.stl_file.specs.declared.fault.StlFault.TheVariants.{Ended, Read, Unfinished}
use Rattle.stl_file.specs.Reader.{block_of_byte, findings_within_scope}
use Rattle.stl_file.specs.Reading.{Findings, breaks, finds, no_more, refuses}
use Rattle.stl_rows.specs.declared.fault.LoadFault.{LoadFault}
use Rattle.stl_rows.specs.declared.fault.LoadFaultKind.{LoadFaultKind}
use Rattle.stl_rows.specs.declared.fault.LoadFaultKind.TheVariants.{File, Memory}
use Rattle.stl_rows.specs.declared.layout.Drawing.{Drawing}
use Rattle.stl_rows.specs.declared.times.Times.{Times}
use Rattle.stl_rows.specs.Programme.{faults_of_next_subtitle, times_of}

-- A fault of this kind at the TTI block with this number, or at the GSI block, number 0.
abbrev pub load_fault : ℕ → LoadFaultKind → LoadFault
load_fault block kind = record { block = block; kind = kind }

-- The faults of the rest of a file, after a subtitle with the times `before`:
--
-- - for a rejected subtitle, the reason, at its first block; times are then compared as if the
--   subtitle did not exist;
-- - for any other subtitle, at its last block: the fault of its times, compared with those of the
--   previous subtitle even if that has faults, and the first fault of drawing the subtitle;
-- - at the end, the fault that ends reading, if there is one.
unfoldable pub faults_after : Drawing → Option Times → Findings → List LoadFault
faults_after drawing before no_more = []
faults_after drawing before (breaks fault block) = load_fault block (File fault) ∷ []
faults_after drawing before (refuses fault block more) =
    load_fault block (File fault) ∷ faults_after drawing before more
faults_after drawing before (finds t block more) =
    map (load_fault block) (faults_of_next_subtitle drawing before t)
    ++ faults_after drawing (Some (times_of t)) more

-- The faults of a subtitle file that is read within the drawing's scope, in the order of the file's
-- blocks. Of the faults of drawing a subtitle, only the first counts.
unfoldable pub faults : Drawing → List ℕ → List LoadFault
faults drawing file = faults_after drawing None (findings_within_scope drawing.scope file)

-- The fault is in the bytes of the file, not in the source or the memory.
abbrev pub is_file_fault : LoadFaultKind → Bool
is_file_fault (File Read) = false
is_file_fault (File Ended) = false
is_file_fault Memory = false
is_file_fault _ = true

-- At least one fault was reported, and all reported faults are in the bytes of the file.
pub record ReportsSomeFileFaults {D : Type 0} (IsReported : D → LoadFault → D → Type 0)
    (old new : D) : Type
    0
  where
    pub faults : List LoadFault
    pub some : 0 < length faults
    pub fault_is_in_file : list_all (λ (f : LoadFault). is_file_fault f.kind) faults ≡ true
    pub reported : Reports IsReported old new faults

-- All faults that were reported, if any, are in the bytes of the file.
pub record ReportsOnlyFileFaults
    {D : Type 0} (IsReported : D → LoadFault → D → Type 0) (old new : D)
    : Type 0 where
  pub faults : List LoadFault
  pub fault_is_in_file : list_all (λ (f : LoadFault). is_file_fault f.kind) faults ≡ true
  pub reported : Reports IsReported old new faults

-- The reports by a result of `load_all`, even if the source's bytes are unknown. If subtitles are
-- returned: no report, or faults of the file. If none are returned: at least one fault of the file.
-- If the source failed or memory could not be allocated: any number of faults.
abbrev pub ReportsByLoadResult : {D A : Type 0}
    → (D → LoadFault → D → Type 0) → D → D → Result (Option A) LoadFault → Type 0
ReportsByLoadResult IsReported old new (Ok (Some found)) = ReportsOnlyFileFaults IsReported old new
ReportsByLoadResult IsReported old new (Ok None) = ReportsSomeFileFaults IsReported old new
ReportsByLoadResult IsReported old new (Err f) = ReportsSome IsReported old new

-- Of the faults `items`, a prefix with at least one fault was reported.
abbrev pub ReportsNonemptyPrefix : {D : Type 0}
    → (D → LoadFault → D → Type 0) → D → D → List LoadFault → Type 0
ReportsNonemptyPrefix IsReported old new items =
    (n : ℕ) × (0 < n) × (n ≤ length items) × Reports IsReported old new (take n items)

-- At least one of the faults `items` was reported: all of them, or a prefix if the receiver of the
-- reports stopped them.
pub record ReportsFaults
    {D : Type 0} (IsReported : D → LoadFault → D → Type 0) (old new : D) (has_stopped : Bool)
    (items : List LoadFault)
    : Type 0 where
  pub all : has_stopped ≡ false → Reports IsReported old new items
  pub prefix : ReportsNonemptyPrefix IsReported old new items

-- The fault means that the file ends within a subtitle.
abbrev pub ends_in_subtitle : LoadFaultKind → Bool
ends_in_subtitle (File Unfinished) = true
ends_in_subtitle _ = false

-- The fault is found before this block is read. If a file ends within a subtitle, the fault has the
-- number of the last complete block, but is found only when the next block is read.
abbrev pub is_reported_before : ℕ → LoadFault → Bool
is_reported_before block fault = nat_lt fault.block block && not (ends_in_subtitle fault.kind)

-- The reports before a failure of the source at `block`. If the source's bytes are known, `block`
-- is the block of the first byte that was not read, and exactly the faults found before that block
-- were reported. That the source failed is not part of this definition.
pub record FailsReporting
    {D : Type 0} (drawing : Drawing) (old new : Option (List ℕ))
    (IsReported : D → LoadFault → D → Type 0) (reported_old reported_new : D) (block : ℕ)
    : Type 0 where
  pub bytes : List ℕ
  pub consumed : Consumes old new bytes
  pub block_eq : block ≡ block_of_byte (length bytes)
  pub reported :
      IfKnown old
      (λ all. Reports IsReported reported_old reported_new
      (filter (is_reported_before block) (faults drawing all)))

-- In the rest of a file, after a subtitle with the times `before`, a subtitle without faults ends
-- at block `at`, and `reported` are exactly the faults of that rest before that subtitle.
abbrev pub EndsSubtitleAfter : Drawing → Option Times → List LoadFault → ℕ → Findings → Type 0
EndsSubtitleAfter drawing before reported at no_more = ⊥
EndsSubtitleAfter drawing before reported at (breaks fault block) = ⊥
EndsSubtitleAfter drawing before reported at (refuses fault block more) =
    (rest : List LoadFault)
    × (reported ≡ load_fault block (File fault) ∷ rest)
    × EndsSubtitleAfter drawing before rest at more
EndsSubtitleAfter drawing before reported at (finds t block more) =
    ((at ≡ block) × (reported ≡ []) × (faults_of_next_subtitle drawing before t ≡ []))
    ⊎ ((rest : List LoadFault)
    × (reported ≡ map (load_fault block) (faults_of_next_subtitle drawing before t) ++ rest)
    × EndsSubtitleAfter drawing (Some (times_of t)) rest at more)

-- The reports before memory runs out at `block`: a subtitle without faults ends at this block, and
-- exactly the faults before that subtitle were reported. That memory ran out is not part of this
-- definition.
pub record RunsOutOfMemory
    {D : Type 0} (drawing : Drawing) (file : List ℕ) (IsReported : D → LoadFault → D → Type 0)
    (old new : D) (block : ℕ)
    : Type 0 where
  pub reported : Reports IsReported old new
      (filter (is_reported_before block) (faults drawing file))
  pub ends :
      EndsSubtitleAfter drawing None (filter (is_reported_before block) (faults drawing file)) block
      (findings_within_scope drawing.scope file)
