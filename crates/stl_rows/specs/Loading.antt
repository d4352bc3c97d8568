-- The result of loading a subtitle file: the programme of its subtitles, or its first fault.
use Rattle.std.specs.Prelude.{◌≡◌, ℕ, ◌⊎◌, List, [], ◌∷◌, Result, Ok, Err, ⊤, ◌↔◌, ◌≤◌, All, IsOk}
use Rattle.std.specs.Prelude.{Option, Some, None, length, map, true, ◌++◌}
use Rattle.std.specs.List.{AllByRecursion, concat}
use Rattle.std.specs.Io.KnownBytes.{Consumes}
use Rattle.sub_io.specs.Reading.{IfKnown}
use Rattle.stl_file.specs.declared.fault.StlFault.TheVariants.{Read, Unfinished}
use Rattle.stl_file.specs.File.{IsFileFor}
use Rattle.stl_file.specs.Gsi.{gsi_size}
use Rattle.stl_file.specs.Reader.{block_of_byte, findings_within_scope}
use Rattle.stl_file.specs.SubtitleBlocks.{IsBlock}
use Rattle.stl_file.specs.KeptBlocks.{whole_day_scope, has_no_ending_fault, scope_blocks}
use Rattle.stl_file.specs.Subtitle.{SubtitleValue}
use Rattle.stl_file.specs.Reading.{Findings, breaks, finds, no_more, refuses}
use Rattle.stl_rows.specs.declared.layout.Drawing.{Drawing}
use Rattle.stl_rows.specs.declared.fault.LoadFault.{LoadFault}
use Rattle.stl_rows.specs.declared.fault.LoadFaultKind.{LoadFaultKind}
use Rattle.stl_rows.specs.declared.fault.LoadFaultKind.TheVariants.{File, Memory}
use Rattle.stl_rows.specs.declared.times.Times.{Times}
use Rattle.stl_rows.specs.DrawnPage.{drawn}
use Rattle.stl_rows.specs.EveryFault.{faults, load_fault}
use Rattle.stl_rows.specs.Programme.{AreInOrder, ProgrammeValue, faults_of_next_subtitle, times_of}

-- The subtitles that are found in a file and are not rejected.
abbrev pub subtitles_of_findings : Findings → List SubtitleValue
subtitles_of_findings no_more = []
subtitles_of_findings (breaks fault block) = []
subtitles_of_findings (refuses fault block more) = subtitles_of_findings more
subtitles_of_findings (finds t block more) = t ∷ subtitles_of_findings more

-- The programme if the list of faults is empty; otherwise the first fault.
abbrev pub programme_unless_faulty : List LoadFault → ProgrammeValue → Result ProgrammeValue
    LoadFault
programme_unless_faulty [] programme = Ok programme
programme_unless_faulty (fault ∷ more) programme = Err fault

-- The result of loading a file: the programme of its subtitles, or its first fault.
unfoldable pub loaded_programme : Drawing → List ℕ → Result ProgrammeValue LoadFault
loaded_programme drawing file =
    programme_unless_faulty (faults drawing file)
    (record {
      drawing = drawing;
      records = subtitles_of_findings
          (findings_within_scope drawing.scope file);
    })

-- A subtitle ends at block `at`, and no fault comes up to that block. The previous subtitle has the
-- times `before`.
abbrev pub EndsFaultlessAfter : Drawing → Option Times → ℕ → Findings → Type 0
EndsFaultlessAfter drawing before at no_more = ⊥
EndsFaultlessAfter drawing before at (breaks fault block) = ⊥
EndsFaultlessAfter drawing before at (refuses fault block more) = ⊥
EndsFaultlessAfter drawing before at (finds t block more) =
    (faults_of_next_subtitle drawing before t ≡ [])
    × ((at ≡ block) ⊎ EndsFaultlessAfter drawing (Some (times_of t)) at more)

-- A subtitle of the file ends at block `at`, and no fault comes up to that block.
abbrev pub EndsFaultlessSubtitle : Drawing → List ℕ → ℕ → Type 0
EndsFaultlessSubtitle drawing file at = EndsFaultlessAfter drawing None at
    (findings_within_scope drawing.scope file)

-- The meaning of an error of `load` for the bytes of the file. `Memory`: a subtitle ends at the
-- block, and no fault comes up to that block. `Read`: nothing is required, since a failure of the
-- source is no fault of the file. Any other error is the first fault of the file.
abbrev pub IsErrorOfLoad : Drawing → List ℕ → ℕ → LoadFaultKind → Type 0
IsErrorOfLoad drawing file block (File Read) = ⊤
IsErrorOfLoad drawing file block Memory = EndsFaultlessSubtitle drawing file block
IsErrorOfLoad drawing file block kind = loaded_programme drawing file ≡ Err (load_fault block kind)

-- No fault of the file comes before this block, except `Unfinished`: if a file ends within a
-- subtitle, the fault has the number of the last complete block, but is found only when the next
-- block is read.
abbrev pub NoFaultBefore : Drawing → List ℕ → ℕ → Type 0
NoFaultBefore drawing file block =
    (fault : LoadFault)
    → loaded_programme drawing file ≡ Err fault
    → (fault.kind ≡ File Unfinished) ⊎ (block ≤ fault.block)

-- The place of a failure of the source. If the source's bytes are known, `block` is the block of
-- the first byte that was not read, and no fault is found before that block, since it would have
-- been returned instead. That the source failed is not part of this definition.
pub record FailsLoading (drawing : Drawing) (old new : Option (List ℕ)) (block : ℕ) : Type 0 where
  pub bytes : List ℕ
  pub consumed : Consumes old new bytes
  pub block_eq : block ≡ block_of_byte (length bytes)
  pub none : IfKnown old (λ all. NoFaultBefore drawing all block)

-- Bytes are loaded as a programme if and only if they are a subtitle file whose subtitles within
-- the scope are in order, do not overlap and can all be drawn, and the programme consists of these
-- subtitles. So `load` accepts each such file, unless memory cannot be allocated or the source
-- fails.
abbrev pub LawOfLoading : Type 0
LawOfLoading =
    (drawing : Drawing) (s : List ℕ) (ts : List SubtitleValue)
    → (loaded_programme drawing s ≡ Ok (record { drawing = drawing; records = ts }))
    ↔ ((g : List ℕ)
    × IsFileFor drawing.scope s g ts
    × AreInOrder ts
    × All (λ t. IsOk (drawn drawing t)) ts)

-- The same drawing for all subtitles of the day.
abbrev pub full_day_drawing : Drawing → Drawing
full_day_drawing drawing = record drawing { scope = whole_day_scope drawing.scope }

-- The kinds of faults, without their block numbers.
abbrev pub kinds_of : List LoadFault → List LoadFaultKind
kinds_of faults = map (λ (fault : LoadFault). fault.kind) faults

-- If no fault ends reading, the faults and subtitles of a part of a file are the faults and
-- subtitles of the file without the blocks of all other subtitles, apart from block numbers.
abbrev pub LawOfParts : Type 0
LawOfParts =
    (drawing : Drawing) (gsi : List ℕ) (blocks : List (List ℕ))
    → length gsi ≡ gsi_size
    → AllByRecursion IsBlock blocks
    → has_no_ending_fault (findings_within_scope drawing.scope (gsi ++ concat blocks)) ≡ true
    → (kinds_of (faults drawing (gsi ++ concat blocks))
    ≡ kinds_of (faults (full_day_drawing drawing)
    (gsi ++ concat (scope_blocks drawing.scope None blocks))))
    × (subtitles_of_findings (findings_within_scope drawing.scope (gsi ++ concat blocks))
    ≡ subtitles_of_findings (findings_within_scope (whole_day_scope drawing.scope)
    (gsi ++ concat (scope_blocks drawing.scope None blocks))))
