-- A subtitle file without the blocks of the subtitles outside the scope.
use Rattle.std.specs.Prelude.{◌≡◌, ℕ, Bool, false, true, not, ◌==◌, if◌then◌else◌, List, [], ◌∷◌}
use Rattle.std.specs.Prelude.{◌++◌, length, Option, Some, None}
use Rattle.std.specs.List.{AllByRecursion, concat}
use Rattle.stl_file.specs.declared.scope.Scope.{Scope}
use Rattle.stl_file.specs.Gsi.{gsi_size}
use Rattle.stl_file.specs.Reader.{findings_within_scope}
use Rattle.stl_file.specs.Reading.{Findings, breaks, finds, no_more, refuses}
use Rattle.stl_file.specs.Scope.{begins_outside}
use Rattle.stl_file.specs.SubtitleBlocks.{IsBlock}
use Rattle.stl_file.specs.TimeCode.{day}
use Rattle.stl_file.specs.Tti.{ebn, is_skipped_block, last_block_ebn}

-- The block b, which is not skipped (`is_skipped_block`), belongs to a subtitle that is not outside
-- the scope. `within` is `None` if b is the first block of a subtitle; for a later block, it says
-- whether the first block was not outside the scope.
abbrev pub stays : Scope → Option Bool → List ℕ → Bool
stays scope None b = not (begins_outside scope b)
stays scope (Some stayed) b = stayed

-- The argument `within` after the block b, which is not skipped: after EBN FF, a subtitle begins.
abbrev pub within_for_next_block : Scope → Option Bool → List ℕ → Option Bool
within_for_next_block scope within b =
    if ebn b == last_block_ebn then None else Some (stays scope within b)

-- The blocks of a file without the blocks of subtitles outside the scope. Skipped blocks, which are
-- comments and user data, stay in the list.
abbrev pub scope_blocks : Scope → Option Bool → List (List ℕ) → List (List ℕ)
scope_blocks scope within [] = []
scope_blocks scope within (b ∷ bs) =
    if is_skipped_block b then b ∷ scope_blocks scope within bs
    else if stays scope within b then b ∷ scope_blocks scope (within_for_next_block scope within b)
    bs
    else scope_blocks scope (within_for_next_block scope within b) bs

-- The scope of all subtitles of the day, for the same displays.
abbrev pub whole_day_scope : Scope → Scope
whole_day_scope scope = record scope { from = 0; to = day }

-- No fault ends the reading of the file, though subtitles may be rejected.
abbrev pub has_no_ending_fault : Findings → Bool
has_no_ending_fault no_more = true
has_no_ending_fault (breaks f block) = false
has_no_ending_fault (finds s block more) = has_no_ending_fault more
has_no_ending_fault (refuses f block more) = has_no_ending_fault more

-- Sets all block numbers in the results to 0, to compare results apart from block numbers.
abbrev pub unnumbered : Findings → Findings
unnumbered no_more = no_more
unnumbered (breaks f block) = breaks f 0
unnumbered (finds s block more) = finds s 0 (unnumbered more)
unnumbered (refuses f block more) = refuses f 0 (unnumbered more)

-- If no fault ends the reading of a file within a scope, the results are, apart from block numbers,
-- those of reading, for the whole day, the file without the blocks of the subtitles outside the
-- scope. So a part of a file can be checked without cutting it out.
abbrev pub LawOfScope : Type 0
LawOfScope =
    (scope : Scope) (gsi : List ℕ) (blocks : List (List ℕ))
    → length gsi ≡ gsi_size
    → AllByRecursion IsBlock blocks
    → has_no_ending_fault (findings_within_scope scope (gsi ++ concat blocks)) ≡ true
    → unnumbered (findings_within_scope scope (gsi ++ concat blocks))
    ≡ unnumbered (findings_within_scope (whole_day_scope scope)
    (gsi ++ concat (scope_blocks scope None blocks)))

-- No subtitle is outside the scope of the whole day.
abbrev pub LawOfWholeDay : Type 0
LawOfWholeDay = (scope : Scope) (b : List ℕ) → begins_outside (whole_day_scope scope) b ≡ false
