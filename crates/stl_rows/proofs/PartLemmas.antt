-- If no fault ends reading, loading a part of a file gives the same result as loading the file
-- without the other subtitles, apart from block numbers.
use Rattle.std.proofs.Common.{◌≡◌, ℕ, List, [], ◌∷◌, Option, Some, None, map, refl, sym}
use Rattle.std.proofs.Common.{ap, ◌∙◌}
use Rattle.std.proofs.lemmas.List.{map-append}
use Rattle.stl_file.specs.Reader.{findings_within_scope}
use Rattle.stl_file.specs.Reading.{Findings, breaks, finds, no_more, refuses}
use Rattle.stl_file.specs.Subtitle.{SubtitleValue}
use Rattle.stl_file.specs.KeptBlocks.{LawOfScope, whole_day_scope, unnumbered}
use Rattle.stl_rows.specs.declared.fault.LoadFaultKind.{LoadFaultKind}
use Rattle.stl_rows.specs.declared.fault.LoadFaultKind.TheVariants.{File}
use Rattle.stl_rows.specs.declared.layout.Drawing.{Drawing}
use Rattle.stl_rows.specs.declared.times.Times.{Times}
use Rattle.stl_rows.specs.DrawnPage.{drawn}
use Rattle.stl_rows.specs.EveryFault.{faults, faults_after, load_fault}
use Rattle.stl_rows.specs.Loading.{LawOfParts, full_day_drawing, kinds_of, subtitles_of_findings}
use Rattle.stl_rows.specs.Programme.{faults_of_next_subtitle, times_of}

faults_at_block_keep_kinds : (block : ℕ) (kinds : List LoadFaultKind)
    → kinds_of (map (load_fault block) kinds) ≡ kinds
faults_at_block_keep_kinds block [] = refl
faults_at_block_keep_kinds block (k ∷ ks) = ap (λ (l : List LoadFaultKind). k ∷ l)
    (faults_at_block_keep_kinds block ks)

kinds_ignore_block_numbers : (drawing : Drawing) (before : Option Times) (left : Findings)
    → kinds_of (faults_after drawing before left)
    ≡ kinds_of (faults_after drawing before (unnumbered left))
unfolding faults_after
kinds_ignore_block_numbers drawing before no_more = refl
kinds_ignore_block_numbers drawing before (breaks f block) = refl
kinds_ignore_block_numbers drawing before (refuses f block left) =
    ap (λ (l : List LoadFaultKind). File f ∷ l) (kinds_ignore_block_numbers drawing before left)
kinds_ignore_block_numbers drawing before (finds t block left) =
    let kinds = faults_of_next_subtitle drawing before t in
    rw (
      map-append (λ f. f.kind) (map (load_fault block) kinds)
          (faults_after drawing (Some (times_of t)) left),
      map-append (λ f. f.kind) (map (load_fault 0) kinds)
          (faults_after drawing (Some (times_of t)) (unnumbered left)),
      faults_at_block_keep_kinds block kinds,
      faults_at_block_keep_kinds 0 kinds,
      kinds_ignore_block_numbers drawing (Some (times_of t)) left,
    ) refl

records_ignore_block_numbers : (left : Findings) → subtitles_of_findings left ≡
    subtitles_of_findings (unnumbered left)
records_ignore_block_numbers no_more = refl
records_ignore_block_numbers (breaks f block) = refl
records_ignore_block_numbers (refuses f block left) = records_ignore_block_numbers left
records_ignore_block_numbers (finds t block left) =
    ap (λ (l : List SubtitleValue). t ∷ l) (records_ignore_block_numbers left)

-- A drawn page does not depend on the scope, the part of the file that is read.
drawing_ignores_the_scope : (drawing : Drawing) (t : SubtitleValue) → drawn drawing t ≡ drawn
    (full_day_drawing drawing) t
unfolding drawn
drawing_ignores_the_scope drawing t = refl

faults_ignore_the_scope : (drawing : Drawing) (before : Option Times) (left : Findings)
    → faults_after drawing before left ≡ faults_after (full_day_drawing drawing) before left
unfolding faults_after
faults_ignore_the_scope drawing before no_more = refl
faults_ignore_the_scope drawing before (breaks f block) = refl
faults_ignore_the_scope drawing before (refuses f block left) = rw (faults_ignore_the_scope drawing
    before left) refl
faults_ignore_the_scope drawing before (finds t block left) =
    rw (
      drawing_ignores_the_scope drawing t,
      faults_ignore_the_scope drawing (Some (times_of t))
          left,
    ) refl

pub parts_load_like_cut_files : LawOfScope → LawOfParts
unfolding faults
parts_load_like_cut_files law drawing gsi blocks size each read =
    let same = law drawing.scope gsi blocks size each read in (
      kinds_ignore_block_numbers drawing None (findings_within_scope drawing.scope _)
          ∙ ap (λ (l : Findings). kinds_of (faults_after drawing None l)) same
          ∙ sym (kinds_ignore_block_numbers drawing None
          (findings_within_scope (whole_day_scope drawing.scope) _))
          ∙ ap kinds_of (faults_ignore_the_scope drawing None _),
      records_ignore_block_numbers (findings_within_scope drawing.scope _) ∙ ap
          subtitles_of_findings same
          ∙ sym (records_ignore_block_numbers (findings_within_scope (whole_day_scope drawing.scope)
          _)),
    )
