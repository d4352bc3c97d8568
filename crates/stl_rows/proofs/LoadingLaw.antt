-- Bytes are loaded as a programme if and only if they are a subtitle file whose subtitles within
-- the scope are in order, do not overlap and can all be drawn.
use Rattle.std.proofs.Common.{◌≡◌, ℕ, suc, ◌-◌, ◌<◌, ◌≤◌, List, [], ◌∷◌, ◌++◌, Some, None, Result}
use Rattle.std.proofs.Common.{Ok, length, take, map, refl, sym, ◌∙◌, ap, arith, append_assoc}
use Rattle.std.proofs.Common.{append-nil, length-append}
use Rattle.std.proofs.lemmas.Bool.Decides.{nat_tests}
use Rattle.std.proofs.lemmas.List.{get_or_append_left}
use Rattle.std.proofs.lemmas.List.Elements.{All-cons, All-nil}
use Rattle.std.proofs.lemmas.Option.{slice_get-get_or}
use Rattle.std.proofs.Math.Seq.{get_or-append_seam}
use Rattle.std.specs.Prelude.{◌↔◌, All, IsOk, option_map}
use Rattle.std.specs.List.{AllZip}
use Rattle.ttx_page.specs.Page.{Rows}
use Rattle.stl_file.specs.File.{IsFileFor}
use Rattle.stl_file.specs.NormalForm.{prepend_subtitle, subtitles_of}
use Rattle.stl_file.specs.Reader.{findings_within_scope}
use Rattle.stl_file.specs.Reading.{Findings, breaks, finds, no_more, refuses, stopped}
use Rattle.stl_file.specs.Subtitle.{IsSubtitle, SubtitleValue}
use Rattle.stl_file.specs.declared.scope.Scope.{Scope}
use Rattle.stl_file.specs.SubtitleBlocks.{AreBlocksOf}
use Rattle.stl_file.proofs.RestLemmas.{ok_result_splits}
use Rattle.stl_file.proofs.SubtitleBlocksLemmas.{blocks_make_valid_subtitle}
use Rattle.stl_rows.specs.declared.fault.LoadFault.{LoadFault}
use Rattle.stl_rows.specs.declared.fault.RowFault.{RowFault}
use Rattle.stl_rows.specs.declared.layout.Drawing.{Drawing}
use Rattle.stl_rows.specs.DrawnPage.{drawn}
use Rattle.stl_rows.specs.EveryFault.{faults, faults_after, load_fault}
use Rattle.stl_rows.specs.Loading.{LawOfLoading, loaded_programme, subtitles_of_findings}
use Rattle.stl_rows.specs.Loading.{programme_unless_faulty}
use Rattle.stl_rows.specs.Programme.{AreInOrder, IsProgramme, ProgrammeValue}
use Rattle.stl_rows.specs.Programme.{faults_of_next_subtitle}
use Rattle.stl_rows.specs.Programme.{order_faults, row_faults, times_before, times_of}
use Rattle.stl_rows.proofs.FaultlessLemmas.{empty_append_has_empty_parts, empty_map_has_empty_list}
use Rattle.stl_rows.proofs.ProgrammeLemmas.{IsProgramme-none, IsProgramme-push, last_element-push}

-- The reader returns all remaining subtitles. If they are valid and the subtitles before them are a
-- programme, all subtitles together are a programme.
record IsFaultless (n : Drawing) (records : List SubtitleValue) (left : Findings) : Type 0 where
  all : subtitles_of (stopped left) ≡ Ok (subtitles_of_findings left)
  programme : IsProgramme n records
      → All IsSubtitle (subtitles_of_findings left)
      → IsProgramme n (records ++ subtitles_of_findings left)

no_faults_make_programme : (n : Drawing) (records : List SubtitleValue) (left : Findings)
    → faults_after n (times_before records) left ≡ []
    → IsFaultless n records left
unfolding faults_after
no_faults_make_programme n records no_more h = record {
  all = refl;
  programme = λ ok each. rw
      append-nil ok;
}
no_faults_make_programme n records (breaks f block) h = absurd cc
no_faults_make_programme n records (refuses f block left) h = absurd cc
no_faults_make_programme n records (finds t block left) h =
    let parts =
    empty_append_has_empty_parts
    (map (load_fault block) (faults_of_next_subtitle n (times_before records) t)) _ h in
    let none = empty_map_has_empty_list (load_fault block) (faults_of_next_subtitle n
    (times_before records) t) parts.0 in
    let rest = no_faults_make_programme n (records ++ t ∷ []) left
    (rw (ap (option_map times_of) (last_element-push records t)) parts.1) in
    record {
      all = ap (prepend_subtitle t) rest.all;
      programme = λ before each.
          rw append_assoc
          at (rest.programme
          (IsProgramme-push n records t before (each 0 t (omega arith)) none)
          (λ k d h. each (suc k) d (omega arith)));
    }

drawn_page_has_no_fault : (r : Result Rows RowFault) → IsOk r → row_faults r ≡ []
drawn_page_has_no_fault r h = grind arith

later_tci_is_in_order : (before t : SubtitleValue) → before.tci < before.tco → before.tco ≤ t.tci
    → order_faults (Some (times_of before)) (times_of t) ≡ []
later_tci_is_in_order before t times order = grind (arith, nat_tests)

programme_has_no_order_faults : (n : Drawing) (records ts : List SubtitleValue) (t : SubtitleValue)
    → IsProgramme n (records ++ t ∷ ts)
    → order_faults (times_before records) (times_of t) ≡ []
programme_has_no_order_faults n [] ts t ok = refl
programme_has_no_order_faults n (r ∷ rs) ts t ok =
    let records : List SubtitleValue = r ∷ rs in
    let at : ℕ = length records - 1 in
    let size = length-append records (t ∷ ts) in
    let old = get_or_append_left records (t ∷ ts) t at (omega arith) in
    let new = get_or-append_seam records t ts t in
    grind (arith, nat_tests, slice_get-get_or, later_tci_is_in_order)

programme_has_no_follow_faults : (n : Drawing) (records ts : List SubtitleValue) (t : SubtitleValue)
    → IsProgramme n (records ++ t ∷ ts)
    → faults_of_next_subtitle n (times_before records) t ≡ []
programme_has_no_follow_faults n records ts t ok =
    let size = length-append records (t ∷ ts) in
    let drawable : IsOk (drawn n t) =
    rw (get_or-append_seam records t ts t) at (ok.drawable (length records) t (omega arith)) in
    rw (
      programme_has_no_order_faults n records ts t ok,
      drawn_page_has_no_fault (drawn n t)
          drawable,
    ) refl

-- If the rest of a file is read without an error, and the subtitles before and in the rest are a
-- programme together, the rest of the file has no faults.
programme_is_faultless : (n : Drawing) (records : List SubtitleValue) (left : Findings)
    (ts : List SubtitleValue)
    → subtitles_of (stopped left) ≡ Ok ts
    → IsProgramme n (records ++ ts)
    → (faults_after n (times_before records) left ≡ []) × (subtitles_of_findings left ≡ ts)
unfolding faults_after
programme_is_faultless n records no_more ts h ok = (refl, cc)
programme_is_faultless n records (breaks f block) ts h ok = absurd cc
programme_is_faultless n records (refuses f block left) ts h ok = absurd cc
programme_is_faultless n records (finds t block left) ts h ok =
    let given = ok_result_splits t (subtitles_of (stopped left)) ts h in
    let all : IsProgramme n (records ++ t ∷ given.0) = rw given.2 at ok in
    let rest = programme_is_faultless n (records ++ t ∷ []) left given.0 given.1
    (rw append_assoc all) in (
      rw (programme_has_no_follow_faults n records given.0 t all)
          (rw (ap (option_map times_of) (last_element-push records t)) at rest.0),
      ap (λ rs. t ∷ rs) rest.1 ∙ sym given.2,
    )

grouped_blocks_are_subtitles : (ts : List SubtitleValue) (gs : List (List (List ℕ)))
    → AllZip AreBlocksOf ts gs
    → All IsSubtitle ts
grouped_blocks_are_subtitles [] gs e = All-nil IsSubtitle
grouped_blocks_are_subtitles (t ∷ ts) [] e = λ k d h. absurd e
grouped_blocks_are_subtitles (t ∷ ts) (g ∷ gs) e =
    All-cons IsSubtitle t ts (blocks_make_valid_subtitle t g e.0) (grouped_blocks_are_subtitles ts
    gs e.1)

no_faults_load_programme : (fs : List LoadFault) (p q : ProgrammeValue)
    → programme_unless_faulty fs p ≡ Ok q
    → (fs ≡ []) × (p ≡ q)
no_faults_load_programme fs p q h = grind (arith, nat_tests)

pub loaded_file_has_no_faults : (drawing : Drawing) (file : List ℕ) (programme : ProgrammeValue)
    → loaded_programme drawing file ≡ Ok programme
    → faults drawing file ≡ []
unfolding loaded_programme
loaded_file_has_no_faults drawing file programme h = (no_faults_load_programme (faults drawing file)
    _ programme h).0

-- If the definition of a subtitle file and the reader agree on the GSI block and the subtitles of
-- any bytes, the law of loading holds.
pub files_load_as_programmes : ((scope : Scope) (s g : List ℕ) (ts : List SubtitleValue)
    → IsFileFor scope s g ts
    ↔ ((g ≡ take 1024 s) × (subtitles_of (stopped (findings_within_scope scope s)) ≡ Ok ts)))
    → LawOfLoading
unfolding loaded_programme faults
files_load_as_programmes file n s ts = (there, back)
  where
    there : programme_unless_faulty (faults_after n None (findings_within_scope n.scope s))
        (record { drawing = n; records = subtitles_of_findings (findings_within_scope n.scope s) })
        ≡ Ok (record { drawing = n; records = ts })
        → (g : List ℕ) × IsFileFor n.scope s g ts × AreInOrder ts × All (λ t. IsOk (drawn n t)) ts
    there h =
        let own = no_faults_load_programme (faults_after n None (findings_within_scope n.scope s))
        _ _ h in
        let l = no_faults_make_programme n [] (findings_within_scope n.scope s) own.0 in
        let same = ap (λ (p : ProgrammeValue). p.records) own.1 in
        let is = (file n.scope s (take 1024 s) ts).1 (refl, l.all ∙ ap Ok same) in
        let each = grouped_blocks_are_subtitles ts _ is.rest.are_subtitle_blocks in
        let ok : IsProgramme n ts =
        rw same at (l.programme (IsProgramme-none n) (rw same each)) in
        (take 1024 s, is, ok.in_order, ok.drawable)

    back : (g : List ℕ) × IsFileFor n.scope s g ts × AreInOrder ts × All (λ t. IsOk (drawn n t)) ts
        → programme_unless_faulty (faults_after n None (findings_within_scope n.scope s))
        (record { drawing = n; records = subtitles_of_findings (findings_within_scope n.scope s) })
        ≡ Ok (record { drawing = n; records = ts })
    back h =
        let given = ((file n.scope s h.0 ts).0 h.1).1 in
        let all = programme_is_faultless n [] (findings_within_scope n.scope s) ts given (record {
          each = grouped_blocks_are_subtitles ts _ h.1.rest.are_subtitle_blocks;
          in_order = h.2;
          drawable = h.3;
        }) in
        rw (all.0, all.1) refl
