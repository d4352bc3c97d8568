-- Each reliable subtitle can be drawn. In a file without faults, all subtitles are reliable.
use Rattle.std.proofs.Common.{◌≡◌, ℕ, Bool, false, true, List, [], ◌∷◌, ◌++◌, Option, Some, None}
use Rattle.std.proofs.Common.{map, refl, ap, arith, Result, Ok, Err, zero, suc, ◌<◌, ◌≤◌}
use Rattle.std.proofs.Common.{get_or, length}
use Rattle.std.proofs.lemmas.Bool.Decides.{nat_tests}
use Rattle.std.specs.Prelude.{All, IsOk, is_none, nat_lt, ◌&&◌}
use Rattle.ttx_page.specs.Page.{Rows}
use Rattle.stl_file.specs.Reader.{findings_within_scope}
use Rattle.stl_file.specs.Reading.{Findings, breaks, finds, no_more, refuses}
use Rattle.stl_file.specs.Subtitle.{IsSubtitle, SubtitleValue}
use Rattle.stl_rows.specs.declared.fault.LoadFaultKind.{LoadFaultKind}
use Rattle.stl_rows.specs.declared.fault.RowFault.{RowFault}
use Rattle.stl_rows.specs.declared.layout.Drawing.{Drawing}
use Rattle.stl_rows.specs.declared.times.Times.{Times}
use Rattle.stl_rows.specs.DrawnPage.{drawn}
use Rattle.stl_rows.specs.EveryFault.{faults, faults_after, load_fault}
use Rattle.stl_rows.specs.Judged.{ReliableSubtitles, ReliableSubtitle, LawOfFaultlessFiles}
use Rattle.stl_rows.specs.Judged.{LawOfReliableSubtitles}
use Rattle.stl_rows.specs.Judged.{LawOfReliableFiles, is_followed_in_order, is_undecided_in}
use Rattle.stl_rows.specs.Judged.{judged_subtitles_with_bits}
use Rattle.stl_rows.specs.Judged.{is_undecided_from, with_judged_in_front, judged_after}
use Rattle.stl_rows.specs.Judged.{reliable_subtitles_of}
use Rattle.stl_rows.specs.Loading.{subtitles_of_findings}
use Rattle.stl_rows.specs.Programme.{faults_of_next_subtitle, row_faults, times_of}
use Rattle.stl_rows.specs.TextCode.{first_of}
use Rattle.stl_rows.proofs.FaultlessLemmas.{empty_append_has_empty_parts, empty_map_has_empty_list}

faultless_subtitle_is_drawn : (order : List LoadFaultKind) (r : Result Rows RowFault)
    → is_none (first_of (order ++ row_faults r)) ≡ true
    → IsOk r
faultless_subtitle_is_drawn [] (Ok page) none = grind arith
faultless_subtitle_is_drawn [] (Err f) none = absurd cc
faultless_subtitle_is_drawn (k ∷ ks) r none = absurd cc

every_judged_subtitle_is_drawn : (drawing : Drawing) (before : Option Times) (other : Bool)
    (left : Findings)
    → All (λ (j : ReliableSubtitle). IsOk (drawn drawing j.subtitle))
    (judged_after drawing before other left).judged
unfolding judged_after
every_judged_subtitle_is_drawn drawing before other no_more = grind (arith, nat_tests)
every_judged_subtitle_is_drawn drawing before other (breaks f block) = grind (arith, nat_tests)
every_judged_subtitle_is_drawn drawing before other (refuses f block left) =
    grind (arith, nat_tests, (every_judged_subtitle_is_drawn drawing before true left))
every_judged_subtitle_is_drawn drawing before other (finds t block left) =
    grind (
      arith,
      nat_tests,
      faultless_subtitle_is_drawn,
      (every_judged_subtitle_is_drawn drawing (Some (times_of t)) true left),
      (every_judged_subtitle_is_drawn drawing (Some (times_of t)) false left),
    )

pub judged_subtitles_can_be_drawn : LawOfReliableSubtitles
unfolding reliable_subtitles_of
judged_subtitles_can_be_drawn drawing file = every_judged_subtitle_is_drawn drawing None false
    (findings_within_scope drawing.scope file)

abbrev AllDecided : ReliableSubtitles → Type 0
AllDecided all =
    (all.is_before_unreliable ≡ false)
    × ((start frame : ℕ) → is_undecided_from start all.judged all.is_before_unreliable frame ≡
    false)

empty_judgement_is_decided : AllDecided (record { judged = []; is_before_unreliable = false })
empty_judgement_is_decided = (refl, λ start frame. grind (arith, nat_tests))

clean_subtitle_stays_decided : (t : SubtitleValue) (all : ReliableSubtitles)
    → AllDecided all
    → AllDecided (with_judged_in_front (record { subtitle = t; is_after_unreliable = false }) all)
clean_subtitle_stays_decided t all h =
    (h.0, λ start frame. let rest = h.1 t.tco frame in grind (arith, nat_tests))

empty_faults_have_no_first : (order row : List LoadFaultKind) → order ++ row ≡ [] → is_none
    (first_of order) ≡
    true
empty_faults_have_no_first [] row e = refl
empty_faults_have_no_first (k ∷ ks) row e = absurd cc

followed : (drawing : Drawing) (t : SubtitleValue) (left : Findings)
    → faults_after drawing (Some (times_of t)) left ≡ []
    → is_followed_in_order (times_of t) left ≡ true
unfolding faults_after
followed drawing t no_more none = grind (arith, nat_tests)
followed drawing t (breaks f block) none = grind (arith, nat_tests)
followed drawing t (refuses f block left) none = grind (arith, nat_tests)
followed drawing t (finds u block left) none =
    grind (
      arith,
      nat_tests,
      empty_append_has_empty_parts,
      empty_faults_have_no_first,
      empty_map_has_empty_list,
    )

faultless_findings_are_reliable : (drawing : Drawing) (before : Option Times) (left : Findings)
    → faults_after drawing before left ≡ []
    → (map (λ (j : ReliableSubtitle). j.subtitle) (judged_after drawing before false left).judged
    ≡ subtitles_of_findings left)
    × AllDecided (judged_after drawing before false left)
unfolding faults_after judged_after
faultless_findings_are_reliable drawing before no_more none = (refl, empty_judgement_is_decided)
faultless_findings_are_reliable drawing before (breaks f block) none = absurd cc
faultless_findings_are_reliable drawing before (refuses f block left) none = absurd cc
faultless_findings_are_reliable drawing before (finds t block left) none =
    let parts = empty_append_has_empty_parts
    (map (load_fault block) (faults_of_next_subtitle drawing before t)) _ none in
    let own = empty_map_has_empty_list (load_fault block) (faults_of_next_subtitle drawing before t)
    parts.0 in
    let next = followed drawing t left parts.1 in
    let rest = faultless_findings_are_reliable drawing (Some (times_of t)) left parts.1 in
    rw (own, next) (
      ap (λ (l : List SubtitleValue). t ∷ l) rest.0,
      clean_subtitle_stays_decided t (judged_after drawing (Some (times_of t)) false left) rest.1,
    )

pub faultless_file_is_decided : LawOfFaultlessFiles
unfolding faults reliable_subtitles_of
faultless_file_is_decided drawing file none =
    let all = faultless_findings_are_reliable drawing None (findings_within_scope drawing.scope
    file) none in
    (all.0, λ frame. all.1.1 0 frame)

clear_bits_leave_frame_decided : (ts : List SubtitleValue) (start frame : ℕ)
    → is_undecided_from start (judged_subtitles_with_bits ts []) false frame ≡ false
clear_bits_leave_frame_decided [] start frame = grind (arith, nat_tests)
clear_bits_leave_frame_decided (t ∷ ts) start frame = let rest = clear_bits_leave_frame_decided ts
    t.tco frame in grind (arith, nat_tests)

pub undecided-none : (ts : List SubtitleValue) (bits : List Bool) (start frame : ℕ)
    → length bits ≡ 0
    → is_undecided_from start (judged_subtitles_with_bits ts bits) false frame ≡ false
undecided-none ts [] start frame none = clear_bits_leave_frame_decided ts start frame
undecided-none ts (bit ∷ bits) start frame none = absurd (omega arith)

pub reliable_file_decides_every_frame : LawOfReliableFiles
unfolding is_undecided_in
reliable_file_decides_every_frame programme frame = clear_bits_leave_frame_decided programme.records
    0 frame

frames_before_start_are_decided : (ts : List SubtitleValue) (bits : List Bool) (other : Bool)
    (start frame : ℕ)
    → frame < start
    → All (λ (t : SubtitleValue). frame < t.tco) ts
    → is_undecided_from start (judged_subtitles_with_bits ts bits) other frame ≡ false
frames_before_start_are_decided [] bits other start frame early after = grind (arith, nat_tests)
frames_before_start_are_decided (t ∷ ts) [] other start frame early after =
    let rest = frames_before_start_are_decided ts [] other t.tco frame (after 0 t (omega arith))
    (λ k d h. after (suc k) d (omega arith)) in
    grind (arith, nat_tests)
frames_before_start_are_decided (t ∷ ts) (bit ∷ bits) other start frame early after =
    let rest = frames_before_start_are_decided ts bits other t.tco frame (after 0 t (omega arith))
    (λ k d h. after (suc k) d (omega arith)) in
    grind (arith, nat_tests)

pub undecided-last : (ts : List SubtitleValue) (bits : List Bool) (other : Bool)
    (start frame : ℕ)
    → start ≤ frame
    → All IsSubtitle ts
    → All (λ (t : SubtitleValue). t.tco ≤ frame) ts
    → is_undecided_from start (judged_subtitles_with_bits ts bits) other frame ≡ other
undecided-last [] bits other start frame le each past = grind (arith, nat_tests)
undecided-last (t ∷ ts) [] other start frame le each past =
    let own : t.tco ≤ frame = past 0 t (omega arith) in
    let times = (each 0 t (omega arith)).times in
    let rest = undecided-last ts [] other t.tco frame own (λ k d h. each (suc k) d (omega arith))
    (λ k d h. past (suc k) d (omega arith)) in
    grind (arith, nat_tests)
undecided-last (t ∷ ts) (bit ∷ bits) other start frame le each past =
    let own : t.tco ≤ frame = past 0 t (omega arith) in
    let times = (each 0 t (omega arith)).times in
    let rest = undecided-last ts bits other t.tco frame own
    (λ k d h. each (suc k) d (omega arith)) (λ k d h. past (suc k) d (omega arith)) in
    grind (arith, nat_tests)

-- From the start frame on, the expected page is unknown if and only if the first subtitle that ends
-- after the frame starts after the frame and has its bit set: an unreliable subtitle directly
-- precedes it.
pub undecided-next : (ts : List SubtitleValue) (bits : List Bool) (other : Bool)
    (start frame at : ℕ) (d : SubtitleValue)
    → start ≤ frame
    → All IsSubtitle ts
    → at < length ts
    → ((k : ℕ) (d : SubtitleValue) → k < at → (get_or ts k d).tco ≤ frame)
    → ((k : ℕ) (d : SubtitleValue) → at ≤ k → k < length ts → frame < (get_or ts k d).tco)
    → is_undecided_from start (judged_subtitles_with_bits ts bits) other frame
    ≡ (nat_lt frame (get_or ts at d).tci && get_or bits at false)
undecided-next [] bits other start frame at d le each inside before after = absurd (omega arith)
undecided-next (t ∷ ts) [] other start frame zero d le each inside before after =
    let rest = frames_before_start_are_decided ts [] other t.tco frame
    (after 0 t (omega arith) (omega arith))
    (λ k d h. after (suc k) d (omega arith) (omega arith)) in
    grind (arith, nat_tests)
undecided-next (t ∷ ts) (bit ∷ bits) other start frame zero d le each inside before after =
    let rest = frames_before_start_are_decided ts bits other t.tco frame (after 0 t (omega arith)
    (omega arith))
    (λ k d h. after (suc k) d (omega arith) (omega arith)) in
    grind (arith, nat_tests)
undecided-next (t ∷ ts) [] other start frame (suc at) d le each inside before after =
    let own : t.tco ≤ frame = before 0 t (omega arith) in
    let times = (each 0 t (omega arith)).times in
    let rest = undecided-next ts [] other t.tco frame at d own
    (λ k d h. each (suc k) d (omega arith)) (omega arith)
    (λ k d h. before (suc k) d (omega arith))
    (λ k d h b. after (suc k) d (omega arith) (omega arith)) in
    grind (arith, nat_tests)
undecided-next (t ∷ ts) (bit ∷ bits) other start frame (suc at) d le each inside before after =
    let own : t.tco ≤ frame = before 0 t (omega arith) in
    let times = (each 0 t (omega arith)).times in
    let rest = undecided-next ts bits other t.tco frame at d own
    (λ k d h. each (suc k) d (omega arith)) (omega arith)
    (λ k d h. before (suc k) d (omega arith))
    (λ k d h b. after (suc k) d (omega arith) (omega arith)) in
    grind (arith, nat_tests)
