-- The expected page, and what the checker stores about that page, stay the same until the next cue.
use Rattle.std.proofs.lemmas.Bool.Decides.{nat_tests}
use Rattle.std.proofs.Common.{Option, Some, None, ◌≡◌, ℕ, zero, suc, ◌+◌, ◌-◌, ◌<◌, ◌≤◌, Bool, true}
use Rattle.std.proofs.Common.{List, refl, ap, ◌∙◌, arith}
use Rattle.stl_file.specs.Subtitle.{SubtitleValue}
use Rattle.stl_file.specs.TimeCode.{day}
use Rattle.stl_rows.specs.declared.layout.Drawing.{Drawing}
use Rattle.stl_rows.specs.DuePage.{due, ReportsNextEdge}
use Rattle.stl_rows.specs.Judged.{JudgedValue}
use Rattle.stl_rows.specs.Programme.{ProgrammeValue}
use Rattle.stl_rows.proofs.DuePageLemmas.{page_changes_only_at_edges}
use Rattle.sub_plan.specs.Schedule.{due_page_in}
use Rattle.sub_checker.specs.Checker.{CheckerValue, IsAtFrame, IsJudged, at_frame, is_before}
use Rattle.sub_packets.specs.declared.listener.Listener.{Listener}

due_until :
    (drawing : Drawing) (records : List SubtitleValue) (frame : ℕ) (edge : Option ℕ) (k : ℕ)
    → ReportsNextEdge records frame edge
    → is_before (frame + k) edge ≡ true
    → due drawing records (frame + k) ≡ due drawing records frame
due_until drawing records frame edge zero reports before = ap (due drawing records) (omega arith)
due_until drawing records frame None (suc k) reports before =
    page_changes_only_at_edges drawing records (frame + suc k) (omega arith)
    (λ is. let l = reports (frame + suc k) is in omega arith)
    ∙ ap (due drawing records) (omega arith)
    ∙ due_until drawing records frame None k reports refl
due_until drawing records frame (Some e) (suc k) reports before =
    let l : frame + suc k < e = grind (arith, nat_tests) in
    page_changes_only_at_edges drawing records (frame + suc k) (omega arith)
    (λ is. let m = reports.least (frame + suc k) is (omega arith) in omega (arith, l))
    ∙ ap (due drawing records) (omega arith)
    ∙ due_until drawing records frame (Some e) k reports (grind (arith, nat_tests))

next_cue_stays :
    (records : List SubtitleValue) (frame f : ℕ) (edge : Option ℕ)
    → ReportsNextEdge records frame edge
    → frame ≤ f
    → is_before f edge ≡ true
    → ReportsNextEdge records f edge
next_cue_stays records frame f None reports low before = λ e is. let l = reports e is in omega arith
next_cue_stays records frame f (Some edge) reports low before =
    record {
      is_edge = reports.is_edge;
      after = grind (arith, nat_tests);
      least = λ e is l. reports.least e is (omega arith);
    }

-- If `IsAtFrame` is true at a frame, it is true at each later frame of the day before the next cue.
pub IsAtFrame-later :
    (p : ProgrammeValue) (every : ℕ) (s : Listener) (first latest_frame last frame : ℕ)
    (edge : Option ℕ) (f : ℕ)
    → f < day
    → IsAtFrame p every s first latest_frame last frame edge
    → frame ≤ f
    → is_before f edge ≡ true
    → IsAtFrame p every s first latest_frame last f edge
IsAtFrame-later p every s first latest_frame last frame edge f small is low before =
    let k : frame + (f - frame) ≡ f = omega arith in
    grind (arith, nat_tests, due_until, next_cue_stays)

-- If `IsJudged` is true at a frame, it is true at each later frame. From the next cue on, it
-- requires nothing of `first_known_from`.
pub IsJudged-later :
    (j : JudgedValue) (p : ProgrammeValue) (any_unreliable : Bool) (first within frame : ℕ)
    (edge : Option ℕ) (first_known_from f : ℕ)
    → IsJudged j p any_unreliable first within frame edge first_known_from
    → frame ≤ f
    → IsJudged j p any_unreliable first within f edge first_known_from
IsJudged-later j p any_unreliable first within frame edge first_known_from f is low = grind
    (arith, nat_tests)

pub at_frame-stays :
    (f : ℕ) (c : CheckerValue)
    → c.listener.comparison.due ≡ due_page_in c.programme f
    → record c { frame = f } ≡ at_frame f c
at_frame-stays f c is = grind arith
