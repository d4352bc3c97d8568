-- The expected page stays the same from one cue to the next.
use Rattle.std.proofs.Common.{◌≡◌, ℕ, ◌-◌, ◌<◌, ◌≤◌, List, ◌∙◌, arith, inl, inr}
use Rattle.std.proofs.lemmas.Bool.{cases_lt}
use Rattle.ttx_page.specs.Page.{Rows}
use Rattle.stl_file.specs.Subtitle.{SubtitleValue}
use Rattle.stl_rows.specs.DuePage.{IsEdge}
use Rattle.sub_plan.proofs.ScheduleBases.{value_stays_without_changes}

-- At each frame that is not a cue, the expected page is the same as at the previous frame.
abbrev pub StaysBetweenEdges : (ℕ → Rows) → List SubtitleValue → Type 0
StaysBetweenEdges due records = (f : ℕ) → 1 ≤ f → (IsEdge records f → ⊥) → due f ≡ due (f - 1)

-- If the expected page is the same up to a frame, it is the same up to the next cue.
pub due_page_lasts_until_edge : (due : ℕ → Rows) (records : List SubtitleValue) (start at end : ℕ)
    → StaysBetweenEdges due records
    → ((e : ℕ) → IsEdge records e → at < e → end ≤ e)
    → ((f : ℕ) → start ≤ f → f ≤ at → due f ≡ due start)
    → start ≤ at
    → (f : ℕ) → start ≤ f → f < end → due f ≡ due start
due_page_lasts_until_edge due records start at end law next so_far within f low high =
    elim (cases_lt at f) [
      | inr here ↦ so_far f low here
      | inl after ↦
          value_stays_without_changes due at f (omega arith) (λ k a c. law k (omega arith)
          (λ edge. absurd (omega (arith, next k edge a))))
          ∙ so_far at within (omega arith)
    ]
