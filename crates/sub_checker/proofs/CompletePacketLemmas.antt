-- If the page is correct at the end of a frame, no cell is unexpected. If, in addition, no fault
-- was active before, the page is not incomplete, no header is overdue, the silence is not too long,
-- and the expected page is known, no fault is active at the end of the frame.
use Rattle.std.proofs.lemmas.Bool.Decides.{nat_tests}
use Rattle.std.proofs.Common.{◌≡◌, ℕ, zero, suc, ap, ◌+◌, ◌<◌, Bool, true, false}
use Rattle.std.proofs.Common.{not, Option, None, is_some, refl}
use Rattle.std.proofs.Common.{arith, ◌==◌}
use Rattle.ttx_page.specs.Page.{Rows, cell}
use Rattle.sub_plan.specs.Schedule.{due_page_in}
use Rattle.sub_packets.specs.StoredPage.{is_kept_page_incomplete, is_kept_cell_right}
use Rattle.sub_packets.specs.StoredPage.{first_unexpected_kept_cell}
use Rattle.sub_packets.specs.StoredPage.{first_wrong_kept_cell}
use Rattle.sub_packets.proofs.WrongCellLemmas.{first_cell-none, no_first_cell_fails_each_cell}
use Rattle.sub_packets.specs.declared.listener.Listener.{Listener}
use Rattle.sub_checker.specs.Checker.{CheckerValue, IsFaultFreeEnd, current_wrong_cell}
use Rattle.sub_checker.specs.Checker.{is_currently_undecided, current_unexpected_cell}
use Rattle.sub_rules.specs.Events.{no_active_faults, is_silent_for, was_due}
use Rattle.sub_checker.proofs.UndecidedLemmas.{was-here}

-- A code that is expected at frame f is one that was expected at frame f or in the n frames before
-- it.
code_due_now_was_due : (due : ℕ → Rows) (first f n row column code : ℕ)
    → (cell (due f) row column == code) ≡ true
    → was_due due first f n row column code ≡ true
unfolding was_due
code_due_now_was_due due first f zero row column code is = is
code_due_now_was_due due first f (suc n) row column code is = rw (code_due_now_was_due due first f n
    row column code is) refl

pub correct_page_has_no_unexpected_cell : (s : Listener) (due : ℕ → Rows) (first f n : ℕ)
    → s.comparison.due ≡ due f
    → first_wrong_kept_cell s ≡ None
    → first_unexpected_kept_cell s due first f n ≡ None
unfolding first_wrong_kept_cell first_unexpected_kept_cell
correct_page_has_no_unexpected_cell s due first f n is none =
    first_cell-none _
    (λ row column there.
    let code : ℕ = cell s.comparison.page row column in
    let right : not (is_kept_cell_right s row column) ≡ false =
    no_first_cell_fails_each_cell (λ r c. not (is_kept_cell_right s r c)) none row column there in
    let known = code_due_now_was_due due first f n row column code in
    let same = ap (λ (rows : Rows). cell rows row column) is in
    grind (arith, nat_tests))

pub no_unexpected_cell_is_found : (c : CheckerValue) (o : Option (ℕ × ℕ)) (b : Bool)
    → c.listener.comparison.due ≡ due_page_in c.programme c.frame
    → is_some o ≡ not b
    → b ≡ true
    → o ≡ current_wrong_cell c
    → None ≡ current_unexpected_cell c
no_unexpected_cell_is_found c o b due is none same = grind (
  arith,
  nat_tests,
  was-here,
  correct_page_has_no_unexpected_cell,
)

pub correct_frame_has_no_active_fault : (c : CheckerValue)
    → c.listener.comparison.due ≡ due_page_in c.programme c.frame
    → c.active_faults ≡ no_active_faults
    → first_wrong_kept_cell c.listener ≡ None
    → is_kept_page_incomplete c.listener ≡ false
    → c.frame + 1 < c.repeat_deadline
    → is_silent_for c.pace c.latest_frame c.frame ≡ false
    → is_currently_undecided c ≡ false
    → IsFaultFreeEnd c
correct_frame_has_no_active_fault c due no_faults_before right shut early sounds known =
    grind (arith, nat_tests, was-here, correct_page_has_no_unexpected_cell)
