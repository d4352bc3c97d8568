-- Each iteration of `page_without_due_codes` goes back to an earlier expected page and replaces the
-- codes of that page by spaces in `left`.
use Rattle.std.proofs.Common.{arith}
use Rattle.sub_plan.specs.Schedule.{due_page_in}
use Rattle.sub_packets.proofs.UnexpectedLemmas.{constant_page_leaves_same_codes}
use Rattle.sub_packets.proofs.UnexpectedLemmas.{removing_first_page_leaves_others}
use Rattle.sub_packets.proofs.UnexpectedLemmas.{removing_earlier_page_leaves_others}
use Rattle.sub_packets.proofs.unexpected.page_without_due_codes.Goals as goal

pub loop-before-init : goal.loop-before-init
loop-before-init c = record {
  until = omega arith;
  reach = omega arith;
  left =
      removing_first_page_leaves_others (due_page_in c.args.programme.now) c.args.first c.args.frame
      c.args.shown.now _
      (rw (← c.due_page.ensures.value) c.blank_due_cells.ensures);
}

pub loop-before-preserved : goal.loop-before-preserved
loop-before-preserved c =
    let i = c.loop-before.invariant in
    let step = c.in-Some.ensures in
    let last = c.earliest-least.ensures.last in
    record {
      until = omega (arith, i.until, step.1);
      reach = omega (arith, last, step.0);
      left =
          removing_earlier_page_leaves_others (due_page_in c.args.programme.now) c.args.first
          c.args.frame c.loop-before.at
          c.in-Some.before c.args.shown.now c.loop-before.left _ step.1 i.until
          (omega (arith, c.earliest-least.ensures.first, step.0)) step.2 i.left
          (rw (← c.due_page-in-Some.ensures.value) c.blank_due_cells-in-Some.ensures);
    }

pub returns : goal.returns
returns c =
    let i = c.loop-before.invariant in
    constant_page_leaves_same_codes (due_page_in c.args.programme.now) c.args.first c.args.frame
    c.loop-before.at
    c.args.within c.args.shown.now c.loop-before.left i.until i.reach
    (λ g low reach until.
    c.in_default.ensures g (c.earliest-least.ensures.least g low reach) until) i.left
