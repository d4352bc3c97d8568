-- The expected page stays the same between two cues.
use Rattle.std.proofs.Common.{arith}
use Rattle.sub_packets.proofs.UnexpectedLemmas.{due_page_is_constant_between_cues}
use Rattle.sub_packets.proofs.unexpected.frame_before_last_edge.Goals as goal

pub returns-in_default : goal.returns-in_default
returns-in_default c f low until =
    due_page_is_constant_between_cues c.args.programme.now f c.args.at until
    (λ e edge after before. omega (arith, before, c.in_default.ensures.value e edge))

pub returns-then-edge-least : goal.returns-then-edge-least
returns-then-edge-least c =
    let last = c.in-Some.ensures.value in
    let later = c.if-edge-least.true in (
      omega (arith, later),
      omega (arith, later, last.until),
      λ f low until.
          due_page_is_constant_between_cues c.args.programme.now f c.args.at until
          (λ e edge after before. omega (arith, low, after, last.greatest e edge before)),
    )

pub returns-else-edge-least : goal.returns-else-edge-least
returns-else-edge-least c f low until =
    let last = c.in-Some.ensures.value in
    let earlier = c.if-edge-least.false in
    due_page_is_constant_between_cues c.args.programme.now f c.args.at until
    (λ e edge after before. omega (arith, earlier, low, after, last.greatest e edge before))
