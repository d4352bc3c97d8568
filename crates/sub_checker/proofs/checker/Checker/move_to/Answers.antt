-- The expected page stays the same until the next cue, so the checker need not draw the page again.
use Rattle.std.proofs.Common.{ap, ◌∙◌, sym}
use Rattle.sub_checker.specs.Checker.{CheckerValue, at_frame}
use Rattle.sub_checker.proofs.EdgeLemmas.{IsAtFrame-later, IsJudged-later, at_frame-stays}
use Rattle.sub_checker.proofs.checker.Checker.move_to.Goals as goal

pub invariant_of-self : goal.invariant_of-self
invariant_of-self c =
    let before = sym c.is_before.ensures ∙ c.if-is_before.true in (
      IsAtFrame-later _ _ _ _ _ _ _ _ c.args.f c.requires.day c.self.invariant.0 c.if-self-f.true
          before,
      IsJudged-later _ _ _ _ _ _ _ _ c.args.f c.self.invariant.1 c.if-self-f.true,
    )

pub returns-then-is_before : goal.returns-then-is_before
returns-then-is_before c =
    let i = c.self.inside in
    let at =
    IsAtFrame-later _ _ _ _ _ _ _ _ c.args.f c.requires.day c.self.invariant.0 c.if-self-f.true
    (sym c.is_before.ensures ∙ c.if-is_before.true) in
    let before : CheckerValue = record {
      programme = i.programme.now;
      judging = i.judging.now;
      any_unreliable = i.has_unreliable_subtitle;
      every = i.every;
      within = i.within;
      pace = i.pace;
      listener = i.listener;
      first = i.first;
      latest_frame = i.latest_frame;
      frame = i.frame;
      last = i.last;
      active_faults = i.active_faults;
      first_unfinished = i.first_unfinished;
      repeat_deadline = i.repeat_deadline;
      counts = i.counts;
    } in
    at_frame-stays c.args.f before at.due_eq ∙ ap (at_frame c.args.f) c.self.view_is
