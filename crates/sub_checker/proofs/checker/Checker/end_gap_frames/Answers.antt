use Rattle.std.proofs.Common.{◌+◌, ◌-◌, ◌<◌, ◌∙◌, ap, sym, subst, arith, refl}
use Rattle.sub_rules.specs.Events.{latest_frame}
use Rattle.sub_rules.specs.PesPacketEvents.{steps_of_gap}
use Rattle.sub_checker.specs.CheckedFrames.{AfterEnd, BeforeEnd}
use Rattle.sub_checker.proofs.CheckedFramesLemmas.{follows_pending, gap_ended, gap_more}
use Rattle.sub_checker.proofs.CheckedFramesLemmas.{empty_gap_has_no_steps, gap_end_steps_are_exact}
use Rattle.sub_checker.proofs.CheckedFramesLemmas.{gap_frame_leaves_next_end_pending}
use Rattle.sub_checker.proofs.ReporterLemmas.{no_steps_are_relayed, equal_steps_are_relayed}
use Rattle.sub_checker.proofs.ReporterLemmas.{appended_steps_are_relayed}
use Rattle.sub_rules.proofs.EndLemmas.{gap_length-is}
use Rattle.sub_checker.proofs.checker.Checker.end_gap_frames.Goals as goal

pub loop-f-init : goal.loop-f-init
loop-f-init g c = record {
  counts = grind arith;
  latest_is = grind arith;
  later = grind arith;
  at_most_to = grind arith;
  reported = λ criteria frames n last follows some is.
      let here = subst (AfterEnd criteria frames n last) (sym c.self.view_is) follows in (
        no_steps_are_relayed (empty_gap_has_no_steps criteria frames n _ (here.latest_is some)),
        subst (BeforeEnd criteria frames n _ last) c.self.view_is
            (follows_pending criteria frames n _ last _ here some (omega arith)),
      );
}

pub loop-f-preserved : goal.loop-f-preserved
loop-f-preserved g c =
    let i = c.loop-f.invariant in
    record {
      counts = grind arith;
      latest_is = grind arith;
      later = let l = i.later in omega arith;
      at_most_to = λ l. let t = c.loop-f-test.true in omega arith;
      reported = λ criteria frames n last follows some is.
          let before = i.reported criteria frames n last follows some is in
          let later = i.later in
          let past : latest_frame frames n < c.loop-f.f =
          let latest_is = follows.latest_is some in omega arith in
          let due = c.end_of_frame.ensures.due in
          let reported = c.end_of_frame.ensures.reported in
          let steps =
          gap_end_steps_are_exact criteria frames n c.loop-f.f last _ _ before.1 some past
          c.move_to.ensures
          (i.latest_is ∙ follows.latest_is some) due in (
            appended_steps_are_relayed (gap_more criteria frames n c.loop-f.f _ past refl) before.0
                (equal_steps_are_relayed (sym steps) reported),
            subst (BeforeEnd criteria frames n _ last)
                (sym c.end_of_frame.ensures.ended)
                (gap_frame_leaves_next_end_pending criteria frames n c.loop-f.f last _ _ before.1
                some past
                c.move_to.ensures
                (i.latest_is ∙ follows.latest_is some) due _ refl),
          );
    }

pub returns-clause-reported : goal.returns-clause-reported
returns-clause-reported g c = λ criteria frames n last follows some is.
    let i = c.loop-f.invariant in
    let before = i.reported criteria frames n last follows some is in
    let size = gap_length-is frames n some ∙ ap (λ f. f - (latest_frame frames n + 1)) is in
    let ended =
    gap_ended criteria frames n c.loop-f.f c.args.to c.args.self.now.latest_frame last _ before.1
    some
    (follows.latest_is some) i.later c.loop-f-test.false i.at_most_to in (
      equal_steps_are_relayed (ap (steps_of_gap criteria frames n) (size ∙ ended.0)) before.0,
      ended.1,
    )
