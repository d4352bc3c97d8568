use Rattle.std.proofs.Common.{◌∙◌, suc, ap, map, refl, sym, subst}
use Rattle.sub_rules.specs.Trusted.{CheckStep}
use Rattle.sub_rules.specs.Trusted.CheckStep.{Emits}
use Rattle.sub_checker.specs.Checker.{CheckerValue}
use Rattle.sub_checker.specs.CheckedFrames.{AfterEnd, AfterPackets}
use Rattle.sub_checker.specs.Relay.{at_step}
use Rattle.sub_checker.proofs.AfterPacketsLemmas.{final_step_matches_frame}
use Rattle.sub_checker.proofs.AfterPacketsLemmas.{checker_ending_steps_are_exact}
use Rattle.sub_checker.proofs.AfterPacketsLemmas.{first_header_events_are_exact}
use Rattle.sub_checker.proofs.AfterPacketsLemmas.{checker_follows_next_frame}
use Rattle.sub_checker.proofs.ReporterLemmas.{equal_steps_are_relayed, silent_step_is_relayed}
use Rattle.sub_checker.proofs.ReporterLemmas.{emitted_events_are_relayed}
use Rattle.sub_checker.proofs.ReporterLemmas.{appended_steps_are_relayed}
use Rattle.sub_checker.proofs.checker.Checker.end_sent_frame.Goals as goal

pub returns-clause-reported : goal.returns-clause-reported
returns-clause-reported g c = λ criteria frames n last heard there has.
    let here = subst (AfterPackets criteria frames n last) (sym c.self.view_is) heard in
    let first = first_header_events_are_exact criteria frames n last _ here _ _ has
    c.lacks_first_header-is_reported.ensures in
    let due = c.end_of_frame.ensures.due in
    let steps = checker_ending_steps_are_exact criteria frames n last _ heard due in
    let reported = c.end_of_frame.ensures.reported in
    let ended = c.end_of_frame.ensures.ended in
    let step =
    final_step_matches_frame criteria frames n last _ heard due _ _ _ _ (c.self-2.view_is ∙ ended)
    refl
    (ap (λ (v : CheckerValue). v.listener.begun) (c.self-2.view_is ∙ ended) ∙ heard.begins)
    c.has_none.ensures.none in (
      appended_steps_are_relayed refl
          (appended_steps_are_relayed refl (emitted_events_are_relayed (ap (map Emits) first)
          c.report_if.ensures)
          (equal_steps_are_relayed (sym steps) reported))
          (silent_step_is_relayed refl
          (c.end_frame.ensures ∙ ap (λ (m : CheckStep). at_step m c.end_of_frame.new.reporter) step)
          refl),
      subst (AfterEnd criteria frames (suc n) last) (sym ended)
          (checker_follows_next_frame criteria frames n last _ heard due),
    )
