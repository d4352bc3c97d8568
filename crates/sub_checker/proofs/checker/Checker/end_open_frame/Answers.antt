use Rattle.std.proofs.Common.{◌-◌, ◌<◌, ◌∙◌, length, arith, ap, false}
use Rattle.sub_checker.specs.Checker.{CheckerValue}
use Rattle.sub_checker.proofs.AfterPacketsLemmas.{header_count_grows_with_header}
use Rattle.sub_checker.proofs.BetweenPesPacketsLemmas.{following_all_frames_is_following}
use Rattle.sub_checker.proofs.BetweenPesPacketsLemmas.{closing_frame_keeps_heard_packets}
use Rattle.sub_checker.proofs.BetweenPesPacketsLemmas.{open_frame_has_pending_end}
use Rattle.sub_checker.proofs.ReporterLemmas.{equal_steps_are_relayed}
use Rattle.sub_checker.proofs.checker.Checker.end_open_frame.Goals as goal

pub returns-clause-reported : goal.returns-clause-reported
returns-clause-reported g c = λ criteria sent last keeps.
    let opened = c.requires.opened in
    let opens = keeps.opens opened in
    let some = keeps.some opened in
    let shut =
    closing_frame_keeps_heard_packets criteria sent (length sent - 1) last c.args.self.now _
    (ap (λ (v : CheckerValue). record v { counts = record v.counts { is_open = false } })
    c.self.view_is) opens.heard in
    let there : length sent - 1 < length sent = omega (arith, some) in
    let end =
    c.end_sent_frame.ensures.reported criteria sent (length sent - 1) last shut there
    (header_count_grows_with_header criteria sent (length sent - 1) last _ shut _ there
    (ap (λ (v : CheckerValue). v.counts.headers_before) c.self.view_is ∙ opens.before)) in (
      equal_steps_are_relayed (open_frame_has_pending_end criteria sent last c.args.self.now keeps
          opened) end.0,
      following_all_frames_is_following criteria sent last _ some end.1,
    )
