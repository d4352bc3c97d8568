-- If the report sink does not stop and the source does not fail, the reported events are those of
-- the whole file, and `check` would return the first fault among them.
use Rattle.std.proofs.Common.{drop, sym, take}
use Rattle.std.proofs.lemmas.List.{take-append-drop}
use Rattle.stl_rows.specs.Judged.{has_unreliable_subtitle}
use Rattle.sub_plan.specs.FrameTime.{clock_of}
use Rattle.sub_rules.specs.FrameRules.{criteria_of_judged, is_due_undecided}
use Rattle.sub_rules.specs.PesPackets.{pes_packet_file_of}
use Rattle.sub_checker.proofs.PesPacketLoopLemmas.{events_of_prefix_are_a_prefix}
use Rattle.sub_check.proofs.FirstAnswerLemmas.{first_fault_decides_at_once}
use Rattle.sub_check.proofs.FirstAnswerLemmas.{first_fault_decides_answer, checked_first}
use Rattle.sub_check.proofs.FirstAnswerLemmas.{known_programme_is_valid, reports_events}
use Rattle.sub_check.proofs.FirstAnswerLemmas.{reports_known}
use Rattle.sub_trusted.proofs.TrustedOnAirLemmas.{law_of_trusted_frames, law_of_known_pages}
use Rattle.sub_trusted.proofs.TrustedOnAirLemmas.{law_of_trusted_repeats}
use Rattle.sub_check.proofs.checking.check_all_pes_packets.Goals as goal

pub returns-clause-reported : goal.returns-clause-reported
returns-clause-reported g c = λ bytes reported.
    reports_events c.args.judging.now c.args.options.now bytes _ _ _ c.report_pes_packets.result
    (c.report_pes_packets.ensures.exact bytes reported)

pub returns-clause-first : goal.returns-clause-first
returns-clause-first g c = λ programme is none at_once bytes reported.
    first_fault_decides_at_once programme c.args.options.now bytes c.report_pes_packets.result none
    at_once
    (checked_first programme c.args.options.now bytes _ _ _ c.report_pes_packets.result
    c.report_pes_packets.ensures.options
    (known_programme_is_valid _ programme is c.report_pes_packets.ensures.programme)
    (reports_known c.args.judging.now programme c.args.options.now bytes
    _ _ _ c.report_pes_packets.result is
    (c.report_pes_packets.ensures.exact bytes reported)))

pub returns-clause-first_by : goal.returns-clause-first_by
returns-clause-first_by g c = λ programme is bytes reported.
    first_fault_decides_answer programme c.args.options.now bytes c.report_pes_packets.result
    (checked_first programme c.args.options.now bytes _ _ _ c.report_pes_packets.result
    c.report_pes_packets.ensures.options
    (known_programme_is_valid _ programme is c.report_pes_packets.ensures.programme)
    (reports_known c.args.judging.now programme c.args.options.now bytes
    _ _ _ c.report_pes_packets.result is
    (c.report_pes_packets.ensures.exact bytes reported)))

pub returns-clause-read : goal.returns-clause-read
returns-clause-read g c = λ pes is. (c.report_pes_packets.ensures.read pes is).0

pub returns-clause-trusted : goal.returns-clause-trusted
returns-clause-trusted g c = λ none at_once bytes reported from to there.
    law_of_trusted_frames c.args.judging.now.programme c.args.options.now _
    (has_unreliable_subtitle c.args.judging.now)
    (is_due_undecided c.args.judging.now) _ from to none at_once there

pub returns-clause-trusted_within : goal.returns-clause-trusted_within
returns-clause-trusted_within g c = λ bytes reported from to there.
    law_of_trusted_repeats c.args.judging.now.programme c.args.options.now _
    (has_unreliable_subtitle c.args.judging.now) (is_due_undecided c.args.judging.now) _ from to
    c.report_pes_packets.ensures.programme there

pub returns-clause-known : goal.returns-clause-known
returns-clause-known g c = λ bytes reported from to there frame first within near.
    let file = pes_packet_file_of (clock_of c.args.options.now) bytes in
    law_of_known_pages (criteria_of_judged c.args.judging.now c.args.options.now file.unread)
    file.pes_packets
    from to there frame first within near

pub returns-clause-begins : goal.returns-clause-begins
returns-clause-begins g c = λ bytes reported n.
    let file = pes_packet_file_of (clock_of c.args.options.now) bytes in
    events_of_prefix_are_a_prefix (criteria_of_judged c.args.judging.now c.args.options.now
    file.unread)
    file.pes_packets
    (take n file.pes_packets) (drop n file.pes_packets) (sym (take-append-drop n file.pes_packets))
