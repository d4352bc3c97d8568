-- If all subtitles are reliable, the criteria of the check are those of the programme.
use Rattle.sub_check.proofs.FirstAnswerLemmas.{known_programme_is_valid, reports_known}
use Rattle.sub_check.proofs.checking.report_all_faults.Goals as goal

pub returns-clause-exact : goal.returns-clause-exact
returns-clause-exact g c = λ bytes reported.
    reports_known _ c.args.programme.now c.args.options.now bytes _ _ _ c.report_pes_packets.result
    c.known.ensures (c.report_pes_packets.ensures.exact bytes reported)

pub returns-clause-programme : goal.returns-clause-programme
returns-clause-programme g c =
    known_programme_is_valid _ c.args.programme.now c.known.ensures
    c.report_pes_packets.ensures.programme
