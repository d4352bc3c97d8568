-- Whenever the loop over PES packets ends, the device has received the events of the file or a
-- prefix of them.
use Rattle.std.proofs.Common.{◌≡◌, ◌∙◌, ◌∷◌, [], ap, refl, rules, sym, subst, arith, List}
use Rattle.std.proofs.Common.{Ok, Option, Result, Some, ℕ, length, take}
use Rattle.sub_checker.specs.LastEvents.{ending_fault}
use Rattle.sub_rules.specs.declared.fault.CheckFault.{CheckFault}
use Rattle.sub_io.proofs.FlushingLemmas.{ReportsSome-kept, holds-reported, ok_property_applies}
use Rattle.ttx_pes.proofs.BorrowedPacketLemmas.{failing_read_has_nothing_pending}
use Rattle.sub_io.proofs.ReportingLemmas.{ReportsSome-none, Reports-none}
use Rattle.sub_io.specs.Reporting.{Reports}
use Rattle.ttx_pes.specs.Comparing.{ComparingValue}
use Rattle.sub_rules.proofs.PesPacketFileLemmas.{takes_no_pes_packets}
use Rattle.sub_rules.specs.FrameRules.{criteria_of_judged}
use Rattle.sub_rules.specs.PesPackets.{PesPacket, frames_of}
use Rattle.sub_rules.specs.PesPacketEvents.{events_of_pes_packets}
use Rattle.sub_checker.proofs.PesPacketLoopLemmas.{frames_sent_by, prefix}
use Rattle.sub_checker.proofs.PesPacketLoopLemmas.{no_pes_packets_have_no_events, step}
use Rattle.sub_checker.proofs.PesPacketLoopLemmas.{reported_events_are_a_prefix}
use Rattle.sub_checker.proofs.PesPacketLoopLemmas.{stopped_report_is_a_prefix}
use Rattle.sub_checker.proofs.PesPacketLoopLemmas.{whole_file_is_reported}
use Rattle.sub_checker.proofs.PesPacketLoopLemmas.{new_checker_tracks_no_packets}
use Rattle.std.proofs.Common.{◌++◌, None}
use Rattle.sub_checker.proofs.FusedAudienceLemmas.{reported_events_are_received}
use Rattle.sub_checker.proofs.FusedAudienceLemmas.{some_reported_events_are_received}
use Rattle.sub_io.proofs.ReportingLemmas.{ReportsSome-trans}
use Rattle.sub_rules.proofs.PesPacketFileLemmas.{takes_more_pes_packets}
use Rattle.sub_rules.specs.PacketRules.{packets_of_units}
use Rattle.sub_rules.specs.declared.pes_packet.NextPesPacket.{NextPesPacket}
use Rattle.sub_checker.proofs.NextPesPacketLemmas.{again_is, result_is_sending, last_is}
use Rattle.sub_checker.proofs.RemainingBytesLemmas.{read_fault_names_pes_packet}
use Rattle.sub_checker.proofs.RemainingBytesLemmas.{carried_packets_are_taken}
use Rattle.sub_checker.proofs.RemainingBytesLemmas.{reading_starts_at_all_bytes}
use Rattle.sub_checker.proofs.EventPartsLemmas.{reports_of_equal_lists}
use Rattle.sub_checker.proofs.pes_file.report_pes_packets.Goals as goal

pub pes_packets-init : goal.pes_packets-init
pes_packets-init g c = record {
  few = omega arith;
  reading = ap (λ (r : ComparingValue). r.progress) c.new-reader.ensures;
  taken = takes_no_pes_packets _;
  failures = refl;
  device = refl;
  continues = refl;
  same = refl;
  keeps = (
    [],
    packets_of_units c.new-reader.result.frame.units,
    c.new-checker.ensures.keeps _ None,
    λ no. refl,
  );
  some = ReportsSome-none c.args.report_sink.now;
  holds = λ none still. none;
  room = c.new-checker.ensures.none;
  reported = λ pes_packets unread bytes reported reads.
      let criteria = criteria_of_judged c.args.judging.now c.args.options.now unread in (
        [],
        reading_starts_at_all_bytes c.args.options.now pes_packets unread _ bytes reported reads,
        packets_of_units c.new-reader.result.frame.units,
        new_checker_tracks_no_packets criteria _ _ _ (c.new-checker.ensures.keeps _ unread)
            c.new.ensures,
        λ no. refl,
        reports_of_equal_lists _ _ _ _ (no_pes_packets_have_no_events criteria) (Reports-none _),
      );
}

pub returns-then-is_source_failure-clause-exact : goal.returns-then-is_source_failure-clause-exact
returns-then-is_source_failure-clause-exact g c = λ bytes reported pes_packets unread reads.
    let i = c.pes_packets.invariant.reported pes_packets unread bytes reported reads in
    let so_far =
    c.flush_reports.ensures.reported.kept c.args.report_sink.now _ c.requires.still i.5 in
    let at = prefix c.args.judging.now i.1 i.3 in
    let device = c.flush_reports.ensures.same ∙ c.pes_packets.invariant.same in
    let reported =
    subst (λ (l : List PesPacket). Reports g.A.ReportSink.is_reported c.args.report_sink.now
    c.flush_reports.new.fused.device.now
    (events_of_pes_packets (criteria_of_judged c.args.judging.now
    c.args.options.now unread) l)) (sym at.1) so_far in (
      c.pes_packets.pes,
      at.0,
      c.in-Err.ensures.place (sym c.is_source_failure.ensures ∙ c.if-is_source_failure.true),
      search rules,
    )

pub returns-then-is_source_failure-clause-read : goal.returns-then-is_source_failure-clause-read
returns-then-is_source_failure-clause-read g c = λ pes is.
    let failed = sym c.is_source_failure.ensures ∙ c.if-is_source_failure.true in
    let same = read_fault_names_pes_packet c.in-Err.fault c.pes_packets.pes pes
    (c.in-Err.ensures.place failed) is
    in (
      record {
        following = g.P.PesPackets.remaining c.pes_packets.source;
        before = rw (sym same) at c.pes_packets.invariant.taken;
        within = c.in-Err.ensures.within failed;
      },
      λ pes_packets unread bytes reported reads sent.
          let i = c.pes_packets.invariant.reported pes_packets unread bytes reported reads in
          let at = prefix c.args.judging.now i.1 i.3 in
          let done : take pes pes_packets ≡ i.0 = ap (λ (n : ℕ). take n pes_packets) same ∙ at.1 in
          record {
            following = g.P.PesPackets.remaining c.pes_packets.source;
            before =
                carried_packets_are_taken bytes (frames_of i.0) i.1.rest pes _ _
                (i.1.taken (ap (λ (l : List PesPacket). length (frames_of l)) (sym done) ∙ sent ∙
                same
                ∙ sym i.1.count))
                (ap (λ (l : List PesPacket). length (frames_of l)) (sym done) ∙ sent) reported
                i.1.rest_eq;
            within = c.in-Err.ensures.within failed;
          },
    )

pub returns-in-Err-clause-exact : goal.returns-in-Err-clause-exact
returns-in-Err-clause-exact g c = λ bytes reported pes_packets unread reads.
    let i = c.pes_packets.invariant.reported pes_packets unread bytes reported reads in
    let criteria = criteria_of_judged c.args.judging.now c.args.options.now unread in
    let so_far =
    c.flush_reports.ensures.reported.kept c.args.report_sink.now _ c.requires.still i.5 in
    let end = c.in-Err.ensures.exact i.1.ahead unread i.1.rest i.1.rest_eq
    (sym c.is_source_failure.ensures ∙ c.if-is_source_failure.false) i.1.left in
    let device =
    c.finish.ensures.same criteria (frames_sent_by criteria i.0) i.2 i.3.keeps
    ∙ c.flush_reports.ensures.same
    ∙ c.pes_packets.invariant.same in
    let reported =
    whole_file_is_reported c.args.judging.now i.1 i.3 c.pes_packets.invariant.few end.0 _ _ _
    c.finish.result so_far
    (c.finish.ensures.reported criteria (frames_sent_by criteria i.0) i.2 i.3.keeps
    (ap (λ (f : CheckFault). Some f) end.3
    ∙ ap (ending_fault c.pes_packets.pes) (sym end.2)))
    (c.finish.ensures.counts criteria (frames_sent_by criteria i.0) i.2 i.3.keeps) in
    search rules

pub returns-in_default-clause-exact : goal.returns-in_default-clause-exact
returns-in_default-clause-exact g c = λ bytes reported pes_packets unread reads.
    let i = c.pes_packets.invariant.reported pes_packets unread bytes reported reads in
    let criteria = criteria_of_judged c.args.judging.now c.args.options.now unread in
    let so_far =
    c.flush_reports.ensures.reported.kept c.args.report_sink.now _ c.requires.still i.5 in
    let end = rw c.in_default.is at
    (c.in-Ok.ensures.exact i.1.ahead unread i.1.rest i.1.rest_eq refl i.1.left) in
    let device =
    c.finish-in_default.ensures.same criteria (frames_sent_by criteria i.0) i.2 i.3.keeps
    ∙ c.flush_reports.ensures.same
    ∙ c.pes_packets.invariant.same in
    let reported =
    whole_file_is_reported c.args.judging.now i.1 i.3 c.pes_packets.invariant.few end.0 _ _ _
    c.finish-in_default.result so_far
    (c.finish-in_default.ensures.reported criteria (frames_sent_by criteria i.0) i.2 i.3.keeps
    (ap (ending_fault c.pes_packets.pes) (sym end.1)))
    (c.finish-in_default.ensures.counts criteria (frames_sent_by criteria i.0) i.2 i.3.keeps) in
    search rules

-- If the device stops the check while a PES packet is checked, it has received a prefix of the
-- events.
pub returns-then-reporter-clause-exact : goal.returns-then-reporter-clause-exact
returns-then-reporter-clause-exact g c = λ bytes reported pes_packets unread reads.
    let inv = c.pes_packets.invariant in
    let i = inv.reported pes_packets unread bytes reported reads in
    let criteria = criteria_of_judged c.args.judging.now c.args.options.now unread in
    let so_far =
    c.flush_reports.ensures.reported.kept c.args.report_sink.now _ c.requires.still i.5 in
    let go = c.report_pes_packet-skipped.ensures.reported criteria (frames_sent_by criteria i.0) i.2
    i.3.keeps
    (again_is c.in-Some.pes_packet c.pes_packets.skipped i.2 c.in-Some.is c.in-Ok.ensures.again i.4)
    in
    let received = reported_events_are_received g.A.ReportSink.is_reported _ _ _ go.0.reported in
    let device = received.same ∙ c.flush_reports.ensures.same ∙ inv.same in
    let reported =
    stopped_report_is_a_prefix c.args.judging.now i.1 i.3 c.next_pes_packet.new.reader.frame
    c.in-Some.pes_packet
    _ _ _
    (rw c.in-Some.is at (c.in-Ok.ensures.exact i.1.ahead unread i.1.rest i.1.rest_eq refl i.1.left))
    so_far received.cut in
    search rules

-- If the device stops the check at a PES packet, it has received some list of events, even if the
-- bytes of the file are unknown.
pub returns-then-reporter-clause-some : goal.returns-then-reporter-clause-some
returns-then-reporter-clause-some g c =
    let inv = c.pes_packets.invariant in
    let k = inv.keeps in
    let go = c.report_pes_packet-skipped.ensures.reported _ k.0 k.1 k.2
    (again_is c.in-Some.pes_packet c.pes_packets.skipped k.1 c.in-Some.is c.in-Ok.ensures.again k.3)
    in
    let received =
    some_reported_events_are_received g.A.ReportSink.is_reported
    _ _ (record { items = _; reported = go.0.reported }) in
    let device = received.0 ∙ c.flush_reports.ensures.same ∙ inv.same in
    let reported =
    ReportsSome-trans _ _ _
    (ReportsSome-kept _ _ _ _ _ inv.some c.requires.still c.flush_reports.ensures.reported)
    received.1 in
    search rules

pub returns-then-reporter-clause-stopped : goal.returns-then-reporter-clause-stopped
returns-then-reporter-clause-stopped g c =
    let inv = c.pes_packets.invariant in
    let k = inv.keeps in
    let go = c.report_pes_packet-skipped.ensures.reported _ k.0 k.1 k.2
    (again_is c.in-Some.pes_packet c.pes_packets.skipped k.1 c.in-Some.is c.in-Ok.ensures.again k.3)
    in
    let received =
    some_reported_events_are_received g.A.ReportSink.is_reported
    _ _ (record { items = _; reported = go.0.reported }) in
    let device = received.0 ∙ c.flush_reports.ensures.same ∙ inv.same in
    let reported = c.report_pes_packet-skipped.new.reporter.fused.agrees ∙ c.if-reporter.true in
    search rules

pub pes_packets-preserved : goal.pes_packets-preserved
pes_packets-preserved g c =
    let inv = c.pes_packets.invariant in
    let k = inv.keeps in
    let pes_packet = c.in-Some.pes_packet in
    let below = (rw c.in-Some.is at c.in-Ok.ensures.below) refl in
    let counted = c.in-Ok.ensures.count in
    let go = c.report_pes_packet-skipped.ensures.reported _ k.0 k.1 k.2
    (again_is pes_packet c.pes_packets.skipped k.1 c.in-Some.is c.in-Ok.ensures.again k.3) in
    let more =
    some_reported_events_are_received g.A.ReportSink.is_reported
    _ _ (record { items = _; reported = go.0.reported }) in
    record {
      few = omega (arith, below);
      reading = (rw c.in-Some.is at c.in-Ok.ensures.progress) refl;
      taken = takes_more_pes_packets c.pes_packets.pes _ _ _ inv.taken
          ((rw c.in-Some.is at c.in-Ok.ensures.taken) refl);
      failures = omega (arith, counted, inv.failures);
      device = c.next_pes_packet.ensures.device ∙ inv.device;
      continues = c.if-reporter.false;
      same = more.0 ∙ c.flush_reports.ensures.same ∙ inv.same;
      some =
          ReportsSome-trans _ _ _
          (ReportsSome-kept _ _ _ _ _ inv.some c.requires.still c.flush_reports.ensures.reported)
          more.1;
      keeps = (
        _,
        _,
        go.1,
        λ no. last_is pes_packet k.1 _ (sym c.report_pes_packet-skipped.ensures.skipped ∙ no),
      );
      holds = λ none.
          holds-reported _ _ _ _ _ g.met.A.LiveReportSink.flush_keeps_reports _ _
          (ok_property_applies _ (sym c.is_err.ensures.value ∙ c.if-is_err.false)
          (c.flush_reports.ensures.holds (inv.holds none))) more.1;
      room = c.report_pes_packet-skipped.ensures.room;
      reported = λ pes_packets unread bytes reported reads.
          let i = inv.reported pes_packets unread bytes reported reads in
          let criteria = criteria_of_judged c.args.judging.now c.args.options.now unread in
          let so_far =
          c.flush_reports.ensures.reported.kept c.args.report_sink.now _ c.requires.still i.5 in
          let all = c.report_pes_packet-skipped.ensures.reported criteria (frames_sent_by criteria
          i.0)
          i.2
          i.3.keeps
          (again_is pes_packet c.pes_packets.skipped i.2 c.in-Some.is c.in-Ok.ensures.again i.4) in
          let s =
          step c.args.judging.now i.1 i.3 g.A.ReportSink.is_reported
          _ c.next_pes_packet.new.reader.frame
          pes_packet _ _ _ _ _ ((rw c.in-Some.is at (c.in-Ok.ensures.left i.1.rest i.1.rest_eq))
          refl)
          (rw c.in-Some.is at
          (c.in-Ok.ensures.exact i.1.ahead unread i.1.rest i.1.rest_eq refl i.1.left))
          (λ sending is. (
            c.in-Ok.ensures.sent sending (result_is_sending c.in-Some.is is),
            c.report_pes_packet-skipped.ensures.frame sending is,
          ))
          all.1 all.0.kept so_far
          ((reported_events_are_received g.A.ReportSink.is_reported _ _ _ all.0.reported).whole
          c.if-reporter.false) in (
            i.0 ++ s.0 ∷ [],
            s.1.reads,
            _,
            s.1.kept,
            λ no. last_is pes_packet i.2 _ (sym c.report_pes_packet-skipped.ensures.skipped ∙ no),
            s.1.reported,
          );
    }

-- If the device stops the check before the next PES packet is read, it has received a prefix of the
-- events.
pub returns-then-is_err-clause-exact : goal.returns-then-is_err-clause-exact
returns-then-is_err-clause-exact g c = λ bytes reported pes_packets unread reads.
    let i = c.pes_packets.invariant.reported pes_packets unread bytes reported reads in
    let device = c.flush_reports.ensures.same ∙ c.pes_packets.invariant.same in
    let reported =
    reported_events_are_a_prefix c.args.judging.now i.1 i.3 _ _
    (c.flush_reports.ensures.reported.kept c.args.report_sink.now _ c.requires.still i.5) in
    search rules

pub returns-in-Err-clause-some : goal.returns-in-Err-clause-some
returns-in-Err-clause-some g c =
    let k = c.pes_packets.invariant.keeps in
    let device =
    c.finish.ensures.same _ k.0 k.1 k.2
    ∙ c.flush_reports.ensures.same
    ∙ c.pes_packets.invariant.same in
    let reported =
    ReportsSome-trans _ _ _
    (ReportsSome-kept _ _ _ _ _ c.pes_packets.invariant.some c.requires.still
    c.flush_reports.ensures.reported)
    (c.finish.ensures.some _ k.0 k.1 k.2) in
    search rules

pub returns-in_default-clause-some : goal.returns-in_default-clause-some
returns-in_default-clause-some g c =
    let k = c.pes_packets.invariant.keeps in
    let device =
    c.finish-in_default.ensures.same _ k.0 k.1 k.2
    ∙ c.flush_reports.ensures.same
    ∙ c.pes_packets.invariant.same in
    let reported =
    ReportsSome-trans _ _ _
    (ReportsSome-kept _ _ _ _ _ c.pes_packets.invariant.some c.requires.still
    c.flush_reports.ensures.reported)
    (c.finish-in_default.ensures.some _ k.0 k.1 k.2) in
    search rules

pub returns-then-is_source_failure-clause-flushed_at_failure :
    goal.returns-then-is_source_failure-clause-flushed_at_failure
returns-then-is_source_failure-clause-flushed_at_failure g c = λ none.
    let device = c.flush_reports.ensures.same ∙ c.pes_packets.invariant.same in
    let flushed = sym c.is_err.ensures.value ∙ c.if-is_err.false in
    let reported =
    ok_property_applies _ flushed
    (c.flush_reports.ensures.holds (c.pes_packets.invariant.holds none))
    (failing_read_has_nothing_pending
    _ _ _ (ok_property_applies _ flushed c.flush_reports.ensures.settled) c.in-Err.ensures.ready
    (sym c.is_source_failure.ensures ∙ c.if-is_source_failure.true)) in
    search rules
