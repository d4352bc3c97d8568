use Rattle.std.proofs.Common.{◌≡◌, ◌∙◌, refl, rules, sym, Err, None, Ok, Some, false}
use Rattle.ttx_pes.specs.Fault.{is_read_fault}
use Rattle.ttx_pes.specs.Outcome.{ReadsPackets, ends, fails, outcome_after}
use Rattle.ttx_pes.proofs.OutcomeLemmas.{outcome_after-next}
use Rattle.sub_io.proofs.FlushingLemmas.{ok_property_applies}
use Rattle.ttx_pes.proofs.BorrowedPacketLemmas.{failing_read_has_nothing_pending}
use Rattle.sub_listing.specs.PacketsListing.{pes_listing}
use Rattle.sub_listing.proofs.ListingLemmas.{gives-last, gives-packet, kind_of_failure-failed}
use Rattle.sub_listing.proofs.ListingLemmas.{lists-some}
use Rattle.sub_listing.proofs.packets.PacketListerLister.next.Goals as goal

pub returns-in-Ok-End-clause-gives : goal.returns-in-Ok-End-clause-gives
returns-in-Ok-End-clause-gives g c =
    let first = c.args.self.now.first in
    let index = c.args.self.now.index in
    let reports = rw (c.in-Ok-End.field-0-is, c.requires.ready.0) at c.in-Ok-End.ensures.reports in
    rw c.end_with_count.ensures.end (λ _.
    gives-last _ (pes_listing first index) (outcome_after index) ReadsPackets _ _
    ends _ false c.end_with_count.ensures.line refl
    (λ bytes reported ok.
    sym (outcome_after-next index bytes (Ok None) c.requires.ready.1
    (reports.exact index refl bytes reported refl)))
    refl)

pub returns-in-Ok-Same-clause-gives : goal.returns-in-Ok-Same-clause-gives
returns-in-Ok-Same-clause-gives g c =
    let reports = rw (c.in-Ok-Same.field-0-is, c.requires.ready.0) at c.in-Ok-Same.ensures.reports
    in
    rw (
      c.list_read_packet.ensures.index,
      c.list_read_packet.ensures.first,
      c.list_read_packet.ensures.more,
    ) (λ _.
    gives-packet c.args.self.now.first c.args.self.now.index _ _ _ _ c.requires.ready.1 reports
    c.list_read_packet.ensures.lines)

pub returns-in-Ok-Other-clause-gives : goal.returns-in-Ok-Other-clause-gives
returns-in-Ok-Other-clause-gives g c =
    let reports = rw (c.in-Ok-Other.field-0-is, c.requires.ready.0) at c.in-Ok-Other.ensures.reports
    in
    rw (
      c.list_read_packet-in-Ok-Other.ensures.index,
      c.list_read_packet-in-Ok-Other.ensures.first,
      c.list_read_packet-in-Ok-Other.ensures.more,
    ) (λ _.
    gives-packet c.args.self.now.first c.args.self.now.index _ _ _ _ c.requires.ready.1 reports
    c.list_read_packet-in-Ok-Other.ensures.lines)

pub returns-in-Err-clause-gives : goal.returns-in-Err-clause-gives
returns-in-Err-clause-gives g c =
    let first = c.args.self.now.first in
    let index = c.args.self.now.index in
    let f = c.in-Err.fault in
    let reports = rw c.requires.ready.0 at c.in-Err.ensures.reports in
    let end : c.end_with_fault_line.result ≡ Some
    (pes_listing first index (fails f)).status = search rules in
    rw end (λ _.
    gives-last _ (pes_listing first index) (outcome_after index) ReadsPackets _ _
    (fails f) c.end_with_fault_line.new.text.items (is_read_fault f) (search rules)
    (kind_of_failure-failed (is_read_fault f))
    (λ bytes reported ok.
    sym (outcome_after-next index bytes (Err f) c.requires.ready.1
    (reports.exact index refl bytes reported ok)))
    (refl, reports.within, reports.refused))

pub returns-then-is_err-clause-cut : goal.returns-then-is_err-clause-cut
returns-then-is_err-clause-cut g c = λ _.
    let first = c.args.self.now.first in
    let index = c.args.self.now.index in
    lists-some _ (pes_listing first index) (outcome_after index) ReadsPackets _ _ ends

pub returns-in-Err-clause-followed : goal.returns-in-Err-clause-followed
returns-in-Err-clause-followed g c = λ is sound ended goes.
    let f = c.in-Err.fault in
    let end : c.end_with_fault_line.result
    ≡ Some (pes_listing c.args.self.now.first c.args.self.now.index (fails f)).status =
    search rules in
    let failed = sym (kind_of_failure-failed (is_read_fault f)) ∙ (rw end at ended) in
    let flushed = sym c.is_err.ensures.value ∙ c.if-is_err.false in
    record {
      settled =
          ok_property_applies _ flushed (c.flush_lines.ensures.holds sound)
          (failing_read_has_nothing_pending
          _ _ _ (ok_property_applies _ flushed c.flush_lines.ensures.settled)
          c.in-Err.ensures.ready failed);
      reported = _;
      line = c.end_with_fault_line.ensures.line;
    }
