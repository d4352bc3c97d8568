-- If the subtitles are valid, none was rejected, the repeat bound is not 0 and all packets have 42
-- bytes, a PES file has no event if and only if no PES packet is skipped, its frames are good, and
-- the entire file was read.
use Rattle.std.proofs.Common.{◌≡◌, List, [], ◌∷◌, map, refl, sym, ap, ◌∙◌, subst}
use Rattle.ttx_packet.specs.PacketAddress.{IsPacket}
use Rattle.sub_rules.specs.FrameRules.{Criteria, criteria_of}
use Rattle.sub_rules.specs.PesPacketEvents.{sent_by_pes_packets}
use Rattle.sub_rules.specs.PesPackets.{PesPacket, frames_of}
use Rattle.sub_rules.specs.PesPackets.PesPacket.{Sent}
use Rattle.sub_rules.specs.Transmission.{EachPacket, Transmission}
use Rattle.sub_rules.proofs.FrameEvents.{events}
use Rattle.sub_rules.proofs.JoinedLemmas.{joined-within}
use Rattle.sub_laws.specs.BrokenPlaces.{LawOfBrokenPlaces, LawOfEmptyReport}
use Rattle.sub_laws.specs.BrokenPlaces.{LawOfEmptyReportRepeats}
use Rattle.sub_laws.proofs.ReportedLemmas.{no_fault_means_no_broken_place, no_fault_leaves_no_event}
use Rattle.sub_laws.proofs.ReportedLemmas.{none_reported}
use Rattle.sub_laws.proofs.ReportedWithinLemmas.{met_requirements_report_nothing}
use Rattle.sub_laws.proofs.UnreportedLemmas.{no_fault_means_all_sent, no_event_means_all_sent}

frames_of_sent_packets : (frames : Transmission) → frames_of (map Sent frames) ≡ frames
unfolding frames_of
frames_of_sent_packets [] = refl
frames_of_sent_packets (s ∷ frames) = ap (λ (fs : Transmission). s ∷ fs)
    (frames_of_sent_packets frames)

pub law_of_broken_places : LawOfBrokenPlaces
law_of_broken_places g frames at_once =
    let pes_packets : List PesPacket = map Sent frames in
    let same : sent_by_pes_packets g pes_packets ≡ frames =
    joined-within g.within (frames_of pes_packets) at_once ∙ frames_of_sent_packets frames in
    no_fault_means_no_broken_place g frames at_once
    (λ alone whole none.
    let parts = (no_fault_means_all_sent g pes_packets).0 none in
    (no_event_means_all_sent g pes_packets alone).1 (
      parts.0,
      no_fault_leaves_no_event g (sent_by_pes_packets g pes_packets) (subst (EachPacket IsPacket)
          (sym same)
          whole)
          parts.1,
    ))

pub law_of_empty_report : LawOfEmptyReport
law_of_empty_report programme options unread pes_packets every_header_erases at_once some whole =
    let g : Criteria = criteria_of programme options unread in
    let reported = no_event_means_all_sent g pes_packets refl in
    let same : sent_by_pes_packets g pes_packets ≡ frames_of pes_packets =
    joined-within g.within (frames_of pes_packets) at_once in
    let law =
    none_reported programme options unread (frames_of pes_packets) every_header_erases at_once some
    whole in (
      λ none.
          let parts = reported.0 none in
          let good = law.0 (subst (λ (fs : Transmission). events g fs ≡ []) same parts.1) in
          (parts.0, good.0, good.1, good.2),
      λ all.
          reported.1 (
            all.0,
            subst (λ (fs : Transmission). events g fs ≡ []) (sym same)
                (law.1 (all.1, all.2, all.3)),
          ),
    )

pub law_of_empty_report_repeats : LawOfEmptyReportRepeats
law_of_empty_report_repeats programme options unread pes_packets is every whole =
    let g : Criteria = criteria_of programme options unread in
    let reported = no_event_means_all_sent g pes_packets refl in
    let sent = sent_by_pes_packets g pes_packets in
    let law = met_requirements_report_nothing programme options unread sent is every whole in (
      λ none.
          let parts = reported.0 none in
          let good = law.0 parts.1 in
          (parts.0, good.0, good.1),
      λ all. reported.1 (all.0, law.1 (all.1, all.2)),
    )
