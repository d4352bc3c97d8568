-- The events of a PES file if reading continues after skipped PES packets.
use Rattle.std.specs.Prelude.{◌≡◌, ℕ, ◌≤◌, List, [], ◌++◌, length, take, Option, Some, None}
use Rattle.std.specs.Prelude.{Result, Ok, Err}
use Rattle.sub_io.specs.Reading.{IfKnown}
use Rattle.sub_io.specs.Reporting.{Reports, ReportsPrefix}
use Rattle.ttx_pes.specs.Reader.{FailsAfterValidPackets}
use Rattle.ttx_pes.specs.Reading.{max_pes_packets}
use Rattle.ttx_pes.specs.declared.fault.PesFault.TheVariants.{Read}
use Rattle.sub_plan.specs.FrameTime.{Clock}
use Rattle.sub_rules.specs.FrameRules.{Criteria, UnreadReason}
use Rattle.sub_rules.specs.PesPacketEvents.{all_events_of_pes_packets, run_ending_events}
use Rattle.sub_rules.specs.PesPacketEvents.{events_of_pes_packets}
use Rattle.sub_rules.specs.PesPacketEvents.{sent_by_pes_packets}
use Rattle.sub_rules.specs.PesPackets.{FailsAtPesPacket, PesPacket, ReadsPesPackets, frames_of}
use Rattle.sub_rules.specs.Trusted.{CheckStep}
use Rattle.sub_rules.specs.declared.event.Event.{Event}
use Rattle.sub_rules.specs.declared.fault.CheckFault.{CheckFault}
use Rattle.sub_rules.specs.declared.fault.CheckFault.TheVariants as fault
use Rattle.sub_checker.specs.StoredSkippedRun.{skipped_run_of}
use Rattle.sub_checker.specs.Relay.{relayed_events, relay_after}
use Rattle.sub_checker.specs.ReadCounts.{CarryFrames, HaveCompletePackets, AreCountsOfFrames}
use Rattle.sub_checker.specs.declared.reporter.Relay.{Relay}
use Rattle.sub_checker.specs.declared.accepted.Accepted.{Accepted}

-- There are at most as many PES packets as a file may have, their Teletext packets have 42 bytes,
-- and the counts agree with their frames. If no packet is skipped and no bytes are left, the bytes
-- are PES packets that carry these frames.
pub record MatchesReadFile
    (g : Criteria) (clock : Clock) (bytes : List ℕ) (pes_packets : List PesPacket) (a : Accepted)
    : Type 0 where
  pub few : length pes_packets ≤ max_pes_packets
  pub taken :
      length (frames_of pes_packets) ≡ length pes_packets
      → g.unread ≡ None
      → CarryFrames clock bytes (frames_of pes_packets) []
  pub whole : HaveCompletePackets (frames_of pes_packets)
  pub counts : AreCountsOfFrames g.watched.page (sent_by_pes_packets g pes_packets) a

-- All events of the PES file were reported, and the counts are as in `MatchesReadFile`; or a prefix
-- of the events was reported, if the device stopped the check; or the events of the packets before
-- the failure, without those at the end of a file, if the source failed.
abbrev pub ReportsPesPackets : {D : Type 0} → Criteria → Clock → List ℕ → List PesPacket
    → (D → Event → D → Type 0) → D → D → Result (Option Accepted) CheckFault → Type 0
ReportsPesPackets g clock bytes pes_packets IsReported old new (Ok (Some a)) =
    Reports IsReported old new (all_events_of_pes_packets g pes_packets) × MatchesReadFile g clock
    bytes
    pes_packets a
ReportsPesPackets g clock bytes pes_packets IsReported old new (Ok None) =
    ReportsPrefix IsReported old new (all_events_of_pes_packets g pes_packets)
ReportsPesPackets g clock bytes pes_packets IsReported old new (Err f) =
    (n : ℕ)
    × (n ≤ length pes_packets)
    × (f ≡ fault.Pes n Read)
    × Reports IsReported old new (events_of_pes_packets g (take n pes_packets))

-- The events of a PES file were reported as `ReportsPesPackets` states, for whatever PES packets
-- its bytes are.
abbrev pub ReportsFile : {D : Type 0} → (Option UnreadReason → Criteria) → Clock → List ℕ
    → (D → Event → D → Type 0) → D → D → Result (Option Accepted) CheckFault → Type 0
ReportsFile criteria clock bytes IsReported old new result =
    (pes_packets : List PesPacket) (unread : Option UnreadReason)
    → ReadsPesPackets clock 0 bytes pes_packets unread
    → ReportsPesPackets (criteria unread) clock bytes pes_packets IsReported old new result

-- The consumed bytes are `pes` PES packets, and then too few bytes for another; if none of these
-- packets is skipped, they are valid PES packets. Contracts state this if the source failed while
-- PES packet number `pes` was read.
abbrev pub FailsWhileReadingOn : Clock → ℕ → Option (List ℕ) → Option (List ℕ) → Type 0
FailsWhileReadingOn clock pes known left =
    FailsAtPesPacket pes known left
    × ((pes_packets : List PesPacket) (unread : Option UnreadReason)
    → IfKnown known (λ bytes.
    ReadsPesPackets clock 0 bytes pes_packets unread
    → length (frames_of (take pes pes_packets)) ≡ pes
    → FailsAfterValidPackets pes known left))

-- The events for a list of steps, followed by the event that ends the current run of skipped PES
-- packets, if the run has several packets.
abbrev pub events_with_run_end : Relay → List CheckStep → List Event
events_with_run_end p steps = relayed_events p steps ++ run_ending_events
    (skipped_run_of (relay_after p steps).run)
