-- If `within` is 0, the tests for faults are exact: a fault is found at a place of a transmission,
-- or is active at the end of a frame, if and only if a rule is broken there. Rows are compared
-- exactly only after packets without faults.
use Rattle.std.specs.Prelude.{◌≡◌, ◌↔◌, ℕ, suc, ◌<◌, ◌≤◌, List, [], length, map, Option}
use Rattle.std.specs.Prelude.{Some, None, IsTrue, IsFalse}
use Rattle.ttx_packet.specs.PacketAddress.{IsPacket}
use Rattle.ttx_page.specs.Page.{IsCell}
use Rattle.stl_rows.specs.Programme.{IsProgramme, ProgrammeValue}
use Rattle.sub_plan.specs.Options.{OptionsValue}
use Rattle.sub_rules.specs.Events.{place_of_broken_rule, first_header_events, first_reported_fault}
use Rattle.sub_rules.specs.Events.{late_events}
use Rattle.sub_rules.specs.Events.{order_events, active_faults_at}
use Rattle.sub_rules.specs.FrameRules.{Criteria, HasHeader, HasRecentPageHeader}
use Rattle.sub_rules.specs.FrameRules.{IsCompleteIfRequired}
use Rattle.sub_rules.specs.FrameRules.{HasRecentPesPacket, IsCorrectCell}
use Rattle.sub_rules.specs.FrameRules.{UnreadReason, criteria_of, end_frame, frame_at}
use Rattle.sub_rules.specs.Good.{Good}
use Rattle.sub_rules.specs.Repeats.{GoodWithRepeats}
use Rattle.sub_rules.specs.PesPacketEvents.{all_events_of_pes_packets}
use Rattle.sub_rules.specs.PesPackets.{PesPacket, frames_of, joined}
use Rattle.sub_rules.specs.PesPackets.PesPacket.{Sent}
use Rattle.sub_rules.specs.PacketRules.{AreClean, KeepsRule}
use Rattle.sub_rules.specs.PacketTests.{breaks}
use Rattle.sub_rules.specs.Transmission.{EachPacket, Transmission}
use Rattle.sub_rules.specs.declared.end_rule.EndRule.{EndRule}
use Rattle.sub_rules.specs.declared.end_rule.EndRule.TheVariants as end
use Rattle.sub_rules.specs.declared.packet_rule.PacketRule.{PacketRule}
use Rattle.sub_rules.specs.declared.packet_rule.PacketRule.TheVariants as rule
use Rattle.sub_rules.specs.declared.packet_rule.Watched.{Watched}
use Rattle.sub_laws.specs.OnScreen.{Complete}

-- The first wrong cell at the end of frame f, after n frames of the transmission.
pub record IsFirstWrongCell (g : Criteria) (frames : Transmission) (n f row column : ℕ) : Type 0
  where
    pub is_cell : IsCell row column
    pub broken : IsCorrectCell g frames n f row column → ⊥
    pub above : (r k : ℕ) → IsCell r k → r < row → IsCorrectCell g frames n f r k
    pub before : (k : ℕ) → k < column → IsCorrectCell g frames n f row k

-- The requirement of each rule that is checked at the end of frame f, after n frames of the
-- transmission. If the expected page is unknown, any code may be in any cell.
abbrev pub IsKept : EndRule → Criteria → Transmission → ℕ → ℕ → Type 0
IsKept end.Content g frames n f =
    IsFalse (g.undecided f)
    → (row column : ℕ)
    → IsCell row column
    → IsCorrectCell g frames n f row column
IsKept end.Gap g frames n f = HasRecentPageHeader g frames n f
IsKept end.Incomplete g frames n f = IsCompleteIfRequired g frames n
IsKept end.Undecided g frames n f = IsFalse (g.undecided f)
IsKept end.Silent g frames n f = HasRecentPesPacket g frames n f

-- A fault is active at the end of frame f if and only if its rule is broken. For wrong text, the
-- fault gives the first wrong cell.
pub record AreActiveFaults (g : Criteria) (frames : Transmission) (n f : ℕ) : Type 0 where
  pub rules :
      (rule : EndRule)
      → (place_of_broken_rule rule (active_faults_at g frames n f) ≡ None) ↔ IsKept rule g frames n
      f
  pub cell :
      (x : ℕ × ℕ)
      → (active_faults_at g frames n f).content ≡ Some x
      → IsFirstWrongCell g frames n f x.0 x.1

-- A packet of 42 bytes that has correct address bytes, follows packets without faults and, if it is
-- a row of the open page, has odd parity. Such packets of one row are equal if they have the same
-- codes.
pub record IsComparable (w : Watched) (before : List (List ℕ)) (p : List ℕ) : Type 0 where
  pub clean : AreClean w before
  pub whole : IsPacket p
  pub exact : KeepsRule rule.Address w before p
  pub odd : KeepsRule rule.Parity w before p

-- A fault is found at a place of a transmission, or is active at the end of a frame, if and only if
-- a rule is broken there; for `RowChanged`, if the packet is comparable (`IsComparable`).
pub record ReportsBrokenPlaces (g : Criteria) (frames : Transmission) : Type 0 where
  -- The first frame is not after the first TCI, and each later frame is after the frame before it.
  pub start :
      (order_events g frames 0 ≡ [])
      ↔ ((first : ℕ) → g.first_tci ≡ Some first → frame_at frames 0 ≤ first)
  pub order :
      (i : ℕ) → (order_events g frames (suc i) ≡ []) ↔ (frame_at frames i < frame_at frames (suc i))
  -- The test of each packet rule passes if and only if the packet keeps the rule. Rows are compared
  -- by their codes; for packets without other faults, the codes determine the bytes.
  pub rules :
      (r : PacketRule) (before : List (List ℕ)) (p : List ℕ)
      → (r ≡ rule.RowChanged → IsComparable g.watched before p)
      → IsFalse (breaks r g.watched before p) ↔ KeepsRule r g.watched before p
  -- The first frame has a header of the page.
  pub header : (first_header_events g frames 0 ≡ []) ↔ HasHeader g frames 0
  -- The active faults at the end of a frame are exact. An active fault is reported if it was not
  -- active, at the same place, at the frame end before.
  pub ends : (n f : ℕ) → n ≤ length frames → AreActiveFaults g frames n f
  -- The last TCO is not after the last frame of the transmission.
  pub late :
      (late_events g frames ≡ [])
      ↔ ((last : ℕ) → g.last_tco ≡ Some last → last ≤ end_frame frames)
  -- If each packet has 42 bytes and there is any event, there is a fault, unless there are
  -- unreliable subtitles: then trusted frames are reported even without a fault.
  pub first :
      IsFalse g.any_unreliable
      → EachPacket IsPacket frames
      → first_reported_fault (all_events_of_pes_packets g (map Sent frames)) ≡ None
      → all_events_of_pes_packets g (map Sent frames) ≡ []

-- If `within` is 0, a fault is found at a place of a transmission, or is active at the end of a
-- frame, if and only if a rule is broken there; for `RowChanged`, if the packet is comparable
-- (`IsComparable`). For wrong text, the fault gives the first wrong cell.
abbrev pub LawOfBrokenPlaces : Type 0
LawOfBrokenPlaces = (g : Criteria) (frames : Transmission) → g.within ≡ 0 → ReportsBrokenPlaces g
    frames

-- If the subtitles are valid and none is unreliable, a PES file has no event if and only if no PES
-- packet is skipped, its frames are good under the options, and the entire file was read. If
-- `within` is not 0, consecutive PES packets of one frame are merged.
abbrev pub LawOfEmptyReportRepeats : Type 0
LawOfEmptyReportRepeats =
    (programme : ProgrammeValue) (options : OptionsValue) (unread : Option UnreadReason)
    (pes_packets : List PesPacket)
    → IsProgramme programme.drawing programme.records
    → 0 < options.every
    → EachPacket IsPacket (joined options.within (frames_of pes_packets))
    → (all_events_of_pes_packets (criteria_of programme options unread) pes_packets ≡ [])
    ↔ ((length (frames_of pes_packets) ≡ length pes_packets)
    × GoodWithRepeats options.keeps programme (joined options.within (frames_of pes_packets))
    options
    × (unread ≡ None))

-- If each header must have C4 (erase page) set, `within` is 0 and no subtitle is unreliable, a PES
-- file has no event if and only if no PES packet is skipped, its frames are good, with complete
-- pages if these are required, and the entire file was read.
abbrev pub LawOfEmptyReport : Type 0
LawOfEmptyReport =
    (programme : ProgrammeValue) (options : OptionsValue) (unread : Option UnreadReason)
    (pes_packets : List PesPacket)
    → IsFalse options.keeps
    → options.within ≡ 0
    → 0 < options.every
    → EachPacket IsPacket (frames_of pes_packets)
    → (all_events_of_pes_packets (criteria_of programme options unread) pes_packets ≡ [])
    ↔ ((length (frames_of pes_packets) ≡ length pes_packets)
    × Good programme (frames_of pes_packets) options
    × (IsTrue options.asks_complete → Complete (frames_of pes_packets) options)
    × (unread ≡ None))
