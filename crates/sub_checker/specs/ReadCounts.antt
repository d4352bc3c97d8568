-- The counts that the checker returns for a PES file.
use Rattle.std.specs.Prelude.{◌≡◌, ℕ, ◌+◌, ◌<◌, List, ◌++◌, length, All}
use Rattle.std.specs.List.{AllByRecursion, AllZip, concat}
use Rattle.ttx_packet.specs.PageId.{PageIdValue}
use Rattle.ttx_pes.specs.PesGrammar.{IsValidPesPacket, PesValue}
use Rattle.sub_plan.specs.FrameTime.{Clock}
use Rattle.sub_rules.specs.Events.{latest_frame}
use Rattle.sub_rules.specs.FrameRules.{frame_at, packets_before}
use Rattle.sub_rules.specs.PacketRules.{header_count}
use Rattle.sub_rules.specs.PesFrames.{IsReadAs}
use Rattle.sub_rules.specs.Transmission.{SentFrame, Transmission}
use Rattle.sub_checker.specs.declared.accepted.Accepted.{Accepted}

-- The counts agree with the frames that were sent: the number of frames from the first to the
-- greatest frame number (0 if no frame was sent), and the number of headers of the page.
pub record AreCountsOfFrames (page : PageIdValue) (frames : Transmission) (a : Accepted) : Type 0
  where
    pub none : length frames ≡ 0 → a.frames ≡ 0
    pub frames_are :
        0 < length frames → a.frames + frame_at frames 0 ≡ latest_frame frames (length frames) + 1
    pub headers_eq :
        a.headers ≡ header_count page (packets_before frames (length frames))

-- Each Teletext packet of the frames has 42 bytes.
abbrev pub HaveCompletePackets : Transmission → Type 0
HaveCompletePackets frames =
    AllByRecursion (λ (s : SentFrame). All (λ packet. length packet ≡ 42) s.packets) frames

-- The bytes are PES packets that carry these frames according to the clock, followed by `rest`.
pub record CarryFrames
    (clock : Clock) (bytes : List ℕ) (frames : Transmission) (rest : List ℕ)
    : Type 0 where
  pub values : List PesValue
  pub packets : List (List ℕ)
  pub each : AllZip IsValidPesPacket values packets
  pub read : AllZip (IsReadAs clock) values frames
  pub joined : bytes ≡ concat packets ++ rest
