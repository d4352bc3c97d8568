-- PES packets and the frames that they carry. The PTS of each packet determines its frame, given
-- the PTS of frame 0 (EN 300 472: 33 bits at 90 kHz).
use Rattle.std.specs.Prelude.{◌≡◌, ℕ, ◌<◌, ◌≤◌, List, length, map, Some}
use Rattle.std.specs.List.{AllZip, concat}
use Rattle.ttx_pes.specs.DataUnit.{UnitValue}
use Rattle.ttx_pes.specs.PesGrammar.{IsValidPesPacket, PesValue}
use Rattle.ttx_pes.specs.Reading.{max_pes_packets}
use Rattle.stl_file.specs.TimeCode.{day}
use Rattle.sub_plan.specs.FrameTime.{Clock, pts_of}
use Rattle.sub_rules.specs.PesPackets.{joined}
use Rattle.sub_rules.specs.Transmission.{SentFrame, Transmission, IsRising}

-- The PES packet carries the frame s: it has the PTS of that frame, and its Teletext data units are
-- the packets of s, in order. Stuffing units carry no packet.
pub record IsSentAs (origin : ℕ) (pes : PesValue) (s : SentFrame) : Type 0 where
  pub in_day : s.frame < day
  pub pts : pes.pts ≡ pts_of origin s.frame
  pub packets : s.packets ≡ map (λ (u : UnitValue). u.packet) pes.units

-- The bytes are a PES file that carries these frames: valid PES packets, at most as many as a day
-- has frames, one packet for each frame, with increasing frame numbers.
pub record Carries (origin : ℕ) (bytes : List ℕ) (frames : Transmission) : Type 0 where
  pub values : List PesValue
  pub packets : List (List ℕ)
  pub each : AllZip IsValidPesPacket values packets
  pub few : length packets ≤ max_pes_packets
  pub joined : bytes ≡ concat packets
  pub sent : AllZip (IsSentAs origin) values frames
  pub rising : IsRising frames

-- The clock converts the PTS of the PES packet to the frame s, and the Teletext data units of the
-- PES packet are the packets of s.
pub record IsReadAs (clock : Clock) (pes : PesValue) (s : SentFrame) : Type 0 where
  pub frame : clock pes.pts ≡ Some s.frame
  pub packets : s.packets ≡ map (λ (u : UnitValue). u.packet) pes.units

-- The bytes are a PES file that carries these frames on this clock: valid PES packets, at most as
-- many as a day has frames, each with a PTS that the clock converts to the number of its frame. If
-- `within` is not 0, consecutive PES packets of one frame are merged. The frame numbers increase.
pub record CarriesOnClock
    (clock : Clock) (within : ℕ) (bytes : List ℕ) (frames : Transmission)
    : Type 0 where
  pub values : List PesValue
  pub packets : List (List ℕ)
  pub sendings : Transmission
  pub each : AllZip IsValidPesPacket values packets
  pub few : length packets ≤ max_pes_packets
  pub is_whole : bytes ≡ concat packets
  pub read : AllZip (IsReadAs clock) values sendings
  pub are : frames ≡ joined within sendings
  pub rising : IsRising frames
