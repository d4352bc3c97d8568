-- The law for recordings that `check --pace` accepts.
use Rattle.std.specs.Prelude.{◌≡◌, ℕ, List, [], ◌∷◌, ◌++◌, drop, Some, unwrap_or}
use Rattle.std.specs.List.{AllByRecursion, concat}
use Rattle.ttx_pes.specs.PesPackets.{IsPesPacket}
use Rattle.ttx_pes.specs.Reading.{pts_bits}
use Rattle.mpeg_ts.specs.CarriedPackets.{carried_bytes}
use Rattle.recording_laws.specs.Losses.{IsRecordingWithLosses, SentUnit}
use Rattle.recording_laws.specs.Multiplex.{Multiplex, sent_pes_packets}
use Rattle.recording_laws.specs.Pace.{AreFarApart, FirstPacketContainsPts, up_to_pts}
use Rattle.stl_rows.specs.Programme.{ProgrammeValue}
use Rattle.sub_plan.specs.FrameTime.{clock_of}
use Rattle.sub_plan.specs.Options.{OptionsValue}
use Rattle.sub_rules.specs.PesFrames.{CarriesOnClock}
use Rattle.sub_rules.specs.Repeats.{GoodWithRepeats}
use Rattle.sub_rules.specs.Transmission.{Transmission}

-- The frame of a PES packet, computed from the bytes up to its PTS with the clock of the options; 0
-- if the clock gives no frame for the PTS.
abbrev pub frame_by_clock : OptionsValue → List ℕ → ℕ
frame_by_clock options prefix = unwrap_or (clock_of options (pts_bits (drop 6 prefix))) 0

-- The PES packets of the list `packets`, at least one, were sent one after another, and none
-- between them is missing. All have the bytes that were sent, the last of them only up to its PTS.
pub record AreConsecutiveSent (sent packets : List (List ℕ)) : Type 0 where
  pub run : List (List ℕ)
  pub last : List ℕ
  pub packets_are_equal : packets ≡ run ++ last ∷ []
  pub earlier : List (List ℕ)
  pub next : List ℕ
  pub later : List (List ℕ)
  pub sent_bytes_eq : sent ≡ earlier ++ (run ++ (next ∷ later))
  pub last_matches_up_to_pts : up_to_pts next ≡ up_to_pts last

-- The law of `check --pace`. Assumptions: the multiplexer announces no jump of the PID's continuity
-- counter, the first TS packet of each PES packet contains its PTS, and of two PES packets with 16
-- or more TS packets of the PID with payload, without their repeats, between their starts, the
-- second is more than `pace` frames later by the clock of the options. If a recording carries only
-- complete PES packets and gap markers, and all its PES packets, or a range of them, form a good
-- transmission by options with this maximum distance, they were sent one after another, for any
-- number of lost TS packets. `check --pace` accepts only such transmissions. So if it accepts a
-- recording, no PES packet is missing between the first and the last that it read.
abbrev pub LawOfPacedCheck : Type 0
LawOfPacedCheck =
    (number distance pace : ℕ) (m : Multiplex SentUnit) (recording : List ℕ)
    (before packets following : List (List ℕ))
    (programme : ProgrammeValue) (transmission : Transmission) (options : OptionsValue)
    → IsRecordingWithLosses number distance m recording
    → AllByRecursion (FirstPacketContainsPts distance) m.sent
    → AreFarApart (frame_by_clock options) pace m.sent
    → AllByRecursion IsPesPacket (before ++ (packets ++ following))
    → carried_bytes number distance recording ≡ concat (before ++ (packets ++ following))
    → CarriesOnClock (clock_of options) options.within (concat packets) transmission
    → GoodWithRepeats options.keeps programme transmission options
    → options.pace ≡ Some pace
    → AreConsecutiveSent (sent_pes_packets m) packets
