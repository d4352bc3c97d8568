-- The frames of a PES file, given the PTS of frame 0 (EN 300 472), and why the rest of the file
-- cannot be read, if it cannot.
use Rattle.std.specs.Prelude.{◌≡◌, ◌↔◌, ℕ, List, Option}
use Rattle.sub_rules.specs.FrameRules.{UnreadReason}
use Rattle.sub_plan.specs.FrameTime.{Clock, clock_of}
use Rattle.sub_plan.specs.Options.{OptionsValue}
use Rattle.sub_rules.specs.PesFrames.{Carries, CarriesOnClock}
use Rattle.sub_rules.specs.PesPackets.{PesFileValue, pes_packets_at, file_until_first_skipped}
use Rattle.sub_rules.specs.Transmission.{Transmission}

-- The frames in the bytes after `given` PES packets, up to the first packet that would be skipped.
unfoldable pub file_at : Clock → ℕ → List ℕ → PesFileValue
file_at clock given bytes = file_until_first_skipped (pes_packets_at clock given bytes)

-- The frames of a PES file, up to the first packet that would be skipped.
abbrev pub pes_file_of : Clock → List ℕ → PesFileValue
pes_file_of clock bytes = file_at clock 0 bytes

-- The bytes after `given` PES packets are exactly these frames, followed by the unread rest, if
-- there is one.
abbrev pub ReadsAs : Clock → ℕ → List ℕ → Transmission → Option UnreadReason → Type 0
ReadsAs clock given bytes frames unread =
    file_at clock given bytes ≡ record { frames = frames; unread = unread }

-- If `within` is 0, a file carries a transmission with the clock of the options if and only if it
-- has one PES packet for each frame, with exactly the PTS of that frame (`Carries`). So results for
-- any `within` also hold for exact PTS values.
abbrev pub LawOfExactFrames : Type 0
LawOfExactFrames =
    (options : OptionsValue) (bytes : List ℕ) (frames : Transmission)
    → options.within ≡ 0
    → CarriesOnClock (clock_of options) options.within bytes frames ↔ Carries options.origin bytes
    frames
