-- An entry of a transmission: one frame and its packets.
use Rattle.std.specs.Prelude.{◌≡◌, ℕ, ◌<◌, List, length}
use Rattle.sub_rules.specs.FrameRules.{frame_at, packets_of_frame}
use Rattle.sub_rules.specs.Transmission.{Transmission}

-- Entry i of the transmission has this frame number and these packets.
pub record IsSentFrame (frames : Transmission) (i frame : ℕ) (packets : List (List ℕ)) : Type 0
  where
    pub there : i < length frames
    pub frame_eq : frame_at frames i ≡ frame
    pub packets_are : packets_of_frame frames i ≡ packets
