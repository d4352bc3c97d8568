-- A transmission as a list of frames with PES packets, and the Teletext packets that are on air
-- between two frames.
use Rattle.std.specs.Prelude.{ℕ, ◌+◌, ◌<◌, ◌&&◌, List, [], ◌∷◌, nat_lt, nat_le, if◌then◌else◌}
use Rattle.std.specs.Prelude.{drop, flat_map, All, AllPairs}

-- A frame with a PES packet: its number, and the bytes of its Teletext packets, if any, in the
-- order of transmission. Frames last 1/25 of a second and are counted from midnight (not defined by
-- a standard).
pub record SentFrame : Type 0 where
  pub frame : ℕ
  pub packets : List (List ℕ)

-- A transmission: its frames with PES packets, in the order of transmission. A frame may have
-- several entries. A frame that is not in the list has no packet.
abbrev pub Transmission : Type 0
Transmission = List SentFrame

-- The frame numbers of the transmission strictly increase.
abbrev pub IsRising : Transmission → Type 0
IsRising frames = AllPairs (λ earlier later. earlier.frame < later.frame) frames

-- The number of the first frame of a transmission; 0 if it has no frame.
abbrev pub first_frame : Transmission → ℕ
first_frame [] = 0
first_frame (s ∷ frames) = s.frame

-- The number of the last frame of a transmission; 0 if it has no frame.
abbrev pub last_frame : Transmission → ℕ
last_frame [] = 0
last_frame (s ∷ []) = s.frame
last_frame (s ∷ next ∷ frames) = last_frame (next ∷ frames)

-- The packets of the frames from `from` up to, but not including, `end`.
abbrev pub packets_between : Transmission → ℕ → ℕ → List (List ℕ)
packets_between frames from end =
    flat_map
    (λ (s : SentFrame). if nat_le from s.frame && nat_lt s.frame end then s.packets else [])
    frames

-- The packets of a frame; none if the frame is not in the transmission.
abbrev pub packets_of : Transmission → ℕ → List (List ℕ)
packets_of frames frame = packets_between frames frame (frame + 1)

-- The packets on air from packet j of frame g, counted from 0, to the end of frame f.
abbrev pub on_air : Transmission → ℕ → ℕ → ℕ → List (List ℕ)
on_air frames g j f = drop j (packets_between frames g (f + 1))

-- The packets on air from the first packet to the end of frame f.
abbrev pub on_air_until : Transmission → ℕ → List (List ℕ)
on_air_until frames f = on_air frames (first_frame frames) 0 f

-- Each packet of the transmission has the property P.
abbrev pub EachPacket : (List ℕ → Type 0) → Transmission → Type 0
EachPacket P frames = All (λ (s : SentFrame). All P s.packets) frames
