-- The model of a reader of the PES packets of a recording.
use Rattle.std.specs.Prelude.{◌≡◌, ℕ, Bool, true, false, List, [], Option, option_map}
use Rattle.mpeg_ts.specs.Joining.{has_ended}
use Rattle.mpeg_ts.specs.Stream.{StreamValue, start_of_stream}

-- The model of a reader of a recording: its source, the reading state, and whether its last call of
-- `next` returned `Rest`.
pub record RecordingValue (D : Type 0) : Type 0 where
  pub device : D
  pub stream : StreamValue
  pub is_finished : Bool

-- The state of a reader at the start of a recording.
abbrev pub recording_at_start : {D : Type 0} → D → ℕ → ℕ → RecordingValue D
recording_at_start device number distance = record {
  device = device;
  stream = start_of_stream number distance;
  is_finished = false;
}

-- All collected bytes are pending, and no output follows them.
pub record IsAtRest (v : StreamValue) : Type 0 where
  pub all : v.joining.pending ≡ v.joining.bytes
  pub ended : has_ended v.joining.part ≡ true

-- The remaining bytes of a reader, without a rest that it has reported: none if its last call of
-- `next` returned `Rest`, otherwise `known_bytes`. The bytes of the rest are read by `read_rest`.
abbrev pub remaining_unless_over : Bool → Option (List ℕ) → Option (List ℕ)
remaining_unless_over false known_bytes = known_bytes
remaining_unless_over true known_bytes = option_map (λ bytes. []) known_bytes
