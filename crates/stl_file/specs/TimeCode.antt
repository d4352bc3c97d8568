-- Time codes (EBU Tech 3264, TTI block, fields TCI and TCO) at 25 frames per second, as frames of
-- the day: 0 to 2,159,999.
use Rattle.std.specs.Prelude.{ℕ, ◌+◌, ◌*◌, ◌/◌, ◌%◌, Bool, ◌&&◌, nat_lt, List, [], ◌∷◌}
use Rattle.std.specs.Prelude.{slice_index}

-- The number of frames of a day: 24 hours at 25 frames per second.
abbrev pub day : ℕ
day = 2160000

-- The frame of the day for a time code of hours, minutes, seconds and frames.
abbrev pub frame_of : ℕ → ℕ → ℕ → ℕ → ℕ
frame_of hours minutes seconds frames = ((hours * 60 + minutes) * 60 + seconds) * 25 + frames

-- The time code is valid: hours up to 23, minutes and seconds up to 59, frames up to 24.
abbrev pub is_time_code : ℕ → ℕ → ℕ → ℕ → Bool
is_time_code hours minutes seconds frames =
    nat_lt hours 24 && nat_lt minutes 60 && nat_lt seconds 60 && nat_lt frames 25

-- The four bytes b are a valid time code at 25 frames per second.
unfoldable pub is_valid_time_field : List ℕ → Bool
is_valid_time_field b =
    is_time_code (slice_index b 0) (slice_index b 1) (slice_index b 2) (slice_index b 3)

-- The frame of the day for the four bytes of a time code.
unfoldable pub frame_from_bytes : List ℕ → ℕ
frame_from_bytes b = frame_of (slice_index b 0) (slice_index b 1) (slice_index b 2)
    (slice_index b 3)

-- The four bytes of a time code: hours, minutes, seconds and frames of a frame of the day.
abbrev pub time_bytes : ℕ → List ℕ
time_bytes frame =
    (frame / 90000) ∷ ((frame / 1500) % 60) ∷ ((frame / 25) % 60) ∷ (frame % 25) ∷ []
