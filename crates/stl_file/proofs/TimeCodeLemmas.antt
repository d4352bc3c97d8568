-- The four bytes of a valid time code give a frame of the day, and the bytes of each frame are a
-- valid time code.
use Rattle.std.proofs.Common.{◌≡◌, ℕ, true, List, arith, ◌<◌, ◌/◌, ◌%◌}
use Rattle.std.proofs.lemmas.Bool.Decides.{nat_tests}
use Rattle.stl_file.specs.TimeCode.{day, frame_from_bytes, is_valid_time_field, is_time_code}

pub in_day : (b : List ℕ) → is_valid_time_field b ≡ true → frame_from_bytes b < day
unfolding is_valid_time_field frame_from_bytes
in_day b e = grind (arith, nat_tests)

pub frame_has_valid_time_code : (f : ℕ)
    → f < day
    → is_time_code (f / 90000) ((f / 1500) % 60) ((f / 25) % 60) (f % 25) ≡ true
frame_has_valid_time_code f lt = grind (arith, nat_tests)
