-- A clock converts the PTS of a frame of the day back to that frame.
use Rattle.std.proofs.lemmas.Bool.Decides.{nat_tests}
use Rattle.std.proofs.Common.{◌≡◌, ◌≢◌, ℕ, zero, suc, ◌+◌, ◌-◌, ◌/◌, ◌%◌, ◌^◌, ◌<◌}
use Rattle.std.proofs.Common.{◌↔◌, Option, Some, None, refl, sym, ◌∙◌, arith, MatchOption}
use Rattle.stl_file.specs.TimeCode.{day}
use Rattle.sub_plan.specs.FrameTime.{clock, frame_below, frame_of_pts, frame_with_tolerance, pts_of}
use Rattle.sub_plan.specs.FrameTime.{ticks_after}
use Rattle.sub_plan.specs.Laws.{LawOfClock, LawOfExactClock, LawOfNearClock}

pub found_below :
    (origin pts n : ℕ) (r : Option ℕ)
    → frame_below origin pts n ≡ r
    → MatchOption r ((f : ℕ) → f < n → pts_of origin f ≢ pts)
    (λ f. (f < n) × (pts_of origin f ≡ pts))
unfolding frame_below
found_below origin pts zero (Some f) e = cc
found_below origin pts zero None e = λ f l. absurd (omega arith)
found_below origin pts (suc n) (Some f) e =
    let ih = found_below origin pts n (Some f) in grind (arith, nat_tests)
found_below origin pts (suc n) None e =
    let ih = found_below origin pts n None in grind (arith, nat_tests)

-- Two different frames of the day have different PTSs.
pub same_frame :
    (origin f g : ℕ)
    → f < day
    → g < day
    → pts_of origin f ≡ pts_of origin g
    → f ≡ g
same_frame origin f g in_day also e = omega (arith, in_day, also, e)

pub frame_found :
    (origin pts frame : ℕ)
    → frame < day
    → pts_of origin frame ≡ pts
    → frame_of_pts origin pts ≡ Some frame
frame_found origin pts frame in_day e =
    let same = same_frame origin frame in
    grind (arith, nat_tests, found_below origin pts day (frame_of_pts origin pts))

pub no_frame_found :
    (origin pts : ℕ)
    → ((frame : ℕ) → frame < day → pts_of origin frame ≢ pts)
    → frame_of_pts origin pts ≡ None
no_frame_found origin pts none =
    let all = found_below origin pts day (frame_of_pts origin pts) refl in grind arith

frame_with_tolerance_read :
    (origin pts frame : ℕ)
    → pts < 2 ^ 33
    → frame < day
    → ticks_after origin pts / 3600 ≡ frame
    → frame_with_tolerance origin pts ≡ Some frame
unfolding frame_with_tolerance
frame_with_tolerance_read origin pts frame low in_day is = grind (arith, nat_tests)

ticks_of :
    (origin frame ticks pts : ℕ)
    → origin < 2 ^ 33
    → frame < day
    → ticks < 3600
    → pts ≡ (pts_of origin frame + (2 ^ 33 - 900) + ticks) % 2 ^ 33
    → ticks_after origin pts / 3600 ≡ frame
ticks_of origin frame ticks pts low in_day few is = omega (arith, low, in_day, few, is)

pub law_of_near_clock : LawOfNearClock
unfolding clock
law_of_near_clock zero origin frame ticks low in_day some few = absurd (omega arith)
law_of_near_clock (suc n) origin frame ticks low in_day some few =
    frame_with_tolerance_read origin _ frame (omega arith) in_day
    (ticks_of origin frame ticks _ low in_day few refl)

pub law_of_clock : LawOfClock
unfolding clock
law_of_clock zero origin frame low in_day =
    frame_found origin (pts_of origin frame) frame in_day refl
law_of_clock (suc n) origin frame low in_day =
    frame_with_tolerance_read origin (pts_of origin frame) frame (omega arith) in_day
    (ticks_of origin frame 900 (pts_of origin frame) low in_day (omega arith) (omega arith))

pub exact_by :
    (origin pts : ℕ) (r : Option ℕ)
    → r ≡ frame_of_pts origin pts
    → (frame : ℕ)
    → (r ≡ Some frame) ↔ ((frame < day) × (pts_of origin frame ≡ pts))
exact_by origin pts r is frame = (
  λ found. found_below origin pts day (Some frame) (sym is ∙ found),
  λ both. is ∙ frame_found origin pts frame both.0 both.1,
)

pub law_of_exact_clock : LawOfExactClock
unfolding clock
law_of_exact_clock origin pts frame = exact_by origin pts (frame_of_pts origin pts) refl frame

pub pts_without_frame_reads_none : (origin pts : ℕ)
    → ((frame : ℕ) → frame < day → pts_of origin frame ≢ pts)
    → None ≡ frame_of_pts origin pts
pts_without_frame_reads_none origin pts none = sym (no_frame_found origin pts none)

pub pts_of_frame_reads_frame : (origin pts frame : ℕ)
    → frame < day
    → pts_of origin frame ≡ pts
    → Some frame ≡ frame_of_pts origin pts
pts_of_frame_reads_frame origin pts frame in_day is = sym (frame_found origin pts frame in_day is)

pub clock_without_tolerance_is_exact : (within origin pts : ℕ)
    → within ≡ 0
    → frame_of_pts origin pts ≡ clock within origin pts
unfolding clock
clock_without_tolerance_is_exact zero origin pts none = refl
clock_without_tolerance_is_exact (suc n) origin pts none = absurd (omega arith)

pub clock_reads_with_tolerance : (within origin pts : ℕ)
    → within ≢ 0
    → frame_with_tolerance origin pts ≡ clock within origin pts
unfolding clock
clock_reads_with_tolerance zero origin pts some = absurd (some refl)
clock_reads_with_tolerance (suc n) origin pts some = refl
