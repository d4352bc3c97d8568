-- The schedule of a subtitle file as a transmission, which is good and can be read back from its
-- PES file.
use Rattle.std.specs.Prelude.{◌≡◌, ℕ, ◌≤◌, Bool, [], IfSome, map, None}
use Rattle.ttx_page.specs.Page.{Rows}
use Rattle.stl_rows.specs.declared.national.National.{National}
use Rattle.stl_rows.specs.Programme.{IsProgramme, ProgrammeValue}
use Rattle.sub_plan.specs.FrameTime.{clock_of}
use Rattle.sub_plan.specs.Options.{IsOptions, OptionsValue}
use Rattle.sub_plan.specs.Schedule.{due_page_in, plan, plan_frames}
use Rattle.sub_plan.specs.Sending.{sending}
use Rattle.sub_rules.specs.Transmission.{SentFrame, Transmission}
use Rattle.sub_rules.specs.Good.{Good}
use Rattle.sub_rules.specs.PesReading.{pes_file_of}

-- Frame f with a page transmission of its expected page.
abbrev pub planned_at : (ℕ → Rows) → OptionsValue → National → Bool → ℕ → SentFrame
planned_at due o national serial f =
    record { frame = f; packets = sending o.page national serial (due f) }

-- The schedule of a subtitle file as a transmission.
abbrev pub planned : ProgrammeValue → OptionsValue → Bool → Transmission
planned programme o serial =
    map (planned_at (due_page_in programme) o programme.drawing.national serial)
    (plan_frames programme o.every)

-- The schedule of a subtitle file with at least one subtitle is a good transmission, in serial and
-- parallel mode, unless the pace is less than the repeat bound. So a check with the same options
-- accepts it, and it meets the guarantees of a good transmission.
abbrev pub LawOfPlan : Type 0
LawOfPlan =
    (programme : ProgrammeValue) (options : OptionsValue) (serial : Bool)
    → IsProgramme programme.drawing programme.records
    → (programme.records ≡ [] → ⊥)
    → IsOptions options
    → IfSome options.pace (λ frames. options.every ≤ frames)
    → Good programme (planned programme options serial) options

-- The PES file of a schedule is read as the scheduled transmission, to the end of the file.
abbrev pub LawOfPlanRead : Type 0
LawOfPlanRead =
    (programme : ProgrammeValue) (options : OptionsValue) (serial : Bool)
    → IsProgramme programme.drawing programme.records
    → IsOptions options
    → pes_file_of (clock_of options) (plan programme options serial)
    ≡ record { frames = planned programme options serial; unread = None }
