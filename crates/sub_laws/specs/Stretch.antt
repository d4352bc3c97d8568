-- The guarantees for a range of frames, and for an entire transmission.
use Rattle.std.specs.Prelude.{ℕ}
use Rattle.ttx_page.specs.Receiver.{ReceiverClass}
use Rattle.ttx_page.specs.Receiver.ReceiverClass.{Storing}
use Rattle.stl_rows.specs.Programme.{ProgrammeValue}
use Rattle.sub_plan.specs.Options.{OptionsValue}
use Rattle.sub_laws.specs.LostRows.{RobustToLostRows}
use Rattle.sub_laws.specs.OnScreen.{CompleteWithin, ShownWithin}
use Rattle.sub_laws.specs.Recovery.{RecoversWithin}
use Rattle.sub_laws.specs.Robust.{Robust}
use Rattle.sub_rules.specs.Transmission.{Transmission, first_frame, last_frame}

-- The guarantees for the frames from a to b, for receivers of each class.
pub record MayBeTrusted
    (programme : ProgrammeValue) (transmission : Transmission) (options : OptionsValue) (a b : ℕ)
    : Type 0 where
  -- Receivers recover in the frames from a to b.
  pub recovers : (class : ReceiverClass) → RecoversWithin class programme transmission options a b
  -- If pages are complete in these frames, the screens show the expected page, as in `ShownWithin`.
  pub shown :
      CompleteWithin transmission options a b
      → (class : ReceiverClass)
      → ShownWithin class programme transmission options a b

-- The guarantees for an entire transmission.
pub record HasPromises
    (programme : ProgrammeValue) (transmission : Transmission) (options : OptionsValue)
    : Type 0 where
  -- The main theorem: the transmission is robust.
  pub robust : Robust programme transmission options
  -- The transmission is robust even if rows are lost.
  pub transmission_survives_lost_rows : RobustToLostRows programme transmission options
  -- The guarantees of `MayBeTrusted` hold for all frames.
  pub trusted :
      MayBeTrusted programme transmission options (first_frame transmission)
      (last_frame transmission)

-- If receivers recover in all frames of a transmission, it is robust, even if rows are lost. So it
-- is enough to prove recovery.
abbrev pub LawOfFullRecovery : Type 0
LawOfFullRecovery =
    (programme : ProgrammeValue) (transmission : Transmission) (options : OptionsValue)
    → RecoversWithin Storing programme transmission options (first_frame transmission)
    (last_frame transmission)
    → Robust programme transmission options
    × RobustToLostRows programme transmission options

-- If the guarantees hold for the range of all frames of a transmission, they hold for the
-- transmission.
abbrev pub LawOfFullStretch : Type 0
LawOfFullStretch =
    (programme : ProgrammeValue) (transmission : Transmission) (options : OptionsValue)
    → MayBeTrusted programme transmission options (first_frame transmission)
    (last_frame transmission)
    → HasPromises programme transmission options
