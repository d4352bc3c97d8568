-- Which frames are trusted does not depend on the contents of unreliable subtitles.
use Rattle.std.specs.Prelude.{◌≡◌, ◌≢◌, ℕ, ◌<◌, ◌≤◌, ◌⊎◌, Bool, List, [], ◌∷◌, Contains, Option}
use Rattle.std.specs.Prelude.{IsFalse, IsTrue}
use Rattle.stl_file.specs.Subtitle.{SubtitleValue}
use Rattle.stl_rows.specs.Programme.{ProgrammeValue}
use Rattle.sub_plan.specs.Options.{OptionsValue}
use Rattle.sub_rules.specs.Events.{is_unfinished}
use Rattle.sub_rules.specs.FrameRules.{Criteria, UnreadReason, criteria_of}
use Rattle.sub_rules.specs.PesPacketEvents.{all_events_of_pes_packets}
use Rattle.sub_rules.specs.PesPackets.{PesPacket}
use Rattle.sub_rules.specs.declared.event.Event.TheVariants.{Trusted}
use Rattle.sub_laws.specs.CleanStretch.{HoldsAtFrameEnds, criteria_if_unreliable}
use Rattle.sub_trusted.specs.TrustedFrames.{rising_frames_of}

-- The subtitle ends after it begins, and is expected only in frames whose expected page is unknown.
pub record IsDueOnlyIfUndecided (undecided : ℕ → Bool) (t : SubtitleValue) : Type 0 where
  pub times : t.tci < t.tco
  pub within : (f : ℕ) → t.tci ≤ f → f < t.tco → IsTrue (undecided f)

-- The list has the subtitles `judged`, in order, and others that are expected only in frames whose
-- expected page is unknown.
abbrev pub HasOtherSubtitles : (ℕ → Bool) → List SubtitleValue → List SubtitleValue → Type 0
HasOtherSubtitles undecided judged [] = judged ≡ []
HasOtherSubtitles undecided judged (t ∷ all) =
    ((rest : List SubtitleValue) × (judged ≡ t ∷ rest) × HasOtherSubtitles undecided rest all)
    ⊎ (IsDueOnlyIfUndecided undecided t × HasOtherSubtitles undecided judged all)

-- The page is finished at the end of frame b, if frame b ends in the transmission.
abbrev pub IsFinishedAt : Criteria → List PesPacket → ℕ → Type 0
IsFinishedAt g pes_packets b =
    HoldsAtFrameEnds (λ n f. IsFalse (is_unfinished g (rising_frames_of g pes_packets) n f))
    (rising_frames_of g pes_packets) b b

-- One event reports that the frames `from` to `to` are trusted.
abbrev pub AreTrusted : Criteria → List PesPacket → ℕ → ℕ → Type 0
AreTrusted g pes_packets from to =
    (first : ℕ)
    × (last : ℕ)
    × (first ≤ from)
    × (to ≤ last)
    × Contains (all_events_of_pes_packets g pes_packets) (Trusted first last)

-- Frames that are trusted although there are unreliable subtitles are also trusted for a file with
-- any other subtitles in place of the unreliable ones, if each of these has its TCI before its TCO
-- and is expected only in frames whose expected page was unknown, and if the check against that
-- file has any event. If `within` is not 0, this holds up to each frame with a finished page.
abbrev pub LawOfEqualTrust : Type 0
LawOfEqualTrust =
    (programme : ProgrammeValue) (options : OptionsValue) (unread : Option UnreadReason)
    → (any_unreliable : Bool) (undecided : ℕ → Bool) (records : List SubtitleValue)
    → (pes_packets : List PesPacket) (from to b : ℕ)
    → HasOtherSubtitles undecided programme.records records
    → Contains (all_events_of_pes_packets (criteria_if_unreliable programme options unread
    any_unreliable undecided)
    pes_packets)
    (Trusted from to)
    → from ≤ b
    → b ≤ to
    → (0 < options.within
    → IsFinishedAt (criteria_if_unreliable programme options unread any_unreliable undecided)
    pes_packets b)
    → all_events_of_pes_packets (criteria_of (record programme { records = records }) options
    unread)
    pes_packets
    ≢ []
    → AreTrusted (criteria_of (record programme { records = records }) options unread) pes_packets
    from b
