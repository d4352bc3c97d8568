-- The conditions, weaker than the seven rules, that suffice for the main theorem in a range of
-- frames.
use Rattle.std.specs.Prelude.{◌≡◌, ℕ, ◌+◌, ◌<◌, ◌≤◌}
use Rattle.ttx_page.specs.Noise.{IsSound}
use Rattle.ttx_page.specs.Page.{cell, IsCell}
use Rattle.ttx_page.specs.Shown.{shown}
use Rattle.stl_rows.specs.Programme.{ProgrammeValue}
use Rattle.sub_plan.specs.Options.{OptionsValue}
use Rattle.sub_plan.specs.Schedule.{due_page_in}
use Rattle.sub_rules.specs.Transmission.{Transmission, IsRising, first_frame, last_frame, on_air}
use Rattle.sub_rules.specs.Transmission.{on_air_until}
use Rattle.sub_rules.specs.Good.{Good, HoldsHeader}
use Rattle.sub_laws.specs.Stretch.{MayBeTrusted}

-- The conditions of the main theorem for the frames from a to b, apart from the text. Earlier
-- frames may have any packets, but frame numbers increase.
pub record IsSoundStretch (transmission : Transmission) (options : OptionsValue) (a b : ℕ) : Type 0
  where
    pub first : first_frame transmission ≤ a
    pub rising : IsRising transmission
    -- The packets from frame a to the end of each frame have no coding error: address bytes and the
    -- coded bytes of packets X/0 are code words without a wrong bit; each header of the page has C4
    -- (erase page) set; in the last transmission of the page, rows have odd parity and are repeated
    -- unchanged.
    pub sound : (f : ℕ) → a ≤ f → f ≤ b → IsSound options.page (on_air transmission a 0 f)
    -- A header of the page is sent within the repeat bound.
    pub repeats :
        (start : ℕ)
        → a ≤ start
        → start + options.every ≤ b + 1
        → (f : ℕ)
        × (start ≤ f)
        × (f < start + options.every)
        × HoldsHeader options.page transmission f

-- The conditions of the main theorem for the frames from a to b.
pub record IsSufficient
    (programme : ProgrammeValue) (transmission : Transmission) (options : OptionsValue) (a b : ℕ)
    : Type 0 where
  pub stretch : IsSoundStretch transmission options a b
  -- At the end of each frame the expected page is shown.
  pub content :
      (f row column : ℕ)
      → a ≤ f
      → f ≤ b
      → IsCell row column
      → shown options.page (on_air_until transmission f) row column
      ≡ cell (due_page_in programme f) row column

-- If a range of frames meets the sufficient conditions, the guarantees hold for it, whatever was on
-- air before.
abbrev pub LawOfStretch : Type 0
LawOfStretch =
    (programme : ProgrammeValue) (transmission : Transmission) (options : OptionsValue) (a b : ℕ)
    → IsSufficient programme transmission options a b
    → MayBeTrusted programme transmission options a b

-- A good transmission meets the sufficient conditions in all its frames. So the main theorem does
-- not need the other parts of the rules.
abbrev pub LawOfSufficientParts : Type 0
LawOfSufficientParts =
    (programme : ProgrammeValue) (transmission : Transmission) (options : OptionsValue)
    → Good programme transmission options
    → IsSufficient programme transmission options (first_frame transmission)
    (last_frame transmission)
