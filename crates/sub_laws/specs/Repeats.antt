-- The guarantees if `within` is not 0 or repeats may have C4 (erase page) clear. They hold for
-- receivers that keep their page at a header with C4 clear, and for receivers that may erase it. If
-- each header must have C4 set, a receiver's old page is gone after the first header.
use Rattle.std.specs.Prelude.{◌≡◌, ℕ, ◌+◌, ◌-◌, ◌<◌, ◌≤◌, ◌||◌, All, Bool, false, List, [], Some}
use Rattle.std.specs.Prelude.{not, IfSome, IsTrue}
use Rattle.ttx_page.specs.DroppedRows.{ExcusedBy}
use Rattle.ttx_page.specs.LostRows.{IsHitOrLost, arrivals_from_flags}
use Rattle.ttx_page.specs.Page.{IsCell, Rows, cell}
use Rattle.ttx_page.specs.PacketKind.{kind}
use Rattle.ttx_page.specs.Receiver.{Hears, ReceiverClass, State}
use Rattle.ttx_page.specs.Repeats.{HearsRepeats, IsFresh, MayFollow, SendsOnlyRowsOfText}
use Rattle.ttx_page.specs.Repeats.{ShowsRepeats}
use Rattle.ttx_page.specs.Screen.{Display}
use Rattle.ttx_page.specs.Shown.{kept}
use Rattle.ttx_page.specs.Span.{has_page_header, is_open_after}
use Rattle.stl_rows.specs.Programme.{IsProgramme, ProgrammeValue}
use Rattle.sub_plan.specs.Options.{IsOptions, OptionsValue}
use Rattle.sub_rules.specs.Good.{HoldsHeader}
use Rattle.sub_rules.specs.Repeats.{FinishesRegularly, GoodWithRepeats, IsPageClosed, IsDueWithin}
use Rattle.sub_rules.specs.Repeats.{IsCorrectPage, KeepsDueCodes, KeepsRulesWithRepeats}
use Rattle.sub_rules.specs.Repeats.{HasFinishedFrame}
use Rattle.sub_rules.specs.Transmission.{IsRising, Transmission, first_frame, last_frame, on_air}
use Rattle.sub_rules.specs.Transmission.{on_air_until}
use Rattle.sub_laws.specs.CleanStretch.{HoldsAtPackets, IsWithinTransmission}
use Rattle.sub_laws.specs.LostRows.{IsReceivedWithLosses}
use Rattle.sub_laws.specs.Planned.{planned}
use Rattle.sub_laws.specs.Robust.{HoldsDuePage}

-- ---- receivers that may erase the page at any header

-- The guarantee to a receiver that may blank any cells of its page at each header of the page with
-- C4 (erase page) clear, and blanks the whole page there if `anew` is true. It listened from frame
-- g to the end of frame f, the packets `sent` were sent, and its state changed from `old` to `new`.
pub record IsServedIfForgetful
    (keeps anew : Bool) (programme : ProgrammeValue) (transmission : Transmission)
    (options : OptionsValue) (g f : ℕ) (sent : List (List ℕ)) (IsExcused : ℕ → ℕ → Type 0)
    (old new : State)
    : Type 0 where
  -- If frame f is at or after frame g + `every`, a header of the page was sent.
  pub in_time : g + options.every ≤ f → IsTrue (has_page_header (kind options.page) sent)
  -- The receiver has received a header of the page if and only if it had before or a header was
  -- sent.
  pub heard : new.heard ≡ (old.heard || has_page_header (kind options.page) sent)
  -- If a header was sent or the receiver's page was not open before, the page is open if and only
  -- if a header was sent and no later header has ended the page.
  pub is_open :
      IsTrue (has_page_header (kind options.page) sent || not old.is_open)
      → new.is_open ≡ is_open_after (kind options.page) sent
  -- Once a header was sent, if the receiver's old page is erased, or was blank and not open
  -- (`IsFresh`), each cell has an allowed code (`IsDueWithin`).
  pub codes :
      IsTrue (has_page_header (kind options.page) sent)
      → IsFresh keeps anew options.page sent old
      → (row column : ℕ)
      → IsCell row column
      → IsDueWithin programme transmission options f row column (cell new.page row column)
  -- If the page is also correct at the end of frame f, each cell of the receiver has the expected
  -- code, or a space that is allowed because of an error.
  pub cells :
      IsTrue (has_page_header (kind options.page) sent)
      → IsFresh keeps anew options.page sent old
      → IsCorrectPage keeps programme options.page transmission f
      → HoldsDuePage programme f IsExcused new.page

-- Receivers of this class that may erase the page at any header recover in the frames from a to b,
-- if all page headers arrive and each byte that arrives has at most one wrong bit: the guarantee
-- `IsServedIfForgetful` holds wherever a receiver starts and stops in these frames, and whatever
-- page it had before. If the page is correct, a cell may have a space instead of the expected code
-- only if its byte had a wrong bit or its row was lost since the last header; for receivers that
-- drop a row with an error, if any byte of its row had a wrong bit or the row was lost.
--
-- A receiver with old text recovers from the next header with C4 (erase page) set; a receiver with
-- a blank page that is not open, or one that erases it at each header, recovers from any header.
abbrev pub RecoversIfForgetful :
    Bool → Bool → ReceiverClass → ProgrammeValue → Transmission → OptionsValue → ℕ → ℕ → Type 0
RecoversIfForgetful keeps anew class programme transmission options a b =
    (g j f : ℕ) (arrived : List Bool) (got : List (List ℕ)) (old new : State)
    → IsReceivedWithLosses transmission a b g j f arrived got
    → HearsRepeats class anew options.page old got new
    → IsServedIfForgetful keeps anew programme transmission options g f (on_air transmission g j f)
    (ExcusedBy class
    (IsHitOrLost options.page (on_air transmission g j f) (arrivals_from_flags arrived got)))
    old new

-- At the end of each frame from a to b, receivers that may erase the page at any header have the
-- expected page, once a header was sent and their old page is erased. A cell may have a space
-- because of an error, as in `RecoversIfForgetful`.
abbrev pub HoldsIfForgetful :
    Bool → Bool → ReceiverClass → ProgrammeValue → Transmission → OptionsValue → ℕ → ℕ → Type 0
HoldsIfForgetful keeps anew class programme transmission options a b =
    (g j f : ℕ) (arrived : List Bool) (got : List (List ℕ)) (old new : State)
    → IsReceivedWithLosses transmission a b g j f arrived got
    → HearsRepeats class anew options.page old got new
    → IsTrue (has_page_header (kind options.page) (on_air transmission g j f))
    → IsFresh keeps anew options.page (on_air transmission g j f) old
    → HoldsDuePage programme f
    (ExcusedBy class
    (IsHitOrLost options.page (on_air transmission g j f) (arrivals_from_flags arrived got)))
    new.page

-- At the end of each frame from a to b with a correct page that has ended, the expected page is on
-- the screens of receivers that may erase the page at any header, once a header was sent and their
-- old page is erased. A cell may have a space because of an error, as in `RecoversIfForgetful`.
abbrev pub ShownIfForgetful :
    Bool → Bool → ReceiverClass → ProgrammeValue → Transmission → OptionsValue → ℕ → ℕ → Type 0
ShownIfForgetful keeps anew class programme transmission options a b =
    (g j f : ℕ) (arrived : List Bool) (got : List (List ℕ)) (old new : Display)
    → IsReceivedWithLosses transmission a b g j f arrived got
    → ShowsRepeats class anew options.page old got new
    → IsTrue (has_page_header (kind options.page) (on_air transmission g j f))
    → IsFresh keeps anew options.page (on_air transmission g j f) old.receiver_state
    → IsCorrectPage keeps programme options.page transmission f
    → IsPageClosed options.page transmission f
    → (page : Rows)
    × (new.screen ≡ Some page)
    × HoldsDuePage programme f
    (ExcusedBy class
    (IsHitOrLost options.page (on_air transmission g j f) (arrivals_from_flags arrived got)))
    page

-- ---- guarantees for a range of frames

-- The frames from a to b are finished in time. Only finished frames among them count.
pub record FinishesInTime
    (keeps : Bool) (programme : ProgrammeValue) (transmission : Transmission)
    (options : OptionsValue) (a b : ℕ)
    : Type 0 where
  -- At least one of any `within` + 1 consecutive frames is finished.
  pub again : FinishesRegularly keeps programme transmission options a b
  -- At least one frame is finished of each subtitle whose frames, from its TCI to the frame before
  -- its TCO, are all in the range from a to b.
  pub subtitles :
      All
      (λ t. a ≤ t.tci
      → t.tco ≤ b + 1
      → HasFinishedFrame keeps programme transmission options t.tci (t.tco - 1))
      programme.records
  -- If the transmission begins with frame a, at least one frame from a on is finished of each
  -- subtitle that began before a, is still due at a, and has no frame after b.
  pub begun :
      a ≡ first_frame transmission
      → All
      (λ t. t.tci < a
      → a < t.tco
      → t.tco ≤ b + 1
      → HasFinishedFrame keeps programme transmission options a (t.tco - 1))
      programme.records

-- The guarantees for the frames from a to b, for receivers of both classes, including receivers
-- that may erase the page at any header.
pub record MayBeTrustedWithRepeats
    (keeps : Bool) (programme : ProgrammeValue) (transmission : Transmission)
    (options : OptionsValue) (a b : ℕ)
    : Type 0 where
  -- Receivers recover in these frames. Receivers with old text recover from the next header with C4
  -- (erase page) set.
  pub recovers :
      (anew : Bool) (class : ReceiverClass)
      → RecoversIfForgetful keeps anew class programme transmission options a b
  -- The screens show the expected page at the end of each frame with a correct page that has ended,
  -- as in `ShownIfForgetful`.
  pub shown :
      (anew : Bool) (class : ReceiverClass)
      → ShownIfForgetful keeps anew class programme transmission options a b
  -- The frames are finished in time.
  pub stretch_finishes_in_time : FinishesInTime keeps programme transmission options a b
  -- If `within` is 0, receivers have the expected page at the end of each frame, as in
  -- `HoldsIfForgetful`.
  pub at_once :
      options.within ≡ 0
      → (anew : Bool) (class : ReceiverClass)
      → HoldsIfForgetful keeps anew class programme transmission options a b

-- The guarantees of `MayBeTrustedWithRepeats` for all frames of a transmission.
abbrev pub HasPromisesWithRepeats : Bool → ProgrammeValue → Transmission → OptionsValue → Type 0
HasPromisesWithRepeats keeps programme transmission options =
    MayBeTrustedWithRepeats keeps programme transmission options (first_frame transmission)
    (last_frame transmission)

-- ---- sufficient conditions for the guarantees

-- The conditions under which receivers recover in the frames from a to b, apart from the text.
-- Earlier frames may have any packets, but frame numbers increase.
pub record IsSoundStretchWithRepeats
    (keeps : Bool) (transmission : Transmission) (options : OptionsValue) (a b : ℕ)
    : Type 0 where
  pub first : first_frame transmission ≤ a
  pub rising : IsRising transmission
  -- The packets from frame a to the end of each frame have the form that the law of repeats
  -- requires, and send only rows of the text of all packets up to that frame.
  pub sends :
      (f : ℕ)
      → a ≤ f
      → f ≤ b
      → SendsOnlyRowsOfText keeps options.page (on_air transmission a 0 f)
      (kept keeps options.page (on_air_until transmission f))
  -- A header of the page is sent within the repeat bound.
  pub repeats :
      (start : ℕ)
      → a ≤ start
      → start + options.every ≤ b + 1
      → (f : ℕ)
      × (start ≤ f)
      × (f < start + options.every)
      × HoldsHeader options.page transmission f

-- The frames from a to b lie within the transmission, whose frame numbers increase. Each packet in
-- them is allowed after the packets before it, whatever these are, and a header of the page is sent
-- within the repeat bound.
pub record HasAllowedPackets
    (keeps : Bool) (transmission : Transmission) (options : OptionsValue) (a b : ℕ)
    : Type 0 where
  pub stretch : IsWithinTransmission transmission a b
  pub rising : IsRising transmission
  pub packets : HoldsAtPackets (MayFollow keeps options.page) transmission a b
  pub repeats :
      (start : ℕ)
      → a ≤ start
      → start + options.every ≤ b + 1
      → (f : ℕ)
      × (start ≤ f)
      × (f < start + options.every)
      × HoldsHeader options.page transmission f

-- If each packet in a range of frames is allowed after the packets before it, and a header of the
-- page is sent within the repeat bound, the range meets the conditions for recovery, apart from the
-- text. So these conditions can be decided packet by packet.
abbrev pub LawOfFollowedStretch : Type 0
LawOfFollowedStretch =
    (keeps : Bool) (transmission : Transmission) (options : OptionsValue) (a b : ℕ)
    → HasAllowedPackets keeps transmission options a b
    → IsSoundStretchWithRepeats keeps transmission options a b

-- If a range of frames meets the conditions for recovery, and each cell has an allowed code at each
-- frame end, receivers of both classes recover, and the expected page is on their screens at each
-- frame end with a correct page that has ended. If the frames of the range are finished in time,
-- all guarantees hold for it.
abbrev pub LawOfRepeatedStretch : Type 0
LawOfRepeatedStretch =
    (keeps : Bool) (programme : ProgrammeValue) (transmission : Transmission)
    → (options : OptionsValue) (a b : ℕ)
    → IsSoundStretchWithRepeats keeps transmission options a b
    → KeepsDueCodes keeps programme transmission options a b
    → ((anew : Bool) (class : ReceiverClass)
    → RecoversIfForgetful keeps anew class programme transmission options a b
    × ShownIfForgetful keeps anew class programme transmission options a b)
    × (FinishesInTime keeps programme transmission options a b
    → MayBeTrustedWithRepeats keeps programme transmission options a b)

-- In all frames of a transmission that is good under the options, receivers recover, and the
-- expected page is on their screens at each frame end with a correct page that has ended. If its
-- subtitles are valid, it meets all guarantees.
abbrev pub LawOfGoodWithRepeats : Type 0
LawOfGoodWithRepeats =
    (keeps : Bool) (programme : ProgrammeValue) (transmission : Transmission)
    → (options : OptionsValue)
    → GoodWithRepeats keeps programme transmission options
    → ((anew : Bool) (class : ReceiverClass)
    → RecoversIfForgetful keeps anew class programme transmission options
    (first_frame transmission) (last_frame transmission)
    × ShownIfForgetful keeps anew class programme transmission options (first_frame transmission)
    (last_frame transmission))
    × (IsProgramme programme.drawing programme.records
    → HasPromisesWithRepeats keeps programme transmission options)

-- A transmission that is good with some `within` is good with any greater `within`.
abbrev pub LawOfLongerDelayWithRepeats : Type 0
LawOfLongerDelayWithRepeats =
    (keeps : Bool) (programme : ProgrammeValue) (transmission : Transmission)
    → (options : OptionsValue) (more : ℕ)
    → options.within ≤ more
    → GoodWithRepeats keeps programme transmission options
    → GoodWithRepeats keeps programme transmission (record options { within = more })

-- The schedule of a subtitle file with at least one subtitle is good for any `within`, in serial
-- and parallel mode, whether or not repeats may have C4 (erase page) clear, unless the pace is less
-- than the repeat bound. So a check with the same options accepts it.
abbrev pub LawOfPlanRepeats : Type 0
LawOfPlanRepeats =
    (keeps : Bool) (programme : ProgrammeValue) (options : OptionsValue) (serial : Bool)
    → IsProgramme programme.drawing programme.records
    → (programme.records ≡ [] → ⊥)
    → IsOptions options
    → IfSome options.pace (λ frames. options.every ≤ frames)
    → GoodWithRepeats keeps programme (planned programme options serial) options

-- If a transmission keeps rules 1 to 6 and the limit for the interval between PES packets, if the
-- options have one, and is received from its first frame on without errors, a receiver that keeps
-- its page at headers with C4 (erase page) clear, and started with a blank page that was not open
-- or has erased it since, has the code `kept` in each cell at the end of each frame. So if that is
-- not the expected code, the receiver has a wrong code.
abbrev pub LawOfKeptCodes : Type 0
LawOfKeptCodes =
    (keeps : Bool) (programme : ProgrammeValue) (transmission : Transmission)
    → (options : OptionsValue) (f : ℕ) (old new : State)
    → KeepsRulesWithRepeats keeps programme transmission options
    → first_frame transmission ≤ f
    → f ≤ last_frame transmission
    → Hears options.page old (on_air_until transmission f) new
    → IsFresh keeps false options.page (on_air_until transmission f) old
    → (row column : ℕ)
    → IsCell row column
    → cell new.page row column ≡ kept keeps options.page (on_air_until transmission f) row column
