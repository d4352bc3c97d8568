-- Good transmissions if a page may take up to `within` frames to become correct, and if repeats may
-- have C4 (erase page) clear. Then packets may come late, and a page may be sent in parts over
-- several frames. Inserters set C4 when the text changes, and many clear it when they repeat the
-- page; after such a repeat, the page is correct only when each row with text was sent again.
--
-- `keeps` says whether repeats may have C4 clear. If `keeps` is false and `within` is 0, the rules
-- for valid subtitles are those of `Good`, with complete pages if the options require them.
use Rattle.std.specs.Prelude.{◌≡◌, ◌↔◌, ℕ, ◌+◌, ◌-◌, ◌<◌, ◌≤◌, ◌⊎◌, Bool, true, false, []}
use Rattle.std.specs.Prelude.{length, take, slice_index_or, All, IfSome, IsTrue, IsFalse}
use Rattle.ttx_packet.specs.PageHeader.{HasExactCodeWords}
use Rattle.ttx_packet.specs.PageId.{PageIdValue}
use Rattle.ttx_page.specs.Noise.{ErasesPageIfHeader}
use Rattle.ttx_page.specs.Page.{IsCell, cell, space}
use Rattle.ttx_page.specs.PacketKind.{kind}
use Rattle.ttx_page.specs.Shown.{kept}
use Rattle.ttx_page.specs.Span.{is_open_after, text_span}
use Rattle.stl_rows.specs.Programme.{ProgrammeValue, first_tci, last_tco}
use Rattle.sub_plan.specs.Options.{OptionsValue}
use Rattle.sub_plan.specs.Schedule.{due_page_in}
use Rattle.sub_rules.specs.Good.{HoldsHeader, IsCleanSpan, HaveSameMode, KeepsPace, KeepsRules}
use Rattle.sub_rules.specs.Good.{Repeats}
use Rattle.sub_rules.specs.Kept.{ErasesOrRepeats, HasSubtitleHeaderBits, IsRight}
use Rattle.sub_rules.specs.Transmission.{EachPacket, IsRising, Transmission, first_frame}
use Rattle.sub_rules.specs.Transmission.{last_frame, on_air_until}

-- ---- the page at the end of a frame

-- The page is correct at the end of frame f: each cell has the expected code and, unless that code
-- is a space, its row was sent after the last header of the page, while the page was open.
abbrev pub IsCorrectPage : Bool → ProgrammeValue → PageIdValue → Transmission → ℕ → Type 0
IsCorrectPage keeps programme page transmission f =
    (row column : ℕ)
    → IsCell row column
    → IsRight keeps page (on_air_until transmission f) (due_page_in programme f) row column

-- The page is not open at the end of frame f.
abbrev pub IsPageClosed : PageIdValue → Transmission → ℕ → Type 0
IsPageClosed page transmission f =
    IsFalse (is_open_after (kind page) (on_air_until transmission f))

-- The code is allowed in the cell at the end of frame f: it is a space, or it was expected in the
-- cell at frame f or at one of the `within` frames before f. Frames before the first frame of the
-- transmission do not count.
abbrev pub IsDueWithin : ProgrammeValue → Transmission → OptionsValue → ℕ → ℕ → ℕ → ℕ → Type 0
IsDueWithin programme transmission options f row column code =
    (code ≡ space)
    ⊎ ((e : ℕ)
    × (first_frame transmission ≤ e)
    × (e ≤ f)
    × (f ≤ e + options.within)
    × (code ≡ cell (due_page_in programme e) row column))

-- At the end of each frame from a to b, each cell has an allowed code (`IsDueWithin`).
abbrev pub KeepsDueCodes :
    Bool → ProgrammeValue → Transmission → OptionsValue → ℕ → ℕ → Type 0
KeepsDueCodes keeps programme transmission options a b =
    (f row column : ℕ)
    → a ≤ f
    → f ≤ b
    → IsCell row column
    → IsDueWithin programme transmission options f row column
    (kept keeps options.page (on_air_until transmission f) row column)

-- ---- good transmissions if repeats may have C4 (erase page) clear

-- Rules 1 to 6 of a good transmission, and the limit for the interval between PES packets, if the
-- options have one. `keeps` says whether repeats may have C4 (erase page) clear.
pub record KeepsRulesWithRepeats
    (keeps : Bool) (programme : ProgrammeValue) (transmission : Transmission)
    (options : OptionsValue)
    : Type 0 where
  -- Rules 1, 2 and 3, as in `Good`.
  pub not_empty : 0 < length transmission
  pub rising : IsRising transmission
  pub whole : EachPacket (λ packet. length packet ≡ 42) transmission
  pub starts : IfSome (first_tci programme.records) (λ tci. first_frame transmission ≤ tci)
  pub lasts : IfSome (last_tco programme.records) (λ tco. tco ≤ last_frame transmission)
  pub exact : EachPacket HasExactCodeWords transmission
  pub serial : EachPacket (λ one. EachPacket (HaveSameMode one) transmission) transmission
  -- Rule 4: each header of the page has the control bits of a subtitle page, and has C4 (erase
  -- page) set or, if `keeps` is true, repeats the page.
  pub control : EachPacket (HasSubtitleHeaderBits programme.drawing.national options.page)
      transmission
  pub erases : IsFalse keeps → EachPacket (ErasesPageIfHeader options.page) transmission
  pub keeping :
      (f n : ℕ)
      → f ≤ last_frame transmission
      → n < length (on_air_until transmission f)
      → ErasesOrRepeats options.asks_complete options.page
      (take n (on_air_until transmission f)) (slice_index_or (on_air_until transmission f) n [])
  -- Rule 5: while the page is open, each row has odd parity, all packets of the same row since the
  -- last header that starts a new text, if any, are equal, and no packet X/25 to X/28 of the page's
  -- magazine is sent.
  pub spans :
      (f n : ℕ)
      → f ≤ last_frame transmission
      → IsCleanSpan options.page
      (text_span keeps (kind options.page) (take n (on_air_until transmission f)))
  -- Rule 6, as in `Good`, and the limit for the interval between PES packets.
  pub opens : HoldsHeader options.page transmission (first_frame transmission)
  pub repeats : Repeats options.page options.every transmission
  pub paced : KeepsPace options.pace transmission

-- Frame f is finished: at its end the page is correct and, if complete pages are required, not
-- open.
pub record IsFinishedFrame
    (keeps : Bool) (programme : ProgrammeValue) (transmission : Transmission)
    (options : OptionsValue) (f : ℕ)
    : Type 0 where
  pub whole : IsCorrectPage keeps programme options.page transmission f
  pub ended : IsTrue options.asks_complete → IsPageClosed options.page transmission f

-- At least one of the frames from a to b is finished: its page is correct and, if required,
-- complete.
abbrev pub HasFinishedFrame : Bool → ProgrammeValue → Transmission → OptionsValue → ℕ → ℕ → Type 0
HasFinishedFrame keeps programme transmission options a b =
    (f : ℕ) × (a ≤ f) × (f ≤ b) × IsFinishedFrame keeps programme transmission options f

-- At least one of any `within` + 1 consecutive frames from a to b is finished: its page is correct
-- and, if required, complete.
abbrev pub FinishesRegularly :
    Bool → ProgrammeValue → Transmission → OptionsValue → ℕ → ℕ → Type 0
FinishesRegularly keeps programme transmission options a b =
    (start : ℕ)
    → a ≤ start
    → start + options.within ≤ b
    → HasFinishedFrame keeps programme transmission options start (start + options.within)

-- A good transmission of these subtitles if a page may take up to `within` frames to become
-- correct. `keeps` says whether repeats may have C4 (erase page) clear.
pub record GoodWithRepeats
    (keeps : Bool) (programme : ProgrammeValue) (transmission : Transmission)
    (options : OptionsValue)
    : Type 0 where
  -- Rules 1 to 6 of a good transmission.
  pub rules : KeepsRulesWithRepeats keeps programme transmission options
  -- Rule 7: at the end of each frame, each cell has an allowed code (`IsDueWithin`). At least one
  -- of any `within` + 1 consecutive frames is finished, at least one frame of each subtitle, and
  -- the last frame.
  pub codes :
      KeepsDueCodes keeps programme transmission options (first_frame transmission)
      (last_frame transmission)
  pub again :
      FinishesRegularly keeps programme transmission options (first_frame transmission)
      (last_frame transmission)
  pub subtitles :
      All (λ t. HasFinishedFrame keeps programme transmission options t.tci (t.tco - 1))
      programme.records
  pub ends : IsFinishedFrame keeps programme transmission options (last_frame transmission)

-- If each header must have C4 (erase page) set, rules 1 to 6 are those of `Good`.
abbrev pub LawOfNoRepeats : Type 0
LawOfNoRepeats =
    (programme : ProgrammeValue) (transmission : Transmission) (options : OptionsValue)
    → KeepsRulesWithRepeats false programme transmission options
    ↔ KeepsRules programme transmission options

-- A transmission that is good if each header must have C4 (erase page) set is also good if repeats
-- may have C4 clear.
abbrev pub LawOfMayKeep : Type 0
LawOfMayKeep =
    (programme : ProgrammeValue) (transmission : Transmission) (options : OptionsValue)
    → GoodWithRepeats false programme transmission options
    → GoodWithRepeats true programme transmission options

-- If a transmission is good when repeats may have C4 (erase page) clear, and each header of the
-- page has C4 set, it is also good when each header must have C4 set.
abbrev pub LawOfErasingHeaders : Type 0
LawOfErasingHeaders =
    (programme : ProgrammeValue) (transmission : Transmission) (options : OptionsValue)
    → EachPacket (ErasesPageIfHeader options.page) transmission
    → GoodWithRepeats true programme transmission options
    → GoodWithRepeats false programme transmission options
