-- Laws of page transmissions, of the frames of a schedule that have one, and of the frame of a PTS.
use Rattle.std.specs.Prelude.{◌≡◌, ◌≢◌, ◌↔◌, ℕ, ◌+◌, ◌-◌, ◌%◌, ◌^◌, ◌<◌, ◌≤◌, ◌⊎◌, Contains}
use Rattle.std.specs.Prelude.{All, Bool, List, ◌++◌, Some, length, take, IsTrue}
use Rattle.std.specs.Prelude.{IsFalse}
use Rattle.std.specs.List.{flat_map}
use Rattle.ttx_packet.specs.declared.header.Header.{Header}
use Rattle.ttx_packet.specs.PacketAddress.{IsPacket}
use Rattle.ttx_packet.specs.PageHeader.{c11, header, HasExactCodeWords}
use Rattle.ttx_packet.specs.PageId.{PageIdValue}
use Rattle.ttx_packet.specs.RowPacket.{row_packet}
use Rattle.ttx_page.specs.declared.packet_kind.PacketKind.TheVariants.{ThisPage}
use Rattle.ttx_page.specs.Page.{Rows, cell, row_at, IsCell, IsPage}
use Rattle.ttx_page.specs.PacketKind.{kind}
use Rattle.ttx_page.specs.Shown.{shown}
use Rattle.ttx_page.specs.Span.{span}
use Rattle.ttx_pes.specs.PesGrammar.{IsPesValue}
use Rattle.stl_rows.specs.declared.national.National.{National}
use Rattle.stl_rows.specs.Programme.{IsProgramme, ProgrammeValue}
use Rattle.stl_file.specs.TimeCode.{day}
use Rattle.sub_plan.specs.FrameTime.{clock, pts_of}
use Rattle.sub_plan.specs.Options.{IsOptions, IsWatchable, OptionsValue}
use Rattle.sub_plan.specs.Schedule.{base, due_page_in, is_sending, sendings, pes_value, plan_frames}
use Rattle.sub_plan.specs.Sending.{sending, watched_header}

-- ---- laws of one page transmission

-- Whatever was sent before, a page transmission shows the page from which it was made. So a
-- receiver of the complete transmission has the expected page.
abbrev pub LawOfSending : Type 0
LawOfSending =
    (w : PageIdValue) (national : National) (serial : Bool) (page : Rows) (before : List (List ℕ))
    (row column : ℕ)
    → IsWatchable w
    → IsPage page
    → IsCell row column
    → shown w (before ++ sending w national serial page) row column ≡ cell page row column

-- A packet of a page transmission: 42 bytes; in the address bytes and in the coded bytes of a
-- header, code words without a wrong bit; in each header, C11 as the transmission mode requires;
-- and any header of the page is the header of this transmission.
pub record IsSentPacket
    (w : PageIdValue) (national : National) (serial : Bool) (packet : List ℕ) : Type 0 where
  pub whole : IsPacket packet
  pub exact : HasExactCodeWords packet
  pub mode : (h : Header) → header packet ≡ Some h → c11 h ≡ serial
  pub page_header : (h : Header)
      → kind w packet ≡ ThisPage h
      → h ≡ watched_header w national serial

-- Each packet of a page transmission satisfies `IsSentPacket`. So the packets of a schedule meet
-- the rules of a good transmission for addresses and page headers.
abbrev pub LawOfSentPackets : Type 0
LawOfSentPackets =
    (w : PageIdValue) (national : National) (serial : Bool) (page : Rows)
    → IsWatchable w
    → IsPage page
    → All (IsSentPacket w national serial) (sending w national serial page)

-- The transmission of an expected page has at most 25 packets, since row 24 of the page is blank.
abbrev pub LawOfDueSize : Type 0
LawOfDueSize =
    (w : PageIdValue) (serial : Bool) (programme : ProgrammeValue) (frame : ℕ)
    → length (sending w programme.drawing.national serial (due_page_in programme frame)) ≤ 25

-- A page transmission has at most 26 packets. So one PES packet has enough lines for all of them.
abbrev pub LawOfSize : Type 0
LawOfSize =
    (w : PageIdValue) (national : National) (serial : Bool) (page : Rows)
    → length (sending w national serial page) ≤ 26

-- The packet is one of the rows 1 to 24 of the page.
pub record IsRowOf (w : PageIdValue) (page : Rows) (packet : List ℕ) : Type 0 where
  pub row : ℕ
  pub low : 1 ≤ row
  pub high : row ≤ 24
  pub is : packet ≡ row_packet w.magazine row (row_at page row)

-- All packets in the list are rows of one page.
pub record AreRowsOfOnePage (w : PageIdValue) (packets : List (List ℕ)) : Type 0 where
  pub page : Rows
  pub shape : IsPage page
  pub rows : All (IsRowOf w page) packets

-- If page transmissions of any pages are cut anywhere, the packets after the last header of the
-- page, up to a closing header, are rows of only one page. So the rows that a receiver has at any
-- time do not contradict each other.
abbrev pub LawOfCutSendings : Type 0
LawOfCutSendings =
    (w : PageIdValue) (national : National) (serial : Bool) (due : ℕ → Rows) (frames : List ℕ)
    (n : ℕ)
    → IsWatchable w
    → ((f : ℕ) → IsPage (due f))
    → AreRowsOfOnePage w
    (span (kind w) (take n (flat_map (λ f. sending w national serial (due f)) frames)))

-- ---- laws of the frames with a page transmission

-- The frame b is a base: it is the first frame of the schedule, or its expected page differs from
-- the expected page of the previous frame.
abbrev pub IsBase : (ℕ → Rows) → ℕ → ℕ → Type 0
IsBase due first b = (b ≡ first) ⊎ (due b ≢ due (b - 1))

-- The frame b is the last base at or before the frame f.
pub record IsLastBase (due : ℕ → Rows) (first f b : ℕ) : Type 0 where
  pub low : first ≤ b
  pub high : b ≤ f
  pub is_base : IsBase due first b
  pub no_later_match : (k : ℕ) → b < k → k ≤ f → IsBase due first k → ⊥

-- The frame f has a page transmission: f is the last frame, or the distance from the last base to f
-- is a multiple of `every`.
abbrev pub IsSending : (ℕ → Rows) → ℕ → ℕ → ℕ → ℕ → Type 0
IsSending due every first last f =
    (f ≡ last) ⊎ ((b : ℕ) × IsLastBase due first f b × ((f - b) % every ≡ 0))

-- The frames with a page transmission are exactly the frames from the first to the last that
-- satisfy `IsSending`.
abbrev pub LawOfSendings : Type 0
LawOfSendings =
    (due : ℕ → Rows) (every first last f : ℕ)
    → Contains (sendings due every first last) f
    ↔ ((first ≤ f) × (f ≤ last) × IsSending due every first last f)

-- Any `every` consecutive frames from the first to the last contain a page transmission. So a
-- receiver that tunes in waits at most `every` frames for the header of the page.
abbrev pub LawOfGaps : Type 0
LawOfGaps =
    (due : ℕ → Rows) (every first last g : ℕ)
    → 1 ≤ every
    → first ≤ g
    → g + every ≤ last + 1
    → (f : ℕ) × (g ≤ f) × (f < g + every) × Contains (sendings due every first last) f

-- A frame after the first with the same expected page as the previous frame is no base. So two
-- subtitles with the same page, directly after each other, are repeated like one subtitle.
abbrev pub LawOfEqualPages : Type 0
LawOfEqualPages =
    (due : ℕ → Rows) (first f : ℕ)
    → first < f
    → due f ≡ due (f - 1)
    → base due first f ≡ base due first (f - 1)

-- The frame g has the last page transmission at or before the frame f, and its page is still the
-- expected page at f.
pub record IsLastSending (due : ℕ → Rows) (every first last f g : ℕ) : Type 0 where
  pub low : first ≤ g
  pub high : g ≤ f
  pub sends : IsTrue (is_sending due every first last g)
  pub no_later_match : (k : ℕ) → g < k → k ≤ f → IsFalse (is_sending due every first last k)
  pub same : due g ≡ due f

-- From the first frame to the last, each frame has a page transmission at or before it, and the
-- last of these shows the page expected at the frame. So the last transmission is never out of
-- date.
abbrev pub LawOfLastSending : Type 0
LawOfLastSending =
    (due : ℕ → Rows) (every first last f : ℕ)
    → 1 ≤ every
    → first ≤ f
    → (g : ℕ) × IsLastSending due every first last f g

-- ---- laws of a schedule's PES packets

-- The packets of a page transmission fit in one PES packet. So a schedule can be read back as its
-- page transmissions.
abbrev pub LawOfPesValues : Type 0
LawOfPesValues =
    (o : OptionsValue) (national : National) (serial : Bool) (page : Rows) (frame : ℕ)
    → IsOptions o
    → IsPage page
    → IsPesValue (pes_value o.origin (sending o.page national serial page) frame)

-- Each frame of a programme's schedule is a frame of the day, so the PTS determines the frame.
abbrev pub LawOfDay : Type 0
LawOfDay =
    (programme : ProgrammeValue) (every : ℕ)
    → IsProgramme programme.drawing programme.records
    → All (λ frame. frame < day) (plan_frames programme every)

-- ---- laws of the frame of a PTS

-- Each clock converts the PTS of a frame of the day to that frame. So a schedule is read back with
-- the frames with which it was written, for every value of `within`.
abbrev pub LawOfClock : Type 0
LawOfClock =
    (within origin frame : ℕ)
    → origin < 2 ^ 33
    → frame < day
    → clock within origin (pts_of origin frame) ≡ Some frame

-- If `within` is 0, the frame of a PTS is the frame of the day with exactly this PTS.
abbrev pub LawOfExactClock : Type 0
LawOfExactClock =
    (origin pts frame : ℕ)
    → (clock 0 origin pts ≡ Some frame) ↔ ((frame < day) × (pts_of origin frame ≡ pts))

-- If `within` is at least 1, a PTS of 33 bits belongs to the frame of the day whose own PTS it
-- precedes by at most 900 ticks, or follows by less than 2700. So neither a PTS a quarter of a
-- frame early nor the PTS of the second field belongs to another frame.
abbrev pub LawOfNearClock : Type 0
LawOfNearClock =
    (within origin frame ticks : ℕ)
    → origin < 2 ^ 33
    → frame < day
    → 1 ≤ within
    → ticks < 3600
    → clock within origin ((pts_of origin frame + (2 ^ 33 - 900) + ticks) % 2 ^ 33) ≡ Some frame
