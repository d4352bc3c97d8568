-- The seven rules of a good transmission, for the packets as they are transmitted.
--
-- These rules don't require complete pages: the main theorem does not need them, and real
-- transmissions often have incomplete pages. The option `--complete` requires them.
use Rattle.std.specs.Prelude.{◌≡◌, ℕ, ◌+◌, ◌<◌, ◌≤◌, List, Some, length, take}
use Rattle.std.specs.Prelude.{All, IfSome, IsTrue, IsFalse, Option}
use Rattle.ttx_packet.specs.declared.header.Header.{Header}
use Rattle.ttx_packet.specs.PacketAddress.{PacketAddress, address}
use Rattle.ttx_packet.specs.PageHeader.{header, HasExactCodeWords}
use Rattle.ttx_packet.specs.PageHeader.{c4, c5, c6, c7, c10, c11}
use Rattle.ttx_packet.specs.PageId.{PageIdValue}
use Rattle.ttx_page.specs.declared.packet_kind.PacketKind.TheVariants.{ThisPage}
use Rattle.ttx_page.specs.Noise.{HasOddParityTextIfRow, AreEqualIfSameRow}
use Rattle.ttx_page.specs.Page.{cell, IsCell}
use Rattle.ttx_page.specs.PacketKind.{kind}
use Rattle.ttx_page.specs.Shown.{shown}
use Rattle.ttx_page.specs.Span.{has_page_header, span}
use Rattle.stl_rows.specs.declared.national.National.{National}
use Rattle.stl_rows.specs.SubSets.{sub_set}
use Rattle.stl_rows.specs.Programme.{ProgrammeValue, first_tci, last_tco}
use Rattle.sub_plan.specs.Options.{OptionsValue}
use Rattle.sub_plan.specs.Schedule.{due_page_in}
use Rattle.sub_plan.specs.Sending.{national_bits}
use Rattle.sub_rules.specs.FrameRules.{frame_at}
use Rattle.sub_rules.specs.Transmission.{Transmission, IsRising, EachPacket, first_frame}
use Rattle.sub_rules.specs.Transmission.{last_frame, packets_of, on_air_until}

-- If both packets are page headers that can be decoded, of any page and magazine, they have the
-- same C11 (magazine serial, EN 300 706), so both are in serial or both in parallel mode.
abbrev pub HaveSameMode : List ℕ → List ℕ → Type 0
HaveSameMode one other =
    (h k : Header) → header one ≡ Some h → header other ≡ Some k → c11 h ≡ c11 k

-- The control bits of the header of a subtitle page (EN 300 706): C4, erase page, is set; C5,
-- newsflash, is clear; C6, subtitle, is set; C7, suppress header, is set; C10, inhibit display, is
-- clear; C12 to C14 name the national option. C8, update indicator, and C9, interrupted sequence,
-- may have any value.
pub record IsSubtitleHeader (national : National) (h : Header) : Type 0 where
  pub erases : IsTrue (c4 h)
  pub no_newsflash : IsFalse (c5 h)
  pub subtitle : IsTrue (c6 h)
  pub suppressed : IsTrue (c7 h)
  pub displayed : IsFalse (c10 h)
  pub option : national_bits h ≡ (sub_set national).bits

-- If the packet is a header of the page, it has the control bits of a subtitle page.
abbrev pub IsControlled : National → PageIdValue → List ℕ → Type 0
IsControlled national page packet =
    (h : Header) → kind page packet ≡ ThisPage h → IsSubtitleHeader national h

-- The packet is a packet X/25 to X/28 of the page's magazine, which could change the page. Packets
-- X/29, which belong to the entire magazine, are allowed.
abbrev pub IsEnhancement : PageIdValue → List ℕ → Type 0
IsEnhancement page packet =
    (a : PacketAddress) × (address packet ≡ Some a) × (a.magazine ≡ page.magazine)
    × (25 ≤ a.packet_number) × (a.packet_number ≤ 28)

-- The rows of an open page are clean: each has 40 bytes of odd parity, packets of the same row are
-- equal, and no packet X/25 to X/28 of the magazine is sent. `packets` are those sent while the
-- page is open.
pub record IsCleanSpan (page : PageIdValue) (packets : List (List ℕ)) : Type 0 where
  pub odd : All (HasOddParityTextIfRow page) packets
  pub same : All (λ first. All (AreEqualIfSameRow page first) packets) packets
  pub plain : All (λ packet. IsEnhancement page packet → ⊥) packets

-- After each packet of the transmission, the packets sent since the last header of the page, while
-- the page was open, are clean (`IsCleanSpan`).
abbrev pub HasCleanSpans : PageIdValue → Transmission → Type 0
HasCleanSpans page transmission =
    (f n : ℕ) → f ≤ last_frame transmission
    → IsCleanSpan page (span (kind page) (take n (on_air_until transmission f)))

-- The frame f of the transmission contains a header of the page.
abbrev pub HoldsHeader : PageIdValue → Transmission → ℕ → Type 0
HoldsHeader page transmission f = IsTrue (has_page_header (kind page) (packets_of transmission f))

-- At least one of any `every` consecutive frames, from the first frame of the transmission to the
-- last, has a header of the page.
abbrev pub Repeats : PageIdValue → ℕ → Transmission → Type 0
Repeats page every transmission =
    (start : ℕ)
    → first_frame transmission ≤ start
    → start + every ≤ last_frame transmission + 1
    → (f : ℕ) × (start ≤ f) × (f < start + every) × HoldsHeader page transmission f

-- If the options limit the interval between PES packets, each frame from the first to the last is
-- less than that many frames after a frame with a PES packet. Options never limit the interval to
-- 0.
abbrev pub KeepsPace : Option ℕ → Transmission → Type 0
KeepsPace pace transmission =
    (frames f : ℕ)
    → pace ≡ Some frames
    → first_frame transmission ≤ f → f ≤ last_frame transmission
    → (j : ℕ)
    × (j < length transmission)
    × (frame_at transmission j ≤ f)
    × (f < frame_at transmission j + frames)

-- At the end of each frame from the first to the last, whether or not it has packets, each cell
-- shows the code of the expected page.
abbrev pub ShowsDuePages : ProgrammeValue → PageIdValue → Transmission → Type 0
ShowsDuePages programme page transmission =
    (f row column : ℕ)
    → first_frame transmission ≤ f → f ≤ last_frame transmission
    → IsCell row column
    → shown page (on_air_until transmission f) row column ≡ cell (due_page_in programme f) row
    column

-- Rules 1 to 6 of a good transmission, which concern everything except the displayed text, and the
-- limit for the interval between PES packets, if the options have one.
pub record KeepsRules
    (programme : ProgrammeValue) (transmission : Transmission) (options : OptionsValue)
    : Type 0 where
  -- Rule 1: there is at least one frame, the frames are in increasing order, and packets have 42
  -- bytes. The first frame is not after the first TCI, and the last frame is not before the last
  -- TCO.
  pub not_empty : 0 < length transmission
  pub rising : IsRising transmission
  pub whole : EachPacket (λ packet. length packet ≡ 42) transmission
  pub starts : IfSome (first_tci programme.records) (λ tci. first_frame transmission ≤ tci)
  pub lasts : IfSome (last_tco programme.records) (λ tco. tco ≤ last_frame transmission)
  -- Rule 2: the address bytes of each packet, and all eight coded bytes of each packet X/0, are
  -- Hamming 8/4 code words without a wrong bit.
  pub exact : EachPacket HasExactCodeWords transmission
  -- Rule 3: all page headers, of any page and magazine, have the same C11, magazine serial.
  pub serial : EachPacket (λ one. EachPacket (HaveSameMode one) transmission) transmission
  -- Rule 4: each header of the page has the control bits of a subtitle, with the national option of
  -- the programme.
  pub control : EachPacket (IsControlled programme.drawing.national options.page) transmission
  -- Rule 5: while the page is open, each row has odd parity, all packets of the same row since the
  -- last header of the page are equal, and no packet X/25 to X/28 of the page's magazine is sent.
  pub spans : HasCleanSpans options.page transmission
  -- Rule 6: the first frame contains a header of the page, and so does at least one of any `every`
  -- consecutive frames.
  pub opens : HoldsHeader options.page transmission (first_frame transmission)
  pub repeats : Repeats options.page options.every transmission
  -- The interval between PES packets is within the limit of the options, if they have one.
  pub paced : KeepsPace options.pace transmission

-- A transmission of these subtitles is good if it keeps all seven rules and the limit for the
-- interval between PES packets, if the options have one.
pub record Good
    (programme : ProgrammeValue) (transmission : Transmission) (options : OptionsValue)
    : Type 0 where
  -- Rules 1 to 6 of a good transmission, and the limit for the interval between PES packets.
  pub rules : KeepsRules programme transmission options
  -- Rule 7: at the end of each frame, the expected page is shown.
  pub content : ShowsDuePages programme options.page transmission
