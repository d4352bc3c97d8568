-- The files that `check STL PES` accepts: the seven rules for a good transmission of English
-- subtitles, in as few definitions as possible.
use Rattle.std.specs.Prelude.{◌≡◌, ℕ, ◌<◌, ◌≤◌, IfSome, IsFalse, IsTrue, List, length}
use Rattle.ttx_packet.specs.declared.header.Header.{Header}
use Rattle.ttx_packet.specs.PageHeader.{HasExactCodeWords, c10, c12, c13, c14, c4, c5, c6, c7}
use Rattle.ttx_page.specs.declared.packet_kind.PacketKind.TheVariants.{ThisPage}
use Rattle.ttx_page.specs.Page.{IsCell, cell}
use Rattle.ttx_page.specs.PacketKind.{kind}
use Rattle.ttx_page.specs.Shown.{shown}
use Rattle.stl_file.specs.Scope.{whole}
use Rattle.stl_file.specs.Subtitle.{SubtitleValue}
use Rattle.stl_rows.specs.Programme.{first_tci, last_tco}
use Rattle.ttx_packet.specs.PageId.{PageIdValue}
use Rattle.sub_laws.specs.OnScreen.{Complete}
use Rattle.sub_plan.specs.Options.{OptionsValue}
use Rattle.sub_rules.specs.Good.{HasCleanSpans, HoldsHeader, HaveSameMode, KeepsPace, Repeats}
use Rattle.sub_rules.specs.Transmission.{EachPacket, IsRising, Transmission, first_frame}
use Rattle.sub_rules.specs.Transmission.{last_frame, on_air_until}
use Rattle.sub_headline.specs.EnglishPage.{english_due_page}
use Rattle.sub_headline.specs.PlainFiles.{AreReadFrom}

-- The control bits in the header of an English subtitle page: C4 (erase page), C6 (subtitle) and C7
-- (suppress header) are set; C5 (newsflash) and C10 (inhibit display) are clear; C12 to C14 are
-- clear, which selects English. C8 (update indicator), C9 (interrupted sequence) and C11
-- (magazine serial) may have any value.
pub record IsEnglishHeader (h : Header) : Type 0 where
  pub erases : IsTrue (c4 h)
  pub no_newsflash : IsFalse (c5 h)
  pub subtitle : IsTrue (c6 h)
  pub suppressed : IsTrue (c7 h)
  pub displayed : IsFalse (c10 h)
  pub c12_clear : IsFalse (c12 h)
  pub c13_clear : IsFalse (c13 h)
  pub c14_clear : IsFalse (c14 h)

-- If the packet is a header of the page, it has the control bits of an English subtitle.
abbrev pub IsControlledInEnglish : PageIdValue → List ℕ → Type 0
IsControlledInEnglish page packet =
    (h : Header) → kind page packet ≡ ThisPage h → IsEnglishHeader h

-- At the end of each frame from the first to the last, with or without packets in it, the
-- transmitted page is the expected page.
abbrev pub ShowsEnglishPages : PageIdValue → List SubtitleValue → Transmission → Type 0
ShowsEnglishPages page subtitles transmission =
    (f row column : ℕ)
    → first_frame transmission ≤ f
    → f ≤ last_frame transmission
    → IsCell row column
    → shown page (on_air_until transmission f) row column
    ≡ cell (english_due_page subtitles f) row column

-- A good transmission of the subtitles on the page of the options, by seven rules.
pub record IsEnglishGood
    (o : OptionsValue) (subtitles : List SubtitleValue) (transmission : Transmission)
    : Type 0 where
  -- 1. There is at least one frame, the frames are in rising order, and packets have 42 bytes. The
  --    first frame is not after the first TCI, and the last frame is not before the last TCO.
  pub not_empty : 0 < length transmission
  pub rising : IsRising transmission
  pub whole : EachPacket (λ packet. length packet ≡ 42) transmission
  pub starts : IfSome (first_tci subtitles) (λ tci. first_frame transmission ≤ tci)
  pub lasts : IfSome (last_tco subtitles) (λ tco. tco ≤ last_frame transmission)
  -- 2. The address bytes of each packet, and all eight coded bytes of each packet X/0, are code
  -- words without a wrong bit.
  pub exact : EachPacket HasExactCodeWords transmission
  -- 3. All page headers, of any page, have the same C11.
  pub serial : EachPacket (λ one. EachPacket (HaveSameMode one) transmission) transmission
  -- 4. Each header of the page has the control bits of an English subtitle.
  pub control : EachPacket (IsControlledInEnglish o.page) transmission
  -- 5. While the page is open, each row has odd parity, packets of the same row since the last
  -- header of the page are equal, and there is no packet X/25 to X/28 of its magazine.
  pub spans : HasCleanSpans o.page transmission
  -- 6. The first frame contains a header of the page, and so does at least one of any `every`
  -- consecutive frames.
  pub opens : HoldsHeader o.page transmission (first_frame transmission)
  pub repeats : Repeats o.page o.every transmission
  -- 7. At the end of each frame, the transmitted page is the expected page.
  pub content : ShowsEnglishPages o.page subtitles transmission
  -- If the options require it, PES packets are at most `pace` frames apart, and pages are complete.
  pub paced : KeepsPace o.pace transmission
  pub complete : IsTrue o.asks_complete → Complete transmission o

-- The files are accepted: they contain subtitles, possibly none, and a good transmission of these
-- subtitles.
pub record IsAcceptedInPlainTerms (o : OptionsValue) (stl pes : List ℕ) : Type 0 where
  pub subtitles : List SubtitleValue
  pub transmission : Transmission
  pub files : AreReadFrom whole o.origin stl pes subtitles transmission
  pub good : IsEnglishGood o subtitles transmission
