-- Receivers of a page that is repeated without C4, erase page. At such a repeat, receivers in the
-- field may keep the page or start from a blank page.
use Rattle.std.specs.Prelude.{◌≡◌, ℕ, ◌<◌, ◌⊎◌, ◌||◌, Bool, true, false, not, List, All}
use Rattle.std.specs.Prelude.{MatchBool, Some, find, IsTrue, IsFalse}
use Rattle.std.specs.List.{AllZip, items_where_true, list_any}
use Rattle.ttx_packet.specs.OneBit.{AreNear}
use Rattle.ttx_packet.specs.PageHeader.{c4, HasExactCodeWords}
use Rattle.ttx_packet.specs.PageId.{PageIdValue}
use Rattle.ttx_packet.specs.Parity.{character_code}
use Rattle.ttx_packet.specs.RowPacket.{text_byte}
use Rattle.ttx_page.specs.declared.packet_kind.PacketKind.{PacketKind}
use Rattle.ttx_page.specs.declared.packet_kind.PacketKind.TheVariants.{Row, ThisPage}
use Rattle.ttx_page.specs.DroppedRows.{ExcusedBy}
use Rattle.ttx_page.specs.LostRows.{IsHitOrLost, LosesNoHeader, arrivals_from_flags}
use Rattle.ttx_page.specs.Noise.{ErasesPageIfHeader, HasOddParityTextIfRow}
use Rattle.ttx_page.specs.Page.{IsCell, Rows, blank, cell, space}
use Rattle.ttx_page.specs.PacketKind.{is_row, is_this_page, kind}
use Rattle.ttx_page.specs.Receiver.{Hears, HearsBy, ReceiverClass, RunsBy, State, StepAt, drops}
use Rattle.ttx_page.specs.Shown.{kept}
use Rattle.ttx_page.specs.Screen.{Display, ShowsAt}
use Rattle.ttx_page.specs.Span.{has_text_beginning, has_page_header, is_open_after, span, text_span}

-- ---- receivers that may blank cells at a repeat

-- Each cell of a page keeps its code or becomes a space, as the receiver chooses for each cell.
abbrev pub KeepsOrBlanksCells : Rows → Rows → Type 0
KeepsOrBlanksCells old new =
    (row column : ℕ)
    → IsCell row column
    → (cell new row column ≡ cell old row column) ⊎ (cell new row column ≡ space)

-- How a packet may change a receiver that may blank cells at a repeat: as in `StepAt`, but at a
-- header of its page with C4 clear, each cell keeps its code or becomes a space.
abbrev pub StepAtRepeat : PacketKind → List ℕ → State → State → Type 0
StepAtRepeat (ThisPage h) packet old new =
    (new.heard ≡ true)
    × (new.is_open ≡ true)
    × MatchBool (c4 h) (new.page ≡ blank) (KeepsOrBlanksCells old.page new.page)
StepAtRepeat k packet old new = StepAt k packet old new

-- Each cell of the page is a space.
abbrev pub IsBlank : Rows → Type 0
IsBlank page = (row column : ℕ) → IsCell row column → cell page row column ≡ space

-- If `anew` is true, the receiver has a blank page after each header of its page.
abbrev pub RestartsAtHeader : Bool → PageIdValue → List ℕ → State → Type 0
RestartsAtHeader anew w packet new =
    IsTrue anew → IsTrue (is_this_page (kind w packet)) → IsBlank new.page

-- How a packet may change a receiver of this class that may blank cells at a repeat. If `anew` is
-- true, each header of its page blanks the page.
abbrev pub StepWithRepeats :
    ReceiverClass → Bool → PageIdValue → State → List ℕ → State → Type 0
StepWithRepeats class anew w old packet new =
    MatchBool (drops class w packet) (new ≡ old)
    (StepAtRepeat (kind w packet) packet old new × RestartsAtHeader anew w packet new)

-- How a list of packets may change a receiver that may blank cells at a repeat.
abbrev pub HearsRepeats :
    ReceiverClass → Bool → PageIdValue → State → List (List ℕ) → State → Type 0
HearsRepeats class anew w old packets new = RunsBy (StepWithRepeats class anew w) old packets new

-- How a list of packets may change a receiver that may blank cells at a repeat, and its screen.
abbrev pub ShowsRepeats :
    ReceiverClass → Bool → PageIdValue → Display → List (List ℕ) → Display → Type 0
ShowsRepeats class anew w old packets new =
    RunsBy
    (λ before packet after. StepWithRepeats class anew w before.receiver_state packet
    after.receiver_state
    × ShowsAt w before packet after)
    old packets new

-- A receiver that keeps its page at a repeat is a receiver that may blank cells at a repeat.
abbrev pub LawOfKeepingReceivers : Type 0
LawOfKeepingReceivers =
    (class : ReceiverClass) (w : PageIdValue) (packets : List (List ℕ)) (old new : State)
    → HearsBy class w old packets new
    → HearsRepeats class false w old packets new

-- If packets with a header of its page reach a receiver in any state to which the law of repeats
-- applies, and the page is not open after them, the decoded page is on its screen.
abbrev pub LawOfRepeatScreen : Type 0
LawOfRepeatScreen =
    (class : ReceiverClass) (anew : Bool) (w : PageIdValue) (packets : List (List ℕ))
    → (old new : Display)
    → ShowsRepeats class anew w old packets new
    → IsTrue (has_page_header (kind w) packets)
    → IsFalse new.receiver_state.is_open
    → new.screen ≡ Some new.receiver_state.page

-- ---- the law of repeats

-- If the packet is a row of page w, it has the character codes of the text.
abbrev pub HasCodesIfRow : PageIdValue → (ℕ → ℕ → ℕ) → List ℕ → Type 0
HasCodesIfRow w text packet =
    (row column : ℕ)
    → kind w packet ≡ Row row
    → column < 40
    → character_code (text_byte packet column) ≡ text row column

-- The packets have the form that the law of repeats requires, and each row of the page sent in the
-- transmissions of the current text has the codes of the text. Rows may be missing.
pub record SendsOnlyRowsOfText
    (keeps : Bool) (w : PageIdValue) (sent : List (List ℕ)) (text : ℕ → ℕ → ℕ)
    : Type 0 where
  -- The address bytes and the coded bytes of page headers are code words.
  pub exact : All HasExactCodeWords sent
  -- If repeats must not keep earlier text, each header of the page has C4, erase page, set.
  pub erases : IsFalse keeps → All (ErasesPageIfHeader w) sent
  -- Each packet of a row of the page in the transmissions of the current text has 40 data bytes of
  -- odd parity, and the codes of the text.
  pub odd : All (HasOddParityTextIfRow w) (text_span keeps (kind w) sent)
  pub codes : All (HasCodesIfRow w text) (text_span keeps (kind w) sent)

-- The packet may follow the earlier packets `before` (not defined by a standard). Its address bytes
-- and the coded bytes of its page header are code words. If repeats must not keep earlier text, a
-- header of the page has C4 set. A row of the page sent while the page is open has data bytes of
-- odd parity and, if the current text sent this row before, the codes that it had the first time.
pub record MayFollow
    (keeps : Bool) (w : PageIdValue) (before : List (List ℕ)) (packet : List ℕ)
    : Type 0 where
  pub exact : HasExactCodeWords packet
  pub erases : IsFalse keeps → ErasesPageIfHeader w packet
  pub odd : IsTrue (is_open_after (kind w) before) → HasOddParityTextIfRow w packet
  pub same : IsTrue (is_open_after (kind w) before)
      → (row column : ℕ) (first : List ℕ)
      → kind w packet ≡ Row row
      → find (λ p. is_row row (kind w p)) (text_span keeps (kind w) before) ≡ Some first
      → column < 40
      → character_code (text_byte first column) ≡ character_code (text_byte packet column)

-- The receiver blanks the page at each header of the page, or the packets contain a header that
-- starts a new text, or the page was blank and not open. So, if the packets have the form that the
-- law of repeats requires and a header of the page was sent, the page does not depend on its
-- earlier contents.
abbrev pub IsFresh : Bool → Bool → PageIdValue → List (List ℕ) → State → Type 0
IsFresh keeps anew w sent old =
    IsTrue anew
    ⊎ (IsTrue (has_text_beginning keeps (kind w) sent)
    ⊎ (IsFalse old.is_open × IsBlank old.page))

-- The last transmission of the page has no packet of this row.
abbrev pub HasNoRow : PageIdValue → List (List ℕ) → ℕ → Type 0
HasNoRow w sent row =
    IsFalse (list_any (λ packet. is_row row (kind w packet)) (span (kind w) sent))

-- The final state of a receiver that may blank cells at a repeat.
pub record EndsAfterRepeats
    (keeps anew : Bool) (w : PageIdValue) (sent : List (List ℕ)) (text : ℕ → ℕ → ℕ)
    (IsExcused : ℕ → ℕ → Type 0) (old new : State)
    : Type 0 where
  -- The receiver has received a header of the page exactly if it had received one before, or a
  -- header of the page was sent.
  pub heard : new.heard ≡ (old.heard || has_page_header (kind w) sent)
  -- If a header of the page was sent, or the page was not open, the page is open exactly if a
  -- header of the page was sent and no header after the last one ended it.
  pub is_open :
      IsTrue (has_page_header (kind w) sent || not old.is_open)
      → new.is_open ≡ is_open_after (kind w) sent
  -- If a header of the page was sent and the page does not depend on its earlier contents, each
  -- cell has the code of the text, or it is a space, and `IsExcused` is true for it or the last
  -- transmission of the page has no packet of its row.
  pub cells :
      IsTrue (has_page_header (kind w) sent)
      → IsFresh keeps anew w sent old
      → (row column : ℕ)
      → IsCell row column
      → (cell new.page row column ≡ text row column)
      ⊎ ((cell new.page row column ≡ space) × (IsExcused row column ⊎ HasNoRow w sent row))

-- The law of repeats: the final state of every receiver that may blank cells at a repeat, if
-- packets other than page headers may be lost, and the packets that arrive have at most one wrong
-- bit in each byte. So, if a header of the page was sent and the page does not depend on its
-- earlier contents, it has no wrong character other than spaces, and a row that a repeat sends
-- without loss or wrong bits is correct after the repeat.
abbrev pub LawOfRepeats : Type 0
LawOfRepeats =
    (keeps anew : Bool) (class : ReceiverClass) (w : PageIdValue) (sent : List (List ℕ))
    → (arrived : List Bool) (got : List (List ℕ)) (text : ℕ → ℕ → ℕ) (old new : State)
    → SendsOnlyRowsOfText keeps w sent text
    → AllZip LosesNoHeader sent arrived
    → AllZip AreNear (items_where_true arrived sent) got
    → HearsRepeats class anew w old got new
    → EndsAfterRepeats keeps anew w sent text
    (ExcusedBy class (IsHitOrLost w sent (arrivals_from_flags arrived got))) old new

-- If packets of the form that the law of repeats requires arrive without wrong bits, a receiver
-- that keeps its page at repeats has the codes of `kept`, if the page does not depend on its
-- earlier contents.
abbrev pub LawOfKeptText : Type 0
LawOfKeptText =
    (keeps : Bool) (w : PageIdValue) (sent : List (List ℕ)) (old new : State)
    → SendsOnlyRowsOfText keeps w sent (kept keeps w sent)
    → Hears w old sent new
    → IsFresh keeps false w sent old
    → (row column : ℕ)
    → IsCell row column
    → cell new.page row column ≡ kept keeps w sent row column
