-- The law of noise: what every receiver decodes from well-formed packets with at most one wrong bit
-- in each byte.
use Rattle.std.specs.Prelude.{◌≡◌, ℕ, ◌<◌, ◌⊎◌, List, All, IsTrue, IsFalse}
use Rattle.std.specs.List.{AllZip}
use Rattle.ttx_packet.specs.declared.header.Header.{Header}
use Rattle.ttx_packet.specs.OneBit.{AreNear}
use Rattle.ttx_packet.specs.PageHeader.{c4, HasExactCodeWords}
use Rattle.ttx_packet.specs.PageId.{PageIdValue}
use Rattle.ttx_packet.specs.Parity.{character_code}
use Rattle.ttx_packet.specs.RowPacket.{HasOddParityText, text_byte}
use Rattle.ttx_page.specs.declared.packet_kind.PacketKind.TheVariants.{ThisPage, Row}
use Rattle.ttx_page.specs.Page.{space, cell, IsCell}
use Rattle.ttx_page.specs.PacketKind.{kind}
use Rattle.ttx_page.specs.Receiver.{State, Hears}
use Rattle.ttx_page.specs.Shown.{shown, IsHit}
use Rattle.ttx_page.specs.Span.{has_page_header, is_open_after, span}

-- If the packet is a header of page w, its control bit C4, erase page, is set.
abbrev pub ErasesPageIfHeader : PageIdValue → List ℕ → Type 0
ErasesPageIfHeader w packet = (h : Header) → kind w packet ≡ ThisPage h → IsTrue (c4 h)

-- If the packet is a row of page w, its 40 data bytes have odd parity.
abbrev pub HasOddParityTextIfRow : PageIdValue → List ℕ → Type 0
HasOddParityTextIfRow w packet = (row : ℕ) → kind w packet ≡ Row row → HasOddParityText packet

-- If both packets are packets of the same row of page w, they are equal.
abbrev pub AreEqualIfSameRow : PageIdValue → List ℕ → List ℕ → Type 0
AreEqualIfSameRow w first second =
    (row : ℕ) → kind w first ≡ Row row → kind w second ≡ Row row → first ≡ second

-- If both packets are packets of the same row of page w, they have the same character codes.
abbrev pub HaveSameCodesIfSameRow : PageIdValue → List ℕ → List ℕ → Type 0
HaveSameCodesIfSameRow w first second =
    (row column : ℕ)
    → kind w first ≡ Row row
    → kind w second ≡ Row row
    → column < 40
    → character_code (text_byte first column) ≡ character_code (text_byte second column)

-- The sent packets are well-formed, as the law of noise requires.
pub record IsSound (w : PageIdValue) (sent : List (List ℕ)) : Type 0 where
  -- The address bytes and the coded bytes of page headers are code words.
  pub exact : All HasExactCodeWords sent
  -- Each header of the page has C4, erase page, set.
  pub erases : All (ErasesPageIfHeader w) sent
  -- Each packet of a row of the page in its last transmission has 40 data bytes of odd parity.
  pub odd : All (HasOddParityTextIfRow w) (span (kind w) sent)
  -- Two packets of the same row of the page in its last transmission have the same character codes.
  pub same : All (λ first. All (HaveSameCodesIfSameRow w first) (span (kind w) sent))
      (span (kind w) sent)

-- The final state of a receiver that had received no header of the page before, and whose page was
-- not open.
pub record EndsWithShownText
    (w : PageIdValue) (sent : List (List ℕ)) (IsExcused : ℕ → ℕ → Type 0) (new : State)
    : Type 0 where
  -- The receiver has received a header of the page exactly if the packets contain one.
  pub heard : new.heard ≡ has_page_header (kind w) sent
  -- The page is open exactly if the packets contain a header of the page and no header after the
  -- last one ends it.
  pub is_open : new.is_open ≡ is_open_after (kind w) sent
  -- If a header of the page was received, each cell has the code that the packets show, or it is a
  -- space and `IsExcused` is true for it.
  pub cells :
      IsTrue new.heard
      → (row column : ℕ)
      → IsCell row column
      → (cell new.page row column ≡ shown w sent row column)
      ⊎ ((cell new.page row column ≡ space) × IsExcused row column)

-- The law of noise, for well-formed packets with at most one wrong bit in each byte and every
-- receiver that had received no header of the page before and whose page was not open. If a header
-- of the page was sent, each cell has the code that the packets show, or it is a space and noise
-- hit it. So noise never puts a wrong character other than a space into the decoded page.
abbrev pub LawOfNoise : Type 0
LawOfNoise =
    (w : PageIdValue) (sent got : List (List ℕ)) (old new : State)
    → IsSound w sent
    → AllZip AreNear sent got
    → IsFalse old.heard
    → IsFalse old.is_open
    → Hears w old got new
    → EndsWithShownText w sent (IsHit w sent got) new

-- If well-formed packets arrive without wrong bits at a receiver that had received no header of the
-- page before and whose page was not open, and one of them is a header of the page, each cell has
-- the code that the packets show. What the page contained before and what the receiver does at
-- bytes of even parity has no effect.
abbrev pub LawWithoutNoise : Type 0
LawWithoutNoise =
    (w : PageIdValue) (sent : List (List ℕ)) (old new : State)
    → IsSound w sent
    → IsFalse old.heard
    → IsFalse old.is_open
    → Hears w old sent new
    → IsTrue new.heard
    → (row column : ℕ)
    → IsCell row column
    → cell new.page row column ≡ shown w sent row column
