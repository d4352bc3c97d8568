-- The requirements if repeats may have C4 (erase page) clear. Inserters set C4 when the text
-- changes, and many clear it when they repeat the page. After such a repeat, the page is correct
-- only when each row with text was sent again.
use Rattle.std.specs.Prelude.{◌≡◌, ◌≢◌, ◌↔◌, ℕ, ◌⊎◌, Bool, false, List, [], ◌∷◌}
use Rattle.std.specs.Prelude.{Option, Some, None, IsTrue, IsFalse}
use Rattle.std.specs.List.{list_any}
use Rattle.std.specs.Option.{option_or}
use Rattle.ttx_packet.specs.declared.header.Header.{Header}
use Rattle.ttx_packet.specs.PageHeader.{c4, c5, c6, c7, c10}
use Rattle.ttx_packet.specs.PageId.{PageIdValue}
use Rattle.ttx_page.specs.Noise.{ErasesPageIfHeader}
use Rattle.ttx_page.specs.Page.{Rows, cell, space}
use Rattle.ttx_page.specs.PacketKind.{is_row, kind}
use Rattle.ttx_page.specs.Shown.{kept, shown}
use Rattle.ttx_page.specs.Span.{is_open_after, span}
use Rattle.ttx_page.specs.declared.packet_kind.PacketKind.{PacketKind}
use Rattle.ttx_page.specs.declared.packet_kind.PacketKind.TheVariants.{ThisPage}
use Rattle.stl_rows.specs.declared.national.National.{National}
use Rattle.stl_rows.specs.SubSets.{sub_set}
use Rattle.sub_plan.specs.Sending.{national_bits}
use Rattle.sub_rules.specs.declared.packet_rule.Watched.{Watched}

-- ---- correct cells

-- A packet of the row was received since the last header of the page, while the page was open.
abbrev pub has_row : PageIdValue → List (List ℕ) → ℕ → Bool
has_row page packets row =
    list_any (λ packet. is_row row (kind page packet)) (span (kind page) packets)

-- The cell is correct after these packets: it has the expected code, and unless that code is a
-- space, its row was sent after the last header of the page, while the page was open.
pub record IsRight
    (keeps : Bool) (page : PageIdValue) (packets : List (List ℕ)) (due : Rows) (row column : ℕ)
    : Type 0 where
  pub kept_eq : kept keeps page packets row column ≡ cell due row column
  pub again : cell due row column ≢ space → IsTrue (has_row page packets row)

-- If each header of the page must have C4 (erase page) set, a cell is correct if and only if it
-- shows the expected code, as `Good` requires.
abbrev pub LawOfRightCells : Type 0
LawOfRightCells =
    (page : PageIdValue) (packets : List (List ℕ)) (due : Rows) (row column : ℕ)
    → IsRight false page packets due row column
    ↔ (shown page packets row column ≡ cell due row column)

-- ---- headers with C4 (erase page) clear

-- The page header, if the packet is a header of the checked page.
abbrev pub header_of_page : PacketKind → Option Header
header_of_page (ThisPage h) = Some h
header_of_page _ = None

-- The last header of the page among the packets; `None` if there is none.
abbrev pub last_header : PageIdValue → List (List ℕ) → Option Header
last_header page [] = None
last_header page (p ∷ ps) = option_or (last_header page ps) (header_of_page (kind page p))

-- The header h counts as a repeat of the page: it has the sub-code of the page's previous header,
-- if there is one; and if complete pages are required, the page is not open.
pub record IsRepeat (complete : Bool) (page : PageIdValue) (before : List (List ℕ)) (h : Header)
    : Type 0 where
  pub subcode : (last : Header) → last_header page before ≡ Some last → h.subcode ≡ last.subcode
  pub closed : IsTrue complete → IsFalse (is_open_after (kind page) before)

-- If the packet is a header of the page, it has C4 (erase page) set or repeats the page.
abbrev pub ErasesOrRepeats : Bool → PageIdValue → List (List ℕ) → List ℕ → Type 0
ErasesOrRepeats complete page before packet =
    (h : Header)
    → kind page packet ≡ ThisPage h
    → IsTrue (c4 h) ⊎ IsRepeat complete page before h

-- The header has the control bits of a subtitle page, as in `IsSubtitleHeader`, with any C4.
pub record HasSubtitleBits (national : National) (h : Header) : Type 0 where
  pub no_newsflash : IsFalse (c5 h)
  pub subtitle : IsTrue (c6 h)
  pub suppressed : IsTrue (c7 h)
  pub displayed : IsFalse (c10 h)
  pub option : national_bits h ≡ (sub_set national).bits

-- If the packet is a header of the page, it has the control bits of a subtitle page, with any C4.
abbrev pub HasSubtitleHeaderBits : National → PageIdValue → List ℕ → Type 0
HasSubtitleHeaderBits national page packet =
    (h : Header) → kind page packet ≡ ThisPage h → HasSubtitleBits national h

-- The rule for a header of the page that is sent after the packets `before`: it has the control
-- bits of a subtitle page, and has C4 (erase page) set or, if that is allowed, repeats the page.
pub record HasAllowedHeader (w : Watched) (before : List (List ℕ)) (packet : List ℕ) : Type 0 where
  pub control : HasSubtitleHeaderBits w.national w.page packet
  pub erases : IsFalse w.keeps → ErasesPageIfHeader w.page packet
  pub keeping : ErasesOrRepeats w.complete w.page before packet
