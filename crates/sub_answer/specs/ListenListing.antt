-- The output of `listen`: the state of a receiver at the end of its run, or a fault.
use Rattle.std.specs.Prelude.{◌≡◌, ℕ, Bool, false, List, Option, None, Result, Ok, Err, IfOk}
use Rattle.ttx_page.specs.Page.{IsCell, Rows, cell}
use Rattle.ttx_page.specs.Screen.{Display}
use Rattle.sub_rules.specs.FrameRules.{UnreadReason}
use Rattle.sub_listen.specs.Run.{ReceivesFile}
use Rattle.sub_rules.specs.Transmission.{Transmission}
use Rattle.sub_request.specs.declared.listening.Listening.{Listening}
use Rattle.sub_listen.specs.declared.listening.ListenFault.{ListenFault}
use Rattle.sub_listing.specs.DisplayLines.{PrintsValidPage, display_text}
use Rattle.sub_listing.specs.Faults.{check_line}
use Rattle.sub_listing.specs.Listing.{Listing, done, fault_listing}
use Rattle.sub_listing.specs.FaultLine.{line_with, counted_from}
use Rattle.sub_listing.specs.declared.fault_line.Kind.TheVariants as kind
use Rattle.sub_listing.specs.declared.fault_line.FaultLine.{FaultLine}
use Rattle.sub_listen.specs.Fault.{listen_code}
use Rattle.sub_rules.specs.declared.fault_place.FaultPlace.TheVariants as place
use Rattle.sub_listen.specs.declared.listening.ListenFault.TheVariants as listen

-- The page has code 3F in every cell (not defined by a standard). A receiver of `listen` starts
-- with this page.
abbrev pub IsOldPage : Rows → Type 0
IsOldPage page = (row column : ℕ) → IsCell row column → cell page row column ≡ 0x3F

-- The state of a receiver that was tuned while it had this page, and shows no page on its screen.
abbrev pub tuned_to_old_page : Rows → Display
tuned_to_old_page page = record {
  receiver_state = record { heard = false; is_open = false; page = page };
  screen = None;
}

-- The line of a fault of `listen`. A packet that is listed as lost and not skipped, but must not be
-- lost (`LostHeader`), is reported with its frame and its index in that frame.
abbrev pub listen_line : ListenFault → FaultLine
listen_line (listen.File f) = check_line f
listen_line (listen.LostHeader frame packet) =
    line_with kind.Refused (listen_code (listen.LostHeader frame packet))
    (place.Packet frame packet)

-- The output at the end of a run of `listen`. PES packets are counted from the number `first`.
abbrev pub listing_of : ℕ → Bool → Display → Result (Unit {0}) ListenFault → Listing
listing_of first asks_complete end (Ok _) = done (display_text asks_complete end)
listing_of first asks_complete end (Err f) = fault_listing (counted_from first (listen_line f))

-- The output of `listen` for a file with these frames: the page or screen of a receiver that
-- started with an old page, or a fault. In a cell whose byte has even parity, the receiver stores
-- the code that `leaves` returns for the cell's old code, unless it drops the row. The remaining
-- bytes of the file are `known` before and `left` after the run.
pub record Listens
    (leaves : ℕ → ℕ) (l : Listening) (first : ℕ) (frames : Transmission)
    (unread : Option UnreadReason)
    (known left : Option (List ℕ)) (listing : Listing)
    : Type 0 where
  pub old_page : Rows
  pub is_old_page : IsOldPage old_page
  pub end : Display
  pub result : Result (Unit {0}) ListenFault
  pub hears :
      ReceivesFile leaves l frames unread known left l.options.page (tuned_to_old_page old_page) end
      result
  pub listing_eq : listing ≡ listing_of first l.options.asks_complete end result
  pub page_is : IfOk result (λ _. PrintsValidPage l.options.asks_complete end)
