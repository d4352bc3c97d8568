-- The headline for receivers of both classes: receivers that store rows with a byte of even parity,
-- and receivers that drop such rows.
use Rattle.std.specs.Prelude.{ℕ, Bool, List}
use Rattle.ttx_packet.specs.PageId.{PageIdValue}
use Rattle.ttx_page.specs.DroppedRows.{ExcusedBy}
use Rattle.ttx_page.specs.LostRows.{IsHitOrLost, arrivals_from_flags}
use Rattle.ttx_page.specs.Receiver.{HearsBy, ReceiverClass, State}
use Rattle.stl_file.specs.Subtitle.{SubtitleValue}
use Rattle.sub_rules.specs.Transmission.{Transmission, first_frame, last_frame, on_air}
use Rattle.sub_laws.specs.LostRows.{IsReceivedWithLosses}
use Rattle.sub_headline.specs.EnglishPage.{english_due_page}
use Rattle.sub_headline.specs.PlainHeadline.{ReceivesPage}

-- Every receiver of the class has the expected page, as `ReceivesPage` specifies, if it receives
-- the packets as `IsReceivedWithLosses` allows. Excused cells may contain a space. If the receiver
-- drops rows, all cells of a row are excused if, in the last transmission of the page, the row was
-- lost or any of its 40 data bytes was received wrong.
abbrev pub EachReceiverOfClassGets :
    ReceiverClass → PageIdValue → ℕ → List SubtitleValue → Transmission → Type 0
EachReceiverOfClassGets class page every subtitles transmission =
    (g j f : ℕ) (arrived : List Bool) (got : List (List ℕ)) (old new : State)
    → IsReceivedWithLosses transmission (first_frame transmission) (last_frame transmission) g j f
    arrived got
    → HearsBy class page old got new
    → ReceivesPage page every (english_due_page subtitles f) g f (on_air transmission g j f)
    (ExcusedBy class
    (IsHitOrLost page (on_air transmission g j f) (arrivals_from_flags arrived got)))
    old new
