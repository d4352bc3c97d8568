-- Receivers that drop rows with a data byte of even parity. A dropped row has the same effect as a
-- lost row.
use Rattle.std.specs.Prelude.{◌↔◌, ℕ, ◌<◌, not, List}
use Rattle.std.specs.List.{filter}
use Rattle.ttx_packet.specs.PageId.{PageIdValue}
use Rattle.ttx_page.specs.Receiver.{HearsBy, ReceiverClass, State, Hears, is_row_with_even_parity}
use Rattle.ttx_page.specs.Receiver.ReceiverClass.{Dropping, Storing}
use Rattle.ttx_page.specs.Screen.{Display, Shows, ShowsBy}

-- The packets of a list, without the rows that a receiver of page w drops because of a data byte of
-- even parity.
abbrev pub without_dropped_packets : PageIdValue → List (List ℕ) → List (List ℕ)
without_dropped_packets w packets =
    filter (λ packet. not (is_row_with_even_parity w packet)) packets

-- A receiver that drops rows has the same page and screen as a receiver that stores rows and does
-- not receive the dropped rows.
abbrev pub LawOfDropping : Type 0
LawOfDropping =
    (w : PageIdValue) (packets : List (List ℕ))
    → ((old new : State)
    → HearsBy Dropping w old packets new
    ↔ Hears w old (without_dropped_packets w packets) new)
    × ((old new : Display)
    → ShowsBy Dropping w old packets new
    ↔ Shows w old (without_dropped_packets w packets) new)

-- The cells in which a receiver of this class may have a space instead of the sent code.
-- `IsExcused` is true for these cells in receivers that store rows. In receivers that drop rows,
-- one such cell allows spaces in all cells of its row.
abbrev pub ExcusedBy : ReceiverClass → (ℕ → ℕ → Type 0) → ℕ → ℕ → Type 0
ExcusedBy Storing IsExcused = IsExcused
ExcusedBy Dropping IsExcused = λ row column. (other : ℕ) × (other < 40) × IsExcused row other
