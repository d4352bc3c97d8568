-- The computed receiver of the examples follows the model of a receiver. For a byte of even parity,
-- it keeps the code of the cell.
use Rattle.std.proofs.Common.{◌≡◌, ℕ, ◌-◌, Bool, true, false, ◌&&◌, List, [], ◌∷◌, map, get_or}
use Rattle.std.proofs.Common.{refl, ap, ◌∙◌, arith, inl, inr}
use Rattle.std.specs.Prelude.{◌==◌, if◌then◌else◌}
use Rattle.std.specs.List.{range_with_len, AllZip}
use Rattle.std.proofs.lemmas.Bool.{and_parts, cases_Bool}
use Rattle.std.proofs.lemmas.Bool.Decides.{nat_tests}
use Rattle.std.proofs.lemmas.List.FromFn.{get_or-map-range_with_len}
use Rattle.ttx_packet.specs.OneBit.{AreNear, is_near}
use Rattle.ttx_packet.specs.PageId.{PageIdValue}
use Rattle.ttx_packet.proofs.OneBitLemmas.{is_near_implies_near}
use Rattle.ttx_packet.specs.PageHeader.{c4}
use Rattle.ttx_packet.specs.RowPacket.{text_byte}
use Rattle.ttx_page.specs.Memory.{code_after}
use Rattle.ttx_page.specs.declared.memory.EvenParityChoice.TheVariants.{KeepsCell}
use Rattle.ttx_page.specs.declared.packet_kind.PacketKind.{PacketKind}
use Rattle.ttx_page.specs.declared.packet_kind.PacketKind.TheVariants.{ThisPage, EndsPage, Row}
use Rattle.ttx_page.specs.declared.packet_kind.PacketKind.TheVariants.{Other}
use Rattle.ttx_page.specs.Page.{Rows, blank, cell, IsCell}
use Rattle.ttx_page.specs.PacketKind.{kind}
use Rattle.ttx_page.specs.Receiver.{State, StepAt, Hears, StoresRow}

abbrev are_bytes_near : List ℕ → List ℕ → Bool
are_bytes_near [] [] = true
are_bytes_near [] (g ∷ got) = false
are_bytes_near (s ∷ sent) [] = false
are_bytes_near (s ∷ sent) (g ∷ got) = is_near s g && are_bytes_near sent got

near_test_is_correct : (sent got : List ℕ) → are_bytes_near sent got ≡ true → AreNear sent got
near_test_is_correct [] got e = grind (arith, nat_tests)
near_test_is_correct (s ∷ sent) y e = grind (
  arith,
  nat_tests,
  and_parts,
  is_near_implies_near,
  near_test_is_correct sent,
)

abbrev pub are_packets_near : List (List ℕ) → List (List ℕ) → Bool
are_packets_near [] [] = true
are_packets_near [] (g ∷ got) = false
are_packets_near (s ∷ sent) [] = false
are_packets_near (s ∷ sent) (g ∷ got) = are_bytes_near s g && are_packets_near sent got

pub packets_tested :
    (sent got : List (List ℕ)) → are_packets_near sent got ≡ true → AllZip AreNear sent got
packets_tested [] got e = grind (arith, nat_tests)
packets_tested (s ∷ sent) got e =
    grind (arith, nat_tests, and_parts, near_test_is_correct, packets_tested sent)

abbrev pub page_from_cells : (ℕ → ℕ → ℕ) → Rows
page_from_cells code =
    map (λ row. map (λ column. code row column) (range_with_len 0 40)) (range_with_len 1 24)

abbrev pub code_after_storing : List ℕ → ℕ → Rows → ℕ → ℕ → ℕ
code_after_storing packet y page row column =
    if row == y
    then code_after KeepsCell (text_byte packet column) (cell page row column)
    else cell page row column

abbrev pub page_after_storing_row : List ℕ → ℕ → Rows → Rows
page_after_storing_row packet y page = page_from_cells (code_after_storing packet y page)

-- `state_after_kind` is the state of the computed receiver after a packet of each kind.
abbrev pub state_after_kind : PacketKind → List ℕ → State → State
state_after_kind (ThisPage h) packet old =
    record { heard = true; is_open = true; page = if c4 h then blank else old.page }
state_after_kind EndsPage packet old = record old { is_open = false }
state_after_kind (Row y) packet old =
    if old.is_open then record old { page = page_after_storing_row packet y old.page } else old
state_after_kind Other packet old = old

abbrev pub state_after : PageIdValue → State → List (List ℕ) → State
state_after w old [] = old
state_after w old (packet ∷ packets) =
    state_after w (state_after_kind (kind w packet) packet old) packets

cell-page_from_cells : (code : ℕ → ℕ → ℕ) (row column : ℕ)
    → IsCell row column
    → cell (page_from_cells code) row column ≡ code row column
cell-page_from_cells code row column named =
    ap (λ (codes : List ℕ). get_or codes column 0)
    (get_or-map-range_with_len (λ row. map (λ column. code row column) (range_with_len 0 40)) 1 24
    (row - 1) row [] (omega (arith, named.0, named.1)) (omega (arith, named.0)))
    ∙ get_or-map-range_with_len (λ column. code row column) 0 40 column column 0 named.2
    (omega arith)

-- The computed receiver stores a row as the model of a receiver allows.
row_is_stored :
    (packet : List ℕ) (y : ℕ) (page : Rows) → StoresRow packet y page (page_after_storing_row packet
    y page)
row_is_stored packet y page row column named =
    grind (
      arith,
      nat_tests,
      cell-page_from_cells (code_after_storing packet y page) row column
          named,
    )

-- Each step of the computed receiver is a step that the model of a receiver allows.
computed_step_is_valid : (k : PacketKind) (packet : List ℕ) (old : State)
    → StepAt k packet old (state_after_kind k packet old)
computed_step_is_valid (ThisPage h) packet old = refl
computed_step_is_valid EndsPage packet old = refl
computed_step_is_valid (Row y) packet old = elim (cases_Bool old.is_open) [
  | inl up ↦ rw up (grind arith, grind arith, row_is_stored packet y old.page)
  | inr shut ↦ rw shut refl
]
computed_step_is_valid Other packet old = refl

pub computed_state_is_heard : (w : PageIdValue) (old : State) (packets : List (List ℕ))
    → Hears w old packets (state_after w old packets)
computed_state_is_heard w old [] = refl
computed_state_is_heard w old (packet ∷ packets) =
    grind (
      arith,
      nat_tests,
      computed_step_is_valid,
      computed_state_is_heard w (state_after_kind (kind w packet) packet old)
          packets,
    )
