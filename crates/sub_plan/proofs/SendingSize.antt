-- The packets of a page transmission fit in one PES packet.
use Rattle.std.proofs.Common.{rules, ◌≡◌, ℕ, ◌+◌, ◌-◌, ◌*◌, ◌^◌, ◌<◌, ◌≤◌, Bool, false, cond, List}
use Rattle.std.proofs.Common.{[], ◌∷◌, ◌++◌, length, filter, All, refl, ap, ◌∙◌, arith, lit<}
use Rattle.std.proofs.Common.{append-nil}
use Rattle.std.proofs.lemmas.Bool.Decides.{nat_tests}
use Rattle.std.proofs.lemmas.List.Sums.{count_by-le-length, length-filter}
use Rattle.std.specs.List.{range_with_len}
use Rattle.std.proofs.Math.Nat.{mod-lt}
use Rattle.std.proofs.lemmas.List.{length_push, length-map}
use Rattle.std.proofs.lemmas.List.FromFn.{length-range_with_len}
use Rattle.std.proofs.lemmas.List.Elements.{All-weaker, recursion_from_All, filter-append}
use Rattle.ttx_packet.specs.PacketAddress.{IsPacket}
use Rattle.ttx_packet.specs.PageHeader.{header_packet}
use Rattle.ttx_packet.specs.PageId.{PageIdValue}
use Rattle.ttx_packet.specs.RowPacket.{row_packet}
use Rattle.ttx_page.specs.Page.{Rows, blank_row, row_at}
use Rattle.stl_rows.specs.declared.national.National.{National}
use Rattle.ttx_pes.proofs.LineOrderLemmas.{numbered_frame_is_valid}
use Rattle.sub_plan.specs.FrameTime.{pts_of}
use Rattle.sub_plan.specs.Sending.{is_sent_row, watched_header, closing_header, rows_from}
use Rattle.sub_plan.specs.Sending.{sent_rows, sending}
use Rattle.sub_plan.specs.Laws.{IsSentPacket, LawOfDueSize, LawOfPesValues, LawOfSize}
use Rattle.stl_rows.proofs.LastRowLemmas.{due_row_24_is_blank}
use Rattle.sub_plan.proofs.SentPackets.{closing_header_packet}
use Rattle.sub_plan.proofs.SendingLemmas.{sending_has_sent_packets}

pub filter_is_no_longer : (test : ℕ → Bool) (xs : List ℕ) → length (filter test xs) ≤ length xs
filter_is_no_longer test xs = omega (arith, length-filter test xs, count_by-le-length test xs)

rows_are_at_most_count : (magazine : ℕ) (page : Rows) (a n : ℕ) → length (rows_from magazine page a
    n) ≤ n
rows_are_at_most_count magazine page a n = search (
  rules,
  length-map,
  filter_is_no_longer,
  length-range_with_len,
)

page_fits_in_24_rows : (magazine : ℕ) (page : Rows) → length (sent_rows magazine page) ≤ 24
unfolding sent_rows
page_fits_in_24_rows magazine page = rows_are_at_most_count magazine page 1 24

pub law_of_size : LawOfSize
unfolding sending
law_of_size w national serial page = grind (
  arith,
  nat_tests,
  length_push,
  closing_header_packet,
  page_fits_in_24_rows,
)

blank_row_unsent : is_sent_row blank_row ≡ false
unfolding blank_row
blank_row_unsent = refl

page_fits_in_23_rows : (magazine : ℕ) (page : Rows)
    → row_at page 24 ≡ blank_row
    → length (sent_rows magazine page) ≤ 23
unfolding sent_rows
page_fits_in_23_rows magazine page e =
    let test : ℕ → Bool = λ row. is_sent_row (row_at page row) in
    let rows : filter test (range_with_len 1 24) ≡ filter test (range_with_len 1 23) =
    filter-append test (range_with_len 1 23) (24 ∷ [])
    ∙ rw (ap is_sent_row e ∙ blank_row_unsent, append-nil) refl in
    rw (
      length-map (filter test (range_with_len 1 24))
          (λ row. row_packet magazine row (row_at page row)),
      rows,
    ) (filter_is_no_longer test (range_with_len 1 23))

pub law_of_due_size : LawOfDueSize
unfolding sending
law_of_due_size w serial programme frame =
    grind (
      arith,
      nat_tests,
      length_push,
      closing_header_packet,
      page_fits_in_23_rows,
      due_row_24_is_blank,
    )

pub law_of_pes_values : LawOfPesValues
law_of_pes_values o national serial page frame ok shape =
    let packets : List (List ℕ) = sending o.page national serial page in
    let small : pts_of o.origin frame < 2 ^ 33 = mod-lt (o.origin + 3600 * frame) (lit< tt) in
    let few : length packets ≤ 32 = omega (arith, law_of_size o.page national serial page) in
    let each : All IsPacket packets =
    All-weaker (IsSentPacket o.page national serial) IsPacket (λ p is. is.whole) packets
    (sending_has_sent_packets o.page national serial page ok.page shape) in
    (numbered_frame_is_valid (pts_of o.origin frame) packets small few
    (recursion_from_All IsPacket packets each)).0

pub rows_from_splits_at_row : (magazine : ℕ) (page : Rows) (row : ℕ)
    → row ≤ 24
    → rows_from magazine page row (25 - row)
    ≡ cond (is_sent_row (row_at page row)) (row_packet magazine row (row_at page row) ∷ []) []
    ++ rows_from magazine page (row + 1) (25 - (row + 1))
rows_from_splits_at_row magazine page row high = grind (arith, nat_tests)

pub packets_make_the_sending : (w : PageIdValue) (national : National) (serial : Bool) (page : Rows)
    (sent : List (List ℕ))
    → sent ≡ header_packet w.magazine (watched_header w national serial)
    ∷ rows_from w.magazine page 1 24
    → sent ++ header_packet w.magazine (closing_header serial) ∷ []
    ≡ sending w national serial page
unfolding sending sent_rows
packets_make_the_sending w national serial page sent is = rw is refl
