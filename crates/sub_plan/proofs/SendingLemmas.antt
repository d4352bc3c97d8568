-- After a page transmission, a receiver shows the transmitted page.
use Rattle.std.proofs.Common.{rules, ◌≡◌, ℕ, zero, suc, ◌+◌, ◌-◌, ◌<◌, ◌≤◌, inl, inr, Bool, true}
use Rattle.std.proofs.Common.{false, not, ◌==◌, cond, List, [], ◌∷◌, ◌++◌, length, map, filter}
use Rattle.std.proofs.Common.{take, find, flat_map, option_map, unwrap_or, slice_index, All, refl}
use Rattle.std.proofs.Common.{sym, ap, ◌∙◌, arith, lit≤, append-nil, ◌↔◌, replicate, nat_le, nat_lt}
use Rattle.std.proofs.Common.{◌&&◌}
use Rattle.std.specs.List.{range_with_len, AllByRecursion}
use Rattle.std.proofs.Math.Seq.{take-append-add}
use Rattle.std.proofs.lemmas.Bool.{cases_lt, or_parts, or_left, false≢true, true_from_ne_false}
use Rattle.std.proofs.lemmas.List.{take_all, take-append-le, length_push, ext_get_or}
use Rattle.std.proofs.lemmas.List.{get_or-replicate, length-replicate}
use Rattle.std.proofs.lemmas.Bool.Decides.{nat_tests}
use Rattle.std.proofs.Math.Bool.{or-true}
use Rattle.std.proofs.lemmas.List.Folds.{list_any-append, list_any_none}
use Rattle.std.proofs.lemmas.List.Elements.{All-nil, All-cons, All-push, All-map, All-filter}
use Rattle.std.proofs.lemmas.List.Elements.{All-take, All-weaker, recursion_from_All}
use Rattle.std.proofs.lemmas.Option.{none-some, same_Some}
use Rattle.ttx_packet.specs.PageHeader.{c11}
use Rattle.ttx_packet.specs.PageId.{PageIdValue}
use Rattle.ttx_packet.specs.Parity.{character_code}
use Rattle.ttx_packet.specs.RowPacket.{text_byte}
use Rattle.ttx_page.specs.declared.packet_kind.PacketKind.{PacketKind}
use Rattle.ttx_page.specs.declared.packet_kind.PacketKind.TheVariants.{Row}
use Rattle.ttx_page.specs.Page.{Rows, space, cell, row_at, IsCell, IsPage}
use Rattle.ttx_page.specs.PacketKind.{kind, is_this_page, ends_page, is_row}
use Rattle.ttx_page.specs.Span.{after_last_header, before_page_end, has_page_header}
use Rattle.ttx_page.specs.Span.{has_no_page_end, span}
use Rattle.ttx_page.specs.Shown.{shown}
use Rattle.ttx_page.proofs.SpanListLemmas.{after-here, after-append}
use Rattle.stl_rows.specs.declared.national.National.{National}
use Rattle.sub_plan.specs.Options.{IsWatchable}
use Rattle.sub_plan.specs.Sending.{is_sent_row, watched_header, closing_header, rows_from}
use Rattle.sub_plan.specs.Sending.{sent_rows, sending}
use Rattle.sub_plan.specs.Laws.{AreRowsOfOnePage, IsRowOf, IsSentPacket, LawOfCutSendings}
use Rattle.sub_plan.specs.Laws.{LawOfSending}
use Rattle.sub_plan.proofs.ScheduleBases.{property_holds_on_range}
use Rattle.sub_plan.proofs.SentPackets.{watched_header_packet, closing_header_packet}
use Rattle.sub_plan.proofs.SentPackets.{watched_packet_is_made_header}
use Rattle.sub_plan.proofs.SentPackets.{closing_packet_is_made_header}
use Rattle.sub_plan.proofs.SentPackets.{header_makes_packet}
use Rattle.sub_plan.proofs.SentPackets.{row_codes_make_packet, row_of, row_has_40_columns}
use Rattle.sub_plan.proofs.SentPackets.{row_codes, row_packet_is_made_row}
use Rattle.sub_plan.proofs.SentPackets.{watched_packet_opens_page, closing_packet_ends_page}
use Rattle.sub_plan.proofs.SentPackets.{row_packet_has_row_kind}

pub sent_rows_are_of_page : (w : PageIdValue) (page : Rows)
    → All (IsRowOf w page) (sent_rows w.magazine page)
unfolding sent_rows
sent_rows_are_of_page w page =
    let test : ℕ → Bool = λ row. is_sent_row (row_at page row) in
    All-map (IsRowOf w page) (row_of w page) (filter test (range_with_len 1 24))
    (All-filter test (λ row. IsRowOf w page (row_of w page row)) (range_with_len 1 24)
    (property_holds_on_range (λ row. IsRowOf w page (row_of w page row)) 1 24
    (λ j b c. record { row = j; low = b; high = omega arith; is = refl })))

abbrev cell_from_packets : PageIdValue → ℕ → ℕ → List (List ℕ) → ℕ
cell_from_packets w row column packets =
    unwrap_or (option_map (λ p. character_code (text_byte p column))
    (find (λ p. is_row row (kind w p)) packets)) space

unsent_row_has_spaces : (codes : List ℕ) (column : ℕ) → is_sent_row codes ≡ false → column < length
    codes
    → slice_index codes column ≡ space
unsent_row_has_spaces [] column e l = absurd (omega arith)
unsent_row_has_spaces (c ∷ cs) column e l = grind (
  arith,
  nat_tests,
  or_parts,
  unsent_row_has_spaces
      cs,
)

pub row_is_sent_unless_blank : (b : Bool) (codes : List ℕ)
    → length codes ≡ 40
    → (b ≡ true) ↔ (codes ≡ replicate 40 space)
    → not b ≡ is_sent_row codes
row_is_sent_unless_blank true codes long h = sym (ap is_sent_row (h.0 refl))
row_is_sent_unless_blank false codes long h =
    sym (true_from_ne_false (is_sent_row codes) (λ none.
    false≢true (h.1 (ext_get_or 0 codes (replicate 40 space)
    (long ∙ sym (length-replicate 40 space))
    (λ i l. unsent_row_has_spaces codes i none l
    ∙ sym (get_or-replicate 40 i space 0 (omega (arith, long))))))))

module _ (w : PageIdValue) (page : Rows) (ok : IsWatchable w) (shape : IsPage page) where
  sent_rows_show_cell : (row column a n : ℕ) → 1 ≤ a → a + n ≤ 25 → column < 40
      → cell_from_packets w row column (rows_from w.magazine page a n)
      ≡ cond (nat_le a row && nat_lt row (a + n)) (cell page row column) space
  sent_rows_show_cell row column a zero one high in_row = grind (arith, nat_tests)
  sent_rows_show_cell row column a (suc n) one high in_row =
      rest (is_sent_row (row_at page a)) refl
      (sent_rows_show_cell row column (a + 1) n (omega arith) (omega arith) in_row)
    where
      later : List ℕ
      later = filter (λ row. is_sent_row (row_at page row)) (range_with_len (a + 1) n)

      row_packet_has_row_number : is_row row (kind w (row_of w page a)) ≡ (a == row)
      row_packet_has_row_number = ap (is_row row) (row_packet_has_row_kind w page a ok shape one
          (omega arith))

      rest : (b : Bool) → is_sent_row (row_at page a) ≡ b
          → cell_from_packets w row column (map (row_of w page) later)
          ≡ cond (nat_le (a + 1) row && nat_lt row (a + 1 + n)) (cell page row column) space
          → cell_from_packets w row column (map (row_of w page) (cond b (a ∷ later) later))
          ≡ cond (nat_le a row && nat_lt row (a + suc n)) (cell page row column) space
      rest b sent ih = grind (
        arith,
        nat_tests,
        row_packet_is_made_row,
        row_packet_has_row_number,
        row_has_40_columns,
        unsent_row_has_spaces,
      )

  sent_rows_show_page : (row column : ℕ) → IsCell row column
      → cell_from_packets w row column (sent_rows w.magazine page) ≡ cell page row column
  unfolding sent_rows
  sent_rows_show_page row column named =
      grind (arith, nat_tests, sent_rows_show_cell row column 1 24 (lit≤ tt) (lit≤ tt) named.2)

cut_before_end_keeps_rows : {A : Type 0} (kind_of : A → PacketKind) (rows : List A) (c : A) (m : ℕ)
    → AllByRecursion (λ x. ends_page (kind_of x) ≡ false) rows → ends_page (kind_of c) ≡ true
    → before_page_end kind_of (take m (rows ++ c ∷ [])) ≡ take m rows
cut_before_end_keeps_rows kind_of [] c zero go e = refl
cut_before_end_keeps_rows kind_of [] c (suc m) go e = rw e refl
cut_before_end_keeps_rows kind_of (r ∷ rows) c zero go e = refl
cut_before_end_keeps_rows kind_of (r ∷ rows) c (suc m) go e =
    rw go.0 (ap (λ ps. r ∷ ps) (cut_before_end_keeps_rows kind_of rows c m go.1 e))

watched_header_has_serial_mode : (w : PageIdValue) (national : National) (serial : Bool)
    → c11 (watched_header w national serial) ≡ serial
watched_header_has_serial_mode w national serial = grind (arith, nat_tests)

closing_header_has_serial_mode : (serial : Bool) → c11 (closing_header serial) ≡ serial
closing_header_has_serial_mode serial = grind (arith, nat_tests)

module _ (w : PageIdValue) (national : National) (serial : Bool) (page : Rows) (ok : IsWatchable w)
    (shape : IsPage page) where
  abbrev rows : List (List ℕ)
  rows = sent_rows w.magazine page

  abbrev rest : List (List ℕ)
  rest = rows ++ closing_header_packet w serial ∷ []

  property_holds_for_row_kinds : (P : PacketKind → Type 0) → ((row : ℕ) → P (Row row)) → All
      (λ p. P (kind w p)) rows
  property_holds_for_row_kinds P h = grind (
    arith,
    nat_tests,
    All-weaker,
    row_packet_has_row_kind,
    sent_rows_are_of_page w page,
  )

  opens : is_this_page (kind w (watched_header_packet w national serial)) ≡ true
  opens = ap is_this_page (watched_packet_opens_page w national serial ok)

  closes : ends_page (kind w (closing_header_packet w serial)) ≡ true
  closes = ap ends_page (closing_packet_ends_page w serial ok)

  rows_hold_no_header : (m : ℕ) → has_page_header (kind w) (take m rest) ≡ false
  rows_hold_no_header m =
      let P : List ℕ → Type 0 = λ p. is_this_page (kind w p) ≡ false in
      list_any_none (λ p. is_this_page (kind w p)) (take m rest)
      (All-take P m rest
      (All-push P rows (closing_header_packet w serial) (property_holds_for_row_kinds
      (λ k. is_this_page k ≡ false) (λ row. refl))
      (ap is_this_page (closing_packet_ends_page w serial ok))))

  rows_precede_the_end : (m : ℕ) → before_page_end (kind w) (take m rest) ≡ take m rows
  rows_precede_the_end m =
      cut_before_end_keeps_rows (kind w) rows (closing_header_packet w serial) m
      (recursion_from_All (λ p. ends_page (kind w p) ≡ false) rows
      (property_holds_for_row_kinds (λ k. ends_page k ≡ false) (λ row. refl))) closes

  cut_sending_spans_rows : (m : ℕ) → span (kind w) (watched_header_packet w national serial ∷ take m
      rest) ≡ take m rows
  cut_sending_spans_rows m = grind (
    arith,
    nat_tests,
    after-here,
    watched_header_packet,
    rest,
    rows_hold_no_header,
    opens,
    rows_precede_the_end,
  )

  pub sending_holds_header : has_page_header (kind w) (sending w national serial page) ≡ true
  unfolding sending
  sending_holds_header = or_left _ _ opens

  -- If a page transmission is cut after at least one packet, it still has its header of the page.
  pub cut_sending_holds_header : (m : ℕ) (more : List (List ℕ))
      → has_page_header (kind w) (take (suc m) (sending w national serial page ++ more)) ≡ true
  unfolding sending
  cut_sending_holds_header m more = or_left _ _ opens

  last_header_starts_sending : (before : List (List ℕ))
      → after_last_header (kind w) (before ++ sending w national serial page) ≡ rest
  unfolding sending
  last_header_starts_sending before =
      after-append (kind w) before (watched_header_packet w national serial ∷ rest)
      sending_holds_header
      ∙ after-here (kind w) (watched_header_packet w national serial) rest
      (rw (take_all (length rest) rest (omega arith)) at (rows_hold_no_header (length rest))) opens

  -- Whatever was sent before a page transmission, the rows since the last header of the page are
  -- the rows of this transmission.
  pub span_after_sending_is_rows : (before : List (List ℕ))
      → span (kind w) (before ++ sending w national serial page) ≡ rows
  span_after_sending_is_rows before =
      let n : ℕ = length rest in
      let short = length_push rows (closing_header_packet w serial) in
      ap (before_page_end (kind w)) (last_header_starts_sending before)
      ∙ rw (take_all n rest (omega arith), take_all n rows (omega arith)) at
      (rows_precede_the_end n)

  -- Whatever was sent before a page transmission, each cell shown after it is the cell of the
  -- transmitted page.
  pub sending_shows_the_page : (before : List (List ℕ)) (row column : ℕ) → IsCell row column
      → shown w (before ++ sending w national serial page) row column ≡ cell page row column
  sending_shows_the_page before row column named = grind
      (arith, nat_tests, span_after_sending_is_rows, sent_rows_show_page)

  -- Whatever was sent before a page transmission, its closing header ends the page.
  pub sending_ends_the_page : (before : List (List ℕ))
      → has_no_page_end (kind w) (before ++ sending w national serial page) ≡ false
  sending_ends_the_page before = search (
    rules,
    last_header_starts_sending,
    list_any-append,
    closing_header_packet,
    closes,
    or-true,
  )

  pub cut_sending_has_page_rows : (n : ℕ)
      → AreRowsOfOnePage w (span (kind w) (take n (sending w national serial page)))
  unfolding sending
  cut_sending_has_page_rows zero = record {
    page = page;
    shape = shape;
    rows = All-nil
        (IsRowOf w page);
  }
  cut_sending_has_page_rows (suc m) = record {
    page = page;
    shape = shape;
    rows = rw (cut_sending_spans_rows m)
        (All-take (IsRowOf w page) m rows (sent_rows_are_of_page w page));
  }

  property_holds_for_packets : (P : List ℕ → Type 0) → P (watched_header_packet w national serial) →
      P (closing_header_packet w serial)
      → ((row : ℕ) → 1 ≤ row → row ≤ 24 → P (row_of w page row))
      → All P (sending w national serial page)
  unfolding sending
  property_holds_for_packets P first last each =
      All-cons P (watched_header_packet w national serial) (rows ++ closing_header_packet w serial ∷
      []) first
      (All-push P rows (closing_header_packet w serial)
      (All-weaker (IsRowOf w page) P (λ p is. rw is.is (each is.row is.low is.high)) rows
      (sent_rows_are_of_page w page)) last)

  pub sending_has_sent_packets : All (IsSentPacket w national serial) (sending w national serial
      page)
  sending_has_sent_packets = property_holds_for_packets (IsSentPacket w national serial) first last
      each
    where
      first : IsSentPacket w national serial (watched_header_packet w national serial)
      first =
          let made = watched_packet_is_made_header w national serial ok in
          grind (
            arith,
            nat_tests,
            header_makes_packet,
            same_Some,
            watched_header_has_serial_mode,
            watched_packet_opens_page,
          )

      last : IsSentPacket w national serial (closing_header_packet w serial)
      last =
          let made = closing_packet_is_made_header w serial ok in
          grind (
            arith,
            nat_tests,
            header_makes_packet,
            same_Some,
            closing_header_has_serial_mode,
            closing_packet_ends_page,
          )

      each : (row : ℕ) → 1 ≤ row → row ≤ 24 → IsSentPacket w national serial (row_of w page row)
      each row one high =
          let made = row_packet_is_made_row w page row ok shape one high in
          grind (
            arith,
            nat_tests,
            row_codes_make_packet,
            row_codes,
            none-some,
            row_packet_has_row_kind,
          )

-- If page transmissions are cut anywhere, the packets since the last header of the page are rows of
-- one page. The proof is by induction over the page transmissions: the last one that has a header
-- decides.
pub law_of_cut_sendings : LawOfCutSendings
law_of_cut_sendings w national serial due [] n ok shape =
    rw (take_all {A = List ℕ} n [] (omega arith))
    (record { page = due 0; shape = shape 0; rows = All-nil (IsRowOf w (due 0)) })
law_of_cut_sendings w national serial due (f ∷ []) n ok shape = search
    (rules, append-nil, cut_sending_has_page_rows)
law_of_cut_sendings w national serial due (f ∷ g ∷ fs) n ok shape =
    let one : List (List ℕ) = sending w national serial (due f) in
    let rest : List (List ℕ) = flat_map (λ k. sending w national serial (due k)) (g ∷ fs) in
    elim (cases_lt (length one) n) [
      | inl past ↦
          let m : ℕ = n - length one - 1 in
          let e : length one + suc m ≡ n = omega arith in
          let holds : has_page_header (kind w) (take (suc m) rest) ≡ true =
          grind (arith, nat_tests, cut_sending_holds_header) in
          rw (← e, take-append-add one rest (suc m))
          (rw (after-append (kind w) one (take (suc m) rest) holds)
          (law_of_cut_sendings w national serial due (g ∷ fs) (suc m) ok shape))
      | inr within ↦ grind (arith, nat_tests, take-append-le, rest, cut_sending_has_page_rows)
    ]

pub law_of_sending : LawOfSending
law_of_sending w national serial page before row column ok shape named = search
    (rules, sending_shows_the_page)
