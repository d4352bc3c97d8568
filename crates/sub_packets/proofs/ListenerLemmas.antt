-- If the listener's state agrees with the packets received so far, it still agrees with them after
-- one more packet of any kind.
use Rattle.std.proofs.Common.{◌≡◌, ℕ, ◌-◌, ◌≤◌, Bool, true, false, not, ◌&&◌, ◌||◌, List, [], ◌∷◌}
use Rattle.std.proofs.Common.{◌++◌, Option, Some, None, option_map, length, get_or, set}
use Rattle.std.proofs.Common.{replicate, refl, sym, ap, arith, get_or-set_other}
use Rattle.std.proofs.lemmas.Bool.Decides.{nat_tests}
use Rattle.std.proofs.lemmas.Grind.{get_or-set_at}
use Rattle.std.specs.Option.{option_or}
use Rattle.std.proofs.lemmas.List.{get_or-replicate}
use Rattle.ttx_packet.specs.PageHeader.{header, c4, c11}
use Rattle.ttx_packet.specs.declared.header.Header.{Header}
use Rattle.ttx_page.specs.declared.packet_kind.PacketKind.TheVariants.{Row, ThisPage}
use Rattle.ttx_page.specs.PacketKind.{kind, is_this_page, ends_page, is_row}
use Rattle.ttx_page.specs.Page.{blank_row, blank, space}
use Rattle.ttx_page.specs.Span.{is_open_after}
use Rattle.ttx_page.proofs.SpanPushLemmas.{open-this, open-other}
use Rattle.sub_rules.proofs.PacketLists.{first_header-push}
use Rattle.sub_packets.specs.Listener.{Knows}
use Rattle.sub_rules.specs.PacketRules.{codes_of, first_header}
use Rattle.sub_rules.specs.Kept.{has_row, last_header}
use Rattle.sub_packets.proofs.KeptLemmas.{first_packet_of_row-push, has_row-push, last_header-push}
use Rattle.sub_packets.specs.declared.listener.Listener.{Listener}

abbrev c11_of : Option Header → Option Bool
c11_of o = option_map (λ (h : Header). c11 h) o

c11-or : (a b : Option Header) → c11_of (option_or a b) ≡ option_or (c11_of a) (c11_of b)
c11-or a b = grind (arith, nat_tests)

pub state_of_no_packets :
    (s : Listener)
    → s.serial ≡ None
    → s.is_open ≡ false
    → s.subcode ≡ None
    → s.sent ≡ replicate 24 false
    → s.again ≡ replicate 24 false
    → s.comparison.page ≡ blank
    → Knows [] s
unfolding blank blank_row
state_of_no_packets s serial opened subcode sent again page = grind
    (arith, nat_tests, get_or-replicate)

module _ (heard : List (List ℕ)) (p : List ℕ) (s : Listener) (read : Option Header)
    (serial : Option Bool) (known : Knows heard s) (is_read : read ≡ header p)
    (serial_eq : serial ≡ option_or s.serial (c11_of read)) where
  first_serial_mode_is_updated : serial ≡ c11_of (first_header (heard ++ p ∷ []))
  first_serial_mode_is_updated = grind (arith, c11-or, first_header-push, known.serial_eq)

  header_sets_subcode : (h : Header) → kind s.watched.page p ≡ ThisPage h
      → Some h.subcode
      ≡ option_map (λ (x : Header). x.subcode) (last_header s.watched.page (heard ++ p ∷ []))
  header_sets_subcode h is = rw (last_header-push s.watched.page heard p, is) refl

  header_leaves_no_row_repeated : (h : Header) → kind s.watched.page p ≡ ThisPage h
      → (row : ℕ) → 1 ≤ row → row ≤ 24
      → get_or (replicate 24 false) (row - 1) false ≡ has_row s.watched.page (heard ++ p ∷ []) row
  header_leaves_no_row_repeated h is row low high =
      rw (has_row-push s.watched.page heard p row, is)
      (get_or-replicate 24 (row - 1) false false (omega arith))

  -- After a header that erases the page, the listener's state agrees with the packets received if
  -- the listener stores the C11 of the first page header and the header's subcode, opens and blanks
  -- the page, and empties its sets of received rows.
  pub erasing_header_keeps_knowledge : (h : Header) → kind s.watched.page p ≡ ThisPage h
      → (c4 h || not s.watched.keeps) ≡ true
      → Knows (heard ++ p ∷ []) (record s {
        serial = serial;
        is_open = true;
        subcode = Some h.subcode;
        sent = replicate 24 false;
        again = replicate 24 false;
        comparison = record s.comparison { page = blank };
      })
  unfolding blank blank_row
  erasing_header_keeps_knowledge h is begins = record {
    serial_eq = first_serial_mode_is_updated;
    open_eq = sym (open-this (kind s.watched.page) heard p (ap is_this_page is));
    subcode_eq = header_sets_subcode h is;
    sent_eq = λ row low high.
        rw (first_packet_of_row-push s.watched.keeps s.watched.page heard p row, is, begins)
        (get_or-replicate 24 (row - 1) false false (omega arith));
    page_is = λ row low high.
        rw (first_packet_of_row-push s.watched.keeps s.watched.page heard p row, is, begins)
        (get_or-replicate 24 (row - 1) (replicate 40 space) [] (omega arith));
    again_is = header_leaves_no_row_repeated h is;
  }

  -- If repeats may have C4 (erase page) clear, the listener's state agrees with the packets
  -- received after a header with C4 clear if the listener stores the C11 of the first page header
  -- and the header's subcode, opens the page, keeps its rows, and empties the set of rows received
  -- since the last header.
  pub repeating_header_keeps_knowledge : (h : Header) → kind s.watched.page p ≡ ThisPage h
      → (c4 h || not s.watched.keeps) ≡ false
      → Knows (heard ++ p ∷ []) (record s {
        serial = serial;
        is_open = true;
        subcode = Some h.subcode;
        again = replicate 24 false;
      })
  repeating_header_keeps_knowledge h is keeps =
      grind (
        arith,
        nat_tests,
        first_serial_mode_is_updated,
        open-this,
        header_sets_subcode,
        first_packet_of_row-push,
        header_leaves_no_row_repeated,
      )

  module _ (other : is_this_page (kind s.watched.page p) ≡ false) where
    other_packet_keeps_subcode : s.subcode
        ≡ option_map (λ (x : Header). x.subcode) (last_header s.watched.page (heard ++ p ∷ []))
    other_packet_keeps_subcode =
        let before = known.subcode_eq in
        let more = last_header-push s.watched.page heard p in
        grind (arith, nat_tests)

    -- After a packet that is neither a header of the page nor a row of the open page, the
    -- listener's state agrees with the packets received if the listener stores the C11 of the first
    -- page header, changes no row, and closes the page exactly if the packet ends the page.
    pub other_packet_keeps_knowledge : (opened : Bool)
        → opened ≡ (s.is_open && not (ends_page (kind s.watched.page p)))
        → ((row : ℕ) → 1 ≤ row → row ≤ 24 → s.is_open ≡ true
        → is_row row (kind s.watched.page p) ≡ false)
        → Knows (heard ++ p ∷ []) (record s { serial = serial; is_open = opened })
    other_packet_keeps_knowledge opened e none = record {
      serial_eq = first_serial_mode_is_updated;
      open_eq = grind (arith, nat_tests, open-other, known.open_eq);
      subcode_eq = other_packet_keeps_subcode;
      sent_eq = λ row low high.
          let before = known.sent_eq row low high in
          let more = first_packet_of_row-push s.watched.keeps s.watched.page heard p row in
          let no_row = none row low high in
          let open_eq = known.open_eq in
          grind (arith, nat_tests);
      page_is = λ row low high.
          let before = known.page_is row low high in
          let more = first_packet_of_row-push s.watched.keeps s.watched.page heard p row in
          let no_row = none row low high in
          let open_eq = known.open_eq in
          grind (arith, nat_tests);
      again_is = λ row low high.
          let before = known.again_is row low high in
          let more = has_row-push s.watched.page heard p row in
          let no_row = none row low high in
          let open_eq = known.open_eq in
          grind (arith, nat_tests);
    }

    module _ (y : ℕ) (low : 1 ≤ y) (high : y ≤ 24) (k : kind s.watched.page p ≡ Row y)
        (opened : s.is_open ≡ true) (width : length s.again ≡ 24) where
      row_keeps_page_open : s.is_open ≡ is_open_after (kind s.watched.page) (heard ++ p ∷ [])
      row_keeps_page_open = grind (arith, nat_tests, open-other, known.open_eq)

      row_is_marked_repeated : (row : ℕ) → 1 ≤ row → row ≤ 24
          → get_or (set s.again (y - 1) true) (row - 1) false
          ≡ has_row s.watched.page (heard ++ p ∷ []) row
      row_is_marked_repeated row a b =
          let more = has_row-push s.watched.page heard p row in
          let before = known.again_is row a b in
          grind (arith, nat_tests, known.open_eq, get_or-set_at, get_or-set_other)

      pub repeated_row_keeps_knowledge : get_or s.sent (y - 1) false ≡ true
          → Knows (heard ++ p ∷ []) (record s {
            serial = serial;
            again = set s.again (y - 1) true;
          })
      repeated_row_keeps_knowledge old = record {
        serial_eq = first_serial_mode_is_updated;
        open_eq = row_keeps_page_open;
        subcode_eq = other_packet_keeps_subcode;
        sent_eq = λ row a b.
            let more = first_packet_of_row-push s.watched.keeps s.watched.page heard p row in
            let before = known.sent_eq row a b in
            grind (arith, nat_tests, known.open_eq);
        page_is = λ row a b.
            let more = first_packet_of_row-push s.watched.keeps s.watched.page heard p row in
            let marks = known.sent_eq row a b in
            let before = known.page_is row a b in
            grind (arith, nat_tests, known.open_eq);
        again_is = row_is_marked_repeated;
      }

      pub new_row_keeps_knowledge : get_or s.sent (y - 1) false ≡ false
          → length s.sent ≡ 24 → length s.comparison.page ≡ 24
          → Knows (heard ++ p ∷ []) (record s {
            serial = serial;
            sent = set s.sent (y - 1) true;
            again = set s.again (y - 1) true;
            comparison = record s.comparison {
              page = set s.comparison.page (y - 1) (codes_of p);
            };
          })
      new_row_keeps_knowledge new long page_has_24_rows = record {
        serial_eq = first_serial_mode_is_updated;
        open_eq = row_keeps_page_open;
        subcode_eq = other_packet_keeps_subcode;
        sent_eq = λ row a b.
            let more = first_packet_of_row-push s.watched.keeps s.watched.page heard p row in
            let before = known.sent_eq row a b in
            grind (arith, nat_tests, known.open_eq, get_or-set_at, get_or-set_other);
        page_is = λ row a b.
            let more = first_packet_of_row-push s.watched.keeps s.watched.page heard p row in
            let marks = known.sent_eq row a b in
            let before = known.page_is row a b in
            grind (arith, nat_tests, known.open_eq, get_or-set_at, get_or-set_other);
        again_is = row_is_marked_repeated;
      }
