-- After packets that were lost or received with wrong bits, a cell of a receiver has the sent code,
-- is a space, or keeps its code.
use Rattle.std.proofs.Common.{◌≡◌, ℕ, ◌<◌, ◌⊎◌, inl, inr, true, false, not, ◌&&◌, ◌||◌, List}
use Rattle.std.proofs.Common.{[], ◌∷◌, ◌++◌, zip, Option, Some, None, Bool, is_some, Contains, refl}
use Rattle.std.proofs.Common.{IsFalse, ap, arith, cond, subst, sym, ◌∙◌}
use Rattle.std.specs.List.{list_any, AllByRecursion, AllZip, items_where_true}
use Rattle.std.proofs.lemmas.Bool.{cases_Bool}
use Rattle.std.proofs.lemmas.Bool.Decides.{nat_tests}
use Rattle.std.proofs.lemmas.List.{append-nil, append_assoc, get_or-replicate}
use Rattle.std.proofs.lemmas.List.Elements.{Contains-append_left, Contains-push}
use Rattle.std.proofs.lemmas.List.Folds.{list_any-append}
use Rattle.ttx_packet.specs.OneBit.{AreNear}
use Rattle.ttx_packet.specs.Parity.{character_code, is_odd}
use Rattle.ttx_packet.specs.PageHeader.{HasExactCodeWords}
use Rattle.ttx_packet.specs.PageId.{PageIdValue}
use Rattle.ttx_packet.specs.RowPacket.{HasOddParityText, first_even_parity_column, text_byte}
use Rattle.ttx_packet.proofs.OneBitLemmas.{first_below_satisfies_test}
use Rattle.ttx_packet.proofs.ParityLemmas.{single_error_breaks_parity}
use Rattle.ttx_packet.proofs.NearPacketLemmas.{address-near, header-near}
use Rattle.ttx_packet.proofs.NearPacketLemmas.{near_packets_have_near_bytes}
use Rattle.ttx_page.specs.Page.{space, blank, blank_row, cell, IsCell}
use Rattle.ttx_page.specs.declared.packet_kind.PacketKind.{PacketKind}
use Rattle.ttx_page.specs.declared.packet_kind.PacketKind.TheVariants.{Row}
use Rattle.ttx_page.specs.PacketKind.{begins_text, kind, is_this_page, ends_page, is_row}
use Rattle.ttx_page.specs.DroppedRows.{ExcusedBy}
use Rattle.ttx_page.specs.Receiver.{ReceiverClass, State, is_row_with_even_parity}
use Rattle.ttx_page.specs.Receiver.ReceiverClass.{Dropping, Storing}
use Rattle.ttx_page.specs.Noise.{ErasesPageIfHeader}
use Rattle.ttx_page.specs.LostRows.{LosesOrCorruptsByte, MayBeLost, LosesNoHeader}
use Rattle.ttx_page.specs.LostRows.{arrivals_from_flags}
use Rattle.ttx_page.specs.Repeats.{RestartsAtHeader, StepAtRepeat, HearsRepeats, StepWithRepeats}
use Rattle.ttx_page.specs.Span.{has_text_beginning, has_page_header, is_open_after, span, text_span}
use Rattle.ttx_page.proofs.SpanPushLemmas.{holds-push, span-push, open-this, open-other}
use Rattle.ttx_page.proofs.TextSpan.{text_begins_at_header, beginning_is_header, beginning-push}
use Rattle.ttx_page.proofs.TextSpan.{text_span-push}

pub is_row_implies_row : (row : ℕ) (k : PacketKind) → is_row row k ≡ true → k ≡ Row row
is_row_implies_row row k passes = grind (arith, nat_tests)

abbrev pub Item : Type 0
Item = List ℕ × Option (List ℕ)

abbrev pub kind_of_item : PageIdValue → Item → PacketKind
kind_of_item w item = kind w item.0

-- A packet that is not a page header, and so may be lost, neither opens nor ends the page.
pub lost_packet_is_no_header : (w : PageIdValue) (packet : List ℕ)
    → MayBeLost packet
    → (is_this_page (kind w packet) ≡ false) × (ends_page (kind w packet) ≡ false)
unfolding kind
lost_packet_is_no_header w packet may = grind (arith, nat_tests)

-- At most one wrong bit in each byte does not change the kind of a packet whose address and header
-- are code words.
pub kind-near : (w : PageIdValue) (sent got : List ℕ)
    → HasExactCodeWords sent
    → AreNear sent got
    → kind w got ≡ kind w sent
unfolding kind
kind-near w sent got exact near = grind (arith, nat_tests, address-near, header-near)

hit_excuses_space : (class : ReceiverClass) (P : ℕ → ℕ → Type 0) (row column : ℕ)
    → column < 40
    → P row column
    → ExcusedBy class P row column
hit_excuses_space class P row column below here = grind (arith, nat_tests)

pub excuse_is_monotone : (class : ReceiverClass) (P Q : ℕ → ℕ → Type 0) (row column : ℕ)
    → ((other : ℕ) → P row other → Q row other)
    → ExcusedBy class P row column
    → ExcusedBy class Q row column
excuse_is_monotone Storing P Q row column gives excused = gives column excused
excuse_is_monotone Dropping P Q row column gives excused = grind (arith, nat_tests)

abbrev pub LosesByteAt : List ℕ → Option (List ℕ) → ℕ → ℕ → Type 0
LosesByteAt sent arrival row column = LosesOrCorruptsByte sent arrival column

even_parity_byte_exists : (packet : List ℕ)
    → is_some (first_even_parity_column packet) ≡ true
    → (column : ℕ) × (column < 40) × (is_odd (text_byte packet column) ≡ false)
unfolding first_even_parity_column
even_parity_byte_exists packet some = go (first_even_parity_column packet) refl some
  where
    go : (o : Option ℕ)
        → first_even_parity_column packet ≡ o
        → is_some o ≡ true
        → (column : ℕ) × (column < 40) × (is_odd (text_byte packet column) ≡ false)
    go None e h = grind arith
    go (Some column) e h =
        let found = first_below_satisfies_test 40 (λ column. not (is_odd (text_byte packet column)))
        column e in
        (column, found.0, grind (arith, nat_tests))

-- If a row is sent with odd parity and a receiver drops it, one of its bytes had a wrong bit.
dropped_row_has_byte_error : (w : PageIdValue) (sent got : List ℕ) (row column : ℕ)
    → HasOddParityText sent
    → is_row_with_even_parity w got ≡ true
    → ExcusedBy Dropping (LosesByteAt sent (Some got)) row column
dropped_row_has_byte_error w sent got row column odd drop = grind
    (arith, nat_tests, even_parity_byte_exists)

-- A cell takes the sent code; or it keeps its code or becomes a space, if the packet is lost or its
-- byte for the cell is wrong (in receivers that drop rows: any of its bytes).
abbrev StoresCode :
    ReceiverClass → ℕ → ℕ → List ℕ → Option (List ℕ) → State → State → Type 0
StoresCode class row column sent arrival old new =
    (cell new.page row column ≡ character_code (text_byte sent column))
    ⊎ (ExcusedBy class (LosesByteAt sent arrival) row column
    × ((cell new.page row column ≡ cell old.page row column)
    ⊎ (cell new.page row column ≡ space)))

-- A received or lost packet changes the receiver and one cell of its page as the fields of this
-- record state.
record CellAfterItem
    (keeps anew : Bool) (class : ReceiverClass) (w : PageIdValue) (row column : ℕ) (sent : List ℕ)
    (arrival : Option (List ℕ)) (old new : State)
    : Type 0 where
  heard : new.heard ≡ (is_this_page (kind w sent) || old.heard)
  is_open : new.is_open
      ≡ (is_this_page (kind w sent) || (old.is_open && not (ends_page (kind w sent))))
  -- A header that starts a new text blanks the cell. If the receiver starts from a blank page at
  -- each header, each header of the page blanks the cell.
  text_start_erases_cell : (begins_text keeps (kind w sent) || (anew && is_this_page (kind w sent)))
      ≡ true
      → cell new.page row column ≡ space
  -- At a header of the page, the cell keeps its code or becomes a space.
  repeated : is_this_page (kind w sent) ≡ true
      → (cell new.page row column ≡ cell old.page row column)
      ⊎ (cell new.page row column ≡ space)
  -- The cell changes only at headers of the page, and at packets of its row while the page is open.
  stays : is_this_page (kind w sent) ≡ false
      → (old.is_open && is_row row (kind w sent)) ≡ false
      → cell new.page row column ≡ cell old.page row column
  -- After a packet of the cell's row, sent with odd parity while the page is open, the cell has the
  -- sent code. If the packet is lost or its byte for the cell is wrong (in receivers that drop
  -- rows: any of its bytes), the cell may also keep its code or become a space.
  row_stores_code : kind w sent ≡ Row row
      → old.is_open ≡ true
      → HasOddParityText sent
      → StoresCode class row column sent arrival old new

pub cell-blank : (row column : ℕ) → IsCell row column → cell blank row column ≡ space
unfolding blank blank_row
cell-blank row column named =
    grind (arith, nat_tests, get_or-replicate, get_or-replicate 40 column space 0 named.2)

step_updates_cell : (keeps anew : Bool) (w : PageIdValue) (row column : ℕ) (sent got : List ℕ)
    (old new : State)
    → IsCell row column
    → HasExactCodeWords sent
    → (IsFalse keeps → ErasesPageIfHeader w sent)
    → AreNear sent got
    → StepAtRepeat (kind w got) got old new
    → RestartsAtHeader anew w got new
    → CellAfterItem keeps anew Storing w row column sent (Some got) old new
step_updates_cell keeps anew w row column sent got old new named exact erases near step
    restarts_at_header =
    let blanks = cell-blank row column named in
    grind (arith, nat_tests, kind-near, near_packets_have_near_bytes, single_error_breaks_parity)

lost_item_keeps_cell : (keeps anew : Bool) (class : ReceiverClass) (w : PageIdValue)
    (row column : ℕ)
    (sent : List ℕ) (old : State)
    → IsCell row column
    → MayBeLost sent
    → CellAfterItem keeps anew class w row column sent None old old
lost_item_keeps_cell keeps anew class w row column sent old named may =
    let lost = lost_packet_is_no_header w sent may in
    let header = text_begins_at_header keeps (kind w sent) in
    grind (arith, nat_tests, hit_excuses_space)

received_item_updates_cell : (keeps anew : Bool) (class : ReceiverClass) (w : PageIdValue)
    (row column : ℕ)
    (sent got : List ℕ) (old new : State)
    → IsCell row column
    → HasExactCodeWords sent
    → (IsFalse keeps → ErasesPageIfHeader w sent)
    → AreNear sent got
    → StepWithRepeats class anew w old got new
    → CellAfterItem keeps anew class w row column sent (Some got) old new
received_item_updates_cell keeps anew Storing w row column sent got old new named exact erases near
    goes =
    step_updates_cell keeps anew w row column sent got old new named exact erases near goes.0 goes.1
received_item_updates_cell keeps anew Dropping w row column sent got old new named exact erases near
    goes =
    elim (cases_Bool (is_row_with_even_parity w got)) [
      | inl drop ↦
          let stays = rw drop at goes in
          let same = kind-near w sent got exact near in
          let header = text_begins_at_header keeps (kind w sent) in
          let excused : HasOddParityText sent → ExcusedBy Dropping (LosesByteAt sent (Some got)) row
          column =
          λ odd. dropped_row_has_byte_error w sent got row column odd drop in
          grind (arith, nat_tests)
      | inr hear ↦
          let step = rw hear at goes in
          let at =
          step_updates_cell keeps anew w row column sent got old new named exact erases near step.0
          step.1 in
          record {
            heard = at.heard;
            is_open = at.is_open;
            text_start_erases_cell = at.text_start_erases_cell;
            repeated = at.repeated;
            stays = at.stays;
            row_stores_code = grind (arith, nat_tests, hit_excuses_space);
          }
    ]

pub conjunction_left : (x y : Bool) → (x && y) ≡ true → x ≡ true
conjunction_left x y e = grind (arith, nat_tests)

pub conjunction_right : (x y : Bool) → (x && y) ≡ true → y ≡ true
conjunction_right x y e = grind (arith, nat_tests)

-- The lemmas of this module are about one cell of the page: its expected code, and the condition
-- under which it may be a space instead.
module _ (keeps anew : Bool) (class : ReceiverClass) (w : PageIdValue) (row column code : ℕ)
    (Excuse : Type 0) where
  -- Each packet of the cell's row, in the transmissions of the current text, has odd parity and the
  -- expected code for the cell.
  abbrev pub AreTargets : List Item → Type 0
  AreTargets items =
      (item : Item)
      → Contains (text_span keeps (kind_of_item w) items) item
      → kind w item.0 ≡ Row row
      → HasOddParityText item.0 × (character_code (text_byte item.0 column) ≡ code)

  -- The cell may be a space if a packet of its row, in the last transmission of the page, is lost
  -- or has a wrong byte for the cell (in receivers that drop rows: any wrong byte).
  abbrev pub ExplainLostCells : List Item → Type 0
  ExplainLostCells items =
      (item : Item)
      → Contains (span (kind_of_item w) items) item
      → kind w item.0 ≡ Row row
      → ExcusedBy class (LosesByteAt item.0 item.1) row column
      → Excuse

  abbrev pub StartedBlank : State → Type 0
  StartedBlank start = (start.is_open ≡ false) × (cell start.page row column ≡ space)

  -- The cell does not depend on its earlier code: the receiver starts from a blank page at each
  -- header, or a new text has started, or the cell was a space and the page was not open.
  abbrev pub IsFreshCell : State → List Item → Type 0
  IsFreshCell start items =
      (anew ≡ true)
      ⊎ ((has_text_beginning keeps (kind_of_item w) items ≡ true) ⊎ StartedBlank start)

  -- After packets were received or lost, the receiver and one cell of its page are in the state
  -- that the fields of this record describe.
  pub record StateAfterItems (start : State) (items : List Item) (now : State) : Type 0 where
    pub heard : now.heard ≡ (has_page_header (kind_of_item w) items || start.heard)
    pub is_open : (has_page_header (kind_of_item w) items || not start.is_open) ≡ true
        → now.is_open ≡ is_open_after (kind_of_item w) items
    -- If the page is not open and the cell is a space, both remain true until a header of the page
    -- arrives.
    pub waits : has_page_header (kind_of_item w) items ≡ false → StartedBlank start → StartedBlank
        now
    -- If a header of the page came, the cell does not depend on its earlier code, and each packet
    -- of its row in the current text has odd parity and the expected code for the cell, the cell
    -- has this code or is a space.
    pub code_or_space : has_page_header (kind_of_item w) items ≡ true
        → IsFreshCell start items
        → AreTargets items
        → (cell now.page row column ≡ code) ⊎ (cell now.page row column ≡ space)
    -- If in addition the cell may be a space whenever noise or loss hit it in the last transmission
    -- of the page, the cell has the expected code, or may be a space, or the last transmission has
    -- no packet of its row.
    pub cell_eq : has_page_header (kind_of_item w) items ≡ true
        → IsFreshCell start items
        → AreTargets items
        → ExplainLostCells items
        → (cell now.page row column ≡ code)
        ⊎ (Excuse
        ⊎ (list_any (λ (item : Item). is_row row (kind w item.0)) (span (kind_of_item w) items)
        ≡ false))

  module _ (start : State) (items : List Item) (sent : List ℕ) (arrival : Option (List ℕ))
      (old new : State) (at : CellAfterItem keeps anew class w row column sent arrival old new)
      (was : StateAfterItems start items old) where
    abbrev item : Item
    item = (sent, arrival)

    abbrev K : Item → PacketKind
    K = kind_of_item w

    abbrev old_span : List Item
    old_span = span K items

    abbrev old_text : List Item
    old_text = text_span keeps K items

    earlier_packets_are_targets : begins_text keeps (kind w sent) ≡ false
        → AreTargets (items ++ item ∷ [])
        → AreTargets items
    earlier_packets_are_targets no_begin targets x within =
        let text_span_after_packet = text_span-push K keeps items item in
        let more = Contains-append_left old_text (item ∷ []) x within in
        targets x (grind (arith, nat_tests))

    earlier_items_give_excuses : is_this_page (kind w sent) ≡ false
        → ExplainLostCells (items ++ item ∷ [])
        → ExplainLostCells items
    earlier_items_give_excuses packet gives x within =
        let text_span_after_packet = span-push K items item in
        let more = Contains-append_left old_span (item ∷ []) x within in
        gives x (grind (arith, nat_tests))

    row_is_in_text_span : kind w sent ≡ Row row
        → is_open_after K items ≡ true
        → Contains (text_span keeps K (items ++ item ∷ [])) item
        × Contains (span K (items ++ item ∷ [])) item
    row_is_in_text_span is up =
        let in_text = text_span-push K keeps items item in
        let in_span = span-push K items item in
        let last_text = Contains-push old_text item in
        let last_span = Contains-push old_span item in
        let k : K item ≡ Row row = is in
        (rw (in_text, k, up) last_text, rw (in_span, k, up) last_span)

    cell_was_fresh_before : begins_text keeps (kind w sent) ≡ false
        → IsFreshCell start (items ++ item ∷ [])
        → IsFreshCell start items
    cell_was_fresh_before no_begin fresh = let more = beginning-push K keeps items item in
        grind (arith, nat_tests)

    header_gives_code_or_space : is_this_page (kind w sent) ≡ true
        → IsFreshCell start (items ++ item ∷ [])
        → AreTargets (items ++ item ∷ [])
        → (cell new.page row column ≡ code) ⊎ (cell new.page row column ≡ space)
    header_gives_code_or_space header fresh targets =
        elim
        (cases_Bool (begins_text keeps (kind w sent) || (anew && is_this_page (kind w sent)))) [
          | inl text_start_erases_cell ↦ inr (at.text_start_erases_cell text_start_erases_cell)
          | inr keeping ↦
              let no_begin : begins_text keeps (kind w sent) ≡ false = grind (arith, nat_tests) in
              let none : anew ≡ false = grind (arith, nat_tests) in
              let before = cell_was_fresh_before no_begin fresh in
              let old_targets = earlier_packets_are_targets no_begin targets in
              let beginning = beginning_is_header K keeps items in
              let stays = at.repeated header in
              elim (cases_Bool (has_page_header K items)) [
                | inl some ↦
                    let coarse = was.code_or_space some before old_targets in
                    grind (arith, nat_tests)
                | inr first ↦
                    let waits = was.waits first in
                    grind (arith, nat_tests)
              ]
        ]

    packet_gives_code_or_space : is_this_page (kind w sent) ≡ false
        → has_page_header K items ≡ true
        → IsFreshCell start (items ++ item ∷ [])
        → AreTargets (items ++ item ∷ [])
        → (cell new.page row column ≡ code) ⊎ (cell new.page row column ≡ space)
    packet_gives_code_or_space packet holds fresh targets =
        let header = text_begins_at_header keeps (kind w sent) in
        let no_begin : begins_text keeps (kind w sent) ≡ false = grind (arith, nat_tests) in
        let coarse =
        was.code_or_space holds (cell_was_fresh_before no_begin fresh) (earlier_packets_are_targets
        no_begin targets) in
        let up = was.is_open in
        let in_both = row_is_in_text_span in
        let target = targets item in
        let row_is = is_row_implies_row row (kind w sent) in
        grind (arith, nat_tests)

    abbrev row_test : Item → Bool
    row_test x = is_row row (kind w x.0)

    row_search_stays_empty : (is_open_after K items && is_row row (kind w sent)) ≡ false
        → list_any row_test old_span ≡ false
        → list_any row_test (span K (items ++ item ∷ [])) ≡ false
    row_search_stays_empty skipped none =
        subst (λ (xs : List Item). list_any row_test xs ≡ false) (sym (span-push K items item))
        (go (is_this_page (K item)) (is_open_after K items) (ends_page (K item)) refl)
      where
        go :
            (t o e : Bool)
            → is_open_after K items ≡ o
            → list_any row_test (cond t [] (cond (o && not e) (old_span ++ item ∷ []) old_span))
            ≡ false
        go true o e q = refl
        go false true true q = none
        go false false e q = none
        go false true false q =
            let other : row_test item ≡ false = rw q at skipped in
            list_any-append row_test old_span (item ∷ []) ∙ rw (none, other) refl

    packet_excuses_space : is_this_page (kind w sent) ≡ false
        → has_page_header K items ≡ true
        → IsFreshCell start (items ++ item ∷ [])
        → AreTargets (items ++ item ∷ [])
        → ExplainLostCells (items ++ item ∷ [])
        → (cell new.page row column ≡ code)
        ⊎ (Excuse
        ⊎ (list_any (λ (x : Item). is_row row (kind w x.0)) (span K (items ++ item ∷ [])) ≡ false))
    packet_excuses_space packet holds fresh targets gives =
        let header = text_begins_at_header keeps (kind w sent) in
        let no_begin : begins_text keeps (kind w sent) ≡ false = grind (arith, nat_tests) in
        let up : old.is_open ≡ is_open_after K items = was.is_open (rw holds refl) in
        elim (cases_Bool (is_open_after K items && is_row row (kind w sent))) [
          | inl stored ↦
              let opened : is_open_after K items ≡ true = conjunction_left _ _ stored in
              let is : kind w sent ≡ Row row = is_row_implies_row row
              _ (conjunction_right _ _ stored) in
              let within = row_is_in_text_span is opened in
              let target = targets item within.0 is in
              elim (at.row_stores_code is (up ∙ opened) target.0) [
                | inl taken ↦ inl (taken ∙ target.1)
                | inr lost ↦ inr (inl (gives item within.1 is lost.0))
              ]
          | inr skipped ↦
              let same = at.stays packet (ap (λ b. b && is_row row (kind w sent)) up ∙ skipped) in
              elim (was.cell_eq holds (cell_was_fresh_before no_begin fresh)
              (earlier_packets_are_targets no_begin targets) (earlier_items_give_excuses packet
              gives)) [
                | inl coded ↦ inl (same ∙ coded)
                | inr (inl excuse) ↦ inr (inl excuse)
                | inr (inr none) ↦ inr (inr (row_search_stays_empty skipped none))
              ]
        ]

    StateAfterItems-push : StateAfterItems start (items ++ item ∷ []) new
    StateAfterItems-push =
        let held_header = holds-push K items item in
        let this = open-this K items item in
        let other = open-other K items item in
        let text_packets = span-push K items item in
        record {
          heard = let h = at.heard in let before = was.heard in grind (arith, nat_tests);
          is_open =
              let o = at.is_open in let before = was.is_open in grind (arith, nat_tests);
          waits =
              let o = at.is_open in
              let before = was.waits in
              let stays = at.stays in
              grind (arith, nat_tests);
          code_or_space = λ holds fresh targets. elim (cases_Bool (is_this_page (kind w sent))) [
            | inl header ↦ header_gives_code_or_space header fresh targets
            | inr packet ↦
                packet_gives_code_or_space packet (grind (arith, nat_tests)) fresh targets
          ];
          cell_eq = λ holds fresh targets gives. elim (cases_Bool (is_this_page (kind w sent))) [
            | inl header ↦
                let k : is_this_page (K item) ≡ true = header in
                inr (inr (rw (text_packets, k) refl))
            | inr packet ↦
                packet_excuses_space packet (grind (arith, nat_tests)) fresh targets gives
          ];
        }

  pub starts : (start : State) → StateAfterItems start [] start
  starts start = record {
    heard = refl;
    is_open = grind (arith, nat_tests);
    waits = λ none was. was;
    code_or_space = λ holds. grind arith;
    cell_eq = λ holds. grind arith;
  }

  -- If `StateAfterItems` is true before further well-formed packets, it is also true after them,
  -- provided that no page header is lost and the received packets have at most one wrong bit in
  -- each byte.
  pub over : (start : State) (items : List Item) (sent : List (List ℕ)) (arrived : List Bool)
      (got : List (List ℕ)) (old new : State)
      → IsCell row column
      → AllByRecursion HasExactCodeWords sent
      → AllByRecursion (λ packet. IsFalse keeps → ErasesPageIfHeader w packet) sent
      → AllZip LosesNoHeader sent arrived
      → AllZip AreNear (items_where_true arrived sent) got
      → HearsRepeats class anew w old got new
      → StateAfterItems start items old
      → StateAfterItems start (items ++ zip sent (arrivals_from_flags arrived got)) new
  over start items [] [] [] old new named exact erases may near hears was =
      rw (append-nil, hears) was
  over start items [] [] (g ∷ gs) old new named exact erases may near hears was = elim near [ ]
  over start items [] (m ∷ ms) got old new named exact erases may near hears was = elim may [ ]
  over start items (p ∷ ps) [] got old new named exact erases may near hears was = elim may [ ]
  over start items (p ∷ ps) (false ∷ ms) got old new named exact erases may near hears was =
      rw (← append_assoc items ((p, None) ∷ []) (zip ps (arrivals_from_flags ms got)))
      (over start _ ps ms got old new named exact.1 erases.1 may.1 near hears
      (StateAfterItems-push start items p None old old
      (lost_item_keeps_cell keeps anew class w row column p old named (may.0 refl)) was))
  over start items (p ∷ ps) (true ∷ ms) [] old new named exact erases may near hears was =
      elim near [ ]
  over start items (p ∷ ps) (true ∷ ms) (g ∷ gs) old new named exact erases may near hears was =
      rw (← append_assoc items ((p, Some g) ∷ []) (zip ps (arrivals_from_flags ms gs)))
      (over start _ ps ms gs hears.0 new named exact.1 erases.1 may.1 near.1 hears.2
      (StateAfterItems-push start items p (Some g) old hears.0
      (received_item_updates_cell keeps anew class w row column p g old hears.0 named exact.0
      erases.0 near.0
      hears.1)
      was))
