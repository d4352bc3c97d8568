-- The law of repeats follows from the state of a receiver after packets that are received or lost.
use Rattle.std.proofs.Common.{◌≡◌, ℕ, suc, ◌⊎◌, inl, inr, Bool, true, false}
use Rattle.std.proofs.Common.{List, [], ◌∷◌, find, length, map, option_map, unwrap_or, zip, Option}
use Rattle.std.proofs.Common.{Contains, refl, ap, ◌∙◌, arith}
use Rattle.std.specs.List.{list_any, AllZip, items_where_true}
use Rattle.std.proofs.lemmas.Bool.Decides.{nat_tests}
use Rattle.std.proofs.lemmas.List.{length-map, get_or-map}
use Rattle.std.proofs.lemmas.List.Elements.{recursion_from_All, All-contains}
use Rattle.std.proofs.lemmas.Slice.Zip.{firsts-zip, AllZip-long}
use Rattle.ttx_packet.specs.OneBit.{AreNear}
use Rattle.ttx_packet.specs.PageId.{PageIdValue}
use Rattle.ttx_packet.specs.Parity.{character_code}
use Rattle.ttx_packet.specs.RowPacket.{text_byte}
use Rattle.ttx_page.specs.Shown.{kept, shown}
use Rattle.ttx_page.specs.Page.{space, cell, IsCell}
use Rattle.ttx_page.specs.PacketKind.{kind, is_row}
use Rattle.ttx_page.specs.DroppedRows.{ExcusedBy}
use Rattle.ttx_page.specs.Receiver.{ReceiverClass, State, StepBy}
use Rattle.ttx_page.specs.Receiver.ReceiverClass.{Dropping, Storing}
use Rattle.ttx_page.specs.Repeats.{EndsAfterRepeats, HasCodesIfRow, HasNoRow, HearsRepeats, IsFresh}
use Rattle.ttx_page.specs.Repeats.{LawOfKeepingReceivers, LawOfRepeats, SendsOnlyRowsOfText}
use Rattle.ttx_page.specs.Repeats.{StepWithRepeats}
use Rattle.ttx_page.specs.Span.{has_text_beginning, has_page_header, has_no_page_end, span}
use Rattle.ttx_page.specs.Span.{text_span}
use Rattle.ttx_page.specs.Noise.{HasOddParityTextIfRow}
use Rattle.ttx_page.specs.LostRows.{IsHitOrLost, LosesNoHeader, arrivals_from_flags}
use Rattle.ttx_page.proofs.RunLemmas.{RunsBy-as}
use Rattle.ttx_page.proofs.SpanListLemmas.{list_any-map, after-map, span-map}
use Rattle.ttx_page.proofs.TextSpan.{text_span-map, text_span-none_keeps}
use Rattle.ttx_page.proofs.NoiseStepLemmas.{AreTargets, StateAfterItems, IsFreshCell, Item}
use Rattle.ttx_page.proofs.NoiseStepLemmas.{excuse_is_monotone}
use Rattle.ttx_page.proofs.NoiseStepLemmas.{kind_of_item, over, starts}

length-arrivals_from_flags :
    (arrived : List Bool) (got : List (List ℕ)) → length (arrivals_from_flags arrived got) ≡ length
    arrived
length-arrivals_from_flags [] got = refl
length-arrivals_from_flags (false ∷ ms) got = ap suc (length-arrivals_from_flags ms got)
length-arrivals_from_flags (true ∷ ms) [] = ap suc (length-arrivals_from_flags ms [])
length-arrivals_from_flags (true ∷ ms) (g ∷ gs) = ap suc (length-arrivals_from_flags ms gs)

-- Each sent packet is paired with its received bytes, or with `None` if it was lost.
module _ (class : ReceiverClass) (w : PageIdValue) (sent : List (List ℕ)) (arrived : List Bool)
    (got : List (List ℕ)) (may : AllZip LosesNoHeader sent arrived)
    (near : AllZip AreNear (items_where_true arrived sent) got) where
  abbrev arrivals : List (Option (List ℕ))
  arrivals = arrivals_from_flags arrived got

  abbrev items : List Item
  items = zip sent arrivals

  abbrev sent_packet_of_item : Item → List ℕ
  sent_packet_of_item item = item.0

  sent-items : sent ≡ map sent_packet_of_item items
  sent-items = grind (arith, nat_tests, firsts-zip, length-arrivals_from_flags, AllZip-long)

  span-items : span (kind w) sent ≡ map sent_packet_of_item (span (kind_of_item w) items)
  span-items = ap (span (kind w)) sent-items ∙ span-map (kind w) sent_packet_of_item items

  text-items : (keeps : Bool)
      → text_span keeps (kind w) sent ≡ map sent_packet_of_item (text_span keeps (kind_of_item w)
      items)
  text-items keeps =
      ap (text_span keeps (kind w)) sent-items ∙ text_span-map (kind w) sent_packet_of_item keeps
      items

  sent-in_text : (keeps : Bool) (item : Item)
      → Contains (text_span keeps (kind_of_item w) items) item
      → Contains (text_span keeps (kind w) sent) item.0
  sent-in_text keeps item within = grind (arith, nat_tests, text-items, length-map, get_or-map)

  beginning-items : (keeps : Bool)
      → has_text_beginning keeps (kind w) sent ≡ has_text_beginning keeps (kind_of_item w) items
  beginning-items keeps = grind (arith, nat_tests, sent-items, list_any-map)

  holds-items : has_page_header (kind w) sent ≡ has_page_header (kind_of_item w) items
  holds-items = grind (arith, nat_tests, sent-items, list_any-map)

  has_no_page_end-items : has_no_page_end (kind w) sent ≡ has_no_page_end (kind_of_item w) items
  has_no_page_end-items = grind (
    arith,
    nat_tests,
    sent-items,
    after-map,
    list_any-map,
    kind_of_item,
  )

  row-items : (row : ℕ)
      → list_any (λ p. is_row row (kind w p)) (span (kind w) sent)
      ≡ list_any (λ (item : Item). is_row row (kind w item.0)) (span (kind_of_item w) items)
  row-items row = grind (arith, nat_tests, span-items, list_any-map, kind_of_item)

  module _ (keeps anew : Bool) (text : ℕ → ℕ → ℕ) (old new : State)
      (sends : SendsOnlyRowsOfText keeps w sent text)
      (hears : HearsRepeats class anew w old got new) where
    abbrev IsSpaceAllowed : ℕ → ℕ → Type 0
    IsSpaceAllowed = ExcusedBy class (IsHitOrLost w sent arrivals)

    cell_becomes_text : (row column : ℕ)
        → IsCell row column
        → StateAfterItems keeps anew class w row column (text row column)
        (IsSpaceAllowed row column) old
        items new
    cell_becomes_text row column named =
        over keeps anew class w row column _ _ old [] sent arrived got old new named
        (recursion_from_All _ sent sends.exact)
        (recursion_from_All _ sent (λ k d l none. sends.erases none k d l)) may near hears
        (starts keeps anew class w row column (text row column) (IsSpaceAllowed row column) old)

    -- After a header of the page, if the page does not depend on its earlier contents, each cell
    -- has the code of the text, or is a space because of noise or loss, or because the last
    -- transmission of the page has no packet of its row.
    cell_kept :
        has_page_header (kind w) sent ≡ true
        → IsFresh keeps anew w sent old
        → (row column : ℕ)
        → IsCell row column
        → (cell new.page row column ≡ text row column)
        ⊎ ((cell new.page row column ≡ space)
        × (IsSpaceAllowed row column ⊎ HasNoRow w sent row))
    cell_kept holds fresh row column named =
        let end = cell_becomes_text row column named in
        let some : has_page_header (kind_of_item w) items ≡ true = rw (← holds-items) holds in
        let beginning = beginning-items keeps in
        let fresh_cell :
        IsFreshCell keeps anew class w row column (text row column) (IsSpaceAllowed row column) old
        items =
        elim fresh [
          | inl anew_is ↦ inl anew_is
          | inr (inl begun) ↦ inr (inl (rw (← beginning) begun))
          | inr (inr blank_was) ↦ inr (inr (blank_was.0, blank_was.1 row column named))
        ] in
        let targets :
        AreTargets keeps anew class w row column (text row column) (IsSpaceAllowed row column)
        items =
        λ item within is.
        let sent_within = sent-in_text keeps item within in (
          All-contains (HasOddParityTextIfRow w) _ item.0 sends.odd sent_within row is,
          All-contains (HasCodesIfRow w text) _ item.0 sends.codes sent_within row column is
              named.2,
        ) in
        let coarse = end.code_or_space some fresh_cell targets in
        let fine = end.cell_eq some fresh_cell targets
        (λ item within is.
        excuse_is_monotone class _ _ row column
        (λ other lost_byte. (within.0, item, within.1, within.2, (is, lost_byte)))) in
        let rows = row-items row in
        grind (arith, nat_tests)

    pub ends : EndsAfterRepeats keeps anew w sent text IsSpaceAllowed old new
    ends =
        let end = cell_becomes_text 1 0 (omega arith, omega arith, omega arith) in
        let heard_eq = end.heard in
        let open_eq = end.is_open in
        let holds_is = holds-items in
        let unended_is = has_no_page_end-items in
        record {
          heard = grind (arith, nat_tests);
          is_open = grind (arith, nat_tests);
          cells = cell_kept;
        }

pub law_of_repeats : LawOfRepeats
law_of_repeats keeps anew class w sent arrived got text old new sends may near hears =
    ends class w sent arrived got may near keeps anew text old new sends hears

pub kept_text_is_shown_text : (w : PageIdValue) (packets : List (List ℕ)) (row column : ℕ)
    → kept false w packets row column ≡ shown w packets row column
kept_text_is_shown_text w packets row column =
    ap (λ (ps : List (List ℕ)).
    unwrap_or
    (option_map (λ p. character_code (text_byte p column)) (find (λ p. is_row row (kind w p)) ps))
    space)
    (text_span-none_keeps (kind w) packets)

pub step_is_repeat_step : (class : ReceiverClass) (w : PageIdValue) (old : State) (packet : List ℕ)
    (new : State)
    → StepBy class w old packet new
    → StepWithRepeats class false w old packet new
step_is_repeat_step Storing w old packet new step = grind (arith, nat_tests)
step_is_repeat_step Dropping w old packet new step = grind (arith, nat_tests)

pub law_of_keeping_receivers : LawOfKeepingReceivers
law_of_keeping_receivers class w packets old new hears =
    RunsBy-as (StepBy class w) (StepWithRepeats class false w) (λ s. s) packets old new
    (step_is_repeat_step class w) hears
