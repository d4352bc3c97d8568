-- The laws of noise and of lost rows follow from the law of repeats, for repeats that must not keep
-- earlier text.
use Rattle.std.proofs.Common.{rules, ◌≡◌, ℕ, ◌<◌, ◌⊎◌, inl, inr, Bool, true, false}
use Rattle.std.proofs.Common.{List, [], ◌∷◌, map, zip, find, Option, Some, None, option_map}
use Rattle.std.proofs.Common.{All, unwrap_or, Contains, IsTrue, refl, ◌∙◌, arith}
use Rattle.std.specs.List.{AllByRecursion, AllZip, items_where_true}
use Rattle.std.proofs.lemmas.Bool.Decides.{nat_tests}
use Rattle.std.proofs.lemmas.List.{get_or_default}
use Rattle.std.proofs.lemmas.List.Elements.{recursion_from_All, All-cons, All-contains, All-nil}
use Rattle.std.proofs.lemmas.List.Folds.{list_any_at}
use Rattle.ttx_packet.specs.OneBit.{AreNear}
use Rattle.ttx_packet.specs.Parity.{character_code}
use Rattle.ttx_packet.specs.PageId.{PageIdValue}
use Rattle.ttx_packet.specs.RowPacket.{text_byte}
use Rattle.ttx_page.specs.Page.{space, cell, IsCell}
use Rattle.ttx_page.specs.declared.packet_kind.PacketKind.TheVariants.{Row}
use Rattle.ttx_page.specs.PacketKind.{kind, is_row}
use Rattle.ttx_page.specs.DroppedRows.{ExcusedBy}
use Rattle.ttx_page.specs.Receiver.{HearsBy, ReceiverClass, State}
use Rattle.ttx_page.specs.Receiver.ReceiverClass.{Storing}
use Rattle.ttx_page.specs.Span.{has_page_header, span}
use Rattle.ttx_page.specs.Shown.{shown}
use Rattle.ttx_page.specs.Noise.{HaveSameCodesIfSameRow, IsSound, LawOfNoise}
use Rattle.ttx_page.specs.LostRows.{IsHitOrLost, LawOfLostRows, LawOfNothingLost, LosesNoHeader}
use Rattle.ttx_page.specs.LostRows.{arrivals_from_flags}
use Rattle.ttx_page.specs.Recovery.{LawOfRecovery}
use Rattle.ttx_page.specs.Repeats.{EndsAfterRepeats, SendsOnlyRowsOfText}
use Rattle.ttx_page.proofs.SpanListLemmas.{Any-map, map-Any, found_item_passes_test, find_none}
use Rattle.ttx_page.proofs.SpanListLemmas.{find_none_fails}
use Rattle.ttx_page.proofs.SpanListLemmas.{span-map, zip-map}
use Rattle.ttx_page.proofs.NoiseStepLemmas.{kind_of_item, is_row_implies_row}
use Rattle.ttx_page.proofs.RepeatLaws.{law_of_keeping_receivers, law_of_repeats}
use Rattle.ttx_page.proofs.TextSpan.{beginning-none_keeps, text_span-none_keeps}

pub first_row_has_code : (w : PageIdValue) (text_packets : List (List ℕ)) (row column : ℕ)
    (packet : List ℕ)
    → All (λ first. All (HaveSameCodesIfSameRow w first) text_packets) text_packets
    → Contains text_packets packet
    → kind w packet ≡ Row row
    → column < 40
    → character_code (text_byte packet column)
    ≡ unwrap_or
    (option_map (λ p. character_code (text_byte p column)) (find (λ p. is_row row (kind w p))
    text_packets))
    space
first_row_has_code w text_packets row column packet same within is below = go
    (find test text_packets) refl
  where
    test : List ℕ → Bool
    test p = is_row row (kind w p)

    go : (o : Option (List ℕ))
        → find test text_packets ≡ o
        → character_code (text_byte packet column)
        ≡ unwrap_or (option_map (λ p. character_code (text_byte p column)) o) space
    go None e =
        let none = find_none_fails test text_packets e in
        grind (arith, nat_tests, find_none_fails, test, list_any_at)
    go (Some first) e = search
        (rules, found_item_passes_test, test, All-contains, is_row_implies_row)

-- In well-formed packets, each row packet of the last page transmission has the codes that the
-- packets show.
pub shown_cell_is_sent_code : (w : PageIdValue) (sent : List (List ℕ)) (row column : ℕ)
    (packet : List ℕ)
    → IsSound w sent
    → Contains (span (kind w) sent) packet
    → kind w packet ≡ Row row
    → column < 40
    → character_code (text_byte packet column) ≡ shown w sent row column
shown_cell_is_sent_code w sent row column packet sound within is below =
    first_row_has_code w (span (kind w) sent) row column packet sound.same within is below

-- Well-formed packets send the text that they show, if repeats must not keep earlier text.
pub sound_packets_send_shown_text : (w : PageIdValue) (sent : List (List ℕ))
    → IsSound w sent
    → SendsOnlyRowsOfText false w sent (shown w sent)
sound_packets_send_shown_text w sent sound =
    let same = text_span-none_keeps (kind w) sent in
    record {
      exact = sound.exact;
      erases = λ none. sound.erases;
      odd = rw same sound.odd;
      codes = rw same (λ k d l row column is below.
          shown_cell_is_sent_code w sent row column _ sound
          (k, l, get_or_default (span (kind w) sent) k _ d l) is
          below);
    }

module _ (class : ReceiverClass) (w : PageIdValue) (sent : List (List ℕ)) (arrived : List Bool)
    (got : List (List ℕ)) (old new : State) (sound : IsSound w sent)
    (may : AllZip LosesNoHeader sent arrived)
    (near : AllZip AreNear (items_where_true arrived sent) got)
    (hears : HearsBy class w old got new) where
  abbrev IsSpaceAllowed : ℕ → ℕ → Type 0
  IsSpaceAllowed = ExcusedBy class (IsHitOrLost w sent (arrivals_from_flags arrived got))

  receiver_ends_with_text : EndsAfterRepeats false false w sent (shown w sent) IsSpaceAllowed old
      new
  receiver_ends_with_text =
      law_of_repeats false false class w sent arrived got (shown w sent) old new
      (sound_packets_send_shown_text w sent sound) may near (law_of_keeping_receivers class w got
      old new hears)

  -- After a header of the page, each cell has the code that the packets show, or is a space because
  -- of noise or loss.
  cell_shows_text_or_space : has_page_header (kind w) sent ≡ true
      → (row column : ℕ)
      → IsCell row column
      → (cell new.page row column ≡ shown w sent row column)
      ⊎ ((cell new.page row column ≡ space) × IsSpaceAllowed row column)
  cell_shows_text_or_space holds row column named =
      let begun = beginning-none_keeps (kind w) sent in
      let end = receiver_ends_with_text.cells holds (inr (inl (begun ∙ holds))) row column named in
      let no_row = find_none (λ p. is_row row (kind w p)) (span (kind w) sent) in
      grind (arith, nat_tests)

pub law_of_recovery : LawOfRecovery
law_of_recovery class w sent arrived got old new sound may near holds hears =
    let ends = receiver_ends_with_text class w sent arrived got old new sound may near hears in
    let heard_eq = ends.heard in
    let open_eq = ends.is_open in
    record {
      heard = grind (arith, nat_tests);
      is_open = grind (arith, nat_tests);
      cells = cell_shows_text_or_space class w sent arrived got old new sound may near hears holds;
    }

pub law_of_lost_rows : LawOfLostRows
law_of_lost_rows class w sent arrived got old new sound may near unheard shut hears =
    let ends = receiver_ends_with_text class w sent arrived got old new sound may near hears in
    let heard_eq = ends.heard in
    let open_eq = ends.is_open in
    let heard_only : new.heard ≡ has_page_header (kind w) sent = grind (arith, nat_tests) in
    record {
      heard = heard_only;
      is_open = grind (arith, nat_tests);
      cells = λ now. cell_shows_text_or_space class w sent arrived got old new sound may near hears
          (rw heard_only at now);
    }

items-all_arrive_is_true : (sent : List (List ℕ)) (arrived : List Bool)
    → AllByRecursion IsTrue arrived
    → AllZip LosesNoHeader sent arrived
    → items_where_true arrived sent ≡ sent
items-all_arrive_is_true [] [] all may = refl
items-all_arrive_is_true [] (m ∷ arrived) all may = elim may [ ]
items-all_arrive_is_true (p ∷ sent) arrived all may = grind
    (arith, nat_tests, items-all_arrive_is_true sent)

arrivals_from_flags-all_arrive_is_true : (sent got : List (List ℕ)) (arrived : List Bool)
    → AllByRecursion IsTrue arrived
    → AllZip LosesNoHeader sent arrived
    → AllZip AreNear sent got
    → arrivals_from_flags arrived got ≡ map Some got
arrivals_from_flags-all_arrive_is_true [] [] [] all may near = refl
arrivals_from_flags-all_arrive_is_true [] (g ∷ got) arrived all may near = elim near [ ]
arrivals_from_flags-all_arrive_is_true [] [] (m ∷ arrived) all may near = elim may [ ]
arrivals_from_flags-all_arrive_is_true (p ∷ sent) got arrived all may near =
    grind (arith, nat_tests, arrivals_from_flags-all_arrive_is_true sent)

span-zip_map_Some : (w : PageIdValue) (sent got : List (List ℕ))
    → span (kind_of_item w) (zip sent (map Some got))
    ≡ map (λ pair. (pair.0, Some pair.1))
    (span (λ (pair : List ℕ × List ℕ). kind w pair.0) (zip sent got))
span-zip_map_Some w sent got = grind (arith, nat_tests, kind_of_item, zip-map, span-map)

-- If every packet arrives, the received packets and the hit cells of the law of lost rows are those
-- of the law of noise.
pub law_of_nothing_lost : LawOfNothingLost
law_of_nothing_lost w sent arrived all may = record {
  kept = items-all_arrive_is_true sent arrived (recursion_from_All IsTrue arrived all) may;
  hits = λ got near row column.
      rw (arrivals_from_flags-all_arrive_is_true sent got arrived (recursion_from_All IsTrue arrived
      all) may near) (
        λ hit. Any-map _ _ _ (rw (span-zip_map_Some w sent got) at hit),
        λ hit. rw (span-zip_map_Some w sent got) (map-Any _ _ _ hit),
      );
}

abbrev pub all_arrive : List (List ℕ) → List Bool
all_arrive sent = map (λ p. true) sent

pub all_arrive_is_true : (sent : List (List ℕ)) → All IsTrue (all_arrive sent)
all_arrive_is_true [] = All-nil _
all_arrive_is_true (p ∷ sent) = All-cons IsTrue true (all_arrive sent) refl
    (all_arrive_is_true sent)

pub full_arrival_loses_no_header : (sent : List (List ℕ)) → AllZip LosesNoHeader sent
    (all_arrive sent)
full_arrival_loses_no_header [] = tt
full_arrival_loses_no_header (p ∷ sent) = (
  λ h a is. let e : true ≡ false = h in absurd (cc),
  full_arrival_loses_no_header sent,
)

-- The law of noise is the special case of the law of lost rows in which all packets arrive.
pub law_of_noise : LawOfNoise
law_of_noise w sent got old new sound near unheard shut hears =
    let nothing = law_of_nothing_lost w sent (all_arrive sent) (all_arrive_is_true sent)
    (full_arrival_loses_no_header sent) in
    let ends =
    law_of_lost_rows Storing w sent (all_arrive sent) got old new sound
    (full_arrival_loses_no_header sent)
    (rw nothing.kept near) unheard shut hears in
    record {
      heard = ends.heard;
      is_open = ends.is_open;
      cells = λ now_heard row column named. elim (ends.cells now_heard row column named) [
        | inl coded ↦ inl coded
        | inr hit ↦ inr (hit.0, (nothing.hits got near row column).0 hit.1)
      ];
    }

AreNear-itself : (packet : List ℕ) → AreNear packet packet
AreNear-itself [] = tt
AreNear-itself (b ∷ bs) = (inl refl, AreNear-itself bs)

pub AreNear-themselves : (packets : List (List ℕ)) → AllZip AreNear packets packets
AreNear-themselves [] = tt
AreNear-themselves (p ∷ ps) = (AreNear-itself p, AreNear-themselves ps)
