-- If well-formed packets arrive without wrong bits, a receiver has the sent codes in each cell that
-- does not depend on its earlier contents.
use Rattle.std.proofs.Common.{◌≡◌, ℕ, ◌⊎◌, inl, inr, Bool, true, false, not, ◌&&◌, ◌||◌, cond, List}
use Rattle.std.proofs.Common.{[], ◌∷◌, ◌++◌, Option, Contains, option_map}
use Rattle.std.proofs.Common.{unwrap_or, IsFalse, refl, sym, ap, ◌∙◌, subst, arith}
use Rattle.std.specs.List.{AllByRecursion, list_any}
use Rattle.std.proofs.lemmas.Bool.{cases_Bool}
use Rattle.std.proofs.lemmas.Bool.Decides.{nat_tests}
use Rattle.std.proofs.lemmas.List.{append-nil, append_assoc}
use Rattle.std.proofs.lemmas.List.Elements.{All-contains, Contains-append_left, Contains-push}
use Rattle.std.proofs.lemmas.List.Elements.{recursion_from_All}
use Rattle.std.proofs.lemmas.List.Folds.{list_any-append}
use Rattle.ttx_packet.specs.PageId.{PageIdValue}
use Rattle.ttx_packet.specs.Parity.{character_code}
use Rattle.ttx_packet.specs.RowPacket.{HasOddParityText, text_byte}
use Rattle.ttx_page.specs.Noise.{ErasesPageIfHeader, HasOddParityTextIfRow, LawWithoutNoise}
use Rattle.ttx_page.specs.Page.{IsCell, cell, space}
use Rattle.ttx_page.specs.PacketKind.{begins_text, ends_page, is_row, is_this_page, kind}
use Rattle.ttx_page.specs.Receiver.{Hears, State, Step}
use Rattle.ttx_page.specs.Repeats.{HasCodesIfRow, LawOfKeptText}
use Rattle.ttx_page.specs.Shown.{kept}
use Rattle.ttx_page.specs.Span.{has_text_beginning, has_page_header, is_open_after, text_span}
use Rattle.ttx_page.specs.declared.packet_kind.PacketKind.TheVariants.{Row}
use Rattle.ttx_page.proofs.NoiseLaws.{AreNear-themselves, law_of_noise}
use Rattle.ttx_page.proofs.NoiseStepLemmas.{conjunction_left, conjunction_right, cell-blank}
use Rattle.ttx_page.proofs.NoiseStepLemmas.{is_row_implies_row}
use Rattle.ttx_page.proofs.RepeatLaws.{kept_text_is_shown_text}
use Rattle.ttx_page.proofs.SpanListLemmas.{find_none}
use Rattle.ttx_page.proofs.SpanPushLemmas.{holds-push, open-other, open-this}
use Rattle.ttx_page.proofs.TextSpan.{beginning-none_keeps, beginning-push, beginning_is_header}
use Rattle.ttx_page.proofs.TextSpan.{text_begins_at_header, text_span-push}
use Rattle.ttx_page.proofs.TextStart.{sound_packets_send_text}

-- A packet received without wrong bits opens or closes the page and changes one cell of it as the
-- fields of this record state.
record CellAfterPacket
    (keeps : Bool) (w : PageIdValue) (row column : ℕ) (packet : List ℕ) (old new : State)
    : Type 0 where
  is_open : new.is_open
      ≡ (is_this_page (kind w packet) || (old.is_open && not (ends_page (kind w packet))))
  text_start_erases_cell : begins_text keeps (kind w packet) ≡ true → cell new.page row column ≡
      space
  stays : begins_text keeps (kind w packet) ≡ false
      → (old.is_open && is_row row (kind w packet)) ≡ false
      → cell new.page row column ≡ cell old.page row column
  row_stores_code : kind w packet ≡ Row row
      → old.is_open ≡ true
      → HasOddParityText packet
      → cell new.page row column ≡ character_code (text_byte packet column)

packet_updates_cell : (keeps : Bool) (w : PageIdValue) (row column : ℕ) (packet : List ℕ)
    (old new : State)
    → IsCell row column
    → (IsFalse keeps → ErasesPageIfHeader w packet)
    → Step w old packet new
    → CellAfterPacket keeps w row column packet old new
packet_updates_cell keeps w row column packet old new named erases step =
    let blanks = cell-blank row column named in grind (arith, nat_tests)

module _ (keeps : Bool) (w : PageIdValue) (row column code : ℕ) where
  abbrev AreTargets : List (List ℕ) → Type 0
  AreTargets packets =
      (packet : List ℕ)
      → Contains (text_span keeps (kind w) packets) packet
      → kind w packet ≡ Row row
      → HasOddParityText packet × (character_code (text_byte packet column) ≡ code)

  abbrev IsFreshCell : State → List (List ℕ) → Type 0
  IsFreshCell start packets =
      (has_text_beginning keeps (kind w) packets ≡ true)
      ⊎ ((start.is_open ≡ false) × (cell start.page row column ≡ space))

  abbrev test : List ℕ → Bool
  test p = is_row row (kind w p)

  record HasCellState (start : State) (packets : List (List ℕ)) (now : State) : Type 0 where
    is_open : (has_page_header (kind w) packets || not start.is_open) ≡ true
        → now.is_open ≡ is_open_after (kind w) packets
    cell_eq : IsFreshCell start packets
        → AreTargets packets
        → (cell now.page row column ≡ code)
        ⊎ ((cell now.page row column ≡ space)
        × (list_any test (text_span keeps (kind w) packets) ≡ false))

  module _ (start : State) (packets : List (List ℕ)) (packet : List ℕ) (old new : State)
      (at : CellAfterPacket keeps w row column packet old new) (was : HasCellState start packets
      old) where
    abbrev text_packets : List (List ℕ)
    text_packets = text_span keeps (kind w) packets

    text_span_after_packet : (P : List (List ℕ) → Type 0)
        → begins_text keeps (kind w packet) ≡ false
        → (is_open_after (kind w) packets ≡ true → P (text_packets ++ packet ∷ []))
        → P text_packets
        → P (text_span keeps (kind w) (packets ++ packet ∷ []))
    text_span_after_packet P no_begin more same =
        subst P (sym (text_span-push (kind w) keeps packets packet))
        (go (begins_text keeps (kind w packet)) (is_open_after (kind w) packets)
        (is_this_page (kind w packet)) (ends_page (kind w packet)) no_begin refl)
      where
        go : (b o t e : Bool)
            → b ≡ false
            → is_open_after (kind w) packets ≡ o
            → P (cond b [] (cond (o && not t && not e) (text_packets ++ packet ∷ []) text_packets))
        go true o t e p q = grind arith
        go false true false false p q = more q
        go false true false true p q = same
        go false true true e p q = same
        go false false t e p q = same

    earlier_packets_are_targets : begins_text keeps (kind w packet) ≡ false
        → AreTargets (packets ++ packet ∷ [])
        → AreTargets packets
    earlier_packets_are_targets no_begin targets x within =
        targets x
        (text_span_after_packet (λ (ps : List (List ℕ)). Contains ps x) no_begin
        (λ up. Contains-append_left text_packets (packet ∷ []) x within) within)

    cell_was_fresh_before : begins_text keeps (kind w packet) ≡ false
        → IsFreshCell start (packets ++ packet ∷ [])
        → IsFreshCell start packets
    cell_was_fresh_before no_begin fresh =
        let more = beginning-push (kind w) keeps packets packet in grind (arith, nat_tests)

    opened : IsFreshCell start packets → old.is_open ≡ is_open_after (kind w) packets
    opened fresh =
        let is = was.is_open in
        let header = beginning_is_header (kind w) keeps packets in
        grind (arith, nat_tests)

    row_search_stays_empty : begins_text keeps (kind w packet) ≡ false
        → (is_open_after (kind w) packets && is_row row (kind w packet)) ≡ false
        → list_any test text_packets ≡ false
        → list_any test (text_span keeps (kind w) (packets ++ packet ∷ [])) ≡ false
    row_search_stays_empty no_begin skipped none =
        text_span_after_packet (λ (ps : List (List ℕ)). list_any test ps ≡ false) no_begin
        (λ up.
        let other : test packet ≡ false = rw up at skipped in
        list_any-append test text_packets (packet ∷ []) ∙ rw (none, other) refl)
        none

    row_is_in_text_span : kind w packet ≡ Row row
        → is_open_after (kind w) packets ≡ true
        → Contains (text_span keeps (kind w) (packets ++ packet ∷ [])) packet
    row_is_in_text_span is up =
        let in_text = text_span-push (kind w) keeps packets packet in
        let last = Contains-push text_packets packet in
        rw (in_text, is, up) last

    cell_follows_packet : begins_text keeps (kind w packet) ≡ false
        → IsFreshCell start (packets ++ packet ∷ [])
        → AreTargets (packets ++ packet ∷ [])
        → (cell new.page row column ≡ code)
        ⊎ ((cell new.page row column ≡ space)
        × (list_any test (text_span keeps (kind w) (packets ++ packet ∷ [])) ≡ false))
    cell_follows_packet no_begin fresh targets =
        let before = cell_was_fresh_before no_begin fresh in
        let up = opened before in
        elim (cases_Bool (is_open_after (kind w) packets && is_row row (kind w packet))) [
          | inl stored ↦
              let open_eq : is_open_after (kind w) packets ≡ true = conjunction_left _ _ stored in
              let is : kind w packet ≡ Row row = is_row_implies_row row
              _ (conjunction_right _ _ stored) in
              let target = targets packet (row_is_in_text_span is open_eq) is in
              inl (at.row_stores_code is (up ∙ open_eq) target.0 ∙ target.1)
          | inr skipped ↦
              let same =
              at.stays no_begin (ap (λ b. b && is_row row (kind w packet)) up ∙ skipped) in
              elim (was.cell_eq before (earlier_packets_are_targets no_begin targets)) [
                | inl coded ↦ inl (same ∙ coded)
                | inr (spaced, none) ↦ inr (
                  same ∙ spaced,
                  row_search_stays_empty no_begin skipped
                      none,
                )
              ]
        ]

    HasCellState-push : HasCellState start (packets ++ packet ∷ []) new
    HasCellState-push =
        let held_header = holds-push (kind w) packets packet in
        let this = open-this (kind w) packets packet in
        let other = open-other (kind w) packets packet in
        record {
          is_open = let o = at.is_open in let before = was.is_open in grind (arith, nat_tests);
          cell_eq = λ fresh targets. elim (cases_Bool (begins_text keeps (kind w packet))) [
            | inl begun ↦
                let header = text_begins_at_header keeps (kind w packet) begun in
                let none = text_span-push (kind w) keeps packets packet in
                inr (at.text_start_erases_cell begun, rw (none, begun) refl)
            | inr no_begin ↦ cell_follows_packet no_begin fresh targets
          ];
        }

  run : (start : State) (packets sent : List (List ℕ)) (old new : State)
      → IsCell row column
      → AllByRecursion (λ packet. IsFalse keeps → ErasesPageIfHeader w packet) sent
      → Hears w old sent new
      → HasCellState start packets old
      → HasCellState start (packets ++ sent) new
  run start packets [] old new named erases hears was = rw (append-nil, hears) was
  run start packets (p ∷ ps) old new named erases hears was =
      subst (λ (qs : List (List ℕ)). HasCellState start qs new) (append_assoc packets (p ∷ []) ps)
      (run start (packets ++ p ∷ []) ps hears.0 new named erases.1 hears.2
      (HasCellState-push start packets p old hears.0
      (packet_updates_cell keeps w row column p old hears.0 named erases.0 hears.1) was))

  starts : (start : State) → HasCellState start [] start
  starts start = record {
    is_open = grind (arith, nat_tests);
    cell_eq = λ fresh targets. grind (arith, nat_tests);
  }

pub law_of_kept_text : LawOfKeptText
law_of_kept_text keeps w sent old new sends hears fresh row column named =
    elim (end.cell_eq fresh_cell targets) [
      | inl coded ↦ coded
      | inr (spaced, none) ↦
          spaced
          ∙ sym (ap (λ (o : Option (List ℕ)).
          unwrap_or (option_map (λ p. character_code (text_byte p column)) o) space)
          (find_none (λ p. is_row row (kind w p)) (text_span keeps (kind w) sent) none))
    ]
  where
    code : ℕ
    code = kept keeps w sent row column

    end : HasCellState keeps w row column code old sent new
    end =
        run keeps w row column code old [] sent old new named
        (recursion_from_All _ sent (λ k d l none. sends.erases none k d l)) hears
        (starts keeps w row column code old)

    fresh_cell : IsFreshCell keeps w row column code old sent
    fresh_cell =
        elim fresh [
          | inl anew ↦ absurd (cc)
          | inr (inl begun) ↦ inl begun
          | inr (inr blank_was) ↦ inr (blank_was.0, blank_was.1 row column named)
        ]

    targets : AreTargets keeps w row column code sent
    targets packet within is = (
      All-contains (HasOddParityTextIfRow w) _ packet sends.odd within row is,
      All-contains (HasCodesIfRow w (kept keeps w sent)) _ packet sends.codes within row column is
          named.2,
    )

pub law_of_fault_free : LawWithoutNoise
law_of_fault_free w sent old new sound unheard shut hears heard row column named =
    let ends =
    law_of_noise w sent sent old new sound (AreNear-themselves sent) unheard shut hears in
    let holds : has_page_header (kind w) sent ≡ true = sym ends.heard ∙ heard in
    law_of_kept_text false w sent old new (sound_packets_send_text w [] sent sound) hears
    (inr (inl (beginning-none_keeps (kind w) sent ∙ holds))) row column named
    ∙ kept_text_is_shown_text w sent row column
