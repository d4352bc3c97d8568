-- If a receiver starts late, the packets that it receives send the same text as all packets.
use Rattle.std.proofs.Common.{◌≡◌, ℕ, suc, ◌<◌, inl, inr, Bool, true, false, not, ◌&&◌, cond, List}
use Rattle.std.proofs.Common.{[], ◌∷◌, ◌++◌, length, take, slice_index_or, find, Option, Some, None}
use Rattle.std.proofs.Common.{Contains, option_map, unwrap_or, All, refl, sym, ap}
use Rattle.std.proofs.Common.{◌∙◌, subst, arith, append_assoc}
use Rattle.std.specs.Option.{option_or}
use Rattle.std.proofs.lemmas.Bool.{cases_Bool}
use Rattle.std.proofs.lemmas.Bool.Decides.{nat_tests}
use Rattle.std.proofs.lemmas.List.{append-nil, get_or_default}
use Rattle.std.proofs.lemmas.List.Elements.{All-nil, All-push, Contains-append_right}
use Rattle.std.proofs.lemmas.List.Folds.{find-append, list_any_at}
use Rattle.ttx_packet.specs.PageHeader.{HasExactCodeWords}
use Rattle.ttx_packet.specs.PageId.{PageIdValue}
use Rattle.ttx_packet.specs.Parity.{character_code}
use Rattle.ttx_packet.specs.RowPacket.{text_byte}
use Rattle.ttx_page.specs.Noise.{ErasesPageIfHeader, HasOddParityTextIfRow, IsSound}
use Rattle.ttx_page.specs.Page.{space}
use Rattle.ttx_page.specs.PacketKind.{begins_text, ends_page, is_row, is_this_page, kind}
use Rattle.ttx_page.specs.Repeats.{HasCodesIfRow, MayFollow, SendsOnlyRowsOfText}
use Rattle.ttx_page.specs.Shown.{kept}
use Rattle.ttx_page.specs.Span.{has_page_header, is_open_after, text_span}
use Rattle.ttx_page.specs.declared.packet_kind.PacketKind.TheVariants.{Row}
use Rattle.ttx_page.proofs.LateStart.{open-later, shown-later}
use Rattle.ttx_page.proofs.NoiseLaws.{sound_packets_send_shown_text}
use Rattle.ttx_page.proofs.RepeatLaws.{kept_text_is_shown_text}
use Rattle.ttx_page.proofs.SpanListLemmas.{after-none, find_none_fails}
use Rattle.ttx_page.proofs.TextSpan.{text_span-later, text_span-none_keeps, text_span-push}

abbrev code_in_row : ℕ → Option (List ℕ) → ℕ
code_in_row column found = unwrap_or (option_map (λ p. character_code (text_byte p column)) found)
    space

module _ (keeps : Bool) (w : PageIdValue) (before heard : List (List ℕ)) (packet : List ℕ) where
  abbrev all : List (List ℕ)
  all = before ++ heard

  abbrev complete_span : List (List ℕ)
  complete_span = text_span keeps (kind w) all

  abbrev text_packets : List (List ℕ)
  text_packets = text_span keeps (kind w) heard

  abbrev test : ℕ → List ℕ → Bool
  test row p = is_row row (kind w p)

  text_is_in_complete_span : (q : List ℕ) → Contains text_packets q → Contains complete_span q
  text_is_in_complete_span q within =
      let later = text_span-later (kind w) keeps before heard in
      subst (λ (ps : List (List ℕ)). Contains ps q) (sym later.1)
      (Contains-append_right later.0 text_packets q within)

  -- If a row was already sent in the current text, a further packet that does not start a new text
  -- does not change the first packet of that row.
  first_row_stays_first : (row : ℕ) (q : List ℕ)
      → begins_text keeps (kind w packet) ≡ false
      → Contains complete_span q
      → kind w q ≡ Row row
      → find (test row) (text_span keeps (kind w) (all ++ packet ∷ []))
      ≡ find (test row) complete_span
  first_row_stays_first row q no_begin within is =
      subst
      (λ (ps : List (List ℕ)). find (test row) ps ≡ find (test row) complete_span)
      (sym (text_span-push (kind w) keeps all packet))
      (go (begins_text keeps (kind w packet))
      (is_open_after (kind w) all && not (is_this_page (kind w packet))
      && not (ends_page (kind w packet))) no_begin)
    where
      found : (o : Option (List ℕ))
          → find (test row) complete_span ≡ o
          → find (test row) (complete_span ++ packet ∷ []) ≡ find (test row) complete_span
      found None e =
          let none = find_none_fails (test row) complete_span e in
          grind (arith, nat_tests, list_any_at)
      found (Some first) e =
          find-append (test row) complete_span (packet ∷ [])
          ∙ ap (λ (o : Option (List ℕ)). option_or o (find (test row) (packet ∷ []))) e
          ∙ sym e

      go : (b c : Bool)
          → b ≡ false
          → find (test row) (cond b [] (cond c (complete_span ++ packet ∷ []) complete_span))
          ≡ find (test row) complete_span
      go true c e = grind arith
      go false true e = found (find (test row) complete_span) refl
      go false false e = refl

  module _ (sends : SendsOnlyRowsOfText keeps w heard (kept keeps w all))
      (follows : MayFollow keeps w all packet) where
    pushed_packet_cases : (P : List (List ℕ) → Type 0)
        → P []
        → (begins_text keeps (kind w packet) ≡ false → P text_packets)
        → (begins_text keeps (kind w packet) ≡ false
        → is_open_after (kind w) heard ≡ true
        → P (text_packets ++ packet ∷ []))
        → P (text_span keeps (kind w) (heard ++ packet ∷ []))
    pushed_packet_cases P none was more =
        subst P (sym (text_span-push (kind w) keeps heard packet))
        (go (begins_text keeps (kind w packet)) (is_open_after (kind w) heard)
        (is_this_page (kind w packet)) (ends_page (kind w packet)) refl refl)
      where
        go : (b o t e : Bool)
            → begins_text keeps (kind w packet) ≡ b
            → is_open_after (kind w) heard ≡ o
            → P (cond b [] (cond (o && not t && not e) (text_packets ++ packet ∷ []) text_packets))
        go true o t e p q = none
        go false true false false p q = more p q
        go false true false true p q = was p
        go false true true e p q = was p
        go false false t e p q = was p

    codes_survive_packet : begins_text keeps (kind w packet) ≡ false
        → All (HasCodesIfRow w (kept keeps w (all ++ packet ∷ []))) text_packets
    codes_survive_packet no_begin k d l row column is below =
        let q : List ℕ = slice_index_or text_packets k d in
        let within = text_is_in_complete_span q (k, l, get_or_default text_packets k _ d l) in
        sends.codes k d l row column is below
        ∙ ap (code_in_row column) (sym (first_row_stays_first row q no_begin within is))

    codes_while_open : is_open_after (kind w) heard ≡ true
        → begins_text keeps (kind w packet) ≡ false
        → HasCodesIfRow w (kept keeps w (all ++ packet ∷ [])) packet
    codes_while_open up no_begin row column is below =
        go (find (test row) complete_span) refl
      where
        opened : is_open_after (kind w) all ≡ true
        opened = (open-later w before heard up).0

        text_span_gains_packet : text_span keeps (kind w) (all ++ packet ∷ []) ≡ complete_span ++
            packet ∷ []
        text_span_gains_packet =
            text_span-push (kind w) keeps all packet ∙ rw (is, opened) refl

        passes : test row packet ≡ true
        passes = grind (arith, nat_tests)

        first_is : (o : Option (List ℕ))
            → find (test row) complete_span ≡ o
            → find (test row) (text_span keeps (kind w) (all ++ packet ∷ []))
            ≡ option_or o (find (test row) (packet ∷ []))
        first_is o e =
            ap (find (test row)) text_span_gains_packet
            ∙ find-append (test row) complete_span (packet ∷ [])
            ∙ ap (λ (x : Option (List ℕ)). option_or x (find (test row) (packet ∷ []))) e

        found : find (test row) (packet ∷ []) ≡ Some packet
        found = rw passes refl

        go : (o : Option (List ℕ))
            → find (test row) complete_span ≡ o
            → character_code (text_byte packet column) ≡ kept keeps w (all ++ packet ∷ []) row
            column
        go None e =
            let here : find (test row) (text_span keeps (kind w) (all ++ packet ∷ []))
            ≡ Some packet =
            first_is None e ∙ found in
            let code : kept keeps w (all ++ packet ∷ []) row column
            ≡ character_code (text_byte packet column) =
            ap (code_in_row column) here in
            sym code
        go (Some first) e =
            let here : find (test row) (text_span keeps (kind w) (all ++ packet ∷ []))
            ≡ Some first =
            first_is (Some first) e in
            let code : kept keeps w (all ++ packet ∷ []) row column
            ≡ character_code (text_byte first column) =
            ap (code_in_row column) here in
            sym (follows.same opened row column first is e below) ∙ sym code

    sends-push : SendsOnlyRowsOfText keeps w (heard ++ packet ∷ [])
        (kept keeps w (all ++ packet ∷ []))
    sends-push = record {
      exact = All-push HasExactCodeWords heard packet sends.exact follows.exact;
      erases = λ none.
          All-push (ErasesPageIfHeader w) heard packet (sends.erases none) (follows.erases none);
      odd =
          pushed_packet_cases (All (HasOddParityTextIfRow w)) (All-nil _) (λ no_begin. sends.odd)
          (λ no_begin up. All-push (HasOddParityTextIfRow w) text_packets packet sends.odd
          (follows.odd (open-later w before heard up).0));
      codes =
          pushed_packet_cases (All (HasCodesIfRow w (kept keeps w (all ++ packet ∷ []))))
          (All-nil _)
          codes_survive_packet
          (λ no_begin up. All-push (HasCodesIfRow w (kept keeps w (all ++ packet ∷ [])))
          text_packets
          packet
          (codes_survive_packet no_begin) (codes_while_open up no_begin));
    }

-- If the packets `heard` send only rows of the text of `before ++ heard`, and each packet of `more`
-- may follow the packets before it, `heard ++ more` sends only rows of the text of all packets.
pub sends-joined : (keeps : Bool) (w : PageIdValue) (before heard more : List (List ℕ))
    → SendsOnlyRowsOfText keeps w heard (kept keeps w (before ++ heard))
    → ((k : ℕ)
    → k < length more
    → MayFollow keeps w ((before ++ heard) ++ take k more) (slice_index_or more k []))
    → SendsOnlyRowsOfText keeps w (heard ++ more) (kept keeps w ((before ++ heard) ++ more))
sends-joined keeps w before heard [] sends each =
    subst (λ (ps : List (List ℕ)). SendsOnlyRowsOfText keeps w ps
    (kept keeps w ((before ++ heard) ++ [])))
    (sym (append-nil heard))
    (subst (λ (ps : List (List ℕ)). SendsOnlyRowsOfText keeps w heard (kept keeps w ps))
    (sym (append-nil (before ++ heard))) sends)
sends-joined keeps w before heard (p ∷ more) sends each =
    let first =
    subst (λ (ps : List (List ℕ)). MayFollow keeps w ps p) (append-nil (before ++ heard))
    (each 0 (omega arith)) in
    let sends_first =
    subst (λ (ps : List (List ℕ)). SendsOnlyRowsOfText keeps w (heard ++ p ∷ []) (kept keeps w ps))
    (append_assoc before heard (p ∷ []))
    (sends-push keeps w before heard p sends first) in
    let rest =
    sends-joined keeps w before (heard ++ p ∷ []) more sends_first
    (λ k l.
    subst (λ (ps : List (List ℕ)). MayFollow keeps w ps (slice_index_or more k []))
    (sym (append_assoc (before ++ heard) (p ∷ []) (take k more))
    ∙ ap (λ (ps : List (List ℕ)). ps ++ take k more) (append_assoc before heard (p ∷ [])))
    (each (suc k) (omega arith))) in
    subst
    (λ (ps : List (List ℕ)).
    SendsOnlyRowsOfText keeps w ps (kept keeps w ((before ++ heard) ++ p ∷ more)))
    (append_assoc heard (p ∷ []) more)
    (subst
    (λ (ps : List (List ℕ)). SendsOnlyRowsOfText keeps w ((heard ++ p ∷ []) ++ more)
    (kept keeps w ps))
    (ap (λ (ps : List (List ℕ)). ps ++ more) (sym (append_assoc before heard (p ∷ [])))
    ∙ append_assoc (before ++ heard) (p ∷ []) more)
    rest)

pub sound_packets_send_text : (w : PageIdValue) (before heard : List (List ℕ))
    → IsSound w heard
    → SendsOnlyRowsOfText false w heard (kept false w (before ++ heard))
sound_packets_send_text w before heard sound =
    let sends = sound_packets_send_shown_text w heard sound in
    record {
      exact = sends.exact;
      erases = sends.erases;
      odd = sends.odd;
      codes = λ k d l row column is below.
          elim (cases_Bool (has_page_header (kind w) heard)) [
            | inl holds ↦
                sends.codes k d l row column is below
                ∙ sym (shown-later w before heard holds row column)
                ∙ sym (kept_text_is_shown_text w (before ++ heard) row column)
            | inr none ↦
                let no_span = text_span-none_keeps (kind w) heard in
                let nothing = after-none (kind w) heard none in
                grind (arith, nat_tests)
          ];
    }

pub sending_text_is_sound : (w : PageIdValue) (sent : List (List ℕ)) (text : ℕ → ℕ → ℕ)
    → SendsOnlyRowsOfText false w sent text
    → IsSound w sent
sending_text_is_sound w sent text sends =
    let same = text_span-none_keeps (kind w) sent in
    let codes = subst (All (HasCodesIfRow w text)) same sends.codes in
    record {
      exact = sends.exact;
      erases = sends.erases refl;
      odd = subst (All (HasOddParityTextIfRow w)) same sends.odd;
      same = λ i d l j e m row column one two below.
          codes i d l row column one below ∙ sym (codes j e m row column two below);
    }
