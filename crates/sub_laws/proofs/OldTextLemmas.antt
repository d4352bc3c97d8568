-- If no header erases the page, a code other than a space stays in its cell. So a header that
-- erases the page is sent when text ends or changes.
use Rattle.std.proofs.Common.{◌≡◌, ◌≢◌, ℕ, ◌+◌, ◌-◌, ◌<◌, ◌≤◌, inl, inr, Bool, true, false, cond}
use Rattle.std.proofs.Common.{List, [], ◌∷◌, ◌++◌, find, Option, Some, None}
use Rattle.std.proofs.Common.{option_map, unwrap_or, refl, sym, ap, ◌∙◌, subst, arith, append_assoc}
use Rattle.std.specs.Option.{option_or}
use Rattle.std.proofs.lemmas.Bool.{cases_Bool, or_left, or_parts, or_right}
use Rattle.std.proofs.lemmas.List.{append-nil}
use Rattle.std.proofs.lemmas.List.Folds.{find-append, list_any-append}
use Rattle.ttx_packet.specs.PageId.{PageIdValue}
use Rattle.ttx_packet.specs.Parity.{character_code}
use Rattle.ttx_packet.specs.RowPacket.{text_byte}
use Rattle.ttx_page.specs.DroppedRows.{ExcusedBy}
use Rattle.ttx_page.specs.LostRows.{IsHitOrLost, arrivals_from_flags}
use Rattle.ttx_page.specs.Page.{space}
use Rattle.ttx_page.specs.PacketKind.{begins_text, is_row, kind}
use Rattle.ttx_page.specs.Receiver.{ReceiverClass, State}
use Rattle.ttx_page.specs.Repeats.{HearsRepeats}
use Rattle.ttx_page.specs.Shown.{kept}
use Rattle.ttx_page.specs.Span.{has_text_beginning, text_span}
use Rattle.ttx_page.proofs.TextSpan.{beginning_is_header, text_span-push}
use Rattle.stl_rows.specs.Programme.{ProgrammeValue}
use Rattle.sub_plan.specs.Options.{OptionsValue}
use Rattle.sub_rules.specs.Repeats.{GoodWithRepeats, IsCorrectPage}
use Rattle.sub_rules.specs.Transmission.{Transmission, first_frame, last_frame, on_air}
use Rattle.sub_rules.specs.Transmission.{on_air_until, packets_between}
use Rattle.sub_laws.specs.LostRows.{IsReceivedWithLosses}
use Rattle.sub_laws.specs.OldText.{HoldsExpectedCodes, LawOfOldText, HasTextEnding}
use Rattle.sub_laws.specs.Robust.{IsListening}
use Rattle.sub_laws.proofs.GoodWithRepeatsLemmas.{law_of_good_with_repeats}
use Rattle.sub_laws.proofs.RepeatLemmas.{repeated_stretch}
use Rattle.sub_laws.proofs.SoundStretchLemmas.{on_air-cut}
use Rattle.sub_laws.proofs.TransmissionLemmas.{packets_between-split}

module _ (keeps : Bool) (w : PageIdValue) where
  -- The packets since the page was erased.
  abbrev packets_of_page_text : List (List ℕ) → List (List ℕ)
  packets_of_page_text packets = text_span keeps (kind w) packets

  -- A packet that does not erase the page removes none of the packets since the page was erased:
  -- the new list begins with the old list.
  span-one : (xs : List (List ℕ)) (p : List ℕ)
      → begins_text keeps (kind w p) ≡ false
      → (more : List (List ℕ)) × (packets_of_page_text (xs ++ p ∷ []) ≡ packets_of_page_text xs ++
      more)
  span-one xs p none =
      subst
      (λ (ps : List (List ℕ)). (more : List (List ℕ)) × (ps ≡ packets_of_page_text xs ++ more))
      (sym (text_span-push (kind w) keeps xs p))
      (go (begins_text keeps (kind w p)) _ none)
    where
      go : (b c : Bool)
          → b ≡ false
          → (more : List (List ℕ))
          × (cond b [] (cond c (packets_of_page_text xs ++ p ∷ []) (packets_of_page_text xs)) ≡
          packets_of_page_text xs ++ more)
      go true c e = grind arith
      go false true e = (p ∷ [], refl)
      go false false e = ([], sym (append-nil (packets_of_page_text xs)))

  span-grows : (xs ys : List (List ℕ))
      → has_text_beginning keeps (kind w) ys ≡ false
      → (more : List (List ℕ)) × (packets_of_page_text (xs ++ ys) ≡ packets_of_page_text xs ++ more)
  span-grows xs [] none =
      ([], ap packets_of_page_text (append-nil xs) ∙ sym (append-nil (packets_of_page_text xs)))
  span-grows xs (p ∷ ys) none =
      joined (span-one xs p (or_parts _ _ none).0)
      (span-grows (xs ++ p ∷ []) ys (or_parts _ _ none).1)
    where
      joined :
          (more : List (List ℕ)) × (packets_of_page_text (xs ++ p ∷ []) ≡ packets_of_page_text xs ++
          more)
          → (rest : List (List ℕ))
          × (packets_of_page_text ((xs ++ p ∷ []) ++ ys) ≡ packets_of_page_text (xs ++ p ∷ []) ++
          rest)
          → (more : List (List ℕ)) × (packets_of_page_text (xs ++ p ∷ ys) ≡ packets_of_page_text xs
          ++ more)
      joined (more, one) (rest, later) = (
        more ++ rest,
        ap packets_of_page_text (sym (append_assoc xs (p ∷ []) ys))
            ∙ later
            ∙ ap (λ (ps : List (List ℕ)). ps ++ rest) one
            ∙ append_assoc (packets_of_page_text xs) more rest,
      )

  abbrev code_of_row_or_space : ℕ → Option (List ℕ) → ℕ
  code_of_row_or_space column found = unwrap_or
      (option_map (λ p. character_code (text_byte p column)) found) space

  -- Until a header erases the page, a code other than a space stays in its cell.
  pub kept-stays : (xs ys : List (List ℕ)) (row column code : ℕ)
      → has_text_beginning keeps (kind w) ys ≡ false
      → kept keeps w xs row column ≡ code
      → code ≢ space
      → kept keeps w (xs ++ ys) row column ≡ code
  kept-stays xs ys row column code none is text =
      let grown = span-grows xs ys none in
      let found : find test (packets_of_page_text (xs ++ ys))
      ≡ option_or (find test (packets_of_page_text xs)) (find test grown.0) =
      ap (find test) grown.1 ∙ find-append test (packets_of_page_text xs) grown.0 in
      ap (code_of_row_or_space column) found ∙ go (find test (packets_of_page_text xs))
      (find test grown.0) is
    where
      test : List ℕ → Bool
      test p = is_row row (kind w p)

      go : (first later : Option (List ℕ))
          → code_of_row_or_space column first ≡ code
          → code_of_row_or_space column (option_or first later) ≡ code
      go None later e = absurd (text (sym e))
      go (Some first) later e = e

module _ (keeps : Bool) (w : PageIdValue) (xs ys : List (List ℕ)) where
  begins-left :
      has_text_beginning keeps (kind w) xs ≡ true → has_text_beginning keeps (kind w) (xs ++ ys) ≡
      true
  begins-left holds =
      list_any-append (λ p. begins_text keeps (kind w p)) xs ys ∙ or_left _ _ holds

  begins-right :
      has_text_beginning keeps (kind w) ys ≡ true → has_text_beginning keeps (kind w) (xs ++ ys) ≡
      true
  begins-right holds =
      list_any-append (λ p. begins_text keeps (kind w p)) xs ys ∙ or_right _ _ holds

module _ (keeps : Bool) (programme : ProgrammeValue) (transmission : Transmission)
    (options : OptionsValue) (e row column code : ℕ)
    (good : GoodWithRepeats keeps programme transmission options)
    (goes : HasTextEnding programme options.within e row column code)
    (from_first_frame : first_frame transmission + options.within < e)
    (up_to_last_frame : e + options.within ≤ last_frame transmission) where
  finished :
      (f : ℕ) × (e ≤ f + options.within + 1) × (f < e)
      × (kept keeps options.page (on_air_until transmission f) row column ≡ code)
  finished =
      let some = good.again (e - (options.within + 1)) (omega arith) (omega arith) in (
        some.0,
        omega (arith, some.1),
        omega (arith, some.2),
        (some.3.whole row column goes.is_cell).kept_eq
            ∙ goes.was some.0 (omega (arith, some.2)) (omega (arith, some.1)),
      )

  not_kept :
      kept keeps options.page (on_air_until transmission (e + options.within)) row column ≢ code
  not_kept is =
      elim (good.codes (e + options.within) row column (omega arith) up_to_last_frame
      goes.is_cell) [
        | inl spaced ↦ goes.is_text (sym is ∙ spaced)
        | inr (d, first, before, near, due) ↦
            goes.gone d (omega arith) before (sym due ∙ is)
      ]

  begins :
      has_text_beginning keeps (kind options.page)
      (packets_between transmission (e - options.within) (e + options.within + 1))
      ≡ true
  begins =
      let (f, late, early, is) = finished in
      let frames = transmission in
      let after = packets_between frames (f + 1) (e + options.within + 1) in
      let split =
      packets_between-split frames (first_frame frames) (f + 1) (e + options.within + 1)
      good.rules.rising (omega arith) (omega arith) in
      let here =
      packets_between-split frames (e - options.within) (f + 1) (e + options.within + 1)
      good.rules.rising (omega arith) (omega arith) in
      elim (cases_Bool (has_text_beginning keeps (kind options.page) after)) [
        | inl holds ↦
            ap (has_text_beginning keeps (kind options.page)) here
            ∙ begins-right keeps options.page _ after holds
        | inr none ↦
            absurd
            (not_kept
            (ap (λ (ps : List (List ℕ)). kept keeps options.page ps row column) split
            ∙ kept-stays keeps options.page _ after row column code none is goes.is_text))
      ]

  begun : (g j f : ℕ)
      → IsListening transmission (first_frame transmission) (last_frame transmission) g j f
      → g + options.within < e
      → e + options.within ≤ f
      → has_text_beginning keeps (kind options.page) (on_air transmission g j f) ≡ true
  begun g j f listening before after =
      let stretch = repeated_stretch keeps programme transmission options good.rules in
      let from = e - options.within in
      let end = e + options.within + 1 in
      let split =
      packets_between-split transmission (g + 1) from (f + 1) good.rules.rising (omega arith)
      (omega arith) in
      let rest =
      packets_between-split transmission from end (f + 1) good.rules.rising (omega arith)
      (omega arith) in
      ap (has_text_beginning keeps (kind options.page))
      (on_air-cut keeps transmission options _ _ stretch g j f listening)
      ∙ begins-right keeps options.page _ _
      (ap (has_text_beginning keeps (kind options.page)) split
      ∙ begins-right keeps options.page _ _
      (ap (has_text_beginning keeps (kind options.page)) rest
      ∙ begins-left keeps options.page _ _ begins))

  same_at_once : (f : ℕ)
      → options.within ≡ 0
      → first_frame transmission ≤ f
      → f ≤ last_frame transmission
      → IsCorrectPage keeps programme options.page transmission f
  same_at_once f none low high =
      let some = good.again f low (omega (arith, none)) in
      let same : some.0 ≡ f = omega (arith, none, some.1, some.2) in
      subst (IsCorrectPage keeps programme options.page transmission) same some.3.whole

  holds : (class : ReceiverClass) (anew : Bool) (g j f : ℕ) (arrived : List Bool)
      → (got : List (List ℕ)) (old new : State)
      → IsReceivedWithLosses transmission (first_frame transmission) (last_frame transmission) g j f
      arrived got
      → HearsRepeats class anew options.page old got new
      → g + options.within < e
      → e + options.within ≤ f
      → HoldsExpectedCodes keeps programme transmission options f
      (ExcusedBy class
      (IsHitOrLost options.page (on_air transmission g j f) (arrivals_from_flags arrived got)))
      new
  holds class anew g j f arrived got old new is hears before after =
      let begins_here = begun g j f is.listening before after in
      let header = beginning_is_header (kind options.page) keeps _ begins_here in
      let recovers = (law_of_good_with_repeats keeps programme transmission options good).0 anew
      class in
      let served = recovers.0 g j f arrived got old new is hears in
      let cells = served.cells header (inr (inl begins_here)) in
      record {
        codes = served.codes header (inr (inl begins_here));
        cells = cells;
        at_once = λ none. cells (same_at_once f none (omega arith) is.listening.to);
      }

pub law_of_old_text : LawOfOldText
law_of_old_text keeps programme transmission options e row column code good goes from to = (
  begins keeps programme transmission options e row column code good goes from to,
  holds keeps programme transmission options e row column code good goes from to,
)
