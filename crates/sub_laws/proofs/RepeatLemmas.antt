-- A transmission that keeps the rules for repeats meets the conditions for recovery in all its
-- frames. A good transmission stays good with a greater `within`.
use Rattle.std.proofs.lemmas.Bool.Decides.{nat_tests}
use Rattle.std.proofs.Common.{◌≡◌, ℕ, zero, suc, ◌+◌, ◌≤◌, inl, inr, Bool, true, false}
use Rattle.std.proofs.Common.{List, [], ◌∷◌, length, take, find, option_map, unwrap_or, All}
use Rattle.std.proofs.Common.{refl, sym, ap, ◌∙◌, subst, arith, le_refl}
use Rattle.std.specs.List.{AllByRecursion}
use Rattle.std.proofs.lemmas.List.{get_or_default, take_all}
use Rattle.std.proofs.lemmas.List.Elements.{recursion_from_All}
use Rattle.ttx_packet.specs.PageHeader.{HasExactCodeWords}
use Rattle.ttx_packet.specs.PageId.{PageIdValue}
use Rattle.ttx_packet.specs.Parity.{character_code}
use Rattle.ttx_packet.specs.RowPacket.{text_byte}
use Rattle.ttx_page.specs.Noise.{ErasesPageIfHeader}
use Rattle.ttx_page.specs.Page.{space}
use Rattle.ttx_page.specs.PacketKind.{begins_text, is_row, is_this_page, kind}
use Rattle.ttx_page.specs.Repeats.{HasCodesIfRow}
use Rattle.ttx_page.specs.Shown.{kept}
use Rattle.ttx_page.specs.Span.{text_span}
use Rattle.ttx_page.proofs.LateStart.{same_rows_have_same_codes}
use Rattle.ttx_page.proofs.NoiseLaws.{first_row_has_code}
use Rattle.ttx_page.proofs.FaultFreeLaws.{law_of_kept_text}
use Rattle.ttx_page.proofs.TextSpan.{EachHeaderBegins, text_span-none_keeps, text_span-same}
use Rattle.stl_rows.specs.Programme.{ProgrammeValue}
use Rattle.sub_plan.specs.Options.{OptionsValue}
use Rattle.sub_rules.specs.Good.{IsCleanSpan, KeepsRules}
use Rattle.sub_rules.specs.Repeats.{GoodWithRepeats, IsDueWithin, IsFinishedFrame}
use Rattle.sub_rules.specs.Repeats.{KeepsRulesWithRepeats, LawOfMayKeep}
use Rattle.sub_rules.specs.Repeats.{LawOfNoRepeats, LawOfErasingHeaders, HasFinishedFrame}
use Rattle.sub_rules.specs.Transmission.{EachPacket, Transmission, first_frame, last_frame}
use Rattle.sub_rules.specs.Transmission.{on_air_until}
use Rattle.sub_laws.specs.Repeats.{IsSoundStretchWithRepeats, LawOfKeptCodes}
use Rattle.sub_laws.specs.Repeats.{LawOfLongerDelayWithRepeats}
use Rattle.sub_laws.proofs.TransmissionLemmas.{packets_between-each}

-- If the packets since the page was erased are clean, each row among them has the codes that the
-- page has in this row.
pub clean_packets_have_shown_codes : (keeps : Bool) (page : PageIdValue) (packets : List (List ℕ))
    → IsCleanSpan page (text_span keeps (kind page) packets)
    → All (HasCodesIfRow page (kept keeps page packets)) (text_span keeps (kind page) packets)
clean_packets_have_shown_codes keeps page packets clean k d l row column is below =
    let packets_of_page_text : List (List ℕ) = text_span keeps (kind page) packets in
    first_row_has_code page packets_of_page_text row column _ (same_rows_have_same_codes page
    packets_of_page_text clean.same)
    (k, l, get_or_default packets_of_page_text k _ d l) is below

pub repeated_stretch :
    (keeps : Bool) (programme : ProgrammeValue) (transmission : Transmission)
    (options : OptionsValue)
    → KeepsRulesWithRepeats keeps programme transmission options
    → IsSoundStretchWithRepeats keeps transmission options (first_frame transmission)
    (last_frame transmission)
repeated_stretch keeps programme transmission options rules = record {
  first = le_refl (first_frame transmission);
  rising = rules.rising;
  sends = λ f low high.
      let whole : List (List ℕ) = on_air_until transmission f in
      let clean =
      subst
      (λ (ps : List (List ℕ)). IsCleanSpan options.page (text_span keeps (kind options.page) ps))
      (take_all (length whole) whole (le_refl (length whole)))
      (rules.spans f (length whole) high) in
      record {
        exact =
            packets_between-each HasExactCodeWords transmission (first_frame transmission) (f + 1)
            rules.exact;
        erases = λ none.
            packets_between-each (ErasesPageIfHeader options.page) transmission
            (first_frame transmission) (f + 1) (rules.erases none);
        odd = clean.odd;
        codes = clean_packets_have_shown_codes keeps options.page whole clean;
      };
  repeats = rules.repeats;
}

pub law_of_kept_codes : LawOfKeptCodes
law_of_kept_codes keeps programme transmission options f old new rules low high hears fresh row
    column named =
    law_of_kept_text keeps options.page (on_air_until transmission f) old new
    ((repeated_stretch keeps programme transmission options rules).sends f low high) hears fresh row
    column named

-- A header of the page with C4 (erase page) set starts a new text, whether or not repeats may have
-- C4 clear.
erasing_header_begins_text : (keeps : Bool) (w : PageIdValue) (packet : List ℕ)
    → ErasesPageIfHeader w packet
    → is_this_page (kind w packet) ≡ true
    → begins_text keeps (kind w packet) ≡ true
erasing_header_begins_text keeps w packet erases this = grind (arith, nat_tests)

each_erasing_header_begins_text : (keeps : Bool) (w : PageIdValue) (packets : List (List ℕ)) (n : ℕ)
    → AllByRecursion (ErasesPageIfHeader w) packets
    → EachHeaderBegins (kind w) keeps (take n packets)
each_erasing_header_begins_text keeps w packets zero each = tt
each_erasing_header_begins_text keeps w [] (suc n) each = tt
each_erasing_header_begins_text keeps w (p ∷ ps) (suc n) each = (
  erasing_header_begins_text keeps w p each.0,
  each_erasing_header_begins_text keeps w ps n
      each.1,
)

module _ (one other : Bool) (w : PageIdValue) (packets : List (List ℕ))
    (erases : All (ErasesPageIfHeader w) packets) where
  text_span-of_erasing : (n : ℕ)
      → text_span one (kind w) (take n packets) ≡ text_span other (kind w) (take n packets)
  text_span-of_erasing n =
      let each = recursion_from_All (ErasesPageIfHeader w) packets erases in
      text_span-same (kind w) one (take n packets) (each_erasing_header_begins_text one w packets n
      each)
      ∙ sym (text_span-same (kind w) other (take n packets) (each_erasing_header_begins_text other w
      packets n each))

  kept-of_erasing : (row column : ℕ)
      → kept one w packets row column ≡ kept other w packets row column
  kept-of_erasing row column =
      ap (λ (ps : List (List ℕ)).
      unwrap_or
      (option_map (λ p. character_code (text_byte p column)) (find (λ p. is_row row (kind w p)) ps))
      space)
      (subst
      (λ (ps : List (List ℕ)). text_span one (kind w) ps ≡ text_span other (kind w) ps)
      (take_all (length packets) packets (le_refl (length packets)))
      (text_span-of_erasing (length packets)))

module _ (one other : Bool) (programme : ProgrammeValue) (transmission : Transmission)
    (options : OptionsValue)
    (each : EachPacket (ErasesPageIfHeader options.page) transmission) where
  every_header_erases : (f : ℕ)
      → All (ErasesPageIfHeader options.page) (on_air_until transmission f)
  every_header_erases f =
      packets_between-each (ErasesPageIfHeader options.page) transmission (first_frame transmission)
      (f + 1) each

  finishing_ignores_keeping : (f : ℕ)
      → IsFinishedFrame one programme transmission options f
      → IsFinishedFrame other programme transmission options f
  finishing_ignores_keeping f finished = grind
      (arith, nat_tests, kept-of_erasing, every_header_erases)

  some_finishing_ignores_keeping : (a b : ℕ)
      → HasFinishedFrame one programme transmission options a b
      → HasFinishedFrame other programme transmission options a b
  some_finishing_ignores_keeping a b some = (
    some.0,
    some.1,
    some.2,
    finishing_ignores_keeping
        some.0 some.3,
  )

  good_same :
      GoodWithRepeats one programme transmission options → GoodWithRepeats other programme
      transmission options
  good_same good = record {
    rules =
        let spans : (f n : ℕ)
        → f ≤ last_frame transmission
        → IsCleanSpan options.page
        (text_span other (kind options.page) (take n (on_air_until transmission f))) =
        λ f n high.
        subst (IsCleanSpan options.page)
        (text_span-of_erasing one other options.page (on_air_until transmission f)
        (every_header_erases f) n)
        (good.rules.spans f n high) in
        assumption (spans, each, good.rules);
    codes = λ f row column low high named.
        subst (IsDueWithin programme transmission options f row column)
        (kept-of_erasing one other options.page (on_air_until transmission f)
        (every_header_erases f) row
        column)
        (good.codes f row column low high named);
    again = λ start low high. some_finishing_ignores_keeping _ _ (good.again start low high);
    subtitles = λ k d l. some_finishing_ignores_keeping _ _ (good.subtitles k d l);
    ends = finishing_ignores_keeping _ good.ends;
  }

pub law_of_may_keep : LawOfMayKeep
law_of_may_keep programme transmission options good =
    good_same false true programme transmission options (good.rules.erases refl) good

pub law_of_erasing_headers : LawOfErasingHeaders
law_of_erasing_headers programme transmission options each good =
    good_same true false programme transmission options each good

module _ (programme : ProgrammeValue) (transmission : Transmission) (options : OptionsValue) where
  pub rules_of :
      KeepsRulesWithRepeats false programme transmission options
      → KeepsRules programme transmission options
  rules_of rules = record {
    not_empty = rules.not_empty;
    rising = rules.rising;
    whole = rules.whole;
    starts = rules.starts;
    lasts = rules.lasts;
    exact = rules.exact;
    serial = rules.serial;
    control = λ k d l m e n h is.
        assumption (rules.erases refl k d l m e n h is, rules.control k d l m e n h is);
    spans = λ f n high.
        subst (IsCleanSpan options.page)
        (text_span-none_keeps (kind options.page) (take n (on_air_until transmission f)))
        (rules.spans f n high);
    opens = rules.opens;
    repeats = rules.repeats;
    paced = rules.paced;
  }

  pub rules_by :
      KeepsRules programme transmission options
      → KeepsRulesWithRepeats false programme transmission options
  rules_by rules = record {
    not_empty = rules.not_empty;
    rising = rules.rising;
    whole = rules.whole;
    starts = rules.starts;
    lasts = rules.lasts;
    exact = rules.exact;
    serial = rules.serial;
    control = λ k d l m e n h is. assumption (rules.control k d l m e n h is);
    erases = λ none k d l m e n h is. (rules.control k d l m e n h is).erases;
    keeping = λ f n high below h is.
        inl (packets_between-each (ErasesPageIfHeader options.page) transmission
        (first_frame transmission) (f + 1)
        (λ k d l m e o head of. (rules.control k d l m e o head of).erases) n [] below h
        is);
    spans = λ f n high.
        subst (IsCleanSpan options.page)
        (sym (text_span-none_keeps (kind options.page) (take n (on_air_until transmission f))))
        (rules.spans f n high);
    opens = rules.opens;
    repeats = rules.repeats;
    paced = rules.paced;
  }

pub law_of_no_repeats : LawOfNoRepeats
law_of_no_repeats programme transmission options =
    (rules_of programme transmission options, rules_by programme transmission options)

module _ (keeps : Bool) (programme : ProgrammeValue) (transmission : Transmission)
    (options : OptionsValue) (more : ℕ) (longer : options.within ≤ more) where
  abbrev options_with_more_within : OptionsValue
  options_with_more_within = record options { within = more }

  -- A frame that is finished stays finished with a greater `within`.
  finished_longer :
      (f : ℕ)
      → IsFinishedFrame keeps programme transmission options f
      → IsFinishedFrame keeps programme transmission options_with_more_within f
  finished_longer f is = record { whole = is.whole; ended = is.ended }

  some_longer :
      (a b c : ℕ)
      → b ≤ c
      → HasFinishedFrame keeps programme transmission options a b
      → HasFinishedFrame keeps programme transmission options_with_more_within a c
  some_longer a b c order (f, from, to, is) = (f, from, omega arith, finished_longer f is)

  good_longer :
      GoodWithRepeats keeps programme transmission options → GoodWithRepeats keeps programme
      transmission
      options_with_more_within
  good_longer good = record {
    rules = assumption good.rules;
    codes = λ f row column low high named.
        elim (good.codes f row column low high named) [
          | inl spaced ↦ inl spaced
          | inr (e, first, before, near, due) ↦ inr (e, first, before, omega arith, due)
        ];
    again = λ start low high.
        some_longer start (start + options.within) (start + more) (omega arith)
        (good.again start low (omega arith));
    subtitles = λ k d within. some_longer _ _ _ (le_refl _) (good.subtitles k d within);
    ends = finished_longer (last_frame transmission) good.ends;
  }

pub law_of_longer_delay_with_repeats : LawOfLongerDelayWithRepeats
law_of_longer_delay_with_repeats = good_longer
