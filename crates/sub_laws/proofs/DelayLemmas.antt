-- Receivers that may erase the page at any header recover if repeats send the same text as before.
use Rattle.std.proofs.lemmas.Bool.Decides.{nat_tests}
use Rattle.std.proofs.Common.{◌≡◌, ℕ, ◌≤◌, inl, inr, Bool, true, false, List}
use Rattle.std.proofs.Common.{Option, option_map, unwrap_or, ap, sym, ◌∙◌, subst, arith}
use Rattle.std.proofs.Common.{le_trans}
use Rattle.std.specs.List.{list_any}
use Rattle.std.proofs.lemmas.Bool.{cases_Bool, cases_eq, true≢false}
use Rattle.ttx_packet.specs.Parity.{character_code}
use Rattle.ttx_packet.specs.RowPacket.{text_byte}
use Rattle.ttx_page.specs.Page.{cell, space}
use Rattle.ttx_page.specs.PacketKind.{is_row, kind}
use Rattle.ttx_page.specs.Receiver.{ReceiverClass, State}
use Rattle.ttx_page.specs.Repeats.{IsFresh}
use Rattle.ttx_page.specs.Shown.{kept, shown}
use Rattle.ttx_page.specs.Span.{has_page_header, span}
use Rattle.ttx_page.proofs.RepeatLaws.{kept_text_is_shown_text, law_of_keeping_receivers}
use Rattle.ttx_page.proofs.ScreenLaws as screens
use Rattle.ttx_page.proofs.SpanListLemmas.{find_none}
use Rattle.ttx_page.proofs.TextSpan.{beginning-none_keeps}
use Rattle.stl_rows.specs.Programme.{ProgrammeValue}
use Rattle.sub_plan.specs.Options.{OptionsValue}
use Rattle.sub_plan.specs.Schedule.{due_page_in}
use Rattle.sub_rules.specs.Kept.{IsRight, LawOfRightCells}
use Rattle.sub_rules.specs.Repeats.{FinishesRegularly, IsPageClosed, IsDueWithin, IsFinishedFrame}
use Rattle.sub_rules.specs.Repeats.{IsCorrectPage, KeepsDueCodes}
use Rattle.sub_rules.specs.Transmission.{Transmission, on_air, on_air_until}
use Rattle.sub_laws.specs.WithoutDelay.{LawOfTrustWithoutDelay}
use Rattle.sub_laws.specs.OnScreen.{CompleteWithin, ShownWithin}
use Rattle.sub_laws.specs.Recovery.{RecoversWithin}
use Rattle.sub_laws.specs.Repeats.{HoldsIfForgetful, IsSoundStretchWithRepeats}
use Rattle.sub_laws.specs.Repeats.{LawOfRepeatedStretch, RecoversIfForgetful, ShownIfForgetful}
use Rattle.sub_laws.proofs.SoundStretchLemmas.{ended, forgetting, got_as, span_so_far}
use Rattle.sub_laws.proofs.SoundStretchLemmas.{window_has_header}

pub law_of_right_cells : LawOfRightCells
law_of_right_cells page packets due row column = (
  λ right. sym same ∙ right.kept_eq,
  λ shows. record {
    kept_eq = same ∙ shows;
    again = λ other. elim (cases_Bool (list_any test (span (kind page) packets))) [
      | inl some ↦ some
      | inr none ↦
          let gone = find_none test (span (kind page) packets) none in
          absurd (other (sym shows ∙ ap
          (λ (o : Option (List ℕ)).
          unwrap_or (option_map (λ p. character_code (text_byte p column)) o) space) gone))
    ];
  },
)
  where
    test : List ℕ → Bool
    test packet = is_row row (kind page packet)

    same : kept false page packets row column ≡ shown page packets row column
    same = kept_text_is_shown_text page packets row column

module _ (keeps anew : Bool) (class : ReceiverClass) (programme : ProgrammeValue)
    (transmission : Transmission) (options : OptionsValue) (a b : ℕ)
    (stretch : IsSoundStretchWithRepeats keeps transmission options a b)
    (codes : KeepsDueCodes keeps programme transmission options a b) where
  pub recovers_forgetting :
      RecoversIfForgetful keeps anew class programme transmission options a b
  recovers_forgetting g j f arrived got old new is hears =
      let low = le_trans is.listening.from is.listening.in_order in
      let ends =
      forgetting keeps transmission options a b stretch g j f arrived got is anew class old new
      hears
      in
      record {
        in_time = window_has_header keeps transmission options a b stretch g j f is.listening;
        heard = ends.heard;
        is_open = ends.is_open;
        codes = λ holds fresh row column named.
            elim (ends.cells holds fresh row column named) [
              | inl same ↦
                  subst (IsDueWithin programme transmission options f row column) (sym same)
                  (codes f row column low is.listening.to named)
              | inr spaced ↦ inl spaced.0
            ];
        cells = λ holds fresh whole row column named.
            elim (ends.cells holds fresh row column named) [
              | inl same ↦ inl (same ∙ (whole row column named).kept_eq)
              | inr (spaced, inl excused) ↦ inr (spaced, excused)
              | inr (spaced, inr none) ↦
                  let all = span_so_far keeps transmission options a b stretch g j f is.listening
                  holds in
                  inl (spaced ∙ sym (due_space row column (whole row column named)
                  (ap (list_any (λ packet. is_row row (kind options.page packet))) all ∙ none)))
            ];
      }
    where
      due_space :
          (row column : ℕ)
          → IsRight keeps options.page (on_air_until transmission f) (due_page_in programme f) row
          column
          → list_any (λ packet. is_row row (kind options.page packet))
          (span (kind options.page) (on_air_until transmission f))
          ≡ false
          → cell (due_page_in programme f) row column ≡ space
      due_space row column right none =
          elim (cases_eq (cell (due_page_in programme f) row column) space) [
            | inl same ↦ same
            | inr other ↦ absurd (true≢false (sym (right.again other) ∙ none))
          ]

  pub forgetful_receiver_shows_page : ShownIfForgetful keeps anew class programme transmission
      options a b
  forgetful_receiver_shows_page g j f arrived got old new is run holds fresh whole shut =
      let receiver_state =
      recovers_forgetting g j f arrived got old.receiver_state new.receiver_state is
      (screens.held_forgetting class anew options.page got old new run) in
      let closed = ended keeps transmission options a b stretch g j f is.listening shut holds in
      let open_eq = receiver_state.is_open in
      let shut_now : new.receiver_state.is_open ≡ false = grind (arith, nat_tests) in (
        new.receiver_state.page,
        screens.law_of_repeat_screen class anew options.page got old new run
            (got_as keeps transmission options a b stretch g j f arrived got is ∙ holds) shut_now,
        receiver_state.cells holds fresh whole,
      )

module _ (keeps anew : Bool) (class : ReceiverClass) (programme : ProgrammeValue)
    (transmission : Transmission) (options : OptionsValue) (a b : ℕ)
    (whole : (f : ℕ) → a ≤ f → f ≤ b → IsCorrectPage keeps programme options.page transmission f)
    (recovers : RecoversIfForgetful keeps anew class programme transmission options a b) where
  page_holds_without_delay : HoldsIfForgetful keeps anew class programme transmission options a b
  page_holds_without_delay g j f arrived got old new is hears holds fresh =
      (recovers g j f arrived got old new is hears).cells holds fresh
      (whole f (le_trans is.listening.from is.listening.in_order) is.listening.to)

pub finished_at_once :
    (keeps : Bool) (programme : ProgrammeValue) (transmission : Transmission)
    (options : OptionsValue) (a b : ℕ)
    → options.within ≡ 0
    → FinishesRegularly keeps programme transmission options a b
    → (f : ℕ)
    → a ≤ f
    → f ≤ b
    → IsFinishedFrame keeps programme transmission options f
finished_at_once keeps programme transmission options a b none again f low high =
    let found = again f low (omega (arith, none, high)) in
    subst (IsFinishedFrame keeps programme transmission options)
    (omega (arith, none, found.1, found.2)) found.3

pub law_of_repeated_stretch : LawOfRepeatedStretch
law_of_repeated_stretch keeps programme transmission options a b stretch codes = (
  λ anew class. (recovers anew class, shown anew class),
  λ stretch_finishes_in_time. record {
    recovers = recovers;
    shown = shown;
    stretch_finishes_in_time = stretch_finishes_in_time;
    at_once = λ none anew class.
        page_holds_without_delay keeps anew class programme transmission options a b
        (λ f low high.
        (finished_at_once keeps programme transmission options a b none
        stretch_finishes_in_time.again f low
        high).whole)
        (recovers anew class);
  },
)
  where
    recovers : (anew : Bool) (class : ReceiverClass)
        → RecoversIfForgetful keeps anew class programme transmission options a b
    recovers anew class =
        recovers_forgetting keeps anew class programme transmission options a b stretch codes

    shown : (anew : Bool) (class : ReceiverClass)
        → ShownIfForgetful keeps anew class programme transmission options a b
    shown anew class =
        forgetful_receiver_shows_page keeps anew class programme transmission options a b stretch
        codes

pub ended_of_complete :
    (transmission : Transmission) (options : OptionsValue) (a b f : ℕ)
    → CompleteWithin transmission options a b
    → a ≤ f
    → f ≤ b
    → IsPageClosed options.page transmission f
ended_of_complete transmission options a b f complete low high = grind (arith, nat_tests)

module _ (programme : ProgrammeValue) (transmission : Transmission) (options : OptionsValue)
    (a b : ℕ)
    (whole : (f : ℕ) → a ≤ f → f ≤ b → IsCorrectPage false programme options.page transmission f)
    (class : ReceiverClass) where
  fresh_at :
      (sent : List (List ℕ)) (old : State)
      → has_page_header (kind options.page) sent ≡ true
      → IsFresh false false options.page sent old
  fresh_at sent old holds = inr (inl (beginning-none_keeps (kind options.page) sent ∙ holds))

  pub recovers_at_once :
      RecoversIfForgetful false false class programme transmission options a b
      → RecoversWithin class programme transmission options a b
  recovers_at_once recovers g j f arrived got old new is hears =
      let served =
      recovers g j f arrived got old new is
      (law_of_keeping_receivers class options.page got old new hears) in
      let open_eq = served.is_open in
      record {
        in_time = served.in_time;
        heard = served.heard;
        cells = λ holds.
            served.cells holds (fresh_at (on_air transmission g j f) old holds)
            (whole f (le_trans is.listening.from is.listening.in_order) is.listening.to);
        is_open = λ holds. grind (arith, nat_tests);
      }

  pub shown_at_once :
      ShownIfForgetful false false class programme transmission options a b
      → CompleteWithin transmission options a b
      → ShownWithin class programme transmission options a b
  shown_at_once shown complete g j f arrived got old new is run holds =
      let low = le_trans is.listening.from is.listening.in_order in
      shown g j f arrived got old new is
      (screens.shows_forgetting class options.page got old new run) holds
      (fresh_at (on_air transmission g j f) old.receiver_state holds) (whole f low is.listening.to)
      (ended_of_complete transmission options a b f complete low is.listening.to)

-- If `within` is 0 and each header must have C4 (erase page) set, the guarantees for repeats
-- include the guarantees without repeats.
pub law_of_trust_without_delay : LawOfTrustWithoutDelay
law_of_trust_without_delay programme transmission options a b none trusted = record {
  recovers = λ class.
      recovers_at_once programme transmission options a b whole class
      (trusted.recovers false class);
  shown = λ complete class.
      shown_at_once programme transmission options a b whole class (trusted.shown false class)
      complete;
}
  where
    whole :
        (f : ℕ) → a ≤ f → f ≤ b → IsCorrectPage false programme options.page transmission f
    whole f low high =
        (finished_at_once false programme transmission options a b none
        trusted.stretch_finishes_in_time.again f low
        high).whole
