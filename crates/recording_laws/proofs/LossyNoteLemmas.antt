-- If a TS packet with payload or its repeat is recorded intact, and neither is a repeat of the last
-- accepted packet, the reader accepts one of the two.
use Rattle.std.proofs.Common.{◌≡◌, ℕ, Bool, true, false, ◌||◌, List, [], ◌∷◌, ◌++◌, Option, Some}
use Rattle.std.proofs.Common.{None, sym, ap, ◌∙◌, arith, append_assoc}
use Rattle.std.specs.List.{AllByRecursion, flat_map}
use Rattle.std.specs.Option.{option_to_list}
use Rattle.std.proofs.lemmas.Bool.Decides.{nat_tests}
use Rattle.std.proofs.lemmas.Grind.{flat_map-append}
use Rattle.std.proofs.lemmas.List.{append-nil}
use Rattle.std.proofs.lemmas.List.Folds.{list_any-append}
use Rattle.mpeg_ts.specs.GoodPackets.{PidEvent, PacketHistory, good_packets_after, is_repeat}
use Rattle.mpeg_ts.specs.GoodPackets.{linked_packet, with_good_packet}
use Rattle.recording_laws.specs.Losses.{UnitFate, SentUnit, IsPossibleFate, any_unit_intact}
use Rattle.recording_laws.specs.Losses.{any_unit_damaged}
use Rattle.recording_laws.specs.Losses.{is_recorded_intact}
use Rattle.recording_laws.specs.Losses.{is_recorded_damaged, recorded_bytes_of_unit, sent_packet}
use Rattle.recording_laws.specs.Multiplex.{Carrier, IsCarrier, IsRepetition, pid_announces_jump}
use Rattle.recording_laws.specs.Multiplex.{is_irrelevant}
use Rattle.recording_laws.specs.Multiplex.{IsRecordedUnit, items_of_carrier, packet_in}
use Rattle.recording_laws.proofs.CarrierLemmas.{good-packet, good-irrelevant, good-repeat}
use Rattle.recording_laws.proofs.CarrierLemmas.{is_repeat-again}
use Rattle.recording_laws.proofs.CarrierLemmas.{history_after_irrelevant}
use Rattle.recording_laws.proofs.RecordingLemmas.{notes_of_packet}

-- The history of a PID after the last accepted packet `good`, if any: `again` says whether its
-- repeat was read, and `wrong` whether an unusable packet was read. No jump was announced, and no
-- bytes were skipped.
abbrev pub history_after_loss : Option (List ℕ) → Bool → Bool → PacketHistory
history_after_loss good again wrong = record {
  good = good;
  has_repeat = again;
  has_jump = false;
  has_unusable_packet = wrong;
  has_loss = false;
}

pub or-assoc : (a b c : Bool) → ((a || b) || c) ≡ (a || (b || c))
or-assoc a b c = grind (arith, nat_tests)

pub or-false : (a : Bool) → (a || false) ≡ a
or-false a = grind (arith, nat_tests)

pub or-true : (a : Bool) → (a || true) ≡ true
or-true a = grind (arith, nat_tests)

module _ (distance number : ℕ) where
  abbrev pub notes_of_unit : SentUnit → List PidEvent
  notes_of_unit f = flat_map (λ u. notes_of_packet number (packet_in distance u))
      (recorded_bytes_of_unit f.unit f.fate)

  pub record IsLossyUnit (f : SentUnit) : Type 0 where
    pub recorded : IsRecordedUnit distance f.unit
    pub fate : IsPossibleFate distance number f.unit f.fate
    pub no_jump : pid_announces_jump number (sent_packet distance f) ≡ false

  good-lost : (good : Option (List ℕ)) (again wrong : Bool) (unit : List ℕ) (fate : UnitFate)
      (ns : List PidEvent)
      → IsPossibleFate distance number unit fate
      → is_recorded_intact fate ≡ false
      → good_packets_after (history_after_loss good again wrong)
      (flat_map (λ u. notes_of_packet number (packet_in distance u)) (recorded_bytes_of_unit unit
      fate) ++ ns)
      ≡ good_packets_after (history_after_loss good again (wrong || is_recorded_damaged fate)) ns
  unfolding good_packets_after
  good-lost good again wrong unit fate ns h1 h2 = grind (arith, nat_tests, or-false, or-true)

  good-irrelevant-left : (good : Option (List ℕ)) (again wrong : Bool) (unit : List ℕ)
      (fate : UnitFate)
      (ns : List PidEvent)
      → IsPossibleFate distance number unit fate
      → pid_announces_jump number (packet_in distance unit) ≡ false
      → is_irrelevant number (packet_in distance unit) ≡ true
      → good_packets_after (history_after_loss good again wrong)
      (flat_map (λ u. notes_of_packet number (packet_in distance u)) (recorded_bytes_of_unit unit
      fate) ++ ns)
      ≡ good_packets_after (history_after_loss good again (wrong || is_recorded_damaged fate)) ns
  good-irrelevant-left good again wrong unit fate ns h1 h2 h3 =
      grind (
        arith,
        nat_tests,
        append-nil,
        notes_of_packet,
        good-irrelevant,
        history_after_irrelevant,
        or-false,
        good-lost,
      )

  pub good-quiets-left : (good : Option (List ℕ)) (again wrong : Bool) (fs : List SentUnit)
      (ns : List PidEvent)
      → AllByRecursion IsLossyUnit fs
      → AllByRecursion (λ f. is_irrelevant number (sent_packet distance f) ≡ true) fs
      → good_packets_after (history_after_loss good again wrong) (flat_map notes_of_unit fs ++ ns)
      ≡ good_packets_after (history_after_loss good again (wrong || any_unit_damaged fs)) ns
  good-quiets-left good again wrong [] ns left irrelevant =
      ap (λ (w : Bool). good_packets_after (history_after_loss good again w) ns)
      (sym (or-false wrong))
  good-quiets-left good again wrong (f ∷ fs) ns left irrelevant =
      ap (good_packets_after (history_after_loss good again wrong))
      (append_assoc (notes_of_unit f) (flat_map notes_of_unit fs) ns)
      ∙ good-irrelevant-left good again wrong f.unit f.fate (flat_map notes_of_unit fs ++ ns)
      left.0.fate
      left.0.no_jump irrelevant.0
      ∙ good-quiets-left good again (wrong || is_recorded_damaged f.fate) fs ns left.1 irrelevant.1
      ∙ ap (λ (w : Bool). good_packets_after (history_after_loss good again w) ns)
      (or-assoc wrong (is_recorded_damaged f.fate) (any_unit_damaged fs))

  pub heard-kept : (unit : List ℕ) (fate : UnitFate)
      → is_recorded_intact fate ≡ true
      → flat_map (λ u. notes_of_packet number (packet_in distance u)) (recorded_bytes_of_unit unit
      fate)
      ≡ notes_of_packet number (packet_in distance unit)
  heard-kept unit fate h1 = grind (arith, nat_tests, append-nil, notes_of_packet)

  kept-not_wrong : (fate : UnitFate) → is_recorded_intact fate ≡ true → is_recorded_damaged fate ≡
      false
  kept-not_wrong fate h1 = grind (arith, nat_tests)

  good-again-left : (p : List ℕ) (wrong : Bool) (again : Option SentUnit) (ns : List PidEvent)
      → AllByRecursion IsLossyUnit (option_to_list again)
      → AllByRecursion (λ f. IsRepetition number p (sent_packet distance f)) (option_to_list again)
      → good_packets_after (history_after_loss (Some p) false wrong)
      (flat_map notes_of_unit (option_to_list again) ++ ns)
      ≡ good_packets_after
      (history_after_loss (Some p) (any_unit_intact (option_to_list again))
      (wrong || any_unit_damaged (option_to_list again))) ns
  good-again-left p wrong again ns h1 h2 =
      grind (
        arith,
        nat_tests,
        or-false,
        append-nil,
        heard-kept,
        good-repeat,
        is_repeat-again,
        kept-not_wrong,
        good-lost,
      )

  abbrev pub repeat_or_packet : Option SentUnit → List ℕ → List ℕ
  repeat_or_packet None p = p
  repeat_or_packet (Some f) p = sent_packet distance f

  pub record IsLossyCarrier (first : Bool) (c : Carrier SentUnit) : Type 0 where
    pub is_carrier : IsCarrier (sent_packet distance) number first c
    pub packet : IsLossyUnit c.packet
    pub before : AllByRecursion IsLossyUnit c.before
    pub again : AllByRecursion IsLossyUnit (option_to_list c.again)
    pub after : AllByRecursion IsLossyUnit c.after

  pub heard-carrier : (c : Carrier SentUnit) (ns : List PidEvent)
      → flat_map notes_of_unit (items_of_carrier c) ++ ns
      ≡ notes_of_unit c.packet ++ (flat_map notes_of_unit c.before
      ++ (flat_map notes_of_unit (option_to_list c.again) ++ (flat_map notes_of_unit c.after ++
      ns)))
  heard-carrier c ns = simp (flat_map-append, append_assoc)

  wrong-of_three : (a b c : List SentUnit)
      → any_unit_damaged (a ++ (b ++ c)) ≡ ((any_unit_damaged a || any_unit_damaged b) ||
      any_unit_damaged c)
  wrong-of_three a b c = grind (arith, nat_tests, list_any-append, or-assoc)

  -- If a TS packet with payload is recorded intact and is no repeat of the last accepted packet,
  -- the reader accepts it, and none of the items up to the next TS packet with payload.
  pub good-first : (good : Option (List ℕ)) (again wrong first : Bool) (c : Carrier SentUnit)
      (ns : List PidEvent)
      → IsLossyCarrier first c
      → is_recorded_intact c.packet.fate ≡ true
      → is_repeat (history_after_loss good again wrong) (sent_packet distance c.packet) ≡ false
      → good_packets_after (history_after_loss good again wrong)
      (flat_map notes_of_unit (items_of_carrier c)
      ++ ns)
      ≡ with_good_packet (linked_packet (history_after_loss good again wrong)
      (sent_packet distance c.packet))
      (good_packets_after
      (history_after_loss (Some (sent_packet distance c.packet))
      (any_unit_intact (option_to_list c.again))
      (any_unit_damaged (c.before ++ (option_to_list c.again ++ c.after)))) ns)
  good-first good again wrong first c ns h1 h2 h3 =
      grind (
        arith,
        nat_tests,
        heard-carrier,
        heard-kept,
        good-packet,
        good-quiets-left,
        good-again-left,
        wrong-of_three,
      )

  pub good-empty_first_gives_nothing : (good : Option (List ℕ)) (again wrong first : Bool)
      (c : Carrier SentUnit)
      (ns : List PidEvent)
      → IsLossyCarrier first c
      → is_recorded_intact c.packet.fate ≡ false
      → good_packets_after (history_after_loss good again wrong)
      (flat_map notes_of_unit (items_of_carrier c)
      ++ ns)
      ≡ good_packets_after (history_after_loss good again
      (wrong || any_unit_damaged (c.packet ∷ c.before)))
      (flat_map notes_of_unit (option_to_list c.again) ++ (flat_map notes_of_unit c.after ++ ns))
  good-empty_first_gives_nothing good again wrong first c ns h1 h2 =
      grind (arith, nat_tests, heard-carrier, good-lost, good-quiets-left, or-assoc)

  -- If only the repeat of a TS packet is recorded intact, and it does not repeat the last accepted
  -- packet, the reader accepts it.
  pub good-second : (good : Option (List ℕ)) (again wrong : Bool) (p : List ℕ) (o : Option SentUnit)
      (after : List SentUnit) (ns : List PidEvent)
      → AllByRecursion (λ f. IsRepetition number p (sent_packet distance f)) (option_to_list o)
      → AllByRecursion IsLossyUnit after
      → AllByRecursion (λ f. is_irrelevant number (sent_packet distance f) ≡ true) after
      → any_unit_intact (option_to_list o) ≡ true
      → is_repeat (history_after_loss good again wrong) (repeat_or_packet o p) ≡ false
      → good_packets_after (history_after_loss good again wrong)
      (flat_map notes_of_unit (option_to_list o) ++ (flat_map notes_of_unit after ++ ns))
      ≡ with_good_packet (linked_packet (history_after_loss good again wrong)
      (repeat_or_packet o p))
      (good_packets_after (history_after_loss (Some (repeat_or_packet o p)) false
      (any_unit_damaged after)) ns)
  good-second good again wrong p o after ns h1 h2 h3 h4 h5 =
      grind (arith, nat_tests, append-nil, heard-kept, or-false, good-packet, good-quiets-left)

  pub good-no-intact-repeat : (good : Option (List ℕ)) (again wrong : Bool)
      (o : Option SentUnit)
      (after : List SentUnit) (ns : List PidEvent)
      → AllByRecursion IsLossyUnit (option_to_list o)
      → AllByRecursion IsLossyUnit after
      → AllByRecursion (λ f. is_irrelevant number (sent_packet distance f) ≡ true) after
      → any_unit_intact (option_to_list o) ≡ false
      → good_packets_after (history_after_loss good again wrong)
      (flat_map notes_of_unit (option_to_list o) ++ (flat_map notes_of_unit after ++ ns))
      ≡ good_packets_after
      (history_after_loss good again ((wrong || any_unit_damaged (option_to_list o)) ||
      any_unit_damaged after))
      ns
  good-no-intact-repeat good again wrong o after ns h1 h2 h3 h4 =
      grind (arith, nat_tests, good-quiets-left, or-false, append-nil, good-lost)
