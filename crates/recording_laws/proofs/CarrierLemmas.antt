-- Each TS packet with payload that a multiplexer sends is accepted by the reader.
use Rattle.std.proofs.Common.{◌≡◌, ℕ, ◌+◌, ◌%◌, ◌<◌, inl, inr, Bool, true, false, ◌||◌, ◌==◌, List}
use Rattle.std.proofs.Common.{[], ◌∷◌, ◌++◌, Option, Some, refl, sym, ap, ◌∙◌}
use Rattle.std.proofs.Common.{arith, append_assoc}
use Rattle.std.specs.List.{AllByRecursion, flat_map, list_any}
use Rattle.std.specs.Option.{option_to_list, is_some}
use Rattle.std.proofs.lemmas.Bool.Decides.{nat_tests}
use Rattle.std.proofs.lemmas.Grind.{flat_map-append}
use Rattle.std.proofs.lemmas.List.{append-nil, get_or-take}
use Rattle.std.proofs.lemmas.Slice.Eq.{bytes_eq-Decides}
use Rattle.mpeg_ts.specs.GoodPackets.{PidEvent, PacketHistory, empty_history, good_packets_after}
use Rattle.mpeg_ts.specs.GoodPackets.{linked_packet}
use Rattle.mpeg_ts.specs.GoodPackets.{is_repeat}
use Rattle.mpeg_ts.specs.GoodPackets.{has_same_header_and_payload, counter_is_next}
use Rattle.mpeg_ts.specs.GoodPackets.{with_good_packet, GoodPacket}
use Rattle.mpeg_ts.specs.GoodPackets.{Follows, link_from}
use Rattle.mpeg_ts.specs.Parts.{is_break}
use Rattle.mpeg_ts.specs.TransportPacket.{counter, begins}
use Rattle.recording_laws.specs.Multiplex.{Carrier, IsCarrier, IsRepetition, IsNextCarrier}
use Rattle.recording_laws.specs.Multiplex.{is_irrelevant}
use Rattle.recording_laws.specs.Multiplex.{carries, pid_announces_jump, items_of_carrier}
use Rattle.recording_laws.specs.Multiplex.{AreNextCarriers}
use Rattle.recording_laws.proofs.RecordingLemmas.{notes_of_packet}

-- The history of a PID after a TS packet without payload; the second argument says whether this
-- packet announces a jump.
abbrev pub history_after_irrelevant : PacketHistory → Bool → PacketHistory
history_after_irrelevant history jump = record history { has_jump = history.has_jump || jump }

history_after_irrelevant-none : (history : PacketHistory) → history_after_irrelevant history false ≡
    history
history_after_irrelevant-none history = grind (arith, nat_tests)

history_after_irrelevant-twice : (history : PacketHistory) (a b : Bool)
    → history_after_irrelevant (history_after_irrelevant history a) b ≡ history_after_irrelevant
    history (a || b)
history_after_irrelevant-twice history a b = grind (arith, nat_tests)

pub good-irrelevant : (number : ℕ) (history : PacketHistory) (p : List ℕ) (ns : List PidEvent)
    → is_irrelevant number p ≡ true
    → good_packets_after history (notes_of_packet number p ++ ns)
    ≡ good_packets_after (history_after_irrelevant history (pid_announces_jump number p)) ns
unfolding good_packets_after
good-irrelevant number history p ns h1 = grind (arith, nat_tests, history_after_irrelevant-none)

pub good-packet : (number : ℕ) (history : PacketHistory) (p : List ℕ) (ns : List PidEvent)
    → carries number p ≡ true
    → is_repeat history p ≡ false
    → good_packets_after history (notes_of_packet number p ++ ns)
    ≡ with_good_packet (linked_packet history p) (good_packets_after (empty_history (Some p)) ns)
unfolding good_packets_after
good-packet number history p ns carried_bytes fresh = grind (arith, nat_tests)

pub good-repeat : (number : ℕ) (history : PacketHistory) (p : List ℕ) (ns : List PidEvent)
    → carries number p ≡ true
    → is_repeat history p ≡ true
    → good_packets_after history (notes_of_packet number p ++ ns)
    ≡ good_packets_after (record history { has_repeat = true }) ns
unfolding good_packets_after
good-repeat number history p ns carried_bytes again = grind (arith, nat_tests)

-- A TS packet that is sent a second time is read as a repeat.
pub is_repeat-again : (number : ℕ) (p q : List ℕ)
    → IsRepetition number p q
    → is_repeat (empty_history (Some p)) q ≡ true
is_repeat-again number p q h = grind (arith, nat_tests, h.same, h.jump)

pub counter-same : (p q : List ℕ) → has_same_header_and_payload p q ≡ true → counter p ≡ counter q
counter-same p q h1 = grind (arith, nat_tests, bytes_eq-Decides, get_or-take)

next-counter : (c : ℕ) → c < 16 → (c == (c + 1) % 16) ≡ true → ⊥
next-counter c small e = grind (arith, nat_tests)

-- A TS packet with the next continuity counter differs from the packet before it, so it is not a
-- repeat.
pub not-same : (p q : List ℕ) → counter_is_next p q ≡ true → has_same_header_and_payload p q ≡ false
not-same p q h1 = grind (arith, nat_tests, counter-same, next-counter)

module _ {A : Type 0} (packet_of : A → List ℕ) (number : ℕ) where
  abbrev pub heard : A → List PidEvent
  heard x = notes_of_packet number (packet_of x)

  -- The history of a PID after a TS packet with payload and all items up to the next TS packet with
  -- payload.
  abbrev pub history_after_carrier : Carrier A → PacketHistory
  history_after_carrier c = record {
    good = Some (packet_of c.packet);
    has_repeat = is_some c.again;
    has_jump = list_any (λ x. pid_announces_jump number (packet_of x)) c.after;
    has_unusable_packet = false;
    has_loss = false;
  }

  pub good-quiets : (history : PacketHistory) (xs : List A) (ns : List PidEvent)
      → AllByRecursion (λ x. is_irrelevant number (packet_of x) ≡ true) xs
      → good_packets_after history (flat_map heard xs ++ ns)
      ≡ good_packets_after (history_after_irrelevant history
      (list_any (λ x. pid_announces_jump number (packet_of x))
      xs)) ns
  good-quiets history [] ns irrelevant =
      ap (λ (s : PacketHistory). good_packets_after s ns)
      (sym (history_after_irrelevant-none history))
  good-quiets history (x ∷ xs) ns irrelevant =
      let p = packet_of x in
      let one = pid_announces_jump number p in
      let others = list_any (λ y. pid_announces_jump number (packet_of y)) xs in
      ap (good_packets_after history) (append_assoc (heard x) (flat_map heard xs) ns)
      ∙ good-irrelevant number history p (flat_map heard xs ++ ns) irrelevant.0
      ∙ good-quiets (history_after_irrelevant history one) xs ns irrelevant.1
      ∙ ap (λ (s : PacketHistory). good_packets_after s ns) (history_after_irrelevant-twice history
      one
      others)

  pub good-silent : (history : PacketHistory) (xs : List A) (ns : List PidEvent)
      → AllByRecursion (λ x. is_irrelevant number (packet_of x) ≡ true) xs
      → AllByRecursion (λ x. pid_announces_jump number (packet_of x) ≡ false) xs
      → good_packets_after history (flat_map heard xs ++ ns) ≡ good_packets_after history ns
  good-silent history [] ns irrelevant none = refl
  good-silent history (x ∷ xs) ns irrelevant none =
      let p = packet_of x in
      let same : history_after_irrelevant history (pid_announces_jump number p) ≡ history =
      rw none.0 (history_after_irrelevant-none history) in
      ap (good_packets_after history) (append_assoc (heard x) (flat_map heard xs) ns)
      ∙ good-irrelevant number history p (flat_map heard xs ++ ns) irrelevant.0
      ∙ ap (λ (s : PacketHistory). good_packets_after s (flat_map heard xs ++ ns)) same
      ∙ good-silent history xs ns irrelevant.1 none.1

  good-again : (p : List ℕ) (again : Option A) (ns : List PidEvent)
      → AllByRecursion (λ x. IsRepetition number p (packet_of x)) (option_to_list again)
      → good_packets_after (empty_history (Some p)) (flat_map heard (option_to_list again) ++ ns)
      ≡ good_packets_after (record (empty_history (Some p)) { has_repeat = is_some again }) ns
  good-again p again ns h1 = grind (arith, nat_tests, append-nil, good-repeat, is_repeat-again)

  -- If the carrier's TS packet with payload is no repeat of an earlier one, it is the only one of
  -- the carrier's items that the reader accepts, whatever events follow.
  pub good-carrier : (history : PacketHistory) (c : Carrier A) (ns : List PidEvent) (first : Bool)
      → IsCarrier packet_of number first c
      → is_repeat history (packet_of c.packet) ≡ false
      → good_packets_after history (flat_map heard (items_of_carrier c) ++ ns)
      ≡ with_good_packet (linked_packet history (packet_of c.packet))
      (good_packets_after (history_after_carrier c) ns)
  good-carrier history c ns first h fresh =
      ap (good_packets_after history) split
      ∙ good-packet number history p (before ++ (again ++ (after ++ ns))) h.carries fresh
      ∙ ap (with_good_packet (linked_packet history p)) (
      good-silent (empty_history (Some p)) c.before (again ++ (after ++ ns)) h.before h.no_jump
      ∙ good-again p c.again (after ++ ns) h.again
      ∙ good-quiets (record (empty_history (Some p)) { has_repeat = is_some c.again }) c.after ns
      h.after
      )
    where
      p : List ℕ
      p = packet_of c.packet

      before : List PidEvent
      before = flat_map heard c.before

      again : List PidEvent
      again = flat_map heard (option_to_list c.again)

      after : List PidEvent
      after = flat_map heard c.after

      split : flat_map heard (items_of_carrier c) ++ ns
          ≡ heard c.packet ++ (before ++ (again ++ (after ++ ns)))
      split = simp (flat_map-append, append_assoc)

  -- If a multiplexer may send `d` as the next carrier after `c`, the reader does not take the TS
  -- packet with payload of `d` for a repeat of that of `c`.
  pub next-fresh : (c d : Carrier A)
      → IsNextCarrier packet_of number c d
      → is_repeat (history_after_carrier c) (packet_of d.packet) ≡ false
  next-fresh c d h =
      let differs = not-same (packet_of c.packet) (packet_of d.packet) in
      elim h.counter [
        | inl on ↦ rw (differs on)
        | inr jump ↦ grind (arith, nat_tests)
      ]

  -- The reader finds no loss between two consecutive TS packets with payload of a multiplexer.
  pub next-unbroken : (c d : Carrier A)
      → IsNextCarrier packet_of number c d
      → is_break (link_from (Some (packet_of c.packet)) (history_after_carrier c)
      (packet_of d.packet))
      ≡ false
  next-unbroken c d h1 = grind (arith, nat_tests)

  -- Within a PES packet, each TS packet with payload continues the one before it.
  pub next-follows : (c d : Carrier A)
      → IsNextCarrier packet_of number c d
      → begins (packet_of d.packet) ≡ false
      → link_from (Some (packet_of c.packet)) (history_after_carrier c) (packet_of d.packet) ≡
      Follows
  next-follows c d h1 h2 = grind (arith, nat_tests)

  abbrev pub goods : PacketHistory → List (Carrier A) → List GoodPacket
  goods history [] = []
  goods history (c ∷ more) = linked_packet history (packet_of c.packet) ∷ goods
      (history_after_carrier c)
      more

  abbrev pub IsAnyCarrier : Carrier A → Type 0
  IsAnyCarrier c = (first : Bool) × IsCarrier packet_of number first c

  -- All TS packets with payload that a multiplexer sends are accepted by the reader, in order.
  pub good-carriers : (c : Carrier A) (more : List (Carrier A))
      → AllByRecursion IsAnyCarrier more
      → AreNextCarriers packet_of number c more
      → good_packets_after (history_after_carrier c)
      (flat_map heard (flat_map items_of_carrier more))
      ≡ record { packets = goods (history_after_carrier c) more; wrong_after = false }
  unfolding good_packets_after
  good-carriers c [] each next = refl
  good-carriers c (d ∷ more) each next =
      ap (good_packets_after (history_after_carrier c))
      (flat_map-append heard (items_of_carrier d) (flat_map items_of_carrier more))
      ∙ good-carrier (history_after_carrier c) d (flat_map heard (flat_map items_of_carrier more))
      each.0.0
      each.0.1 (next-fresh c d next.0)
      ∙ ap (with_good_packet (linked_packet (history_after_carrier c) (packet_of d.packet)))
      (good-carriers d more each.1 next.1)
