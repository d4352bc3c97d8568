-- The PES packets in a recording with losses are determined by the usable TS packets that are
-- recorded.
use Rattle.std.proofs.Common.{◌≡◌, ℕ, ◌+◌, ◌%◌, ◌≤◌, ◌⊎◌, inl, inr, Bool, true, false, ◌||◌, ◌==◌}
use Rattle.std.proofs.Common.{List, [], ◌∷◌, ◌++◌, length, length-append, map, None, refl, ap, ◌∙◌}
use Rattle.std.proofs.Common.{subst, arith, append_assoc, slice_index}
use Rattle.std.specs.List.{AllByRecursion, concat, flat_map, list_any}
use Rattle.std.proofs.lemmas.Bool.Decides.{nat_tests}
use Rattle.std.proofs.lemmas.Grind.{flat_map-append}
use Rattle.std.proofs.lemmas.List.Folds.{concat-append}
use Rattle.mpeg_ts.specs.CarriedPackets.{carried_bytes, with_gap_markers}
use Rattle.mpeg_ts.specs.GoodPackets.{GoodPackets, PidEvent, good_packets_after, empty_history}
use Rattle.mpeg_ts.specs.Parts.{outcomes_of}
use Rattle.mpeg_ts.specs.TransportPacket.{counter, payload}
use Rattle.recording_laws.specs.Losses.{IsRecordingWithLosses, UnitFate, SentUnit, IsPossibleFate}
use Rattle.recording_laws.specs.Losses.{IsDamagedUnit, any_unit_damaged}
use Rattle.recording_laws.specs.Losses.{recorded_bytes_of_unit}
use Rattle.recording_laws.specs.Losses.{sent_packet, recorded_units}
use Rattle.recording_laws.specs.Multiplex.{AreInSequence, AreNextCarriers, AreRecordedUnits}
use Rattle.recording_laws.specs.Multiplex.{Carrier}
use Rattle.recording_laws.specs.Multiplex.{IsCarrier, IsNextCarrier, IsRecordedUnit, IsRecording}
use Rattle.recording_laws.specs.Multiplex.{IsSentPes, Multiplex, SentPes, pid_announces_jump}
use Rattle.recording_laws.specs.Multiplex.{carriers_of}
use Rattle.recording_laws.specs.Multiplex.{items_of_carrier, items_of_multiplex, packet_in}
use Rattle.recording_laws.specs.Multiplex.{carriers_of_pes}
use Rattle.recording_laws.proofs.LossyCarrierLemmas.{AreCountersConsecutive, IsAnyLossyCarrier}
use Rattle.recording_laws.proofs.LossyCarrierLemmas.{carrier_announces_no_jump}
use Rattle.ttx_pes.specs.PesPackets.{IsPesPacket}
use Rattle.recording_laws.proofs.LossyNoteLemmas.{IsLossyUnit, IsLossyCarrier, good-quiets-left}
use Rattle.recording_laws.proofs.LossyNoteLemmas.{notes_of_unit}
use Rattle.recording_laws.proofs.LossyNoteLemmas.{history_after_loss}
use Rattle.recording_laws.proofs.RecordingLemmas.{notes_of_packet, pid_events-units}

none-left : (fs : List SentUnit)
    → map (λ (f : SentUnit). f.unit) fs ≡ []
    → recorded_units fs ≡ []
none-left [] none = refl
none-left (f ∷ fs) none = absurd (cc)

-- A damaged TS packet has the same sync byte and size, so a reader still finds it.
damaged_unit_is_recorded_unit : (distance number : ℕ) (unit other : List ℕ)
    → IsRecordedUnit distance unit
    → IsDamagedUnit distance number unit other
    → IsRecordedUnit distance other
damaged_unit_is_recorded_unit distance number unit other h1 h2 = grind (arith, nat_tests)

left-unit : (distance number : ℕ) (unit : List ℕ) (fate : UnitFate) (sent left : List (List ℕ))
    → IsPossibleFate distance number unit fate
    → IsRecordedUnit distance unit
    → (sent ≡ []) ⊎ (length unit ≡ distance)
    → (sent ≡ [] → left ≡ [])
    → AreRecordedUnits distance left
    → AreRecordedUnits distance (recorded_bytes_of_unit unit fate ++ left)
left-unit distance number unit fate sent left h1 h2 h3 h4 h5 =
    grind (arith, nat_tests, damaged_unit_is_recorded_unit)

left-units : (distance number : ℕ) (fs : List SentUnit)
    → AreRecordedUnits distance (map (λ (f : SentUnit). f.unit) fs)
    → AllByRecursion (λ (f : SentUnit). IsPossibleFate distance number f.unit f.fate) fs
    → AreRecordedUnits distance (recorded_units fs)
left-units distance number [] each fates = grind (arith, nat_tests)
left-units distance number (f ∷ fs) each fates =
    grind (arith, nat_tests, left-unit, none-left, (left-units distance number fs each.2 fates.1))

length-left_of : (distance number : ℕ) (unit : List ℕ) (fate : UnitFate)
    → IsPossibleFate distance number unit fate
    → length (concat (recorded_bytes_of_unit unit fate)) ≤ length unit
length-left_of distance number unit fate h1 = grind (arith, nat_tests, length-append)

length-left : (distance number : ℕ) (fs : List SentUnit)
    → AllByRecursion (λ (f : SentUnit). IsPossibleFate distance number f.unit f.fate) fs
    → length (concat (recorded_units fs)) ≤ length (concat (map (λ (f : SentUnit). f.unit) fs))
length-left distance number [] fates = omega arith
length-left distance number (f ∷ fs) fates =
    let one = length-left_of distance number f.unit f.fate fates.0 in
    let rest = length-left distance number fs fates.1 in
    omega (
      arith,
      length-append f.unit (concat (map (λ (f : SentUnit). f.unit) fs)),
      ap length (concat-append (recorded_bytes_of_unit f.unit f.fate) (recorded_units fs)),
      length-append (concat (recorded_bytes_of_unit f.unit f.fate)) (concat (recorded_units fs)),
    )

pid_events-left : (distance number : ℕ) (fs : List SentUnit)
    → flat_map (λ u. notes_of_packet number (packet_in distance u)) (recorded_units fs)
    ≡ flat_map (notes_of_unit distance number) fs
pid_events-left distance number [] = grind (arith, nat_tests)
pid_events-left distance number (f ∷ fs) =
    grind (
      arith,
      nat_tests,
      flat_map-append,
      notes_of_packet,
      notes_of_unit,
      (pid_events-left distance number fs),
    )

pub record IsLossyPes (distance number : ℕ) (s : SentPes SentUnit) : Type 0 where
  pub is_pes_packet : IsPesPacket s.bytes
  pub first : IsLossyCarrier distance number true s.first
  pub others : AllByRecursion (IsLossyCarrier distance number false) s.others
  pub joined :
      concat (map (λ c. payload (sent_packet distance c.packet)) (carriers_of_pes s)) ≡ s.bytes

module _ (distance number : ℕ) where
  all-left : (fs : List SentUnit)
      → AreRecordedUnits distance (map (λ (f : SentUnit). f.unit) fs)
      → AllByRecursion (λ (f : SentUnit). IsPossibleFate distance number f.unit f.fate) fs
      → AllByRecursion (λ f. pid_announces_jump number (sent_packet distance f) ≡ false) fs
      → AllByRecursion (IsLossyUnit distance number) fs
  all-left [] each fates none = tt
  all-left (f ∷ fs) each fates none = (
    record { recorded = each.0; fate = fates.0; no_jump = none.0 },
    all-left fs each.2 fates.1 none.1,
  )

  all-first : (xs ys : List SentUnit)
      → AllByRecursion (IsLossyUnit distance number) (xs ++ ys)
      → AllByRecursion (IsLossyUnit distance number) xs
  all-first [] ys each = tt
  all-first (x ∷ xs) ys each = (each.0, all-first xs ys each.1)

  all-second : (xs ys : List SentUnit)
      → AllByRecursion (IsLossyUnit distance number) (xs ++ ys)
      → AllByRecursion (IsLossyUnit distance number) ys
  all-second [] ys each = each
  all-second (x ∷ xs) ys each = all-second xs ys each.1

  left-carrier : (first : Bool) (c : Carrier SentUnit)
      → IsCarrier (sent_packet distance) number first c
      → AllByRecursion (IsLossyUnit distance number) (items_of_carrier c)
      → IsLossyCarrier distance number first c
  left-carrier first c h1 h2 = grind (arith, nat_tests, all-second, all-first)

  left-carriers : (cs : List (Carrier SentUnit)) (rest : List SentUnit)
      → AllByRecursion (IsCarrier (sent_packet distance) number false) cs
      → AllByRecursion (IsLossyUnit distance number) (flat_map items_of_carrier cs ++ rest)
      → AllByRecursion (IsLossyCarrier distance number false) cs
      × AllByRecursion (IsLossyUnit distance number) rest
  left-carriers [] rest is each = (tt, each)
  left-carriers (c ∷ cs) rest is each =
      let all = subst (AllByRecursion (IsLossyUnit distance number))
      (append_assoc (items_of_carrier c) (flat_map items_of_carrier cs) rest) each in
      let more = left-carriers cs rest is.1
      (all-second (items_of_carrier c) (flat_map items_of_carrier cs ++ rest) all) in (
        (
          left-carrier false c is.0
              (all-first (items_of_carrier c) (flat_map items_of_carrier cs ++ rest) all),
          more.0,
        ),
        more.1,
      )

  left-pes : (sent : List (SentPes SentUnit))
      → AllByRecursion (IsSentPes (sent_packet distance) number) sent
      → AllByRecursion (IsLossyUnit distance number) (flat_map items_of_carrier (carriers_of sent))
      → AllByRecursion (IsLossyPes distance number) sent
  left-pes [] is each = tt
  left-pes (s ∷ more) is each =
      let rest = flat_map items_of_carrier (carriers_of more) in
      let following = all-second (items_of_carrier s.first)
      (flat_map items_of_carrier (s.others ++ carriers_of more)) each in
      let others = left-carriers s.others rest is.0.others
      (subst (AllByRecursion (IsLossyUnit distance number))
      (flat_map-append items_of_carrier s.others (carriers_of more)) following) in (
        record {
          is_pes_packet = is.0.is_pes_packet;
          first =
              left-carrier true s.first is.0.first
              (all-first (items_of_carrier s.first)
              (flat_map items_of_carrier (s.others ++ carriers_of more)) each);
          others = others.0;
          joined = is.0.joined;
        },
        left-pes more is.1 others.1,
      )

  some-left : (cs more : List (Carrier SentUnit))
      → AllByRecursion (IsLossyCarrier distance number false) cs
      → AllByRecursion (IsAnyLossyCarrier distance number) more
      → AllByRecursion (IsAnyLossyCarrier distance number) (cs ++ more)
  some-left [] more each rest = rest
  some-left (c ∷ cs) more each rest = ((false, each.0), some-left cs more each.1 rest)

  pub all-carriers-left : (sent : List (SentPes SentUnit))
      → AllByRecursion (IsLossyPes distance number) sent
      → AllByRecursion (IsAnyLossyCarrier distance number) (carriers_of sent)
  all-carriers-left [] each = grind (arith, nat_tests)
  all-carriers-left (s ∷ more) each =
      grind (arith, nat_tests, some-left, (all-carriers-left more each.1))

  none-announced : (fs : List SentUnit)
      → AllByRecursion (IsLossyUnit distance number) fs
      → list_any (λ f. pid_announces_jump number (sent_packet distance f)) fs ≡ false
  none-announced [] each = refl
  none-announced (f ∷ fs) each =
      ap (λ (b : Bool). b || list_any (λ f. pid_announces_jump number (sent_packet distance f)) fs)
      each.0.no_jump
      ∙ none-announced fs each.1

  next-number : (a b j : ℕ) → a ≡ j % 16 → (b == (a + 1) % 16) ≡ true → b ≡ (j + 1) % 16
  next-number a b j first on = grind (arith, nat_tests)

  next-rises : (c d : Carrier SentUnit) (j : ℕ)
      → IsAnyLossyCarrier distance number c
      → IsAnyLossyCarrier distance number d
      → IsNextCarrier (sent_packet distance) number c d
      → counter (sent_packet distance c.packet) ≡ j % 16
      → counter (sent_packet distance d.packet) ≡ (j + 1) % 16
  next-rises c d j left_c left_d h first = elim h.counter [
    | inl on ↦
        next-number (counter (sent_packet distance c.packet))
        (counter (sent_packet distance d.packet)) j first on
    | inr jump ↦ elim jump [
      | inl between ↦ absurd (cc (between, none-announced c.after left_c.1.after))
      | inr here ↦
          absurd
          (cc (
            here.0,
            carrier_announces_no_jump number (sent_packet distance d.packet)
                left_d.1.is_carrier.carries left_d.1.packet.no_jump,
          ))
    ]
  ]

  next-rising : (c : Carrier SentUnit) (cs : List (Carrier SentUnit)) (j : ℕ)
      → IsAnyLossyCarrier distance number c
      → AllByRecursion (IsAnyLossyCarrier distance number) cs
      → AreNextCarriers (sent_packet distance) number c cs
      → counter (sent_packet distance c.packet) ≡ j % 16
      → AreCountersConsecutive distance number (j + 1) cs
  next-rising c [] j left_c each next first = tt
  next-rising c (d ∷ cs) j left_c each next first =
      let second = next-rises c d j left_c each.0 next.0 first in
      (second, next-rising d cs (j + 1) each.0 each.1 next.1 second)

  pub first_counter : List (Carrier SentUnit) → ℕ
  first_counter [] = 0
  first_counter (c ∷ cs) = counter (sent_packet distance c.packet)

  counter-number : (a : ℕ) → a % 16 ≡ (15 + a % 16 + 1 + 0) % 16
  counter-number a = omega arith

  -- Without announced jumps, the continuity counter increases by one, modulo 16, from each TS
  -- packet with payload to the next.
  all-rising : (cs : List (Carrier SentUnit))
      → AllByRecursion (IsAnyLossyCarrier distance number) cs
      → AreInSequence (sent_packet distance) number cs
      → AreCountersConsecutive distance number (15 + first_counter cs + 1 + 0) cs
  unfolding first_counter
  all-rising [] each linked_packet = tt
  all-rising (c ∷ cs) each linked_packet =
      let first = counter-number (slice_index (sent_packet distance c.packet) 3) in (
        first,
        next-rising c cs (15 + counter (sent_packet distance c.packet) + 1 + 0) each.0 each.1
            linked_packet
            first,
      )

module _ (distance number : ℕ) (m : Multiplex SentUnit) (recording : List ℕ) where
  all-units : IsRecordingWithLosses number distance m recording
      → AllByRecursion (IsLossyUnit distance number) (items_of_multiplex m)
  all-units h =
      all-left distance number (items_of_multiplex m) h.is_recording.each h.fates h.no_jump

  pub all-pes : IsRecordingWithLosses number distance m recording
      → AllByRecursion (IsLossyPes distance number) m.sent
  all-pes h =
      left-pes distance number m.sent h.is_multiplex.sent
      (all-second distance number m.lead (flat_map items_of_carrier (carriers_of m.sent))
      (all-units h))

  pub pes-rising : IsRecordingWithLosses number distance m recording
      → AreCountersConsecutive distance number
      (15 + first_counter distance number (carriers_of m.sent) + 1 + 0)
      (carriers_of m.sent)
  pes-rising h =
      all-rising distance number (carriers_of m.sent)
      (all-carriers-left distance number m.sent (all-pes h)) h.is_multiplex.in_sequence

  left-recording : IsRecordingWithLosses number distance m recording
      → IsRecording distance (recorded_units (items_of_multiplex m)) recording
  left-recording h = record {
    each = left-units distance number (items_of_multiplex m) h.is_recording.each h.fates;
    joined = h.left;
    few =
        let size = ap length h.left in
        let sent = ap length h.is_recording.joined in
        let few = h.is_recording.few in
        let less = length-left distance number (items_of_multiplex m) h.fates in
        omega arith;
  }

  pub carried_bytes-left : IsRecordingWithLosses number distance m recording
      → carried_bytes number distance recording
      ≡ with_gap_markers false false
      (outcomes_of
      (good_packets_after (history_after_loss None false (any_unit_damaged m.lead))
      (flat_map (notes_of_unit distance number) (flat_map items_of_carrier (carriers_of m.sent)))))
  unfolding carried_bytes
  carried_bytes-left h =
      ap
      (λ (ns : List PidEvent).
      with_gap_markers false false (outcomes_of (good_packets_after (empty_history None) ns)))
      (pid_events-units distance number (recorded_units (items_of_multiplex m)) recording
      (left-recording h)
      ∙ pid_events-left distance number (items_of_multiplex m)
      ∙ flat_map-append (notes_of_unit distance number) m.lead following)
      ∙ ap (λ (good : GoodPackets). with_gap_markers false false (outcomes_of good))
      (good-quiets-left distance number None false false m.lead
      (flat_map (notes_of_unit distance number) following)
      (all-first distance number m.lead following (all-units h)) h.is_multiplex.lead)
    where
      following : List SentUnit
      following = flat_map items_of_carrier (carriers_of m.sent)
