-- A complete recording carries exactly the PES packets that a multiplexer sent.
use Rattle.std.proofs.lemmas.Bool.Decides.{nat_tests}
use Rattle.std.proofs.Common.{arith}
use Rattle.std.proofs.Common.{◌≡◌, ℕ, Bool, true, false, List, [], ◌∷◌, ◌++◌, map, None, refl, sym}
use Rattle.std.proofs.Common.{ap, ◌∙◌}
use Rattle.std.specs.List.{AllByRecursion, concat, flat_map, list_any}
use Rattle.std.proofs.lemmas.Grind.{flat_map-append}
use Rattle.std.proofs.lemmas.List.{append-nil}
use Rattle.ttx_pes.specs.PesPackets.{IsPesPacket}
use Rattle.mpeg_ts.specs.CarriedPackets.{carried_bytes, with_gap_markers}
use Rattle.mpeg_ts.specs.GoodPackets.{GoodPacket, GoodPackets, PidEvent, PacketHistory}
use Rattle.mpeg_ts.specs.GoodPackets.{good_packets_after}
use Rattle.mpeg_ts.specs.GoodPackets.{linked_packet}
use Rattle.mpeg_ts.specs.GoodPackets.{empty_history, with_good_packet}
use Rattle.mpeg_ts.specs.Parts.{Part, begins_part, part_bytes, outcomes, outcomes_of}
use Rattle.mpeg_ts.specs.Parts.{single_packet_part}
use Rattle.mpeg_ts.specs.Parts.{parts_from, with_packet}
use Rattle.mpeg_ts.specs.TransportPacket.{begins, payload}
use Rattle.recording_laws.specs.Laws.{LawOfMultiplex}
use Rattle.recording_laws.specs.Multiplex.{AreInSequence, AreNextCarriers, Carrier, IsCarrier}
use Rattle.recording_laws.specs.Multiplex.{IsSentPes, Multiplex, SentPes, pid_announces_jump}
use Rattle.recording_laws.specs.Multiplex.{carriers_of}
use Rattle.recording_laws.specs.Multiplex.{items_of_carrier, items_of_multiplex, packet_in}
use Rattle.recording_laws.proofs.CarrierLemmas.{IsAnyCarrier, good-carrier, good-carriers}
use Rattle.recording_laws.proofs.CarrierLemmas.{good-quiets, goods, heard, next-follows}
use Rattle.recording_laws.proofs.CarrierLemmas.{next-unbroken, history_after_carrier}
use Rattle.recording_laws.proofs.CarrierLemmas.{history_after_irrelevant}
use Rattle.recording_laws.proofs.PartLemmas.{IsCompletePart, concat-snoc, parts_from-follows}
use Rattle.recording_laws.proofs.PartLemmas.{with_gap_markers-whole}
use Rattle.recording_laws.proofs.RecordingLemmas.{pid_events-units}

parts_from-begins : (part : Part) (g : GoodPacket) (more : List GoodPacket)
    → begins g.packet ≡ true
    → parts_from part (g ∷ more) ≡ part ∷ parts_from (single_packet_part g) more
unfolding parts_from
parts_from-begins part g more first = rw first

some-carriers : {A : Type 0} (packet_of : A → List ℕ) (number : ℕ) (others : List (Carrier A))
    (more : List (Carrier A))
    → AllByRecursion (IsCarrier packet_of number false) others
    → AllByRecursion (IsAnyCarrier packet_of number) more
    → AllByRecursion (IsAnyCarrier packet_of number) (others ++ more)
some-carriers packet_of number [] more each rest = rest
some-carriers packet_of number (c ∷ others) more each rest =
    ((false, each.0), some-carriers packet_of number others more each.1 rest)

module _ {A : Type 0} (packet_of : A → List ℕ) (number : ℕ) where
  pub all-carriers : (sent : List (SentPes A))
      → AllByRecursion (IsSentPes packet_of number) sent
      → AllByRecursion (IsAnyCarrier packet_of number) (carriers_of sent)
  all-carriers [] each = grind (arith, nat_tests)
  all-carriers (s ∷ more) each = grind (arith, nat_tests, some-carriers, (all-carriers more each.1))

  abbrev carried_from : Bool → Part → Carrier A → List (Carrier A) → List ℕ
  carried_from given part c more =
      with_gap_markers given false
      (outcomes false
      (parts_from part (goods packet_of number (history_after_carrier packet_of number c) more)))

  fills-part : (given : Bool) (part : Part) (c : Carrier A) (others rest : List (Carrier A))
      (bytes then : List ℕ)
      → IsPesPacket bytes
      → part.begins ≡ true
      → part.after_break ≡ false
      → part_bytes part ++ concat (map (λ d. payload (packet_of d.packet)) others) ≡ bytes
      → AllByRecursion (IsCarrier packet_of number false) others
      → AreNextCarriers packet_of number c (others ++ rest)
      → ((whole : Part) (last : Carrier A)
      → IsCompletePart whole bytes
      → whole.after_break ≡ false
      → AreNextCarriers packet_of number last rest
      → carried_from given whole last rest ≡ then)
      → carried_from given part c (others ++ rest) ≡ then
  fills-part given part c [] rest bytes then pes_packet first unbroken joined each next go =
      go part c
      (record {
        begins = first;
        bytes_are_equal = sym (append-nil (part_bytes part)) ∙ joined;
        is_pes_packet = pes_packet;
      })
      unbroken next
  fills-part given part c (d ∷ others) rest bytes then pes_packet first unbroken joined each next
      go =
      ap (λ (parts : List Part). with_gap_markers given false (outcomes false parts))
      (parts_from-follows part g later within)
      ∙ fills-part given (with_packet part g) d others rest bytes then pes_packet first unbroken
      (concat-snoc part.payloads (payload p)
      (concat (map (λ e. payload (packet_of e.packet)) others)) bytes joined)
      each.1 next.1 go
    where
      p : List ℕ
      p = packet_of d.packet

      g : GoodPacket
      g = linked_packet (history_after_carrier packet_of number c) p

      later : List GoodPacket
      later = goods packet_of number (history_after_carrier packet_of number d) (others ++ rest)

      within : begins_part g ≡ false
      within =
          rw (each.0.begins, next-follows packet_of number c d next.0 each.0.begins)

  whole-then : (given : Bool) (part : Part) (c : Carrier A) (sent : List (SentPes A))
      (bytes : List ℕ)
      → IsCompletePart part bytes
      → part.after_break ≡ false
      → AllByRecursion (IsSentPes packet_of number) sent
      → AreNextCarriers packet_of number c (carriers_of sent)
      → carried_from given part c (carriers_of sent) ≡ bytes ++ concat (map (λ s. s.bytes) sent)
  unfolding parts_from outcomes with_gap_markers
  whole-then given part c [] bytes h unbroken each next =
      with_gap_markers-whole given false part [] bytes h unbroken
  whole-then given part c (s ∷ more) bytes h unbroken each next =
      ap (λ (parts : List Part). with_gap_markers given false (outcomes false parts))
      (parts_from-begins part g later is.first.begins)
      ∙ with_gap_markers-whole given false part (parts_from (single_packet_part g) later) bytes
      h unbroken
      ∙ ap (λ (rest : List ℕ). bytes ++ rest)
      (fills-part true (single_packet_part g) s.first s.others (carriers_of more) s.bytes
      (s.bytes ++ concat (map (λ s. s.bytes) more)) is.is_pes_packet is.first.begins
      (next-unbroken packet_of number c s.first next.0)
      (rw (append-nil (payload p)) is.joined) is.others next.1
      (λ whole last w u n. whole-then true whole last more s.bytes w u each.1 n))
    where
      is : IsSentPes packet_of number s
      is = each.0

      p : List ℕ
      p = packet_of s.first.packet

      g : GoodPacket
      g = linked_packet (history_after_carrier packet_of number c) p

      later : List GoodPacket
      later =
          goods packet_of number (history_after_carrier packet_of number s.first)
          (s.others ++ carriers_of more)

  -- A complete recording carries the bytes of all PES packets that were sent, one after another.
  carried_bytes-all : (jump : Bool) (sent : List (SentPes A))
      → AllByRecursion (IsSentPes packet_of number) sent
      → AreInSequence packet_of number (carriers_of sent)
      → with_gap_markers false false (outcomes_of
      (good_packets_after (history_after_irrelevant (empty_history None) jump)
      (flat_map (heard packet_of number) (flat_map items_of_carrier (carriers_of sent)))))
      ≡ concat (map (λ s. s.bytes) sent)
  unfolding good_packets_after outcomes with_gap_markers
  carried_bytes-all jump [] each linked_all = refl
  carried_bytes-all jump (s ∷ more) each linked_all =
      ap (λ (good : GoodPackets). with_gap_markers false false (outcomes_of good)) (
      ap (good_packets_after history)
      (flat_map-append (heard packet_of number) (items_of_carrier s.first)
      (flat_map items_of_carrier rest))
      ∙ good-carrier packet_of number history s.first
      (flat_map (heard packet_of number) (flat_map items_of_carrier rest)) true is.first refl
      ∙ ap (with_good_packet g)
      (good-carriers packet_of number s.first rest
      (some-carriers packet_of number s.others (carriers_of more) is.others
      (all-carriers more each.1)) linked_all)
      )
      ∙ fills-part false (single_packet_part g) s.first s.others (carriers_of more) s.bytes
      (s.bytes ++ concat (map (λ s. s.bytes) more)) is.is_pes_packet is.first.begins refl
      (rw (append-nil (payload p)) is.joined) is.others linked_all
      (λ whole last w u n. whole-then false whole last more s.bytes w u each.1 n)
    where
      is : IsSentPes packet_of number s
      is = each.0

      history : PacketHistory
      history = history_after_irrelevant (empty_history None) jump

      p : List ℕ
      p = packet_of s.first.packet

      g : GoodPacket
      g = linked_packet history p

      rest : List (Carrier A)
      rest = s.others ++ carriers_of more

pub law_of_multiplex : LawOfMultiplex
unfolding carried_bytes
law_of_multiplex number distance packets recording h =
    ap (λ (ns : List PidEvent). with_gap_markers false false
    (outcomes_of (good_packets_after start ns)))
    (pid_events-units distance number (items_of_multiplex m) recording h.is_recording
    ∙ flat_map-append hear m.lead (flat_map items_of_carrier (carriers_of m.sent)))
    ∙ ap (λ (good : GoodPackets). with_gap_markers false false (outcomes_of good))
    (good-quiets (packet_in distance) number start m.lead
    (flat_map hear (flat_map items_of_carrier (carriers_of m.sent))) h.is_multiplex.lead)
    ∙ carried_bytes-all (packet_in distance) number
    (list_any (λ x. pid_announces_jump number (packet_in distance x)) m.lead) m.sent
    h.is_multiplex.sent
    h.is_multiplex.in_sequence
    ∙ ap concat h.packets_are_equal
  where
    m : Multiplex (List ℕ)
    m = h.multiplex

    start : PacketHistory
    start = empty_history None

    hear : List ℕ → List PidEvent
    hear = heard (packet_in distance) number
