-- The TS packets of a PID as a multiplexer sends them: PES packets one after another, each in the
-- payloads of consecutive TS packets (ISO/IEC 13818-1, payload_unit_start_indicator,
-- continuity_counter, discontinuity_indicator).
--
-- The items of a multiplex are units of a recording, or units with the outcome of recording them;
-- `packet_of` returns the TS packet of an item. So the same definitions describe both what was sent
-- and what was recorded.
use Rattle.std.specs.Prelude.{◌≡◌, ◌⊎◌, ℕ, ◌+◌, ◌≤◌, ◌==◌, ◌&&◌, ◌||◌, not, Bool, true, false, List}
use Rattle.std.specs.Prelude.{[], ◌∷◌, ◌++◌, length, map, take, drop, slice_index, Option, ⊤}
use Rattle.std.specs.List.{AllByRecursion, concat, flat_map, list_any}
use Rattle.std.specs.Option.{option_to_list, is_some}
use Rattle.ttx_pes.specs.PesPackets.{IsPesPacket}
use Rattle.mpeg_ts.specs.GoodPackets.{counter_is_next, has_same_header_and_payload}
use Rattle.mpeg_ts.specs.PacketsInStep.{lead_size, max_stream_bytes}
use Rattle.mpeg_ts.specs.TransportPacket.{packet_size, sync_byte, pid, begins, is_unusable}
use Rattle.mpeg_ts.specs.TransportPacket.{has_payload, announces_jump, payload}

-- ---- TS packets of a PID

-- The TS packet has another PID, or it is usable and has no payload.
abbrev pub is_irrelevant : ℕ → List ℕ → Bool
is_irrelevant number p = not (pid p == number) || (not (is_unusable p) && not (has_payload p))

-- The TS packet has the PID, is usable and has a payload.
abbrev pub carries : ℕ → List ℕ → Bool
carries number p = (pid p == number) && (not (is_unusable p) && has_payload p)

-- The TS packet has the PID and announces a jump of the continuity counter.
abbrev pub pid_announces_jump : ℕ → List ℕ → Bool
pid_announces_jump number p = (pid p == number) && announces_jump p

-- The TS packet `q` repeats the packet `p`, and announces a jump only if `p` does.
pub record IsRepetition (number : ℕ) (p q : List ℕ) : Type 0 where
  pub carries : carries number q ≡ true
  pub same : has_same_header_and_payload p q ≡ true
  pub jump : announces_jump q ≡ true → announces_jump p ≡ true

-- ---- the grammar of a multiplex

-- A carrier: a TS packet of the PID with payload, and the items up to the next such TS packet that
-- is not its repeat. These items are TS packets of the PID without payload, TS packets of other
-- PIDs, and at most one repeat of the first packet.
pub record Carrier (A : Type 0) : Type 0 where
  pub packet : A
  pub before : List A
  pub again : Option A
  pub after : List A

-- A PES packet, and the TS packets with payload (carriers) in which it is sent, at least one.
pub record SentPes (A : Type 0) : Type 0 where
  pub bytes : List ℕ
  pub first : Carrier A
  pub others : List (Carrier A)

-- A multiplex: the PES packets that are sent in a PID, and the items before the first of them.
pub record Multiplex (A : Type 0) : Type 0 where
  pub lead : List A
  pub sent : List (SentPes A)

-- The TS packets with payload (carriers) of a PES packet, in order.
abbrev pub carriers_of_pes : {A : Type 0} → SentPes A → List (Carrier A)
carriers_of_pes s = s.first ∷ s.others

-- The TS packets with payload (carriers) of all PES packets in a list, in order.
abbrev pub carriers_of : {A : Type 0} → List (SentPes A) → List (Carrier A)
carriers_of sent = flat_map carriers_of_pes sent

-- The TS packet of a carrier, followed by the items up to the next TS packet with payload that is
-- not its repeat.
abbrev pub items_of_carrier : {A : Type 0} → Carrier A → List A
items_of_carrier c = c.packet ∷ (c.before ++ (option_to_list c.again ++ c.after))

-- All items of a multiplex, in order.
abbrev pub items_of_multiplex : {A : Type 0} → Multiplex A → List A
items_of_multiplex m = m.lead ++ flat_map items_of_carrier (carriers_of m.sent)

-- Requirements for a carrier of the PID: a TS packet with payload, and the items up to the next TS
-- packet with payload that is not its repeat. The packet starts a PES packet exactly if `first` is
-- true. No jump of the PID's counter is announced by the items in `before`, which come between the
-- packet and its repeat, if it has one.
pub record IsCarrier {A : Type 0} (packet_of : A → List ℕ) (number : ℕ) (first : Bool)
    (c : Carrier A) : Type 0 where
  pub carries : carries number (packet_of c.packet) ≡ true
  pub begins : begins (packet_of c.packet) ≡ first
  pub before : AllByRecursion (λ x. is_irrelevant number (packet_of x) ≡ true) c.before
  pub no_jump : AllByRecursion (λ x. pid_announces_jump number (packet_of x) ≡ false) c.before
  pub again :
      AllByRecursion (λ x. IsRepetition number (packet_of c.packet) (packet_of x))
      (option_to_list c.again)
  pub after : AllByRecursion (λ x. is_irrelevant number (packet_of x) ≡ true) c.after

-- A PES packet is sent in its TS packets: it starts with the payload of the first of them, no other
-- of them starts a PES packet, and its bytes are their joined payloads.
pub record IsSentPes {A : Type 0} (packet_of : A → List ℕ) (number : ℕ) (s : SentPes A)
    : Type 0 where
  pub is_pes_packet : IsPesPacket s.bytes
  pub first : IsCarrier packet_of number true s.first
  pub others : AllByRecursion (IsCarrier packet_of number false) s.others
  pub joined : concat (map (λ c. payload (packet_of c.packet)) (carriers_of_pes s)) ≡ s.bytes

-- A jump of the continuity counter is announced between the packets of the carriers `c` and `d`, by
-- a packet without payload or by the packet of `d`. In the second case, a receiver can't take the
-- packet of `d` for a repeat, since `c` already has a repeat, or their bytes 0 to 3 or their
-- payloads differ.
abbrev pub IsJumpBetween : {A : Type 0} → (A → List ℕ) → ℕ → Carrier A → Carrier A → Type 0
IsJumpBetween packet_of number c d =
    (list_any (λ x. pid_announces_jump number (packet_of x)) c.after ≡ true)
    ⊎ ((announces_jump (packet_of d.packet) ≡ true)
    × ((is_some c.again
    || not (has_same_header_and_payload (packet_of c.packet) (packet_of d.packet))) ≡ true))

-- The packet of carrier `d` may follow the packet of carrier `c`: it has the next continuity
-- counter, or a jump is announced. If `d` does not start a PES packet, neither its packet nor a
-- packet in `after` of `c` announces a jump of the PID's counter.
pub record IsNextCarrier {A : Type 0} (packet_of : A → List ℕ) (number : ℕ) (c d : Carrier A)
    : Type 0 where
  pub counter :
      (counter_is_next (packet_of c.packet) (packet_of d.packet) ≡ true) ⊎ IsJumpBetween packet_of
      number c d
  pub within :
      begins (packet_of d.packet) ≡ false
      → (list_any (λ x. pid_announces_jump number (packet_of x)) c.after ≡ false)
      × (announces_jump (packet_of d.packet) ≡ false)

-- Each TS packet with payload in the list may follow the one before it, and the first may follow
-- the packet of `c`.
abbrev pub AreNextCarriers : {A : Type 0} → (A → List ℕ) → ℕ → Carrier A → List (Carrier A) → Type 0
AreNextCarriers packet_of number c [] = ⊤
AreNextCarriers packet_of number c (d ∷ more) =
    IsNextCarrier packet_of number c d × AreNextCarriers packet_of number d more

-- Each TS packet with payload in the list may follow the one before it.
abbrev pub AreInSequence : {A : Type 0} → (A → List ℕ) → ℕ → List (Carrier A) → Type 0
AreInSequence packet_of number [] = ⊤
AreInSequence packet_of number (c ∷ more) = AreNextCarriers packet_of number c more

-- A multiplexer may send these PES packets and items.
pub record IsMultiplex {A : Type 0} (packet_of : A → List ℕ) (number : ℕ) (m : Multiplex A)
    : Type 0 where
  pub lead : AllByRecursion (λ x. is_irrelevant number (packet_of x) ≡ true) m.lead
  pub sent : AllByRecursion (IsSentPes packet_of number) m.sent
  pub in_sequence : AreInSequence packet_of number (carriers_of m.sent)

-- The bytes of the PES packets in a multiplex.
abbrev pub sent_pes_packets : {A : Type 0} → Multiplex A → List (List ℕ)
sent_pes_packets m = map (λ s. s.bytes) m.sent

-- ---- recordings of a multiplex

-- The TS packet of a unit: 188 bytes, after the time stamp if the recording has time stamps.
abbrev pub packet_in : ℕ → List ℕ → List ℕ
packet_in distance unit = take packet_size (drop (lead_size distance) unit)

-- A unit of a recording in which TS packets are `distance` bytes apart: a TS packet, and the bytes
-- that the recorder adds before or after it.
pub record IsRecordedUnit (distance : ℕ) (unit : List ℕ) : Type 0 where
  pub long : lead_size distance + packet_size ≤ length unit
  pub short : length unit ≤ distance
  pub sync : slice_index (packet_in distance unit) 0 ≡ sync_byte

-- Consecutive units of a recording. The bytes that the recorder adds after the last TS packet may
-- be missing.
abbrev pub AreRecordedUnits : ℕ → List (List ℕ) → Type 0
AreRecordedUnits distance [] = ⊤
AreRecordedUnits distance (unit ∷ more) =
    IsRecordedUnit distance unit
    × ((more ≡ []) ⊎ (length unit ≡ distance))
    × AreRecordedUnits distance more

-- The recording consists of these units, and has at most `max_stream_bytes` bytes.
pub record IsRecording (distance : ℕ) (units : List (List ℕ)) (recording : List ℕ) : Type 0 where
  pub each : AreRecordedUnits distance units
  pub joined : recording ≡ concat units
  pub few : length recording ≤ max_stream_bytes

-- The recording contains everything that a multiplexer sent: these PES packets in the TS packets of
-- the PID.
pub record IsMultiplexed (number distance : ℕ) (packets : List (List ℕ)) (recording : List ℕ)
    : Type 0 where
  pub multiplex : Multiplex (List ℕ)
  pub is_multiplex : IsMultiplex (packet_in distance) number multiplex
  pub packets_are_equal : sent_pes_packets multiplex ≡ packets
  pub is_recording : IsRecording distance (items_of_multiplex multiplex) recording
