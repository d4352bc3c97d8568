-- If fewer than 15 TS packets with payload are missing between two accepted packets, the reader
-- finds a loss between them exactly if a packet between them is missing or was damaged.
use Rattle.std.proofs.Common.{◌≡◌, ℕ, ◌+◌, ◌%◌, ◌<◌, Bool, true, false, not, ◌||◌, ◌==◌, List, []}
use Rattle.std.proofs.Common.{◌∷◌, Option, Some, None, arith, if◌then◌else◌, length, length-drop}
use Rattle.std.proofs.Common.{length-take, drop, nat_lt}
use Rattle.std.specs.Bool.{⊤}
use Rattle.std.specs.List.{AllByRecursion}
use Rattle.std.specs.Option.{option_to_list}
use Rattle.std.proofs.lemmas.Bool.Decides.{nat_tests}
use Rattle.std.proofs.lemmas.List.{get_or-take}
use Rattle.std.proofs.lemmas.Slice.Eq.{bytes_eq-Decides}
use Rattle.mpeg_ts.specs.GoodPackets.{Follows, Break, First, GoodPacket, PacketLink}
use Rattle.mpeg_ts.specs.GoodPackets.{counter_is_next}
use Rattle.mpeg_ts.specs.GoodPackets.{is_repeat}
use Rattle.mpeg_ts.specs.GoodPackets.{has_same_header_and_payload, linked_packet}
use Rattle.mpeg_ts.specs.Parts.{is_break, is_unlinked}
use Rattle.mpeg_ts.specs.PacketsInStep.{lead_size}
use Rattle.mpeg_ts.specs.TransportPacket.{announces_jump, begins, counter, payload}
use Rattle.recording_laws.specs.Losses.{SentUnit, loses_few_in_row, is_recorded, sent_packet}
use Rattle.recording_laws.specs.Multiplex.{Carrier, IsRecordedUnit, IsRepetition}
use Rattle.recording_laws.specs.Multiplex.{pid_announces_jump}
use Rattle.recording_laws.specs.Multiplex.{carries}
use Rattle.recording_laws.specs.Multiplex.{packet_in}
use Rattle.recording_laws.proofs.CarrierLemmas.{counter-same}
use Rattle.recording_laws.proofs.LossyNoteLemmas.{IsLossyUnit, IsLossyCarrier, repeat_or_packet}
use Rattle.recording_laws.proofs.LossyNoteLemmas.{history_after_loss}

-- The TS packet `h` has the continuity counter and the payload of packet `p`, starts a PES packet
-- exactly if `p` does, and announces no jump.
pub record IsPacketCopy (p h : List ℕ) : Type 0 where
  pub counter : counter h ≡ counter p
  pub begins : begins h ≡ begins p
  pub payload : payload h ≡ payload p
  pub no_jump : announces_jump h ≡ false

begins-same : (p q : List ℕ) → has_same_header_and_payload p q ≡ true → begins p ≡ begins q
begins-same p q h1 = grind (arith, nat_tests, bytes_eq-Decides, get_or-take)

payload-same : (p q : List ℕ) → has_same_header_and_payload p q ≡ true → payload p ≡ payload q
payload-same p q h1 = grind (arith, nat_tests, bytes_eq-Decides)

pub carrier_announces_no_jump : (number : ℕ) (p : List ℕ)
    → carries number p ≡ true
    → pid_announces_jump number p ≡ false
    → announces_jump p ≡ false
carrier_announces_no_jump number p carrying none = grind (arith, nat_tests)

payload-long : (number : ℕ) (p : List ℕ)
    → length p ≡ 188
    → carries number p ≡ true
    → 0 < length (payload p)
payload-long number p long carrying = grind (arith, nat_tests, length-drop)

length-packet : (distance : ℕ) (u : List ℕ)
    → IsRecordedUnit distance u
    → length (packet_in distance u) ≡ 188
length-packet distance u h =
    let long = h.long in
    omega (arith, length-take 188 (drop (lead_size distance) u), length-drop (lead_size distance) u)

-- Two TS packets of a PID have different continuity counters if fewer than 15 packets with payload
-- are missing between them.
counter-far : (i n a b : ℕ)
    → a ≡ i % 16
    → b ≡ (i + 1 + n) % 16
    → n < 15
    → a ≡ b
    → ⊥
counter-far i n a b first second small same = omega arith

counter-next : (i a b : ℕ) → a ≡ i % 16 → b ≡ (i + 1 + 0) % 16 → (b == (a + 1) % 16) ≡ true
counter-next i a b first second = grind (arith, nat_tests)

counter-later : (i n a b : ℕ)
    → a ≡ i % 16
    → b ≡ (i + 1 + n) % 16
    → 0 < n
    → n < 15
    → (b == (a + 1) % 16) ≡ false
counter-later i n a b first second some small = grind (arith, nat_tests)

counter_is_next-by_lost : (i n : ℕ) (g h : List ℕ)
    → counter g ≡ i % 16
    → counter h ≡ (i + 1 + n) % 16
    → n < 15
    → counter_is_next g h ≡ not (nat_lt 0 n)
counter_is_next-by_lost i n g h h1 h2 h3 = grind (arith, nat_tests, counter-later, counter-next)

abbrev pub IsLastCounter : Option (List ℕ) → ℕ → Type 0
IsLastCounter None i = ⊤
IsLastCounter (Some g) i = counter g ≡ i % 16

-- A later TS packet is not a repeat of the last accepted packet, if fewer than 15 packets with
-- payload are missing between them.
pub fresh-later : (good : Option (List ℕ)) (again wrong : Bool) (h : List ℕ) (i n : ℕ)
    → IsLastCounter good i
    → counter h ≡ (i + 1 + n) % 16
    → n < 15
    → is_repeat (history_after_loss good again wrong) h ≡ false
fresh-later good again wrong h i n h1 h2 h3 = grind (arith, nat_tests, counter-far, counter-same)

-- The link of a TS packet to the accepted packet before it: `First` if there is no such packet,
-- `Follows` if the packet has the next continuity counter and no packet between them was damaged,
-- otherwise `Break`.
abbrev pub link_after_loss : Option (List ℕ) → Bool → List ℕ → PacketLink
link_after_loss None wrong h = First
link_after_loss (Some g) wrong h = if wrong then Break else if counter_is_next g h then Follows
    else Break

abbrev pub good_packet_after_loss : Option (List ℕ) → Bool → List ℕ → GoodPacket
good_packet_after_loss good wrong h = record { link = link_after_loss good wrong h; packet = h }

pub linked_packet-left : (good : Option (List ℕ)) (again wrong : Bool) (h : List ℕ)
    → announces_jump h ≡ false
    → linked_packet (history_after_loss good again wrong) h ≡ good_packet_after_loss good wrong h
linked_packet-left good again wrong h h1 = grind (arith, nat_tests)

-- If fewer than 15 TS packets with payload are missing between two accepted packets, there is a
-- break between them exactly if a packet is missing or was damaged.
pub break-left : (i n : ℕ) (g h : List ℕ) (wrong : Bool)
    → counter g ≡ i % 16
    → counter h ≡ (i + 1 + n) % 16
    → n < 15
    → is_break (link_after_loss (Some g) wrong h) ≡ (wrong || nat_lt 0 n)
break-left i n g h wrong h1 h2 h3 = grind (arith, nat_tests, counter_is_next-by_lost)

pub cut-left : (g h : List ℕ) (wrong : Bool)
    → is_unlinked (link_after_loss (Some g) wrong h) ≡ is_break (link_after_loss (Some g) wrong h)
cut-left g h wrong = grind (arith, nat_tests)

pub few-there : (n : ℕ) (c : Carrier SentUnit) (cs : List (Carrier SentUnit))
    → is_recorded c ≡ true
    → loses_few_in_row n (c ∷ cs) ≡ true
    → loses_few_in_row 0 cs ≡ true
few-there n c cs there few = rw there at few

pub few-gone : (n : ℕ) (c : Carrier SentUnit) (cs : List (Carrier SentUnit))
    → is_recorded c ≡ false
    → loses_few_in_row n (c ∷ cs) ≡ true
    → (n + 1 < 15) × (loses_few_in_row (n + 1) cs ≡ true)
few-gone n c cs gone few = (grind (arith, nat_tests), grind (arith, nat_tests))

module _ (distance number : ℕ) where
  -- If TS packet `p` announces no jump, its repeat has the continuity counter and the payload of
  -- `p`, starts a PES packet exactly if `p` does, and announces no jump. If `p` has no repeat, all
  -- this holds for `p` itself.
  pub copy-again : (p : List ℕ) (again : Option SentUnit)
      → announces_jump p ≡ false
      → AllByRecursion (IsLossyUnit distance number) (option_to_list again)
      → AllByRecursion (λ f. IsRepetition number p (sent_packet distance f)) (option_to_list again)
      → IsPacketCopy p (repeat_or_packet distance number again p)
  copy-again p again h1 h2 h3 =
      grind (arith, nat_tests, counter-same, begins-same, payload-same, carrier_announces_no_jump)

  pub carrier-payload : (first : Bool) (c : Carrier SentUnit)
      → IsLossyCarrier distance number first c
      → 0 < length (payload (sent_packet distance c.packet))
  carrier-payload first c h1 = grind (arith, nat_tests, payload-long, length-packet)

  -- The continuity counter of the first TS packet with payload is `j` modulo 16, and it increases
  -- by one, modulo 16, from each TS packet with payload to the next.
  abbrev pub AreCountersConsecutive : ℕ → List (Carrier SentUnit) → Type 0
  AreCountersConsecutive j [] = ⊤
  AreCountersConsecutive j (c ∷ more) =
      (counter (sent_packet distance c.packet) ≡ j % 16) × AreCountersConsecutive (j + 1) more

  abbrev pub IsAnyLossyCarrier : Carrier SentUnit → Type 0
  IsAnyLossyCarrier c = (first : Bool) × IsLossyCarrier distance number first c
