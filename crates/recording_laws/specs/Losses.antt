-- Recordings with losses: some TS packets were not recorded, and some TS packets of the PID were
-- damaged.
use Rattle.std.specs.Prelude.{◌≡◌, ℕ, ◌+◌, ◌&&◌, ◌||◌, not, nat_lt, Bool, true, false}
use Rattle.std.specs.Prelude.{if◌then◌else◌, List, [], ◌∷◌, ◌++◌, length, map, slice_index, ⊤}
use Rattle.std.specs.List.{AllByRecursion, concat, list_any, flat_map}
use Rattle.std.specs.Option.{option_to_list}
use Rattle.mpeg_ts.specs.CarriedPackets.{gap_marker_where}
use Rattle.mpeg_ts.specs.TransportPacket.{sync_byte, pid, is_unusable}
use Rattle.recording_laws.specs.Multiplex.{Carrier, SentPes, Multiplex, IsMultiplex, IsRecording}
use Rattle.recording_laws.specs.Multiplex.{pid_announces_jump, carriers_of, packet_in}
use Rattle.recording_laws.specs.Multiplex.{items_of_multiplex}

-- The outcome of recording a TS packet: it is recorded intact, it is not recorded, or other bytes
-- with an unusable TS packet are recorded instead.
pub data UnitFate : Type 0 where
  RecordedIntact : UnitFate
  NotRecorded : UnitFate
  RecordedDamaged : List ℕ → UnitFate

-- A TS packet as it was sent, with the bytes that the recorder adds, and the outcome of recording
-- it.
pub record SentUnit : Type 0 where
  pub unit : List ℕ
  pub fate : UnitFate

-- The TS packet of a unit, as it was sent.
abbrev pub sent_packet : ℕ → SentUnit → List ℕ
sent_packet distance f = packet_in distance f.unit

-- The unit is recorded intact.
abbrev pub is_recorded_intact : UnitFate → Bool
is_recorded_intact RecordedIntact = true
is_recorded_intact _ = false

-- The unit is damaged: an unusable TS packet is recorded instead.
abbrev pub is_recorded_damaged : UnitFate → Bool
is_recorded_damaged (RecordedDamaged _) = true
is_recorded_damaged _ = false

-- At least one of the units was damaged.
abbrev pub any_unit_damaged : List SentUnit → Bool
any_unit_damaged units = list_any (λ f. is_recorded_damaged f.fate) units

-- The bytes that are recorded for a unit: none if it is not recorded.
abbrev pub recorded_bytes_of_unit : List ℕ → UnitFate → List (List ℕ)
recorded_bytes_of_unit unit RecordedIntact = unit ∷ []
recorded_bytes_of_unit unit NotRecorded = []
recorded_bytes_of_unit unit (RecordedDamaged other) = other ∷ []

-- The bytes of the recorded units, in order.
abbrev pub recorded_units : List SentUnit → List (List ℕ)
recorded_units units = flat_map (λ f. recorded_bytes_of_unit f.unit f.fate) units

-- A unit of the PID was damaged, for example because transport_error_indicator or one bit of
-- transport_scrambling_control was set. The sync byte and the PID are unchanged; other bytes may
-- have changed.
pub record IsDamagedUnit (distance number : ℕ) (unit other : List ℕ) : Type 0 where
  pub size : length other ≡ length unit
  pub sync : slice_index (packet_in distance other) 0 ≡ sync_byte
  pub original_pid : pid (packet_in distance unit) ≡ number
  pub damaged_pid : pid (packet_in distance other) ≡ number
  pub wrong : is_unusable (packet_in distance other) ≡ true

-- The possible outcomes of recording a unit. Only units of the PID can be damaged.
abbrev pub IsPossibleFate : ℕ → ℕ → List ℕ → UnitFate → Type 0
IsPossibleFate distance number unit RecordedIntact = ⊤
IsPossibleFate distance number unit NotRecorded = ⊤
IsPossibleFate distance number unit (RecordedDamaged other) = IsDamagedUnit distance number unit
    other

-- ---- recorded TS packets

-- At least one of the units is recorded intact.
abbrev pub any_unit_intact : List SentUnit → Bool
any_unit_intact units = list_any (λ f. is_recorded_intact f.fate) units

-- A TS packet with payload, or its repeat, is recorded intact.
abbrev pub is_recorded : Carrier SentUnit → Bool
is_recorded c = is_recorded_intact c.packet.fate || any_unit_intact (option_to_list c.again)

-- The units from a TS packet with payload up to, but not including, its repeat, or none if the
-- packet itself is recorded intact.
abbrev pub units_before_copy : Carrier SentUnit → List SentUnit
units_before_copy c = if is_recorded_intact c.packet.fate then [] else c.packet ∷ c.before

-- The units after a TS packet with payload if it is recorded intact, otherwise those after its
-- repeat, up to the next TS packet with payload that is not its repeat.
abbrev pub units_after_copy : Carrier SentUnit → List SentUnit
units_after_copy c =
    if is_recorded_intact c.packet.fate then c.before ++ (option_to_list c.again ++ c.after)
    else c.after

-- No 15 consecutive TS packets of the PID with payload, the last of them in the list, are missing
-- or damaged together with their repeats. `gone` is the number of such packets directly before the
-- list.
abbrev pub loses_few_in_row : ℕ → List (Carrier SentUnit) → Bool
loses_few_in_row gone [] = true
loses_few_in_row gone (c ∷ more) =
    if is_recorded c then loses_few_in_row 0 more
    else nat_lt (gone + 1) 15 && loses_few_in_row (gone + 1) more

-- All TS packets with payload after the TS packet of `c`, or their repeats, are recorded intact,
-- with no damaged unit between them.
abbrev pub records_all_following : Carrier SentUnit → List (Carrier SentUnit) → Bool
records_all_following c [] = true
records_all_following c (d ∷ more) =
    not (any_unit_damaged (units_after_copy c))
    && (is_recorded d && (not (any_unit_damaged (units_before_copy d)) && records_all_following d
    more))

-- The PES packet arrives: each of its TS packets, or its repeat, is recorded intact, with no
-- damaged packet of the PID between them.
abbrev pub arrives : SentPes SentUnit → Bool
arrives s = is_recorded s.first && records_all_following s.first s.others

-- The last TS packet with payload in the list that starts with `c`.
abbrev pub last_carrier : Carrier SentUnit → List (Carrier SentUnit) → Carrier SentUnit
last_carrier c [] = c
last_carrier c (d ∷ more) = last_carrier d more

-- A unit was damaged among those after the last TS packet of the PES packet (`units_after_copy`).
abbrev pub is_damaged_after : SentPes SentUnit → Bool
is_damaged_after s = any_unit_damaged (units_after_copy (last_carrier s.first s.others))

-- ---- the PES packets in a recording

-- The bytes of the arriving PES packets, in order, with gap markers. `given` means that an earlier
-- PES packet arrived, and `gap` that PES packets are missing since then (since the start, if none
-- arrived), or that a unit was damaged after it. There is one gap marker between two arriving PES
-- packets if PES packets are missing between them, or if a unit of the PID was damaged between the
-- first intact copies of their first TS packets.
unfoldable pub arriving_bytes : Bool → Bool → List (SentPes SentUnit) → List ℕ
arriving_bytes given gap [] = []
arriving_bytes given gap (s ∷ more) =
    if arrives s then
    gap_marker_where (given && (gap || any_unit_damaged (units_before_copy s.first)))
    ++ (s.bytes ++ arriving_bytes true (is_damaged_after s) more)
    else arriving_bytes given true more

-- The bytes of the arriving PES packets with their gap markers (`arriving_bytes`), and at most one
-- gap marker after the last of them.
pub record CarriesArrivingPackets (sent : List (SentPes SentUnit)) (bytes : List ℕ) : Type 0 where
  pub has_gap_marker : Bool
  pub marker_follows_packet : has_gap_marker ≡ true → list_any arrives sent ≡ true
  pub bytes_are_equal : bytes ≡ arriving_bytes false false sent ++ gap_marker_where has_gap_marker

-- A recording with any number of losses. The multiplexer announced no jump of the PID's continuity
-- counter.
pub record IsRecordingWithLosses (number distance : ℕ) (m : Multiplex SentUnit) (recording : List ℕ)
    : Type 0 where
  pub is_multiplex : IsMultiplex (sent_packet distance) number m
  pub sent : List ℕ
  pub is_recording : IsRecording distance (map (λ (f : SentUnit). f.unit) (items_of_multiplex m))
      sent
  pub no_jump :
      AllByRecursion (λ f. pid_announces_jump number (sent_packet distance f) ≡ false)
      (items_of_multiplex m)
  pub fates :
      AllByRecursion (λ (f : SentUnit). IsPossibleFate distance number f.unit f.fate)
      (items_of_multiplex m)
  pub left : recording ≡ concat (recorded_units (items_of_multiplex m))

-- A recording in which fewer than 15 consecutive TS packets of the PID with payload are missing or
-- damaged, together with their repeats, at a time.
pub record HasOnlyShortLosses (number distance : ℕ) (m : Multiplex SentUnit) (recording : List ℕ)
    : Type 0 where
  pub losses : IsRecordingWithLosses number distance m recording
  pub few : loses_few_in_row 0 (carriers_of m.sent) ≡ true
