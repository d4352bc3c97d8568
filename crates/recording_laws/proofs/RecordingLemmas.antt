-- A reader finds exactly the TS packets of a recording's units, and for each PID the events of its
-- TS packets.
use Rattle.std.proofs.Common.{◌≡◌, ℕ, zero, suc, ◌+◌, ◌<◌, ◌≤◌, inl, inr, true, List, [], ◌∷◌, ◌++◌}
use Rattle.std.proofs.Common.{length, take, drop, map, slice_index, refl, sym, ap, ap₂, ◌∙◌, arith}
use Rattle.std.proofs.Common.{if◌then◌else◌, ◌==◌, length-append, length-drop}
use Rattle.std.specs.List.{concat, flat_map}
use Rattle.std.proofs.lemmas.Bool.Decides.{nat_tests}
use Rattle.std.proofs.lemmas.List.{drop-append-le, drop-drop, drop_all, get_or-take, take_all}
use Rattle.std.proofs.lemmas.List.{take-append-le}
use Rattle.std.proofs.Math.Seq.{drop-nil, drop-append-add}
use Rattle.mpeg_ts.specs.GoodPackets.{PidEvent, event_of_packet, pid_events}
use Rattle.mpeg_ts.specs.PacketsInStep.{Item, Packet, items, items_of, lead_size, max_stream_bytes}
use Rattle.mpeg_ts.specs.PacketsInStep.{read_bytes}
use Rattle.mpeg_ts.specs.TransportPacket.{packet_size, sync_byte, pid}
use Rattle.recording_laws.specs.Multiplex.{AreRecordedUnits, IsRecordedUnit, IsRecording, packet_in}

-- The event of a TS packet of the PID; no event for a packet of another PID.
abbrev pub notes_of_packet : ℕ → List ℕ → List PidEvent
notes_of_packet number p = if pid p == number then event_of_packet p ∷ [] else []

items-packet : (distance room : ℕ) (b : List ℕ)
    → packet_size ≤ length b
    → slice_index b 0 ≡ sync_byte
    → items distance true (suc room) b
    ≡ Packet (take packet_size b) ∷ items distance true room (drop distance b)
unfolding items
items-packet distance room b long sync = grind (arith, nat_tests)

items-none : (distance room : ℕ) (b : List ℕ)
    → length b < packet_size
    → items distance true room b ≡ []
unfolding items
items-none distance room b h1 = grind (arith, nat_tests)

take-prefix : (n l : ℕ) (u x : List ℕ)
    → l + n ≤ length u
    → take n (drop l (u ++ x)) ≡ take n (drop l u)
take-prefix n l u x h1 = grind (arith, nat_tests, drop-append-le, take-append-le, length-drop)

length-prefix : (n l : ℕ) (u x : List ℕ) → l + n ≤ length u → n ≤ length (drop l (u ++ x))
length-prefix n l u x long = omega (arith, length-drop l (u ++ x), length-append u x)

drop-unit : (d l : ℕ) (u x : List ℕ)
    → length u ≡ d
    → l ≤ length u
    → drop d (drop l (u ++ x)) ≡ drop l x
drop-unit d l u x h1 h2 = grind (arith, nat_tests, drop-drop, drop-append-add)

drop-last : (d l : ℕ) (u : List ℕ) → length u ≤ d → drop d (drop l (u ++ [])) ≡ []
drop-last d l u h1 = grind (arith, nat_tests, drop_all, length-drop, length-append)

first-taken : (n : ℕ) (b : List ℕ) → 0 < n → slice_index (take n b) 0 ≡ slice_index b 0
first-taken n b some = get_or-take n b 0 0 some

-- The items that a reader finds in a recording are the TS packets of its units.
pub items-units : (distance room : ℕ) (units : List (List ℕ))
    → AreRecordedUnits distance units
    → length units ≤ room
    → items distance true room (drop (lead_size distance) (concat units))
    ≡ map (λ u. Packet (packet_in distance u)) units
items-units distance room [] each enough =
    items-none distance room (drop (lead_size distance) [])
    (omega (arith, ap length (drop-nil {A = ℕ} (lead_size distance))))
items-units distance zero (u ∷ more) each enough = grind arith
items-units distance (suc room) (u ∷ more) each enough =
    items-packet distance room b (length-prefix 188 lead u rest is.long) sync
    ∙ ap₂ (λ (p : List ℕ) (xs : List Item). Packet p ∷ xs)
    (take-prefix 188 lead u rest is.long)
    (ap (items distance true room) next ∙ items-units distance room more each.2 (omega arith))
  where
    is : IsRecordedUnit distance u
    is = each.0

    lead : ℕ
    lead = lead_size distance

    rest : List ℕ
    rest = concat more

    b : List ℕ
    b = drop lead (u ++ rest)

    sync : slice_index b 0 ≡ sync_byte
    sync =
        sym (first-taken 188 b (omega arith))
        ∙ ap (λ (p : List ℕ). slice_index p 0) (take-prefix 188 lead u rest is.long)
        ∙ is.sync

    next : drop distance b ≡ drop lead rest
    next = elim each.1 [
      | inl none ↦
          rw none (drop-last distance lead u is.short ∙ sym (drop-nil {A = ℕ} lead))
      | inr long ↦ drop-unit distance lead u rest long (omega (arith, is.long))
    ]

few-units : (distance : ℕ) (units : List (List ℕ))
    → AreRecordedUnits distance units
    → length units ≤ length (concat units)
few-units distance [] each = omega arith
few-units distance (u ∷ more) each =
    let rest = few-units distance more each.2 in
    omega (arith, length-append u (concat more), each.0.long)

few-units-following : (distance : ℕ) (units : List (List ℕ))
    → AreRecordedUnits distance units
    → length units ≤ length (drop (lead_size distance) (concat units))
few-units-following distance [] each = grind (arith, nat_tests)
few-units-following distance (u ∷ more) each =
    grind (arith, nat_tests, few-units, length-append, length-drop)

pid_events-packets : {A : Type 0} (packet_of : A → List ℕ) (distance number run : ℕ) (xs : List A)
    → pid_events distance number run (map (λ x. Packet (packet_of x)) xs)
    ≡ flat_map (λ x. notes_of_packet number (packet_of x)) xs
unfolding pid_events
pid_events-packets packet_of distance number run [] = refl
pid_events-packets packet_of distance number run (x ∷ xs) =
    let rest = pid_events-packets packet_of distance number 0 xs in
    grind (arith, nat_tests)

-- The events of a PID in a recording are the events of the TS packets in its units.
pub pid_events-units : (distance number : ℕ) (units : List (List ℕ)) (recording : List ℕ)
    → IsRecording distance units recording
    → pid_events distance number 0 (items_of distance recording)
    ≡ flat_map (λ u. notes_of_packet number (packet_in distance u)) units
pid_events-units distance number units recording is =
    ap (pid_events distance number 0) (
    ap (λ (b : List ℕ). items distance true (length b) b) all
    ∙ items-units distance (length (drop (lead_size distance) (concat units))) units is.each
    (few-units-following distance units is.each)
    )
    ∙ pid_events-packets (packet_in distance) distance number 0 units
  where
    all : read_bytes distance recording ≡ drop (lead_size distance) (concat units)
    all = ap (drop (lead_size distance)) (take_all max_stream_bytes recording is.few ∙ is.joined)
