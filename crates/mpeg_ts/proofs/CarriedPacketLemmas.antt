-- Reading a recording step by step returns what the transport packets of the PID carry.
use Rattle.std.proofs.Common.{◌≡◌, ℕ, zero, suc, ◌+◌, ◌≤◌, ◌<◌, List, [], ◌∷◌, ◌++◌, length, drop}
use Rattle.std.proofs.Common.{Bool, true, false, Option, None, refl, sym, ap, ◌∙◌, subst}
use Rattle.std.proofs.Common.{arith}
use Rattle.std.proofs.Common.{length-drop, length-take-le}
use Rattle.std.proofs.lemmas.Bool.Decides.{nat_tests}
use Rattle.std.specs.Prelude.{◌&&◌, ◌||◌, ◌==◌, nat_lt}
use Rattle.std.specs.Prelude.{option_map}
use Rattle.mpeg_ts.specs.CarriedPackets.{carried_bytes, gap_marker_where, with_gap_markers}
use Rattle.mpeg_ts.specs.GoodPackets.{GoodPacket, PidEvent, good_packets_after, loss_size}
use Rattle.mpeg_ts.specs.GoodPackets.{event_of_packet, pid_events, empty_history}
use Rattle.mpeg_ts.specs.Joining.{last_output_after, initial_joining}
use Rattle.mpeg_ts.specs.PacketsInStep.{Item, Packet, Skipped, begins_packet, items, items_of}
use Rattle.mpeg_ts.specs.Parts.{PartOutcome, begins_part, gap_where, is_break, outcomes}
use Rattle.mpeg_ts.specs.Parts.{single_packet_part}
use Rattle.mpeg_ts.specs.Parts.{parts}
use Rattle.mpeg_ts.specs.Stream.{output_of, start_of_stream, remaining_output, stream_output}
use Rattle.mpeg_ts.specs.TransportPacket.{begins, has_payload, is_unusable}
use Rattle.mpeg_ts.specs.TransportPacket.{payload, pid}
use Rattle.mpeg_ts.specs.declared.joining.Given.TheVariants as given
use Rattle.mpeg_ts.proofs.JoinedPacketLemmas.{joined_output_is_correct, joined_output}
use Rattle.mpeg_ts.proofs.JoinedPacketLemmas.{new_part_gives_outcome, disjunction_with_true}
use Rattle.mpeg_ts.proofs.PidEventLemmas.{AreSound, FirstIsUnlinked, first_packet_is_unlinked}
use Rattle.mpeg_ts.proofs.PidEventLemmas.{good_packets_have_payloads}
use Rattle.mpeg_ts.proofs.PidEventLemmas.{joining_agrees_with_events}
use Rattle.mpeg_ts.proofs.OutcomeLemmas.{HavePayloads, boolean_cases, output, outcomes-from, tail}
use Rattle.mpeg_ts.proofs.OutcomeLemmas.{with_gap_markers-nothing}
use Rattle.mpeg_ts.proofs.StreamLemmas.{too_short_bytes_no_items, packet_is_first_item}
use Rattle.mpeg_ts.proofs.StreamLemmas.{skipped_byte_is_first_item}

abbrev AreCompleteItems : List Item → Type 0
AreCompleteItems [] = Unit {0}
AreCompleteItems (Packet p ∷ more) = (length p ≡ 188) × AreCompleteItems more
AreCompleteItems (Skipped ∷ more) = AreCompleteItems more

items_are_complete : (distance : ℕ) (in_step : Bool) (room : ℕ) (bytes : List ℕ)
    → AreCompleteItems (items distance in_step room bytes)
unfolding items
items_are_complete distance in_step zero bytes = tt
items_are_complete distance in_step (suc room) bytes =
    boolean_cases (nat_lt (length bytes) 188)
    (λ few. let short : length bytes < 188 = grind (arith, nat_tests) in
    subst AreCompleteItems (sym (too_short_bytes_no_items distance in_step (suc room) bytes short))
    tt)
    (λ many. let long : 188 ≤ length bytes = grind (arith, nat_tests) in
    boolean_cases (begins_packet distance in_step bytes)
    (λ begins. subst AreCompleteItems
    (sym (packet_is_first_item distance in_step room bytes long begins))
    (length-take-le 188 bytes long, items_are_complete distance true room (drop distance bytes)))
    (λ skips. subst AreCompleteItems
    (sym (skipped_byte_is_first_item distance in_step room bytes long skips))
    (items_are_complete distance false room (drop 1 bytes))))

only_last_reason_remains : (x y a h n : Bool)
    → (x || y || (a && h && n)) ≡ false
    → a ≡ true
    → h ≡ true
    → n ≡ false
only_last_reason_remains x y a h n h1 h2 h3 = grind (arith, nat_tests)

-- If a usable transport packet has a payload, the payload is not empty.
payload_is_not_empty : (p : List ℕ)
    → length p ≡ 188
    → is_unusable p ≡ false
    → has_payload p ≡ true
    → 0 < length (payload p)
payload_is_not_empty p h1 h2 h3 = grind (arith, nat_tests, only_last_reason_remains, length-drop)

packet_event_is_sound : (p : List ℕ) (more : List PidEvent)
    → length p ≡ 188
    → AreSound more
    → AreSound (event_of_packet p ∷ more)
packet_event_is_sound p more h1 h2 = grind (arith, nat_tests, payload_is_not_empty)

all_events_are_sound : (distance number run : ℕ) (all : List Item)
    → AreCompleteItems all
    → AreSound (pid_events distance number run all)
unfolding pid_events
all_events_are_sound distance number run [] whole = tt
all_events_are_sound distance number run (Packet p ∷ more) whole =
    let rest = all_events_are_sound distance number 0 more whole.1 in
    boolean_cases (pid p == number)
    (λ yes. rw yes (packet_event_is_sound p (pid_events distance number 0 more) whole.0 rest))
    (λ no. rw no rest)
all_events_are_sound distance number run (Skipped ∷ more) whole =
    let rest = all_events_are_sound distance number (run + 1) more whole in
    boolean_cases (run + 1 == loss_size distance) (λ yes. rw yes rest) (λ no. rw no rest)

gap_before_output_is_ignored : (b : Bool) (more : List PartOutcome)
    → gap_marker_where (b && false) ++ output (last_output_after b given.Nothing) more
    ≡ output given.Nothing more
gap_before_output_is_ignored b more = grind (arith, nat_tests)

leading_gap_is_ignored : (b : Bool) (more : List PartOutcome)
    → output given.Nothing more ≡ output given.Nothing (gap_where b ++ more)
leading_gap_is_ignored b more = grind (arith, nat_tests)

no_marker_before_first_packet : (wrong : Bool)
    → gap_marker_where (wrong && false) ≡ with_gap_markers false false (gap_where wrong)
unfolding with_gap_markers
no_marker_before_first_packet wrong = grind (arith, nat_tests)

-- From the start of a recording, if no good packet has an empty payload, the output of the good
-- packets is the bytes for the outcomes of their parts, with gap markers as `with_gap_markers`
-- defines.
joining_starts_with_outcomes : (wrong : Bool) (goods : List GoodPacket)
    → FirstIsUnlinked goods
    → HavePayloads goods
    → joined_output initial_joining wrong goods ≡ with_gap_markers false false
    (outcomes wrong (parts goods))
unfolding outcomes
joining_starts_with_outcomes wrong [] cut all = no_marker_before_first_packet wrong
joining_starts_with_outcomes wrong (g ∷ more) cut all =
    let first : begins_part g ≡ true =
    ap (λ (b : Bool). begins g.packet || b) cut ∙ disjunction_with_true (begins g.packet) in
    let rest = tail wrong (single_packet_part g) more in
    rw first (
    new_part_gives_outcome wrong more initial_joining g all.1 (joined_output_is_correct wrong more
    all.1)
    ∙ gap_before_output_is_ignored (is_break g.link || true) rest
    ∙ leading_gap_is_ignored (is_break g.link) rest
    ∙ sym (ap (output given.Nothing) (outcomes-from wrong (single_packet_part g) more))
    ∙ sym (with_gap_markers-nothing false (outcomes wrong (parts (g ∷ more)))))

-- The output for a recording, read from its start, is what `carried_bytes` defines: the PES packets
-- of the PID, with gap markers where data is missing after the first of them.
pub stream_outputs_carried_bytes : (number distance : ℕ) (recording : List ℕ)
    → output_of (start_of_stream number distance) recording ≡ carried_bytes number distance
    recording
unfolding stream_output carried_bytes
stream_outputs_carried_bytes number distance recording =
    let all = pid_events distance number 0 (items_of distance recording) in
    let history = empty_history None in
    let good = good_packets_after history all in
    let sound = all_events_are_sound distance number 0 (items_of distance recording)
    (items_are_complete distance true _ _) in
    joining_agrees_with_events initial_joining history all (record {
      repeat = refl;
      jump = refl;
      lost = refl;
      no_pes_packet_after_unusable = λ e. refl;
      none = λ e. refl;
      last = refl;
    }) sound
    ∙ joining_starts_with_outcomes good.wrong_after good.packets (first_packet_is_unlinked history
    all refl)
    (good_packets_have_payloads history all sound)

pub known_output_is_carried : (number distance : ℕ) (known_bytes : Option (List ℕ))
    → remaining_output (start_of_stream number distance) known_bytes
    ≡ option_map (carried_bytes number distance) known_bytes
known_output_is_carried number distance known_bytes = grind
    (arith, nat_tests, stream_outputs_carried_bytes)
