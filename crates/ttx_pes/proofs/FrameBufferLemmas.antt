-- The parsed fields of a PES packet follow from its header and its data field, or from the packet
-- that it repeats.
use Rattle.std.proofs.lemmas.Bool.Decides.{nat_tests}
use Rattle.std.proofs.Common.{◌≡◌, ℕ, ◌/◌, ◌<◌, List, ◌+◌, ◌%◌, ◌≤◌, ◌++◌, [], length, drop}
use Rattle.std.proofs.Common.{false, take, Ok, Err, refl, sym, ap, subst, arith, length-drop}
use Rattle.std.proofs.Common.{◌∙◌}
use Rattle.std.proofs.lemmas.List.{drop-drop, drop-take, length-take-le}
use Rattle.sub_io.specs.Reading.{AreBytes}
use Rattle.ttx_pes.specs.declared.fault.PesFault.{PesFault}
use Rattle.ttx_pes.specs.PesGrammar.{IsPesValue, PesValue}
use Rattle.ttx_pes.specs.Reading.{pts_at, units_at, value_at}
use Rattle.ttx_pes.specs.SentUnits.{EndWithinField, sent_units}
use Rattle.ttx_pes.specs.Accepting.{AreAllUnitPlaces, BuffersPesPacket, FrameBufferValue}
use Rattle.ttx_pes.specs.Accepting.{BufferedPacketValue}
use Rattle.ttx_pes.specs.Accepting.{ArePacketFields}
use Rattle.ttx_pes.specs.Accepting.{data_field_in_buffer, buffered_frame, no_buffered_packet}
use Rattle.ttx_pes.proofs.DataUnitHeaderLemmas.{empty_field_has_no_places}
use Rattle.ttx_pes.proofs.PesHeaderLemmas.{decoded_body_is_valid, pts_and_units_give_value}
use Rattle.ttx_pes.proofs.PesHeaderLemmas.{first_six_bytes}
use Rattle.ttx_pes.proofs.PesGrammarLemmas.{packet_value_is_valid}

-- If the header and data_identifier of a PES packet are valid, the fault of its data units is the
-- fault of the packet.
pub unit_fault_refuses_value : (b field : List ℕ) (t : ℕ) (f : PesFault)
    → pts_at b ≡ Ok t
    → field ≡ drop 39 b
    → units_at (length (drop 1 field) / 46) [] (drop 1 field) ≡ Err f
    → value_at b ≡ Err f
unfolding value_at
unit_fault_refuses_value b field t f e same bad =
    let there = rw (same, drop-drop 1 39 b) at bad in
    rw (e, there) refl

-- If a value can be parsed from the bytes of a PES packet from byte 6 on, it fits in a `PesFrame`.
accepted_value_is_valid : (body : List ℕ) (v : PesValue)
    → length body + 6 ≤ 1656
    → (length body + 6) % 184 ≡ 0
    → 0 < length body
    → AreBytes body
    → value_at body ≡ Ok v
    → IsPesValue v
accepted_value_is_valid body v short whole some fit e =
    let n : ℕ = (length body + 6) / 184 in
    packet_value_is_valid v (first_six_bytes n ++ body)
    (decoded_body_is_valid n body v (omega arith) (omega arith) (omega arith) fit e)

-- The bytes have the length of a PES packet without its first six bytes.
pub record IsPesBody (body : List ℕ) : Type 0 where
  pub short : length body + 6 ≤ 1656
  pub whole : (length body + 6) % 184 ≡ 0
  pub long : 184 ≤ length body + 6
  pub fit : AreBytes body

-- The parsed fields are those of the PES packet whose bytes from byte 6 on are `body`.
pub record DescribesPacket (body : List ℕ) (h : BufferedPacketValue) : Type 0 where
  pub value : value_at body ≡ Ok (buffered_frame (drop 39 body) h)
  pub known : ArePacketFields (drop 39 body) h

pub new_units_describe_packet : (body field : List ℕ) (h : BufferedPacketValue)
    → IsPesBody body
    → pts_at body ≡ Ok h.pts
    → field ≡ drop 39 body
    → length field ≡ h.count
    → EndWithinField (length field) h.places
    → AreAllUnitPlaces field h.places
    → units_at (length (drop 1 field) / 46) [] (drop 1 field) ≡ Ok (sent_units field h.places)
    → DescribesPacket body h
new_units_describe_packet body field h is time same count within all read =
    let there = rw (same, drop-drop 1 39 body) at read in
    let value : value_at body ≡ Ok (buffered_frame (drop 39 body) h) =
    pts_and_units_give_value body h.pts (length (drop 40 body) / 46) (sent_units (drop 39 body)
    h.places) time
    refl there in
    record {
      value = value;
      known = record {
        count = rw (← same) count;
        short = omega (arith, is.short, is.long, count, ap length same, length-drop 39 body);
        within = rw (← same) within;
        units = rw (← same) (λ _. read);
        all = rw (← same) all;
        value = accepted_value_is_valid body _ is.short is.whole (omega (arith, is.long)) is.fit
            value;
      };
    }

pub repeated_units_describe_packet : (body field before : List ℕ) (old h : BufferedPacketValue)
    → IsPesBody body
    → pts_at body ≡ Ok h.pts
    → field ≡ drop 39 body
    → field ≡ before
    → ArePacketFields before old
    → h.count ≡ old.count
    → h.places ≡ old.places
    → DescribesPacket body h
repeated_units_describe_packet body field before old h is time same kept known count places =
    let there : ArePacketFields field old = subst (λ f. ArePacketFields f old) (sym kept) known in
    let some : 0 < length field =
    omega (arith, is.long, ap length same, length-drop 39 body) in
    new_units_describe_packet body field h is time same (there.count ∙ sym count)
    (rw places there.within)
    (rw places there.all) (rw places (there.units some))

pub buffer_holds_data_field : (size count : ℕ) (room body : List ℕ)
    → body ≡ drop 6 (take size room)
    → count + 39 ≡ length body
    → 6 ≤ size
    → size ≤ length room
    → data_field_in_buffer count room ≡ drop 39 body
buffer_holds_data_field size count room body is all long fits =
    let taken = length-take-le size room fits in
    let left = length-drop 6 (take size room) in
    let sum : 45 + count ≡ size = omega (arith, ap length is, all, taken, left) in
    sym (ap (drop 39) is ∙ drop-drop 39 6 (take size room)
    ∙ ap (λ n. drop 45 (take n room)) (sym sum) ∙ drop-take 45 count room)

pub empty_buffer_holds_no_packet : ArePacketFields [] no_buffered_packet
unfolding units_at
empty_buffer_holds_no_packet = grind (arith, nat_tests, empty_field_has_no_places)

abbrev pub frame_buffer_value_in : BufferedPacketValue → List ℕ → FrameBufferValue
frame_buffer_value_in h room = record {
  frame = buffered_frame (data_field_in_buffer h.count room) h;
  data_field = data_field_in_buffer h.count room;
}

pub new_packet_changes_data_field : (new : BufferedPacketValue) (room pes_packet body : List ℕ)
    → body ≡ drop 6 pes_packet
    → take (length pes_packet) room ≡ pes_packet
    → new.count + 39 ≡ length body
    → length pes_packet ≡ length body + 6
    → length pes_packet ≤ length room
    → data_field_in_buffer new.count room ≡ drop 39 body
new_packet_changes_data_field new room pes_packet body is put count size fits =
    buffer_holds_data_field (length pes_packet) new.count room body (is ∙ ap (drop 6) (sym put))
    count
    (omega (arith, size)) fits

pub new_packet_is_kept : (old new : BufferedPacketValue) (before room pes_packet body : List ℕ)
    → body ≡ drop 6 pes_packet
    → value_at body ≡ Ok (buffered_frame (drop 39 body) new)
    → (drop 39 body ≡ data_field_in_buffer old.count before → ⊥)
    → data_field_in_buffer new.count room ≡ drop 39 body
    → BuffersPesPacket (frame_buffer_value_in old before) pes_packet (Ok false)
    (frame_buffer_value_in new room)
new_packet_is_kept old new before room pes_packet body is value other there = record {
  value = ap value_at (sym is) ∙ value ∙ ap (λ f. Ok (buffered_frame f new)) (sym there);
  field = there ∙ ap (drop 39) is ∙ drop-drop 39 6 pes_packet;
  err = tt;
  kind = tt;
  same = λ no. absurd cc;
  units = λ no. absurd cc;
  other = λ _ e. other (sym there ∙ e);
}
