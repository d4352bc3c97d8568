-- A PES packet that repeats the packet before it has the same parsed fields, except for its PTS.
use Rattle.std.proofs.Common.{◌≡◌, ℕ, ◌+◌, ◌%◌, ◌≤◌, List, length, drop, Ok, refl, sym, ap, subst}
use Rattle.std.proofs.Common.{◌∙◌, arith, length-drop}
use Rattle.std.proofs.lemmas.List.{drop-drop}
use Rattle.sub_io.specs.Reading.{AreBytes}
use Rattle.ttx_pes.specs.Reading.{pts_at, value_at}
use Rattle.ttx_pes.specs.Accepting.{BufferedPacketValue, IsDataFieldSize, ArePacketFields}
use Rattle.ttx_pes.specs.Accepting.{IsRepeatedPacket}
use Rattle.ttx_pes.specs.Accepting.{buffered_frame}
use Rattle.ttx_pes.proofs.DataUnitLemmas.{AreBytes-drop}
use Rattle.ttx_pes.proofs.FrameBufferLemmas.{IsPesBody, repeated_units_describe_packet}

pub repeated_packet_keeps_units : (pes_packet before body field : List ℕ) (h : BufferedPacketValue)
    (t : ℕ)
    → AreBytes pes_packet
    → ArePacketFields before h
    → length pes_packet ≡ h.count + 45
    → IsDataFieldSize h.count
    → body ≡ drop 6 pes_packet
    → field ≡ drop 39 body
    → field ≡ before
    → pts_at body ≡ Ok t
    → IsRepeatedPacket before h pes_packet t
repeated_packet_keeps_units pes_packet before body field h t fit known e field_size is same kept
    time =
    let long : 184 ≤ length pes_packet = omega (arith, e, field_size.long) in
    let short : length pes_packet ≤ 1656 = rw e known.short in
    let whole : length pes_packet % 184 ≡ 0 = rw e field_size.whole in
    let length_eq : length body + 6 ≡ length pes_packet =
    omega (arith, ap length is, length-drop 6 pes_packet, long) in
    let there : IsPesBody body = record {
      short = rw length_eq short;
      whole = rw length_eq whole;
      long = rw length_eq long;
      fit = rw is (AreBytes-drop 6 pes_packet fit);
    } in
    let new : BufferedPacketValue = record h { pts = t } in
    let again = repeated_units_describe_packet body field before h new there time same kept known
    refl refl in
    let prefix : drop 39 body ≡ before = sym same ∙ kept in
    record {
      value = ap value_at (sym is) ∙ again.value ∙ ap (λ f. Ok (buffered_frame f new)) prefix;
      field_is_after_header = sym (drop-drop 39 6 pes_packet) ∙ ap (drop 39) (sym is) ∙ prefix;
      known = subst (λ f. ArePacketFields f new) prefix again.known;
    }
