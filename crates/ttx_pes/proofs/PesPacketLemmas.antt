-- If a reader returns the fault of a complete PES packet, it has consumed this packet.
use Rattle.std.proofs.Common.{◌≡◌, ◌≤◌, ℕ, List, [], ◌++◌, length, take, drop, Option, Ok, Err}
use Rattle.std.proofs.Common.{refl, sym, ap, ◌∙◌, arith, length-take}
use Rattle.std.proofs.lemmas.List.{append-nil, take-append-drop}
use Rattle.sub_io.specs.Reading.{AreBytes}
use Rattle.ttx_pes.specs.declared.fault.PesFault.{PesFault}
use Rattle.ttx_pes.specs.PesPackets.{IsPesPacket, TakesRefusedPesPacket}
use Rattle.ttx_pes.specs.Reading.{size_at, value_at, packet_at}
use Rattle.ttx_pes.specs.Accepting.{SettlesPacket}
use Rattle.ttx_pes.proofs.DataUnitLemmas.{AreBytes-take}
use Rattle.ttx_pes.proofs.PesHeaderLemmas.{decoded_header_has_size}
use Rattle.ttx_pes.proofs.AcceptingLemmas.{settled_result_is_value}

-- If bytes begin with the start code, and their number is the size that their length field states,
-- they are a PES packet.
pub stated_size_gives_pes_packet : (b : List ℕ)
    → AreBytes b
    → 6 ≤ length b
    → size_at (take 6 b) ≡ Ok (length b)
    → IsPesPacket b
stated_size_gives_pes_packet b fit long e =
    let h = decoded_header_has_size (take 6 b) (length b) (length-take 6 b ∙ omega arith)
    (AreBytes-take 6 b fit)
    e in
    record {
      n = h.0;
      body = drop 6 b;
      bytes = sym (take-append-drop 6 b) ∙ ap (λ (x : List ℕ). x ++ drop 6 b) h.4;
      size = (h.1, h.2);
      long = h.3;
    }

-- If the fault of a complete PES packet is returned, that packet was consumed.
pub refused_packet_is_consumed : (old new : Option (List ℕ)) (taken body : List ℕ) (f : PesFault)
    → SettlesPacket old new taken (value_at (drop 6 taken))
    → body ≡ drop 6 taken
    → value_at body ≡ Err f
    → AreBytes taken
    → 6 ≤ length taken
    → size_at (take 6 taken) ≡ Ok (length taken)
    → TakesRefusedPesPacket old new f
refused_packet_is_consumed old new taken body f h same e fit long header_states_size =
    let s = settled_result_is_value old new taken body (Err f) h same e in
    record {
      bytes = taken;
      is_pes_packet = stated_size_gives_pes_packet taken fit long header_states_size;
      consumed = h.consumed;
      refused = ap packet_at (sym (append-nil taken)) ∙ s.answer [] (λ _. refl);
    }
