-- If the bytes of a part begin with a complete PES packet, that PES packet becomes pending.
use Rattle.std.proofs.Common.{◌≤◌, List, ℕ, arith, length, subst, take}
use Rattle.ttx_pes.specs.PesPackets.{IsPesPacket}
use Rattle.mpeg_ts.proofs.joining.Joining.append_payload.Goals as goal

pub invariant_of-self-in-CompletePesPacket : goal.invariant_of-self-in-CompletePesPacket
invariant_of-self-in-CompletePesPacket c =
    let size = c.in-CompletePesPacket.size in
    record {
      last = omega (arith, c.add.ensures.len);
      room = λ e. absurd cc;
      waits =
          subst (λ (l : List ℕ). IsPesPacket (take size l) × (size ≤ length l))
          c.as_slice.ensures.bytes
          (c.find_packet.ensures.packet size c.in-CompletePesPacket.is);
    }
