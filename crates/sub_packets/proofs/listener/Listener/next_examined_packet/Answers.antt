use Rattle.std.proofs.Common.{◌≡◌, inl, inr, arith}
use Rattle.std.proofs.lemmas.Bool.{cases_lt}
use Rattle.sub_packets.proofs.listener.Listener.next_examined_packet.Goals as goal

pub loop-k-preserved : goal.loop-k-preserved
loop-k-preserved c j low high =
    let skipped = c.can_be_skipped.ensures in
    let is = c.if-not-can_be_skipped.false in
    elim (cases_lt j c.loop-k.k) [
      | inl before ↦ c.loop-k.invariant j low before
      | inr last ↦
          let same : j ≡ c.loop-k.k = omega arith in
          rw (same, ← c.packet.ensures) (record {
            no_header = skipped.no_header is;
            skipped = λ heard known. skipped.skipped heard known is;
          })
    ]
