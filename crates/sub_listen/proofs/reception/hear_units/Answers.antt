-- Each iteration of `hear_units` passes one more packet to the receiver, if the packet arrives and
-- the receiver uses it.
use Rattle.std.proofs.Common.{◌≡◌, ◌+◌, ◌<◌, ℕ, ◌∷◌, List, drop, length, arith, rules, subst, ◌∙◌}
use Rattle.std.proofs.lemmas.List.{length-map}
use Rattle.ttx_packet.specs.PageId.{PageIdValue}
use Rattle.ttx_page.specs.Screen.{display}
use Rattle.ttx_pes.specs.DataUnit.{UnitValue}
use Rattle.sub_rules.specs.PacketRules.{packets_of_units}
use Rattle.sub_listen.specs.Reception.{ReceivesPackets, packets_used_by}
use Rattle.sub_listen.proofs.ReceptionLemmas.{packets_from_index_unfold}
use Rattle.sub_listen.proofs.reception.hear_units.Goals as goal

pub loop-k-preserved : goal.loop-k-preserved
loop-k-preserved g c =
    let l = c.args.listening.now in
    let units = c.args.units.now in
    let ps = packets_of_units units in
    let k : ℕ = c.loop-k.k in
    let i = c.loop-k.invariant in
    let within : k < length units = search rules in
    let long : length ps ≡ length units = length-map units (λ (u : UnitValue). u.packet) in
    let p : List ℕ = c.packet-packet.result in
    let next : drop k ps ≡ p ∷ drop (k + 1) ps =
    packets_from_index_unfold ps k p (omega (arith, within, long)) (c.packet-packet.ensures ∙
    c.packet.ensures) in
    record {
      tuned = c.hear_packet.ensures.tuned ∙ i.tuned;
      run = λ end rest.
          let on : c.args.number + (k + 1) ≡ c.args.number + k + 1 = omega arith in
          let one =
          subst (λ (w : PageIdValue).
          ReceivesPackets l g.R.Receiver.leaves w
          (display (g.R.Receiver.state c.hear_packet.new.receiver) c.hear_packet.new.screen)
          (packets_used_by l (c.args.number + k + 1) (drop (k + 1) ps)) end
          → ReceivesPackets l g.R.Receiver.leaves w
          (display (g.R.Receiver.state c.loop-k.receiver) c.loop-k.screen)
          (packets_used_by l (c.args.number + k) (p ∷ drop (k + 1) ps)) end)
          i.tuned (c.hear_packet.ensures.run (drop (k + 1) ps) end) in
          i.run end (rw next (one (rw on at rest)));
    }
