-- `listen_pes_packets` ends at the end of the file, at the first PES packet after TIME, or with a
-- fault: a PES packet is unreadable or out of order, or loses a packet that must not be lost.
use Rattle.std.proofs.Common.{◌+◌, ◌≤◌, ◌∙◌, Err, List, Ok, Option, Result, Some, ap, arith, length}
use Rattle.std.proofs.Common.{refl, subst, sym}
use Rattle.std.proofs.lemmas.Result.{err_from_is_err_and}
use Rattle.ttx_packet.specs.PageId.{PageIdValue}
use Rattle.ttx_page.specs.Screen.{display}
use Rattle.ttx_pes.specs.DataUnit.{UnitValue}
use Rattle.ttx_pes.specs.PesGrammar.{max_units}
use Rattle.ttx_pes.proofs.ConsumedPackets.{takes-more}
use Rattle.sub_rules.specs.PacketRules.{packets_of_units}
use Rattle.sub_rules.specs.declared.fault.CheckFault.{CheckFault}
use Rattle.sub_rules.specs.declared.pes_packet.NextPesPacket.{NextPesPacket}
use Rattle.sub_rules.specs.declared.pes_packet.NextPesPacket.TheVariants.{Skipped}
use Rattle.sub_listen.specs.Run.{least_frame_after}
use Rattle.sub_listen.specs.Reception.{ReceivesPackets, packets_used_by, first_forbidden_loss}
use Rattle.sub_listen.specs.Reception.{reception_of}
use Rattle.sub_listen.proofs.ListenResultLemmas.{ReachesPesPacket, ends_at_end, ends_late}
use Rattle.sub_listen.proofs.ListenResultLemmas.{ends_lost, ends_order}
use Rattle.sub_listen.proofs.ListenResultLemmas.{ends_unread, failed_read_ends_listening}
use Rattle.sub_listen.proofs.ListenResultLemmas.{reaches_next}
use Rattle.sub_listen.proofs.listening.listen_pes_packets.Goals as goal

pub returns-in_err-next-clause-exact : goal.returns-in_err-next-clause-exact
returns-in_err-next-clause-exact g c = λ frames unread bytes reported reads fine.
    let p = err_from_is_err_and c.from_residual.result c.from_residual.ensures.1 in
    let known = rw (p.1, p.2) at fine in
    let i = c.packets.invariant.reported frames unread bytes reported reads in
    rw (p.1, p.2)
    (ends_unread _ c.args.listening.now frames unread _ _ _ c.packets.index _ _ _ _ _ i _
    c.next_pes_packet.new.reader.frame (Err _) _
    (λ pes_packets left reads.
    c.in_err-next.ensures.exact pes_packets left i.rest i.rest_eq known reads) refl)

pub returns-in-Skipped-clause-exact : goal.returns-in-Skipped-clause-exact
returns-in-Skipped-clause-exact g c = λ frames unread bytes reported reads fine.
    let i = c.packets.invariant.reported frames unread bytes reported reads in
    ends_unread _ c.args.listening.now frames unread _ _ _ c.packets.index _ _ _ _ _ i _
    c.next_pes_packet.new.reader.frame (Ok (Some (Skipped c.in-Skipped.fault))) c.in-Skipped.fault
    (λ pes_packets left reads. rw (c.in-Some.is, c.in-Skipped.is) at
    (c.in_ok-next.ensures.exact pes_packets left i.rest i.rest_eq refl reads)) refl

pub returns-in_err-next-clause-failed : goal.returns-in_err-next-clause-failed
returns-in_err-next-clause-failed g c =
    let p = err_from_is_err_and c.from_residual.result c.from_residual.ensures.1 in
    rw (p.1, p.2)
    (failed_read_ends_listening c.args.listening.now c.packets.index
    _ _ _ _ c.packets.invariant.taken
    c.in_err-next.ensures.place c.in_err-next.ensures.within
    (λ frames unread bytes reported reads.
    (c.packets.invariant.reported frames unread bytes reported reads).heard))

pub returns-in_default-clause-exact : goal.returns-in_default-clause-exact
returns-in_default-clause-exact g c = λ frames unread bytes reported reads fine.
    let i = c.packets.invariant.reported frames unread bytes reported reads in
    ends_at_end _ c.args.listening.now frames unread _ _ _ c.packets.index _ _ _ _ _ i _
    c.next_pes_packet.new.reader.frame
    (λ pes_packets left reads. rw c.in_default.is at
    (c.in_ok-next.ensures.exact pes_packets left i.rest i.rest_eq refl reads))

pub returns-then-frame-least-clause-exact : goal.returns-then-frame-least-clause-exact
returns-then-frame-least-clause-exact g c = λ frames unread bytes reported reads fine.
    let i = c.packets.invariant.reported frames unread bytes reported reads in
    ends_order _ c.args.listening.now frames unread _ _ _ c.packets.index _ _ _ _ _ i _
    c.next_pes_packet.new.reader.frame c.in-Sent.sending
    (λ pes_packets left reads. rw (c.in-Some.is, c.in-Sent.is) at
    (c.in_ok-next.ensures.exact pes_packets left i.rest i.rest_eq refl reads))
    (rw ((rw c.in-Some.is at c.in_ok-next.ensures.settled) refl)
    (takes-more c.packets.index _ _ _ _ c.packets.invariant.taken
    (c.in_ok-next.ensures.sent c.in-Sent.sending (cc))))
    c.if-frame-least.true

pub returns-then-frame-listening-clause-exact : goal.returns-then-frame-listening-clause-exact
returns-then-frame-listening-clause-exact g c = λ frames unread bytes reported reads fine.
    let i = c.packets.invariant.reported frames unread bytes reported reads in
    let rises = c.if-frame-least.false in
    let late = c.if-frame-listening.true in
    ends_late _ c.args.listening.now frames unread _ _ _ c.packets.index _ _ _ _ _ i _
    c.next_pes_packet.new.reader.frame c.in-Sent.sending
    (λ pes_packets left reads. rw (c.in-Some.is, c.in-Sent.is) at
    (c.in_ok-next.ensures.exact pes_packets left i.rest i.rest_eq refl reads))
    (rw ((rw c.in-Some.is at c.in_ok-next.ensures.settled) refl)
    (takes-more c.packets.index _ _ _ _ c.packets.invariant.taken
    (c.in_ok-next.ensures.sent c.in-Sent.sending (cc))))
    (omega (arith, rises)) (omega (arith, late))

pub returns-in-Some-first_forbidden_loss-clause-exact :
    goal.returns-in-Some-first_forbidden_loss-clause-exact
returns-in-Some-first_forbidden_loss-clause-exact g c = λ frames unread bytes reported reads fine.
    let i = c.packets.invariant.reported frames unread bytes reported reads in
    let rises = c.if-frame-least.false in
    let in_time = c.if-frame-listening.false in
    let place = c.in-Some-first_forbidden_loss.place in
    let l = c.args.listening.now in
    ends_lost _ l frames unread _ _ _ c.packets.index _ _ _ _ _ i _
    c.next_pes_packet.new.reader.frame c.in-Sent.sending
    (λ pes_packets left reads. rw (c.in-Some.is, c.in-Sent.is) at
    (c.in_ok-next.ensures.exact pes_packets left i.rest i.rest_eq refl reads))
    (rw ((rw c.in-Some.is at c.in_ok-next.ensures.settled) refl)
    (takes-more c.packets.index _ _ _ _ c.packets.invariant.taken
    (c.in_ok-next.ensures.sent c.in-Sent.sending (cc)))) c.first_in_frame-before.result place
    (rw (← c.within-within.ensures.value) c.first_in_frame-before.ensures.value)
    (omega (arith, rises)) (omega (arith, in_time))
    (ap (λ (us : List UnitValue). first_forbidden_loss (reception_of l) c.packets.number
    (packets_of_units us))
    (sym c.units-units.ensures.value)
    ∙ sym c.first_forbidden_loss.ensures.value
    ∙ c.in-Some-first_forbidden_loss.is)

pub packets-preserved : goal.packets-preserved
packets-preserved g c =
    let counted = c.in_ok-next.ensures.count in
    let before = c.packets.invariant.failures in
    let few = c.packets.invariant.few in
    let sent_count_is_bounded = c.packets.invariant.sent_count_is_bounded in
    let value = c.units-units.ensures.value in
    let long = c.len-count.ensures.value in
    let units =
    subst (λ (us : List UnitValue). length us ≤ max_units) (sym c.units-units.ensures.value)
    c.units-units.ensures.frame.few in
    let given = ap (λ x. let r : Result (Option NextPesPacket) CheckFault = Ok x in r)
    (c.in-Some.is ∙ ap (λ (p : NextPesPacket). Some p) c.in-Sent.is) in
    let day = c.in_ok-next.ensures.day c.in-Sent.sending given in
    let packets = (rw c.in-Some.is at c.in_ok-next.ensures.below) refl in
    let rises = c.if-frame-least.false in
    let in_time = c.if-frame-listening.false in
    let l = c.args.listening.now in
    let taken =
    takes-more c.packets.index _ _ _ _ c.packets.invariant.taken
    (c.in_ok-next.ensures.sent c.in-Sent.sending given) in
    let no_forbidden_loss = ap (λ (us : List UnitValue). first_forbidden_loss (reception_of l)
    c.packets.number (packets_of_units us)) (sym value)
    ∙ sym c.first_forbidden_loss.ensures.value
    ∙ c.in_default-first_forbidden_loss.is in
    let run =
    subst (λ (us : List UnitValue). ReceivesPackets l g.R.Receiver.leaves
    (g.R.Receiver.tuned_to c.packets.receiver)
    (display (g.R.Receiver.state c.packets.receiver) c.packets.screen)
    (packets_used_by l c.packets.number (packets_of_units us))
    (display (g.R.Receiver.state c.hear_units.new.receiver)
    c.hear_units.new.screen)) value
    c.hear_units.ensures.run in
    record {
      reading = (rw c.in-Some.is at c.in_ok-next.ensures.progress) refl;
      packet_count_is_bounded = omega (arith, packets);
      taken = taken;
      failures = omega (arith, counted, before);
      device = c.next_pes_packet.ensures.device ∙ c.packets.invariant.device;
      tuned = c.hear_units.ensures.tuned ∙ c.packets.invariant.tuned;
      few = omega (arith, few, units, long);
      sent_count_is_bounded =
          omega (arith, sent_count_is_bounded, c.first_in_frame-before.ensures.most, units, long);
      day = omega (arith, day, c.least_frame_after-least.ensures.most);
      reported = λ frames unread bytes reported reads.
          let i = c.packets.invariant.reported frames unread bytes reported reads in
          rw (long, c.least_frame_after-least.ensures.value, c.within-within.ensures.value)
          (subst (λ (us : List UnitValue). ReachesPesPacket g.R.Receiver.leaves l frames unread
          (g.R.Receiver.tuned_to c.args.receiver.now)
          (display (g.R.Receiver.state c.args.receiver.now) c.args.screen.now)
          (g.P.PesPackets.remaining c.next_pes_packet.new.source) (c.packets.index + 1)
          (c.packets.number + length us) (c.first_in_frame-before.result + length us)
          (least_frame_after l.options.within c.in-Sent.sending.frame)
          (display (g.R.Receiver.state c.hear_units.new.receiver)
          c.hear_units.new.screen))
          (sym value)
          (reaches_next _ l frames unread (g.P.PesPackets.remaining c.args.pes.now) _ _
          c.packets.index _ _ _ _ _ i _
          c.next_pes_packet.new.reader.frame c.in-Sent.sending
          (λ pes_packets left reads. rw (c.in-Some.is, c.in-Sent.is) at
          (c.in_ok-next.ensures.exact pes_packets left i.rest i.rest_eq refl reads)) taken
          c.first_in_frame-before.result _
          (rw (← c.within-within.ensures.value) c.first_in_frame-before.ensures.value)
          (omega (arith, rises)) (omega (arith, in_time)) no_forbidden_loss
          ((rw c.in-Some.is at (c.in_ok-next.ensures.left i.rest i.rest_eq)) refl)
          (subst (λ (w : PageIdValue). ReceivesPackets l g.R.Receiver.leaves w
          (display (g.R.Receiver.state c.packets.receiver) c.packets.screen)
          (packets_used_by l c.packets.number
          (packets_of_units c.next_pes_packet.new.reader.frame.units))
          (display (g.R.Receiver.state c.hear_units.new.receiver)
          c.hear_units.new.screen))
          c.packets.invariant.tuned run)));
    }
