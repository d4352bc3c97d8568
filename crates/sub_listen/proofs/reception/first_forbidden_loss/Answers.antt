-- `first_forbidden_loss` returns the index of the first packet that is listed as lost and not
-- skipped, but must not be lost.
use Rattle.std.proofs.lemmas.Bool.Decides.{nat_tests}
use Rattle.std.proofs.Common.{◌<◌, ℕ, length, arith, rules, sym, ◌∙◌}
use Rattle.std.proofs.lemmas.List.{length-map, nil_from_length}
use Rattle.ttx_pes.specs.DataUnit.{UnitValue}
use Rattle.sub_rules.specs.PacketRules.{packets_of_units}
use Rattle.sub_listen.specs.Reception.{reception_of}
use Rattle.sub_listen.proofs.ReceptionLemmas.{first_forbidden_loss-none, forbidden_loss_is_first}
use Rattle.sub_listen.proofs.ReceptionLemmas.{forbidden_loss_is_later}
use Rattle.sub_listen.proofs.reception.first_forbidden_loss.Goals as goal

pub returns-then-is_empty : goal.returns-then-is_empty
returns-then-is_empty c = grind (arith, nat_tests, first_forbidden_loss-none, nil_from_length)

pub returns-then-is_forbidden_loss-clause-value : goal.returns-then-is_forbidden_loss-clause-value
returns-then-is_forbidden_loss-clause-value c =
    let units = c.args.units.now in
    let k : ℕ = c.loop-k.k in
    let l : k < length units = search rules in
    let long = length-map units (λ (u : UnitValue). u.packet) in
    forbidden_loss_is_first (reception_of c.args.listening.now) c.args.number
    (packets_of_units units) k
    c.packet.result (omega (arith, l, long)) c.packet.ensures c.loop-k.invariant
    (sym c.is_forbidden_loss.ensures ∙ c.if-is_forbidden_loss.true)

pub loop-k-preserved : goal.loop-k-preserved
loop-k-preserved c =
    let units = c.args.units.now in
    let k : ℕ = c.loop-k.k in
    let l : k < length units = search rules in
    let long = length-map units (λ (u : UnitValue). u.packet) in
    forbidden_loss_is_later (reception_of c.args.listening.now) c.args.number
    (packets_of_units units) k
    c.packet.result (omega (arith, l, long)) c.packet.ensures c.loop-k.invariant
    (sym c.is_forbidden_loss.ensures ∙ c.if-is_forbidden_loss.false)
