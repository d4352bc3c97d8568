-- Loop invariant of `first_forbidden_loss`: no packet so far is lost that must not be lost, so the
-- result depends only on the remaining packets.
use Rattle.std.proofs.Common.{◌≡◌, ◌+◌, drop, option_map}
use Rattle.sub_rules.specs.PacketRules.{packets_of_units}
use Rattle.sub_listen.specs.Reception.{first_forbidden_loss, reception_of}
use Rattle.sub_listen.proofs.reception.first_forbidden_loss.Given as goal

abbrev pub invariant-loop-k : goal.invariant-loop-k
invariant-loop-k l =
    first_forbidden_loss (reception_of l.listening) l.number (packets_of_units l.units)
    ≡ option_map (λ place. place + l.k)
    (first_forbidden_loss (reception_of l.listening) (l.number + l.k)
    (drop l.k (packets_of_units l.units)))
