use Rattle.std.proofs.Common.{◌≡◌, take}
use Rattle.ttx_page.specs.Receiver.{Hears, HearsLeaving}
use Rattle.ttx_page.proofs.receiver.hear_all.Given as goal

abbrev pub invariant-loop-packet : goal.invariant-loop-packet
invariant-loop-packet g l =
    Hears (g.R.Receiver.tuned_to l.fn.receiver) (g.R.Receiver.state l.fn.receiver)
    (take l.packet-index l.packets) (g.R.Receiver.state l.receiver)
    × HearsLeaving g.R.Receiver.leaves (g.R.Receiver.tuned_to l.fn.receiver)
    (g.R.Receiver.state l.fn.receiver) (take l.packet-index l.packets)
    (g.R.Receiver.state l.receiver)
    × (g.R.Receiver.tuned_to l.receiver ≡ g.R.Receiver.tuned_to l.fn.receiver)
