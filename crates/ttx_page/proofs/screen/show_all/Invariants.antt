-- After each iteration of `show_all`, the receiver and its screen have received the packets so far.
use Rattle.std.proofs.Common.{◌≡◌, take}
use Rattle.ttx_page.specs.Screen.{Shows, ShowsWaiting, display}
use Rattle.ttx_page.proofs.screen.show_all.Given as goal

abbrev pub invariant-loop-packet : goal.invariant-loop-packet
invariant-loop-packet g l =
    Shows (g.R.Receiver.tuned_to l.fn.receiver)
    (display (g.R.Receiver.state l.fn.receiver) l.fn.screen) (take l.packet-index l.packets)
    (display (g.R.Receiver.state l.receiver) l.screen)
    × ShowsWaiting g.R.Receiver.leaves (g.R.Receiver.tuned_to l.fn.receiver)
    (display (g.R.Receiver.state l.fn.receiver) l.fn.screen) (take l.packet-index l.packets)
    (display (g.R.Receiver.state l.receiver) l.screen)
    × (g.R.Receiver.tuned_to l.receiver ≡ g.R.Receiver.tuned_to l.fn.receiver)
