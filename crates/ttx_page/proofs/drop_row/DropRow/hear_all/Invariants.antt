use Rattle.std.proofs.Common.{◌≡◌, take}
use Rattle.ttx_page.specs.Receiver.{HearsBy}
use Rattle.ttx_page.specs.Receiver.ReceiverClass.{Dropping}
use Rattle.ttx_page.proofs.drop_row.DropRow.hear_all.Given as goal

abbrev pub invariant-loop-packet : goal.invariant-loop-packet
invariant-loop-packet l =
    HearsBy Dropping l.fn.self.watched l.fn.self.state (take l.packet-index l.packets) l.self.state
    × (l.self.watched ≡ l.fn.self.watched)
