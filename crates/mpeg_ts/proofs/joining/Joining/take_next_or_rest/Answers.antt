-- `take_next_or_rest` takes the first pending item: a PES packet, a gap marker, or bytes that do
-- not begin with a PES packet. If it takes no item, no bytes are pending.
use Rattle.mpeg_ts.proofs.ReadyLemmas.{packet_is_taken_first}
use Rattle.mpeg_ts.proofs.joining.Joining.take_next_or_rest.Goals as goal

pub returns-in_default : goal.returns-in_default
returns-in_default c = record {
  first = packet_is_taken_first c.args.self.now c.take_next-next.new.self c.take_next-next.result
      c.in_default.not-Rest c.take_next-next.ensures.next;
  within = c.take_next-next.ensures.within;
}
