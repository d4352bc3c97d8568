-- A transport packet of another PID does not change the reading state.
use Rattle.std.proofs.Common.{◌∙◌}
use Rattle.mpeg_ts.specs.contracts.stream.Stream.{the_view}
use Rattle.mpeg_ts.proofs.StreamLemmas.{other_pid_packet_is_ignored}
use Rattle.mpeg_ts.proofs.stream.Stream.join.Goals as goal

pub returns-then-pid_of-self : goal.returns-then-pid_of-self
returns-then-pid_of-self c =
    rw (← c.self.view_is) (other_pid_packet_is_ignored (the_view c.self.inside) c.args.packet.now
    (λ same. c.if-pid_of-self.true (c.pid_of.ensures ∙ same)))
