-- Either the receiver runs from the first PES packet, or the source failed before this packet was
-- found.
use Rattle.std.proofs.Common.{◌≡◌, ◌+◌, arith, inl, inr}
use Rattle.sub_listing.specs.DeviceCall.{read_call}
use Rattle.sub_answer.proofs.ListenListingLemmas.{keeping_preserves_listening}
use Rattle.sub_answer.proofs.ListenListingLemmas.{failed_read_hears_nothing}
use Rattle.sub_answer.proofs.answering.listen.print_state_of.Goals as goal

pub returns-in-Ok-clause-exact : goal.returns-in-Ok-clause-exact
returns-in-Ok-clause-exact g c =
    let counted = c.in-Ok.ensures.count in
    let same : g.P.PesPackets.failure_count c.find_first.new.self
    ≡ g.P.PesPackets.failure_count c.args.pes.now = omega (arith, counted) in
    record {
      number = c.in-Ok.first;
      starts = λ n is. inl (c.in-Ok.ensures.first n is);
      heard =
          keeping_preserves_listening _ _ c.in-Ok.first _ _ _ _ _ _ _ _ c.in-Ok.ensures.kept same
          c.print_received.ensures.exact;
    }

pub returns-in-Err-clause-exact : goal.returns-in-Err-clause-exact
returns-in-Err-clause-exact g c =
    let counted = c.in-Err.ensures.count in
    let risen : g.P.PesPackets.failure_count c.find_first.new.self
    ≡ g.P.PesPackets.failure_count c.args.pes.now + 1 = omega (arith, counted) in
    record {
      number = c.in-Err.at.pes;
      starts = λ n is.
          inr (
            c.in-Err.ensures.before n is,
            c.in-Err.ensures.failed,
            c.in-Err.ensures.left n is,
            (risen, c.in-Err.ensures.unread),
          );
      heard =
          failed_read_hears_nothing _ _ c.in-Err.at.pes
          (read_call g.P.PesPackets.remaining g.P.PesPackets.left g.P.PesPackets.failure_count
          c.args.pes.now
          c.find_first.new.self)
          _ _ c.in-Err.ensures.unread risen
          (rw c.fault_line_of_failed_read.ensures at c.print_fault_line.ensures.printed);
    }
