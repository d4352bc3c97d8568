-- If the sink did not fail, it received exactly the line of the fault.
use Rattle.std.proofs.Common.{◌≡◌, rules, subst, true}
use Rattle.std.specs.Io.KnownBytes.{Appends}
use Rattle.sub_io.proofs.DeviceLemmas.{AppendsPrefix-whole}
use Rattle.sub_io.specs.Calls.{PutsByPushes}
use Rattle.sub_listing.specs.FaultLine.{text_of_fault_line}
use Rattle.sub_listing.proofs.printing.print_fault_line.Goals as goal

pub returns-in-Ok-clause-line : goal.returns-in-Ok-clause-line
returns-in-Ok-clause-line g c =
    let line : c.as_slice.result.now ≡ text_of_fault_line c.args.reported.now = search rules in
    record {
      ok = true;
      calls =
          subst (λ l. PutsByPushes g.K.Sink.is_push c.args.out.now l true c.put_all.new.sink) line
          c.in-Ok.ensures.calls;
      bytes =
          AppendsPrefix-whole _ _ _
          (subst (Appends (g.K.Sink.contents c.args.out.now) (g.K.Sink.contents c.put_all.new.sink))
          line c.in-Ok.ensures.bytes);
    }
