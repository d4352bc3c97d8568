-- Loop invariant of `list_to`: no device has failed, and the printed lines are the start of any
-- listing that is still possible.
use Rattle.std.proofs.Common.{◌≡◌, false}
use Rattle.sub_listing.proofs.ListingLemmas.{IsPrefix}
use Rattle.sub_listing.proofs.listing.list_to.Given as goal

abbrev pub invariant-items : goal.invariant-items
invariant-items g l = record {
  ready : g.L.Lister.ready l.lister;
  source : g.L.Lister.failure_count l.input ≡ g.L.Lister.failure_count l.fn.input;
  device : g.L.Lister.device l.input ≡ g.L.Lister.device l.fn.input;
  same : l.printer.out.ghost_name ≡ l.fn.printer.out.ghost_name;
  continues : l.printer.failed ≡ false;
  holds :
      (l.fn.printer.pending ≡ false → g.K.Flush.buffered l.fn.printer.out.now ≡ 0)
      → l.printer.pending ≡ false
      → g.K.Flush.buffered l.printer.out.now ≡ 0;
  out : g.K.Sink.failure_count l.printer.out.now ≡ g.K.Sink.failure_count l.fn.printer.out.now;
  prefix : IsPrefix
      (g.L.Lister.lists l.fn.lister) (g.L.Lister.lists l.lister)
      (g.L.Lister.known l.fn.input) (g.L.Lister.known l.input)
      (g.K.Sink.contents l.fn.printer.out.now) (g.K.Sink.contents l.printer.out.now);
}

abbrev pub decreases-items : goal.decreases-items
decreases-items g l = g.L.Lister.items_left l.lister
