use Rattle.std.proofs.Common.{None, refl, ◌∙◌, ap, arith, Ok, Err}
use Rattle.ttx_page.specs.Screen.{display}
use Rattle.sub_listen.specs.Run.{is_failed_read}
use Rattle.sub_answer.specs.ListenListing.{listing_of}
use Rattle.sub_answer.proofs.ListenListingLemmas.{listening_starts_from_old_page}
use Rattle.sub_listing.proofs.PrintingLemmas.{unchanged_count_means_success}
use Rattle.sub_listing.proofs.PrintingLemmas.{changed_count_means_failure}
use Rattle.sub_answer.proofs.answering.listen.print_received.Goals as goal

pub returns-in-Ok-clause-exact : goal.returns-in-Ok-clause-exact
returns-in-Ok-clause-exact g c = record {
  exact = λ frames unread bytes reported reads same. (
    listing_of c.args.first c.asks_complete.result
        (display (g.R.Receiver.state c.listen_pes_packets.new.receiver)
        c.listen_pes_packets.new.screen)
        (Ok tt),
    listening_starts_from_old_page _ c.args.listening.now c.args.first frames unread
        _ _ _ _ _ (Ok tt)
        c.old_page.result c.asks_complete.result c.asks_complete.ensures.value
        (c.tune-receiver.ensures.tuned ∙ c.page.ensures.value)
        (ap (λ s. display s None) c.tune-receiver.ensures.state)
        c.old_page.ensures (c.in-Ok.ensures.exact frames unread bytes reported reads refl)
        c.print_state.ensures.page,
    c.print_state.ensures.printed,
  );
  read = λ other.
      let counted = c.in-Ok.ensures.count in absurd (other (omega (arith, counted)));
}

pub returns-clause-exact : goal.returns-clause-exact
returns-clause-exact g c = record {
  exact = λ frames unread bytes reported reads same. (
    listing_of c.args.first c.args.listening.now.options.asks_complete
        (display (g.R.Receiver.state c.listen_pes_packets.new.receiver)
        c.listen_pes_packets.new.screen)
        (Err c.in-Err.fault),
    listening_starts_from_old_page _ c.args.listening.now c.args.first frames unread
        _ _ _ _ _ (Err c.in-Err.fault)
        c.old_page.result
        c.args.listening.now.options.asks_complete refl
        (c.tune-receiver.ensures.tuned ∙ c.page.ensures.value)
        (ap (λ s. display s None) c.tune-receiver.ensures.state)
        c.old_page.ensures
        (c.in-Err.ensures.exact frames unread bytes reported reads
        (unchanged_count_means_success (is_failed_read c.in-Err.fault) _ _ c.in-Err.ensures.count
        same)) tt,
    rw (c.counted_from.ensures, c.fault_line_of_listen.ensures) at
        c.print_fault_line.ensures.printed,
  );
  read = λ other. (
    c.in-Err.fault,
    c.in-Err.ensures.failed
        (changed_count_means_failure (is_failed_read c.in-Err.fault) _ _ c.in-Err.ensures.count
        other),
    rw (c.counted_from.ensures, c.fault_line_of_listen.ensures) at
        c.print_fault_line.ensures.printed,
  );
}
