use Rattle.std.proofs.Common.{◌∙◌, length, map, ap, sym, subst}
use Rattle.sub_packets.specs.Listener.{KnowsLast, frame_has_text_beginning}
use Rattle.sub_rules.specs.Events.{numbered_packet_events}
use Rattle.sub_rules.specs.PacketRules.{header_count, packets_of_units}
use Rattle.sub_rules.specs.Trusted.CheckStep.{Emits}
use Rattle.sub_checker.specs.Checker.{CheckerValue, checker_after_headers}
use Rattle.sub_checker.proofs.ReporterLemmas.{emitted_events_are_relayed}
use Rattle.sub_checker.proofs.checker.Checker.hear.Goals as goal

pub returns-clause-reported : goal.returns-clause-reported
returns-clause-reported g c = λ heard last knows again.
    let ps = packets_of_units c.args.units.now in
    let here = subst (λ (v : CheckerValue). KnowsLast heard last v.listener) (sym c.self.view_is)
    knows in
    let hears = c.hear_pes_packet-headers.ensures.knows heard last here again in
    let count =
    hears.1 ∙ ap (λ (v : CheckerValue). header_count v.listener.watched.page ps) c.self.view_is in (
      emitted_events_are_relayed
          (ap (λ (v : CheckerValue). map Emits (numbered_packet_events v.listener.watched
          v.frame
          c.args.from heard ps (length ps))) (sym c.self.view_is)) hears.3,
      record {
        listener = c.hear_pes_packet-headers.new.self;
        headers = c.hear_pes_packet-headers.result;
        new_eq =
            c.count.ensures
            ∙ ap (λ (v : CheckerValue). checker_after_headers c.hear_pes_packet-headers.result
            (record v {
              listener = c.hear_pes_packet-headers.new.self;
            })) c.self.view_is;
        watched =
            c.hear_pes_packet-headers.ensures.watched
            ∙ ap (λ (v : CheckerValue). v.listener.watched) c.self.view_is;
        due =
            c.hear_pes_packet-headers.ensures.due
            ∙ ap (λ (v : CheckerValue). v.listener.comparison.due) c.self.view_is;
        knows = hears.0;
        count = count;
        begins =
            hears.2
            ∙ ap (λ (v : CheckerValue). frame_has_text_beginning v.listener.watched c.args.from
            v.listener.begun ps) c.self.view_is;
      },
      count,
    )
