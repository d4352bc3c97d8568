use Rattle.std.proofs.lemmas.Bool.Decides.{nat_tests}
use Rattle.std.proofs.Common.{◌≡◌, ℕ, ◌+◌, ◌<◌, ◌≤◌, ◌++◌, ◌&&◌, ◌||◌, List, [], ◌∷◌, length, take}
use Rattle.std.proofs.Common.{get_or, cond, true, refl, sym, ap, ap₂, ◌∙◌, subst, rules}
use Rattle.std.proofs.Common.{append_assoc, append-nil, arith}
use Rattle.std.proofs.Common.{Bool, map, nat_lt}
use Rattle.std.specs.List.{filter}
use Rattle.std.proofs.lemmas.List.{length-map, take_all, take_more}
use Rattle.ttx_pes.specs.DataUnit.{UnitValue}
use Rattle.ttx_page.specs.PacketKind.{begins_text, is_this_page, kind}
use Rattle.ttx_page.specs.Span.{has_text_beginning}
use Rattle.sub_io.specs.Reporting.{Reports}
use Rattle.sub_io.proofs.ReportingLemmas.{Reports-none}
use Rattle.sub_rules.specs.Events.{numbered_packet_events}
use Rattle.sub_packets.specs.Listener.{BreakNoRule, Knows, KnowsLast, frame_has_text_beginning}
use Rattle.sub_packets.specs.Listener.{rule_set}
use Rattle.sub_packets.proofs.KeptLemmas.{or_assoc}
use Rattle.sub_rules.specs.PacketRules.{header_count, packets_of_units}
use Rattle.sub_rules.specs.Events.{packet_fault}
use Rattle.sub_rules.specs.PacketTests.{breaks, packet_rules}
use Rattle.sub_rules.specs.declared.event.Event.TheVariants.{Reported}
use Rattle.sub_packets.proofs.PacketEventLemmas.{clean_packet_keeps_run_clean}
use Rattle.sub_packets.proofs.PacketEventLemmas.{next_packet_events_append}
use Rattle.sub_packets.proofs.KeptLemmas.{beginning-more}
use Rattle.sub_packets.proofs.SkippedRunLemmas.{no_beginning_skipped}
use Rattle.sub_packets.proofs.SkippedRunLemmas.{skipped_run_keeps_header_count}
use Rattle.sub_packets.proofs.SkippedRunLemmas.{skipped_run_changes_nothing}
use Rattle.sub_packets.proofs.SkippedRunLemmas.{skipped_packet_extends_run}
use Rattle.sub_rules.proofs.PacketLists.{header_count-push}
use Rattle.sub_packets.proofs.RepeatedPacketLemmas.{kept_last}
use Rattle.sub_packets.proofs.listener.Listener.hear_each_packet.Goals as goal

pub loop-k-init : goal.loop-k-init
unfolding numbered_packet_events
loop-k-init g c = record {
  same = refl;
  due = refl;
  within = omega arith;
  few = omega arith;
  header = refl;
  first = λ e. cc;
  begun = grind (arith, nat_tests);
  known = λ heard known. (
    subst (λ xs. Knows xs c.args.self.now) (sym (append-nil heard)) known,
    Reports-none c.args.taker.now,
    λ e k l. absurd (omega arith),
  );
}

pub loop-k-preserved-then-can_be_skipped : goal.loop-k-preserved-then-can_be_skipped
loop-k-preserved-then-can_be_skipped g c =
    let w = c.args.self.now.watched in
    let k : ℕ = c.loop-k.k in
    let i = c.loop-k.invariant in
    let units = c.args.units.now in
    let ps = packets_of_units units in
    let next = c.next_examined_packet-k.ensures in
    let long : length ps ≡ length units = length-map units (λ (u : UnitValue). u.packet) in
    let low : k ≤ c.next_examined_packet-k.result = omega (arith, next.from) in
    let high : c.next_examined_packet-k.result ≤ length ps = omega (arith, next.within, long) in
    let passes = skipped_packet_extends_run k c.next_examined_packet-k.result ps c.loop-k.self
    (rw (← c.packet-sent.ensures) (record {
      no_header = c.can_be_skipped.ensures.no_header c.if-can_be_skipped.true;
      skipped = λ heard known. c.can_be_skipped.ensures.skipped heard known
          c.if-can_be_skipped.true;
    })) next.skipped in
    let none =
    skipped_run_keeps_header_count w ps c.loop-k.self i.same k c.next_examined_packet-k.result low
    high passes in
    let skipped_run_adds_no_beginning =
    no_beginning_skipped w ps c.loop-k.self i.same k c.next_examined_packet-k.result low high passes
    in
    record {
      same = i.same;
      due = i.due;
      within = next.within;
      few = omega (arith, i.few, low);
      header = i.header ∙ sym none;
      first = λ e. let b = i.first e in (omega (arith, b.0, low), b.1);
      begun =
          i.begun
          ∙ sym (ap (λ (b : Bool). (nat_lt 0 c.args.from && c.args.self.now.begun) || b)
          skipped_run_adds_no_beginning);
      known = λ heard known.
          let before = i.known heard known in
          let run = skipped_run_changes_nothing w ps c.loop-k.self i.same k
          c.next_examined_packet-k.result low high passes
          c.args.frame c.args.from heard before.0 in (
            run.knows,
            rw run.reported before.1,
            λ e. run.clean (before.2 e),
          );
    }

pub loop-k-preserved : goal.loop-k-preserved
loop-k-preserved g c =
    let w = c.args.self.now.watched in
    let k : ℕ = c.loop-k.k in
    let p : List ℕ = c.packet.result in
    let i = c.loop-k.invariant in
    let units = c.args.units.now in
    let ps = packets_of_units units in
    let at : get_or ps k [] ≡ p = sym (c.packet.ensures ∙ c.packet-sent.ensures) in
    let l : k < length units = search rules in
    let long : length ps ≡ length units = length-map units (λ (u : UnitValue). u.packet) in
    let more : take (k + 1) ps ≡ take k ps ++ p ∷ [] =
    take_more ps k [] (omega (arith, l, long)) ∙ ap (λ x. take k ps ++ x ∷ []) at in
    let one = c.header_count_after-headers.ensures in
    let heard_one = c.judge-heard.ensures in
    let begins_here : c.judge-heard.result.begins ≡ begins_text w.keeps (kind w.page p) =
    heard_one.begins ∙ ap (λ v. begins_text v.keeps (kind v.page p)) i.same in
    let begun_more : c.has_started-begun.result
    ≡ frame_has_text_beginning w c.args.from c.args.self.now.begun (take (k + 1) ps) =
    c.has_started-begun.ensures
    ∙ ap₂ (λ a b. a || b) i.begun begins_here
    ∙ or_assoc (nat_lt 0 c.args.from && c.args.self.now.begun)
    (has_text_beginning w.keeps (kind w.page) (take k ps)) (begins_text w.keeps (kind w.page p))
    ∙ ap (λ (b : Bool). (nat_lt 0 c.args.from && c.args.self.now.begun) || b)
    (sym (beginning-more w (take k ps) p)
    ∙ sym (ap (has_text_beginning w.keeps (kind w.page)) more)) in
    record {
      first = grind arith;
      begun = begun_more;
      same = heard_one.watched ∙ i.same;
      due = heard_one.due ∙ i.due;
      within = omega (arith, l);
      few = search rules;
      header =
          one
          ∙ ap₂ (λ n t. n + cond t 1 0) i.header
          (heard_one.header ∙ ap (λ v. is_this_page (kind v.page p)) i.same)
          ∙ sym (ap (header_count w.page) more ∙ header_count-push w.page (take k ps) p);
      known = λ heard known.
          let before = i.known heard known in
          let reported =
          subst (λ v. Reports g.A.Taker.is_reported c.loop-k.taker c.judge-heard.new.taker
          (map (λ r. Reported (packet_fault r c.args.frame (c.args.from + k)))
          (filter (λ r. breaks r v (heard ++ take k ps) p) packet_rules)))
          i.same (heard_one.reported (heard ++ take k ps) before.0) in
          let new = heard_one.knows (heard ++ take k ps) before.0 in (
            subst (λ xs. Knows xs c.judge-heard.new.self)
                (append_assoc heard (take k ps) (p ∷ []) ∙ ap (λ xs. heard ++ xs) (sym more)) new,
            next_packet_events_append w c.args.frame c.args.from heard ps k p _ _ _ at before.1
                reported,
            λ e.
                let parts : (c.loop-k.is_clean && c.judge-heard.result.is_clean) ≡ true =
                sym c.stays_clean-is_clean.ensures ∙ e in
                let clean =
                subst
                (λ v. rule_set (λ r. breaks r v (heard ++ take k ps) p) packet_rules ≡ 0) i.same
                (heard_one.clean (heard ++ take k ps) before.0 (grind (arith, nat_tests))) in
                clean_packet_keeps_run_clean w c.args.frame c.args.from heard ps k p at
                (before.2 (grind (arith, nat_tests))) clean,
          );
    }

pub returns-clause-knows : goal.returns-clause-knows
returns-clause-knows g c heard known =
    let w = c.args.self.now.watched in
    let i = c.loop-k.invariant in
    let units = c.args.units.now in
    let ps = packets_of_units units in
    let long : length ps ≡ length units = length-map units (λ (u : UnitValue). u.packet) in
    let k : c.loop-k.k ≡ length ps = search (rules, long) in
    let all : take c.loop-k.k ps ≡ ps = take_all c.loop-k.k ps (omega (arith, k)) in
    let r = i.known heard known in
    let knows : Knows (heard ++ ps) c.loop-k.self =
    subst (λ xs. Knows (heard ++ xs) c.loop-k.self) all r.0 in
    let count : c.loop-k.headers ≡ header_count w.page ps =
    i.header ∙ ap (header_count w.page) all in
    let begun : c.loop-k.begun ≡ frame_has_text_beginning w c.args.from c.args.self.now.begun ps =
    i.begun ∙ ap (frame_has_text_beginning w c.args.from c.args.self.now.begun) all in (
      subst (λ m. KnowsLast (heard ++ ps) ps (record c.loop-k.self {
        begun = c.loop-k.begun;
        last = m;
      }))
          (sym c.clean_header_count-self.ensures)
          (kept_last w heard ps c.loop-k.headers c.args.from c.args.self.now.begun c.loop-k.begun
          c.loop-k.first c.loop-k.is_clean c.loop-k.self i.same knows count
          (λ e. let b = i.first e in (omega (arith, b.0, k), b.1))
          (λ e. subst (BreakNoRule w heard ps) k (r.2 e)) begun),
      count,
      begun,
      subst
          (λ n. Reports g.A.Taker.is_reported c.args.taker.now c.loop-k.taker
          (numbered_packet_events w c.args.frame c.args.from heard ps n)) k r.1,
    )
