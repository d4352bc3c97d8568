use Rattle.std.proofs.Common.{◌∙◌, ◌+◌, ◌-◌, ℕ, nat_lt, true, ap, refl, sym, subst, arith}
use Rattle.std.proofs.lemmas.List.{length-map}
use Rattle.sub_rules.specs.FrameRules.{Criteria, packets_before}
use Rattle.sub_rules.specs.PacketRules.{header_count, packets_of_units}
use Rattle.sub_rules.proofs.PacketLists.{holds-count}
use Rattle.ttx_page.specs.PacketKind.{kind}
use Rattle.ttx_page.specs.Span.{has_page_header}
use Rattle.sub_checker.specs.Checker.{CheckerValue}
use Rattle.sub_checker.specs.CheckedFrames.{AfterEnd}
use Rattle.sub_checker.specs.declared.counts.Counts.{Counts}
use Rattle.sub_checker.proofs.AfterPacketsLemmas.{packets_are}
use Rattle.sub_checker.proofs.ReporterLemmas.{equal_steps_are_relayed, appended_steps_are_relayed}
use Rattle.sub_checker.proofs.BetweenPesPacketsLemmas.{BetweenPesPackets-closed, arrived}
use Rattle.sub_checker.proofs.BetweenPesPacketsLemmas.{both_delays_are_zero}
use Rattle.sub_checker.proofs.BetweenPesPacketsLemmas.{undelayed_frame_steps, next_heard}
use Rattle.sub_checker.proofs.BetweenPesPacketsLemmas.{new_frame_stays_open}
use Rattle.sub_checker.proofs.BetweenPesPacketsLemmas.{delayed_frame_steps}
use Rattle.sub_checker.proofs.BetweenPesPacketsLemmas.{within_is_positive}
use Rattle.sub_checker.proofs.checker.Checker.check_first_of_frame.Goals as goal

pub returns-then-self-eq0-clause-reported : goal.returns-then-self-eq0-clause-reported
returns-then-self-eq0-clause-reported g c = λ criteria frames n last follows long sent again.
    let ps = packets_of_units c.args.units.now in
    let reached = c.reach.ensures.reported criteria frames n last follows sent.frame_eq in
    let arrives = reached.1 in
    let heard =
    c.hear-headers.ensures.reported (packets_before frames n) last arrives.has_pending.known.knows
    again in
    let steps = packets_are criteria frames n last ps _ arrives sent.packets_are in
    let view = c.self.view_is in
    let each =
    both_delays_are_zero criteria frames n last ps c.reach.new.self c.hear-headers.new.self arrives
    sent.there
    sent.packets_are heard.1 (sym (ap (λ (v : CheckerValue). v.within) view)
    ∙ c.if-self-eq0.true) in
    let there =
    next_heard criteria frames n last ps c.reach.new.self c.hear-headers.new.self arrives sent.there
    sent.packets_are heard.1 _
    (ap (λ (v : CheckerValue). record v {
      counts = record v.counts { frames = v.counts.frames + 1 };
    }) view) in
    let end =
    c.end_sent_frame.ensures.reported criteria frames n ps there sent.there
    (ap (nat_lt 0) heard.2
    ∙ ap (λ (t : Criteria). nat_lt 0 (header_count t.watched.page ps))
    (sym arrives.has_pending.known.criteria_are)
    ∙ sym (holds-count criteria.watched.page ps)
    ∙ ap (has_page_header (kind criteria.watched.page)) (sym sent.packets_are)) in
    let shut =
    ap (λ (m : Counts). m.is_open) c.end_sent_frame.ensures.counts
    ∙ ap (λ (v : CheckerValue). v.counts.is_open) view
    ∙ ap (λ (v : CheckerValue). v.counts.is_open) heard.1.new_eq
    ∙ ap (λ (m : Counts). m.is_open) c.reach.ensures.counts
    ∙ c.requires.closed in (
      appended_steps_are_relayed (undelayed_frame_steps criteria frames n each)
          (appended_steps_are_relayed refl
          (arrived criteria frames n last _ arrives reached.0 c.begin_frame.ensures.begun)
          (equal_steps_are_relayed steps heard.0))
          end.0,
      BetweenPesPackets-closed criteria frames ps c.end_sent_frame.new.self shut each
          (subst (λ (k : ℕ). AfterEnd criteria frames k ps c.end_sent_frame.new.self) (sym long)
          end.1),
    )

pub returns-clause-reported : goal.returns-clause-reported
returns-clause-reported g c = λ criteria frames n last follows long sent again.
    let ps = packets_of_units c.args.units.now in
    let reached = c.reach.ensures.reported criteria frames n last follows sent.frame_eq in
    let arrives = reached.1 in
    let heard =
    c.hear-headers.ensures.reported (packets_before frames n) last arrives.has_pending.known.knows
    again in
    let steps = packets_are criteria frames n last ps _ arrives sent.packets_are in
    let view = c.self.view_is in
    let not_each = c.if-self-eq0.false in
    let within =
    within_is_positive criteria frames n last ps c.reach.new.self c.hear-headers.new.self arrives
    sent.there
    sent.packets_are heard.1
    (λ e. not_each (ap (λ (v : CheckerValue). v.within) view ∙ e)) in
    let before = c.self.inside.counts.headers - c.hear-headers.result in
    let grown =
    ap (λ (v : CheckerValue). v.counts.headers) view
    ∙ ap (λ (m : Counts). m.headers) c.hear-headers.ensures.counts.1 in
    let criteria_within = ap (λ (t : Criteria). t.within) arrives.has_pending.known.criteria_are
    in (
      appended_steps_are_relayed
          (delayed_frame_steps criteria frames n (omega (arith, criteria_within, within)))
          (arrived criteria frames n last _ arrives reached.0 c.begin_frame.ensures.begun)
          (equal_steps_are_relayed steps heard.0),
      new_frame_stays_open criteria frames n last ps c.reach.new.self c.hear-headers.new.self
          arrives
          sent.there
          sent.packets_are heard.1 _ before c.len.result within long
          (ap (λ (v : CheckerValue). record v { counts = c.leave_open.new.self }) view
          ∙ ap (λ (m : Counts). record c.hear-headers.new.self { counts = m })
          (c.leave_open.ensures ∙ ap (λ (v : CheckerValue). record v.counts {
            frames = v.counts.frames + 1;
            headers_before = before;
            packets = c.len.result;
            is_open = true;
          }) view))
          (omega (arith, grown)) (c.len.ensures.value ∙ sym (length-map _ _)),
    )
