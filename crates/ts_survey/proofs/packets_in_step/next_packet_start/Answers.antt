-- Each byte that `next_packet_start` skips belongs to no packet.
use Rattle.std.proofs.Common.{◌≤◌, ◌+◌, length, rules}
use Rattle.ts_survey.proofs.InStepLemmas.{skipping_adds_skipped_items}
use Rattle.ts_survey.proofs.packets_in_step.next_packet_start.Goals as goal

pub loop-start-preserved : goal.loop-start-preserved
loop-start-preserved c more =
    let from : c.args.place ≤ c.loop-start.start = search rules in
    let is_long_enough : c.loop-start.start + 188 ≤ length c.args.bytes.now = search rules in
    skipping_adds_skipped_items c.args.distance c.args.place c.loop-start.start c.args.bytes.now
    more
    c.requires.near from is_long_enough
    (c.may_begin_packet.ensures c.if-may_begin_packet.false more) (c.loop-start.invariant more)
