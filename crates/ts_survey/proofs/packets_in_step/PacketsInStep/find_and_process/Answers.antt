-- `find_and_process` finds the packets and the skipped bytes between them one after another, each
-- once and in order.
use Rattle.std.proofs.Common.{◌≡◌, ◌≤◌, ◌∙◌, ap, arith, drop, length-drop, rules}
use Rattle.mpeg_ts.specs.PacketSize.{bytes_of}
use Rattle.ts_survey.proofs.InStepLemmas.{found_none, found_packet, found_skips}
use Rattle.ts_survey.proofs.InStepLemmas.{short_bytes_have_no_items}
use Rattle.ts_survey.proofs.InStepLemmas.{packet_size_at_least_188}
use Rattle.ts_survey.proofs.packets_in_step.PacketsInStep.find_and_process.Goals.{in-Yes, in-No}
use Rattle.ts_survey.specs.declared.packets_in_step.PacketsInStep.{PacketsInStep}
use Rattle.ts_survey.proofs.packets_in_step.PacketsInStep.find_and_process.Goals as goal

pub loop-init : goal.loop-init
loop-init g c = record {
  found =
      found_none _ c.args.self.now _ c.args.bytes.now c.args.is_end (search rules) (search rules);
  far = omega arith;
}

pub returns-in_default-clause-all : goal.returns-in_default-clause-all
returns-in_default-clause-all g c is_end =
    short_bytes_have_no_items _ _ (drop c.loop.at c.args.bytes.now) (search (rules, length-drop))

pub loop-preserved : goal.loop-preserved
loop-preserved g c =
    let is_long_enough = c.in-Some.ensures.some.0 in
    elim c.match-begins.branch [
      | in-Yes w ↦
          let same = w.take_packet.ensures.same in
          let bytes : w.distance-at.result ≡ bytes_of c.loop.self.size =
          w.distance-at.ensures.is ∙ ap bytes_of (ap (λ (s : PacketsInStep). s.size) same) in
          let near : 188 ≤ bytes_of c.loop.self.size = packet_size_at_least_188 c.loop.self.size in
          record {
            found =
                rw (w.self-is, w.to-is, w.at-is, bytes)
                (found_packet _ c.args.self.now c.loop.self w.take_packet.new.self _ _ _
                c.args.bytes.now c.in-Some.packet.now c.args.is_end c.loop.at c.loop.invariant.found
                is_long_enough near (search rules) c.in-Some.ensures.some.1
                (c.begins.ensures.yes w.in-Yes.is) same w.take_packet.ensures.taken);
            far = omega (arith, w.at-is, bytes, near, c.loop.invariant.far);
          }
      | in-No w ↦
          record {
            found =
                rw (w.self-is, w.to-is, w.at-is)
                (found_skips _ c.args.self.now c.loop.self w.skip-at.new.self _ _ _ c.args.bytes.now
                c.args.is_end c.loop.at w.skip-at.result c.loop.invariant.found is_long_enough
                (packet_size_at_least_188 c.loop.self.size)
                (search rules) (search rules) (c.begins.ensures.no w.in-No.is)
                w.skip-at.ensures.from w.skip-at.ensures.skips w.skip-at.ensures.same
                w.skip-at.ensures.reported);
            far = omega (arith, w.at-is, w.skip-at.ensures.from, c.loop.invariant.far);
          }
    ]

pub returns-clause-all : goal.returns-clause-all
returns-clause-all g c is_end =
    short_bytes_have_no_items _ _ (drop c.loop.at c.args.bytes.now)
    (let size = length-drop c.loop.at c.args.bytes.now in
    let far = c.loop.invariant.far in
    omega (arith, size, far, c.loop-test.false))
