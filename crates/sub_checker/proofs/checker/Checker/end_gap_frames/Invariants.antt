-- The steps of all frame ends so far were reported, and the checker's state agrees with them.
use Rattle.std.proofs.Common.{◌≡◌, ℕ, ◌+◌, ◌-◌, ◌<◌, ◌≤◌, List}
use Rattle.sub_rules.specs.Events.{latest_frame}
use Rattle.sub_rules.specs.PesPacketEvents.{steps_of_gap}
use Rattle.sub_checker.specs.CheckedFrames.{AfterEnd, BeforeEnd}
use Rattle.sub_checker.specs.Relay.{ReporterRelays}
use Rattle.sub_rules.specs.FrameRules.{Criteria, frame_at}
use Rattle.sub_rules.specs.Transmission.{Transmission}
use Rattle.sub_checker.proofs.checker.Checker.end_gap_frames.Given as goal

abbrev pub invariant-loop-f : goal.invariant-loop-f
invariant-loop-f g l = record {
  counts : l.self.counts ≡ l.fn.self.counts;
  latest_is : l.self.latest_frame ≡ l.fn.self.latest_frame;
  later : l.fn.self.latest_frame < l.f;
  at_most_to : l.fn.self.latest_frame + 1 < l.f → l.f ≤ l.to;
  reported :
      (criteria : Criteria) (frames : Transmission) (n : ℕ) (last : List (List ℕ))
      → AfterEnd criteria frames n last l.fn.self
      → 0 < n
      → frame_at frames n ≡ l.to
      → ReporterRelays g.A.ReportSink.is_reported l.fn.reporter
      (steps_of_gap criteria frames n (l.f - (latest_frame frames n + 1))) l.reporter
      × BeforeEnd criteria frames n l.f last l.self;
}
