-- The definition of trusted frames gives exactly the frames that each example states, by
-- computation.
use Rattle.std.proofs.Common.{refl}
use Rattle.sub_rules.specs.Trusted.{with_pes_number, back_frame_of, invalidated_by}
use Rattle.sub_rules.specs.Trusted.{last_packet_frame, late_run_start}
use Rattle.sub_rules.specs.Trusted.{current_pes}
use Rattle.sub_rules.specs.Trusted.{run_of}
use Rattle.sub_rules.specs.Trusted.{first_unfinished_of, stays_fault_free, reports_order_fault}
use Rattle.sub_rules.specs.Trusted.{events_reported_after, events_reported_at_step}
use Rattle.sub_rules.specs.Trusted.{first_finished_of}
use Rattle.sub_examples.specs.TrustedExamples.{ExamplesOfTrustedFrames}

pub examples_of_trusted_frames : ExamplesOfTrustedFrames
unfolding events_reported_after events_reported_at_step first_finished_of run_of stays_fault_free
    invalidated_by
    reports_order_fault first_unfinished_of late_run_start
    back_frame_of last_packet_frame current_pes with_pes_number
examples_of_trusted_frames = record {
  nothing = refl;
  gap = refl;
  order = refl;
  parity = refl;
  mode = refl;
  content = refl;
  skipped = refl;
  left = refl;
  late = refl;
}
