-- Loop invariant of `write_subtitles`: writing the remaining subtitles completes the blocks of all
-- subtitles.
use Rattle.std.proofs.Common.{◌≡◌, ◌≤◌, ◌-◌, List, ℕ, Option, Result, true, is_ok}
use Rattle.std.specs.List.{concat}
use Rattle.sub_io.specs.Device.{Writes}
use Rattle.sub_io.specs.declared.source.Failed.{Failed}
use Rattle.stl_file.specs.NormalCounts.{accepted_subtitles}
use Rattle.stl_file.specs.NormalForm.{blocks_of_subtitles, subtitles_of}
use Rattle.stl_file.specs.Reader.{outcome_from, remaining_outcome}
use Rattle.stl_file.specs.Tti.{max_blocks}
use Rattle.stl_file.specs.declared.progress.Progress.TheVariants.{Reading}
use Rattle.stl_file.proofs.normal_form.write_subtitles.Given as goal

abbrev pub invariant-subtitles : goal.invariant-subtitles
invariant-subtitles g l = record {
  accepted : is_ok (subtitles_of (remaining_outcome l.reader l.source)) ≡ true;
  reading : l.reader.progress ≡ Reading;
  few : l.reader.block ≤ max_blocks;
  wrote : (new : Option (List ℕ)) (result : Result (Unit {0}) Failed)
      → Writes (g.K.Sink.contents l.sink) new
      (concat (blocks_of_subtitles
      (accepted_subtitles (subtitles_of (remaining_outcome l.reader l.source))))) result
      → Writes (g.K.Sink.contents l.initial.sink) new
      (concat (blocks_of_subtitles (accepted_subtitles (subtitles_of (outcome_from 0 l.body)))))
      result;
  count : g.K.Sink.failure_count l.sink ≡ g.K.Sink.failure_count l.initial.sink;
}

abbrev pub decreases-subtitles : goal.decreases-subtitles
decreases-subtitles g l = max_blocks - l.reader.block
