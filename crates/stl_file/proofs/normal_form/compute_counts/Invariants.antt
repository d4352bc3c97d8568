-- Loop invariant of `compute_counts`: the counts so far plus the counts of the remaining subtitles
-- are the counts of all subtitles.
use Rattle.std.proofs.Common.{◌≡◌, ◌≤◌, ◌-◌}
use Rattle.stl_file.specs.NormalCounts.{normal_counts}
use Rattle.stl_file.specs.NormalForm.{subtitles_of}
use Rattle.stl_file.specs.Reader.{outcome_from, remaining_outcome}
use Rattle.stl_file.specs.Tti.{max_blocks}
use Rattle.stl_file.specs.declared.progress.Progress.TheVariants.{Reading}
use Rattle.stl_file.proofs.NormalCountsLemmas.{counts_added_to}
use Rattle.stl_file.proofs.normal_form.compute_counts.Given as goal

abbrev pub invariant-subtitles : goal.invariant-subtitles
invariant-subtitles l = record {
  whole : normal_counts (subtitles_of (outcome_from 0 l.body))
      ≡ counts_added_to l.counts
      (normal_counts (subtitles_of (remaining_outcome l.reader l.source)));
  reading : l.reader.progress ≡ Reading;
  few : l.reader.block ≤ max_blocks;
  blocks : l.counts.tnb ≤ l.reader.block;
  subtitles : l.counts.tns ≤ l.reader.block;
}

abbrev pub decreases-subtitles : goal.decreases-subtitles
decreases-subtitles l = max_blocks - l.reader.block
