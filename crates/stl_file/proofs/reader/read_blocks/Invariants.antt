-- Loop invariant of `read_blocks`: the blocks read so far determine the results, and more blocks
-- may follow.
use Rattle.std.proofs.Common.{◌≡◌, ◌≤◌, ◌-◌}
use Rattle.std.specs.Prelude.{option_map}
use Rattle.stl_file.specs.Reading.{StartedSubtitleFits, current_subtitle, skipped_subtitle_from}
use Rattle.stl_file.specs.Tti.{max_blocks}
use Rattle.stl_file.proofs.ReadBlocksLemmas.{HasRead}
use Rattle.stl_file.proofs.reader.read_blocks.Given as goal

abbrev pub invariant-loop-read_count : goal.invariant-loop-read_count
invariant-loop-read_count g l = record {
  fits : StartedSubtitleFits (current_subtitle l.subtitle l.read);
  taken : HasRead l.scope l.initial.block (option_map skipped_subtitle_from l.initial.refused)
      (g.S.Source.remaining l.initial.source) (g.S.Source.remaining l.source) l.block
      (current_subtitle l.subtitle l.read);
  few : l.block ≤ max_blocks;
  count : g.S.Source.failure_count l.source ≡ g.S.Source.failure_count l.initial.source;
}

abbrev pub decreases-loop-read_count : goal.decreases-loop-read_count
decreases-loop-read_count g l = max_blocks - l.block
