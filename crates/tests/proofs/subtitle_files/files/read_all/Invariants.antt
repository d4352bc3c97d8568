-- Loop invariant of `read_all`: the source has not failed.
use Rattle.std.proofs.Common.{◌≡◌}
use Rattle.tests.proofs.subtitle_files.files.read_all.Given as goal

abbrev pub invariant-loop-count : goal.invariant-loop-count
invariant-loop-count g l =
    g.S.Source.failure_count l.source ≡ g.S.Source.failure_count l.initial.source
